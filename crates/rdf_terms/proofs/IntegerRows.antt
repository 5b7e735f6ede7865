-- The rows of the code are those of the integer datatypes.
use Rattle.std.proofs.Common.{◌≡◌, ℕ, Bool, true, List, [], ◌∷◌, ◌<◌, length, get_or, sym, ap, ◌∙◌, subst, map, arith}
use Rattle.std.specs.Prelude.{Contains}
use Rattle.std.specs.List.{list_all}
use Rattle.std.specs.Str.{encode_utf8_all}
use Rattle.std.proofs.lemmas.List.{get_or-map, length-map}
use Rattle.std.proofs.lemmas.List.Elements.{All-contains, Contains-get_or}
use Rattle.std.proofs.lemmas.List.Sums.{AllPass-from_list_all}
use Rattle.owl_characters.specs.Iri.{is_ascii}
use Rattle.owl_characters.proofs.AsciiLaws.{from_bytes, from_characters}
use Rattle.rdf_terms.specs.declared.lexical.IntegerRow.{IntegerRow as RowOfName}
use Rattle.rdf_terms.specs.Datatypes.{IntegerRow, IsIntegerForm}
use Rattle.rdf_terms.specs.Tables.{FitsRows, range}

abbrev pub is_ascii_row : RowOfName → Bool
is_ascii_row row = list_all is_ascii row.datatype.now

-- the form is one of each integer datatype that has the name
abbrev pub FitsRanges : List IntegerRow → List ℕ → List ℕ → Type 0
FitsRanges rows datatype form = (row : IntegerRow) → Contains rows row → datatype ≡ row.datatype → IsIntegerForm row form

Contains-map : (f : RowOfName → IntegerRow) (rows : List RowOfName) (row : RowOfName) → Contains rows row → Contains (map f rows) (f row)
Contains-map f rows row k = (k.0, omega (arith, length-map rows f, k.1), get_or-map f rows k.0 row (f row) k.1 ∙ ap f k.2)

Contains-from_map : (f : RowOfName → IntegerRow) (rows : List RowOfName) (row : IntegerRow) → Contains (map f rows) row → (from : RowOfName) × Contains rows from × (f from ≡ row)
Contains-from_map f [] row k = absurd (omega (arith, k.1))
Contains-from_map f (first ∷ rows) row k =
    let within : k.0 < length (first ∷ rows) = omega (arith, length-map (first ∷ rows) f, k.1) in (
      get_or (first ∷ rows) k.0 first,
      Contains-get_or (first ∷ rows) k.0 first within,
      sym (get_or-map f (first ∷ rows) k.0 first row within) ∙ k.2,
    )

plain_at : (rows : List RowOfName) (row : RowOfName) → list_all is_ascii_row rows ≡ true → Contains rows row → is_ascii_row row ≡ true
plain_at rows row h k = All-contains (λ x. is_ascii_row x ≡ true) rows row (AllPass-from_list_all is_ascii_row rows h) k

pub fit_ranges : (rows : List RowOfName) (datatype form : List ℕ) → list_all is_ascii_row rows ≡ true → FitsRows rows (encode_utf8_all datatype) form → FitsRanges (map range rows) datatype form
fit_ranges rows datatype form plain h row k e =
    let from = Contains-from_map range rows row k in
    let name : datatype ≡ from.0.datatype.now = e ∙ ap (λ (x : IntegerRow). x.datatype) (sym from.2) in
    subst (λ x. IsIntegerForm x form) from.2 (h.fits from.0 from.1 (from_characters from.0.datatype.now datatype (plain_at rows from.0 plain from.1) name))

pub fit_rows : (rows : List RowOfName) (datatype form : List ℕ) → list_all is_ascii_row rows ≡ true → FitsRanges (map range rows) datatype form → FitsRows rows (encode_utf8_all datatype) form
fit_rows rows datatype form plain h = record {
  fits = λ row k e. h (range row) (Contains-map range rows row k) (from_bytes row.datatype.now datatype (plain_at rows row plain k) e);
}
