-- The rows of the code say what the datatype map says.
use Rattle.std.proofs.Common.{◌≡◌, ℕ, Bool, true, ◌&&◌, List, ap, ◌∙◌, map}
use Rattle.std.specs.List.{list_all, list_any}
use Rattle.std.specs.Str.{encode_utf8_all}
use Rattle.std.proofs.lemmas.Bool.{and_parts}
use Rattle.rdf_terms.specs.declared.datatypes.DatatypeRow.{DatatypeRow as RowOfNames}
use Rattle.rdf_terms.specs.Datatypes.{DatatypeRow, has}
use Rattle.rdf_terms.specs.Tables.{are_ascii, shown, has_datatype, has_facet, is_name}
use Rattle.rdf_terms.proofs.TableLaws.{any_same, is_name-ascii}

abbrev pub shown_row : RowOfNames → DatatypeRow
shown_row row = record { datatypes = shown row.datatypes.now; facets = shown row.facets.now }

abbrev pub is_ascii_row : RowOfNames → Bool
is_ascii_row row = are_ascii row.datatypes.now && are_ascii row.facets.now

pub in_rows : (result : Bool) (rows : List RowOfNames) (text cs : List ℕ) → result ≡ has_datatype rows text → text ≡ encode_utf8_all cs → list_all is_ascii_row rows ≡ true → result ≡ list_any (λ row. has row.datatypes cs) (map shown_row rows)
unfolding has_datatype
in_rows result rows text cs e t h =
    e
    ∙ ap (has_datatype rows) t
    ∙ any_same is_ascii_row _ (λ row. has row.datatypes cs) shown_row (λ row p. is_name-ascii row.datatypes.now cs (and_parts _ _ p).0) rows h

pub facet_in_rows : (result : Bool) (rows : List RowOfNames) (text cs facet ds : List ℕ) → result ≡ has_facet rows text facet → text ≡ encode_utf8_all cs → facet ≡ encode_utf8_all ds → list_all is_ascii_row rows ≡ true → result ≡ list_any (λ row. has row.datatypes cs && has row.facets ds) (map shown_row rows)
unfolding has_facet
facet_in_rows result rows text cs facet ds e t u h =
    e
    ∙ ap (λ x. has_facet rows x facet) t
    ∙ ap (has_facet rows (encode_utf8_all cs)) u
    ∙ any_same is_ascii_row _ (λ row. has row.datatypes cs && has row.facets ds) shown_row
    (λ row p.
    let both = and_parts (are_ascii row.datatypes.now) (are_ascii row.facets.now) p in
    ap (λ b. b && is_name row.facets.now (encode_utf8_all ds)) (is_name-ascii row.datatypes.now cs both.0)
    ∙ ap (λ b. has (shown row.datatypes.now) cs && b) (is_name-ascii row.facets.now ds both.1))
    rows h
