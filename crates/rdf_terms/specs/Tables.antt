-- What the tables of the code say. Their texts are bytes.
use Rattle.std.specs.Prelude.{◌≡◌, ◌&&◌, ℕ, Bool, List, Contains, codes, map, nat_eq}
use Rattle.std.specs.List.{list_all, list_any, starts_with}
use Rattle.std.specs.Str.{bytes_eq}
use denote.Ref.{Bor}
use Rattle.owl_characters.specs.Iri.{is_ascii, is_iri_character}
use Rattle.rdf_terms.specs.declared.datatypes.DatatypeRow.{DatatypeRow}
use Rattle.rdf_terms.specs.declared.lexical.IntegerRow.{IntegerRow}
use Rattle.rdf_terms.specs.Datatypes.{IntegerRow as Range, IsIntegerForm}

-- the texts of the names
abbrev pub shown : List (Bor (List ℕ)) → List (List ℕ)
shown names = map (λ name. name.now) names

-- each number in them is that of a character of ASCII
abbrev pub are_ascii : List (Bor (List ℕ)) → Bool
are_ascii names = list_all (λ name. list_all is_ascii name.now) names

-- the text is one of the names
unfoldable pub is_name : List (Bor (List ℕ)) → List ℕ → Bool
is_name names text = list_any (λ name. bytes_eq name.now text) names

-- the text begins with one of the names
unfoldable pub begins_with_name : List (Bor (List ℕ)) → List ℕ → Bool
begins_with_name names text = list_any (λ name. starts_with nat_eq text name.now) names

-- a row has the datatype
unfoldable pub has_datatype : List DatatypeRow → List ℕ → Bool
has_datatype rows datatype = list_any (λ row. is_name row.datatypes.now datatype) rows

-- a row has the datatype and the facet
unfoldable pub has_facet : List DatatypeRow → List ℕ → List ℕ → Bool
has_facet rows datatype facet = list_any (λ row. is_name row.datatypes.now datatype && is_name row.facets.now facet) rows

-- the range of a row
abbrev pub range : IntegerRow → Range
range row = record { datatype = row.datatype.now; least = row.least; greatest = row.greatest }

-- the form is one of each row with the datatype
pub record FitsRows (rows : List IntegerRow) (datatype form : List ℕ) : Type 0 where
  pub fits : (row : IntegerRow) → Contains rows row → row.datatype.now ≡ datatype → IsIntegerForm (range row) form

-- an IRI of HTTP in ASCII
abbrev pub is_ascii_iri : List ℕ → Bool
is_ascii_iri text = starts_with nat_eq text (codes "http:") && (list_all is_ascii text && list_all is_iri_character text)
