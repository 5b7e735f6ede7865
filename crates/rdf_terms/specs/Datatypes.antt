-- The datatype map with its facets, and the lexical forms that are checked (Structural Specification, section 4, and
-- XML Schema Part 2).
use Rattle.std.specs.Prelude.{◌≡◌, ◌⊎◌, ℕ, ◌-◌, ◌^◌, ℤ, pos, neg_ℤ, ◌≤ℤ◌, Bool, true, ◌&&◌, List, [], ◌∷◌, ◌++◌, Option, None, Some, codes, map, IfSome, Contains}
use Rattle.std.specs.Char.{is_ascii_digit}
use Rattle.std.specs.List.{list_any}
use Rattle.std.specs.Str.Parse.{digits_value}
use Rattle.owl_characters.specs.Iri.{AllAre}
use Rattle.owl_characters.specs.Names.{IsRunOf}
use Rattle.owl_characters.specs.Order.{text_eq}
use Rattle.rdf_terms.specs.Vocabulary.{rdf, xsd, owl}

-- Datatypes, and the facets that each of them has.
pub record DatatypeRow : Type 0 where
  pub datatypes : List (List ℕ)
  pub facets : List (List ℕ)

abbrev pub has : List (List ℕ) → List ℕ → Bool
has texts text = list_any (λ other. text_eq other text) texts

-- numbers and times
unfoldable pub ordered_row : DatatypeRow
ordered_row = record {
  datatypes =
      owl (codes "real") ∷ owl (codes "rational")
      ∷ map xsd (codes "decimal" ∷ codes "integer" ∷ codes "nonNegativeInteger" ∷ codes "nonPositiveInteger"
      ∷ codes "positiveInteger" ∷ codes "negativeInteger" ∷ codes "long" ∷ codes "int" ∷ codes "short" ∷ codes "byte"
      ∷ codes "unsignedLong" ∷ codes "unsignedInt" ∷ codes "unsignedShort" ∷ codes "unsignedByte" ∷ codes "double"
      ∷ codes "float" ∷ codes "dateTime" ∷ codes "dateTimeStamp" ∷ []);
  facets = map xsd (codes "minInclusive" ∷ codes "maxInclusive" ∷ codes "minExclusive" ∷ codes "maxExclusive" ∷ []);
}

unfoldable pub text_facets : List (List ℕ)
text_facets = map xsd (codes "length" ∷ codes "minLength" ∷ codes "maxLength" ∷ codes "pattern" ∷ [])

unfoldable pub text_row : DatatypeRow
text_row = record {
  datatypes =
      map xsd (codes "string" ∷ codes "normalizedString" ∷ codes "token" ∷ codes "language" ∷ codes "Name" ∷ codes "NCName"
      ∷ codes "NMTOKEN" ∷ codes "anyURI" ∷ []);
  facets = text_facets;
}

unfoldable pub plain_row : DatatypeRow
plain_row = record { datatypes = rdf (codes "PlainLiteral") ∷ []; facets = rdf (codes "langRange") ∷ text_facets }

unfoldable pub binary_row : DatatypeRow
binary_row = record {
  datatypes = map xsd (codes "hexBinary" ∷ codes "base64Binary" ∷ []);
  facets = map xsd (codes "length" ∷ codes "minLength" ∷ codes "maxLength" ∷ []);
}

unfoldable pub bare_row : DatatypeRow
bare_row = record { datatypes = xsd (codes "boolean") ∷ rdf (codes "XMLLiteral") ∷ []; facets = [] }

unfoldable pub datatype_map : List DatatypeRow
datatype_map = ordered_row ∷ text_row ∷ plain_row ∷ binary_row ∷ bare_row ∷ []

unfoldable pub is_in_map : List ℕ → Bool
is_in_map datatype = list_any (λ row. has row.datatypes datatype) datatype_map

-- the datatype has the facet
unfoldable pub allows_facet : List ℕ → List ℕ → Bool
allows_facet datatype facet = list_any (λ row. has row.datatypes datatype && has row.facets facet) datatype_map

-- An integer datatype, and the least and the greatest number, where there are any.
pub record IntegerRow : Type 0 where
  pub datatype : List ℕ
  pub least : Option ℤ
  pub greatest : Option ℤ

-- so many bits with a sign, and without one
abbrev pub signed : List ℕ → ℕ → IntegerRow
signed datatype bits = record { datatype = datatype; least = Some (neg_ℤ (pos (2 ^ (bits - 1)))); greatest = Some (pos (2 ^ (bits - 1) - 1)) }

abbrev pub unsigned : List ℕ → ℕ → IntegerRow
unsigned datatype bits = record { datatype = datatype; least = Some (pos 0); greatest = Some (pos (2 ^ bits - 1)) }

abbrev pub bounded : List ℕ → Option ℤ → Option ℤ → IntegerRow
bounded datatype least greatest = record { datatype = datatype; least = least; greatest = greatest }

unfoldable pub integer_rows : List IntegerRow
integer_rows =
    bounded (xsd (codes "integer")) None None
    ∷ bounded (xsd (codes "nonNegativeInteger")) (Some (pos 0)) None
    ∷ bounded (xsd (codes "nonPositiveInteger")) None (Some (pos 0))
    ∷ bounded (xsd (codes "positiveInteger")) (Some (pos 1)) None
    ∷ bounded (xsd (codes "negativeInteger")) None (Some (neg_ℤ (pos 1)))
    ∷ signed (xsd (codes "long")) 64 ∷ signed (xsd (codes "int")) 32 ∷ signed (xsd (codes "short")) 16 ∷ signed (xsd (codes "byte")) 8
    ∷ unsigned (xsd (codes "unsignedLong")) 64 ∷ unsigned (xsd (codes "unsignedInt")) 32 ∷ unsigned (xsd (codes "unsignedShort")) 16
    ∷ unsigned (xsd (codes "unsignedByte")) 8
    ∷ []

-- a sign, or none, and one or more digits
pub record SpellsInteger (form : List ℕ) (number : ℤ) : Type 0 where
  pub digits : List ℕ
  pub run : IsRunOf is_ascii_digit digits
  pub spelled :
      ((form ≡ digits) × (number ≡ pos (digits_value 10 digits)))
      ⊎ (((form ≡ codes "+" ++ digits) × (number ≡ pos (digits_value 10 digits)))
      ⊎ ((form ≡ codes "-" ++ digits) × (number ≡ neg_ℤ (pos (digits_value 10 digits)))))

-- a form of an integer in the range of the row
pub record IsIntegerForm (row : IntegerRow) (form : List ℕ) : Type 0 where
  pub number : ℤ
  pub spells : SpellsInteger form number
  pub least : IfSome row.least (λ least. least ≤ℤ number)
  pub greatest : IfSome row.greatest (λ greatest. number ≤ℤ greatest)

-- digits with at most one point among them: one or more before it, or one or more behind it
pub data UnsignedDecimal (form : List ℕ) : Type 0 where
  whole : IsRunOf is_ascii_digit form → UnsignedDecimal form
  pointed : (before after : List ℕ) → IsRunOf is_ascii_digit before → AllAre is_ascii_digit after → form ≡ before ++ (codes "." ++ after) → UnsignedDecimal form
  fraction : (after : List ℕ) → IsRunOf is_ascii_digit after → form ≡ codes "." ++ after → UnsignedDecimal form

-- a sign, or none, and such digits
pub record IsDecimalForm (form : List ℕ) : Type 0 where
  pub sign : List ℕ
  pub rest : List ℕ
  pub parts : form ≡ sign ++ rest
  pub signed_so : (sign ≡ []) ⊎ ((sign ≡ codes "+") ⊎ (sign ≡ codes "-"))
  pub number : UnsignedDecimal rest

abbrev pub boolean_forms : List (List ℕ)
boolean_forms = codes "true" ∷ codes "false" ∷ codes "1" ∷ codes "0" ∷ []

-- The lexical forms of boolean, decimal and the integer datatypes. Every form of another datatype is taken.
pub record IsLexicalForm (datatype form : List ℕ) : Type 0 where
  pub boolean : datatype ≡ xsd (codes "boolean") → has boolean_forms form ≡ true
  pub decimal : datatype ≡ xsd (codes "decimal") → IsDecimalForm form
  pub integer : (row : IntegerRow) → Contains integer_rows row → datatype ≡ row.datatype → IsIntegerForm row form
