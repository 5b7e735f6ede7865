-- Literals (Structural Specification, section 5.7, and rdf:PlainLiteral, section 3).
use Rattle.std.specs.Prelude.{◌≡◌, ◌≢◌, ◌⊎◌, ℕ, Bool, List, [], ◌∷◌, ◌++◌, Option, None, Some, codes}
use Rattle.std.specs.declared.cmp.Ordering.{Ordering}
use Rattle.std.specs.Option.{option_cmp, option_eq}
use Rattle.std.specs.Ordering.{eq_of_both, on, then_cmp}
use Rattle.owl_characters.specs.Iri.{IsIri}
use Rattle.owl_characters.specs.Names.{IsLanguageTag}
use Rattle.owl_characters.specs.Order.{text_cmp, text_eq}
use Rattle.rdf_terms.specs.Vocabulary.{rdf, xsd}

-- what is shown of a literal
pub record LiteralParts : Type 0 where
  pub lexical : List ℕ
  pub datatype : List ℕ
  pub tag : Option (List ℕ)

abbrev pub plain_literal : List ℕ
plain_literal = rdf (codes "PlainLiteral")

abbrev pub lang_string : List ℕ
lang_string = rdf (codes "langString")

abbrev pub string : List ℕ
string = xsd (codes "string")

abbrev pub of_datatype : List ℕ → List ℕ → LiteralParts
of_datatype lexical datatype = record { lexical = lexical; datatype = datatype; tag = None }

-- a literal with a language tag has the datatype rdf:PlainLiteral
abbrev pub with_tag : List ℕ → List ℕ → LiteralParts
with_tag lexical tag = record { lexical = lexical; datatype = plain_literal; tag = Some tag }

-- what a text denotes with what stands behind its last `@`: nothing, or a language tag
abbrev pub PlainParts : List ℕ → List ℕ → LiteralParts → Type 0
PlainParts text [] literal = literal ≡ of_datatype text string
PlainParts text (c ∷ cs) literal = IsLanguageTag (c ∷ cs) × (literal ≡ with_tag text (c ∷ cs))

-- A form of rdf:PlainLiteral is a text, an `@`, and such a rest. No language tag has an `@`, so it is the last one.
pub record PlainForm (form : List ℕ) (literal : LiteralParts) : Type 0 where
  pub text : List ℕ
  pub rest : List ℕ
  pub parts : form ≡ text ++ (codes "@" ++ rest)
  pub denotes : PlainParts text rest literal

-- what a form with a datatype denotes; rdf:langString has no forms
abbrev pub DenotesTyped : List ℕ → List ℕ → LiteralParts → Type 0
DenotesTyped form datatype literal =
    ((datatype ≡ plain_literal) × PlainForm form literal)
    ⊎ ((datatype ≢ plain_literal) × (datatype ≢ lang_string) × (literal ≡ of_datatype form datatype))

-- what a form denotes with its datatype or its tag; without both it is a string
abbrev pub DenotesLiteral : List ℕ → Option (List ℕ) → Option (List ℕ) → LiteralParts → Type 0
DenotesLiteral form None None literal = literal ≡ of_datatype form string
DenotesLiteral form None (Some tag) literal = literal ≡ with_tag form tag
DenotesLiteral form (Some datatype) None literal = DenotesTyped form datatype literal
DenotesLiteral form (Some datatype) (Some tag) literal = ⊥

-- the datatype of a literal with this tag, or without one
abbrev pub FitsTag : Option (List ℕ) → List ℕ → Type 0
FitsTag None datatype = (datatype ≢ plain_literal) × (datatype ≢ lang_string)
FitsTag (Some tag) datatype = (datatype ≡ plain_literal) × IsLanguageTag tag

-- what every literal is
pub record IsLiteral (literal : LiteralParts) : Type 0 where
  pub datatype : IsIri literal.datatype
  pub tag : FitsTag literal.tag literal.datatype

-- the same lexical form, datatype and tag
abbrev pub literal_eq : LiteralParts → LiteralParts → Bool
literal_eq = eq_of_both (on (λ a. a.lexical) text_eq) (eq_of_both (on (λ a. a.datatype) text_eq) (on (λ a. a.tag) (option_eq text_eq)))

-- by lexical form, datatype and tag, where no tag comes before each tag
abbrev pub literal_cmp : LiteralParts → LiteralParts → Ordering
literal_cmp = then_cmp (on (λ a. a.lexical) text_cmp) (then_cmp (on (λ a. a.datatype) text_cmp) (on (λ a. a.tag) (option_cmp text_cmp)))
