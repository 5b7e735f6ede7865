-- What a form with a datatype denotes, found by its characters (rdf:PlainLiteral, section 3, and RDF 1.1 Concepts, section 3.3).
use Rattle.std.specs.Prelude.{ℕ, ◌==◌, false, List, [], ◌∷◌, Option, None, Some, if◌then◌else◌}
use Rattle.std.specs.Char.{is_ascii_alphabetic}
use Rattle.owl_characters.specs.Order.{text_eq}
use Rattle.owl_characters.specs.Subtags.{tag_fits}
use Rattle.rdf_terms.specs.Literals.{LiteralParts, lang_string, of_datatype, plain_literal, string, with_tag}

-- what stands before the last `@` of a form, and behind it
pub record Halves : Type 0 where
  pub text : List ℕ
  pub rest : List ℕ

abbrev pub behind : ℕ → Option Halves → Option Halves
behind c None = None
behind c (Some halves) = Some (record halves { text = c ∷ halves.text })

abbrev pub or_here : ℕ → List ℕ → Option Halves → Option Halves
or_here c cs None = if c == 0x40 then Some (record { text = []; rest = cs }) else None
or_here c cs (Some halves) = behind c (Some halves)

abbrev pub halves : List ℕ → Option Halves
halves [] = None
halves (c ∷ cs) = or_here c cs (halves cs)

-- a text with nothing behind the `@`, or with a language tag
abbrev pub with_rest : List ℕ → List ℕ → Option LiteralParts
with_rest text [] = Some (of_datatype text string)
with_rest text (c ∷ cs) = if tag_fits is_ascii_alphabetic false (c ∷ cs) then Some (with_tag text (c ∷ cs)) else None

abbrev pub plain_form : Option Halves → Option LiteralParts
plain_form None = None
plain_form (Some halves) = with_rest halves.text halves.rest

-- the literal of a form with a datatype, if there is one
abbrev pub typed_literal : List ℕ → List ℕ → Option LiteralParts
typed_literal form datatype =
    if text_eq datatype plain_literal then plain_form (halves form)
    else (if text_eq datatype lang_string then None else Some (of_datatype form datatype))
