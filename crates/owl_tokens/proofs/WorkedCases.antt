-- What the two languages make of some characters: the kind of lexeme that they are, if they are one, and its token.
use Rattle.std.specs.Prelude.{◌≡◌, ℕ, List, [], ◌∷◌, codes, map, Option, None, Some, refl}
use Rattle.owl_lexer.specs.Automata.{kind_of}
use Rattle.owl_tokens.specs.FunctionalTable.{functional_automaton, functional_table}
use Rattle.owl_tokens.specs.ManchesterTable.{manchester_automaton, manchester_table}
use Rattle.owl_tokens.specs.Values.{sign_of, unescaped, value_of}
use Rattle.owl_tokens.specs.declared.kinds.TheConstants.{AT, AT_MOST, BLANK, CARETS, DEC, INT, IRI, LESS, NAME, OPEN_BRACE, STR, WORD}
use Rattle.owl_tokens.specs.declared.token.Sign.TheVariants.{AtMost, Carets, Less, OpenBrace}
use Rattle.owl_tokens.specs.declared.token.Token.{Token}
use Rattle.owl_tokens.specs.declared.token.Token.TheVariants.{Iri, Name, Blank, Str, At, Int, Dec, Sign}

-- In Functional-Style Syntax no name and no prefix ends in a dot: the word `a` stands in front of a dot that begins nothing.
abbrev functional_cases : List (List ℕ × Option ℕ)
functional_cases =
    (codes "a:b..c", Some NAME)
    ∷ (codes ":a\\-b%41", Some NAME)
    ∷ (codes "a:b.", None)
    ∷ (codes "_:x.1", Some BLANK)
    ∷ (codes "a.:b", None)
    ∷ (codes "a", Some WORD)
    ∷ (codes ".", None)
    ∷ (codes "\"q\\\"\\\\\"", Some STR)
    ∷ (codes "@en-G1", Some AT)
    ∷ (codes "<a+b:c?d>", Some IRI)
    ∷ (codes "^^", Some CARETS)
    ∷ (codes "{", None)
    ∷ []

pub functional_kinds : map (λ x. kind_of functional_automaton x.0) functional_cases ≡ map (λ x. x.1) functional_cases
unfolding functional_table
functional_kinds = refl

-- In Manchester Syntax a dot that no digit follows stands behind the number, and a keyword with its colon is the name of a
-- prefix.
abbrev manchester_cases : List (List ℕ × Option ℕ)
manchester_cases =
    (codes "<", Some LESS)
    ∷ (codes "<=", Some AT_MOST)
    ∷ (codes "<a:b>", Some IRI)
    ∷ (codes "+1", Some INT)
    ∷ (codes "-1.5", Some DEC)
    ∷ (codes "1.", None)
    ∷ (codes "1", Some INT)
    ∷ (codes "{", Some OPEN_BRACE)
    ∷ (codes "SubClassOf:", Some NAME)
    ∷ []

pub manchester_kinds : map (λ x. kind_of manchester_automaton x.0) manchester_cases ≡ map (λ x. x.1) manchester_cases
unfolding manchester_table
manchester_kinds = refl

-- In a name a backslash is left out, and a percent sign stays with its digits.
abbrev value_cases : List (ℕ × List ℕ × Token)
value_cases =
    (NAME, codes "a:b..c", Name (codes "a") (codes "b..c"))
    ∷ (NAME, codes ":a\\-b%41", Name (codes "") (codes "a-b%41"))
    ∷ (BLANK, codes "_:x.1", Blank (codes "x.1"))
    ∷ (STR, codes "\"q\\\"\\\\\"", Str (codes "q\"\\"))
    ∷ (AT, codes "@en-G1", At (codes "en-G1"))
    ∷ (IRI, codes "<a+b:c?d>", Iri (codes "a+b:c?d"))
    ∷ (CARETS, codes "^^", Sign Carets)
    ∷ (LESS, codes "<", Sign Less)
    ∷ (AT_MOST, codes "<=", Sign AtMost)
    ∷ (INT, codes "+1", Int (codes "+1"))
    ∷ (DEC, codes "-1.5", Dec (codes "-1.5"))
    ∷ (OPEN_BRACE, codes "{", Sign OpenBrace)
    ∷ (NAME, codes "SubClassOf:", Name (codes "SubClassOf") (codes ""))
    ∷ []

pub values : map (λ x. value_of x.0 x.1) value_cases ≡ map (λ x. Some x.2) value_cases
unfolding value_of sign_of unescaped
values = refl
