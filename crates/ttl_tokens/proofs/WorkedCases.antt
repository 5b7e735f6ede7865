-- Worked cases: which kind of lexeme characters are, which front of them is the longest lexeme, and for what they stand.
use Rattle.std.specs.Prelude.{◌≡◌, ℕ, zero, suc, ◌+◌, List, [], ◌∷◌, length, map, take, Option, Some, None, codes, refl}
use Rattle.owl_lexer.specs.Automata.{kind_of}
use Rattle.owl_lexer.specs.Tables.{automaton_of}
use Rattle.ttl_tokens.specs.declared.kinds.TheConstants.{IRIREF, PREFIXED_NAME, BLANK_NODE_LABEL, LANGTAG, INTEGER, DECIMAL, DOUBLE, STRING_LITERAL_QUOTE, STRING_LITERAL_SINGLE_QUOTE, STRING_LITERAL_LONG_QUOTE, STRING_LITERAL_LONG_SINGLE_QUOTE, A_WORD, PREFIX_WORD, BASE_WORD}
use Rattle.ttl_tokens.specs.TurtleTable.{turtle_table}
use Rattle.ttl_tokens.specs.TurtleValues.{token_of}
use Rattle.ttl_tokens.specs.declared.token.Symbol.TheVariants.{Prefix}
use Rattle.ttl_tokens.specs.declared.token.Token.{Token}
use Rattle.ttl_tokens.specs.declared.token.Token.TheVariants.{Iri, Name, Label, Str, At, Decimal, Symbol}

-- the kind of lexeme that the characters are
abbrev kind_in_turtle : List ℕ → Option ℕ
kind_in_turtle cs = kind_of (automaton_of turtle_table) cs

-- how many characters the longest lexeme in front has, and its kind

abbrev or_shorter : ℕ → Option ℕ → Option (ℕ × ℕ) → Option (ℕ × ℕ)
or_shorter count (Some kind) shorter = Some (count, kind)
or_shorter count None shorter = shorter

abbrev longest_within : ℕ → List ℕ → Option (ℕ × ℕ)
longest_within zero cs = None
longest_within (suc count) cs = or_shorter (count + 1) (kind_in_turtle (take (count + 1) cs)) (longest_within count cs)

abbrev longest : List ℕ → Option (ℕ × ℕ)
longest cs = longest_within (length cs) cs

abbrev kind_cases : List (List ℕ × Option ℕ)
kind_cases =
    (codes "1", Some INTEGER)
    ∷ (codes "1.5", Some DECIMAL)
    ∷ (codes ".5", Some DECIMAL)
    ∷ (codes "1e5", Some DOUBLE)
    ∷ (codes "1.e5", Some DOUBLE)
    ∷ (codes "1.", None)
    ∷ (codes "\"\"\"a\"\"b\"\"\"", Some STRING_LITERAL_LONG_QUOTE)
    ∷ (codes "\"\"\"a\"\"", None)
    ∷ (codes "\"\\uD7FF\"", Some STRING_LITERAL_QUOTE)
    ∷ (codes "\"\\uD800\"", None)
    ∷ (codes "\"\\U0010FFFF\"", Some STRING_LITERAL_QUOTE)
    ∷ (codes "\"\\U00110000\"", None)
    ∷ (codes "<a:\\uD800>", Some IRIREF)
    ∷ (codes "<a: >", None)
    ∷ (codes "@prefix", Some LANGTAG)
    ∷ (codes "@en-GB", Some LANGTAG)
    ∷ (codes "ab", None)
    ∷ (codes "PREFIX", Some PREFIX_WORD)
    ∷ (codes "prefix", Some PREFIX_WORD)
    ∷ (codes "base", Some BASE_WORD)
    ∷ (codes "True", None)
    ∷ (codes "a:b.c", Some PREFIXED_NAME)
    ∷ (codes "a:\\~b", Some PREFIXED_NAME)
    ∷ (codes "a:%41", Some PREFIXED_NAME)
    ∷ (codes "a:%4", None)
    ∷ []

pub kinds : map (λ x. kind_in_turtle x.0) kind_cases ≡ map (λ x. x.1) kind_cases
unfolding turtle_table
kinds = refl

abbrev longest_cases : List (List ℕ × Option (ℕ × ℕ))
longest_cases =
    (codes "1.", Some (1, INTEGER))
    ∷ (codes "1e", Some (1, INTEGER))
    ∷ (codes "\"\"\"a\"\"", Some (2, STRING_LITERAL_QUOTE))
    ∷ (codes "'''", Some (2, STRING_LITERAL_SINGLE_QUOTE))
    ∷ (codes "\"\\uD800\"", None)
    ∷ (codes "ab", Some (1, A_WORD))
    ∷ (codes "a:b.c.", Some (5, PREFIXED_NAME))
    ∷ (codes "a:%4", Some (2, PREFIXED_NAME))
    ∷ (codes "_:a.b.", Some (5, BLANK_NODE_LABEL))
    ∷ []

pub longest_are : map (λ x. longest x.0) longest_cases ≡ map (λ x. x.1) longest_cases
unfolding turtle_table
longest_are = refl

-- what they stand for
abbrev token_cases : List (ℕ × List ℕ × Token)
token_cases =
    (STRING_LITERAL_QUOTE, codes "\"\\t\\u00E9\\\\\"", Str (0x09 ∷ 0xE9 ∷ 0x5C ∷ []))
    ∷ (STRING_LITERAL_LONG_SINGLE_QUOTE, codes "'''\\U0001F600'''", Str (0x1F600 ∷ []))
    ∷ (IRIREF, codes "<a:\\u00e9>", Iri (Some (0x61 ∷ 0x3A ∷ 0xE9 ∷ [])))
    ∷ (IRIREF, codes "<a:\\uD800>", Iri None)
    ∷ (PREFIXED_NAME, codes "a:\\~b", Name (codes "a") (codes "~b"))
    ∷ (PREFIXED_NAME, codes ":%41:", Name [] (codes "%41:"))
    ∷ (BLANK_NODE_LABEL, codes "_:b1", Label (codes "b1"))
    ∷ (LANGTAG, codes "@en-GB", At (codes "en-GB"))
    ∷ (DECIMAL, codes "-1.50", Decimal (codes "-1.50"))
    ∷ (PREFIX_WORD, codes "Prefix", Symbol Prefix)
    ∷ []

pub tokens : map (λ x. token_of x.0 x.1) token_cases ≡ map (λ x. Some x.2) token_cases
tokens = refl
