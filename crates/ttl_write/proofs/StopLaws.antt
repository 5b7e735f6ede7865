-- Before what a token of a written text is the longest.
use Rattle.std.proofs.Common.{◌≡◌, ℕ, Bool, true, false, not, if◌then◌else◌, Option, None, Some, List, [], ◌∷◌, codes, refl, ap, inl, inr}
use Rattle.std.specs.Prelude.{◌==◌, ◌||◌, drop}
use Rattle.std.specs.List.{AllByRecursion, list_all}
use Rattle.std.proofs.lemmas.Bool.{both_ways, cases_Bool, eqb-true, false_from_ne_true, or_cases}
use Rattle.owl_characters.specs.Iri.{is_among}
use Rattle.owl_lexer.proofs.GapCheckLaws.{class_of, tokens_end}
use Rattle.owl_lexer.proofs.GapTestLaws.{passes_among}
use Rattle.owl_lexer.specs.Splitting.{IsLongest}
use Rattle.owl_lexer.proofs.StopLaws.{longest_always, longest_before, tokens_are_closed}
use Rattle.ttl_tokens.specs.Escapes.{unescaped}
use Rattle.ttl_tokens.specs.declared.kinds.TheConstants.{A_WORD, BASE_WORD, BLANK_NODE_LABEL, CIRCUMFLEXES, CLOSE_BRACKET, CLOSE_PARENTHESIS, COMMA, COMMENT, DECIMAL, DOT, DOUBLE, FALSE_WORD, INTEGER, IRIREF, LANGTAG, OPEN_BRACKET, OPEN_PARENTHESIS, PREFIX_WORD, PREFIXED_NAME, SEMICOLON, STRING_LITERAL_LONG_QUOTE, STRING_LITERAL_LONG_SINGLE_QUOTE, STRING_LITERAL_QUOTE, STRING_LITERAL_SINGLE_QUOTE, TRUE_WORD, WHITE_SPACE}
use Rattle.ttl_tokens.specs.TurtleSpellingLaws.{is_gap, turtle_is_language}
use Rattle.ttl_tokens.specs.TurtleSpellings.{Spells}
use Rattle.ttl_tokens.specs.TurtleTable.{turtle_table}
use Rattle.ttl_tokens.specs.TurtleValues.{inside, local_text, prefix_text, string_text, symbol_of, symbol_token, token_of}
use Rattle.ttl_tokens.specs.declared.token.Symbol.{Symbol as Word}
use Rattle.ttl_tokens.specs.declared.token.Symbol.TheVariants.{A, Base, Carets, CloseBracket, CloseParenthesis, Comma, Dot, False, OpenBracket, OpenParenthesis, Prefix, Semicolon, True}
use Rattle.ttl_tokens.specs.declared.token.Token.{Token}
use Rattle.ttl_tokens.specs.declared.token.Token.TheVariants.{At, Decimal, Double, Integer, Iri, Label, Name, Str, Symbol}
use Rattle.ttl_write.proofs.Spelled.{spells_carets}

-- a space, a line end, and what stands directly behind a string or a circumflex
abbrev pub is_stop : ℕ → Bool
is_stop c = is_among (codes " \n@^<") c

stops_end : list_all (λ c. tokens_end is_gap (class_of turtle_table c) turtle_table.rows turtle_table.kinds) (codes " \n@^<") ≡ true
unfolding turtle_table
stops_end = refl

gap_is_none : (kind : ℕ) (cs : List ℕ) → is_gap kind ≡ true → token_of kind cs ≡ None
gap_is_none kind cs h = elim (or_cases (kind == WHITE_SPACE) (kind == COMMENT) h) as (λ _. token_of kind cs ≡ None) [
  | inl e ↦ ap (λ (k : ℕ). token_of k cs) (eqb-true kind WHITE_SPACE e)
  | inr e ↦ ap (λ (k : ℕ). token_of k cs) (eqb-true kind COMMENT e)
]

no_gap : (t : Token) (cs : List ℕ) (kind : ℕ) → token_of kind cs ≡ Some t → is_gap kind ≡ false
no_gap t cs kind v = false_from_ne_true (is_gap kind) (λ h. let none = gap_is_none kind cs h in absurd (cc))

-- no token goes on at a stop
pub longest_before_stop : (t : Token) (cs : List ℕ) (c : ℕ) (rest : List ℕ) → Spells t cs → is_stop c ≡ true → IsLongest Spells cs (c ∷ rest)
longest_before_stop t cs c rest spelled stop =
    longest_before turtle_table token_of Spells turtle_is_language is_gap t cs spelled (λ kind v. no_gap t cs kind v) c rest
    (passes_among (λ d. tokens_end is_gap (class_of turtle_table d) turtle_table.rows turtle_table.kinds) (codes " \n@^<") c stops_end stop)

-- two circumflexes are the longest before anything

is_other_kind : ℕ → Bool
is_other_kind kind = not (kind == CIRCUMFLEXES)

carets_closed : tokens_are_closed is_other_kind turtle_table.rows turtle_table.kinds ≡ true
unfolding turtle_table is_other_kind
carets_closed = refl

is_carets : Option Token → Bool
is_carets (Some (Symbol Carets)) = true
is_carets _ = false

-- the first of which the test passes
abbrev chosen : {X : Type 0} → List (Bool × X) → X → X
chosen [] other = other
chosen (x ∷ xs) other = if x.0 then x.1 else chosen xs other

none_of : {X : Type 0} → (f : X → Bool) (b : Bool) (x y : X) → f x ≡ false → f y ≡ false → f (if b then x else y) ≡ false
none_of f true x y h k = h
none_of f false x y h k = k

none_chosen : {X : Type 0} → (f : X → Bool) (xs : List (Bool × X)) (other : X) → AllByRecursion (λ x. f x.1 ≡ false) xs → f other ≡ false → f (chosen xs other) ≡ false
none_chosen f [] other h k = k
none_chosen f (x ∷ xs) other h k = none_of f x.0 x.1 (chosen xs other) h.0 (none_chosen f xs other h.1 k)

abbrev is_carets_word : Option Word → Bool
is_carets_word o = is_carets (symbol_token o)

others_are_none : (kind : ℕ) (cs : List ℕ) → (kind == CIRCUMFLEXES) ≡ false → is_carets (token_of kind cs) ≡ false
unfolding is_carets
others_are_none kind cs h =
    let last : is_carets_word (if kind == CIRCUMFLEXES then Some Carets else None) ≡ false = ap (λ (b : Bool). is_carets_word (if b then Some Carets else None)) h in
    let words : List (Bool × Option Word) =
    (kind == A_WORD, Some A) ∷ (kind == TRUE_WORD, Some True) ∷ (kind == FALSE_WORD, Some False) ∷ (kind == PREFIX_WORD, Some Prefix) ∷ (kind == BASE_WORD, Some Base)
    ∷ (kind == DOT, Some Dot) ∷ (kind == SEMICOLON, Some Semicolon) ∷ (kind == COMMA, Some Comma) ∷ (kind == OPEN_BRACKET, Some OpenBracket) ∷ (kind == CLOSE_BRACKET, Some CloseBracket)
    ∷ (kind == OPEN_PARENTHESIS, Some OpenParenthesis) ∷ (kind == CLOSE_PARENTHESIS, Some CloseParenthesis) ∷ [] in
    let symbols = none_chosen is_carets_word words (if kind == CIRCUMFLEXES then Some Carets else None) (refl, (refl, (refl, (refl, (refl, (refl, (refl, (refl, (refl, (refl, (refl, (refl, tt)))))))))))) last in
    let others : List (Bool × Option Token) =
    (kind == IRIREF, Some (Iri (unescaped (inside 1 cs)))) ∷ (kind == PREFIXED_NAME, Some (Name (prefix_text cs) (local_text cs))) ∷ (kind == BLANK_NODE_LABEL, Some (Label (drop 2 cs)))
    ∷ (kind == LANGTAG, Some (At (drop 1 cs))) ∷ (kind == INTEGER, Some (Integer cs)) ∷ (kind == DECIMAL, Some (Decimal cs)) ∷ (kind == DOUBLE, Some (Double cs))
    ∷ ((kind == STRING_LITERAL_QUOTE) || (kind == STRING_LITERAL_SINGLE_QUOTE), Some (Str (string_text (inside 1 cs))))
    ∷ ((kind == STRING_LITERAL_LONG_QUOTE) || (kind == STRING_LITERAL_LONG_SINGLE_QUOTE), Some (Str (string_text (inside 3 cs)))) ∷ [] in
    none_chosen is_carets others (symbol_token (symbol_of kind)) (refl, (refl, (refl, (refl, (refl, (refl, (refl, (refl, (refl, tt))))))))) symbols

is_circumflexes : (kind : ℕ) (cs : List ℕ) → token_of kind cs ≡ Some (Symbol Carets) → is_other_kind kind ≡ false
unfolding is_other_kind is_carets
is_circumflexes kind cs v = elim (cases_Bool (kind == CIRCUMFLEXES)) as (λ _. not (kind == CIRCUMFLEXES) ≡ false) [
  | inl e ↦ ap not e
  | inr e ↦ absurd (both_ways (is_carets (token_of kind cs)) (others_are_none kind cs e) (ap is_carets v))
]

pub carets_longest : (rest : List ℕ) → IsLongest Spells (codes "^^") rest
carets_longest rest =
    longest_always turtle_table token_of Spells turtle_is_language is_other_kind (Symbol Carets) (codes "^^") spells_carets (λ kind v. is_circumflexes kind (codes "^^") v) rest carets_closed
