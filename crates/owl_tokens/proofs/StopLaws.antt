-- Before what a token of Functional-Style Syntax is the longest.
use Rattle.std.proofs.Common.{◌≡◌, ℕ, Bool, true, false, Option, Some, List, ◌∷◌, refl, sym, ap, ◌∙◌}
use Rattle.std.specs.Prelude.{codes, drop, ◌==◌, option_map, if◌then◌else◌}
use Rattle.std.specs.List.{list_all}
use Rattle.std.proofs.lemmas.Bool.{false_from_ne_true}
use Rattle.owl_characters.specs.Iri.{is_among}
use Rattle.owl_lexer.proofs.GapCheckLaws.{class_of, tokens_end}
use Rattle.owl_lexer.proofs.GapTestLaws.{passes_among}
use Rattle.owl_lexer.specs.Splitting.{IsLongest}
use Rattle.owl_lexer.proofs.StopLaws.{longest_always, longest_before, tokens_are_closed}
use Rattle.owl_tokens.specs.FunctionalSpellingLaws.{functional_is_language}
use Rattle.owl_tokens.specs.FunctionalTable.{functional_table}
use Rattle.owl_tokens.specs.SharedSpellingLaws.{gaps_are_none, is_gap}
use Rattle.owl_tokens.specs.Tokens.{Spells}
use Rattle.owl_tokens.specs.Values.{between_ends, local_in, prefix_in, sign_of, unescaped, value_of}
use Rattle.owl_tokens.specs.declared.kinds.TheConstants.{AT, BLANK, DEC, INT, IRI, NAME, STR, WORD}
use Rattle.owl_tokens.specs.declared.token.Sign.{Sign as Mark}
use Rattle.owl_tokens.specs.declared.token.Token.{Token}
use Rattle.owl_tokens.specs.declared.token.Token.TheVariants.{Iri, Name, Blank, Str, At, Word, Int, Dec, Sign}

-- a space, a line end, a bracket or an equals sign
abbrev pub is_stop : ℕ → Bool
is_stop c = is_among (codes " \n()=") c

stops_end : list_all (λ c. tokens_end is_gap (class_of functional_table c) functional_table.rows functional_table.kinds) (codes " \n()=") ≡ true
unfolding functional_table
stops_end = refl

no_gap : (t : Token) (cs : List ℕ) (kind : ℕ) → value_of kind cs ≡ Some t → is_gap kind ≡ false
no_gap t cs kind v = false_from_ne_true (is_gap kind) (λ h. let none = gaps_are_none kind cs h in absurd (cc))

-- No token goes on at a stop.
pub longest_before_stop : (t : Token) (cs : List ℕ) (c : ℕ) (rest : List ℕ) → Spells t cs → is_stop c ≡ true → IsLongest Spells cs (c ∷ rest)
longest_before_stop t cs c rest spelled stop =
    longest_before functional_table value_of Spells functional_is_language is_gap t cs spelled (λ kind v. no_gap t cs kind v) c rest
    (passes_among (λ d. tokens_end is_gap (class_of functional_table d) functional_table.rows functional_table.kinds) (codes " \n()=") c stops_end stop)

-- IRIs, strings and punctuation marks, which have an end of their own
abbrev pub is_closed : Token → Bool
is_closed (Iri iri) = true
is_closed (Name prefix local) = false
is_closed (Blank label) = false
is_closed (Str text) = true
is_closed (At tag) = false
is_closed (Word word) = false
is_closed (Int digits) = false
is_closed (Dec number) = false
is_closed (Sign mark) = true

-- one of nine by which of eight tests passes first
abbrev chosen : {A : Type 0} → Bool → Bool → Bool → Bool → Bool → Bool → Bool → Bool → A → A → A → A → A → A → A → A → A → A
chosen a b c d e f g h iri name blank str at word int dec other =
    if a then iri else if b then name else if c then blank else if d then str else if e then at else if f then word else if g then int else if h then dec else other

-- the kind is one of white space, a comment, or a token that is not closed
abbrev is_open_kind : ℕ → Bool
is_open_kind kind =
    chosen (kind == IRI) (kind == NAME) (kind == BLANK) (kind == STR) (kind == AT) (kind == WORD) (kind == INT) (kind == DEC) false true true false true true true true (is_gap kind)

closed_kinds : tokens_are_closed is_open_kind functional_table.rows functional_table.kinds ≡ true
unfolding functional_table
closed_kinds = refl

module _ (t : Token) (closed : is_closed t ≡ true) (inside prefix local label text tag word digits number : List ℕ) (mark : Option Mark) (gap : Bool) (no_gap_is : gap ≡ false) where
  differs : (other : Token) → is_closed other ≡ false → Some other ≡ Some t → true ≡ false
  differs other is e = let same : other ≡ t = cc in sym closed ∙ ap is_closed (sym same) ∙ is

  by_tests : (a b c d e f g h : Bool) → chosen a b c d e f g h (Some (Iri inside)) (Some (Name prefix local)) (Some (Blank label)) (Some (Str text)) (Some (At tag)) (Some (Word word)) (Some (Int digits)) (Some (Dec number)) (option_map Sign mark) ≡ Some t → chosen a b c d e f g h false true true false true true true true gap ≡ false
  by_tests true b c d e f g h v = refl
  by_tests false true c d e f g h v = differs (Name prefix local) refl v
  by_tests false false true d e f g h v = differs (Blank label) refl v
  by_tests false false false true e f g h v = refl
  by_tests false false false false true f g h v = differs (At tag) refl v
  by_tests false false false false false true g h v = differs (Word word) refl v
  by_tests false false false false false false true h v = differs (Int digits) refl v
  by_tests false false false false false false false true v = differs (Dec number) refl v
  by_tests false false false false false false false false v = no_gap_is

not_open : (t : Token) (cs : List ℕ) → is_closed t ≡ true → (kind : ℕ) → value_of kind cs ≡ Some t → is_open_kind kind ≡ false
unfolding value_of
not_open t cs closed kind v =
    by_tests t closed (between_ends cs) (prefix_in cs) (unescaped (local_in cs)) (drop 2 cs) (unescaped (between_ends cs)) (drop 1 cs) cs cs cs (sign_of kind) (is_gap kind) (no_gap t cs kind v)
    (kind == IRI) (kind == NAME) (kind == BLANK) (kind == STR) (kind == AT) (kind == WORD) (kind == INT) (kind == DEC) v

-- Nothing goes on behind a closed token.
pub longest_closed : (t : Token) (cs rest : List ℕ) → Spells t cs → is_closed t ≡ true → IsLongest Spells cs rest
longest_closed t cs rest spelled closed =
    longest_always functional_table value_of Spells functional_is_language is_open_kind t cs spelled (λ kind v. not_open t cs closed kind v) rest closed_kinds
