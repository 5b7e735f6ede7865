-- Before what a token of a written text is the longest.
use Rattle.std.proofs.Common.{◌≡◌, ℕ, Bool, true, false, not, Option, None, Some, List, [], ◌∷◌, refl, sym, ap, ◌∙◌}
use Rattle.std.specs.Prelude.{codes}
use Rattle.std.specs.List.{list_all}
use Rattle.std.proofs.lemmas.Bool.{false≢true, false_from_ne_true}
use Rattle.owl_characters.specs.Iri.{is_among}
use Rattle.owl_characters.specs.Names.{begins_with}
use Rattle.owl_lexer.proofs.GapCheckLaws.{class_of, tokens_end}
use Rattle.owl_lexer.proofs.GapTestLaws.{passes_among}
use Rattle.owl_lexer.proofs.StopLaws.{longest_always, longest_before, tokens_are_closed}
use Rattle.owl_lexer.specs.Splitting.{IsLongest}
use Rattle.owl_tokens.specs.ManchesterSpellingLaws.{manchester_is_language}
use Rattle.owl_tokens.specs.ManchesterSpellings.{SpellsManchester}
use Rattle.owl_tokens.specs.ManchesterTable.{manchester_table}
use Rattle.owl_tokens.specs.SharedSpellingLaws.{gaps_are_none, is_gap}
use Rattle.owl_tokens.specs.Values.{sign_of, value_of}
use Rattle.owl_tokens.specs.declared.kinds.TheConstants.{AT, BLANK, COMMENT, DEC, GREATER, INT, LESS, NAME, SPACE, WORD}
use Rattle.owl_tokens.specs.declared.token.Sign.{Sign as Mark}
use Rattle.owl_tokens.specs.declared.token.Sign.TheVariants.{Greater, Less}
use Rattle.owl_tokens.specs.declared.token.Token.{Token}
use Rattle.owl_tokens.specs.declared.token.Token.TheVariants.{Iri, Sign, Str}

-- a space, a line end, a comma, a bracket that is closed, and `[`, which stands behind a name
abbrev pub is_stop : ℕ → Bool
is_stop c = is_among (codes " \n,)}][") c

-- a text that begins with one
abbrev pub Ends : List ℕ → Type 0
Ends rest = begins_with is_stop rest ≡ true

stops_end : list_all (λ c. tokens_end is_gap (class_of manchester_table c) manchester_table.rows manchester_table.kinds) (codes " \n,)}][") ≡ true
unfolding manchester_table
stops_end = refl

no_gap : (t : Token) (cs : List ℕ) (kind : ℕ) → value_of kind cs ≡ Some t → is_gap kind ≡ false
no_gap t cs kind v = false_from_ne_true (is_gap kind) (λ h. let none = gaps_are_none kind cs h in absurd (cc))

-- No token goes on at a stop.
pub longest_before_stop : (t : Token) (cs rest : List ℕ) → SpellsManchester t cs → Ends rest → IsLongest SpellsManchester cs rest
longest_before_stop t cs [] spelled stop = absurd (false≢true stop)
longest_before_stop t cs (c ∷ rest) spelled stop =
    longest_before manchester_table value_of SpellsManchester manchester_is_language is_gap t cs spelled (λ kind v. no_gap t cs kind v) c rest
    (passes_among (λ d. tokens_end is_gap (class_of manchester_table d) manchester_table.rows manchester_table.kinds) (codes " \n,)}][") c stops_end stop)

-- ---- tokens with an end of their own

-- IRIs, strings, and punctuation marks but `<` and `>`
abbrev pub is_closed_mark : Mark → Bool
is_closed_mark Less = false
is_closed_mark Greater = false
is_closed_mark mark = true

abbrev pub is_closed : Token → Bool
is_closed (Iri iri) = true
is_closed (Str text) = true
is_closed (Sign mark) = is_closed_mark mark
is_closed x = false

closed_value : Option Token → Bool
closed_value None = false
closed_value (Some x) = is_closed x

-- the kinds of all else
open_kinds : List ℕ
open_kinds = SPACE ∷ COMMENT ∷ NAME ∷ BLANK ∷ AT ∷ WORD ∷ INT ∷ DEC ∷ LESS ∷ GREATER ∷ []

is_open_kind : ℕ → Bool
is_open_kind kind = is_among open_kinds kind

closed_kinds : tokens_are_closed is_open_kind manchester_table.rows manchester_table.kinds ≡ true
unfolding manchester_table is_open_kind open_kinds
closed_kinds = refl

are_open : (cs : List ℕ) → list_all (λ kind. not (closed_value (value_of kind cs))) open_kinds ≡ true
unfolding open_kinds closed_value value_of sign_of
are_open cs = refl

not_open : (t : Token) (cs : List ℕ) (kind : ℕ) → is_closed t ≡ true → value_of kind cs ≡ Some t → is_open_kind kind ≡ false
unfolding is_open_kind closed_value
not_open t cs kind closed v = false_from_ne_true (is_open_kind kind) (λ h.
    let passes = passes_among (λ k. not (closed_value (value_of k cs))) open_kinds kind (are_open cs) h in
    let is = ap (λ (o : Option Token). not (closed_value o)) v ∙ ap not closed in
    absurd (false≢true (sym is ∙ passes)))

-- Nothing goes on behind a closed token.
pub longest_closed : (t : Token) (cs rest : List ℕ) → SpellsManchester t cs → is_closed t ≡ true → IsLongest SpellsManchester cs rest
longest_closed t cs rest spelled closed =
    longest_always manchester_table value_of SpellsManchester manchester_is_language is_open_kind t cs spelled (λ kind v. not_open t cs kind closed v) rest closed_kinds
