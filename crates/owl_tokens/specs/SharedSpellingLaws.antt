-- What the lexemes that both languages have are and stand for is what `Spells` says of the tokens
-- that both write alike, both ways.
use Rattle.std.proofs.Common.{◌≡◌, ◌↔◌, ◌⊎◌, inl, inr, ℕ, Bool, true, false, ◌||◌, Option, None, Some, List, [], ◌∷◌, ◌++◌, refl, sym, ap, ◌∙◌, subst}
use Rattle.std.specs.Prelude.{◌==◌, codes}
use Rattle.std.specs.List.{AllByRecursion, list_all}
use Rattle.std.proofs.lemmas.Bool.{and_parts, eqb-true, or_cases}
use Rattle.owl_characters.specs.Names.{IsNameFrom, is_start}
use Rattle.owl_lexer.proofs.GapTestLaws.{Stand}
use Rattle.owl_lexer.specs.Grammars.{IsLexemeOf, Terminal}
use Rattle.owl_lexer.specs.Languages.{IsLexemeWith}
use Rattle.owl_lexer.specs.Languages.IsLexemeWith.{token, space, comment as comment_text}
use Rattle.owl_lexer.proofs.PatternLaws.{Means, class_is, comment_is, is_index, mark_is, mark_then, matches_as, run_is, uses_only}
use Rattle.owl_lexer.specs.Patterns.{Matches}
use Rattle.owl_tokens.specs.CharacterLaws.{◌also◌, SharedTests, shared, shared_words}
use Rattle.owl_tokens.specs.NamePatternLaws.{abbreviated_is, blank_is, prefix_value, text_value, word_is}
use Rattle.owl_tokens.specs.SharedPatterns.{caret, carets, close_mark, comment_character, number_sign, open_mark, shared_terminals, white_character}
use Rattle.owl_tokens.specs.StringPatternLaws.{iri_is, iri_value, string_is, string_value}
use Rattle.owl_tokens.specs.TagPatternLaws.{tag_is}
use Rattle.owl_tokens.specs.Tokens.{Spells}
use Rattle.owl_tokens.specs.Values.{local_in, prefix_in, sign_of, unescaped, value_of}
use Rattle.owl_tokens.specs.declared.kinds.TheConstants.{AT, BLANK, CARETS, CLOSE, COMMENT, IRI, NAME, OPEN, SPACE, STR, WORD}
use Rattle.owl_tokens.specs.declared.token.Sign.{Sign as Mark}
use Rattle.owl_tokens.specs.declared.token.Sign.TheVariants.{Open, Close, Carets}
use Rattle.owl_tokens.specs.declared.token.Token.{Token}
use Rattle.owl_tokens.specs.declared.token.Token.TheVariants.{Iri, Name, Blank, Str, At, Word, Int, Dec, Sign}

-- the punctuation marks and the tokens that both languages write alike

abbrev pub is_shared_mark : Mark → Bool
is_shared_mark Open = true
is_shared_mark Close = true
is_shared_mark Carets = true
is_shared_mark mark = false

abbrev pub is_shared : Token → Bool
is_shared (Int digits) = false
is_shared (Dec number) = false
is_shared (Sign mark) = is_shared_mark mark
is_shared t = true

-- these characters are written for this token in both languages
abbrev pub SpellsShared : Token → List ℕ → Type 0
SpellsShared t cs = (is_shared t ≡ true) × Spells t cs

-- a lexeme of these terminals stands for the token
abbrev pub IsLexemeFor : (ℕ → ℕ → Bool) → List Terminal → Token → List ℕ → Type 0
IsLexemeFor test terminals t cs = (kind : ℕ) × IsLexemeOf test terminals kind cs × (value_of kind cs ≡ Some t)

-- what lexemes of the terminal say
abbrev pub Says : (ℕ → ℕ → Bool) → (Token → List ℕ → Type 0) → Terminal → Type 0
Says test spells x = (cs : List ℕ) → Matches test x.pattern cs → IsLexemeWith spells (value_of x.kind cs) cs

pub lexemes_say : (test : ℕ → ℕ → Bool) (spells : Token → List ℕ → Type 0) (xs : List Terminal) → AllByRecursion (Says test spells) xs → (kind : ℕ) (cs : List ℕ) → IsLexemeOf test xs kind cs → IsLexemeWith spells (value_of kind cs) cs
lexemes_say test spells [] says kind cs m = elim m [ ]
lexemes_say test spells (x ∷ xs) says kind cs (inl m) = subst (λ (k : ℕ). IsLexemeWith spells (value_of k cs) cs) m.0 (says.0 cs m.1)
lexemes_say test spells (x ∷ xs) says kind cs (inr m) = lexemes_say test spells xs says.1 kind cs m

pub lexeme_as : (known : ℕ → Bool) (test other : ℕ → ℕ → Bool) → ((set c : ℕ) → known set ≡ true → test set c ≡ other set c) → (xs : List Terminal) → list_all (λ x. uses_only known x.pattern) xs ≡ true → (kind : ℕ) (cs : List ℕ) → IsLexemeOf test xs kind cs → IsLexemeOf other xs kind cs
lexeme_as known test other same [] h kind cs m = m
lexeme_as known test other same (x ∷ xs) h kind cs (inl m) =
    inl (m.0, matches_as known test other same x.pattern (and_parts (uses_only known x.pattern) (list_all (λ x. uses_only known x.pattern) xs) h).0 cs m.1)
lexeme_as known test other same (x ∷ xs) h kind cs (inr m) =
    inr (lexeme_as known test other same xs (and_parts (uses_only known x.pattern) (list_all (λ x. uses_only known x.pattern) xs) h).1 kind cs m)

-- values

name_value : (prefix local cs : List ℕ) → Spells (Name prefix local) cs → value_of NAME cs ≡ Some (Name prefix local)
unfolding value_of
name_value prefix local cs s =
    let p : prefix_in cs ≡ prefix = prefix_value prefix local cs s in
    let l : unescaped (local_in cs) ≡ local = text_value prefix local cs s in
    λ i. Some (Name (p i) (l i))

open_is : Means shared open_mark (λ cs. cs ≡ codes "(")
open_is = mark_is shared open_mark 40 (class_is shared open_mark refl)

close_is : Means shared close_mark (λ cs. cs ≡ codes ")")
close_is = mark_is shared close_mark 41 (class_is shared close_mark refl)

carets_are : Means shared carets (λ cs. cs ≡ codes "^^")
carets_are cs =
    let one = class_is shared caret refl in
    let m = mark_then shared caret caret 94 one cs in (
      λ k. let b = m.0 k in b.2 ∙ ap (λ (l : List ℕ). 94 ∷ l) ((mark_is shared caret 94 one b.0).0 b.1),
      λ e. m.1 (94 ∷ [], (mark_is shared caret 94 one (94 ∷ [])).1 refl, e),
    )

-- from lexemes to tokens

shared_say : AllByRecursion (Says shared SpellsShared) shared_terminals
unfolding value_of sign_of
shared_say =
    (λ cs m. space refl ((run_is shared white_character (shared 0) (class_is shared white_character refl) cs).0 m))
    also (λ cs m. comment_text refl ((comment_is shared number_sign comment_character (class_is shared number_sign refl) (class_is shared comment_character refl) cs).0 m))
    also (λ cs m. let o = (iri_is cs).0 m in token (Iri o.0) (ap (λ (l : List ℕ). Some (Iri l)) (iri_value o.0 cs o.1)) (refl, o.1))
    also (λ cs m. let o = (abbreviated_is cs).0 m in token (Name o.0 o.1) (name_value o.0 o.1 cs o.2) (refl, o.2))
    also (λ cs m. let o = (blank_is cs).0 m in token (Blank o.0) (ap (λ (l : List ℕ). value_of BLANK l) o.1.1) (refl, o.1))
    also (λ cs m. let o = (string_is cs).0 m in token (Str o.0) (ap (λ (l : List ℕ). Some (Str l)) (string_value o.0 cs o.1)) (refl, o.1))
    also (λ cs m. let o = (tag_is cs).0 m in token (At o.0) (ap (λ (l : List ℕ). value_of AT l) o.1.1) (refl, o.1))
    also (λ cs m. token (Word cs) refl (refl, ((word_is cs).0 m, refl)))
    also (λ cs m. token (Sign Open) refl (refl, (open_is cs).0 m))
    also (λ cs m. token (Sign Close) refl (refl, (close_is cs).0 m))
    also (λ cs m. token (Sign Carets) refl (refl, (carets_are cs).0 m))
    also tt

-- what is spelled in one way is spelled in another
says_more : (one other : Token → List ℕ → Type 0) → ((t : Token) (cs : List ℕ) → one t cs → other t cs) → (value : Option Token) (cs : List ℕ) → IsLexemeWith one value cs → IsLexemeWith other value cs
says_more one other f value cs (token t v s) = token t v (f t cs s)
says_more one other f value cs (space v s) = space v s
says_more one other f value cs (comment_text v s) = comment_text v s

-- the kinds of white space and comments, which stand for no token

abbrev pub is_gap : ℕ → Bool
is_gap kind = (kind == SPACE) || (kind == COMMENT)

pub gaps_are_none : (kind : ℕ) (cs : List ℕ) → is_gap kind ≡ true → value_of kind cs ≡ None
unfolding value_of sign_of
gaps_are_none kind cs h = elim (or_cases (kind == SPACE) (kind == COMMENT) h) [
  | inl e ↦ ap (λ (k : ℕ). value_of k cs) (eqb-true kind SPACE e)
  | inr e ↦ ap (λ (k : ℕ). value_of k cs) (eqb-true kind COMMENT e)
]

-- from tokens to lexemes

shared_lexeme : (t : Token) (cs : List ℕ) → SpellsShared t cs → IsLexemeFor shared shared_terminals t cs
unfolding value_of sign_of
shared_lexeme (Iri iri) cs h = (IRI, inr (inr (inl (refl, (iri_is cs).1 (iri, h.1)))), ap (λ (l : List ℕ). Some (Iri l)) (iri_value iri cs h.1))
shared_lexeme (Name prefix local) cs h = (NAME, inr (inr (inr (inl (refl, (abbreviated_is cs).1 (prefix, local, h.1))))), name_value prefix local cs h.1)
shared_lexeme (Blank label) cs h = (BLANK, inr (inr (inr (inr (inl (refl, (blank_is cs).1 (label, h.1)))))), ap (λ (l : List ℕ). value_of BLANK l) h.1.1)
shared_lexeme (Str text) cs h = (STR, inr (inr (inr (inr (inr (inl (refl, (string_is cs).1 (text, h.1))))))), ap (λ (l : List ℕ). Some (Str l)) (string_value text cs h.1))
shared_lexeme (At tag) cs h = (AT, inr (inr (inr (inr (inr (inr (inl (refl, (tag_is cs).1 (tag, h.1)))))))), ap (λ (l : List ℕ). value_of AT l) h.1.1)
shared_lexeme (Word name) cs h =
    (WORD, inr (inr (inr (inr (inr (inr (inr (inl (refl, (word_is cs).1 (subst (IsNameFrom is_start) (sym h.1.1) h.1.0))))))))), ap (λ (l : List ℕ). value_of WORD l) h.1.1)
shared_lexeme (Sign Open) cs h = (OPEN, inr (inr (inr (inr (inr (inr (inr (inr (inl (refl, (open_is cs).1 h.1))))))))), refl)
shared_lexeme (Sign Close) cs h = (CLOSE, inr (inr (inr (inr (inr (inr (inr (inr (inr (inl (refl, (close_is cs).1 h.1)))))))))), refl)
shared_lexeme (Sign Carets) cs h = (CARETS, inr (inr (inr (inr (inr (inr (inr (inr (inr (inr (inl (refl, (carets_are cs).1 h.1))))))))))), refl)
shared_lexeme t cs h = let e = h.0 in absurd (cc)

-- terminals of two lists

one_of_both : (test : ℕ → ℕ → Bool) (xs ys : List Terminal) (kind : ℕ) (cs : List ℕ) → IsLexemeOf test (xs ++ ys) kind cs ↔ (IsLexemeOf test xs kind cs ⊎ IsLexemeOf test ys kind cs)
one_of_both test [] ys kind cs = (λ m. inr m, λ m. elim m [ inl x ↦ elim x [ ] | inr y ↦ y ])
one_of_both test (x ∷ xs) ys kind cs =
    let others = one_of_both test xs ys kind cs in (
      λ m. elim m [ inl h ↦ inl (inl h) | inr k ↦ elim (others.0 k) [ inl l ↦ inl (inr l) | inr r ↦ inr r ] ],
      λ m. elim m [ inl h ↦ elim h [ inl k ↦ inl k | inr l ↦ inr (others.1 (inl l)) ] | inr r ↦ inr (others.1 (inr r)) ],
    )

-- What a language has behind the shared terminals: its own ones, and tokens that are shared or lexemes of these.
pub record OwnTerminals (test : ℕ → ℕ → Bool) (own : List Terminal) (spells : Token → List ℕ → Type 0) : Type 0 where
  pub shared : (t : Token) (cs : List ℕ) → SpellsShared t cs → spells t cs
  pub says : (kind : ℕ) (cs : List ℕ) → IsLexemeOf test own kind cs → IsLexemeWith spells (value_of kind cs) cs
  pub token : (t : Token) (cs : List ℕ) → spells t cs → SpellsShared t cs ⊎ IsLexemeFor test own t cs

-- The lexemes of all terminals stand for the tokens.
pub lexemes_stand : (test : ℕ → ℕ → Bool) (own : List Terminal) (spells : Token → List ℕ → Type 0) → SharedTests test → OwnTerminals test own spells → Stand (IsLexemeOf test (shared_terminals ++ own)) is_gap value_of spells
lexemes_stand test own spells t o =
    let known = is_index shared_words in
    let both = one_of_both test shared_terminals own in
    let front = λ (kind : ℕ) (cs : List ℕ) (m : IsLexemeOf shared shared_terminals kind cs). (both kind cs).1 (inl (lexeme_as known shared test (λ set c k. sym (t.agrees set c k)) shared_terminals refl kind cs m)) in
    record {
      says = λ kind cs m. elim ((both kind cs).0 m) [
        | inl x ↦ says_more SpellsShared spells o.shared (value_of kind cs) cs (lexemes_say shared SpellsShared shared_terminals shared_say kind cs (lexeme_as known test shared t.agrees shared_terminals refl kind cs x))
        | inr x ↦ o.says kind cs x
      ];
      token = λ token cs h. elim (o.token token cs h) [
        | inl x ↦ let l = shared_lexeme token cs x in (l.0, front l.0 cs l.1, l.2)
        | inr x ↦ (x.0, (both x.0 cs).1 (inr x.1), x.2)
      ];
      space = λ cs h. (SPACE, front SPACE cs (inl (refl, (run_is shared white_character (shared 0) (class_is shared white_character refl) cs).1 h)));
      comment = λ cs h. (COMMENT, front COMMENT cs (inr (inl (refl, (comment_is shared number_sign comment_character (class_is shared number_sign refl) (class_is shared comment_character refl) cs).1 h))));
      none = gaps_are_none;
    }
