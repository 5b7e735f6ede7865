-- The lexemes of a language are its tokens, with white space and comments between them.
use Rattle.std.proofs.Common.{◌≡◌, inl, inr, ℕ, ◌+◌, true, false, Option, None, List, [], ◌∷◌, ◌++◌, length, refl, sym, ap, ◌∙◌, subst, arith}
use Rattle.std.specs.Prelude.{◌==◌, not}
use Rattle.std.proofs.lemmas.Bool.{eqb-true, false_from_ne_true, not_from_false, or_cases, true_from_ne_false}
use Rattle.std.proofs.lemmas.List.{append_assoc, length-append}
use Rattle.owl_characters.proofs.AllAreLaws.{AllAre-append}
use Rattle.owl_characters.specs.Utf8.{size}
use Rattle.owl_lexer.specs.Adding.{placed_at, tokens_of}
use Rattle.owl_lexer.specs.Automata.{Automaton, Spells}
use Rattle.owl_lexer.specs.Cutting.{CutsFirst, Cuts, Lexeme, Stands, Stops as LexemesStop}
use Rattle.owl_lexer.proofs.GapLaws.{EndsLine, IsGapBefore, comment_before, spaces_before, splits_behind}
use Rattle.owl_lexer.specs.Languages.{IsCommentText, IsLanguage, IsLexemeWith}
use Rattle.owl_lexer.specs.Languages.IsLexemeWith.{token, space, comment}
use Rattle.owl_lexer.specs.Splitting.{BeginsToken, SplitsFrom, Stops, is_comment_start, is_line_end, is_space}
use Rattle.owl_lexer.specs.declared.fault.LexFault.{LexFault}
use Rattle.owl_lexer.specs.declared.placed.Placed.{Placed}

-- where no lexeme comes, no token and no gap does
stops_too : {T : Type 0} → (a : Automaton) (value : ℕ → List ℕ → Option T) (spells : T → List ℕ → Type 0) → IsLanguage a value spells → (place : ℕ) (cs tail : List ℕ) (e : Option LexFault) → LexemesStop (Spells a) place cs tail e → Stops spells place cs tail e
stops_too a value spells l place [] [] e h = h
stops_too a value spells l place [] (b ∷ tail) e h = h
stops_too a value spells l place (c ∷ cs) tail e h = (
  false_from_ne_true (is_space c) (λ k. let o = l.space (c ∷ []) (k, tt) in h.0 o.0 (c ∷ []) cs o.1 (omega arith) refl),
  false_from_ne_true (is_comment_start c) (λ k. let o = l.comment (c ∷ []) (sign k, tt) in h.0 o.0 (c ∷ []) cs o.1 (omega arith) refl),
  (λ t spelling more s is. let o = l.token t spelling s in h.0 o.0 spelling more o.1 (l.some t spelling s) is),
  h.1,
)
  where
    sign : is_comment_start c ≡ true → c ≡ 35
    sign k = elim (or_cases (35 == c) false k) [ inl same ↦ sym (eqb-true 35 c same) | inr none ↦ absurd (cc) ]

here : (place : ℕ) → place ≡ place + size []
here place = omega arith

-- a lexeme that stands for a token begins one
token_begins : {T : Type 0} → (a : Automaton) (value : ℕ → List ℕ → Option T) (spells : T → List ℕ → Type 0) → IsLanguage a value spells → (place : ℕ) (cs : List ℕ) (x : Lexeme) (rest : List ℕ) (t : T) → CutsFirst (Spells a) place cs x rest → spells t x.spelling → BeginsToken spells place cs (record { token = t; at = x.at }) (place + size x.spelling) rest
token_begins a value spells l place cs x rest t b s = record {
  gap = [];
  spelling = x.spelling;
  parts = b.parts;
  is_gap = tt;
  at = b.at ∙ here place;
  token = s;
  longest = λ other longer more k is. let o = l.token other longer k in b.stands.longest o.0 longer more o.1 is;
  ends = ap (λ (p : ℕ). p + size x.spelling) (sym b.at);
}

comment_longer : (cs : List ℕ) (c : ℕ) → IsCommentText cs → is_line_end c ≡ false → IsCommentText (cs ++ c ∷ [])
comment_longer [] c h n = absurd h
comment_longer (x ∷ xs) c h n = (h.0, AllAre-append (λ d. not (is_line_end d)) xs (c ∷ []) h.1 (not_from_false (is_line_end c) n, tt))

-- a comment goes on to before a line end
comment_ends_line : {T : Type 0} → (a : Automaton) (value : ℕ → List ℕ → Option T) (spells : T → List ℕ → Type 0) → IsLanguage a value spells → (spelling rest : List ℕ) (kind : ℕ) → IsCommentText spelling → Stands (Spells a) kind spelling rest → EndsLine rest
comment_ends_line a value spells l spelling [] kind h s = tt
comment_ends_line a value spells l spelling (c ∷ cs) kind h s = true_from_ne_false (is_line_end c) (λ n.
    let o = l.comment (spelling ++ c ∷ []) (comment_longer spelling c h n) in
    let longer = s.longest o.0 (spelling ++ c ∷ []) cs o.1 (sym (append_assoc spelling (c ∷ []) cs)) in
    let sizes : length (spelling ++ c ∷ []) ≡ length spelling + 1 = length-append spelling (c ∷ []) in
    omega arith)

behind_gap : {T : Type 0} → (a : Automaton) (value : ℕ → List ℕ → Option T) (spells : T → List ℕ → Type 0) → IsLanguage a value spells → (place : ℕ) (cs tail : List ℕ) (x : Lexeme) (rest : List ℕ) (tokens : List (Placed T)) (e : Option LexFault) → CutsFirst (Spells a) place cs x rest → value x.kind x.spelling ≡ None → IsGapBefore x.spelling rest → SplitsFrom spells (place + size x.spelling) rest tail tokens e → SplitsFrom spells place cs tail (placed_at x.at (value x.kind x.spelling) ++ tokens) e
behind_gap {T = T} a value spells l place cs tail x rest tokens e b v g o =
    subst (λ (t : Option T). SplitsFrom spells place cs tail (placed_at x.at t ++ tokens) e) (sym v)
    (subst (λ (c : List ℕ). SplitsFrom spells place c tail tokens e) (sym b.parts) (splits_behind a value spells l place x.spelling rest tail tokens e g o))

one_more : {T : Type 0} → (a : Automaton) (value : ℕ → List ℕ → Option T) (spells : T → List ℕ → Type 0) → IsLanguage a value spells → (place : ℕ) (cs tail : List ℕ) (x : Lexeme) (rest : List ℕ) (tokens : List (Placed T)) (e : Option LexFault) → CutsFirst (Spells a) place cs x rest → IsLexemeWith spells (value x.kind x.spelling) x.spelling → SplitsFrom spells (place + size x.spelling) rest tail tokens e → SplitsFrom spells place cs tail (placed_at x.at (value x.kind x.spelling) ++ tokens) e
one_more {T = T} a value spells l place cs tail x rest tokens e b (token t v s) o =
    subst (λ (u : Option T). SplitsFrom spells place cs tail (placed_at x.at u ++ tokens) e) (sym v)
    (place + size x.spelling, rest, token_begins a value spells l place cs x rest t b s, o)
one_more a value spells l place cs tail x rest tokens e b (space v r) o =
    behind_gap a value spells l place cs tail x rest tokens e b v (spaces_before x.spelling rest r) o
one_more a value spells l place cs tail x rest tokens e b (comment v h) o =
    behind_gap a value spells l place cs tail x rest tokens e b v (comment_before x.spelling rest h (comment_ends_line a value spells l x.spelling rest x.kind h b.stands)) o

-- the tokens that lexemes stand for are those of the characters
pub lexemes_are_tokens : {T : Type 0} → (a : Automaton) (value : ℕ → List ℕ → Option T) (spells : T → List ℕ → Type 0) → IsLanguage a value spells → (place : ℕ) (cs tail : List ℕ) (lexemes : List Lexeme) (e : Option LexFault) → Cuts (Spells a) place cs tail lexemes e → SplitsFrom spells place cs tail (tokens_of value lexemes) e
lexemes_are_tokens a value spells l place cs tail [] e h =
    record { gap = []; rest = cs; parts = refl; is_gap = tt; stops = subst (λ (p : ℕ). Stops spells p cs tail e) (here place) (stops_too a value spells l place cs tail e h) }
lexemes_are_tokens a value spells l place cs tail (x ∷ xs) e h =
    one_more a value spells l place cs tail x h.0 (tokens_of value xs) e h.1 (l.says x.kind x.spelling h.1.stands.spelled) (lexemes_are_tokens a value spells l (place + size x.spelling) h.0 tail xs e h.2)
