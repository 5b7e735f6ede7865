-- White space and comments, which are lexemes, in front of tokens.
use Rattle.std.proofs.Common.{◌≡◌, inl, inr, ℕ, ◌+◌, true, false, ◌||◌, Option, List, [], ◌∷◌, ◌++◌, refl, sym, ap, ◌∙◌, subst, arith}
use Rattle.std.specs.Prelude.{◌==◌, not}
use Rattle.std.proofs.lemmas.Bool.{both_ways, eqb-true, not-true, or_cases, or_right}
use Rattle.std.proofs.lemmas.List.{append_assoc}
use Rattle.owl_characters.specs.Iri.{AllAre}
use Rattle.owl_characters.specs.Names.{IsRunOf}
use Rattle.owl_characters.specs.Utf8.{size}
use Rattle.owl_characters.proofs.Utf8Laws.{size_append}
use Rattle.owl_lexer.specs.Automata.{Automaton}
use Rattle.owl_lexer.specs.Languages.{BeginsNoGap, IsCommentText, IsLanguage}
use Rattle.owl_lexer.proofs.OneWayLaws.{stops_no_gap, token_no_gap}
use Rattle.owl_lexer.specs.Splitting.{BeginsToken, IsComment, IsGap, SplitsFrom, Stops, is_line_end, is_space}
use Rattle.owl_lexer.specs.declared.fault.LexFault.{LexFault}
use Rattle.owl_lexer.specs.declared.placed.Placed.{Placed}

-- these characters are a gap in front of the rest, whichever gap it begins with
abbrev pub IsGapBefore : List ℕ → List ℕ → Type 0
IsGapBefore front rest = (gap more : List ℕ) → rest ≡ gap ++ more → IsGap gap more → BeginsNoGap more → IsGap (front ++ gap) more

spaces_gap : (front rest : List ℕ) → AllAre is_space front → IsGapBefore front rest
spaces_gap [] rest a gap more e g n = g
spaces_gap (c ∷ cs) rest a gap more e g n = inl (a.0, spaces_gap cs rest a.1 gap more e g n)

pub spaces_before : (front rest : List ℕ) → IsRunOf is_space front → IsGapBefore front rest
spaces_before [] rest r = absurd r
spaces_before (c ∷ cs) rest r = spaces_gap (c ∷ cs) rest r

-- the rest is nothing, or begins with a line end
abbrev pub EndsLine : List ℕ → Type 0
EndsLine [] = Unit {0}
EndsLine (c ∷ cs) = is_line_end c ≡ true

comment_on : (cs gap more : List ℕ) → AllAre (λ c. not (is_line_end c)) cs → IsComment gap more → IsComment (cs ++ gap) more
comment_on [] gap more a h = h
comment_on (c ∷ cs) gap more a h = inr (not-true (is_line_end c) a.0, comment_on cs gap more a.1 h)

line_is_space : (c : ℕ) → is_line_end c ≡ true → is_space c ≡ true
line_is_space c h = or_right (32 == c) ((9 == c) || is_line_end c) (or_right (9 == c) (is_line_end c) h)

comment_ends : (rest gap more : List ℕ) → EndsLine rest → rest ≡ gap ++ more → IsGap gap more → BeginsNoGap more → IsComment gap more
comment_ends rest [] [] ends e g n = refl
comment_ends rest [] (c ∷ cs) ends e g n = absurd (both_ways (is_space c) n.0 (line_is_space c (subst EndsLine e ends)))
comment_ends rest (c ∷ cs) more ends e (inl g) n = inl (subst EndsLine e ends, g.1)
comment_ends rest (c ∷ cs) more ends e (inr g) n =
    let line : is_line_end c ≡ true = subst EndsLine e ends in
    elim (or_cases (35 == c) false g.0) [
      | inl same ↦ absurd (both_ways (is_line_end c) (ap is_line_end (sym (eqb-true 35 c same))) line)
      | inr none ↦ absurd (cc)
    ]

pub comment_before : (front rest : List ℕ) → IsCommentText front → EndsLine rest → IsGapBefore front rest
comment_before [] rest h ends gap more e g n = absurd h
comment_before (c ∷ cs) rest h ends gap more e g n =
    subst (λ (x : ℕ). IsGap (x ∷ (cs ++ gap)) more) (sym h.0) (inr (refl, comment_on cs gap more h.1 (comment_ends rest gap more ends e g n)))

moved : (place : ℕ) (front gap : List ℕ) → (place + size front) + size gap ≡ place + size (front ++ gap)
moved place front gap = let sizes : size (front ++ gap) ≡ size front + size gap = size_append front gap in omega arith

behind : (front rest gap more : List ℕ) → rest ≡ gap ++ more → front ++ rest ≡ (front ++ gap) ++ more
behind front rest gap more e = ap (λ (l : List ℕ). front ++ l) e ∙ sym (append_assoc front gap more)

-- tokens behind a gap are tokens
pub splits_behind : {T : Type 0} → (a : Automaton) (value : ℕ → List ℕ → Option T) (spells : T → List ℕ → Type 0) → IsLanguage a value spells → (place : ℕ) (front rest tail : List ℕ) (tokens : List (Placed T)) (e : Option LexFault) → IsGapBefore front rest → SplitsFrom spells (place + size front) rest tail tokens e → SplitsFrom spells place (front ++ rest) tail tokens e
splits_behind a value spells l place front rest tail [] e h s = record {
  gap = front ++ s.gap;
  rest = s.rest;
  parts = behind front rest s.gap s.rest s.parts;
  is_gap = h s.gap s.rest s.parts s.is_gap (stops_no_gap spells (place + size front + size s.gap) s.rest tail e s.stops);
  stops = subst (λ (p : ℕ). Stops spells p s.rest tail e) (moved place front s.gap) s.stops;
}
splits_behind a value spells l place front rest tail (first ∷ others) e h s =
    let b = s.2 in
    let begins : BeginsToken spells place (front ++ rest) first s.0 s.1 = record {
      gap = front ++ b.gap;
      spelling = b.spelling;
      parts = behind front rest b.gap (b.spelling ++ s.1) b.parts;
      is_gap = h b.gap (b.spelling ++ s.1) b.parts b.is_gap (token_no_gap a value spells l first.token b.spelling s.1 b.token);
      at = b.at ∙ moved place front b.gap;
      token = b.token;
      longest = b.longest;
      ends = b.ends;
    } in
    (s.0, s.1, begins, s.3)
