-- What a character makes of what is in hand, and what a run does.
use Rattle.std.proofs.Common.{◌≡◌, ℕ, zero, suc, ◌+◌, ◌<◌, true, Option, None, Some, List, [], ◌∷◌, ◌++◌, length, take, get_or, refl, sym, ap, ◌∙◌, subst, arith}
use Rattle.std.proofs.lemmas.List.{append_assoc, append-nil, take-append-le, take_all}
use Rattle.std.proofs.Math.Seq.{take-suc}
use lib.Utf8.{low_scalar}
use Rattle.std.specs.Char.{IsScalar, len_utf8}
use Rattle.std.specs.Str.{IsAscii, all_scalars, encode_utf8_all}
use Rattle.std.proofs.lemmas.Bool.{and_from, and_parts}
use Rattle.std.proofs.lemmas.Str.{encodes-IsAscii}
use Rattle.owl_characters.specs.Utf8.{size}
use Rattle.owl_characters.proofs.Utf8Laws.{size_append, size_is}
use Rattle.owl_lexer.specs.Automata.{Automaton, kind_at}
use Rattle.owl_lexer.specs.Hands.{AreRun, IsFrontOf, IsReady}
use Rattle.owl_lexer.specs.Holding.{IsFront, LeadsTo}
use Rattle.owl_lexer.proofs.HoldingLaws.{front_all, front_more, leads_on, none_more}
use Rattle.owl_lexer.specs.Languages.{IsLanguage, IsLexemeWith}
use Rattle.owl_lexer.specs.Languages.IsLexemeWith.{token, space, comment}
use Rattle.owl_lexer.specs.declared.hand.Front.{Front}
use Rattle.owl_lexer.specs.declared.hand.Hand.{Hand}

-- a character that leads on

-- what the characters in hand become
pub record Grows (old new : Hand) (c : ℕ) : Type 0 where
  pub at : new.at ≡ old.at
  pub held : new.held.items ≡ old.held.items ++ c ∷ []
  pub end : new.end ≡ old.end + len_utf8 c
  pub scalar : IsScalar c

leads_grown : (a : Automaton) (old new : Hand) (c : ℕ) → IsReady a old → Grows old new c → a.step old.state c ≡ Some new.state → LeadsTo a (old.held.items ++ c ∷ []) new.state
leads_grown a old new c r g step = leads_on a old.held.items old.state c new.state r.leads step

end_grown : (a : Automaton) (old new : Hand) (c : ℕ) → IsReady a old → Grows old new c → new.end ≡ new.at + size new.held.items
end_grown a old new c r g =
    let sizes : size new.held.items ≡ size old.held.items + size (c ∷ []) = ap size g.held ∙ size_append old.held.items (c ∷ []) in
    let before = r.end in
    let at = g.at in
    let after = g.end in
    omega arith

pub scalar_behind : (cs : List ℕ) (c : ℕ) → all_scalars cs ≡ true → IsScalar c → all_scalars (cs ++ c ∷ []) ≡ true
scalar_behind [] c h s = and_from _ _ s refl
scalar_behind (d ∷ cs) c h s = let parts = and_parts _ _ h in and_from _ _ parts.0 (scalar_behind cs c parts.1 s)

scalars_grown : (a : Automaton) (old new : Hand) (c : ℕ) → IsReady a old → Grows old new c → all_scalars new.held.items ≡ true
scalars_grown a old new c r g = ap all_scalars g.held ∙ scalar_behind old.held.items c r.scalars g.scalar

same_front : (a : Automaton) (at c next : ℕ) (held : List ℕ) (front : Option Front) → LeadsTo a (held ++ c ∷ []) next → a.kind next ≡ None → IsFrontOf a at held front → IsFrontOf a at (held ++ c ∷ []) front
same_front a at c next held None leads kind f = none_more a held c next 0 leads kind f
same_front a at c next held (Some front) leads kind f = (
  front_more a held c next front.length front.kind leads kind f.0,
  f.1 ∙ ap (λ (l : List ℕ). at + size l) (sym (take-append-le front.length held (c ∷ []) f.0.within)),
  subst (λ (l : List ℕ). LeadsTo a l front.state) (sym (take-append-le front.length held (c ∷ []) f.0.within)) f.2,
)

-- what stands in front of the characters so far is remembered, where they are no lexeme with the next one
pub ready_grown : (a : Automaton) (old new : Hand) (c : ℕ) → IsReady a old → Grows old new c → a.step old.state c ≡ Some new.state → (a.kind new.state ≡ None → IsFrontOf a old.at old.held.items new.front) → IsReady a new
ready_grown a old new c r g step front =
    let leads = leads_grown a old new c r g step in
    record {
      leads = subst (λ (l : List ℕ). LeadsTo a l new.state) (sym g.held) leads;
      front = λ none. subst (λ (at : ℕ). IsFrontOf a at new.held.items new.front) (sym g.at)
          (subst (λ (l : List ℕ). IsFrontOf a old.at l new.front) (sym g.held) (same_front a old.at c new.state old.held.items new.front leads none (front none)));
      end = end_grown a old new c r g;
      scalars = scalars_grown a old new c r g;
    }

-- nothing but what is remembered was changed
pub record Remembers (a : Automaton) (old mid : Hand) (next : ℕ) : Type 0 where
  pub at : mid.at ≡ old.at
  pub end : mid.end ≡ old.end
  pub held : mid.held.items ≡ old.held.items
  pub front : a.kind next ≡ None → IsFrontOf a old.at old.held.items mid.front

-- what is held is a lexeme

no_lexeme : {T : Type 0} (spells : T → List ℕ → Type 0) (value : Option T) → ((t : T) (cs : List ℕ) → spells t cs → 0 < length cs) → IsLexemeWith spells value [] → ⊥
no_lexeme spells value some (token t v h) = let none : 0 < length {A = ℕ} [] = some t [] h in absurd (omega arith)
no_lexeme spells value some (space v h) = h
no_lexeme spells value some (comment v h) = h

some_held : {T : Type 0} (a : Automaton) (value : ℕ → List ℕ → Option T) (spells : T → List ℕ → Type 0) → IsLanguage a value spells → (held : List ℕ) (state kind : ℕ) → LeadsTo a held state → a.kind state ≡ Some kind → 0 < length held
some_held a value spells l [] state kind h e = absurd (no_lexeme spells (value kind []) l.some (l.says kind [] (ap (kind_at a) h ∙ e)))
some_held a value spells l (c ∷ held) state kind h e = omega arith

pub front_is_all : {T : Type 0} (a : Automaton) (value : ℕ → List ℕ → Option T) (spells : T → List ℕ → Type 0) → IsLanguage a value spells → (hand : Hand) (kind : ℕ) → IsReady a hand → (count : ℕ) → count ≡ length hand.held.items → a.kind hand.state ≡ Some kind → IsFrontOf a hand.at hand.held.items (Some (record { length = count; state = hand.state; kind = kind; end = hand.end }))
front_is_all a value spells l hand kind r count is e =
    let all = front_all a hand.held.items hand.state kind (some_held a value spells l hand.held.items hand.state kind r.leads e) r.leads e in (
      subst (λ (n : ℕ). IsFront a hand.held.items n kind) (sym is) all,
      r.end ∙ ap (λ (l : List ℕ). hand.at + size l) (sym (take_all count hand.held.items (omega arith))),
      subst (λ (l : List ℕ). LeadsTo a l hand.state) (sym (take_all count hand.held.items (omega arith))) r.leads,
    )

-- a run

run_leads : (a : Automaton) (held : List ℕ) (state : ℕ) (cs : List ℕ) → LeadsTo a held state → AreRun a state cs → LeadsTo a (held ++ cs) state
run_leads a held state [] h r = subst (λ (l : List ℕ). LeadsTo a l state) (sym (append-nil held)) h
run_leads a held state (c ∷ cs) h r =
    subst (λ (l : List ℕ). LeadsTo a l state) (append_assoc held (c ∷ []) cs) (run_leads a (held ++ c ∷ []) state cs (leads_on a held state c state h r.1) r.2)

run_front : (a : Automaton) (at : ℕ) (held : List ℕ) (state : ℕ) (cs : List ℕ) (front : Option Front) → LeadsTo a held state → AreRun a state cs → a.kind state ≡ None → IsFrontOf a at held front → IsFrontOf a at (held ++ cs) front
run_front a at held state [] front h r none f = subst (λ (l : List ℕ). IsFrontOf a at l front) (sym (append-nil held)) f
run_front a at held state (c ∷ cs) front h r none f =
    let next = leads_on a held state c state h r.1 in
    subst (λ (l : List ℕ). IsFrontOf a at l front) (append_assoc held (c ∷ []) cs)
    (run_front a at (held ++ c ∷ []) state cs front next r.2 none (same_front a at c state held front next none f))

run_behind : (a : Automaton) (state : ℕ) (cs : List ℕ) (c : ℕ) → AreRun a state cs → (c < 128) × (a.step state c ≡ Some state) → AreRun a state (cs ++ c ∷ [])
run_behind a state [] c r h = (h.0, h.1, tt)
run_behind a state (d ∷ cs) c r h = (r.0, r.1, run_behind a state cs c r.2 h)

pub run_more : (a : Automaton) (state : ℕ) (bytes : List ℕ) (i : ℕ) → i < length bytes → AreRun a state (take i bytes) → (get_or bytes i 0 < 128) × (a.step state (get_or bytes i 0) ≡ Some state) → AreRun a state (take (i + 1) bytes)
run_more a state bytes i lt r h =
    let next : take i bytes ++ get_or bytes i 0 ∷ [] ≡ take (i + 1) bytes = sym (take-suc bytes i 0 lt) ∙ ap (λ (n : ℕ). take n bytes) (let e : suc i ≡ i + 1 = omega arith in e) in
    subst (AreRun a state) next (run_behind a state (take i bytes) (get_or bytes i 0) r h)

pub run_bytes : (a : Automaton) (state : ℕ) (cs : List ℕ) → AreRun a state cs → encode_utf8_all cs ≡ cs
run_bytes a state cs r = encodes-IsAscii cs (ascii cs r)
  where
    ascii : (cs : List ℕ) → AreRun a state cs → IsAscii cs
    ascii [] r i = omega arith
    ascii (c ∷ cs) r zero = r.0
    ascii (c ∷ cs) r (suc i) = ascii cs r.2 i

pub run_size : (a : Automaton) (state : ℕ) (cs : List ℕ) → AreRun a state cs → size cs ≡ length cs
run_size a state cs r = sym (size_is cs) ∙ ap (λ (l : List ℕ). length l) (run_bytes a state cs r)

pub run_scalars : (a : Automaton) (state : ℕ) (cs : List ℕ) → AreRun a state cs → all_scalars cs ≡ true
run_scalars a state [] r = refl
run_scalars a state (c ∷ cs) r = let small = r.0 in and_from _ _ (low_scalar c (omega arith)) (run_scalars a state cs r.2)

scalars_both : (cs ds : List ℕ) → all_scalars cs ≡ true → all_scalars ds ≡ true → all_scalars (cs ++ ds) ≡ true
scalars_both [] ds h k = k
scalars_both (c ∷ cs) ds h k = let parts = and_parts _ _ h in and_from _ _ parts.0 (scalars_both cs ds parts.1 k)

pub ready_run : (a : Automaton) (old new : Hand) (cs : List ℕ) → IsReady a old → AreRun a old.state cs → new.at ≡ old.at → new.state ≡ old.state → new.front ≡ old.front → new.held.items ≡ old.held.items ++ cs → new.end ≡ old.end + length cs → IsReady a new
ready_run a old new cs r run at state front held end =
    let sizes : size new.held.items ≡ size old.held.items + size cs = ap size held ∙ size_append old.held.items cs in
    let width = run_size a old.state cs run in
    let before = r.end in
    let leads = run_leads a old.held.items old.state cs r.leads run in
    record {
      leads = subst (λ (s : ℕ). LeadsTo a new.held.items s) (sym state) (subst (λ (l : List ℕ). LeadsTo a l old.state) (sym held) leads);
      front = λ none.
          let old_none : a.kind old.state ≡ None = ap a.kind (sym state) ∙ none in
          let is : IsFrontOf a old.at (old.held.items ++ cs) old.front = run_front a old.at old.held.items old.state cs old.front r.leads run old_none (r.front old_none) in
          subst (λ (n : ℕ). IsFrontOf a n new.held.items new.front) (sym at)
          (subst (λ (l : List ℕ). IsFrontOf a old.at l new.front) (sym held) (subst (IsFrontOf a old.at (old.held.items ++ cs)) (sym front) is));
      end = omega arith;
      scalars = ap all_scalars held ∙ scalars_both old.held.items cs r.scalars (run_scalars a old.state cs run);
    }
