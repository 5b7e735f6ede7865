-- What is known of a run that is lost.
use Rattle.std.proofs.Common.{◌≡◌, ◌⊎◌, inl, inr, ℕ, suc, get_or, ◌+◌, ◌<◌, ◌≤◌, Bool, true, false, Option, None, Some, List, [], ◌∷◌, ◌++◌, length, take, drop, reverse, refl, sym, ap, ◌∙◌, subst, arith}
use Rattle.std.proofs.lemmas.List.{append_assoc, drop-set-lt, length-append, length-take-le, reverse-append, take-append-drop, take_all, take-append-le, take_more_set}
use Rattle.std.proofs.lemmas.List.Elements.{All-head, All-nil, All-push, All-tail}
use Rattle.std.proofs.Math.ListN.{set}
use Rattle.std.proofs.Math.Seq.{drop-cons, take-append_seam, take-suc}
use Rattle.std.proofs.lemmas.Bool.{eqb-true}
use Rattle.std.specs.List.{All}
use Rattle.std.specs.Option.{option_eq}
use lib.Dec.{eqb}
use Rattle.std.specs.Char.{len_utf8}
use Rattle.owl_characters.specs.Utf8.{size}
use Rattle.owl_characters.proofs.Utf8Laws.{size_append}
use Rattle.owl_lexer.proofs.Feeding.{parted}
use Rattle.owl_lexer.specs.Giving.{end_of}
use Rattle.owl_lexer.specs.Retaking.{AreKept, HoldsAgain, IsLostRun, MayFollow, begun_with, coming}
use Rattle.owl_lexer.specs.Automata.{Automaton, Spells, kind_at, run, step_from}
use Rattle.owl_lexer.specs.Hands.{IsFrontOf, IsReady}
use Rattle.owl_lexer.specs.Holding.{IsBarren, IsLost, NoneBeyond}
use Rattle.owl_lexer.proofs.HoldingLaws.{nowhere_barren, run-append, run-none, stuck_barren}
use Rattle.owl_lexer.specs.declared.again.Again.{Again}
use Rattle.owl_lexer.specs.declared.again.LostRun.{LostRun}
use Rattle.owl_lexer.specs.declared.hand.Front.{Front}
use Rattle.owl_lexer.specs.declared.hand.Hand.{Hand}

-- runs that are barren

barren_behind : (a : Automaton) (state : Option ℕ) (xs ys : List ℕ) → IsBarren a state (xs ++ ys) → IsBarren a (run a state xs) ys
barren_behind a state [] ys h = h
barren_behind a state (x ∷ xs) ys h = barren_behind a (step_from a state x) xs ys h.1

barren_both : (a : Automaton) (state : Option ℕ) (xs ys : List ℕ) → IsBarren a state xs → IsBarren a (run a state xs) ys → IsBarren a state (xs ++ ys)
barren_both a state [] ys h k = k
barren_both a state (x ∷ xs) ys h k = (h.0, barren_both a (step_from a state x) xs ys h.1 k)

-- behind the longest lexeme in front no lexeme is whole
front_barren : (a : Automaton) (front behind : List ℕ) (state : Option ℕ) → run a (Some a.start) front ≡ state → NoneBeyond a (front ++ behind) (length front) → IsBarren a state behind
front_barren a front [] state e n = tt
front_barren a front (c ∷ behind) state e n =
    let next : run a (Some a.start) (front ++ c ∷ []) ≡ step_from a state c = run-append a (Some a.start) front (c ∷ []) ∙ ap (λ (s : Option ℕ). step_from a s c) e in
    let whole : (front ++ c ∷ []) ++ behind ≡ front ++ c ∷ behind = append_assoc front (c ∷ []) behind in
    let size = length-append front (c ∷ []) in
    let more = length-append front (c ∷ behind) in
    let first : take (length (front ++ c ∷ [])) (front ++ c ∷ behind) ≡ front ++ c ∷ [] =
    ap (take (length (front ++ c ∷ []))) (sym whole) ∙ take-append-le (length (front ++ c ∷ [])) (front ++ c ∷ []) behind (omega arith) ∙ take_all (length (front ++ c ∷ [])) (front ++ c ∷ []) (omega arith) in (
      no_kind (kind_at a (step_from a state c)) (λ kind is.
          n (length (front ++ c ∷ [])) kind (omega arith) (omega arith) (subst (Spells a kind) (sym first) (ap (kind_at a) next ∙ is))),
      front_barren a (front ++ c ∷ []) behind (step_from a state c) next
          (λ m kind lt le s. n m kind (omega arith) (subst (λ (l : List ℕ). m ≤ length l) whole le) (subst (λ (l : List ℕ). Spells a kind (take m l)) whole s)),
    )
  where
    no_kind : (k : Option ℕ) → ((kind : ℕ) → k ≡ Some kind → ⊥) → k ≡ None
    no_kind None h = refl
    no_kind (Some kind) h = absurd (h kind refl)

-- runs that are lost

-- behind characters over which it leads on
lost_behind : (a : Automaton) (ended : Bool) (state : ℕ) (xs ys : List ℕ) (next : ℕ) → IsLost a ended state (xs ++ ys) → run a (Some state) xs ≡ Some next → IsLost a ended next ys
lost_behind a ended state xs ys next h e = record {
  barren = subst (λ (o : Option ℕ). IsBarren a o ys) e (barren_behind a (Some state) xs ys h.barren);
  stops = λ f. sym (ap (λ (o : Option ℕ). run a o ys) e) ∙ sym (run-append a (Some state) xs ys) ∙ h.stops f;
}

-- before characters behind which it is
lost_before : (a : Automaton) (ended : Bool) (state : ℕ) (xs ys : List ℕ) (next : ℕ) → IsBarren a (Some state) xs → run a (Some state) xs ≡ Some next → IsLost a ended next ys → IsLost a ended state (xs ++ ys)
lost_before a ended state xs ys next h e k = record {
  barren = barren_both a (Some state) xs ys h (subst (λ (o : Option ℕ). IsBarren a o ys) (sym e) k.barren);
  stops = λ f. run-append a (Some state) xs ys ∙ ap (λ (o : Option ℕ). run a o ys) e ∙ k.stops f;
}

-- before a character that leads nowhere
pub lost_stuck : (a : Automaton) (ended : Bool) (state c : ℕ) (cs : List ℕ) → a.step state c ≡ None → IsLost a ended state (c ∷ cs)
lost_stuck a ended state c cs e = record {
  barren = stuck_barren a state c cs e;
  stops = λ f. ap (λ (o : Option ℕ). run a o cs) e ∙ run-none a cs;
}

-- whatever may follow, no lexeme is whole
pub barren_always : (a : Automaton) (ended : Bool) (state : ℕ) (cs more : List ℕ) → IsLost a ended state cs → MayFollow ended more → IsBarren a (Some state) (cs ++ more)
barren_always a true state cs more h f = subst (λ (l : List ℕ). IsBarren a (Some state) (cs ++ l)) (sym (f refl)) (barren_both a (Some state) cs [] h.barren tt)
barren_always a false state cs more h f =
    barren_both a (Some state) cs more h.barren (subst (λ (o : Option ℕ). IsBarren a o more) (sym (h.stops refl)) (nowhere_barren a more))

-- the runs that are kept

-- where one of them stands at a state
pub lost_too : (a : Automaton) (ended : Bool) (state : ℕ) (held cs : List ℕ) (lost : LostRun) → lost.next ≡ Some state → IsLostRun a ended held cs lost → IsLost a ended state cs
lost_too a ended state held cs lost e h = lost_behind a ended lost.first held cs state h.is (h.leads ∙ e)

pub same_state : (next : Option ℕ) (state : ℕ) → true ≡ option_eq eqb next (Some state) → next ≡ Some state
same_state None state e = absurd (cc)
same_state (Some next) state e = ap Some (eqb-true next state (sym e))

pub one_lost : (a : Automaton) (ended : Bool) (state : ℕ) (held cs : List ℕ) (runs : List LostRun) (i : ℕ) (d : LostRun) → i < length runs → (get_or runs i d).next ≡ Some state → All (IsLostRun a ended held cs) runs → IsLost a ended state cs
one_lost a ended state held cs runs i d lt e all = lost_too a ended state held cs (get_or runs i d) e (all i d lt)

-- it leads on over a character
leads_over : (a : Automaton) (ended : Bool) (held : List ℕ) (c : ℕ) (cs : List ℕ) (lost new : LostRun) → new.first ≡ lost.first → new.next ≡ step_from a lost.next c → IsLostRun a ended held (c ∷ cs) lost → IsLostRun a ended (held ++ c ∷ []) cs new
leads_over a ended held c cs lost new first next h = record {
  is = subst (λ (s : ℕ). IsLost a ended s ((held ++ c ∷ []) ++ cs)) (sym first) (subst (IsLost a ended lost.first) (sym (append_assoc held (c ∷ []) cs)) h.is);
  leads =
      ap (λ (s : ℕ). run a (Some s) (held ++ c ∷ [])) first ∙ run-append a (Some lost.first) held (c ∷ [])
      ∙ ap (λ (s : Option ℕ). step_from a s c) h.leads ∙ sym next;
}

-- those before a place were taken over it
pub record LeadOn (a : Automaton) (ended : Bool) (held : List ℕ) (c : ℕ) (cs : List ℕ) (i : ℕ) (runs : List LostRun) : Type 0 where
  pub done : All (IsLostRun a ended (held ++ c ∷ []) cs) (take i runs)
  pub left : All (IsLostRun a ended held (c ∷ cs)) (drop i runs)

pub leads_more : (a : Automaton) (ended : Bool) (held : List ℕ) (c : ℕ) (cs : List ℕ) (i : ℕ) (runs : List LostRun) (d new : LostRun) → i < length runs → new.first ≡ (get_or runs i d).first → new.next ≡ step_from a (get_or runs i d).next c → LeadOn a ended held c cs i runs → LeadOn a ended held c cs (i + 1) (set runs i new)
leads_more a ended held c cs i runs d new lt first next h =
    let lost = get_or runs i d in
    let next_place : suc i ≡ i + 1 = omega arith in
    let parts : drop i runs ≡ lost ∷ drop (i + 1) runs = drop-cons runs i d lt ∙ ap (λ (n : ℕ). lost ∷ drop n runs) next_place in
    let all = subst (All (IsLostRun a ended held (c ∷ cs))) parts h.left in
    let old = All-head (IsLostRun a ended held (c ∷ cs)) lost (drop (i + 1) runs) all in
    let others = All-tail (IsLostRun a ended held (c ∷ cs)) lost (drop (i + 1) runs) all in
    record {
      done = subst (All (IsLostRun a ended (held ++ c ∷ []) cs)) (sym (take_more_set runs i new lt)) (All-push (IsLostRun a ended (held ++ c ∷ []) cs) (take i runs) new h.done (leads_over a ended held c cs lost new first next old));
      left = subst (All (IsLostRun a ended held (c ∷ cs))) (sym (drop-set-lt (i + 1) runs i new (omega arith))) others;
    }

pub leads_none : (a : Automaton) (ended : Bool) (held : List ℕ) (c : ℕ) (cs : List ℕ) (runs : List LostRun) → All (IsLostRun a ended held (c ∷ cs)) runs → LeadOn a ended held c cs 0 runs
leads_none a ended held c cs runs all = record { done = All-nil (IsLostRun a ended (held ++ c ∷ []) cs); left = all }

-- all were, and are put back where they stood
pub leads_back : (a : Automaton) (ended : Bool) (held : List ℕ) (c : ℕ) (cs : List ℕ) (i : ℕ) (runs others : List LostRun) (n : ℕ) → length runs ≡ n → length runs ≤ i → LeadOn a ended held c cs i runs → All (IsLostRun a ended (held ++ c ∷ []) cs) (take n (runs ++ others))
leads_back a ended held c cs i runs others n e le h =
    let same : take n (runs ++ others) ≡ take i runs = ap (λ (k : ℕ). take k (runs ++ others)) (sym e) ∙ take-append_seam runs others ∙ sym (take_all i runs le) in
    subst (All (IsLostRun a ended (held ++ c ∷ []) cs)) (sym same) h.done

-- behind the longest lexeme in front: a run that was kept
pub lost_kept : (a : Automaton) (ended : Bool) (held cs : List ℕ) (count state : ℕ) (lost : LostRun) → IsLostRun a ended held cs lost → run a (Some lost.first) (take count held) ≡ Some state → IsLostRun a ended [] (drop count held ++ cs) (record { first = state; next = Some state })
lost_kept a ended held cs count state lost h e =
    let parts : held ++ cs ≡ take count held ++ (drop count held ++ cs) = ap (λ (l : List ℕ). l ++ cs) (sym (take-append-drop count held)) ∙ append_assoc (take count held) (drop count held) cs in
    record { is = lost_behind a ended lost.first (take count held) (drop count held ++ cs) state (subst (IsLost a ended lost.first) parts h.is) e; leads = refl }

-- and the run in hand
pub lost_hand : (a : Automaton) (ended : Bool) (hand : Hand) (cs : List ℕ) (front : Front) → IsReady a hand → IsLost a ended hand.state cs → IsFrontOf a hand.at hand.held.items (Some front) → IsLostRun a ended [] (drop front.length hand.held.items ++ cs) (record { first = front.state; next = Some front.state })
lost_hand a ended hand cs front r h f =
    let held = hand.held.items in
    let parts = take-append-drop front.length held in
    let size : length (take front.length held) ≡ front.length = length-take-le front.length held f.0.within in
    let none : NoneBeyond a (take front.length held ++ drop front.length held) (length (take front.length held)) =
    subst (NoneBeyond a (take front.length held ++ drop front.length held)) (sym size) (subst (λ (l : List ℕ). NoneBeyond a l front.length) (sym parts) f.0.longest) in
    let leads : run a (Some front.state) (drop front.length held) ≡ Some hand.state =
    ap (λ (o : Option ℕ). run a o (drop front.length held)) (sym f.2) ∙ sym (run-append a (Some a.start) (take front.length held) (drop front.length held))
    ∙ ap (run a (Some a.start)) parts ∙ r.leads in
    record { is = lost_before a ended front.state (drop front.length held) cs hand.state (front_barren a (take front.length held) (drop front.length held) (Some front.state) f.2 none) leads h; leads = refl }

-- one was added
pub lost_added : (a : Automaton) (ended : Bool) (cs : List ℕ) (state : ℕ) (before after : List LostRun) → IsLostRun a ended [] cs (record { first = state; next = Some state }) → All (IsLostRun a ended [] cs) before → (after ≡ before) ⊎ (after ≡ before ++ record { first = state; next = Some state } ∷ []) → All (IsLostRun a ended [] cs) after
lost_added a ended cs state before after h all (inl e) = subst (All (IsLostRun a ended [] cs)) (sym e) all
lost_added a ended cs state before after h all (inr e) =
    subst (All (IsLostRun a ended [] cs)) (sym e) (All-push (IsLostRun a ended [] cs) before (record { first = state; next = Some state }) all h)

-- characters that are taken again

-- the last one is the next
pub next_is : (chars rest : List ℕ) (c : ℕ) → chars ≡ rest ++ c ∷ [] → reverse chars ≡ c ∷ reverse rest
next_is chars rest c e = ap (λ (l : List ℕ). reverse l) e ∙ reverse-append rest (c ∷ [])

-- one was held
pub holds_more : (a : Automaton) (first_hand hand new_hand : Hand) (first again new : Again) (c : ℕ) → HoldsAgain a first_hand first hand again → coming again ≡ c ∷ coming new → new.ended ≡ again.ended → IsReady a new_hand → new_hand.at ≡ hand.at → new_hand.held.items ≡ hand.held.items ++ c ∷ [] → All (IsLostRun a again.ended (hand.held.items ++ c ∷ []) (coming new)) new.lost.items → HoldsAgain a first_hand first new_hand new
holds_more a first_hand hand new_hand first again new c h is ended ready at held kept = record {
  ready = ready;
  kept = subst (λ (l : List ℕ). All (IsLostRun a new.ended l (coming new)) new.lost.items) (sym held) (subst (λ (b : Bool). All (IsLostRun a b (hand.held.items ++ c ∷ []) (coming new)) new.lost.items) (sym ended) kept);
  ended = ended ∙ h.ended;
  at = at ∙ h.at;
  whole =
      ap (λ (l : List ℕ). l ++ coming new) held ∙ append_assoc hand.held.items (c ∷ []) (coming new)
      ∙ ap (λ (l : List ℕ). hand.held.items ++ l) (sym is) ∙ h.whole;
}

-- they stand in front of what is taken again
pub kept_next : (a : Automaton) (hand : Hand) (again : Again) (rest : List ℕ) (c : ℕ) → again.chars.items ≡ rest ++ c ∷ [] → AreKept a hand again → All (IsLostRun a again.ended hand.held.items (c ∷ reverse rest)) again.lost.items
kept_next a hand again rest c e h = subst (λ (l : List ℕ). All (IsLostRun a again.ended hand.held.items l) again.lost.items) (next_is again.chars.items rest c e) h

-- one was put back
pub lost_next : (a : Automaton) (hand : Hand) (again : Again) (rest chars : List ℕ) (c : ℕ) → again.chars.items ≡ rest ++ c ∷ [] → chars ≡ rest ++ c ∷ [] → AreKept a hand again → ((ended : Bool) (held cs : List ℕ) → All (IsLostRun a ended held (c ∷ cs)) again.lost.items → IsLost a ended hand.state (c ∷ cs)) → IsLost a again.ended hand.state (reverse chars)
lost_next a hand again rest chars c e f kept lost =
    subst (IsLost a again.ended hand.state) (sym (next_is chars rest c f)) (lost again.ended hand.held.items (reverse rest) (kept_next a hand again rest c e kept))

-- there is room for it
pub room_again : (a : Automaton) (first_hand hand : Hand) (first again : Again) (rest : List ℕ) (c : ℕ) → HoldsAgain a first_hand first hand again → again.chars.items ≡ rest ++ c ∷ [] → hand.end + len_utf8 c ≤ end_of (begun_with first_hand first)
room_again a first_hand hand first again rest c h e =
    let sizes : size (first_hand.held.items ++ coming first) ≡ size hand.held.items + size (c ∷ reverse rest) =
    ap size (sym h.whole) ∙ size_append hand.held.items (coming again) ∙ ap (λ (l : List ℕ). size hand.held.items + size l) (next_is again.chars.items rest c e) in
    let end = h.ready.end in
    let at = h.at in
    omega arith

-- the state behind several characters

pub no_state : (a : Automaton) (first : Option ℕ) (chars : List ℕ) (i state : ℕ) → i < length chars → run a first (take i chars) ≡ Some state → a.step state (get_or chars i 0) ≡ None → run a first chars ≡ None
no_state a first chars i state lt h e =
    let c = get_or chars i 0 in
    ap (run a first) (sym (parted chars i lt)) ∙ run-append a first (take i chars) (c ∷ drop (suc i) chars)
    ∙ ap (λ (o : Option ℕ). run a o (c ∷ drop (suc i) chars)) h ∙ ap (λ (o : Option ℕ). run a o (drop (suc i) chars)) e ∙ run-none a (drop (suc i) chars)

pub state_more : (a : Automaton) (first : Option ℕ) (chars : List ℕ) (i state next : ℕ) → i < length chars → run a first (take i chars) ≡ Some state → a.step state (get_or chars i 0) ≡ Some next → run a first (take (i + 1) chars) ≡ Some next
state_more a first chars i state next lt h e =
    let c = get_or chars i 0 in
    let more : take (i + 1) chars ≡ take i chars ++ c ∷ [] = ap (λ (n : ℕ). take n chars) (let e : i + 1 ≡ suc i = omega arith in e) ∙ take-suc chars i 0 lt in
    ap (run a first) more ∙ run-append a first (take i chars) (c ∷ []) ∙ ap (λ (o : Option ℕ). step_from a o c) h ∙ e
