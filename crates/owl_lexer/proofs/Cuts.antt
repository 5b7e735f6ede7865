-- What is cut of what is begun.
use Rattle.std.proofs.Common.{◌≡◌, ℕ, ◌+◌, ◌<◌, ◌≤◌, Bool, true, Option, None, Some, List, [], ◌∷◌, ◌++◌, length, take, drop, reverse, refl, sym, ap, ◌∙◌, subst, arith}
use Rattle.std.proofs.lemmas.List.{append_assoc, append-nil, length-append, length-reverse, take-append-drop}
use Rattle.std.specs.List.{All}
use Rattle.std.specs.Prelude.{Result, Ok, Err, OnOk}
use Rattle.owl_characters.specs.Utf8.{size}
use Rattle.owl_characters.proofs.Utf8Laws.{size_append}
use Rattle.owl_lexer.specs.declared.fault.LexFault.{LexFault}
use Rattle.owl_lexer.specs.declared.fault.LexFault.TheVariants.{BadToken, Memory}
use Rattle.owl_lexer.specs.Adding.{placed_at, tokens_of}
use Rattle.owl_lexer.proofs.AddingLaws.{added_both}
use Rattle.owl_lexer.specs.Retaking.{AddsCut, CutsFront, HoldsAgain, IsLostRun, MayFollow, RefusesAgain, Settles, begun_with, coming}
use Rattle.owl_lexer.specs.Automata.{Automaton, Spells}
use Rattle.owl_lexer.specs.Cutting.{BeginsNone, Cuts, Lexeme, Stops}
use Rattle.owl_lexer.specs.Giving.{Begun, Continues}
use Rattle.owl_lexer.proofs.GivingLaws.{comes_before, front_of}
use Rattle.owl_lexer.specs.Hands.{Finishes, FinishesBadly, IsFrontOf, IsReady, begun_of}
use Rattle.owl_lexer.specs.Holding.{IsLost}
use Rattle.owl_lexer.proofs.HoldingLaws.{none_first}
use Rattle.owl_lexer.proofs.TotalLaws.{cut}
use Rattle.owl_lexer.specs.declared.again.Again.{Again}
use Rattle.owl_lexer.specs.declared.hand.Front.{Front}
use Rattle.owl_lexer.specs.declared.hand.Hand.{Hand}
use Rattle.owl_lexer.specs.declared.placed.Placed.{Placed}
use Rattle.owl_lexer.proofs.Feeding.{GivesFront, front_added, one_at_most, parts_of}
use Rattle.owl_lexer.proofs.Lost.{barren_always}

-- nothing was cut
pub adds_none : {T : Type 0} → (a : Automaton) (value : ℕ → List ℕ → Option T) (ended : Bool) (begun : Begun) (before : List (Placed T)) → AddsCut a value ended begun before before begun
adds_none a value ended begun before = record {
  given = [];
  added = sym (append-nil before);
  gives = λ more tail rest e f k. k;
  few = omega arith;
  end = refl;
  ends = record { front = []; parts = refl };
}

pub adds_both : {T : Type 0} → (a : Automaton) (value : ℕ → List ℕ → Option T) (ended : Bool) (old mid new : Begun) (before between after : List (Placed T)) → AddsCut a value ended old before between mid → AddsCut a value ended mid between after new → AddsCut a value ended old before after new
adds_both a value ended old mid new before between after t u =
    let few = t.few in
    let fewer = u.few in
    record {
      given = t.given ++ u.given;
      added = added_both value before between after t.given u.given t.added u.added;
      gives = λ more tail rest e f k.
          subst (λ (l : List Lexeme). Continues a old more tail l e) (sym (append_assoc t.given u.given rest)) (t.gives more tail (u.given ++ rest) e f (u.gives more tail rest e f k));
      few = omega arith;
      end = u.end ∙ t.end;
      ends = record { front = t.ends.front ++ u.ends.front; parts = t.ends.parts ∙ ap (λ (l : List ℕ). t.ends.front ++ l) u.ends.parts ∙ sym (append_assoc t.ends.front u.ends.front new.held) };
    }

move : (a : Automaton) (at : ℕ) (xs ys tail : List ℕ) (zs : List Lexeme) (e : Option LexFault) → xs ≡ ys → Cuts (Spells a) at xs tail zs e → Cuts (Spells a) at ys tail zs e
move a at xs ys tail zs e same h = subst (λ (l : List ℕ). Cuts (Spells a) at l tail zs e) same h

-- the longest lexeme in front was cut
pub adds_front : {T : Type 0} → (a : Automaton) (value : ℕ → List ℕ → Option T) (ended : Bool) (old mid : Hand) (front : Front) (cs : List ℕ) (before between : List (Placed T)) → GivesFront a value old mid front before between → IsLost a ended old.state cs → AddsCut a value ended (record { at = old.at; held = old.held.items ++ cs }) before between (record { at = front.end; held = drop front.length old.held.items ++ cs })
adds_front {T = T} a value ended old mid front cs before between g lost =
    let held = old.held.items in
    let behind = drop front.length held in
    let parts = parts_of a old front g.old_ready g.is in
    let wide = parts.wide in
    let bytes = parts.bytes in
    let old_end = g.old_ready.end in
    let sizes = size_append held cs in
    let sizes_behind = size_append behind cs in
    let one : length between ≤ length before + 1 =
    let l = ap (λ (l : List (Placed T)). length l) g.added in
    let m = length-append before (placed_at old.at (value front.kind (take front.length held))) in
    let n = one_at_most old.at (value front.kind (take front.length held)) in
    omega arith in
    record {
      given = front_of old.at held front.length front.kind ∷ [];
      added = front_added a value old mid front before between between [] g (sym (append-nil between));
      gives = λ more tail rest e f k.
          move a old.at (held ++ (cs ++ more)) ((held ++ cs) ++ more) tail (front_of old.at held front.length front.kind ∷ rest) e (sym (append_assoc held cs more))
          (comes_before a old.at held old.state front.length front.kind (cs ++ more) tail rest e g.old_ready.leads g.is.0 (barren_always a ended old.state cs more lost f)
          (subst (λ (p : ℕ). Cuts (Spells a) p (behind ++ (cs ++ more)) tail rest e) g.is.1
          (move a front.end ((behind ++ cs) ++ more) (behind ++ (cs ++ more)) tail rest e (append_assoc behind cs more) k)));
      few = omega arith;
      end = omega arith;
      ends = record { front = take front.length held; parts = ap (λ (l : List ℕ). l ++ cs) (sym (take-append-drop front.length held)) ∙ append_assoc (take front.length held) behind cs };
    }

-- what is behind it is taken again
pub cuts_front : {T : Type 0} → (a : Automaton) (value : ℕ → List ℕ → Option T) (old mid : Hand) (again new : Again) (front : Front) (before between : List (Placed T)) → GivesFront a value old mid front before between → IsLost a again.ended old.state (coming again) → coming new ≡ drop front.length old.held.items ++ coming again → new.ended ≡ again.ended → All (IsLostRun a again.ended [] (drop front.length old.held.items ++ coming again)) new.lost.items → CutsFront a value old again before between mid new
cuts_front a value old mid again new front before between g lost comes ended loses =
    let behind = drop front.length old.held.items ++ coming again in
    let at : mid.at ≡ front.end = ap (λ (b : Begun). b.at) g.begun in
    let held : mid.held.items ≡ [] = ap (λ (b : Begun). b.held) g.begun in
    let left : record { at = front.end; held = behind } ≡ begun_with mid new = λ i. record { at = sym at i; held = (sym comes ∙ ap (λ (l : List ℕ). l ++ coming new) (sym held)) i } in
    let parts = parts_of a old front g.old_ready g.is in
    let some = parts.some in
    let characters = parts.characters in
    let nothing : length mid.held.items ≡ 0 = ap (λ (l : List ℕ). length l) held in
    let many : length new.chars.items ≡ length (drop front.length old.held.items) + length again.chars.items =
    sym (length-reverse new.chars.items) ∙ ap (λ (l : List ℕ). length l) comes ∙ length-append (drop front.length old.held.items) (coming again) ∙ ap (λ (n : ℕ). length (drop front.length old.held.items) + n) (length-reverse again.chars.items) in
    record {
      ready = g.ready;
      kept = subst (λ (l : List ℕ). All (IsLostRun a new.ended l (coming new)) new.lost.items) (sym held)
          (subst (λ (l : List ℕ). All (IsLostRun a new.ended [] l) new.lost.items) (sym comes) (subst (λ (b : Bool). All (IsLostRun a b [] behind) new.lost.items) (sym ended) loses));
      ended = ended;
      adds = subst (AddsCut a value again.ended (begun_with old again) before between) left (adds_front a value again.ended old mid front (coming again) before between g lost);
      fewer = omega arith;
    }

-- what was refused

pub again_memory : {T : Type 0} → (a : Automaton) (value : ℕ → List ℕ → Option T) (ended : Bool) (old : Begun) (before after : List (Placed T)) (fault : LexFault) → fault ≡ Memory → after ≡ before → RefusesAgain a value ended old before after fault
again_memory a value ended old before after fault e same = record {
  some = record {
    given = [];
    added = same ∙ sym (append-nil before);
    next = λ more tail f. let o = cut a old.at (old.held ++ more) tail in (o.lexemes, o.ending, o.cuts);
  };
  bad = λ ne. absurd (ne e);
}

pub again_behind : {T : Type 0} → (a : Automaton) (value : ℕ → List ℕ → Option T) (ended : Bool) (old mid : Begun) (before between after : List (Placed T)) (fault : LexFault) → AddsCut a value ended old before between mid → RefusesAgain a value ended mid between after fault → RefusesAgain a value ended old before after fault
again_behind a value ended old mid before between after fault t r = record {
  some = record {
    given = t.given ++ r.some.given;
    added = added_both value before between after t.given r.some.given t.added r.some.added;
    next = λ more tail f.
        let o = r.some.next more tail f in
        (o.0, o.1, subst (λ (l : List Lexeme). Continues a old more tail l o.1) (sym (append_assoc t.given r.some.given o.0)) (t.gives more tail (r.some.given ++ o.0) o.1 f o.2));
  };
  bad = λ ne.
      let bad = r.bad ne in
      record {
        given = t.given ++ bad.given;
        added = added_both value before between after t.given bad.given t.added bad.added;
        stop = λ more tail f. t.gives more tail bad.given (Some fault) f (bad.stop more tail f);
      };
}

stops_here : (a : Automaton) (at : ℕ) (cs tail : List ℕ) → 0 < length cs → BeginsNone (Spells a) cs → Stops (Spells a) at cs tail (Some (BadToken at))
stops_here a at [] tail some n = absurd (omega arith)
stops_here a at (c ∷ cs) tail some n = (n, refl)

-- no lexeme stands in front
pub again_bad : {T : Type 0} → (a : Automaton) (value : ℕ → List ℕ → Option T) (hand : Hand) (again : Again) (before : List (Placed T)) → IsReady a hand → IsLost a again.ended hand.state (coming again) → 0 < length hand.held.items + length again.chars.items → IsFrontOf a hand.at hand.held.items None → RefusesAgain a value again.ended (begun_with hand again) before before (BadToken hand.at)
again_bad {T = T} a value hand again before r lost some none =
    let held = hand.held.items in
    let cs = coming again in
    let many = length-reverse again.chars.items in
    let stop : (more tail : List ℕ) → MayFollow again.ended more → Stops (Spells a) hand.at ((held ++ cs) ++ more) tail (Some (BadToken hand.at)) = λ more tail f.
    let sizes = length-append held cs in
    let size_more = length-append (held ++ cs) more in
    stops_here a hand.at ((held ++ cs) ++ more) tail (omega arith)
    (subst (BeginsNone (Spells a)) (sym (append_assoc held cs more)) (none_first a held hand.state (cs ++ more) r.leads (barren_always a again.ended hand.state cs more lost f) none)) in
    record {
      some = record { given = []; added = sym (append-nil before); next = λ more tail f. ([], Some (BadToken hand.at), stop more tail f) };
      bad = λ ne. record { given = []; added = sym (append-nil before); stop = stop };
    }

-- what is begun, where nothing is taken again
pub with_none : (hand : Hand) (again : Again) → again.chars.items ≡ [] → begun_with hand again ≡ begun_of hand
with_none hand again e = λ i. record { at = hand.at; held = (ap (λ (l : List ℕ). hand.held.items ++ reverse l) e ∙ append-nil hand.held.items) i }

-- where the end was told

none_follows : (ended : Bool) → MayFollow ended []
none_follows ended e = refl

pub finishes_again : {T : Type 0} → (a : Automaton) (value : ℕ → List ℕ → Option T) (old new : Hand) (again left : Again) (before after : List (Placed T)) → IsReady a old → again.chars.items ≡ [] → again.ended ≡ true → Settles a value old again before after new left → (left.chars.items ≡ []) × (again.ended ≡ true → new.held.items ≡ []) → Finishes a value old before after new
finishes_again a value old new again left before after r none ended s done =
    let t : AddsCut a value again.ended (begun_of old) before after (begun_of new) =
    subst (AddsCut a value again.ended (begun_of old) before after) (with_none new left done.0)
    (subst (λ (b : Begun). AddsCut a value again.ended b before after (begun_with new left)) (with_none old again none) s.adds) in
    let held = done.1 ended in
    let nothing : size new.held.items ≡ 0 = ap size held in
    let end = t.end in
    let few = t.few in
    let old_end = r.end in
    let at : new.at ≡ old.end = omega arith in
    let begun : begun_of new ≡ record { at = old.end; held = [] } = λ i. record { at = at i; held = held i } in
    record {
      ready = s.ready;
      begun = begun;
      adds = record {
        given = t.given ++ [];
        added = t.added ∙ ap (λ l. before ++ tokens_of value l) (sym (append-nil t.given));
        last = λ tail e stops.
            t.gives [] tail [] e (none_follows again.ended) (subst (λ (b : Begun). Continues a b [] tail [] e) (sym begun) (subst (λ (p : ℕ). Stops (Spells a) p [] tail e) (sym old_end) stops));
      };
      few = omega arith;
    }

pub finishes_badly : {T : Type 0} → (a : Automaton) (value : ℕ → List ℕ → Option T) (old : Hand) (again : Again) (before after : List (Placed T)) (fault : LexFault) → again.chars.items ≡ [] → RefusesAgain a value again.ended (begun_with old again) before after fault → FinishesBadly a value (begun_of old) before after fault
finishes_badly a value old again before after fault none s =
    let r : RefusesAgain a value again.ended (begun_of old) before after fault = subst (λ (b : Begun). RefusesAgain a value again.ended b before after fault) (with_none old again none) s in
    record {
      some = record { given = r.some.given; added = r.some.added; next = λ tail. r.some.next [] tail (none_follows again.ended) };
      bad = λ ne. let bad = r.bad ne in record { given = bad.given; added = bad.added; ends = λ tail. bad.stop [] tail (none_follows again.ended) };
    }

-- characters were held again since
still : {T : Type 0} → (a : Automaton) (value : ℕ → List ℕ → Option T) (old_hand now held : Hand) (old again held_again : Again) (before so_far : List (Placed T)) → Settles a value old_hand old before so_far now again → HoldsAgain a now again held held_again → AddsCut a value old.ended (begun_with old_hand old) before so_far (begun_with held held_again)
still a value old_hand now held old again held_again before so_far s h =
    let same : begun_with now again ≡ begun_with held held_again = λ i. record { at = sym h.at i; held = sym h.whole i } in
    subst (AddsCut a value old.ended (begun_with old_hand old) before so_far) same s.adds

pub settles_more : {T : Type 0} → (a : Automaton) (value : ℕ → List ℕ → Option T) (old_hand now held new_hand : Hand) (old again held_again new : Again) (before so_far after : List (Placed T)) → Settles a value old_hand old before so_far now again → HoldsAgain a now again held held_again → CutsFront a value held held_again so_far after new_hand new → Settles a value old_hand old before after new_hand new
settles_more a value old_hand now held new_hand old again held_again new before so_far after s h cuts =
    let ended : held_again.ended ≡ old.ended = h.ended ∙ s.ended in
    record {
      ready = cuts.ready;
      kept = cuts.kept;
      ended = cuts.ended ∙ ended;
      adds = adds_both a value old.ended (begun_with old_hand old) (begun_with held held_again) (begun_with new_hand new) before so_far after
          (still a value old_hand now held old again held_again before so_far s h)
          (subst (λ (b : Bool). AddsCut a value b (begun_with held held_again) so_far after (begun_with new_hand new)) ended cuts.adds);
    }

pub settles_badly : {T : Type 0} → (a : Automaton) (value : ℕ → List ℕ → Option T) (old_hand now held : Hand) (old again held_again : Again) (before so_far after : List (Placed T)) (fault : LexFault) → Settles a value old_hand old before so_far now again → HoldsAgain a now again held held_again → RefusesAgain a value held_again.ended (begun_with held held_again) so_far after fault → RefusesAgain a value old.ended (begun_with old_hand old) before after fault
settles_badly a value old_hand now held old again held_again before so_far after fault s h r =
    again_behind a value old.ended (begun_with old_hand old) (begun_with held held_again) before so_far after fault
    (still a value old_hand now held old again held_again before so_far s h)
    (subst (λ (b : Bool). RefusesAgain a value b (begun_with held held_again) so_far after fault) (h.ended ∙ s.ended) r)

-- where there is an answer, what two clauses say of it
pub on_ok_both : {T E P Q R : Type 0} (r : Result T E) → (P → Q → R) → OnOk r P → OnOk r Q → OnOk r R
on_ok_both (Ok x) f p q = f p q
on_ok_both (Err e) f p q = tt
