-- What is shown behind an act.
use Rattle.std.proofs.Common.{◌≡◌, ◌≤◌, ◌<◌, ◌+◌, ◌++◌, ℕ, List, Option, Some, Result, Ok, Err, refl, sym, ap, ◌∙◌, subst, arith}
use Rattle.std.specs.Prelude.{length}
use Rattle.std.proofs.lemmas.List.{length-append}
use Rattle.owl_reader.specs.declared.fault.TokenFault.{TokenFault}
use Rattle.ttl_grammar.specs.States.{Facts, State, cell_added, forming, reading, stating}
use Rattle.ttl_grammar.specs.declared.node.NodeTriple.{NodeTriple}
use Rattle.ttl_grammar.specs.declared.node.Object.{Object}
use Rattle.owl_reader.specs.Computing.{Turns, TurnsTo}
use Rattle.ttl_read.specs.Keeping.{AreHeld, AreSame, most_nodes}
use Rattle.ttl_read.specs.Showing.{Shows}
use Rattle.ttl_read.specs.declared.assembler.Assembler.{Assembler}
use Rattle.ttl_read.proofs.SameFacts.{IsPlain, IsTurn, Passes, cell_turn, same_plain, turned_after, with_triples}

-- other facts, and the same names and form
facts_shown : (old : Assembler) (now facts : Facts) (state : State) → Shows old state → AreSame now facts → length facts.triples ≤ length state.facts.triples → Shows (record old { facts = now }) (record state { facts = facts })
facts_shown old now facts state h same as_many = record { names = h.names; form = h.form; facts = same; counted = omega (arith, h.counted, as_many); few = h.few }

-- the facts took a turn, and what it states was counted
pub facts_turned : (old mid : Assembler) (now : Facts) (state : State) (turn : Facts → Facts) → IsTurn turn → Shows old state → mid ≡ record old { stated = old.stated + 1 } → old.stated < most_nodes → AreSame now (turn mid.facts) → TurnsTo Shows (Ok tt) (record mid { facts = now }) (stating state (Ok (turn state.facts)))
facts_turned old mid now state turn t h e few is =
    let facts : mid.facts ≡ old.facts = ap (λ (a : Assembler). a.facts) e in
    let adds = t.few state.facts in
    let long : (turn state.facts).triples ≡ state.facts.triples ++ t.adds state.facts = ap (λ (f : Facts). f.triples) (t.is state.facts state.facts.triples) in
    let both = ap length long ∙ length-append state.facts.triples (t.adds state.facts) in
    let same : AreSame now (turn state.facts) = turned_after turn t now old.facts state.facts (subst (λ (f : Facts). AreSame now (turn f)) facts is) h.facts in
    let shown : Shows (record old { stated = old.stated + 1; facts = now }) (record state { facts = turn state.facts }) =
    record { names = h.names; form = h.form; facts = same; counted = omega (arith, h.counted, both, adds); few = omega (arith, few) } in
    (record state { facts = turn state.facts }, refl, subst (λ (a : Assembler). Shows (record a { facts = now }) (record state { facts = turn state.facts })) (sym e) shown)

-- the facts took a turn that states nothing
pub exactly_turned : (old : Assembler) (now : Facts) (state : State) (turn : Facts → Facts) → IsPlain turn → Shows old state → now ≡ turn old.facts → TurnsTo Shows (Ok tt) (record old { facts = now }) (stating state (Ok (turn state.facts)))
exactly_turned old now state turn p h is =
    let as_many = ap (λ (f : Facts). length f.triples) (p state.facts state.facts.triples) in (
      record state { facts = turn state.facts },
      refl,
      facts_shown old now (turn state.facts) state h (subst (λ (f : Facts). AreSame f (turn state.facts)) (sym is) (same_plain turn p old.facts state.facts h.facts)) (omega (arith, as_many)),
    )

-- a term was read
pub term_shown : (old : Assembler) (now : Facts) (state : State) (wanted : Result Object TokenFault) (term : Object) → wanted ≡ Ok term → Shows old state → now ≡ record old.facts { term = Some term } → TurnsTo Shows (Ok tt) (record old { facts = now }) (reading state wanted)
term_shown old now state wanted term e h is =
    let turned = exactly_turned old now state (λ f. record f { term = Some term }) (λ f ts. refl) h is in
    (turned.0, ap (reading state) e ∙ turned.1, turned.2)

-- a cell appeared, or memory ran out
pub cell_turned : (old mid : Assembler) (now : Facts) (state : State) (r : Result (Unit {0}) TokenFault) → Shows old state → mid ≡ record old { stated = old.stated + 1 } → old.stated < most_nodes → TurnsTo AreSame r now (Ok (cell_added mid.facts)) → TurnsTo Shows r (record mid { facts = now }) (stating state (Ok (cell_added state.facts)))
cell_turned old mid now state (Ok done) h e few k =
    let same : cell_added mid.facts ≡ k.0 = let e = k.1 in cc in
    facts_turned old mid now state cell_added cell_turn h e few (subst (AreSame now) (sym same) k.2)
cell_turned old mid now state (Err fault) h e few k = λ other. let e = k other in absurd (cc)

-- what may fail took a turn
passed_by : (old : Assembler) (now : Facts) (state : State) (turn : Facts → Result Facts TokenFault) (r : Result Facts TokenFault) → turn state.facts ≡ r → Passes turn → Shows old state → turn old.facts ≡ Ok now → TurnsTo Shows (Ok tt) (record old { facts = now }) (stating state r)
unfolding Passes with_triples
passed_by old now state turn (Ok facts) e p h is =
    let made : turn old.facts ≡ Ok (record facts { triples = old.facts.triples }) = ap turn h.facts.others ∙ p state.facts old.facts.triples ∙ ap (with_triples old.facts.triples) e in
    let own : Ok facts ≡ Ok (record facts { triples = state.facts.triples }) = sym e ∙ p state.facts state.facts.triples ∙ ap (with_triples state.facts.triples) e in
    let now_is : now ≡ record facts { triples = old.facts.triples } = cc in
    let own_is : facts ≡ record facts { triples = state.facts.triples } = cc in
    let stands : now.triples ≡ old.facts.triples = ap (λ (f : Facts). f.triples) now_is in
    let stood : facts.triples ≡ state.facts.triples = ap (λ (f : Facts). f.triples) own_is in (
      record state { facts = facts },
      refl,
      facts_shown old now facts state h (record {
        others = now_is ∙ ap (λ (ts : List NodeTriple). record facts { triples = ts }) (sym stands);
        triples = subst (λ (ts : List NodeTriple). AreHeld ts facts.triples) (sym stands) (subst (AreHeld old.facts.triples) (sym stood) h.facts.triples);
      }) (let as_many = ap length stood in omega (arith, as_many)),
    )
passed_by old now state turn (Err fault) e p h is =
    let made : turn old.facts ≡ Err fault = ap turn h.facts.others ∙ p state.facts old.facts.triples ∙ ap (with_triples old.facts.triples) e in
    absurd (cc)

failed_by : (old : Assembler) (state : State) (turn : Facts → Result Facts TokenFault) (fault : TokenFault) (r : Result Facts TokenFault) → turn state.facts ≡ r → Passes turn → Shows old state → turn old.facts ≡ Err fault → stating state r ≡ Err fault
unfolding Passes with_triples
failed_by old state turn fault (Ok facts) e p h is =
    let made : turn old.facts ≡ Ok (record facts { triples = old.facts.triples }) = ap turn h.facts.others ∙ p state.facts old.facts.triples ∙ ap (with_triples old.facts.triples) e in
    absurd (cc)
failed_by old state turn fault (Err other) e p h is =
    let made : turn old.facts ≡ Err other = ap turn h.facts.others ∙ p state.facts old.facts.triples ∙ ap (with_triples old.facts.triples) e in
    cc

pub facts_passed : (old : Assembler) (now : Facts) (state : State) (turn : Facts → Result Facts TokenFault) (r : Result (Unit {0}) TokenFault) → Passes turn → Shows old state → Turns r now (turn old.facts) → TurnsTo Shows r (record old { facts = now }) (stating state (turn state.facts))
facts_passed old now state turn (Ok done) p h k = passed_by old now state turn (turn state.facts) refl p h k
facts_passed old now state turn (Err fault) p h k = λ other. failed_by old state turn fault (turn state.facts) refl p h (k other)

-- the form of a literal was kept
pub form_kept : (old : Assembler) (now : List ℕ) (state : State) (next : Option (List ℕ)) (form : List ℕ) → next ≡ Some form → Shows old state → now ≡ form → TurnsTo Shows (Ok tt) (record old { form = now }) (forming state next)
form_kept old now state next form e h is =
    (record state { form = form }, ap (forming state) e, record { names = h.names; form = is; facts = h.facts; counted = h.counted; few = h.few })
