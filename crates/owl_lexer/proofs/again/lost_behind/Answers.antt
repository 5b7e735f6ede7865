-- One more run is lost behind the front, or does not lead on over it; and the run in hand is.
use Rattle.std.proofs.Common.{ℕ, List, [], ◌++◌, drop, take, get_or, None, Some, Vec, Global, ap, sym, ◌∙◌, subst}
use Rattle.std.specs.List.{All}
use Rattle.owl_lexer.specs.Automata.{run}
use Rattle.owl_lexer.specs.Retaking.{IsLostRun, coming}
use Rattle.owl_lexer.specs.declared.again.LostRun.{LostRun}
use Rattle.owl_lexer.proofs.Lost.{lost_added, lost_hand, lost_kept}
use Rattle.owl_lexer.proofs.again.lost_behind.Goals as goal
use Rattle.owl_lexer.proofs.again.lost_behind.Goals.{in-Some+in_ok-add_lost, in_default}

pub loop-run-preserved : goal.loop-run-preserved
loop-run-preserved g c =
    let behind = drop c.args.front.length c.args.hand.now.held.items ++ coming c.args.again.now in
    let lost = get_or c.deref-run-items.result.now c.loop-run.run-index (record { first = 0; next = None }) in
    elim c.match-state_behind.branch [
      | in-Some+in_ok-add_lost w ↦
          subst (λ (v : Vec LostRun Global). All (IsLostRun g.L.TokenLanguage.automaton c.args.again.now.ended [] behind) v.items) (sym w.behind-is)
          (lost_added g.L.TokenLanguage.automaton c.args.again.now.ended behind w.in-Some.state c.loop-run.behind.items w.add_lost.new.lost.items
          (lost_kept g.L.TokenLanguage.automaton c.args.again.now.ended c.args.hand.now.held.items (coming c.args.again.now) c.args.front.length w.in-Some.state lost
          (subst (All (IsLostRun g.L.TokenLanguage.automaton c.args.again.now.ended c.args.hand.now.held.items (coming c.args.again.now))) (sym c.deref-run-items.ensures.value) c.requires.kept c.loop-run.run-index (record { first = 0; next = None }) c.loop-run-test.true)
          (ap (λ (l : List ℕ). run g.L.TokenLanguage.automaton (Some lost.first) (take c.args.front.length l)) (sym c.deref.ensures.value) ∙ sym c.state_behind.ensures ∙ w.in-Some.is))
          c.loop-run.invariant w.in_ok-add_lost.ensures)
      | in_default w ↦ subst (λ (v : Vec LostRun Global). All (IsLostRun g.L.TokenLanguage.automaton c.args.again.now.ended [] behind) v.items) (sym w.behind-is) c.loop-run.invariant
    ]

pub returns : goal.returns
returns g c =
    lost_added g.L.TokenLanguage.automaton c.args.again.now.ended (drop c.args.front.length c.args.hand.now.held.items ++ coming c.args.again.now) c.args.front.state c.loop-run.behind.items c.add_lost-2.new.lost.items
    (lost_hand g.L.TokenLanguage.automaton c.args.again.now.ended c.args.hand.now (coming c.args.again.now) c.args.front c.requires.ready c.requires.lost c.requires.front)
    c.loop-run.invariant c.in_ok-add_lost-2.ensures
