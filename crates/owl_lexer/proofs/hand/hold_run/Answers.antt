-- The run is held.
use Rattle.std.proofs.Common.{rules, ap, refl, sym, ◌≡◌, ℕ, ◌+◌, length, take}
use Rattle.std.proofs.lemmas.List.{length-take-le}
use Rattle.owl_lexer.proofs.Hands.{ready_run}
use Rattle.owl_lexer.proofs.hand.hold_run.Goals as goal

pub returns-clause-holds : goal.returns-clause-holds
returns-clause-holds g c =
    let count = c.run_length-count.result in
    let many : length (take count c.args.bytes.now) ≡ count = length-take-le count c.args.bytes.now c.run_length-count.ensures.within in
    let end = ap (λ (n : ℕ). c.args.hand.now.end + n) (sym many) in
    record {
      run = c.run_length-count.ensures.run;
      ready = ready_run g.L.TokenLanguage.automaton c.args.hand.now _ (take count c.args.bytes.now) c.requires.ready c.run_length-count.ensures.run refl refl refl (search rules) end;
      at = refl;
      held = search rules;
      end = end;
    }
