-- The acts so far stand behind the events.
use Rattle.std.proofs.Common.{◌≡◌, ◌++◌, map, take}
use Rattle.grammar.specs.Derivations.Event.{Do}
use Rattle.grammar_tests.specs.Events.{events_seen}
use Rattle.grammar_tests.proofs.sentence.move_acts.Given as goal

abbrev pub invariant-loop-act : goal.invariant-loop-act
invariant-loop-act l =
    events_seen l.events.items ≡ events_seen l.fn.events.items ++ map Do (take l.act-index l.act-items)
