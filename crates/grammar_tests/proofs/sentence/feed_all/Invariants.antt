-- The tokens so far were fed.
use Rattle.std.proofs.Common.{◌≡◌, [], take}
use Rattle.grammar_tests.specs.Events.{IsFed, events_seen}
use Rattle.grammar_tests.proofs.sentence.feed_all.Given as goal

abbrev pub invariant-loop-place : goal.invariant-loop-place
invariant-loop-place l = record {
  fed : IsFed (take l.place l.classes) (events_seen l.events.items) l.parser;
  empty : l.acts.items ≡ [];
}
