use Rattle.std.proofs.Common.{[], length, ◌-◌, ◌≡◌, ◌≤◌, ◌++◌, take, IsTrue}
use Rattle.owl_port.proofs.whole.put_all.Given as goal

abbrev pub invariant-loop-put : goal.invariant-loop-put
invariant-loop-put g l = record {
  within : l.put ≤ length l.bytes;
  told : g.S.Sink.tells l.sink ≡ g.S.Sink.tells l.fn.sink;
  front : IsTrue (g.S.Sink.tells l.fn.sink) → g.S.Sink.written l.sink ≡ g.S.Sink.written l.fn.sink ++ take l.put l.bytes;
  faults : g.S.Sink.faults l.fn.sink ≤ g.S.Sink.faults l.sink;
  none : l.bytes ≡ [] → l.sink ≡ l.fn.sink;
}

abbrev pub decreases-loop-put : goal.decreases-loop-put
decreases-loop-put g l = length l.bytes - l.put
