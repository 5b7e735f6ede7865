use Rattle.std.proofs.Common.{rules}
use Rattle.owl_port.proofs.Taken.{put_then, along}
use Rattle.owl_port.proofs.whole.put_all.Goals as goal

pub loop-put-preserved : goal.loop-put-preserved
loop-put-preserved g c = record {
  within = search rules;
  told = search rules;
  front = λ t.
      put_then c.loop-put.put c.in_ok-put.field-0 c.args.bytes.now _ _ _ (c.loop-put.invariant.front t) (c.in_ok-put.ensures.bytes (along _ _ c.loop-put.invariant.told t));
  faults = search rules;
  none = search rules;
}
