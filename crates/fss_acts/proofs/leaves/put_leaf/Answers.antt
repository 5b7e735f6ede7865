use Rattle.fss_acts.proofs.Documents.{says_grown}
use Rattle.fss_acts.proofs.Put.{roomy}
use Rattle.fss_acts.proofs.leaves.put_leaf.Goals as goal

pub returns-in-Ok : goal.returns-in-Ok
returns-in-Ok c = record {
  added = c.in-Ok.ensures.added;
  room = λ fs h. roomy c.leaf.result _ c.in-Ok.field-0 _ c.in-Ok.is (c.leaf.ensures.too_deep fs h);
  says = says_grown c.args.maker.now.document c.leaf.new.self.document c.made-2.ensures.begun c.leaf.ensures.rest;
}
