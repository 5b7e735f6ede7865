use Rattle.std.proofs.lemmas.Result.{on_ok_weaker}
use Rattle.blank_labels.proofs.FreshLabelLaws.{counts_both}
use Rattle.ttl_read.proofs.labels.count_triple.Goals as goal

pub returns : goal.returns
returns c = on_ok_weaker c.count_object.result (λ more. counts_both c.args.numbers.now _ _ _ _ c.in_ok-count_node.ensures more) c.count_object.ensures
