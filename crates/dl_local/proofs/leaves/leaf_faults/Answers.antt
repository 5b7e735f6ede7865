use Rattle.dl_local.proofs.OwnLaws.{leaf_own}
use Rattle.dl_local.proofs.leaves.leaf_faults.Goals as goal

pub returns : goal.returns
returns c = λ o kinds misused.
    leaf_own o c.args.kinds.now c.args.tag c.args.atom.now c.is_undeclared.result c.is_misnamed.result c.args.misused c.has_wrong_form.result c.is_top_data.result kinds c.is_undeclared.ensures c.is_misnamed.ensures misused (c.has_wrong_form.ensures c.args.tag)
    c.is_top_data.ensures
