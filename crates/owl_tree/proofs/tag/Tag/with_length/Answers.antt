-- No tag has a name of another length.
use Rattle.std.proofs.Common.{arith}
use Rattle.owl_tree.proofs.Keywords.{none_with_length}
use Rattle.owl_tree.proofs.tag.Tag.with_length.Goals as goal

pub returns-in_default : goal.returns-in_default
returns-in_default c =
    let others = c.in_default in
    none_with_length c.args.length (λ above below. omega arith) (λ e. omega (arith, e)) (λ e. omega (arith, e))
