use Rattle.profile_sorts.proofs.SetLaws.{others_stay, same_is_in}
use Rattle.profile_sorts.proofs.set.SortSet.with.Goals as goal

pub returns-clause-same : goal.returns-clause-same
returns-clause-same c = λ other same. same_is_in c.args.self.bits c.number.result c.args.sort other c.number.ensures.number c.number.ensures.below same

pub returns-clause-others : goal.returns-clause-others
returns-clause-others c = λ other differ. others_stay c.args.self.bits c.number.result c.args.sort other c.number.ensures.number c.number.ensures.below differ
