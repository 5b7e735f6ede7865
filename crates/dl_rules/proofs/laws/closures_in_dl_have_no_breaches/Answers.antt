use Rattle.dl_rules.proofs.BreachLaws.{in_dl_unless_broken}
use Rattle.dl_rules.proofs.laws.closures_in_dl_have_no_breaches.Goals as goal

pub returns : goal.returns
returns c = in_dl_unless_broken
