use Rattle.std.proofs.Common.{◌∙◌, ap}
use Rattle.man_resolve.specs.Building.{built}
use Rattle.man_resolve.proofs.GroupLaws.{wanted_cut}
use Rattle.man_resolve.proofs.groups.mean_wanted.Goals as goal

pub returns-else-is_wanted-clause-added : goal.returns-else-is_wanted-clause-added
returns-else-is_wanted-clause-added c =
    wanted_cut c.args.steps.now.items c.mean.new.steps.items c.truncate.new.self.items c.len-before.result c.args.datas c.is_wanted.result _ (c.len-before.ensures ∙ c.args.steps.now.ok.0) c.in_ok-mean.ensures.added
    (λ front t e. c.is_wanted.ensures front t (ap built c.deref.ensures.value ∙ e)) c.if-is_wanted.false c.truncate.ensures.items
