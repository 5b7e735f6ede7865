use Rattle.std.proofs.Common.{sym, ◌∙◌}
use Rattle.owl_reader.proofs.Taking.{anew_if, begins_none}
use Rattle.owl_reader.proofs.progress.Progress.is_anew.Goals as goal

pub returns-then-not-begins : goal.returns-then-not-begins
returns-then-not-begins g c = λ context steps s next e. begins_none steps next (sym e ∙ c.if-not-begins.true)

pub returns : goal.returns
returns g c = anew_if _ _ _ _ _ _ c.args.begins c.behind_items.result.now c.takes_one_of.result c.if-not-begins.false c.behind_items.ensures c.takes_one_of.ensures.tells
