use Rattle.std.proofs.Common.{sym, ◌∙◌}
use Rattle.std.proofs.lemmas.Result.{on_ok_weaker}
use Rattle.rdf_normal.proofs.Looping.{spread_turned}
use Rattle.rdf_normal.proofs.spreading.spread.Goals as goal

pub returns-clause-made : goal.returns-clause-made
returns-clause-made c =
    on_ok_weaker c.push.result
    (spread_turned c.args.arena.now.trees c.turned.new.arena.trees c.args.made.now.items c.push.new.ids.items c.args.id c.in_ok-turned.turned c.requires.held (sym c.is_paired.ensures ∙ c.if-is_paired.false) c.in_ok-turned.ensures.made)
    c.push.ensures.pushed
