use Rattle.std.proofs.lemmas.Result.{on_ok_weaker}
use Rattle.dl_rules.specs.Definitions.{definition_of}
use Rattle.owl_arena.specs.Held.{tree_at}
use Rattle.dl_graphs.proofs.UseLaws.{definition_uses}
use Rattle.dl_graphs.proofs.uses.push_axiom_uses.Goals as goal

pub returns-in-Some : goal.returns-in-Some
returns-in-Some c =
    let ts = c.args.arena.now.trees in
    on_ok_weaker c.push_used.result (definition_uses ts c.requires.shared.one_number c.in-Some.ids (definition_of (tree_at ts c.args.id)) c.in-Some.ensures c.place.result c.place.ensures c.args.pairs.now.items c.push_used.new.pairs.items) c.push_used.ensures
