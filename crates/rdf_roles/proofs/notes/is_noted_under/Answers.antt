use Rattle.std.proofs.Common.{◌∙◌, sym}
use Rattle.rdf_roles.proofs.NotedUnder.{noted_is}
use Rattle.rdf_roles.proofs.notes.is_noted_under.Goals as goal

pub returns-then-is_note : goal.returns-then-is_note
returns-then-is_note c s about is_note =
    noted_is c.args.graph.now c.args.note.now s c.args.under.now about is_note c.reifies_some.result
    (sym (c.role_of.ensures c.args.graph.now c.requires) ∙ c.is_note.ensures.0 c.if-is_note.true) c.about.result.now c.about.ensures c.reifies_some.ensures
