use Rattle.std.proofs.Common.{Some, ap, sym, ◌∙◌}
use Rattle.std.specs.Str.{chars}
use Rattle.owl_arena.specs.Held.{tree_at}
use Rattle.owl_tree.proofs.ShapeTestLaws.{not_other}
use Rattle.property_hierarchy.proofs.Placing.{names_iri}
use Rattle.property_hierarchy.proofs.builtin.names.Goals as goal

pub returns-in-Some-Iri : goal.returns-in-Some-Iri
returns-in-Some-Iri c =
    names_iri (tree_at c.args.arena.now.trees c.args.id) _ (chars c.args.iri.now) c.is.result (sym c.tag.ensures ∙ not_other _ _ _ c.ne.ensures c.if-ne.false)
    (ap Some (sym c.in-Some-Iri.field-0-is) ∙ c.in-Some-Iri.ensures.atom) c.is.ensures
