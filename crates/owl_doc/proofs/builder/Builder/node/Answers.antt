use Rattle.std.proofs.Common.{OnOk, subst}
use Rattle.owl_doc.specs.Documents.{Document}
use Rattle.owl_arena.specs.Growth.{Adds}
use Rattle.owl_arena.specs.Held.{node_over}
use Rattle.owl_doc.proofs.Begun.{grown_kept}
use Rattle.owl_tree.specs.Canonical.{canonical}
use Rattle.owl_doc.proofs.builder.Builder.node.Goals as goal

pub invariant_of-self : goal.invariant_of-self
invariant_of-self c = grown_kept c.self.inside c.node.new.self _ c.node.result c.node.ensures.added c.node.ensures.err c.self.invariant

pub returns-clause-added : goal.returns-clause-added
returns-clause-added c = subst (λ (d : Document). OnOk c.node.result (Adds d.arena.trees c.node.new.self.trees (canonical (node_over d.arena.trees c.args.tag c.args.kids.items)))) c.self.view_is c.node.ensures.added
