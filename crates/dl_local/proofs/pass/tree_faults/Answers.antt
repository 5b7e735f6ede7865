use Rattle.std.proofs.Common.{rules, true, ◌≡◌, ◌↔◌, subst}
use Rattle.owl_arena.specs.Held.{tree_at}
use Rattle.owl_breaches.specs.Sites.{axiom_closure}
use Rattle.dl_rules.specs.Local.{HasMisusedDatatype}
use Rattle.dl_local.proofs.CountedLaws.{leaf_told, node_told}
use Rattle.dl_local.proofs.pass.tree_faults.Goals as goal

pub returns-in-Some : goal.returns-in-Some
returns-in-Some c = λ o known told.
    leaf_told o (tree_at c.args.arena.now.trees c.args.id) c.tag-tag.result c.in-Some.atom.now c.has_mark.result c.leaf_faults.result c.tag-tag.ensures c.in-Some.ensures.atom
    (subst (λ b. (b ≡ true) ↔ HasMisusedDatatype (axiom_closure o) (tree_at c.args.arena.now.trees c.args.id)) (search rules) (known.misused_are.told c.args.id c.requires))
    (c.leaf_faults.ensures o known.kinds_are)

pub returns-in-None : goal.returns-in-None
returns-in-None c = λ o known told.
    node_told o c.args.arena.now.trees c.args.found.now c.args.id c.kids.result.now c.kids.ensures.below told c.kids.ensures.kids c.tag-tag.result c.node_faults-own.result c.faults_of_all.result c.or.result c.counted.result c.tag-tag.ensures
    c.in-None.ensures.atom (c.node_faults-own.ensures o known.composite_are) c.faults_of_all.ensures c.or.ensures c.counted.ensures
