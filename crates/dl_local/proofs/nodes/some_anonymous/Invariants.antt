use Rattle.std.proofs.Common.{◌≡◌, false, take}
use Rattle.std.specs.List.{list_any}
use Rattle.owl_arena.specs.Held.{tree_at}
use Rattle.owl_tree.specs.declared.tag.Tag.TheVariants as tag
use Rattle.owl_tree.specs.Rows.{is_tag}
use Rattle.owl_tree.specs.Trees.{tag_of}
use Rattle.dl_local.proofs.nodes.some_anonymous.Given as goal

abbrev pub invariant-ids : goal.invariant-ids
invariant-ids l = list_any (λ id. is_tag tag.Anonymous (tag_of (tree_at l.arena.trees id))) (take l.id-index l.ids) ≡ false
