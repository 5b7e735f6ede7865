use Rattle.owl_tree.proofs.ShapeTestLaws.{or_first, or_second, tag_told}
use Rattle.owl_arena.proofs.shape.is_key_tag.Goals as goal

pub returns-then-eq : goal.returns-then-eq
returns-then-eq c = or_first _ _ _ c.if-eq.true (tag_told _ _ _ c.eq.ensures)

pub returns-else-eq : goal.returns-else-eq
returns-else-eq c = or_second _ _ _ _ c.if-eq.false (tag_told _ _ _ c.eq.ensures) (tag_told _ _ _ c.eq-else-eq.ensures)
