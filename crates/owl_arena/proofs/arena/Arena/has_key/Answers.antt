use Rattle.owl_arena.proofs.Shapes.{group_member}
use Rattle.owl_arena.proofs.arena.Arena.has_key.Goals as goal

pub returns-then-is_key_tag : goal.returns-then-is_key_tag
returns-then-is_key_tag c = group_member c.args.self.now.trees _ c.kids.result.now _ ((rw c.tag.ensures at c.is_key_tag.ensures).0 c.if-is_key_tag.true) c.kids.ensures.kids c.is_empty.ensures
