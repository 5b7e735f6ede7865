use Rattle.owl_arena.proofs.Inverses.{behind_first_two}
use Rattle.owl_arena.proofs.arena.Arena.has_at_most_two.Goals as goal

pub returns : goal.returns
returns c = rw (c.are_at_most_two.ensures, c.behind_first.ensures) (behind_first_two c.args.self.now.trees c.distinct.ensures.one_number c.args.kids.now c.requires)
