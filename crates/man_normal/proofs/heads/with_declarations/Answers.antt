use Rattle.std.proofs.Common.{rules}
use Rattle.man_normal.proofs.DeclaringLaws.{axiom_later}
use Rattle.man_normal.proofs.heads.with_declarations.Goals as goal

pub declare_head-requires-clause-is_axiom : goal.declare_head-requires-clause-is_axiom
declare_head-requires-clause-is_axiom c =
    axiom_later c.args.arena.now.trees c.axioms.arena.trees c.axioms.made.items _ c.args.axioms.now c.axioms.id-index _ c.axioms.invariant c.requires.held c.requires.are_axioms (search rules) (search rules)
