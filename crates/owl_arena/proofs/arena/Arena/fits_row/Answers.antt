use Rattle.owl_arena.proofs.Shapes.{row_fits, row_refuses}
use Rattle.owl_arena.proofs.arena.Arena.fits_row.Goals as goal

pub returns-then-takes_count : goal.returns-then-takes_count
returns-then-takes_count c = rw (← c.row-row.ensures) (rw c.if-takes_count.true at (row_fits _ c.args.self.now.trees c.args.kids.now c.takes_count.result c.admits_all.result c.takes_count.ensures c.admits_all.ensures))

pub returns-else-takes_count : goal.returns-else-takes_count
returns-else-takes_count c = rw (← c.row-row.ensures) (row_refuses _ c.args.self.now.trees c.args.kids.now c.takes_count.result c.if-takes_count.false c.takes_count.ensures)
