use Rattle.man_resolve.proofs.FittingLaws.{atoms_fit, sections_fit, shapes_fit}
use Rattle.man_resolve.proofs.laws.tables_fit_rows.Goals as goal

pub returns : goal.returns
returns c = record { atoms = atoms_fit; shapes = shapes_fit; sections = sections_fit }
