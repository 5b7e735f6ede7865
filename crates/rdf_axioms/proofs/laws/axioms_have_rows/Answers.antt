use Rattle.rdf_axioms.specs.AxiomRows.{axiom_row, pair_row_twice}
use Rattle.rdf_axioms.proofs.laws.axioms_have_rows.Goals as goal

pub returns-clause-row : goal.returns-clause-row
returns-clause-row c = axiom_row

pub returns-clause-twice : goal.returns-clause-twice
returns-clause-twice c = pair_row_twice
