use Rattle.std.proofs.Common.{◌≡◌, ◌↔◌, List, length}
use Rattle.std.specs.List.{AllByRecursion}
use Rattle.rdf_graph.specs.declared.triple.Triple.{Triple}
use Rattle.rdf_faults.specs.Formed.{HasForm}
use Rattle.rdf_rows.specs.Chosen.{objects_with}
use Rattle.rdf_roles.specs.Lengths.{AreLengths}
use Rattle.rdf_roles.specs.Tables.{table_of}
use Rattle.rdf_roles.proofs.rows.all_have_form.Given as goal

abbrev pub invariant-loop-object : goal.invariant-loop-object
invariant-loop-object l = (g : List Triple) → l.table.entries ≡ table_of g → AreLengths g l.lengths → AllByRecursion (HasForm g l.want) (objects_with l.word l.rest) ↔ AllByRecursion (HasForm g l.want) (objects_with l.word l.fn.triples)

abbrev pub decreases-loop-object : goal.decreases-loop-object
decreases-loop-object l = length l.rest
