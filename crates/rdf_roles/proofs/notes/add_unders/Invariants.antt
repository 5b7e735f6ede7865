use Rattle.std.proofs.Common.{◌≡◌, length}
use Rattle.directed_graphs.specs.Cycles.{edges_of}
use Rattle.rdf_graph.specs.declared.term.Term.{Term}
use Rattle.rdf_meaning.specs.declared.role.Role.TheVariants as role
use Rattle.rdf_meaning.specs.declared.word.Word.TheVariants as word
use Rattle.rdf_meaning.specs.Nodes.{of_subject, role_of}
use Rattle.rdf_rows.specs.Chosen.{objects_with}
use Rattle.rdf_roles.proofs.NotedUnder.{AreUndersLeft}
use Rattle.rdf_roles.proofs.notes.add_unders.Given as goal

abbrev pub invariant-loop-source : goal.invariant-loop-source
invariant-loop-source l =
    (length l.ways.items ≡ length l.fn.ways.items) × ((s : Term) → l.note ≡ of_subject l.graph s → role_of l.graph s ≡ role.Note
    → AreUndersLeft l.graph s l.number (edges_of l.fn.ways.items) (edges_of l.ways.items) (objects_with word.AnnotatedSource l.rest) (objects_with word.AnnotatedSource l.note))

abbrev pub decreases-loop-source : goal.decreases-loop-source
decreases-loop-source l = length l.rest
