use Rattle.std.proofs.lemmas.Result.{on_ok_weaker}
use Rattle.rdf_forward.proofs.Counting.{of_document}
use Rattle.rdf_forward.proofs.labels.count_document.Goals as goal

pub returns : goal.returns
returns c = on_ok_weaker c.count_trees-2.result (λ more. of_document c.args.numbers.now _ _ c.args.doc.now _ _ _ _ c.arena.ensures c.arena-2.ensures c.notes.ensures.notes c.axioms.ensures.axioms c.in_ok-count_trees.ensures more) c.count_trees-2.ensures
