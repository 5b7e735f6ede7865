use Rattle.std.proofs.lemmas.Result.{on_ok_weaker}
use Rattle.rdf_forward.proofs.Axioms.{looped_written}
use Rattle.rdf_forward.proofs.writer.Writer.write_looped.Goals as goal

pub returns : goal.returns
returns c =
    on_ok_weaker c.write_main.result (λ main. looped_written _ _ _ _ _ c.args.predicate.now _ _ (c.tree_end-end.ensures _) c.link_at-link.ensures c.in_ok-write_tree.ensures main) c.write_main.ensures
