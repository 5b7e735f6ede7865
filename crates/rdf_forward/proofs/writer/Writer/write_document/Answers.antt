use Rattle.std.proofs.lemmas.Result.{on_ok_weaker}
use Rattle.rdf_forward.proofs.Whole.{document_written}
use Rattle.rdf_forward.proofs.writer.Writer.write_document.Goals as goal

pub returns : goal.returns
returns c =
    on_ok_weaker c.write_all_axioms.result (λ axioms. document_written _ _ _ c.args.doc.now _ _ c.requires c.arena.ensures c.axioms.ensures.axioms c.in_ok-write_header.ensures axioms) c.write_all_axioms.ensures
