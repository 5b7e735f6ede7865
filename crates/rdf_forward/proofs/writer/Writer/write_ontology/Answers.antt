use Rattle.std.proofs.lemmas.Result.{on_ok_weaker}
use Rattle.rdf_forward.proofs.Headers.{ontology_written}
use Rattle.rdf_forward.proofs.writer.Writer.write_ontology.Goals as goal

pub returns : goal.returns
returns c = on_ok_weaker c.write_notes.result (λ notes. ontology_written _ _ _ _ _ _ c.args.doc.now c.head.result.now c.head-2.result.now _ _ _ c.deref.ensures.value c.head.ensures.head c.head-2.ensures.head c.head.ensures.version c.arena.ensures c.notes.ensures.notes c.in_ok-link_ontology.ensures c.in_ok-write_version.ensures c.in_ok-write_imports.ensures notes) c.write_notes.ensures
