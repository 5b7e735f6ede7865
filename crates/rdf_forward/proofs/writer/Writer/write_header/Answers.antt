use Rattle.std.proofs.Common.{refl}
use Rattle.std.proofs.lemmas.Result.{on_ok_weaker}
use Rattle.rdf_forward.proofs.Headers.{named_written}
use Rattle.rdf_forward.proofs.writer.Writer.write_header.Goals as goal

pub returns-in-Some : goal.returns-in-Some
returns-in-Some c = on_ok_weaker c.write_ontology.result (λ below. named_written _ _ c.args.doc.now c.head.result.now _ _ c.head.ensures.head c.in-Some.is c.requires refl below) c.write_ontology.ensures
