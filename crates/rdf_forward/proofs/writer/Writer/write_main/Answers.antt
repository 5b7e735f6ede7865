use Rattle.std.proofs.lemmas.Result.{on_ok_weaker}
use Rattle.rdf_forward.proofs.Axioms.{main_written}
use Rattle.rdf_forward.proofs.writer.Writer.write_main.Goals as goal

pub returns : goal.returns
returns c = on_ok_weaker c.write_sets.result (λ sets. main_written _ _ _ c.args.link.now _ c.in_ok-add_main.ensures sets) c.write_sets.ensures
