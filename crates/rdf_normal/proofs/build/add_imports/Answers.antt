use Rattle.rdf_normal.proofs.Filling.{import_added}
use Rattle.rdf_normal.proofs.build.add_imports.Goals as goal

pub iris-preserved : goal.iris-preserved
iris-preserved c =
    import_added c.args.builder.now c.iris.builder c.import.new.self c.args.iris.now c.iris.iri-index c.iri-item.result c.in_ok-copy.copy c.iris.invariant c.iris-test.true c.iri-item.is c.in_ok-copy.ensures c.in_ok-import.ensures.ok
