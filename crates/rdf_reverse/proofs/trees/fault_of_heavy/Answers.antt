use Rattle.rdf_reverse.proofs.Limiting.{heavy_found}
use Rattle.rdf_reverse.proofs.trees.fault_of_heavy.Goals as goal

pub returns-in-Ok-true : goal.returns-in-Ok-true
returns-in-Ok-true c =
    heavy_found c.args.reading.now c.requires.clear.is_reading.one_header (record { small = c.requires.small; shallow = c.in-Ok-true.ensures c.in-Ok-true.field-0-test }) c.requires.heavy
