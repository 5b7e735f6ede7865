use Rattle.man_read_back.proofs.OntologyBackLaws.{ontology_reads_back}
use Rattle.man_read_back.proofs.laws.ontologies_read_back.Goals as goal

-- src/laws.rt:37:1
pub returns : goal.returns
returns c = λ kinds others prefixes o table iris is_ontology canonical light annotations axioms scalars few can typed.
    ontology_reads_back kinds others prefixes o table iris
    (record { is_ontology = is_ontology; canonical = canonical; shallow_annotations = annotations; shallow_axioms = axioms })
    light scalars few can typed
