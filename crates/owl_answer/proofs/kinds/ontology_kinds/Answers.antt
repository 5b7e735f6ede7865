use Rattle.owl_documents.specs.Documents.{an_ontology, in_functional, said_of}
use Rattle.owl_answer.proofs.KindsAt.{own_from}
use Rattle.owl_answer.proofs.kinds.ontology_kinds.Goals as goal

pub returns : goal.returns
returns c =
    own_from (an_ontology in_functional (said_of c.args.doc.now)) c.new-kinds.result c.declared.new.kinds c.new-kinds.ensures c.in_ok-declared.ensures.ok c.is_empty.ensures.ordered
