use Rattle.owl_documents.specs.Documents.{parsed_of}
use Rattle.owl_answer.proofs.KindsAt.{own_from}
use Rattle.owl_answer.proofs.kinds.own_kinds.Goals as goal

pub returns : goal.returns
returns c =
    own_from (parsed_of c.args.doc.now) c.new-kinds.result c.declare.new.kinds c.new-kinds.ensures c.in_ok-declare.ensures c.is_empty.ensures.ordered
