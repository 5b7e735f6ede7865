use Rattle.std.proofs.Common.{map}
use Rattle.owl_documents.specs.Documents.{parsed_of}
use Rattle.owl_answer.proofs.KindsAt.{closure_at, none_yet}
use Rattle.owl_answer.proofs.kinds.closure_kinds.Goals as goal

pub declare_all-requires : goal.declare_all-requires
declare_all-requires c = none_yet (map parsed_of c.args.docs.now) c.new-kinds.result c.new-kinds.ensures

pub returns : goal.returns
returns c =
    closure_at (map parsed_of c.args.docs.now) c.args.places.now c.declare_all.new.kinds c.requires c.in_ok-declare_all.ensures c.is_empty.ensures.ordered
