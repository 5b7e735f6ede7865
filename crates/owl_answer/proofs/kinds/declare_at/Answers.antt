use Rattle.std.proofs.Common.{◌∙◌, ap, map, refl}
use Rattle.std.proofs.lemmas.Option.{slice_get-map, slice_get_past, slice_get_read}
use Rattle.std.proofs.lemmas.Result.{on_ok_weaker}
use Rattle.std.specs.Option.{option_map}
use Rattle.owl_documents.specs.Documents.{parsed_of}
use Rattle.owl_answer.proofs.KindsAt.{adds_found, adds_none}
use Rattle.owl_answer.proofs.Wanting.{parsed_at}
use Rattle.owl_answer.proofs.kinds.declare_at.Goals as goal

pub returns-in-Some : goal.returns-in-Some
returns-in-Some c =
    let docs = c.args.docs.now in
    let doc = c.in-Some.doc.now in
    let found = c.in-Some.ensures.lookup.3 in
    let there = parsed_at docs c.args.place doc (slice_get_read docs _ c.args.place doc refl found.0 (found.1 doc)) in
    on_ok_weaker c.declare.result (adds_found (map parsed_of docs) c.args.place (parsed_of doc) c.args.kinds.now c.declare.new.kinds there) c.declare.ensures

pub returns-in-None : goal.returns-in-None
returns-in-None c =
    let docs = c.args.docs.now in
    adds_none (map parsed_of docs) c.args.place c.args.kinds.now (slice_get-map parsed_of docs c.args.place ∙ ap (option_map parsed_of) (slice_get_past docs c.args.place c.in-None.ensures.lookup.3))
