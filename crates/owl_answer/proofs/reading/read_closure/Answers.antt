use Rattle.std.proofs.Common.{List, rules, ◌∙◌, map, subst, sym, arith}
use Rattle.std.proofs.lemmas.List.{nil_from_length}
use Rattle.std.proofs.lemmas.Option.{slice_get_within}
use Rattle.std.specs.Vec.Iter.{into_iter_items}
use Rattle.owl_doc.specs.Documents as doc
use Rattle.owl_documents.specs.Documents.{parsed_of}
use Rattle.owl_answer.proofs.Readings.{IsReadBefore, all_read, fault_found, left_at, none_left, none_read, read_at, some_documents}
use Rattle.owl_answer.proofs.Wanting.{parsed_at}
use Rattle.owl_answer.proofs.reading.read_closure.Goals as goal

pub loop-document-init : goal.loop-document-init
loop-document-init c = record {
  read = subst (λ (ds : List doc.Document). IsReadBefore (map parsed_of c.args.docs.items) c.args.closure.now.kinds c.args.closure.now.places.items 0 ds) (sym c.new-said.ensures.items) (none_read (map parsed_of c.args.docs.items) c.args.closure.now.kinds c.args.closure.now.places.items c.requires.reached.ascending);
  left = c.into_iter-document-iterator.ensures.into_iter_gives.0;
  within = omega arith;
  len = search rules;
}

pub returns-in-Err-clause-fault : goal.returns-in-Err-clause-fault
returns-in-Err-clause-fault c =
    let docs = c.args.docs.items in
    let document = c.in-Some.document in
    let here = left_at docs c.loop-document.place document _ (sym c.loop-document.invariant.left ∙ c.in-Some.ensures.steps.0) in
    fault_found (map parsed_of docs) c.args.closure.now.kinds c.args.closure.now.places.items c.requires.reached.ascending c.loop-document.place c.loop-document.said.items c.loop-document.invariant.read c.in-Err.ensures.fault.0 c.in-Err.fault (parsed_of document, parsed_at docs c.loop-document.place document here.0, c.in-Err.ensures.fault.1)

pub loop-document-preserved : goal.loop-document-preserved
loop-document-preserved c =
    let docs = c.args.docs.items in
    let document = c.in-Some.document in
    let here = left_at docs c.loop-document.place document _ (sym c.loop-document.invariant.left ∙ c.in-Some.ensures.steps.0) in
    let inside = slice_get_within docs c.loop-document.place document here.0 in
    record {
      read = read_at (map parsed_of docs) c.args.closure.now.kinds c.args.closure.now.places.items c.requires.reached.ascending c.loop-document.place c.loop-document.said.items c.loop-document.invariant.read (parsed_of document) (parsed_at docs c.loop-document.place document here.0) c.read_reached.new.said.items c.in_default.ensures.said;
      left = sym here.1;
      within = omega (arith, inside);
      len = search rules;
    }

pub returns-clause-said : goal.returns-clause-said
returns-clause-said c =
    let docs = c.args.docs.items in
    let none = nil_from_length (into_iter_items c.loop-document.document-iterator) (sym c.loop-document.invariant.len ∙ c.in-None.ensures.steps.0) in
    let past = none_left docs c.loop-document.place (sym c.loop-document.invariant.left ∙ none) in
    all_read (map parsed_of docs) c.args.closure.now.kinds c.args.closure.now.places.items c.requires.reached.ascending c.loop-document.place c.loop-document.said.items c.loop-document.invariant.read c.requires.reached c.requires.some (some_documents docs c.loop-document.place past)
