use Rattle.std.proofs.Common.{◌∙◌, Option, ap}
use Rattle.std.proofs.lemmas.Result.{on_ok_weaker}
use Rattle.owl_doc.specs.Entities.{entity_of, entity_seen, kind_of}
use Rattle.owl_kind.specs.declared.kind.Kind.{Kind}
use Rattle.owl_declare.proofs.FindingLaws.{finds_one}
use Rattle.owl_declare.proofs.finding.find_leaf.Goals as goal

pub returns-in-Some : goal.returns-in-Some
returns-in-Some c =
    let atom = c.args.atom.now in
    let named = c.in-Some.ensures ∙ ap (λ (kind : Option Kind). entity_of kind atom) c.kind_of.ensures in
    on_ok_weaker c.add.result
    (λ h. finds_one c.args.kinds.now (entity_of (kind_of c.args.tag) atom) (entity_seen (c.in-Some.kind, c.in-Some.iri)) c.args.found.now c.add.new.self named
    (λ has. let t = c.has.ensures.1 has in let f = c.if-not-has.true in cc) h)
    c.add.ensures
