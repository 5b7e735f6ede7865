use Rattle.std.proofs.Common.{◌∙◌, Option, ap}
use Rattle.owl_kind.specs.declared.kind.Kind.{Kind}
use Rattle.owl_doc.specs.Entities.{entity_of, entity_seen, kind_of}
use Rattle.owl_doc.proofs.FirstUndeclared.{untyped_entity}
use Rattle.owl_doc.proofs.typing.undeclared_leaf.Goals as goal

pub returns : goal.returns
returns c =
    let atom = c.args.atom.now in
    let named = c.in_ok-kind.ensures ∙ ap (λ (kind : Option Kind). entity_of kind atom) c.kind_of.ensures in
    untyped_entity c.args.kinds.now (entity_of (kind_of c.args.tag) atom) (entity_seen (c.in_ok-kind.kind, c.in_ok-kind.iri)) named (λ h. let t = c.has.ensures.1 h in let f = c.if-has.false in cc)
