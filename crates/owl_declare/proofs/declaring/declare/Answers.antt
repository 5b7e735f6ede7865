use Rattle.std.proofs.Common.{rules, Err, ◌∙◌, ◌++◌, ◌<◌, ◌≤◌, ℕ, List, ap, map, subst, sym}
use Rattle.owl_arena.specs.Shared.{heaviest}
use Rattle.owl_doc.proofs.Declaring.{on_err}
use Rattle.owl_doc.specs.Documents.{ontology_of}
use Rattle.owl_doc.specs.Entities.{AddsAll, AddsSome, AreWellTyped}
use Rattle.owl_kind.specs.Kinds.{Entity, IsFirstClash}
use Rattle.owl_tree.specs.Ontologies.{Ontology, canonical_ontology, ontology_weight}
use Rattle.owl_declare.proofs.DeclaringLaws.{first_clash, knows_enough, knows_some, knows_whole, no_clash, heavy_passed, typed_new}
use Rattle.owl_declare.proofs.NeedLaws.{whole_typed}
use Rattle.owl_declare.specs.Needed.{entity_of, named_in, with_needs}
use Rattle.owl_declare.proofs.declaring.declare.Goals as goal

pub returns-in_err-know_all-clause-some : goal.returns-in_err-know_all-clause-some
returns-in_err-know_all-clause-some c =
    let lent = ap (map entity_of) c.deref.ensures.value in
    on_err _ c.from_residual-in_err-know_all.result
    (knows_some c.args.kinds.now _ c.know_all.new.kinds (ontology_of c.args.doc.now) c.in_ok-needs.ensures
    (subst (λ (es : List Entity). AddsSome c.args.kinds.now es c.know_all.new.kinds) lent c.in_err-know_all.ensures.err))

pub returns-in_err-iri-clause-some : goal.returns-in_err-iri-clause-some
returns-in_err-iri-clause-some c =
    let lent = ap (map entity_of) c.deref.ensures.value in
    on_err _ c.from_residual-in_err-iri.result
    (knows_enough c.args.kinds.now _ c.know_all.new.kinds (ontology_of c.args.doc.now) c.in_ok-needs.ensures
    (subst (λ (es : List Entity). AddsAll c.args.kinds.now es c.know_all.new.kinds) lent c.in_ok-know_all.ensures.ok))

pub returns-in-Some-clause-two_kinds : goal.returns-in-Some-clause-two_kinds
returns-in-Some-clause-two_kinds c =
    let lent = ap (map entity_of) c.deref.ensures.value in
    let all = subst (λ (es : List Entity). AddsAll c.args.kinds.now es c.know_all.new.kinds) lent c.in_ok-know_all.ensures.ok in
    let needs = map entity_of c.in_ok-needs.needs.items in (
      needs,
      c.in_ok-needs.ensures,
      subst (λ (iri : List ℕ). IsFirstClash (c.args.kinds.now ++ needs) iri) (sym c.in_ok-iri.ensures)
          (first_clash c.args.kinds.now needs c.know_all.new.kinds all c.in-Some.iri.now c.in-Some.ensures.some),
    )

pub returns-in-Some-clause-some : goal.returns-in-Some-clause-some
returns-in-Some-clause-some c =
    let lent = ap (map entity_of) c.deref.ensures.value in
    knows_enough c.args.kinds.now _ c.know_all.new.kinds (ontology_of c.args.doc.now) c.in_ok-needs.ensures
    (subst (λ (es : List Entity). AddsAll c.args.kinds.now es c.know_all.new.kinds) lent c.in_ok-know_all.ensures.ok)

pub returns-in_err-with_needs-clause-heavy : goal.returns-in_err-with_needs-clause-heavy
returns-in_err-with_needs-clause-heavy c = λ h.
    let lent = ap (map entity_of) c.deref.ensures.value in
    let second = ap (map entity_of) c.deref-2.ensures.value in
    let all = subst (λ (es : List Entity). AddsAll c.args.kinds.now es c.know_all.new.kinds) lent c.in_ok-know_all.ensures.ok in
    let needs = map entity_of c.in_ok-needs.needs.items in
    let o = ontology_of c.args.doc.now in
    let heavy = c.in_err-with_needs.ensures.heavy (ap Err (heavy_passed c.from_residual-in_err-with_needs.result c.in_err-with_needs.field-0.0 c.from_residual-in_err-with_needs.ensures.1 h)) in
    record {
      needs = needs;
      needed = c.in_ok-needs.ensures;
      apart = record { apart = no_clash c.args.kinds.now needs c.know_all.new.kinds all (c.clash.ensures.none.0 (search rules)) };
      heavy = subst (λ (es : List Entity). heaviest < ontology_weight (with_needs es o)) second heavy;
    }

pub returns-in_err-with_needs-clause-some : goal.returns-in_err-with_needs-clause-some
returns-in_err-with_needs-clause-some c =
    let lent = ap (map entity_of) c.deref.ensures.value in
    on_err _ c.from_residual-in_err-with_needs.result
    (knows_enough c.args.kinds.now _ c.know_all.new.kinds (ontology_of c.args.doc.now) c.in_ok-needs.ensures
    (subst (λ (es : List Entity). AddsAll c.args.kinds.now es c.know_all.new.kinds) lent c.in_ok-know_all.ensures.ok))

pub returns-clause-declared : goal.returns-clause-declared
returns-clause-declared c =
    let lent = ap (map entity_of) c.deref.ensures.value in
    let second = ap (map entity_of) c.deref-2.ensures.value in
    let all = subst (λ (es : List Entity). AddsAll c.args.kinds.now es c.know_all.new.kinds) lent c.in_ok-know_all.ensures.ok in
    let needs = map entity_of c.in_ok-needs.needs.items in
    let o = ontology_of c.args.doc.now in
    record {
      needs = needs;
      needed = c.in_ok-needs.ensures;
      is = c.in_ok-with_needs.ensures.ontology ∙ ap (λ (es : List Entity). canonical_ontology (with_needs es o)) second;
      apart = record { apart = no_clash c.args.kinds.now needs c.know_all.new.kinds all (c.clash.ensures.none.0 (search rules)) };
      light = subst (λ (es : List Entity). ontology_weight (with_needs es o) ≤ heaviest) second c.in_ok-with_needs.ensures.light;
    }

pub returns-clause-kinds : goal.returns-clause-kinds
returns-clause-kinds c =
    let lent = ap (map entity_of) c.deref.ensures.value in
    knows_whole c.args.kinds.now _ c.know_all.new.kinds (ontology_of c.args.doc.now) c.in_ok-needs.ensures
    (subst (λ (es : List Entity). AddsAll c.args.kinds.now es c.know_all.new.kinds) lent c.in_ok-know_all.ensures.ok)

pub returns-clause-typed : goal.returns-clause-typed
returns-clause-typed c =
    let lent = ap (map entity_of) c.deref.ensures.value in
    let second = ap (map entity_of) c.deref-2.ensures.value in
    let all = subst (λ (es : List Entity). AddsAll c.args.kinds.now es c.know_all.new.kinds) lent c.in_ok-know_all.ensures.ok in
    let needs = map entity_of c.in_ok-needs.needs.items in
    let o = ontology_of c.args.doc.now in
    let is = c.in_ok-with_needs.ensures.ontology ∙ ap (λ (es : List Entity). canonical_ontology (with_needs es o)) second in
    subst (λ (p : Ontology). AreWellTyped c.know_all.new.kinds (named_in p)) (sym is)
    (typed_new c.args.kinds.now needs c.know_all.new.kinds all (named_in (canonical_ontology (with_needs needs o))) (whole_typed c.args.kinds.now needs o c.notes.ensures.document.canonical c.in_ok-needs.ensures))
