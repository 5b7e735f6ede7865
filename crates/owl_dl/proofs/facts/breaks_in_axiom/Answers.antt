use Rattle.std.proofs.Common.{sym, subst}
use Rattle.owl_arena.specs.Held.{tree_at}
use Rattle.owl_breaches.specs.Those.{HoldsOfSome}
use Rattle.owl_doc.specs.Entities.{declaration}
use Rattle.owl_kind.specs.Kinds.{Entity, SharesKinds}
use Rattle.std.specs.Prelude.{IsTrue, ◌↔◌, List}
use Rattle.owl_dl.specs.Facts.{closure_in}
use Rattle.owl_dl.proofs.Telling.{TellsOf, by_clash, by_cycle, by_order, local_rule, mark_tells, none_of_header}
use Rattle.owl_dl.proofs.facts.breaks_in_axiom.Goals as goal

pub returns-in-Clash : goal.returns-in-Clash
returns-in-Clash c =
    λ o other.
    let told = subst (λ (kinds : List Entity). IsTrue c.declares_clash.result ↔ HoldsOfSome (λ (e : Entity). SharesKinds kinds e.iri) (declaration (tree_at c.args.facts.now.arena.now.trees c.args.id))) c.kinds.ensures c.declares_clash.ensures in
    subst (TellsOf (closure_in c.args.facts.now) o (tree_at c.args.facts.now.arena.now.trees c.args.id) c.declares_clash.result) (sym c.in-Clash.is)
    (by_clash (closure_in c.args.facts.now) o (tree_at c.args.facts.now.arena.now.trees c.args.id) c.declares_clash.result told)

pub returns-in-DatatypeOrder : goal.returns-in-DatatypeOrder
returns-in-DatatypeOrder c =
    λ o other.
    subst (TellsOf (closure_in c.args.facts.now) o (tree_at c.args.facts.now.arena.now.trees c.args.id) c.has_mark.result) (sym c.in-DatatypeOrder.is)
    (by_cycle (closure_in c.args.facts.now) o (tree_at c.args.facts.now.arena.now.trees c.args.id) c.has_mark.result
    (mark_tells _ c.args.facts.now.cyclic.now c.place.result c.args.id c.has_mark.result (c.requires.facts.cyclic c.args.id c.requires.axiom) c.place.ensures c.has_mark.ensures))

pub returns-in-Hierarchy : goal.returns-in-Hierarchy
returns-in-Hierarchy c =
    λ o other.
    subst (TellsOf (closure_in c.args.facts.now) o (tree_at c.args.facts.now.arena.now.trees c.args.id) c.has_mark-in-Hierarchy.result) (sym c.in-Hierarchy.is)
    (by_order (closure_in c.args.facts.now) o (tree_at c.args.facts.now.arena.now.trees c.args.id) c.has_mark-in-Hierarchy.result
    (mark_tells _ c.args.facts.now.broken.now c.place-in-Hierarchy.result c.args.id c.has_mark-in-Hierarchy.result (c.requires.facts.broken c.args.id c.requires.axiom) c.place-in-Hierarchy.ensures c.has_mark-in-Hierarchy.ensures))

pub returns-in-Forest : goal.returns-in-Forest
returns-in-Forest c = λ o other. none_of_header (closure_in c.args.facts.now) o (tree_at c.args.facts.now.arena.now.trees c.args.id) c.args.rule c.in-Forest.is other

pub returns-in_default : goal.returns-in_default
returns-in_default c =
    λ o other.
    c.axiom_is_at_fault.ensures.local (closure_in c.args.facts.now) o c.requires.facts.local
    (local_rule c.args.rule c.in_default.not-Clash c.in_default.not-DatatypeOrder c.in_default.not-Hierarchy c.in_default.not-Forest c.in_default.not-OntologyIri)
