-- Ontologies are in OWL 2 DL exactly where no part breaks a rule.
use Rattle.std.proofs.Common.{◌≡◌, inl, inr, false, List, [], map, refl, sym, ap, subst, arith}
use Rattle.std.specs.Prelude.{◌↔◌, Contains, Option, None, Some}
use Rattle.std.specs.List.{filter_map}
use Rattle.owl_breaches.specs.Sites.{Ontologies, axiom_closure, site, sites}
use Rattle.owl_breaches.specs.Those.{HoldsOfSome}
use Rattle.owl_breaches.proofs.ThoseLaws.{holds_none, none_holds}
use Rattle.owl_doc.specs.Parts.{Part, of_axiom, of_header, parts_of}
use Rattle.owl_kind.proofs.Found.{from_joined, joined_from}
use Rattle.owl_list.proofs.AscendingLaws.{from_map, in_cases, in_map, in_tail}
use Rattle.owl_list.proofs.FilterLaws.{from_filter_map, in_filter_map}
use Rattle.owl_tree.specs.Ontologies.{Ontology, canonical_list, canonical_ontology}
use Rattle.owl_tree.specs.Trees.{Tree}
use Rattle.dl_rules.specs.declared.rule.DlRule.{DlRule}
use Rattle.dl_rules.specs.declared.rule.DlRule.TheVariants.{Typing, Clash, ReservedName, Datatypes, DatatypeOrder, LexicalForms, DataRanges, TopDataProperty, SimpleProperties, Hierarchy, NamedIndividuals, Forest, OntologyIri}
use Rattle.dl_rules.specs.Assertions.{ClosesRing, link_of, links}
use Rattle.dl_rules.specs.Definitions.{IsCyclic, definition_of}
use Rattle.dl_rules.specs.Hierarchy.{BreaksOrder}
use Rattle.dl_rules.specs.Properties.{chain_of}
use Rattle.dl_rules.specs.Rules.{AreDlBreaches, Breaks, BreaksAt, IsAxiomWith, IsHeader, IsInDL, asks_order, dl_rules}
use Rattle.dl_rules.proofs.DatatypeOrders.{datatype_orders}
use Rattle.dl_rules.proofs.HierarchyOrders.{hierarchy_orders}
use Rattle.dl_rules.proofs.LinkForests.{link_forests}
use Rattle.owl_breaches.proofs.SiteLaws.{from_sites, in_sites}

abbrev axiom_or : Tree → Part → Tree
axiom_or t (of_header annotations) = t
axiom_or t (of_axiom u) = u

-- of an ontology in canonical form the parts but the header are its axioms
is_axiom : (o : Ontology) → canonical_list o.axioms ≡ o.axioms → (t : Tree) → Contains (parts_of o) (of_axiom t) → Contains o.axioms t
is_axiom o form t m =
    elim (in_cases (of_header (canonical_list o.annotations)) (map of_axiom (canonical_list o.axioms)) (of_axiom t) m) as (λ _. Contains o.axioms t) [
      | inl same ↦ absurd (subst IsHeader same tt)
      | inr n ↦
          let v = from_map of_axiom (canonical_list o.axioms) (of_axiom t) n in
          subst (λ (ts : List Tree). Contains ts t) form
          (subst (λ (u : Tree). Contains (canonical_list o.axioms) u) (ap (axiom_or t) v.value) v.inside)
    ]

-- what is found of axioms in canonical form
module _ {X : Type 0} (find : Tree → Option X) (Holds : X → Type 0) where
  some_of : (o : Option X) → HoldsOfSome Holds o → (x : X) × (o ≡ Some x) × Holds x
  some_of None h = absurd h
  some_of (Some x) h = (x, refl, h)

  from_part : (o : Ontology) → canonical_list o.axioms ≡ o.axioms → (part : Part) → Contains (parts_of o) part →
      IsAxiomWith (λ t. HoldsOfSome Holds (find t)) part → (x : X) × Contains (filter_map find o.axioms) x × Holds x
  from_part o form (of_header annotations) m h = absurd h
  from_part o form (of_axiom t) m h =
      let s = some_of (find t) h in
      (s.0, in_filter_map find o.axioms t s.0 (is_axiom o form t m) s.1, s.2)

  to_part : (o : Ontology) → canonical_list o.axioms ≡ o.axioms → (x : X) → Contains (filter_map find o.axioms) x → Holds x →
      (t : Tree) × Contains (parts_of o) (of_axiom t) × HoldsOfSome Holds (find t)
  to_part o form x m h =
      let g = from_filter_map find o.axioms x m in
      let inside : Contains (canonical_list o.axioms) g.element = subst (λ (ts : List Tree). Contains ts g.element) (sym form) g.inside in (
        g.element,
        in_tail (of_header (canonical_list o.annotations)) (map of_axiom (canonical_list o.axioms)) (of_axiom g.element)
            (in_map of_axiom (canonical_list o.axioms) g.element inside),
        subst (HoldsOfSome Holds) (sym g.gives) h,
      )

  from_closure : (c : Ontologies) → (x : X) → Contains (filter_map find (axiom_closure c)) x →
      (o : Ontology) × Contains c.all o × Contains (filter_map find o.axioms) x
  from_closure c x m =
      let g = from_filter_map find (axiom_closure c) x m in
      let f = from_joined (λ (o : Ontology). o.axioms) c.all g.element g.inside in
      (f.0, f.1, in_filter_map find f.0.axioms g.element x f.2 g.gives)

  in_closure : (c : Ontologies) (o : Ontology) (x : X) → Contains c.all o → Contains (filter_map find o.axioms) x →
      Contains (filter_map find (axiom_closure c)) x
  in_closure c o x m n =
      let g = from_filter_map find o.axioms x n in
      in_filter_map find (axiom_closure c) g.element x (joined_from (λ (p : Ontology). p.axioms) c.all g.element o m g.inside) g.gives

all_rules : (rule : DlRule) → Contains dl_rules rule
unfolding dl_rules
all_rules Typing = (0, omega arith, refl)
all_rules Clash = (1, omega arith, refl)
all_rules ReservedName = (2, omega arith, refl)
all_rules Datatypes = (3, omega arith, refl)
all_rules DatatypeOrder = (4, omega arith, refl)
all_rules LexicalForms = (5, omega arith, refl)
all_rules DataRanges = (6, omega arith, refl)
all_rules TopDataProperty = (7, omega arith, refl)
all_rules SimpleProperties = (8, omega arith, refl)
all_rules Hierarchy = (9, omega arith, refl)
all_rules NamedIndividuals = (10, omega arith, refl)
all_rules Forest = (11, omega arith, refl)
all_rules OntologyIri = (12, omega arith, refl)

-- no part breaks a rule
abbrev NoneBreaks : Ontologies → Type 0
NoneBreaks c = (rule : DlRule) (o : Ontology) (part : Part) → Contains c.all o → Contains (parts_of o) part → Breaks c rule o part → ⊥

from_list : (c : Ontologies) → AreDlBreaches c [] → NoneBreaks c
from_list c are = λ rule o part m n breaks.
    let s = in_sites dl_rules c.all rule o part (all_rules rule) m n in
    none_holds (BreaksAt c) (sites dl_rules c.all) are (site rule s.0 o part) s.1 breaks

to_list : (c : Ontologies) → NoneBreaks c → AreDlBreaches c []
to_list c none =
    holds_none (BreaksAt c) (sites dl_rules c.all) (λ s m breaks.
    let parts = from_sites dl_rules c.all s m in
    none s.rule s.ontology s.part parts.0 parts.1 breaks)

-- what breaks the rules of orders and forests
module _ (c : Ontologies) (o : Ontology) (part : Part) where
  definition_breaks : Breaks c DatatypeOrder o part ↔ IsAxiomWith (λ t. HoldsOfSome (IsCyclic (axiom_closure c)) (definition_of t)) part
  unfolding Breaks
  definition_breaks = (λ h. h, λ h. h)

  chain_breaks : Breaks c Hierarchy o part ↔ IsAxiomWith (λ t. HoldsOfSome (BreaksOrder (axiom_closure c)) (chain_of t)) part
  unfolding Breaks
  chain_breaks = (λ h. h, λ h. h)

  link_breaks : Breaks c Forest o part ↔ IsAxiomWith (λ t. HoldsOfSome (ClosesRing (links o.axioms)) (link_of t)) part
  unfolding Breaks
  link_breaks = (λ h. h, λ h. h)

module _ (c : Ontologies) (forms : (o : Ontology) → Contains c.all o → canonical_ontology o ≡ o) where
  form : (o : Ontology) → Contains c.all o → canonical_list o.axioms ≡ o.axioms
  form o m = ap (λ (p : Ontology). p.axioms) (forms o m)

  in_dl : NoneBreaks c → IsInDL c
  in_dl none = record {
    kept = λ rule o part asks m n. none rule o part m n;
    datatypes = (datatype_orders (axiom_closure c)).0 (λ d m cyclic.
        let f = from_closure definition_of (IsCyclic (axiom_closure c)) c d m in
        let p = to_part definition_of (IsCyclic (axiom_closure c)) f.0 (form f.0 f.1) d f.2 cyclic in
        none DatatypeOrder f.0 (of_axiom p.0) f.1 p.1 ((definition_breaks c f.0 (of_axiom p.0)).1 p.2));
    hierarchy = (hierarchy_orders (axiom_closure c)).0 (λ chain m breaks.
        let f = from_closure chain_of (BreaksOrder (axiom_closure c)) c chain m in
        let p = to_part chain_of (BreaksOrder (axiom_closure c)) f.0 (form f.0 f.1) chain f.2 breaks in
        none Hierarchy f.0 (of_axiom p.0) f.1 p.1 ((chain_breaks c f.0 (of_axiom p.0)).1 p.2));
    forests = λ o m. (link_forests (links o.axioms)).0 (λ l n ring.
        let p = to_part link_of (ClosesRing (links o.axioms)) o (form o m) l n ring in
        none Forest o (of_axiom p.0) m p.1 ((link_breaks c o (of_axiom p.0)).1 p.2));
  }

  module _ (is : IsInDL c) (o : Ontology) (part : Part) (m : Contains c.all o) (n : Contains (parts_of o) part) where
    no_cycle : Breaks c DatatypeOrder o part → ⊥
    no_cycle breaks =
        let p = from_part definition_of (IsCyclic (axiom_closure c)) o (form o m) part n ((definition_breaks c o part).0 breaks) in
        (datatype_orders (axiom_closure c)).1 is.datatypes p.0 (in_closure definition_of (IsCyclic (axiom_closure c)) c o p.0 m p.1) p.2

    no_broken_order : Breaks c Hierarchy o part → ⊥
    no_broken_order breaks =
        let p = from_part chain_of (BreaksOrder (axiom_closure c)) o (form o m) part n ((chain_breaks c o part).0 breaks) in
        (hierarchy_orders (axiom_closure c)).1 is.hierarchy p.0 (in_closure chain_of (BreaksOrder (axiom_closure c)) c o p.0 m p.1) p.2

    no_ring : Breaks c Forest o part → ⊥
    no_ring breaks =
        let p = from_part link_of (ClosesRing (links o.axioms)) o (form o m) part n ((link_breaks c o part).0 breaks) in
        (link_forests (links o.axioms)).1 (is.forests o m) p.0 p.1 p.2

    kept_or_ordered : (rule : DlRule) → (asks_order rule ≡ false → Breaks c rule o part → ⊥) → Breaks c rule o part → ⊥
    unfolding asks_order
    kept_or_ordered DatatypeOrder kept breaks = no_cycle breaks
    kept_or_ordered Hierarchy kept breaks = no_broken_order breaks
    kept_or_ordered Forest kept breaks = no_ring breaks
    kept_or_ordered rule kept breaks = kept refl breaks

  none_breaks : IsInDL c → NoneBreaks c
  none_breaks is = λ rule o part m n breaks. kept_or_ordered is o part m n rule (λ asks h. is.kept rule o part asks m n h) breaks

pub in_dl_unless_broken : (c : Ontologies) → ((o : Ontology) → Contains c.all o → canonical_ontology o ≡ o) → IsInDL c ↔ AreDlBreaches c []
in_dl_unless_broken c forms = (
  λ is. to_list c (none_breaks c forms is),
  λ are. in_dl c forms (from_list c are),
)
