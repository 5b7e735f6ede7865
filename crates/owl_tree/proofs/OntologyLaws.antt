-- Ontologies are structurally equivalent where their canonical forms are equal.
use Rattle.std.proofs.Common.{refl, sym, ap, ◌∙◌, subst}
use Rattle.std.specs.Prelude.{◌≡◌, ◌↔◌, ◌+◌, List, map, Contains}
use Rattle.std.specs.List.{AllByRecursion, sum_by}
use Rattle.owl_list.specs.Ascending.{ascending, HoldSame}
use Rattle.owl_list.proofs.AscendingLaws.{all_same, all_map, all_before_map, all_later, same_sym, same_trans, same_from_equal, same_map, in_map, from_map, ascending_ascends, ascending_holds, ascending_again, ascending_same, same_ascending}
use Rattle.owl_characters.specs.Iri.{IsIri}
use Rattle.owl_characters.specs.Order.{text_cmp}
use Rattle.owl_characters.specs.OrderLaws.{texts_total}
use Rattle.owl_tree.specs.Canonical.{canonical}
use Rattle.owl_tree.proofs.CanonicalLaws.{canonical_tag, forms_again}
use Rattle.owl_tree.proofs.EquivalenceLaws.{equivalent_is_equal_form}
use Rattle.owl_tree.specs.Ontologies.{Head, Ontology, IsAnnotation, IsAxiom, IsHead, IsOntology, AreAmong, HoldEquivalent, IsSameHead, IsSameOntology, canonical_list, canonical_head, canonical_ontology, ontology_weight}
use Rattle.owl_tree.specs.Order.{tree_cmp}
use Rattle.owl_tree.specs.OrderLaws.{only_equal_texts_tie, only_equal_trees_tie, trees_total}
use Rattle.owl_tree.proofs.ShapeLaws.{canonical_shape}
use Rattle.owl_tree.specs.Tags.{is_axiom}
use Rattle.owl_tree.specs.Trees.{Tree, weight}

to_head : (a b : Head) → IsSameHead a b → canonical_head a ≡ canonical_head b
to_head a b h =
    let imports = ascending_same text_cmp texts_total only_equal_texts_tie a.imports b.imports h.imports in
    λ i. record { name = h.name i; imports = imports i }

from_head : (a b : Head) → canonical_head a ≡ canonical_head b → IsSameHead a b
from_head a b e = record {
  name = ap (λ (h : Head). h.name) e;
  imports = same_ascending text_cmp texts_total only_equal_texts_tie a.imports b.imports (ap (λ (h : Head). h.imports) e);
}

-- lists of trees that hold equivalent trees have the same canonical forms
to_forms : (ts us : List Tree) → AreAmong ts us → (form : Tree) → Contains (map canonical ts) form → Contains (map canonical us) form
to_forms ts us h form m =
    let t = from_map canonical ts form m in
    let u = h t.element t.inside in
    let e = (equivalent_is_equal_form t.element u.0).0 u.2 in
    subst (λ (f : Tree). Contains (map canonical us) f) (sym e ∙ t.value) (in_map canonical us u.0 u.1)

from_forms : (ts us : List Tree) → ((form : Tree) → Contains (map canonical ts) form → Contains (map canonical us) form) → AreAmong ts us
from_forms ts us h t m =
    let u = from_map canonical us (canonical t) (h (canonical t) (in_map canonical ts t m)) in
    (u.element, u.inside, (equivalent_is_equal_form t u.element).1 (sym u.value))

pub equivalent_lists : (ts us : List Tree) → HoldEquivalent ts us ↔ (canonical_list ts ≡ canonical_list us)
equivalent_lists ts us = (
  λ h. ascending_same tree_cmp trees_total only_equal_trees_tie (map canonical ts) (map canonical us) (λ form. (to_forms ts us h.there form, to_forms us ts h.back form)),
  λ e.
      let h = same_ascending tree_cmp trees_total only_equal_trees_tie (map canonical ts) (map canonical us) e in
      record { there = from_forms ts us (λ form. (h form).0); back = from_forms us ts (λ form. (h form).1) },
)

to_ontology : (o p : Ontology) → IsSameOntology o p → canonical_ontology o ≡ canonical_ontology p
to_ontology o p h =
    let head = to_head o.head p.head h.head in
    let annotations = (equivalent_lists o.annotations p.annotations).0 h.annotations in
    let axioms = (equivalent_lists o.axioms p.axioms).0 h.axioms in
    λ i. record { head = head i; annotations = annotations i; axioms = axioms i }

from_ontology : (o p : Ontology) → canonical_ontology o ≡ canonical_ontology p → IsSameOntology o p
from_ontology o p e = record {
  head = from_head o.head p.head (ap (λ (q : Ontology). q.head) e);
  annotations = (equivalent_lists o.annotations p.annotations).1 (ap (λ (q : Ontology). q.annotations) e);
  axioms = (equivalent_lists o.axioms p.axioms).1 (ap (λ (q : Ontology). q.axioms) e);
}

pub same_ontology_is_equal_form : (o p : Ontology) → IsSameOntology o p ↔ (canonical_ontology o ≡ canonical_ontology p)
same_ontology_is_equal_form o p = (to_ontology o p, from_ontology o p)

pub same_ontology_refl : (o : Ontology) → IsSameOntology o o
same_ontology_refl o = from_ontology o o refl

pub same_ontology_sym : (o p : Ontology) → IsSameOntology o p → IsSameOntology p o
same_ontology_sym o p h = from_ontology p o (sym (to_ontology o p h))

pub same_ontology_trans : (o p q : Ontology) → IsSameOntology o p → IsSameOntology p q → IsSameOntology o q
same_ontology_trans o p q h k = from_ontology o q (to_ontology o p h ∙ to_ontology p q k)

-- a canonical list holds the canonical forms
forms_hold : (ts : List Tree) → HoldSame (canonical_list ts) (map canonical ts)
forms_hold ts = ascending_holds tree_cmp trees_total only_equal_trees_tie (map canonical ts)

pub canonical_list_again : (ts : List Tree) → canonical_list (canonical_list ts) ≡ canonical_list ts
canonical_list_again ts =
    ascending_same tree_cmp trees_total only_equal_trees_tie (map canonical (canonical_list ts)) (map canonical ts)
    (same_trans (map canonical (canonical_list ts)) (map canonical (map canonical ts)) (map canonical ts)
    (same_map canonical (canonical_list ts) (map canonical ts) (forms_hold ts))
    (same_from_equal (map canonical (map canonical ts)) (map canonical ts) (forms_again ts)))

canonical_head_again : (h : Head) → canonical_head (canonical_head h) ≡ canonical_head h
canonical_head_again h =
    let imports = ascending_again text_cmp texts_total only_equal_texts_tie (ascending text_cmp h.imports) (ascending_ascends text_cmp texts_total h.imports) in
    λ i. record { name = h.name; imports = imports i }

pub canonical_ontology_again : (o : Ontology) → canonical_ontology (canonical_ontology o) ≡ canonical_ontology o
canonical_ontology_again o =
    let head = canonical_head_again o.head in
    let annotations = canonical_list_again o.annotations in
    let axioms = canonical_list_again o.axioms in
    λ i. record { head = head i; annotations = annotations i; axioms = axioms i }

pub canonical_same_ontology : (o : Ontology) → IsSameOntology o (canonical_ontology o)
canonical_same_ontology o = from_ontology o (canonical_ontology o) (sym (canonical_ontology_again o))

pub same_ontology_weight : (o p : Ontology) → IsSameOntology o p → ontology_weight o ≡ ontology_weight p
same_ontology_weight o p h =
    let e = to_ontology o p h in
    ap (λ (q : Ontology). sum_by weight q.annotations + sum_by weight q.axioms) e

-- what is true of trees exactly if it is of their forms is true of a list exactly if it is of the canonical list
all_canonical : (P : Tree → Type 0) → ((t : Tree) → P t ↔ P (canonical t)) → (ts : List Tree) → AllByRecursion P ts ↔ AllByRecursion P (canonical_list ts)
all_canonical P step ts = (
  λ h. all_same P (map canonical ts) (canonical_list ts) (same_sym (canonical_list ts) (map canonical ts) (forms_hold ts)) (all_map canonical P ts (all_later P (λ t. P (canonical t)) (λ t. (step t).0) ts h)),
  λ h. all_later (λ t. P (canonical t)) P (λ t. (step t).1) ts (all_before_map canonical P ts (all_same P (canonical_list ts) (map canonical ts) (forms_hold ts) h)),
)

canonical_annotation : (t : Tree) → IsAnnotation t ↔ IsAnnotation (canonical t)
canonical_annotation t = (
  λ h. record { tag = canonical_tag t ∙ h.tag; shaped = (canonical_shape t).0 h.shaped },
  λ h. record { tag = sym (canonical_tag t) ∙ h.tag; shaped = (canonical_shape t).1 h.shaped },
)

canonical_axiom : (t : Tree) → IsAxiom t ↔ IsAxiom (canonical t)
canonical_axiom t = (
  λ h. record { tag = ap is_axiom (canonical_tag t) ∙ h.tag; shaped = (canonical_shape t).0 h.shaped },
  λ h. record { tag = sym (ap is_axiom (canonical_tag t)) ∙ h.tag; shaped = (canonical_shape t).1 h.shaped },
)

-- imports that hold the same are all IRIs, or not
canonical_is_head : (h : Head) → IsHead h ↔ IsHead (canonical_head h)
canonical_is_head h =
    let holds = ascending_holds text_cmp texts_total only_equal_texts_tie h.imports in (
      λ i. record { name = i.name; imports = all_same IsIri h.imports (ascending text_cmp h.imports) (same_sym (ascending text_cmp h.imports) h.imports holds) i.imports },
      λ i. record { name = i.name; imports = all_same IsIri (ascending text_cmp h.imports) h.imports holds i.imports },
    )

pub canonical_is_ontology : (o : Ontology) → IsOntology o ↔ IsOntology (canonical_ontology o)
canonical_is_ontology o =
    let head = canonical_is_head o.head in
    let annotations = all_canonical IsAnnotation canonical_annotation o.annotations in
    let axioms = all_canonical IsAxiom canonical_axiom o.axioms in (
      λ h. record { head = head.0 h.head; annotations = annotations.0 h.annotations; axioms = axioms.0 h.axioms },
      λ h. record { head = head.1 h.head; annotations = annotations.1 h.annotations; axioms = axioms.1 h.axioms },
    )

pub same_ontology_shape : (o p : Ontology) → IsSameOntology o p → IsOntology o → IsOntology p
same_ontology_shape o p h shaped = (canonical_is_ontology p).1 (subst IsOntology (to_ontology o p h) ((canonical_is_ontology o).0 shaped))
