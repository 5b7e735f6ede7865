-- The normal form of an ontology that can be said can be said, is well typed where that is, and is stated by its graph.
use Rattle.std.proofs.Common.{◌≤◌, ◌∷◌, [], inl, inr, List, ◌++◌, ap, subst}
use Rattle.std.specs.Prelude.{Contains}
use Rattle.std.specs.List.{AllByRecursion}
use Rattle.std.proofs.lemmas.List.Elements.{Contains-append_cases, Contains-append_left, Contains-append_right}
use Rattle.owl_arena.specs.Shared.{heaviest}
use Rattle.owl_doc.specs.Entities.{AreWellTyped, entities, entities_of}
use Rattle.owl_kind.specs.Kinds.{Entity, HasKind}
use Rattle.owl_list.proofs.AscendingLaws.{all_later, in_cases, in_head, in_none}
use Rattle.owl_tree.specs.declared.atom.Atom.{Atom}
use Rattle.owl_tree.specs.declared.tag.Tag.{Tag}
use Rattle.owl_tree.specs.Ontologies.{IsOntology, Ontology, ontology_weight}
use Rattle.owl_tree.specs.Trees.{Tree, Kids, leaf, node, no_kids, kid, kids_of}
use Rattle.rdf_meaning.specs.Kinds.{HaveNoClash}
use Rattle.rdf_meaning.specs.Statements.{Says}
use Rattle.rdf_normal.specs.NormalForms.{normal_form, unsettled_annotations, unsettled_axioms}
use Rattle.rdf_normal.specs.Tidied.{HasLeaf, HasLeafIn, KidsHaveLeaf}
use Rattle.rdf_normal.proofs.NormalFormLaws.{KidsMeet, LeavesMeet, annotations_have_leaf, axioms_have_leaf, leaves_of_annotations, leaves_of_axioms}
use Rattle.rdf_normal.proofs.AgainLaws.{normal_again}
use Rattle.rdf_normal.proofs.ShapedLaws.{normal_is_ontology}
use Rattle.rdf_normal.proofs.TidiedLaws.{settled_form}
use Rattle.sayable_parts.proofs.PartLaws.{from_leaf, leaf_in}
use Rattle.owl_doc.specs.Parts.{Leaf, leaves, leaves_of, ontology_leaves}
use Rattle.rdf_sayable.specs.Sayable.{CanSayAll}
use Rattle.rdf_sayable.proofs.SayableLaws.{said_among, said_by_leaves}
use Rattle.rdf_mapping.specs.Graphs.{graph_of}
use Rattle.rdf_mapping.proofs.TreeDrawingLaws.{all_back, all_front}
use Rattle.rdf_states.proofs.CountLaws.{few_labels}
use Rattle.rdf_states.proofs.EndLaws.{all_both}
use Rattle.rdf_states.proofs.OntologyLaws.{ontology_said}
use Rattle.rdf_states.specs.Stated.{CanBeDrawn}

-- Leaves, as a list and as a fact.

mutual
  has_leaf : (t : Tree) (l : Leaf) → Contains (leaves t) l → HasLeaf l.tag l.atom t
  has_leaf (leaf t a) l m =
      elim (in_cases (record { tag = t; atom = a }) [] l m) [
        | inl e ↦ (ap (λ (x : Leaf). x.tag) e, ap (λ (x : Leaf). x.atom) e)
        | inr n ↦ absurd (in_none l n)
      ]
  has_leaf (node t ks) l m = kids_have_leaf ks l m

  kids_have_leaf : (ks : Kids) (l : Leaf) → Contains (leaves_of ks) l → KidsHaveLeaf l.tag l.atom ks
  kids_have_leaf no_kids l m = absurd (in_none l m)
  kids_have_leaf (kid t ks) l m =
      elim (Contains-append_cases (leaves t) (leaves_of ks) l m) [ inl h ↦ inl (has_leaf t l h) | inr h ↦ inr (kids_have_leaf ks l h) ]

mutual
  leaf_there : (t : Tree) (l : Leaf) → HasLeaf l.tag l.atom t → Contains (leaves t) l
  leaf_there (leaf t a) l h = subst (λ (x : Leaf). Contains (record { tag = t; atom = a } ∷ []) x) (λ i. record { tag = h.0 i; atom = h.1 i }) (in_head (record { tag = t; atom = a }) [])
  leaf_there (node t ks) l h = kid_leaf_there ks l h

  kid_leaf_there : (ks : Kids) (l : Leaf) → KidsHaveLeaf l.tag l.atom ks → Contains (leaves_of ks) l
  kid_leaf_there no_kids l h = absurd h
  kid_leaf_there (kid t ks) l (inl h) = Contains-append_left (leaves t) (leaves_of ks) l (leaf_there t l h)
  kid_leaf_there (kid t ks) l (inr h) = Contains-append_right (leaves t) (leaves_of ks) l (kid_leaf_there ks l h)

module _ (o : Ontology) where
  in_axioms : (l : Leaf) → HasLeafIn o.axioms l.tag l.atom → Contains (ontology_leaves o) l
  in_axioms l h =
      from_leaf (o.annotations ++ o.axioms) h.tree l (Contains-append_right o.annotations o.axioms h.tree h.inside) (leaf_there h.tree l h.leaf)

  in_annotations : (l : Leaf) → HasLeafIn o.annotations l.tag l.atom → Contains (ontology_leaves o) l
  in_annotations l h =
      from_leaf (o.annotations ++ o.axioms) h.tree l (Contains-append_left o.annotations o.axioms h.tree h.inside) (leaf_there h.tree l h.leaf)

  form_leaf : (l : Leaf) → Contains (ontology_leaves (normal_form o)) l → Contains (ontology_leaves o) l
  form_leaf l m =
      let found = leaf_in ((normal_form o).annotations ++ (normal_form o).axioms) l m in
      let has = has_leaf found.tree l found.leaf in
      elim (Contains-append_cases (normal_form o).annotations (normal_form o).axioms found.tree found.inside) [
        | inl i ↦
            elim (annotations_have_leaf o l.tag l.atom (record { tree = found.tree; inside = i; leaf = has })) [
              | inl h ↦ in_annotations l h
              | inr h ↦ in_axioms l h
            ]
        | inr i ↦ in_axioms l (axioms_have_leaf o l.tag l.atom (record { tree = found.tree; inside = i; leaf = has }))
      ]

  -- what can be said can be said in normal form
  pub form_said : CanSayAll o → CanSayAll (normal_form o)
  form_said all =
      (said_by_leaves (normal_form o)).1 (said_among (ontology_leaves o) (ontology_leaves (normal_form o)) form_leaf ((said_by_leaves o).0 all))

-- What is well typed, by leaves.

abbrev IsTyped : List Entity → Tag → Atom → Type 0
IsTyped k t a = AreWellTyped k (entities (leaf t a))

mutual
  typed_meets : (k : List Entity) (t : Tree) → AreWellTyped k (entities t) → LeavesMeet (IsTyped k) t
  typed_meets k (leaf t a) h = h
  typed_meets k (node t ks) h = typed_kids_meet k ks h

  typed_kids_meet : (k : List Entity) (ks : Kids) → AreWellTyped k (entities_of ks) → KidsMeet (IsTyped k) ks
  typed_kids_meet k no_kids h = tt
  typed_kids_meet k (kid t ks) h = (
    typed_meets k t (all_front (λ (e : Entity). HasKind k e.kind e.iri) (entities t) (entities_of ks) h),
    typed_kids_meet k ks (all_back (λ (e : Entity). HasKind k e.kind e.iri) (entities t) (entities_of ks) h),
  )

mutual
  meets_typed : (k : List Entity) (t : Tree) → LeavesMeet (IsTyped k) t → AreWellTyped k (entities t)
  meets_typed k (leaf t a) h = h
  meets_typed k (node t ks) h = kids_meet_typed k ks h

  kids_meet_typed : (k : List Entity) (ks : Kids) → KidsMeet (IsTyped k) ks → AreWellTyped k (entities_of ks)
  kids_meet_typed k no_kids h = tt
  kids_meet_typed k (kid t ks) h =
      all_both (λ (e : Entity). HasKind k e.kind e.iri) (entities t) (entities_of ks) (meets_typed k t h.0) (kids_meet_typed k ks h.1)

pub all_kids_typed : (k : List Entity) (ts : List Tree) → AllByRecursion (λ t. AreWellTyped k (entities t)) ts → AreWellTyped k (entities_of (kids_of ts))
all_kids_typed k [] h = tt
all_kids_typed k (t ∷ ts) h =
    all_both (λ (e : Entity). HasKind k e.kind e.iri) (entities t) (entities_of (kids_of ts)) h.0 (all_kids_typed k ts h.1)

pub each_typed : (k : List Entity) (ts : List Tree) → AreWellTyped k (entities_of (kids_of ts)) → AllByRecursion (λ t. AreWellTyped k (entities t)) ts
each_typed k [] h = tt
each_typed k (t ∷ ts) h = (
  all_front (λ (e : Entity). HasKind k e.kind e.iri) (entities t) (entities_of (kids_of ts)) h,
  each_typed k ts (all_back (λ (e : Entity). HasKind k e.kind e.iri) (entities t) (entities_of (kids_of ts)) h),
)

module _ (k : List Entity) (o : Ontology) (notes : AreWellTyped k (entities_of (kids_of o.annotations))) (axioms : AllByRecursion (λ t. AreWellTyped k (entities t)) o.axioms) where
  abbrev Meets : Tree → Type 0
  Meets = LeavesMeet (IsTyped k)

  axioms_meet : AllByRecursion Meets o.axioms
  axioms_meet = all_later (λ t. AreWellTyped k (entities t)) Meets (λ t h. typed_meets k t h) o.axioms axioms

  notes_meet : AllByRecursion Meets o.annotations
  notes_meet = all_later (λ t. AreWellTyped k (entities t)) Meets (λ t h. typed_meets k t h) o.annotations (each_typed k o.annotations notes)

  -- what is well typed is so in normal form
  pub form_axioms_typed : AllByRecursion (λ t. AreWellTyped k (entities t)) (normal_form o).axioms
  form_axioms_typed =
      all_later Meets (λ t. AreWellTyped k (entities t)) (λ t h. meets_typed k t h) (normal_form o).axioms (leaves_of_axioms (IsTyped k) o axioms_meet)

  pub form_notes_typed : AreWellTyped k (entities_of (kids_of (normal_form o).annotations))
  form_notes_typed =
      all_kids_typed k (normal_form o).annotations
      (all_later Meets (λ t. AreWellTyped k (entities t)) (λ t h. meets_typed k t h) (normal_form o).annotations (leaves_of_annotations (IsTyped k) o axioms_meet notes_meet))

-- what is wanted of a normal form so that its graph states it
pub form_drawn : (k : List Entity) (o : Ontology) → IsOntology o → CanSayAll o → ontology_weight (normal_form o) ≤ heaviest → AreWellTyped k (entities_of (kids_of (normal_form o).annotations)) → AllByRecursion (λ t. AreWellTyped k (entities t)) (normal_form o).axioms → CanBeDrawn k (normal_form o)
form_drawn k o is said light notes axioms = record {
  is_ontology = normal_is_ontology o is;
  normal = normal_again o is;
  sayable = form_said o said;
  typed_annotations = notes;
  typed_axioms = axioms;
  few = few_labels (normal_form o) light (settled_form (unsettled_annotations o)) (settled_form (unsettled_axioms o));
}

-- the graph of a normal form says it, and no more
pub form_says : (k : List Entity) (o : Ontology) → IsOntology o → CanSayAll o → ontology_weight (normal_form o) ≤ heaviest → HaveNoClash k → AreWellTyped k (entities_of (kids_of (normal_form o).annotations)) → AllByRecursion (λ t. AreWellTyped k (entities t)) (normal_form o).axioms → Says (graph_of (normal_form o)) k (normal_form o)
form_says k o is said light apart notes axioms =
    ontology_said k (normal_form o) (form_drawn k o is said light notes axioms) apart
