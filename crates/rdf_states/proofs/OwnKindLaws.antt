-- An ontology that can be said is well typed under the entities that it names itself, and these may be declared.
use Rattle.std.proofs.Common.{◌≡◌, ℕ, true, List, [], ◌++◌, inl, inr, refl}
use Rattle.std.specs.Prelude.{not, Option, None, Some}
use Rattle.std.specs.List.{AllByRecursion, cons_option}
use Rattle.std.proofs.lemmas.Bool.{or_right}
use Rattle.std.proofs.lemmas.Option.{none-some}
use Rattle.owl_doc.specs.Entities.{AreWellTyped, entities, entities_of, entity_of, kind_of}
use Rattle.owl_doc.specs.Parts.{leaves, leaves_of}
use Rattle.owl_kind.specs.declared.kind.Kind.{Kind}
use Rattle.owl_kind.specs.Kinds.{Entity, HasKind, is_built_in}
use Rattle.owl_list.proofs.AscendingLaws.{all_from, all_in}
use Rattle.owl_tree.specs.declared.atom.Atom.{Atom}
use Rattle.owl_tree.specs.declared.atom.Atom.TheVariants as atom
use Rattle.owl_tree.specs.declared.tag.Tag.{Tag}
use Rattle.owl_tree.specs.declared.tag.Tag.TheVariants as tag
use Rattle.owl_tree.specs.Ontologies.{Ontology}
use Rattle.owl_tree.specs.Trees.{Tree, Kids, leaf, node, no_kids, kid, kids_of}
use Rattle.rdf_meaning.specs.Denotation.{kind_of_entity}
use Rattle.rdf_meaning.specs.Kinds.{has_kind, may_be_declared}
use Rattle.rdf_meaning.proofs.KindLaws.{has_kind_is}
use Rattle.rdf_mapping.proofs.TreeDrawingLaws.{all_back, all_front}
use Rattle.rdf_sayable.specs.Sayable.{AreSayable, CanSayAll, atom_objection, objection}
use Rattle.rdf_sayable.proofs.SayableLaws.{said_by_leaves}
use Rattle.rdf_axioms.proofs.SayableTreeLaws.{may_declare}
use Rattle.rdf_states.proofs.EndLaws.{all_both}
use Rattle.rdf_states.proofs.NormalStatesLaws.{all_kids_typed, each_typed}
use Rattle.rdf_terms.specs.Vocabulary.{is_reserved}

abbrev pub own_kinds : Ontology → List Entity
own_kinds o = entities_of (kids_of (o.annotations ++ o.axioms))

module _ (o : Ontology) where
  each_own_typed : AllByRecursion (λ t. AreWellTyped (own_kinds o) (entities t)) (o.annotations ++ o.axioms)
  each_own_typed =
      each_typed (own_kinds o) (o.annotations ++ o.axioms) (all_from (λ (e : Entity). HasKind (own_kinds o) e.kind e.iri) (own_kinds o) (λ e m. inl m))

  pub own_notes_typed : AreWellTyped (own_kinds o) (entities_of (kids_of o.annotations))
  own_notes_typed =
      all_kids_typed (own_kinds o) o.annotations (all_front (λ t. AreWellTyped (own_kinds o) (entities t)) o.annotations o.axioms each_own_typed)

  pub own_axioms_typed : AllByRecursion (λ t. AreWellTyped (own_kinds o) (entities t)) o.axioms
  own_axioms_typed = all_back (λ t. AreWellTyped (own_kinds o) (entities t)) o.annotations o.axioms each_own_typed

-- The entities of what can be said.

abbrev CanDeclare : Entity → Type 0
CanDeclare e = may_be_declared e.kind e.iri ≡ true

entity_kind : (t : Tag) (kd : Kind) → kind_of t ≡ Some kd → kind_of_entity t ≡ Some kd
unfolding kind_of
entity_kind tag.Class kd e = e
entity_kind tag.Datatype kd e = e
entity_kind tag.ObjectProperty kd e = e
entity_kind tag.DataProperty kd e = e
entity_kind tag.AnnotationProperty kd e = e
entity_kind _ kd e = absurd (none-some kd e)

leaf_declares : (t : Tag) (o : Option Kind) (a : Atom) → kind_of t ≡ o → atom_objection t a ≡ None → AllByRecursion CanDeclare (cons_option (entity_of o a) [])
leaf_declares t (Some kd) (atom.Iri iri) e h = (may_declare t kd iri (entity_kind t kd e) h, tt)
leaf_declares t _ _ e h = tt

mutual
  tree_declares : (t : Tree) → AreSayable (leaves t) → AllByRecursion CanDeclare (entities t)
  tree_declares (leaf t a) h = leaf_declares t (kind_of t) a refl h.0
  tree_declares (node t ks) h = kids_declare ks h

  kids_declare : (ks : Kids) → AreSayable (leaves_of ks) → AllByRecursion CanDeclare (entities_of ks)
  kids_declare no_kids h = tt
  kids_declare (kid t ks) h =
      all_both CanDeclare (entities t) (entities_of ks) (tree_declares t (all_front (λ l. objection l ≡ None) (leaves t) (leaves_of ks) h))
      (kids_declare ks (all_back (λ l. objection l ≡ None) (leaves t) (leaves_of ks) h))

pub own_declarable : (o : Ontology) → CanSayAll o → (kd : Kind) (iri : List ℕ) → has_kind (own_kinds o) kd iri ≡ true → may_be_declared kd iri ≡ true
unfolding may_be_declared
own_declarable o said kd iri h =
    elim ((has_kind_is (own_kinds o) kd iri).0 h) [
      | inl m ↦
          all_in CanDeclare (own_kinds o) (record { kind = kd; iri = iri }) (kids_declare (kids_of (o.annotations ++ o.axioms)) ((said_by_leaves o).0 said)) m
      | inr b ↦ or_right (not (is_reserved iri)) (is_built_in kd iri) b
    ]
