-- What is known of the axioms and the annotations of an ontology that can be stated.
use Rattle.std.proofs.Common.{◌≡◌, Bool, true, false, not, List, [], ◌∷◌, ◌++◌, refl, sym, ap, ◌∙◌, subst}
use Rattle.std.specs.Prelude.{Contains, ◌||◌, map, None}
use Rattle.std.proofs.lemmas.List.Elements.{Contains-append_right}
use Rattle.std.specs.List.{AllByRecursion, list_all}
use Rattle.std.proofs.lemmas.Bool.{and_from, and_parts, both_ways}
use Rattle.owl_doc.specs.Entities.{AreWellTyped, entities, entities_of}
use Rattle.owl_kind.specs.Kinds.{Entity, HasKind}
use Rattle.owl_list.specs.Ascending.{ascending}
use Rattle.owl_list.proofs.AscendingLaws.{all_in, all_later, in_head}
use Rattle.owl_tree.specs.declared.atom.Atom.{Atom}
use Rattle.owl_tree.specs.Order.{tree_cmp}
use Rattle.owl_tree.specs.declared.row.Sort.TheVariants as sort
use Rattle.owl_tree.specs.declared.tag.Tag.{Tag}
use Rattle.owl_tree.specs.declared.tag.Tag.TheVariants as tag
use Rattle.owl_tree.specs.Ontologies.{IsAnnotation, IsAxiom, Ontology}
use Rattle.owl_tree.specs.Rows.{Row, Leaf, Node, admits, fits, row_of, takes}
use Rattle.owl_tree.specs.Shape.{AreShaped, IsShaped}
use Rattle.owl_tree.specs.Tags.{is_axiom, number_of}
use Rattle.owl_tree.specs.Trees.{Tree, leaf, node, no_kids, kid, kids_of, list_of, tag_of}
use Rattle.owl_doc.specs.Parts.{leaves, leaves_of, ontology_leaves}
use Rattle.sayable_parts.proofs.PartLaws.{from_leaf, leaves_both}
use Rattle.rdf_sayable.specs.Sayable.{AreSayable, objection}
use Rattle.rdf_sayable.proofs.SayableLaws.{said_among, said_by_leaves}
use Rattle.rdf_normal.specs.Tidied.{IsPlain}
use Rattle.rdf_normal.proofs.AgainLaws.{normal_not_about, normal_plain}
use Rattle.rdf_normal.specs.NormalForms.{settled, tidied, unsettled_annotations, unsettled_axioms}
use Rattle.rdf_normal.proofs.TidiedLaws.{IsTidy, settled_tidy}
use Rattle.rdf_mapping.proofs.BesideLaws.{all_declarable_beside}
use Rattle.rdf_mapping.specs.Drawing.{statement_of}
use Rattle.rdf_mapping.specs.Entries.{AreAllBeside}
use Rattle.rdf_mapping.specs.Forms.{link}
use Rattle.rdf_mapping.specs.Graphs.{axiom_notes, bare, notes_from}
use Rattle.rdf_mapping.specs.GroupFrames.{AreNotesApart}
use Rattle.rdf_mapping.specs.Notes.{Notes, no_notes, note, annotation_in, notes_in}
use Rattle.rdf_mapping.proofs.TreeDrawingLaws.{all_front}
use Rattle.rdf_states.specs.Annotations.{AreAnnotations}
use Rattle.rdf_states.proofs.AnnotationLaws.{AreNeeded, declarable, kids_annotate, needed_needs, notes_annotate, tidy_kid}
use Rattle.rdf_states.specs.Stated.{CanBeDrawn, IsAxiomTree, IsStatedAxiom}

-- The first kid of an axiom is its annotations.

abbrev has_notes : Row → Bool
has_notes (Node (sort.Notes ∷ front) rest) = true
has_notes _ = false

axiom_notes_first : (t : Tag) → (not (is_axiom t) || has_notes (row_of t)) ≡ true
unfolding row_of number_of
axiom_notes_first tag.Class = refl
axiom_notes_first _ = refl

first_notes : (r : Row) (u : Tag) (us : List Tag) → has_notes r ≡ true → fits r (u ∷ us) ≡ true → admits sort.Notes u ≡ true
first_notes (Node (sort.Notes ∷ front) rest) u us h f = (and_parts (admits sort.Notes u) _ f).0
first_notes (Node [] rest) u us h f = absurd (both_ways false refl h)
first_notes (Node (_ ∷ front) rest) u us h f = absurd (both_ways false refl h)
first_notes (Leaf s) u us h f = absurd (both_ways false refl h)

no_first : (r : Row) → has_notes r ≡ true → fits r [] ≡ true → ⊥
no_first (Node (s ∷ front) rest) h f = both_ways false refl f
no_first (Node [] rest) h f = both_ways false refl h
no_first (Leaf s) h f = both_ways false refl h

no_atom : (r : Row) (a : Atom) → has_notes r ≡ true → takes r a ≡ true → ⊥
no_atom (Node front rest) a h f = both_ways false refl f
no_atom (Leaf s) a h f = both_ways false refl h

axiom_row : (t : Tag) → is_axiom t ≡ true → has_notes (row_of t) ≡ true
axiom_row t h = ap (λ (b : Bool). not b || has_notes (row_of t)) (sym h) ∙ axiom_notes_first t

pub axiom_tree : (a : Tree) → IsAxiom a → IsAxiomTree a
axiom_tree (leaf t a) x = absurd (no_atom (row_of t) a (axiom_row t x.tag) x.shaped.0)
axiom_tree (node t no_kids) x = absurd (no_first (row_of t) (axiom_row t x.tag) x.shaped.0.row)
axiom_tree (node t (kid n ks)) x =
    let first = notes_annotate n (first_notes (row_of t) (tag_of n) (map tag_of (list_of ks)) (axiom_row t x.tag) x.shaped.0.row) x.shaped.1.0 in
    record { own_tag = t; notes = first.0; kids = ks; is = ap (λ (m : Tree). node t (kid m ks)) first.1; annotations = first.2 }

-- Trees of a list, and the kids that they make.

abbrev Annotate : List Tree → Type 0
Annotate ts = (list_all (admits sort.Annotation) (map tag_of (list_of (kids_of ts))) ≡ true) × AreShaped (kids_of ts)

annotation_admitted : admits sort.Annotation tag.Annotation ≡ true
unfolding admits number_of
annotation_admitted = refl

shaped_kids : (ts : List Tree) → AllByRecursion IsAnnotation ts → Annotate ts
shaped_kids [] h = (refl, tt)
shaped_kids (t ∷ ts) h =
    let rest = shaped_kids ts h.1 in (
      and_from (admits sort.Annotation (tag_of t)) (list_all (admits sort.Annotation) (map tag_of (list_of (kids_of ts)))) (ap (admits sort.Annotation) h.0.tag ∙ annotation_admitted) rest.0,
      (h.0.shaped, rest.1),
    )

pub notes_from_kids : (ts : List Tree) → notes_from ts ≡ notes_in (kids_of ts)
notes_from_kids [] = refl
notes_from_kids (t ∷ ts) = ap (annotation_in t) (notes_from_kids ts)

module _ (k : List Entity) (o : Ontology) (c : CanBeDrawn k o) where
  same_axioms : settled (unsettled_axioms o) ≡ o.axioms
  same_axioms = ap (λ (p : Ontology). p.axioms) c.normal

  same_annotations : settled (unsettled_annotations o) ≡ o.annotations
  same_annotations = ap (λ (p : Ontology). p.annotations) c.normal

  pub needed_axioms : AreNeeded o.axioms
  needed_axioms = subst AreNeeded same_axioms (needed_needs (ascending tree_cmp (map tidied (unsettled_axioms o))))

  pub needed_annotations : AreNeeded o.annotations
  needed_annotations = subst AreNeeded same_annotations (needed_needs (ascending tree_cmp (map tidied (unsettled_annotations o))))

  said_leaves : AreSayable (ontology_leaves o)
  said_leaves = (said_by_leaves o).0 c.sayable

  shaped_axioms : AllByRecursion IsShaped o.axioms
  shaped_axioms = all_later IsAxiom IsShaped (λ t h. h.shaped) o.axioms c.is_ontology.axioms

  pub stated_axiom : (a : Tree) → Contains o.axioms a → IsStatedAxiom k o a
  stated_axiom a m =
      let is = all_in IsAxiom o.axioms a c.is_ontology.axioms m in
      let tidy = all_in IsTidy o.axioms a (subst (AllByRecursion IsTidy) same_axioms (settled_tidy (unsettled_axioms o))) m in
      let plain = subst (AllByRecursion IsPlain) same_axioms (normal_plain o shaped_axioms) in
      let among = subst (λ (ts : List Tree). Contains ts a) (sym same_axioms) m in
      record {
        sayable = record {
          is = is;
          canonical = tidy.canonical;
          plain = all_in IsPlain o.axioms a plain m;
          typed = all_in (λ t. AreWellTyped k (entities t)) o.axioms a c.typed_axioms m;
          sayable = said_among (ontology_leaves o) (leaves a) (λ l i. from_leaf (o.annotations ++ o.axioms) a l (Contains-append_right o.annotations o.axioms a m) i) said_leaves;
        };
        tidy = tidy.tidied;
        other = normal_not_about o a among;
        tree = axiom_tree a is;
      }

  -- the annotations of the ontology
  pub annotations_are : AreAnnotations (kids_of o.annotations)
  annotations_are = let h = shaped_kids o.annotations c.is_ontology.annotations in kids_annotate (kids_of o.annotations) h.0 h.1

  pub annotations_said : AreSayable (leaves_of (kids_of o.annotations))
  annotations_said =
      all_front (λ l. objection l ≡ None) (leaves_of (kids_of o.annotations)) (leaves_of (kids_of o.axioms))
      (subst AreSayable (leaves_both o.annotations o.axioms) said_leaves)

  pub annotations_tidy : (t : Tree) → Contains o.annotations t → tidied t ≡ t
  annotations_tidy t m = (all_in IsTidy o.annotations t (subst (AllByRecursion IsTidy) same_annotations (settled_tidy (unsettled_annotations o))) m).tidied

-- The annotations of an axiom are its first kid.

pub notes_are : (a : Tree) (is : IsAxiomTree a) → axiom_notes a ≡ notes_in is.notes
notes_are a is = ap axiom_notes is.is

-- it says the same without them
pub bare_statement : (a : Tree) → statement_of (bare a) ≡ statement_of a
bare_statement (leaf t a) = refl
bare_statement (node t no_kids) = refl
bare_statement (node t (kid ns ks)) = refl

-- what holds of the leaves of an axiom holds of those of its annotations
module _ (k : List Entity) (o : Ontology) (a : Tree) (is : IsStatedAxiom k o a) where
  pub notes_said : AreSayable (leaves_of is.tree.notes)
  notes_said =
      all_front (λ l. objection l ≡ None) (leaves_of is.tree.notes) (leaves_of is.tree.kids)
      (subst (λ (b : Tree). AreSayable (leaves b)) is.tree.is is.sayable.sayable)

  pub notes_typed : AreWellTyped k (entities_of is.tree.notes)
  notes_typed =
      all_front (λ e. HasKind k e.kind e.iri) (entities_of is.tree.notes) (entities_of is.tree.kids)
      (subst (λ (b : Tree). AreWellTyped k (entities b)) is.tree.is is.sayable.typed)

  pub notes_tidy : tidied (node tag.Notes is.tree.notes) ≡ node tag.Notes is.tree.notes
  notes_tidy =
      let first = node tag.Notes is.tree.notes in
      tidy_kid is.tree.own_tag (kid first is.tree.kids) first (subst (λ (b : Tree). tidied b ≡ b) is.tree.is is.tidy) (in_head first (list_of is.tree.kids))

  pub notes_beside : AreAllBeside (axiom_notes a)
  notes_beside = subst AreAllBeside (sym (notes_are a is.tree)) (all_declarable_beside (notes_in is.tree.notes) (declarable is.tree.notes is.tree.annotations notes_said))

-- no annotation makes its subject what it is
pub beside_apart : (ns : Notes) → AreAllBeside ns → AreNotesApart ns
beside_apart no_notes b = tt
beside_apart (note p v inside more) b = (λ x c. b.0 (link x p v) refl c, (beside_apart inside b.1.0, beside_apart more b.1.1))
