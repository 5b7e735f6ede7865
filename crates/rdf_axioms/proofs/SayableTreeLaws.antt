-- Trees that can be said in RDF, and what their leaves are.
use Rattle.std.proofs.Common.{◌≡◌, ℕ, true, false, List, [], inl, inr, refl, sym, ap, ◌∙◌, subst}
use Rattle.std.specs.Prelude.{Contains, codes, map, nat_eq, not, None, Some}
use Rattle.std.specs.List.{AllByRecursion, starts_with}
use Rattle.std.specs.Str.{bytes_eq}
use Rattle.std.proofs.lemmas.Bool.{and_from, both_ways, cases_Bool, cond-false, cond-true, or_cases, or_left, or_right}
use Rattle.std.proofs.lemmas.List.Elements.{Contains-append_left, Contains-append_right}
use Rattle.std.proofs.lemmas.Option.{none-some, same_Some}
use Rattle.std.proofs.lemmas.Slice.Eq.{bytes_eq-Decides}
use Rattle.owl_characters.specs.Order.{text_eq}
use Rattle.owl_doc.specs.Entities.{AreWellTyped, entities, entities_of, is_misused}
use Rattle.owl_kind.specs.declared.kind.Kind.{Kind}
use Rattle.owl_kind.specs.declared.kind.Kind.TheVariants as kind
use Rattle.owl_kind.specs.Kinds.{Entity, HasKind, is_built_in}
use Rattle.owl_tree.specs.declared.atom.Atom.{Atom}
use Rattle.owl_tree.specs.declared.atom.Atom.TheVariants as atom
use Rattle.owl_tree.specs.declared.row.AtomSort.TheVariants as held
use Rattle.owl_tree.specs.declared.tag.Tag.{Tag}
use Rattle.owl_tree.specs.declared.tag.Tag.TheVariants as tag
use Rattle.owl_tree.specs.Rows.{row_of, takes}
use Rattle.owl_tree.specs.Rows as tree
use Rattle.owl_tree.specs.Shape.{AreShaped, IsShaped}
use Rattle.owl_tree.specs.Trees.{Tree, Kids, leaf, node, no_kids, kid, list_of, tag_of}
use Rattle.rdf_meaning.specs.Denotation.{kind_of_entity}
use Rattle.rdf_meaning.specs.Kinds.{may_be_declared}
use Rattle.rdf_meaning.specs.Nodes.{is_facet}
use Rattle.rdf_terms.specs.Vocabulary.{is_reserved, rdf, xsd}
use Rattle.owl_doc.specs.Parts.{leaves, leaves_of}
use Rattle.sayable_parts.specs.Reasons.{reserved, facet_name}
use Rattle.rdf_sayable.specs.Sayable.{AreSayable, atom_objection, entity_objection, facet_objection, iri_objection, is_facet_name, objection}
use Rattle.rdf_mapping.specs.Graphs.{all_labels_in, labels_in}
use Rattle.rdf_mapping.proofs.TreeDrawingLaws.{all_back, all_front}
use Rattle.rdf_mapping.specs.Written.{HasFacetNames, HaveFacetNames}

-- shaped, well typed, with nothing to be said against its leaves, and with such labels alone
pub record IsSayableTree (k : List Entity) (IsAllowed : List ℕ → Type 0) (t : Tree) : Type 0 where
  pub shaped : IsShaped t
  pub typed : AreWellTyped k (entities t)
  pub sayable : AreSayable (leaves t)
  pub labels : (label : List ℕ) → Contains (labels_in t) label → IsAllowed label

module _ (k : List Entity) (IsAllowed : List ℕ → Type 0) where
  pub kids_sayable : (ks : Kids) → AreShaped ks → AreWellTyped k (entities_of ks) → AreSayable (leaves_of ks) → ((label : List ℕ) → Contains (all_labels_in ks) label → IsAllowed label) → AllByRecursion (IsSayableTree k IsAllowed) (list_of ks)
  kids_sayable no_kids shaped typed said labels = tt
  kids_sayable (kid t ks) shaped typed said labels = (
    record {
      shaped = shaped.0;
      typed = all_front (λ e. HasKind k e.kind e.iri) (entities t) (entities_of ks) typed;
      sayable = all_front (λ l. objection l ≡ None) (leaves t) (leaves_of ks) said;
      labels = λ label m. labels label (Contains-append_left (labels_in t) (all_labels_in ks) label m);
    },
    kids_sayable ks shaped.1 (all_back (λ e. HasKind k e.kind e.iri) (entities t) (entities_of ks) typed)
        (all_back (λ l. objection l ≡ None) (leaves t) (leaves_of ks) said)
        (λ label m. labels label (Contains-append_right (labels_in t) (all_labels_in ks) label m)),
  )

  pub kids_of_node : (t : Tag) (ks : Kids) → IsSayableTree k IsAllowed (node t ks) → AllByRecursion (IsSayableTree k IsAllowed) (list_of ks)
  kids_of_node t ks h = kids_sayable ks h.shaped.1 h.typed h.sayable h.labels

-- Facets have names of facets.

facet_said : (iri : List ℕ) → facet_objection iri ≡ None → is_facet iri ≡ true
unfolding is_facet
facet_said iri e =
    let range = rdf (codes "langRange") in
    let in_xsd = starts_with nat_eq iri (xsd []) in
    elim (cases_Bool (is_facet_name iri)) [
      | inl y ↦
          elim (or_cases in_xsd (text_eq range iri) y) [
            | inl s ↦ or_left in_xsd (bytes_eq iri range) s
            | inr r ↦ or_right in_xsd (bytes_eq iri range) ((bytes_eq-Decides iri range).1 (sym ((bytes_eq-Decides range iri).0 r)))
          ]
      | inr n ↦ absurd (none-some (facet_name iri) (sym e ∙ cond-false (is_facet_name iri) None (Some (facet_name iri)) n))
    ]

facet_leaf : (t : Tag) (iri : List ℕ) → iri_objection t iri ≡ None → t ≡ tag.Facet → is_facet iri ≡ true
unfolding iri_objection
facet_leaf t iri o e = facet_said iri (ap (λ (u : Tag). iri_objection u iri) (sym e) ∙ o)

mutual
  pub facets_named : (t : Tree) → AreSayable (leaves t) → HasFacetNames t
  facets_named (leaf t (atom.Iri iri)) h = facet_leaf t iri h.0
  facets_named (leaf t (atom.Label label)) h = tt
  facets_named (leaf t (atom.Literal literal)) h = tt
  facets_named (leaf t (atom.Number n)) h = tt
  facets_named (node t ks) h = all_facets_named ks h

  all_facets_named : (ks : Kids) → AreSayable (leaves_of ks) → HaveFacetNames ks
  all_facets_named no_kids h = tt
  all_facets_named (kid t ks) h = (
    facets_named t (all_front (λ l. objection l ≡ None) (leaves t) (leaves_of ks) h),
    all_facets_named ks (all_back (λ l. objection l ≡ None) (leaves t) (leaves_of ks) h),
  )

-- Entities have IRIs that may be declared.

not_misused : (kd : Kind) (iri : List ℕ) → entity_objection kd iri ≡ None → may_be_declared kd iri ≡ true
unfolding may_be_declared
not_misused kd iri e =
    elim (cases_Bool (is_reserved iri)) [
      | inl r ↦
          elim (cases_Bool (is_built_in kd iri)) [
            | inl b ↦ or_right (not (is_reserved iri)) (is_built_in kd iri) b
            | inr n ↦
                absurd (none-some (reserved iri)
                (sym e ∙ cond-true (is_misused kd iri) (Some (reserved iri)) None (and_from (is_reserved iri) (not (is_built_in kd iri)) r (ap not n))))
          ]
      | inr n ↦ or_left (not (is_reserved iri)) (is_built_in kd iri) (ap not n)
    ]

pub may_declare : (t : Tag) (kd : Kind) (iri : List ℕ) → kind_of_entity t ≡ Some kd → iri_objection t iri ≡ None → may_be_declared kd iri ≡ true
unfolding iri_objection
may_declare tag.Class kd iri e o = subst (λ k. may_be_declared k iri ≡ true) (same_Some kind.Class kd e) (not_misused kind.Class iri o)
may_declare tag.Datatype kd iri e o = subst (λ k. may_be_declared k iri ≡ true) (same_Some kind.Datatype kd e) (not_misused kind.Datatype iri o)
may_declare tag.ObjectProperty kd iri e o = subst (λ k. may_be_declared k iri ≡ true) (same_Some kind.ObjectProperty kd e) (not_misused kind.ObjectProperty iri o)
may_declare tag.DataProperty kd iri e o = subst (λ k. may_be_declared k iri ≡ true) (same_Some kind.DataProperty kd e) (not_misused kind.DataProperty iri o)
may_declare tag.AnnotationProperty kd iri e o = subst (λ k. may_be_declared k iri ≡ true) (same_Some kind.AnnotationProperty kd e) (not_misused kind.AnnotationProperty iri o)
may_declare tag.NamedIndividual kd iri e o = subst (λ k. may_be_declared k iri ≡ true) (same_Some kind.Individual kd e) (not_misused kind.Individual iri o)
may_declare _ kd iri e o = absurd (none-some kd e)

-- a tree of the tag of an entity is its IRI
pub record IsEntity (t : Tag) (kd : Kind) (u : Tree) : Type 0 where
  pub iri : List ℕ
  pub is : u ≡ leaf t (atom.Iri iri)
  pub may : may_be_declared kd iri ≡ true

entity_row : (t : Tag) (kd : Kind) → kind_of_entity t ≡ Some kd → row_of t ≡ tree.Leaf held.Iri
unfolding row_of
entity_row tag.Class kd e = refl
entity_row tag.Datatype kd e = refl
entity_row tag.ObjectProperty kd e = refl
entity_row tag.DataProperty kd e = refl
entity_row tag.AnnotationProperty kd e = refl
entity_row tag.NamedIndividual kd e = refl
entity_row _ kd e = absurd (none-some kd e)

entity_leaf : (t : Tag) (kd : Kind) (a : Atom) → kind_of_entity t ≡ Some kd → takes (tree.Leaf held.Iri) a ≡ true → atom_objection t a ≡ None → IsEntity t kd (leaf t a)
entity_leaf t kd (atom.Iri iri) e h o = record { iri = iri; is = refl; may = may_declare t kd iri e o }
entity_leaf t kd _ e h o = absurd (both_ways false refl h)

entity_of_tag : (t : Tag) (kd : Kind) (u : Tree) → kind_of_entity t ≡ Some kd → IsShaped u → AreSayable (leaves u) → t ≡ tag_of u → IsEntity (tag_of u) kd u
entity_of_tag t kd (leaf v a) e shaped said same =
    let is = ap kind_of_entity (sym same) ∙ e in
    entity_leaf v kd a is (ap (λ (r : tree.Row). takes r a) (sym (entity_row v kd is)) ∙ shaped.0) said.0
entity_of_tag t kd (node v ks) e shaped said same =
    absurd (both_ways false refl (ap (λ (r : tree.Row). tree.fits r (map tag_of (list_of ks))) (sym (entity_row v kd (ap kind_of_entity (sym same) ∙ e))) ∙ shaped.0.row))

pub entity_tree : (t : Tag) (kd : Kind) (u : Tree) → kind_of_entity t ≡ Some kd → IsShaped u → AreSayable (leaves u) → t ≡ tag_of u → IsEntity t kd u
entity_tree t kd u e shaped said same = subst (λ v. IsEntity v kd u) (sym same) (entity_of_tag t kd u e shaped said same)
