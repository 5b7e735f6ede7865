-- What is known of the form at a part of a triple's row.
use Rattle.std.proofs.Common.{◌≡◌, ◌⊎◌, ℕ, true, false, List, inl, inr, refl, sym, ap, ◌∙◌, subst}
use Rattle.std.specs.Prelude.{Contains, not, ◌&&◌, Option, None, Some}
use Rattle.std.specs.List.{list_any}
use Rattle.std.proofs.lemmas.Bool.{and_from, and_parts, both_ways, cases_Bool, not-true}
use Rattle.rdf_terms.specs.Literals.{LiteralParts}
use Rattle.owl_kind.specs.declared.kind.Kind.{Kind}
use Rattle.owl_kind.specs.declared.kind.Kind.TheVariants as kind
use Rattle.owl_kind.specs.Kinds.{Entity}
use Rattle.owl_tree.specs.declared.atom.Atom.{Atom}
use Rattle.owl_tree.specs.declared.atom.Atom.TheVariants as atom
use Rattle.owl_tree.specs.declared.row.Sort.{Sort}
use Rattle.owl_tree.specs.declared.row.Sort.TheVariants as sort
use Rattle.owl_tree.specs.declared.tag.Tag.{Tag}
use Rattle.owl_tree.specs.declared.tag.Tag.TheVariants as tag
use Rattle.owl_tree.specs.Rows.{admits, is_tag, row_of, takes}
use Rattle.owl_tree.specs.Shape.{IsShaped}
use Rattle.owl_tree.specs.Tags.{number_of}
use Rattle.owl_tree.specs.Trees.{Tree, leaf, node, tag_of}
use Rattle.rdf_graph.specs.declared.term.Term.TheVariants.{Iri, Literal}
use Rattle.rdf_meaning.specs.declared.row.Want.{Want}
use Rattle.rdf_meaning.specs.declared.row.Want.TheVariants.{One, Many, Whole, Keys, Declared, Mark, True}
use Rattle.rdf_meaning.specs.declared.word.Word.{Word}
use Rattle.rdf_meaning.specs.Denotation.{kind_of_entity}
use Rattle.rdf_meaning.specs.Kinds.{may_be_declared}
use Rattle.rdf_meaning.proofs.ListLaws.{some_passes}
use Rattle.rdf_meaning.specs.Nodes.{is_iri, is_word}
use Rattle.rdf_meaning.specs.Rows.{Row, node_rows}
use Rattle.rdf_meaning.proofs.WordLaws.{same_word}
use Rattle.rdf_meaning.specs.Words.{word_iri}
use Rattle.owl_doc.specs.Parts.{leaves}
use Rattle.rdf_sayable.specs.Sayable.{AreSayable}
use Rattle.rdf_mapping.specs.Drawing.{Kid, arcs_of, facet_arcs, form_of, kids_seen, node_form, placed, row_for, tags_of}
use Rattle.rdf_mapping.specs.Forms.{Form, plain, made, Arcs, no_arcs, blank, term_of}
use Rattle.rdf_mapping.proofs.FreeLaws.{no_class, property_free}
use Rattle.rdf_mapping.specs.GroupFrames.{IsSubject}
use Rattle.rdf_mapping.proofs.NodeDrawingLaws.{row_form, same_tag}
use Rattle.rdf_mapping.specs.Sorts.{IsFree, IsProperty, annotation_property, data_property, object_property}
use Rattle.rdf_axioms.proofs.Placed.{is_class, is_declared, is_free, is_free_property, is_of_subjects, is_subject}
use Rattle.rdf_axioms.proofs.SayableTreeLaws.{IsEntity, IsSayableTree, entity_tree}

-- A node is drawn as a node.

pub record IsMade (f : Form) : Type 0 where
  pub arcs : Arcs
  pub is : f ≡ made arcs

made_by : (t : Tag) (ks : List Kid) (o : Option Row) → is_tag tag.FacetPair t ≡ false → row_for node_rows t (tags_of ks) ≡ o → IsMade (node_form t ks)
made_by t ks None h e = record { arcs = no_arcs; is = rw (h, e) refl }
made_by t ks (Some r) h e = record { arcs = arcs_of (placed r.parts ks); is = row_form t ks r h e }

facet_made : (t : Tag) (ks : List Kid) → is_tag tag.FacetPair t ≡ true → IsMade (node_form t ks)
facet_made t ks h = record { arcs = facet_arcs ks; is = rw h refl }

pub node_made : (t : Tag) (ks : List Kid) → IsMade (node_form t ks)
node_made t ks =
    elim (cases_Bool (is_tag tag.FacetPair t)) [
      | inl y ↦ facet_made t ks y
      | inr n ↦ made_by t ks (row_for node_rows t (tags_of ks)) n refl
    ]

-- No literal stands where a subject is wanted.

literal_leaf : (t : Tag) (literal : LiteralParts) → takes (row_of t) (atom.Literal literal) ≡ true → tag.Literal ≡ t
unfolding row_of
literal_leaf tag.Literal literal h = refl
literal_leaf _ literal h = absurd (both_ways false refl h)

number_leaf : (t : Tag) (n : ℕ) → takes (row_of t) (atom.Number n) ≡ true → tag.Number ≡ t
unfolding row_of
number_leaf tag.Number n h = refl
number_leaf _ n h = absurd (both_ways false refl h)

not_admitted : (s : Sort) (t u : Tag) → not (admits s t) ≡ true → admits s u ≡ true → t ≡ u → ⊥
not_admitted s t u n h e = both_ways (admits s t) (not-true (admits s t) n) (ap (admits s) e ∙ h)

module _ (name : ℕ → List ℕ) where
  leaf_subject : (s : Sort) (t : Tag) (a : Atom) (n : ℕ) → is_of_subjects s ≡ true → admits s t ≡ true → takes (row_of t) a ≡ true → IsSubject (term_of name (form_of (leaf t a)) n)
  leaf_subject s t (atom.Iri iri) n h m k literal e = cc
  leaf_subject s t (atom.Label label) n h m k literal e = cc
  leaf_subject s t (atom.Literal l) n h m k literal e =
      not_admitted s tag.Literal t (and_parts (not (admits s tag.Literal)) (not (admits s tag.Number)) h).0 m (literal_leaf t l k)
  leaf_subject s t (atom.Number i) n h m k literal e =
      not_admitted s tag.Number t (and_parts (not (admits s tag.Literal)) (not (admits s tag.Number)) h).1 m (number_leaf t i k)

  made_subject : (f : Form) (n : ℕ) → IsMade f → IsSubject (term_of name f n)
  made_subject f n h literal e =
      let at : blank name n ≡ Literal literal = ap (λ (q : Form). term_of name q n) (sym h.is) ∙ e in
      cc

  pub tree_subject : (s : Sort) (t : Tree) (n : ℕ) → is_of_subjects s ≡ true → admits s (tag_of t) ≡ true → IsShaped t → IsSubject (term_of name (form_of t) n)
  tree_subject s (leaf t a) n h m shaped = leaf_subject s t a n h m shaped.0
  tree_subject s (node t ks) n h m shaped = made_subject (node_form t (kids_seen ks)) n (node_made t (kids_seen ks))

  -- No class is a word.

  class_no_word : (iri : List ℕ) (w : Word) → may_be_declared kind.Class iri ≡ true → Iri iri ≡ Iri (word_iri w) → ⊥
  class_no_word iri w m e =
      let same : iri ≡ word_iri w = cc in
      both_ways (may_be_declared kind.Class (word_iri w)) (no_class w) (ap (may_be_declared kind.Class) (sym same) ∙ m)

  class_tag : (t : Tag) (a : Atom) → (admits sort.ClassExpression t && takes (row_of t) a) ≡ true → tag.Class ≡ t
  unfolding admits row_of number_of
  class_tag tag.Class a h = refl
  class_tag _ a h = absurd (both_ways false refl h)

  -- an entity is drawn as its IRI
  entity_term : (t : Tag) (kd : Kind) (u : Tree) (n : ℕ) → (e : IsEntity t kd u) → term_of name (form_of u) n ≡ Iri e.iri
  entity_term t kd u n e = ap (λ (v : Tree). term_of name (form_of v) n) e.is

  class_apart : (t : Tree) (n : ℕ) (w : Word) → admits sort.ClassExpression (tag_of t) ≡ true → IsShaped t → AreSayable (leaves t) → term_of name (form_of t) n ≡ Iri (word_iri w) → ⊥
  class_apart (leaf t a) n w m shaped said e =
      let named = entity_tree tag.Class kind.Class (leaf t a) refl shaped said (class_tag t a (and_from (admits sort.ClassExpression t) (takes (row_of t) a) m shaped.0)) in
      class_no_word named.iri w named.may (sym (entity_term tag.Class kind.Class (leaf t a) n named) ∙ e)
  class_apart (node t ks) n w m shaped said e =
      let at : blank name n ≡ Iri (word_iri w) = ap (λ (q : Form). term_of name q n) (sym (node_made t (kids_seen ks)).is) ∙ e in
      cc

  -- a property has a name, or is drawn as a node
  property_tag : (t : Tag) (a : Atom) → (admits sort.ObjectPropertyExpression t && takes (row_of t) a) ≡ true → t ≡ tag.ObjectProperty
  unfolding admits row_of number_of
  property_tag tag.ObjectProperty a h = refl
  property_tag _ a h = absurd (both_ways false refl h)

  pub property_term : (u : Tree) (n : ℕ) → IsShaped u → admits sort.ObjectPropertyExpression (tag_of u) ≡ true → (tag_of u ≡ tag.ObjectProperty) ⊎ (is_iri (term_of name (form_of u) n) ≡ false)
  property_term (leaf t a) n shaped m = inl (property_tag t a (and_from (admits sort.ObjectPropertyExpression t) (takes (row_of t) a) m shaped.0))
  property_term (node t ks) n shaped m = inr (ap (λ (q : Form). is_iri (term_of name q n)) (node_made t (kids_seen ks)).is)

  pub named_term : (u : Tree) (n : ℕ) → IsShaped u → AreSayable (leaves u) → tag_of u ≡ tag.ObjectProperty → is_iri (term_of name (form_of u) n) ≡ true
  named_term u n shaped said e =
      ap is_iri (entity_term tag.ObjectProperty kind.ObjectProperty u n (entity_tree tag.ObjectProperty kind.ObjectProperty u refl shaped said (sym e)))

-- Properties that are told by no word.

pub record IsFreeName (f : Form) : Type 0 where
  pub iri : List ℕ
  pub is : f ≡ plain (Iri iri)
  pub free : IsFree iri

property_tree : (t : Tag) (kd : Kind) (u : Tree) → kind_of_entity t ≡ Some kd → IsProperty kd → is_tag t (tag_of u) ≡ true → IsShaped u → AreSayable (leaves u) → IsFreeName (form_of u)
property_tree t kd u e is h shaped said =
    let named = entity_tree t kd u e shaped said (same_tag t (tag_of u) h) in
    record { iri = named.iri; is = ap form_of named.is; free = property_free kd is named.iri named.may }

free_tree : (s : Sort) (u : Tree) → is_free s ≡ true → admits s (tag_of u) ≡ true → IsShaped u → AreSayable (leaves u) → IsFreeName (form_of u)
unfolding admits
free_tree sort.ObjectProperty u h m shaped said = property_tree tag.ObjectProperty kind.ObjectProperty u refl object_property m shaped said
free_tree sort.DataPropertyExpression u h m shaped said = property_tree tag.DataProperty kind.DataProperty u refl data_property m shaped said
free_tree sort.AnnotationProperty u h m shaped said = property_tree tag.AnnotationProperty kind.AnnotationProperty u refl annotation_property m shaped said
free_tree _ u h m shaped said = absurd (both_ways false refl h)

-- What is known of the form at a part.

-- it is a tree of the sort, which can be said
pub record IsTreeAt (k : List Entity) (IsAllowed : List ℕ → Type 0) (s : Sort) (f : Form) : Type 0 where
  pub tree : Tree
  pub is : f ≡ form_of tree
  pub suits : admits s (tag_of tree) ≡ true
  pub good : IsSayableTree k IsAllowed tree

pub record IsNameAt (f : Form) : Type 0 where
  pub iri : List ℕ
  pub is : f ≡ plain (Iri iri)

abbrev pub IsKnownAt : List Entity → (List ℕ → Type 0) → Want → Form → Type 0
IsKnownAt k IsAllowed (One s) f = IsTreeAt k IsAllowed s f
IsKnownAt k IsAllowed (Many s least) f = Unit {0}
IsKnownAt k IsAllowed (Whole t s least) f = Unit {0}
IsKnownAt k IsAllowed Keys f = Unit {0}
IsKnownAt k IsAllowed (Declared t) f = IsNameAt f
IsKnownAt k IsAllowed Mark f = Unit {0}
IsKnownAt k IsAllowed True f = Unit {0}

pub entity_kind : (t : Tag) → admits sort.Entity t ≡ true → (kd : Kind) × (kind_of_entity t ≡ Some kd)
unfolding admits number_of
entity_kind tag.Class h = (kind.Class, refl)
entity_kind tag.Datatype h = (kind.Datatype, refl)
entity_kind tag.ObjectProperty h = (kind.ObjectProperty, refl)
entity_kind tag.DataProperty h = (kind.DataProperty, refl)
entity_kind tag.AnnotationProperty h = (kind.AnnotationProperty, refl)
entity_kind tag.NamedIndividual h = (kind.Individual, refl)
entity_kind _ h = absurd (both_ways false refl h)

pub declared_name : (t : Tag) (u : Tree) → admits sort.Entity t ≡ true → is_tag t (tag_of u) ≡ true → IsShaped u → AreSayable (leaves u) → IsNameAt (form_of u)
declared_name t u h m shaped said =
    let kd = entity_kind t h in
    let named = entity_tree t kd.0 u kd.1 shaped said (same_tag t (tag_of u) m) in
    record { iri = named.iri; is = ap form_of named.is }

-- a word among others
pub in_words : (w : Word) (ws : List Word) → list_any (is_word w) ws ≡ true → Contains ws w
in_words w ws h = let p = some_passes (is_word w) ws h in subst (λ v. Contains ws v) (sym (same_word w p.element p.passes)) p.inside

module _ (name : ℕ → List ℕ) (k : List Entity) (IsAllowed : List ℕ → Type 0) where
  -- what stands where a subject is wanted
  pub subject_at : (w : Want) (f : Form) (n : ℕ) → is_subject w ≡ true → IsKnownAt k IsAllowed w f → IsSubject (term_of name f n)
  subject_at (One s) f n h at literal e =
      tree_subject name s at.tree n h at.suits at.good.shaped literal (ap (λ (q : Form). term_of name q n) (sym at.is) ∙ e)
  subject_at (Declared t) f n h at literal e =
      let iri : Iri at.iri ≡ Literal literal = ap (λ (q : Form). term_of name q n) (sym at.is) ∙ e in
      cc
  subject_at _ f n h at literal e = absurd (both_ways false refl h)

  pub declared_at : (w : Want) (f : Form) (n : ℕ) → is_declared w ≡ true → IsKnownAt k IsAllowed w f → is_iri (term_of name f n) ≡ true
  declared_at (Declared t) f n h at = ap (λ (q : Form). is_iri (term_of name q n)) at.is
  declared_at _ f n h at = absurd (both_ways false refl h)

  pub class_at : (a : Want) (f : Form) (n : ℕ) (w : Word) → is_class a ≡ true → IsKnownAt k IsAllowed a f → term_of name f n ≡ Iri (word_iri w) → ⊥
  class_at (One sort.ClassExpression) f n w h at e =
      class_apart name at.tree n w at.suits at.good.shaped at.good.sayable (ap (λ (q : Form). term_of name q n) (sym at.is) ∙ e)
  class_at _ f n w h at e = absurd (both_ways false refl h)

  pub property_at : (a : Want) (f : Form) → is_free_property a ≡ true → IsKnownAt k IsAllowed a f → IsFreeName f
  property_at (One s) f h at = subst IsFreeName (sym at.is) (free_tree s at.tree h at.suits at.good.shaped at.good.sayable)
  property_at _ f h at = absurd (both_ways false refl h)
