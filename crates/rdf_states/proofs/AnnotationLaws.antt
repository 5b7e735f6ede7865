-- The annotations of a normal form that can be said are read back, and are settled.
use Rattle.std.proofs.Common.{◌≡◌, ◌⊎◌, ℕ, Bool, true, false, not, List, [], ◌∷◌, ◌++◌, inl, inr, refl, sym, ap, ◌∙◌, subst}
use Rattle.std.specs.Prelude.{Contains, ◌&&◌, ◌||◌, map, Some, None, if◌then◌else◌}
use Rattle.std.specs.List.{list_all, list_any}
use Rattle.std.proofs.lemmas.Bool.{and_from, and_parts, both_ways, cond-true}
use Rattle.std.proofs.lemmas.List.Elements.{Contains-append_left, Contains-append_right}
use Rattle.std.proofs.lemmas.Option.{none-some}
use Rattle.owl_doc.specs.Entities.{AreWellTyped, entities, entities_of, is_misused, kind_of}
use Rattle.owl_kind.specs.declared.kind.Kind.TheVariants as kind
use Rattle.owl_kind.specs.Kinds.{Entity, HasKind, is_built_in}
use Rattle.owl_list.proofs.AscendingLaws.{from_map, in_head, in_tail}
use Rattle.owl_tree.specs.Canonical.{arranged}
use Rattle.owl_tree.proofs.CanonicalLaws.{arranged_holds}
use Rattle.owl_tree.specs.declared.atom.Atom.{Atom}
use Rattle.owl_tree.specs.declared.atom.Atom.TheVariants as atom
use Rattle.owl_tree.specs.declared.row.Sort.TheVariants as sort
use Rattle.owl_tree.specs.declared.tag.Tag.{Tag}
use Rattle.owl_tree.specs.declared.tag.Tag.TheVariants as tag
use Rattle.owl_tree.specs.Rows.{Row, Leaf, Node, admits, fits, is_tag, row_of, set_start, takes}
use Rattle.owl_tree.specs.Shape.{AreShaped, IsShaped}
use Rattle.owl_tree.specs.Tags.{number_of}
use Rattle.owl_tree.proofs.TreeLaws.{list_of_kids_of}
use Rattle.owl_tree.specs.Trees.{Tree, Kids, leaf, node, no_kids, kid, kids_in, list_of, tag_of}
use Rattle.rdf_graph.specs.declared.term.Term.{Term}
use Rattle.rdf_graph.specs.declared.term.Term.TheVariants.{Iri}
use Rattle.rdf_graph.specs.declared.triple.Triple.{Triple}
use Rattle.rdf_meaning.specs.Denotation.{simple}
use Rattle.rdf_meaning.specs.Kinds.{has_kind, may_be_declared}
use Rattle.rdf_meaning.proofs.KindLaws.{has_kind_is}
use Rattle.rdf_terms.specs.Vocabulary.{is_reserved}
use Rattle.owl_doc.specs.Parts.{leaves, leaves_of}
use Rattle.sayable_parts.specs.Reasons.{Objection, reserved}
use Rattle.rdf_sayable.specs.Sayable.{AreSayable, iri_objection, objection}
use Rattle.rdf_normal.proofs.NeedlessLaws.{any_if, both_true, from_filter, not_true, says_more_if}
use Rattle.rdf_normal.specs.NormalForms.{is_annotated, is_needless, needed, needed_in, says_more, tidied, tidieds}
use Rattle.rdf_normal.specs.OneTriple.{is_one_triple}
use Rattle.rdf_normal.proofs.TidiedLaws.{in_needed_in, needed_twice, tidied_tidy, tidieds_map}
use Rattle.rdf_mapping.specs.Drawing.{atom_term}
use Rattle.rdf_mapping.specs.Entries.{AreAllDeclarable}
use Rattle.rdf_mapping.specs.Graphs.{all_labels_in, labels_in}
use Rattle.rdf_mapping.proofs.LeafDrawingLaws.{leaf_simple}
use Rattle.rdf_mapping.proofs.NodeDrawingLaws.{same_tag}
use Rattle.rdf_mapping.specs.Notes.{Notes, no_notes, note, notes_in}
use Rattle.rdf_mapping.specs.NoteTrees.{AreReadable, no_annotation, an_annotation, AreSettled, EachSettled, IsAmong, here, later}
use Rattle.rdf_mapping.proofs.TreeDrawingLaws.{all_back, all_front}
use Rattle.rdf_mapping.specs.Written.{AreIndividuals, HaveIndividuals}
use Rattle.rdf_states.specs.Annotations.{AreAnnotations, none, one, IsValue, annotation_of}

-- Trees that are shaped as annotations are such.

abbrev tags_in : Kids → List Tag
tags_in ks = map tag_of (list_of ks)

abbrev is_leaf_row : Row → Bool
is_leaf_row (Leaf s) = true
is_leaf_row (Node front rest) = false

no_kids_fit : (r : Row) (ts : List Tag) → is_leaf_row r ≡ true → fits r ts ≡ true → ⊥
no_kids_fit (Leaf s) ts h f = both_ways false refl f
no_kids_fit (Node front rest) ts h f = both_ways false refl h

value_tags : (t : Tag) → (not (admits sort.AnnotationValue t) || is_leaf_row (row_of t)) ≡ true
unfolding admits row_of number_of
value_tags tag.Class = refl
value_tags _ = refl

value_row : (t : Tag) → admits sort.AnnotationValue t ≡ true → is_leaf_row (row_of t) ≡ true
value_row t h = ap (λ (b : Bool). not b || is_leaf_row (row_of t)) (sym h) ∙ value_tags t

notes_tag : (t : Tag) → admits sort.Notes t ≡ true → tag.Notes ≡ t
unfolding admits
notes_tag t h = same_tag tag.Notes t h

annotation_tag : (t : Tag) → admits sort.Annotation t ≡ true → tag.Annotation ≡ t
unfolding admits
annotation_tag t h = same_tag tag.Annotation t h

property_tag : (t : Tag) → admits sort.AnnotationProperty t ≡ true → tag.AnnotationProperty ≡ t
unfolding admits
property_tag t h = same_tag tag.AnnotationProperty t h

three_tags : (a b c : Tag) → fits (row_of tag.Annotation) (a ∷ b ∷ c ∷ []) ≡ true → (admits sort.Notes a ≡ true) × ((admits sort.AnnotationProperty b ≡ true) × (admits sort.AnnotationValue c ≡ true))
unfolding row_of
three_tags a b c h =
    let first = and_parts (admits sort.Notes a) (admits sort.AnnotationProperty b && (admits sort.AnnotationValue c && true)) h in
    let second = and_parts (admits sort.AnnotationProperty b) (admits sort.AnnotationValue c && true) first.1 in
    (first.0, (second.0, (and_parts (admits sort.AnnotationValue c) true second.1).0))

other_tags : (ks : Kids) → ((a b c : Tree) → ks ≡ kid a (kid b (kid c no_kids)) → ⊥) → fits (row_of tag.Annotation) (tags_in ks) ≡ true → ⊥
unfolding row_of
other_tags no_kids n h = both_ways false refl h
other_tags (kid a no_kids) n h = both_ways false refl (and_parts (admits sort.Notes (tag_of a)) false h).1
other_tags (kid a (kid b no_kids)) n h =
    both_ways false refl (and_parts (admits sort.AnnotationProperty (tag_of b)) false (and_parts (admits sort.Notes (tag_of a)) _ h).1).1
other_tags (kid a (kid b (kid c no_kids))) n h = n a b c refl
other_tags (kid a (kid b (kid c (kid d ks)))) n h =
    both_ways false refl (and_parts (admits sort.AnnotationValue (tag_of c)) false (and_parts (admits sort.AnnotationProperty (tag_of b)) _ (and_parts (admits sort.Notes (tag_of a)) _ h).1).1).1

no_leaf : (u : Tag) (a : Atom) → tag.Annotation ≡ u → takes (row_of u) a ≡ true → ⊥
unfolding row_of
no_leaf u a e h = both_ways false refl (ap (λ (t : Tag). takes (row_of t) a) e ∙ h)

no_notes_leaf : (u : Tag) (a : Atom) → tag.Notes ≡ u → takes (row_of u) a ≡ true → ⊥
unfolding row_of
no_notes_leaf u a e h = both_ways false refl (ap (λ (t : Tag). takes (row_of t) a) e ∙ h)

notes_fit : (ts : List Tag) → fits (row_of tag.Notes) ts ≡ true → list_all (admits sort.Annotation) ts ≡ true
unfolding row_of
notes_fit ts h = (and_parts _ (list_all (admits sort.Annotation) ts) h).1

-- a property and a value
property_node : (u : Tag) (ks : Kids) → tag.AnnotationProperty ≡ u → fits (row_of u) (tags_in ks) ≡ true → ⊥
unfolding row_of
property_node u ks e h = both_ways false refl (ap (λ (t : Tag). fits (row_of t) (tags_in ks)) e ∙ h)

property_iri : (u : Tag) (a : Atom) → tag.AnnotationProperty ≡ u → takes (row_of u) a ≡ true → (p : List ℕ) × (leaf u a ≡ leaf tag.AnnotationProperty (atom.Iri p))
unfolding row_of
property_iri u (atom.Iri p) e h = (p, ap (λ (t : Tag). leaf t (atom.Iri p)) (sym e))
property_iri u (atom.Label label) e h = absurd (both_ways false refl (ap (λ (t : Tag). takes (row_of t) (atom.Label label)) e ∙ h))
property_iri u (atom.Literal literal) e h = absurd (both_ways false refl (ap (λ (t : Tag). takes (row_of t) (atom.Literal literal)) e ∙ h))
property_iri u (atom.Number n) e h = absurd (both_ways false refl (ap (λ (t : Tag). takes (row_of t) (atom.Number n)) e ∙ h))

property_is : (t : Tree) → admits sort.AnnotationProperty (tag_of t) ≡ true → IsShaped t → (p : List ℕ) × (t ≡ leaf tag.AnnotationProperty (atom.Iri p))
property_is (leaf u a) h s = property_iri u a (property_tag u h) s.0
property_is (node u ks) h s = absurd (property_node u ks (property_tag u h) s.0.row)

value_is : (t : Tree) → admits sort.AnnotationValue (tag_of t) ≡ true → IsShaped t → (value : Tag) × (v : Atom) × IsValue value v × (t ≡ leaf value v)
value_is (leaf u a) h s = (u, a, record { admitted = h; taken = s.0; is_atom = s.1 }, refl)
value_is (node u ks) h s = absurd (no_kids_fit (row_of u) (tags_in ks) (value_row u h) s.0.row)

mutual
  pub kids_annotate : (ks : Kids) → list_all (admits sort.Annotation) (tags_in ks) ≡ true → AreShaped ks → AreAnnotations ks
  kids_annotate no_kids h s = none
  kids_annotate (kid t ks) h s =
      let parts = and_parts (admits sort.Annotation (tag_of t)) (list_all (admits sort.Annotation) (tags_in ks)) h in
      tree_annotates t parts.0 s.0 ks (kids_annotate ks parts.1 s.1)

  tree_annotates : (t : Tree) → admits sort.Annotation (tag_of t) ≡ true → IsShaped t → (ks : Kids) → AreAnnotations ks → AreAnnotations (kid t ks)
  tree_annotates (leaf u a) h s ks rest = absurd (no_leaf u a (annotation_tag u h) s.0)
  tree_annotates (node u ls) h s ks rest =
      let same = annotation_tag u h in
      subst (λ (t : Tag). AreAnnotations (kid (node t ls) ks)) same
      (parts_annotate ls (ap (λ (t : Tag). fits (row_of t) (tags_in ls)) same ∙ s.0.row) s.1 ks rest)

  parts_annotate : (ls : Kids) → fits (row_of tag.Annotation) (tags_in ls) ≡ true → AreShaped ls → (ks : Kids) → AreAnnotations ks → AreAnnotations (kid (node tag.Annotation ls) ks)
  parts_annotate no_kids h s ks rest = absurd (other_tags no_kids (λ a b c e. cc) h)
  parts_annotate (kid a no_kids) h s ks rest = absurd (other_tags (kid a no_kids) (λ a b c e. cc) h)
  parts_annotate (kid a (kid b no_kids)) h s ks rest = absurd (other_tags (kid a (kid b no_kids)) (λ a b c e. cc) h)
  parts_annotate (kid a (kid b (kid c no_kids))) h s ks rest =
      let tags = three_tags (tag_of a) (tag_of b) (tag_of c) h in
      let p = property_is b tags.1.0 s.1.0 in
      let v = value_is c tags.1.1 s.1.1.0 in
      subst (λ (u : Tree). AreAnnotations (kid (node tag.Annotation (kid a (kid u (kid c no_kids)))) ks)) (sym p.1)
      (subst (λ (u : Tree). AreAnnotations (kid (node tag.Annotation (kid a (kid (leaf tag.AnnotationProperty (atom.Iri p.0)) (kid u no_kids)))) ks)) (sym v.3)
      (own_annotate a tags.0 s.0 p.0 v.0 v.1 v.2 ks rest))
  parts_annotate (kid a (kid b (kid c (kid d ds)))) h s ks rest = absurd (other_tags (kid a (kid b (kid c (kid d ds)))) (λ a b c e. cc) h)

  own_annotate : (a : Tree) → admits sort.Notes (tag_of a) ≡ true → IsShaped a → (p : List ℕ) (value : Tag) (v : Atom) → IsValue value v → (ks : Kids) → AreAnnotations ks → AreAnnotations (kid (node tag.Annotation (kid a (kid (leaf tag.AnnotationProperty (atom.Iri p)) (kid (leaf value v) no_kids)))) ks)
  own_annotate (leaf u b) h s p value v is ks rest = absurd (no_notes_leaf u b (notes_tag u h) s.0)
  own_annotate (node u ns) h s p value v is ks rest =
      let same = notes_tag u h in
      subst (λ (t : Tag). AreAnnotations (kid (node tag.Annotation (kid (node t ns) (kid (leaf tag.AnnotationProperty (atom.Iri p)) (kid (leaf value v) no_kids)))) ks)) same
      (one p value v ns ks is (kids_annotate ns (notes_fit (tags_in ns) (ap (λ (t : Tag). fits (row_of t) (tags_in ns)) same ∙ s.0.row)) s.1) rest)

-- the annotations of an axiom or an annotation
pub notes_annotate : (t : Tree) → admits sort.Notes (tag_of t) ≡ true → IsShaped t → (ns : Kids) × (t ≡ node tag.Notes ns) × AreAnnotations ns
notes_annotate (leaf u a) h s = absurd (no_notes_leaf u a (notes_tag u h) s.0)
notes_annotate (node u ns) h s =
    let same = notes_tag u h in
    (ns, ap (λ (t : Tag). node t ns) (sym same), kids_annotate ns (notes_fit (tags_in ns) (ap (λ (t : Tag). fits (row_of t) (tags_in ns)) same ∙ s.0.row)) s.1)

-- What can be said has annotation properties that may be declared.

no_objection : (b : Bool) (why : Objection) → (if b then Some why else None) ≡ None → b ≡ false
no_objection true why e = absurd (none-some why (sym e))
no_objection false why e = refl

unreserved : (r b : Bool) → (r && not b) ≡ false → (not r || b) ≡ true
unreserved true true e = refl
unreserved true false e = absurd (both_ways true e refl)
unreserved false b e = refl

property_declarable : (p : List ℕ) → objection (record { tag = tag.AnnotationProperty; atom = atom.Iri p }) ≡ None → may_be_declared kind.AnnotationProperty p ≡ true
unfolding iri_objection may_be_declared
property_declarable p e =
    unreserved (is_reserved p) (is_built_in kind.AnnotationProperty p) (no_objection (is_misused kind.AnnotationProperty p) (reserved p) e)

pub declarable : (ks : Kids) → AreAnnotations ks → AreSayable (leaves_of ks) → AreAllDeclarable (notes_in ks)
declarable _ (none) s = tt
declarable _ (one p value v ns ks is inner more) s =
    let own = all_front (λ l. objection l ≡ None) (leaves (annotation_of p value v ns)) (leaves_of ks) s in
    let behind = all_back (λ l. objection l ≡ None) (leaves_of ns) _ own in (
      property_declarable p behind.0,
      (
        declarable ns inner (all_front (λ l. objection l ≡ None) (leaves_of ns) _ own),
        declarable ks more (all_back (λ l. objection l ≡ None) (leaves (annotation_of p value v ns)) (leaves_of ks) s),
      ),
    )

-- What is well typed, and has the labels of individuals, is read back.
module _ (g : List Triple) (k : List Entity) where
  typed_property : (p : List ℕ) → AreWellTyped k (entities (leaf tag.AnnotationProperty (atom.Iri p))) → simple g k sort.AnnotationProperty (Iri p) ≡ Some (leaf tag.AnnotationProperty (atom.Iri p))
  unfolding kind_of simple
  typed_property p t = cond-true (has_kind k kind.AnnotationProperty p) (Some (leaf tag.AnnotationProperty (atom.Iri p))) None ((has_kind_is k kind.AnnotationProperty p).1 t.0)

  typed_value : (value : Tag) (v : Atom) → IsValue value v → AreWellTyped k (entities (leaf value v)) → AreIndividuals g (leaf value v) → simple g k sort.AnnotationValue (atom_term v) ≡ Some (leaf value v)
  typed_value value v is t i = leaf_simple g k value sort.AnnotationValue v is.admitted is.taken is.is_atom t i

  pub readable : (ks : Kids) → AreAnnotations ks → AreWellTyped k (entities_of ks) → HaveIndividuals g ks → AreReadable g k ks
  readable _ (none) t i = no_annotation
  readable _ (one p value v ns ks is inner more) t i =
      let tree = annotation_of p value v ns in
      let own = all_front (λ e. HasKind k e.kind e.iri) (entities tree) (entities_of ks) t in
      let behind = all_back (λ e. HasKind k e.kind e.iri) (entities_of ns) _ own in
      let property = entities (leaf tag.AnnotationProperty (atom.Iri p)) in
      let mine : AreIndividuals g tree = λ label m. i label (Contains-append_left (labels_in tree) (all_labels_in ks) label m) in
      an_annotation p v tag.AnnotationProperty value ns ks
      (typed_property p (all_front (λ e. HasKind k e.kind e.iri) property (entities (leaf value v) ++ []) behind))
      (typed_value value v is (all_front (λ e. HasKind k e.kind e.iri) (entities (leaf value v)) [] (all_back (λ e. HasKind k e.kind e.iri) property (entities (leaf value v) ++ []) behind))
      (λ label m. mine label (Contains-append_right (all_labels_in ns) (labels_in (leaf value v) ++ []) label (Contains-append_left (labels_in (leaf value v)) [] label m))))
      (readable ns inner (all_front (λ e. HasKind k e.kind e.iri) (entities_of ns) _ own)
      (λ label m. mine label (Contains-append_left (all_labels_in ns) (labels_in (leaf value v) ++ []) label m)))
      (readable ks more (all_back (λ e. HasKind k e.kind e.iri) (entities tree) (entities_of ks) t)
      (λ label m. i label (Contains-append_right (labels_in tree) (all_labels_in ks) label m)))

-- Annotations of a normal form are settled.

-- none of the trees is needless
abbrev pub AreNeeded : List Tree → Type 0
AreNeeded ts = (t : Tree) → Contains ts t → is_needless ts t ≡ false

pub needed_needs : (ts : List Tree) → AreNeeded (needed ts)
needed_needs ts t m =
    let again = subst (λ (us : List Tree). Contains us t) (sym (needed_twice ts)) m in
    not_true (is_needless (needed ts) t) (from_filter (λ u. not (is_needless (needed ts) u)) (needed ts) t again).1

needed_notes : (ts : List Tree) → needed_in tag.Notes ts ≡ needed ts
unfolding number_of
needed_notes ts = refl

tidy_notes : (ns : Kids) → tidied (node tag.Notes ns) ≡ node tag.Notes ns → list_of ns ≡ needed (arranged (set_start (row_of tag.Notes)) (tidieds ns))
tidy_notes ns e =
    let all = arranged (set_start (row_of tag.Notes)) (tidieds ns) in
    ap kids_in (sym e) ∙ list_of_kids_of (needed_in tag.Notes all) ∙ needed_notes all

-- the annotations of what is tidy are needed
pub notes_needed : (ns : Kids) → tidied (node tag.Notes ns) ≡ node tag.Notes ns → AreNeeded (list_of ns)
notes_needed ns e = subst AreNeeded (sym (tidy_notes ns e)) (needed_needs (arranged (set_start (row_of tag.Notes)) (tidieds ns)))

-- and its kids are tidy
pub tidy_kid : (u : Tag) (ks : Kids) (t : Tree) → tidied (node u ks) ≡ node u ks → Contains (list_of ks) t → tidied t ≡ t
tidy_kid u ks t e m =
    let all = arranged (set_start (row_of u)) (tidieds ks) in
    let there = subst (λ (us : List Tree). Contains us t) (ap kids_in (sym e) ∙ list_of_kids_of (needed_in u all)) m in
    let among = (arranged_holds (set_start (row_of u)) (tidieds ks) t).0 (in_needed_in u all t there) in
    let v = from_map tidied (list_of ks) t (subst (λ (us : List Tree). Contains us t) (tidieds_map ks) among) in
    subst (λ (x : Tree). tidied x ≡ x) v.value (tidied_tidy v.element).tidied

-- an annotation among these, as a tree
record IsTreeOf (ks : Kids) (p : List ℕ) (v : Term) (inside : Notes) : Type 0 where
  pub tag : Tag
  pub atom : Atom
  pub own : Kids
  pub value : IsValue tag atom
  pub annotations : AreAnnotations own
  pub is_term : atom_term atom ≡ v
  pub is_inside : notes_in own ≡ inside
  pub among : Contains (list_of ks) (annotation_of p tag atom own)

tree_behind : (t : Tree) (ks : Kids) (p : List ℕ) (v : Term) (inside : Notes) → IsTreeOf ks p v inside → IsTreeOf (kid t ks) p v inside
tree_behind t ks p v inside h =
    record {
      tag = h.tag;
      atom = h.atom;
      own = h.own;
      value = h.value;
      annotations = h.annotations;
      is_term = h.is_term;
      is_inside = h.is_inside;
      among = in_tail t (list_of ks) (annotation_of p h.tag h.atom h.own) h.among;
    }

record IsOneOf (p q : List ℕ) (v w : Term) (inside other : Notes) : Type 0 where
  pub property : p ≡ q
  pub value : v ≡ w
  pub own : inside ≡ other

among_cases : (p q : List ℕ) (v w : Term) (inside other more : Notes) → IsAmong p v inside (note q w other more) → IsOneOf p q v w inside other ⊎ IsAmong p v inside more
among_cases _ _ _ _ _ _ _ (here more) = inl (record { property = refl; value = refl; own = refl })
among_cases _ _ _ _ _ _ _ (later q w other more a) = inr a

nothing_among : (p : List ℕ) (v : Term) (inside ns : Notes) → ns ≡ no_notes → IsAmong p v inside ns → ⊥
nothing_among p v inside _ e (here more) = cc
nothing_among p v inside _ e (later q w other more a) = cc

among_tree : (ks : Kids) → AreAnnotations ks → (p : List ℕ) (v : Term) (inside : Notes) → IsAmong p v inside (notes_in ks) → IsTreeOf ks p v inside
among_tree _ (none) p v inside a = absurd (nothing_among p v inside no_notes refl a)
among_tree _ (one q value w ns ks is inner more) p v inside a =
    let tree = annotation_of q value w ns in
    elim (among_cases p q v (atom_term w) inside (notes_in ns) (notes_in ks) a) [
      | inl e ↦
          record {
            tag = value;
            atom = w;
            own = ns;
            value = is;
            annotations = inner;
            is_term = sym e.value;
            is_inside = sym e.own;
            among = subst (λ (r : List ℕ). Contains (tree ∷ list_of ks) (annotation_of r value w ns)) (sym e.property) (in_head tree (list_of ks));
          }
      | inr b ↦ tree_behind tree ks p v inside (among_tree ks more p v inside b)
    ]

pub nothing_inside : (ns : Kids) → AreAnnotations ns → notes_in ns ≡ no_notes → ns ≡ no_kids
nothing_inside _ (none) e = refl
nothing_inside _ (one p value v ns ks is inner more) e = cc

-- a term is of one value

abbrev value_tag : Atom → Tag
value_tag (atom.Iri iri) = tag.PlainIri
value_tag (atom.Label label) = tag.Anonymous
value_tag (atom.Literal literal) = tag.Literal
value_tag (atom.Number n) = tag.Number

value_told : (t : Tag) (v : Atom) → (not (admits sort.AnnotationValue t && takes (row_of t) v) || is_tag (value_tag v) t) ≡ true
unfolding admits row_of number_of
value_told tag.Class (atom.Iri iri) = refl
value_told _ (atom.Iri iri) = refl
value_told tag.Class (atom.Label label) = refl
value_told _ (atom.Label label) = refl
value_told tag.Class (atom.Literal literal) = refl
value_told _ (atom.Literal literal) = refl
value_told tag.Class (atom.Number n) = refl
value_told _ (atom.Number n) = refl

no_number_told : (t : Tag) (n : ℕ) → (admits sort.AnnotationValue t && takes (row_of t) (atom.Number n)) ≡ false
unfolding admits row_of number_of
no_number_told tag.Class n = refl
no_number_told _ n = refl

its_tag : (t : Tag) (v : Atom) → IsValue t v → value_tag v ≡ t
its_tag t v is =
    let both = and_from (admits sort.AnnotationValue t) (takes (row_of t) v) is.admitted is.taken in
    same_tag (value_tag v) t (ap (λ (b : Bool). not b || is_tag (value_tag v) t) (sym both) ∙ value_told t v)

no_number : (t : Tag) (n : ℕ) → IsValue t (atom.Number n) → ⊥
no_number t n is =
    both_ways (admits sort.AnnotationValue t && takes (row_of t) (atom.Number n)) (no_number_told t n)
    (and_from (admits sort.AnnotationValue t) (takes (row_of t) (atom.Number n)) is.admitted is.taken)

same_atom : (t u : Tag) (v w : Atom) → IsValue t v → IsValue u w → atom_term v ≡ atom_term w → v ≡ w
same_atom t u (atom.Iri a) (atom.Iri b) is it e = let same : a ≡ b = cc in ap atom.Iri same
same_atom t u (atom.Label a) (atom.Label b) is it e = let same : a ≡ b = cc in ap atom.Label same
same_atom t u (atom.Literal a) (atom.Literal b) is it e = let same : a ≡ b = cc in ap atom.Literal same
same_atom t u (atom.Number n) w is it e = absurd (no_number t n is)
same_atom t u v (atom.Number n) is it e = absurd (no_number u n it)
same_atom t u (atom.Iri a) (atom.Label b) is it e = cc
same_atom t u (atom.Iri a) (atom.Literal b) is it e = cc
same_atom t u (atom.Label a) (atom.Iri b) is it e = cc
same_atom t u (atom.Label a) (atom.Literal b) is it e = cc
same_atom t u (atom.Literal a) (atom.Iri b) is it e = cc
same_atom t u (atom.Literal a) (atom.Label b) is it e = cc

-- one with annotations of its own makes the same one without them needless

one_annotation : (p : List ℕ) (t : Tag) (v : Atom) (ns : Kids) → is_one_triple (annotation_of p t v ns) ≡ true
unfolding number_of
one_annotation p t v ns = refl

annotated_one : (p : List ℕ) (t : Tag) (v : Atom) (n : Tree) (ns : Kids) → is_annotated (annotation_of p t v (kid n ns)) ≡ true
unfolding number_of
annotated_one p t v n ns = refl

needless_beside : (ts : List Tree) (p : List ℕ) (t : Tag) (v : Atom) (n : Tree) (ns : Kids) → Contains ts (annotation_of p t v (kid n ns)) → is_needless ts (annotation_of p t v no_kids) ≡ true
needless_beside ts p t v n ns m =
    let bare_one = annotation_of p t v no_kids in
    both_true (is_one_triple bare_one) (list_any (says_more bare_one) ts) (one_annotation p t v no_kids)
    (any_if (says_more bare_one) ts (annotation_of p t v (kid n ns)) m (says_more_if (annotation_of p t v (kid n ns)) (annotated_one p t v n ns)))

bare_beside : (ts : List Tree) → AreNeeded ts → (p : List ℕ) (t : Tag) (v : Atom) (ns : Kids) → Contains ts (annotation_of p t v no_kids) → Contains ts (annotation_of p t v ns) → ns ≡ no_kids
bare_beside ts needed p t v no_kids a b = refl
bare_beside ts needed p t v (kid n ns) a b =
    absurd (both_ways (is_needless ts (annotation_of p t v no_kids)) (needed (annotation_of p t v no_kids) a) (needless_beside ts p t v n ns b))

pub settled_notes : (ks : Kids) → AreAnnotations ks → AreNeeded (list_of ks) → AreSettled (notes_in ks)
settled_notes ks are needed p v inside a b =
    let x = among_tree ks are p v no_notes a in
    let y = among_tree ks are p v inside b in
    let atoms = same_atom x.tag y.tag x.atom y.atom x.value y.value (x.is_term ∙ sym y.is_term) in
    let tags = sym (its_tag x.tag x.atom x.value) ∙ ap value_tag atoms ∙ its_tag y.tag y.atom y.value in
    let first =
    subst (λ (t : Tag). Contains (list_of ks) (annotation_of p t y.atom no_kids)) tags
    (subst (λ (w : Atom). Contains (list_of ks) (annotation_of p x.tag w no_kids)) atoms
    (subst (λ (ns : Kids). Contains (list_of ks) (annotation_of p x.tag x.atom ns)) (nothing_inside x.own x.annotations x.is_inside) x.among)) in
    sym y.is_inside ∙ ap notes_in (bare_beside (list_of ks) needed p y.tag y.atom y.own first y.among)

pub each_settled : (ks : Kids) → AreAnnotations ks → ((t : Tree) → Contains (list_of ks) t → tidied t ≡ t) → EachSettled (notes_in ks)
each_settled _ (none) tidy = tt
each_settled _ (one p value v ns ks is inner more) tidy =
    let tree = annotation_of p value v ns in
    let rest = kid (leaf tag.AnnotationProperty (atom.Iri p)) (kid (leaf value v) no_kids) in
    let own = tidy_kid tag.Annotation (kid (node tag.Notes ns) rest) (node tag.Notes ns) (tidy tree (in_head tree (list_of ks))) (in_head (node tag.Notes ns) (list_of rest)) in (
      (settled_notes ns inner (notes_needed ns own), each_settled ns inner (λ t m. tidy_kid tag.Notes ns t own m)),
      each_settled ks more (λ t m. tidy t (in_tail tree (list_of ks) t m)),
    )
