-- The axioms that a graph states are those of its triples, each with each set of its annotations, and of its nodes.
use Rattle.std.specs.Prelude.{◌≡◌, ◌↔◌, List, [], ◌∷◌, ◌++◌, Contains, Some}
use Rattle.std.proofs.Common.{inl, inr, sym, ◌∙◌, subst}
use Rattle.std.proofs.lemmas.List.Elements.{Contains-append_cases, Contains-append_left, Contains-append_right}
use Rattle.std.proofs.lemmas.Option.{same_Some}
use Rattle.owl_list.proofs.AscendingLaws.{from_map, in_cases, in_head, in_map, in_none, in_tail}
use Rattle.owl_kind.specs.Kinds.{Entity}
use Rattle.owl_tree.specs.declared.tag.Tag.{Tag}
use Rattle.owl_tree.specs.declared.tag.Tag.TheVariants as tag
use Rattle.owl_tree.specs.declared.row.Sort.TheVariants as sort
use Rattle.owl_tree.specs.Trees.{Tree, node, kids_of}
use Rattle.rdf_graph.specs.declared.term.Term.{Term}
use Rattle.rdf_graph.specs.declared.term.Term.TheVariants.{Iri}
use Rattle.rdf_graph.specs.declared.triple.Triple.{Triple}
use Rattle.rdf_meaning.specs.Kinds.{HaveNoClash}
use Rattle.rdf_meaning.specs.Denotation.{of_node, of_triple, simple}
use Rattle.rdf_meaning.proofs.StatementLaws.{one_axiom, one_notes, one_variants}
use Rattle.rdf_meaning.specs.Statements.{Annotates, no_note, note, HasNote, IsNoteOf, IsNoteOfSome, annotated, Variants, AreAxioms, no_triple, triple, AreNodeAxioms, no_node, an_axiom, HasAxiom, HasNodeAxiom, IsAxiomOf, IsAxiomOfNode, IsAxiomWith, IsOfSome, IsOfSomeNode, axioms_of, notes, notes_of}

-- a tree of the tag with each of these sets in front of its kids
abbrev with_set : Tag → List Tree → Tree → Tree
with_set t kids set = node t (kids_of (set ∷ kids))

module _ (g : List Triple) (k : List Entity) where
  later : (t : Triple) (ts : List Triple) (a : Tree) → IsOfSome g k ts a → IsOfSome g k (t ∷ ts) a
  later t ts a s = record { triple = s.triple; inside = in_tail t ts s.triple s.inside; axiom_of = s.axiom_of }

  pub of_triples : (ts : List Triple) (us : List Tree) → AreAxioms g k ts us → (a : Tree) → Contains us a → IsOfSome g k ts a
  of_triples _ _ (no_triple) a m = absurd (in_none a m)
  of_triples _ _ (triple t more tag kids sets us is d h) a m =
      elim (Contains-append_cases (axioms_of tag kids sets) us a m) [
        | inl n ↦
            let v = from_map (with_set tag kids) sets a n in
            record {
              triple = t;
              inside = in_head t more;
              axiom_of = record { tag = tag; kids = kids; said = is; sets = sets; variants = d; annotations = v.element; inside = v.inside; whole = sym v.value };
            }
        | inr n ↦ later t more a (of_triples more us h a n)
      ]

  pub of_nodes : (xs : List Term) (us : List Tree) → AreNodeAxioms g k xs us → (a : Tree) → Contains us a → IsOfSomeNode g k xs a
  of_nodes _ _ (no_node) a m = absurd (in_none a m)
  of_nodes _ _ (an_axiom x more tag kids notes_in us is d h) a m =
      elim (in_cases (with_set tag kids (notes notes_in)) us a m) [
        | inl e ↦
            record {
              x = x;
              inside = in_head x more;
              axiom_of = record { tag = tag; kids = kids; said = is; annotations = notes_in; annotates = d; whole = sym e };
            }
        | inr n ↦
            let s = of_nodes more us h a n in record { x = s.x; inside = in_tail x more s.x s.inside; axiom_of = s.axiom_of }
      ]

module _ (g : List Triple) (k : List Entity) (none : HaveNoClash k) where
  -- the axiom of a triple is among those that it gives
  own_axiom : (t : Triple) (tag : Tag) (kids sets : List Tree) → IsAxiomWith g k (of_triple t) tag kids → Variants g k t sets → (a : Tree) → IsAxiomOf g k t a → Contains (axioms_of tag kids sets) a
  own_axiom t tag kids sets is d a c =
      let same = one_axiom g k none (of_triple t) c.tag tag c.kids kids c.said is in
      let variants = one_variants g k t c.sets c.variants sets d in
      let inside = subst (λ ss. Contains ss c.annotations) variants c.inside in
      let whole : with_set tag kids c.annotations ≡ a = (λ i. with_set (sym same.tag i) (sym same.parts i) c.annotations) ∙ sym c.whole in
      subst (λ b. Contains (axioms_of tag kids sets) b) whole (in_map (with_set tag kids) sets c.annotations inside)

  in_triples : (ts : List Triple) (us : List Tree) → AreAxioms g k ts us → (a : Tree) → (t : Triple) → Contains ts t → IsAxiomOf g k t a → Contains us a
  in_triples _ _ (no_triple) a t m c = absurd (in_none t m)
  in_triples _ _ (triple u more tag kids sets us is d h) a t m c =
      elim (in_cases u more t m) [
        | inl e ↦
            Contains-append_left (axioms_of tag kids sets) us a
            (own_axiom u tag kids sets is d a (subst (λ v. IsAxiomOf g k v a) (sym e) c))
        | inr n ↦ Contains-append_right (axioms_of tag kids sets) us a (in_triples more us h a t n c)
      ]

  own_node_axiom : (x : Term) (tag : Tag) (kids notes_in : List Tree) → IsAxiomWith g k (of_node x) tag kids → Annotates g k (notes_of g x) notes_in → (a : Tree) → IsAxiomOfNode g k x a → with_set tag kids (notes notes_in) ≡ a
  own_node_axiom x tag kids notes_in is d a c =
      let same = one_axiom g k none (of_node x) tag c.tag kids c.kids is c.said in
      let annotations = one_notes g k (notes_of g x) notes_in d c.annotations c.annotates in
      (λ i. with_set (same.tag i) (same.parts i) (notes (annotations i))) ∙ sym c.whole

  in_nodes : (xs : List Term) (us : List Tree) → AreNodeAxioms g k xs us → (a : Tree) → (x : Term) → Contains xs x → IsAxiomOfNode g k x a → Contains us a
  in_nodes _ _ (no_node) a x m c = absurd (in_none x m)
  in_nodes _ _ (an_axiom y more tag kids notes_in us is d h) a x m c =
      elim (in_cases y more x m) [
        | inl e ↦
            let same = own_node_axiom y tag kids notes_in is d a (subst (λ z. IsAxiomOfNode g k z a) (sym e) c) in
            subst (λ b. Contains (with_set tag kids (notes notes_in) ∷ us) b) same (in_head (with_set tag kids (notes notes_in)) us)
        | inr n ↦ in_tail (with_set tag kids (notes notes_in)) us a (in_nodes more us h a x n c)
      ]

  pub axioms_of_triples : (ts : List Triple) (us : List Tree) → AreAxioms g k ts us → (a : Tree) → Contains us a ↔ IsOfSome g k ts a
  axioms_of_triples ts us h a = (of_triples g k ts us h a, λ s. in_triples ts us h a s.triple s.inside s.axiom_of)

  pub axioms_of_nodes : (xs : List Term) (us : List Tree) → AreNodeAxioms g k xs us → (a : Tree) → Contains us a ↔ IsOfSomeNode g k xs a
  axioms_of_nodes xs us h a = (of_nodes g k xs us h a, λ s. in_nodes xs us h a s.x s.inside s.axiom_of)

-- the list is there exactly where each triple has an axiom, and each node

module _ (g : List Triple) (k : List Entity) where
  list_of_triples : (ts : List Triple) → ((t : Triple) → Contains ts t → HasAxiom g k t) → (us : List Tree) × AreAxioms g k ts us
  list_of_triples [] has = ([], no_triple)
  list_of_triples (t ∷ ts) has =
      let first = has t (in_head t ts) in
      let rest = list_of_triples ts (λ u m. has u (in_tail t ts u m)) in
      (axioms_of first.tag first.kids first.sets ++ rest.0, triple t ts first.tag first.kids first.sets rest.0 first.said first.variants rest.1)

  each_triple : (ts : List Triple) (us : List Tree) → AreAxioms g k ts us → (t : Triple) → Contains ts t → HasAxiom g k t
  each_triple _ _ (no_triple) t m = absurd (in_none t m)
  each_triple _ _ (triple u more tag kids sets us is d h) t m =
      elim (in_cases u more t m) [
        | inl e ↦ subst (HasAxiom g k) e (record { tag = tag; kids = kids; said = is; sets = sets; variants = d })
        | inr n ↦ each_triple more us h t n
      ]

  pub triples_have_axioms : (ts : List Triple) → ((us : List Tree) × AreAxioms g k ts us) ↔ ((t : Triple) → Contains ts t → HasAxiom g k t)
  triples_have_axioms ts = (λ h. each_triple ts h.0 h.1, list_of_triples ts)

  list_of_nodes : (xs : List Term) → ((x : Term) → Contains xs x → HasNodeAxiom g k x) → (us : List Tree) × AreNodeAxioms g k xs us
  list_of_nodes [] has = ([], no_node)
  list_of_nodes (x ∷ xs) has =
      let first = has x (in_head x xs) in
      let rest = list_of_nodes xs (λ y m. has y (in_tail x xs y m)) in (
        axioms_of first.tag first.kids (notes first.annotations ∷ []) ++ rest.0,
        an_axiom x xs first.tag first.kids first.annotations rest.0 first.said first.annotates rest.1,
      )

  each_node : (xs : List Term) (us : List Tree) → AreNodeAxioms g k xs us → (x : Term) → Contains xs x → HasNodeAxiom g k x
  each_node _ _ (no_node) x m = absurd (in_none x m)
  each_node _ _ (an_axiom y more tag kids notes_in us is d h) x m =
      elim (in_cases y more x m) [
        | inl e ↦ subst (HasNodeAxiom g k) e (record { tag = tag; kids = kids; said = is; annotations = notes_in; annotates = d })
        | inr n ↦ each_node more us h x n
      ]

  pub nodes_have_axioms : (xs : List Term) → ((us : List Tree) × AreNodeAxioms g k xs us) ↔ ((x : Term) → Contains xs x → HasNodeAxiom g k x)
  nodes_have_axioms xs = (λ h. each_node xs h.0 h.1, list_of_nodes xs)

-- annotations are those that triples say

abbrev with_own : Tree → Tree → Tree → Tree
with_own p v set = node tag.Annotation (kids_of (set ∷ p ∷ v ∷ []))

module _ (g : List Triple) (k : List Entity) where
  later_note : (t : Triple) (ts : List Triple) (a : Tree) → IsNoteOfSome g k ts a → IsNoteOfSome g k (t ∷ ts) a
  later_note t ts a s = record { triple = s.triple; inside = in_tail t ts s.triple s.inside; note_of = s.note_of }

  of_notes : (ts : List Triple) (us : List Tree) → Annotates g k ts us → (a : Tree) → Contains us a → IsNoteOfSome g k ts a
  of_notes _ _ (no_note) a m = absurd (in_none a m)
  of_notes _ _ (note t ts p v sets us e f d h) a m =
      elim (Contains-append_cases (annotated p v sets) us a m) [
        | inl n ↦
            let s = from_map (with_own p v) sets a n in
            record {
              triple = t;
              inside = in_head t ts;
              note_of = record {
                has = record { property = p; value = v; is_property = e; is_value = f; sets = sets; variants = d };
                annotations = s.element;
                inside = s.inside;
                whole = sym s.value;
              };
            }
        | inr n ↦ later_note t ts a (of_notes ts us h a n)
      ]

  own_note : (t : Triple) (p v : Tree) (sets : List Tree) → simple g k sort.AnnotationProperty (Iri t.predicate) ≡ Some p → simple g k sort.AnnotationValue t.object ≡ Some v → Variants g k t sets → (a : Tree) → IsNoteOf g k t a → Contains (annotated p v sets) a
  own_note t p v sets e f d a c =
      let property = same_Some c.has.property p (sym c.has.is_property ∙ e) in
      let value = same_Some c.has.value v (sym c.has.is_value ∙ f) in
      let variants = one_variants g k t c.has.sets c.has.variants sets d in
      let inside = subst (λ ss. Contains ss c.annotations) variants c.inside in
      let whole : with_own p v c.annotations ≡ a = (λ i. with_own (sym property i) (sym value i) c.annotations) ∙ sym c.whole in
      subst (λ b. Contains (annotated p v sets) b) whole (in_map (with_own p v) sets c.annotations inside)

  in_notes : (ts : List Triple) (us : List Tree) → Annotates g k ts us → (a : Tree) → (t : Triple) → Contains ts t → IsNoteOf g k t a → Contains us a
  in_notes _ _ (no_note) a t m c = absurd (in_none t m)
  in_notes _ _ (note u ts p v sets us e f d h) a t m c =
      elim (in_cases u ts t m) [
        | inl s ↦ Contains-append_left (annotated p v sets) us a (own_note u p v sets e f d a (subst (λ w. IsNoteOf g k w a) (sym s) c))
        | inr n ↦ Contains-append_right (annotated p v sets) us a (in_notes ts us h a t n c)
      ]

  pub notes_of_triples : (ts : List Triple) (us : List Tree) → Annotates g k ts us → (a : Tree) → Contains us a ↔ IsNoteOfSome g k ts a
  notes_of_triples ts us h a = (of_notes ts us h a, λ s. in_notes ts us h a s.triple s.inside s.note_of)

  list_of_notes : (ts : List Triple) → ((t : Triple) → Contains ts t → HasNote g k t) → (us : List Tree) × Annotates g k ts us
  list_of_notes [] has = ([], no_note)
  list_of_notes (t ∷ ts) has =
      let first = has t (in_head t ts) in
      let rest = list_of_notes ts (λ u m. has u (in_tail t ts u m)) in (
        annotated first.property first.value first.sets ++ rest.0,
        note t ts first.property first.value first.sets rest.0 first.is_property first.is_value first.variants rest.1,
      )

  each_note : (ts : List Triple) (us : List Tree) → Annotates g k ts us → (t : Triple) → Contains ts t → HasNote g k t
  each_note _ _ (no_note) t m = absurd (in_none t m)
  each_note _ _ (note u ts p v sets us e f d h) t m =
      elim (in_cases u ts t m) [
        | inl s ↦ subst (HasNote g k) s (record { property = p; value = v; is_property = e; is_value = f; sets = sets; variants = d })
        | inr n ↦ each_note ts us h t n
      ]

  pub triples_have_notes : (ts : List Triple) → ((us : List Tree) × Annotates g k ts us) ↔ ((t : Triple) → Contains ts t → HasNote g k t)
  triples_have_notes ts = (λ h. each_note ts h.0 h.1, list_of_notes ts)
