-- The main triples of a graph are those that are made as axioms.
use Rattle.std.proofs.Common.{◌≡◌, Bool, true, false, List, inl, inr, refl, sym, ap, ◌∙◌, subst}
use Rattle.std.specs.Prelude.{not, ◌&&◌, ◌||◌}
use Rattle.std.specs.List.{list_all}
use Rattle.std.proofs.lemmas.Bool.{and_parts, both_ways, or_cases, or_left, or_right}
use Rattle.owl_kind.specs.declared.kind.Kind.TheVariants as kind
use Rattle.owl_kind.specs.Kinds.{Entity}
use Rattle.owl_list.specs.Ascending.{HoldSame}
use Rattle.rdf_graph.specs.declared.term.Term.{Term}
use Rattle.rdf_graph.specs.declared.triple.Triple.{Triple}
use Rattle.rdf_meaning.specs.declared.role.Role.{Role}
use Rattle.rdf_meaning.specs.declared.role.Role.TheVariants as role
use Rattle.rdf_meaning.specs.Kinds.{has_kind}
use Rattle.owl_list.proofs.FilterLaws.{from_filter, in_filter}
use Rattle.rdf_meaning.proofs.ListLaws.{passes, some_passes}
use Rattle.rdf_meaning.proofs.NodeLaws.{same_term}
use Rattle.rdf_meaning.specs.Nodes.{carries, carries_some, is_own, is_role, is_same, is_structural, role_of, words_of}
use Rattle.rdf_meaning.proofs.RowLaws.{same_role}
use Rattle.rdf_meaning.specs.Statements.{header_words, is_annotation_triple, is_axiom_predicate, is_header_triple, main_triples}
use Rattle.rdf_meaning.specs.Words.{word_number}
use Rattle.rdf_mapping.specs.Frames.{IsOfNode, by_facet, by_word, is_node_word}
use Rattle.rdf_mapping.specs.Sorts.{AreSorted, IsAside, of_annotations, of_header, of_node, IsMain}

pub no_true : (b : Bool) → (b ≡ true → ⊥) → b ≡ false
no_true true h = absurd (h refl)
no_true false h = refl

or_none : (a b : Bool) → a ≡ false → b ≡ false → a || b ≡ false
or_none a b e f = ap (λ (c : Bool). c || b) e ∙ f

-- the words of each role make nodes what they are
all_node_words : (r : Role) → list_all is_node_word (words_of r) ≡ true
unfolding words_of is_node_word word_number
all_node_words role.List = refl
all_node_words _ = refl

by_words : (r : Role) (t : Triple) → carries_some (words_of r) t ≡ true → IsOfNode t
by_words r t h =
    let p = some_passes (λ w. carries w t) (words_of r) h in by_word p.element (passes is_node_word (words_of r) p.element (all_node_words r) p.inside) p.passes

own_of_node : (r : Role) (t : Triple) → is_own r t ≡ true → IsOfNode t
own_of_node role.List t h = by_words role.List t h
own_of_node role.Property t h = by_words role.Property t h
own_of_node role.Class t h = by_words role.Class t h
own_of_node role.Range t h = by_words role.Range t h
own_of_node role.Facet t h = by_facet h
own_of_node role.Main t h = by_words role.Main t h
own_of_node role.Note t h = by_words role.Note t h
own_of_node role.Header t h = by_words role.Header t h
own_of_node role.Individual t h = by_words role.Individual t h

no_individual : (t : Triple) → is_own role.Individual t ≡ true → ⊥
unfolding words_of
no_individual t h = both_ways false refl h

-- a structural triple is of a node, which has a role
pub structural_of_node : (g : List Triple) (t : Triple) → is_structural g t ≡ true → IsOfNode t
unfolding is_structural
structural_of_node g t h = own_of_node (role_of g t.subject) t h

pub structural_has_role : (g : List Triple) (t : Triple) → is_structural g t ≡ true → role_of g t.subject ≡ role.Individual → ⊥
unfolding is_structural
structural_has_role g t h e = no_individual t (subst (λ (r : Role). is_own r t ≡ true) e h)

module _ (g : List Triple) (k : List Entity) (header : Term) where
  not_structural : (t : Triple) → IsMain g k header t → is_structural g t ≡ false
  not_structural t m = no_true (is_structural g t) (λ h. structural_has_role g t h (m.of_no_node (structural_of_node g t h)))

  not_header : (t : Triple) → IsMain g k header t → is_header_triple header t ≡ false
  unfolding is_header_triple
  not_header t m =
      no_true (is_same t.subject header && carries_some header_words t) (λ h.
      let parts = and_parts (is_same t.subject header) (carries_some header_words t) h in
      both_ways (carries_some header_words t) (m.of_no_header (same_term t.subject header parts.0)) parts.1)

  pub not_annotation : (t : Triple) → IsMain g k header t → is_annotation_triple g k header t ≡ false
  unfolding is_annotation_triple
  not_annotation t m =
      no_true _ (λ h.
      elim (or_cases _ ((is_role role.Main (role_of g t.subject) || is_role role.Note (role_of g t.subject)) && not (is_structural g t)) h) [
        | inl a ↦
            let outer = and_parts _ (not (is_axiom_predicate t.predicate)) a in
            let mid = and_parts _ (has_kind k kind.AnnotationProperty t.predicate) outer.0 in
            let at = same_term t.subject header (and_parts (is_same t.subject header) _ mid.0).0 in
            both_ways false refl (sym (ap not (m.of_no_annotations at mid.1)) ∙ outer.1)
        | inr b ↦
            elim (or_cases (is_role role.Main (role_of g t.subject)) (is_role role.Note (role_of g t.subject)) (and_parts _ (not (is_structural g t)) b).0) [
              | inl r ↦ m.no_main_node (sym (same_role role.Main (role_of g t.subject) r))
              | inr r ↦ m.no_note_node (sym (same_role role.Note (role_of g t.subject) r))
            ]
      ])

  aside : (t : Triple) → IsAside g k header t → is_structural g t || is_header_triple header t || is_annotation_triple g k header t ≡ true
  aside t (of_node h) = or_left (is_structural g t || is_header_triple header t) (is_annotation_triple g k header t) (or_left (is_structural g t) (is_header_triple header t) h)
  aside t (of_header h) = or_left (is_structural g t || is_header_triple header t) (is_annotation_triple g k header t) (or_right (is_structural g t) (is_header_triple header t) h)
  aside t (of_annotations h) = or_right (is_structural g t || is_header_triple header t) (is_annotation_triple g k header t) h

  not_aside : (t : Triple) → IsMain g k header t → is_structural g t || is_header_triple header t || is_annotation_triple g k header t ≡ false
  not_aside t m = or_none (is_structural g t || is_header_triple header t) (is_annotation_triple g k header t) (or_none (is_structural g t) (is_header_triple header t) (not_structural t m) (not_header t m)) (not_annotation t m)

  -- the main triples of a sorted graph are those that are made as axioms
  pub mains_are : (mains : List Triple) → AreSorted g k header mains → HoldSame (main_triples g k header) mains
  unfolding main_triples
  mains_are mains s =
      λ t. (
        λ m.
            let kept = from_filter (λ u. not (is_structural g u || is_header_triple header u || is_annotation_triple g k header u)) g t m in
            elim (s.cases t kept.inside) [ inl a ↦ a | inr b ↦ absurd (both_ways false refl (sym (ap not (aside t b)) ∙ kept.passes)) ],
        λ m.
            in_filter (λ u. not (is_structural g u || is_header_triple header u || is_annotation_triple g k header u)) g t (s.there t m)
            (ap not (not_aside t (s.main t m))),
      )
