-- The header of a graph, and its annotations.
use Rattle.std.proofs.Common.{◌≡◌, ◌⊎◌, Bool, true, false, List, [], ◌∷◌, inl, inr, refl, sym, ap, ◌∙◌, subst}
use Rattle.std.specs.Prelude.{Contains, map, not, ◌&&◌, ◌||◌}
use Rattle.std.specs.List.{filter, list_any}
use Rattle.std.proofs.lemmas.Bool.{and_from, and_parts, both_ways, or_cases}
use Rattle.owl_kind.specs.declared.kind.Kind.TheVariants as kind
use Rattle.owl_kind.specs.Kinds.{Entity}
use Rattle.owl_list.specs.Ascending.{AreApart, HoldSame}
use Rattle.owl_list.proofs.AscendingLaws.{ascending_apart, in_head, in_map, in_none, in_tail}
use Rattle.rdf_graph.specs.declared.term.Term.{Term}
use Rattle.rdf_graph.specs.declared.triple.Triple.{Triple}
use Rattle.rdf_graph.proofs.TermLaws.{terms_total}
use Rattle.rdf_graph.specs.Terms.{term_cmp}
use Rattle.rdf_meaning.specs.declared.role.Role.TheVariants as role
use Rattle.rdf_meaning.specs.declared.word.Word.TheVariants as word
use Rattle.rdf_meaning.specs.Kinds.{has_kind}
use Rattle.owl_list.proofs.FilterLaws.{from_filter, in_filter}
use Rattle.rdf_meaning.proofs.ListLaws.{some_passes}
use Rattle.rdf_meaning.proofs.NodeLaws.{from_subject, in_subject, own_term, same_term, subjects_are}
use Rattle.rdf_meaning.specs.Nodes.{carries, carries_some, is_role, is_same, is_structural, of_subject, role_of, subjects_of}
use Rattle.rdf_meaning.proofs.RowLaws.{same_role}
use Rattle.rdf_meaning.specs.Statements.{header_notes, header_words, headers, is_annotation_triple, is_axiom_predicate, is_header_triple}
use Rattle.rdf_mapping.proofs.NoAxiomLaws.{header_note}
use Rattle.rdf_mapping.specs.OwnLaws.{any_from, apart_filter}
use Rattle.rdf_mapping.proofs.SortLaws.{not_annotation}
use Rattle.rdf_mapping.specs.Sorts.{HasHeader, IsHeaderNote, IsMain}

the_one : {X : Type 0} (xs : List X) (x : X) → AreApart xs → Contains xs x → ((y : X) → Contains xs y → y ≡ x) → xs ≡ x ∷ []
the_one [] x a m h = absurd (in_none x m)
the_one (y ∷ []) x a m h = ap (λ z. z ∷ []) (h y (in_head y []))
the_one (y ∷ z ∷ ys) x a m h =
    let same = h z (in_tail y (z ∷ ys) z (in_head z ys)) ∙ sym (h y (in_head y (z ∷ ys))) in
    absurd (a.0 (subst (λ w. Contains (z ∷ ys) w) same (in_head z ys)))

-- a graph of which one node alone is of type owl:Ontology has that header
pub one_header : (g : List Triple) (header : Term) → HasHeader g header → headers g ≡ header ∷ []
unfolding headers
one_header g header h =
    let test : Term → Bool = λ x. list_any (carries word.Ontology) (of_subject g x) in
    let there = in_subject g header h.triple h.inside h.subject in
    let among = (subjects_are g header).1 (subst (λ y. Contains (map (λ u. u.subject) g) y) h.subject (in_map (λ u. u.subject) g h.triple h.inside)) in
    the_one (filter test (subjects_of g)) header
    (apart_filter test (subjects_of g) (ascending_apart term_cmp terms_total (map (λ u. u.subject) g)))
    (in_filter test (subjects_of g) header among (any_from (carries word.Ontology) (of_subject g header) h.triple there h.typed))
    (λ y m.
    let k = from_filter test (subjects_of g) y m in
    let p = some_passes (carries word.Ontology) (of_subject g y) k.passes in
    let t = from_subject g y p.element p.inside in
    sym t.1 ∙ h.only p.element t.0 p.passes)

module _ (g : List Triple) (k : List Entity) (header : Term) where
  no_annotation : (t : Triple) → t.subject ≡ header → (role_of g header ≡ role.Main → ⊥) → (role_of g header ≡ role.Note → ⊥) → is_header_triple header t ≡ true → is_annotation_triple g k header t ≡ true → ⊥
  unfolding is_annotation_triple is_header_triple
  no_annotation t s main note h a =
      elim (or_cases (is_same t.subject header && not (carries_some header_words t) && has_kind k kind.AnnotationProperty t.predicate && not (is_axiom_predicate t.predicate)) ((is_role role.Main (role_of g t.subject) || is_role role.Note (role_of g t.subject)) && not (is_structural g t)) a) [
        | inl l ↦
            let outer = and_parts _ (not (is_axiom_predicate t.predicate)) l in
            let mid = and_parts _ (has_kind k kind.AnnotationProperty t.predicate) outer.0 in
            let no = (and_parts (is_same t.subject header) (not (carries_some header_words t)) mid.0).1 in
            both_ways false refl (sym (ap not (and_parts (is_same t.subject header) (carries_some header_words t) h).1) ∙ no)
        | inr r ↦
            elim (or_cases (is_role role.Main (role_of g t.subject)) (is_role role.Note (role_of g t.subject)) (and_parts _ (not (is_structural g t)) r).0) [
              | inl e ↦ main (ap (role_of g) (sym s) ∙ sym (same_role role.Main (role_of g t.subject) e))
              | inr e ↦ note (ap (role_of g) (sym s) ∙ sym (same_role role.Note (role_of g t.subject) e))
            ]
      ]

  -- the annotations of the header are those that are made so
  pub notes_are : (links : List Triple) → (role_of g header ≡ role.Main → ⊥) → (role_of g header ≡ role.Note → ⊥) → ((t : Triple) → Contains links t → Contains g t × IsHeaderNote k header t) → ((t : Triple) → Contains g t → t.subject ≡ header → Contains links t ⊎ ((is_header_triple header t ≡ true) ⊎ IsMain g k header t)) → HoldSame (header_notes g k header) links
  unfolding header_notes
  notes_are links main note is cases =
      λ t. (
        λ m.
            let kept = from_filter (λ u. is_same u.subject header && is_annotation_triple g k header u) g t m in
            let parts = and_parts (is_same t.subject header) (is_annotation_triple g k header t) kept.passes in
            let at = same_term t.subject header parts.0 in
            elim (cases t kept.inside at) [
              | inl a ↦ a
              | inr o ↦
                  elim o [
                    | inl h ↦ absurd (no_annotation t at main note h parts.1)
                    | inr i ↦ absurd (both_ways (is_annotation_triple g k header t) (not_annotation g k header t i) parts.1)
                  ]
            ],
        λ m.
            let n = is t m in
            in_filter (λ u. is_same u.subject header && is_annotation_triple g k header u) g t n.0
            (and_from (is_same t.subject header) (is_annotation_triple g k header t) (ap (λ (y : Term). is_same y header) n.1.subject ∙ own_term header) (header_note g k header t n.1.subject n.1.free n.1.property)),
      )
