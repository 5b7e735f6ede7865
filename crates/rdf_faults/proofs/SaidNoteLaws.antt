-- Where each annotation triple is an annotation by its terms, and no reification is noted under itself, each triple has its annotations.
use Rattle.std.specs.Prelude.{◌≡◌, ℕ, true, not, ◌&&◌, ◌||◌, IsTrue, List, [], ◌∷◌, Contains}
use Rattle.std.proofs.Common.{sym, ap, subst}
use Rattle.std.proofs.lemmas.Bool.{and_from, and_parts, or_left, or_right}
use Rattle.owl_list.proofs.AscendingLaws.{in_head, in_tail}
use Rattle.owl_kind.specs.Kinds.{Entity}
use Rattle.owl_tree.specs.declared.row.Sort.TheVariants as sort
use Rattle.owl_tree.specs.Trees.{Tree}
use Rattle.rdf_graph.specs.declared.term.Term.{Term}
use Rattle.rdf_graph.specs.declared.term.Term.TheVariants.{Iri}
use Rattle.rdf_graph.specs.declared.triple.Triple.{Triple}
use Rattle.owl_list.proofs.FilterLaws.{from_filter}
use Rattle.rdf_meaning.specs.declared.role.Role.TheVariants as role
use Rattle.rdf_meaning.proofs.AxiomLaws.{triples_have_notes}
use Rattle.rdf_meaning.specs.Denotation.{simple}
use Rattle.rdf_meaning.specs.Nodes.{is_role, is_structural, nodes_of, of_subject, role_of}
use Rattle.rdf_meaning.proofs.NodeLaws.{from_subject, nodes_are}
use Rattle.rdf_meaning.specs.Statements.{AreSets, no_set, set, HasNote, IsDirectlyNotedUnder, Variants, bare, noted, is_annotation_triple, noters, notes, notes_of, reifies}
use Rattle.rdf_faults.specs.Asked.{IsTypedNote}
use Rattle.rdf_faults.proofs.DenotedLaws.{some_value}
use Rattle.rdf_faults.specs.Faults.{IsCyclic}
use Rattle.rdf_faults.proofs.WayDownLaws.{by_notes_under}

record IsOwnNote (g : List Triple) (s : Term) (t : Triple) : Type 0 where
  pub inside : Contains g t
  pub subject : t.subject ≡ s
  pub plain : not (is_structural g t) ≡ true

own_note : (g : List Triple) (s : Term) (t : Triple) → Contains (notes_of g s) t → IsOwnNote g s t
unfolding notes_of
own_note g s t m =
    let kept = from_filter (λ u. not (is_structural g u)) (of_subject g s) t m in
    let own = from_subject g s t kept.inside in
    record { inside = own.0; subject = own.1; plain = kept.passes }

-- a triple of a reification, or of a node that stands for an axiom, which is no part of it
annotates_it : (g : List Triple) (k : List Entity) (header : Term) (t : Triple) → is_role role.Main (role_of g t.subject) || is_role role.Note (role_of g t.subject) ≡ true → not (is_structural g t) ≡ true → is_annotation_triple g k header t ≡ true
unfolding is_annotation_triple
annotates_it g k header t r n =
    or_right _ ((is_role role.Main (role_of g t.subject) || is_role role.Note (role_of g t.subject)) && not (is_structural g t))
    (and_from (is_role role.Main (role_of g t.subject) || is_role role.Note (role_of g t.subject)) (not (is_structural g t)) r n)

record IsNoter (g : List Triple) (t : Triple) (s : Term) : Type 0 where
  pub note : role_of g s ≡ role.Note
  pub reified : reifies g s t ≡ true

noter : (g : List Triple) (t : Triple) (s : Term) → Contains (noters g t) s → IsNoter g t s
unfolding noters
noter g t s m =
    let kept = from_filter _ (nodes_of g role.Note) s m in
    record { note = (nodes_are g role.Note s (λ e. cc)).0 kept.inside; reified = (and_parts (reifies g s t) _ kept.passes).0 }

module _ (g : List Triple) (k : List Entity) where
  -- what the annotations of a node say
  abbrev pub SaysNotes : Term → Type 0
  SaysNotes s = (t : Triple) → Contains (notes_of g s) t → HasNote g k t

  sets_of : (rs : List Term) → ((r : Term) → Contains rs r → SaysNotes r) → (sets : List Tree) × AreSets g k rs sets
  sets_of [] says = ([], no_set)
  sets_of (r ∷ rs) says =
      let first = (triples_have_notes g k (notes_of g r)).1 (says r (in_head r rs)) in
      let rest = sets_of rs (λ q m. says q (in_tail r rs q m)) in
      (notes first.0 ∷ rest.0, set r rs first.0 rest.0 first.1 rest.1)

  variants_by : (t : Triple) (rs : List Term) → noters g t ≡ rs → ((r : Term) → Contains rs r → SaysNotes r) → (sets : List Tree) × Variants g k t sets
  variants_by t [] e says = (notes [] ∷ [], bare t e)
  variants_by t (r ∷ rs) e says = let sets = sets_of (r ∷ rs) says in (sets.0, noted t r rs sets.0 e sets.1)

  noted_so : (t : Triple) → IsTypedNote g k t → (sets : List Tree) × Variants g k t sets → HasNote g k t
  noted_so t typed v =
      let p = some_value (simple g k sort.AnnotationProperty (Iri t.predicate)) typed.property in
      let u = some_value (simple g k sort.AnnotationValue t.object) typed.value in
      record { property = p.0; value = u.0; is_property = p.1; is_value = u.1; sets = v.0; variants = v.1 }

  module _ (header : Term) (acyclic : (label : List ℕ) → IsCyclic g label → ⊥) (typed : (t : Triple) → Contains g t → IsTrue (is_annotation_triple g k header t) → IsTypedNote g k t) where
    own_typed : (s : Term) (t : Triple) → is_role role.Main (role_of g s) || is_role role.Note (role_of g s) ≡ true → Contains (notes_of g s) t → IsTypedNote g k t
    own_typed s t r m =
        let own = own_note g s t m in
        typed t own.inside
        (annotates_it g k header t (subst (λ y. is_role role.Main (role_of g y) || is_role role.Note (role_of g y) ≡ true) (sym own.subject) r) own.plain)

    abbrev IsSaid : Term → Type 0
    IsSaid s = role_of g s ≡ role.Note → SaysNotes s

    note_says : (s : Term) → ((r : Term) → IsDirectlyNotedUnder g r s → IsSaid r) → IsSaid s
    note_says s under e t m =
        noted_so t (own_typed s t (or_right (is_role role.Main (role_of g s)) _ (ap (is_role role.Note) e)) m)
        (variants_by t (noters g t) (λ i. noters g t) (λ r n.
        let is = noter g t r n in
        under r (record { note = is.note; under = e; triple = t; annotation = m; reified = is.reified }) is.note))

    pub reification_says : (s : Term) → role_of g s ≡ role.Note → SaysNotes s
    reification_says = by_notes_under g acyclic IsSaid note_says

    pub has_variants : (t : Triple) → (sets : List Tree) × Variants g k t sets
    has_variants t = variants_by t (noters g t) (λ i. noters g t) (λ r n. reification_says r (noter g t r n).note)

    pub main_says : (s : Term) → role_of g s ≡ role.Main → SaysNotes s
    main_says s e t m =
        noted_so t (own_typed s t (or_left _ (is_role role.Note (role_of g s)) (ap (is_role role.Main) e)) m) (has_variants t)

    pub annotation_says : (t : Triple) → Contains g t → IsTrue (is_annotation_triple g k header t) → HasNote g k t
    annotation_says t m a = noted_so t (typed t m a) (has_variants t)
