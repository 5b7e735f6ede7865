-- The header and the declarations of a graph are those of the graph without its redundant triples.
use lib.Utf8.{encode}
use Rattle.std.specs.Prelude.{◌≡◌, ℕ, Bool, true, false, not, List, [], Contains, map, Option, None, Some}
use Rattle.std.specs.List.{list_any}
use Rattle.std.proofs.Common.{refl, ap, ◌∙◌, subst}
use Rattle.std.proofs.lemmas.Bool.{both_ways}
use Rattle.std.proofs.lemmas.List.Folds.{list_any-from_Any}
use Rattle.std.proofs.lemmas.List.Kept.{IsStrictlySortedBy-filter}
use Rattle.owl_kind.specs.declared.kind.Kind.{Kind}
use Rattle.owl_kind.specs.Kinds.{Entity}
use Rattle.owl_list.specs.Ascending.{IsAscending}
use Rattle.owl_list.proofs.AscendingLaws.{ascending_ascends, ascending_unique, in_map}
use Rattle.owl_list.proofs.FilterLaws.{from_filter, in_filter}
use Rattle.rdf_graph.specs.declared.term.Term.{Term}
use Rattle.rdf_graph.specs.declared.term.Term.TheVariants.{Blank, Iri, Literal}
use Rattle.rdf_graph.specs.declared.triple.Triple.{Triple}
use Rattle.rdf_graph.proofs.TermLaws.{terms_total}
use Rattle.rdf_graph.specs.Terms.{term_cmp}
use Rattle.rdf_meaning.specs.declared.row.Site.TheVariants.{TypedBy}
use Rattle.rdf_meaning.specs.declared.word.Word.{Word}
use Rattle.rdf_meaning.specs.declared.word.Word.TheVariants as word
use Rattle.rdf_meaning.proofs.ListLaws.{some_passes}
use Rattle.rdf_meaning.proofs.NodeLaws.{from_subject, in_subject, subjects_are, typed_object}
use Rattle.rdf_meaning.specs.Denotation.{site_of}
use Rattle.rdf_meaning.specs.Nodes.{carries, of_subject, subjects_of}
use Rattle.rdf_meaning.specs.Statements.{headers}
use Rattle.rdf_meaning.specs.Words.{is_type, word_iri}
use Rattle.rdf_faults.specs.Faults.{kind_declared}
use Rattle.rdf_scans.specs.Outlines.{declaration, declarations, kind_at}
use Rattle.rdf_thin.proofs.ThinnedLaws.{never_redundant, thinned_given}
use Rattle.rdf_thin.specs.Thinned.{is_redundant, thinned, words_beside, words_beside_type}
use Rattle.rdf_reverse.proofs.DeclaringLaws.{carried, entity_told, kind_is_type, site_kind, site_says}

ontology_is_type : is_type word.Ontology ≡ true
unfolding is_type
ontology_is_type = refl

-- No type of the header is redundant, nor one that declares an IRI.

no_header_type : (x : Term) → words_beside_type x (Iri (word_iri word.Ontology)) ≡ []
unfolding words_beside word_iri encode
no_header_type (Iri iri) = refl
no_header_type (Blank label) = refl
no_header_type (Literal literal) = refl

no_declaring_type : (w : Word) (kind : Kind) → kind_declared w ≡ Some kind → words_beside false (word_iri w) ≡ []
unfolding words_beside word_iri encode
no_declaring_type word.Class kind e = refl
no_declaring_type word.Datatype kind e = refl
no_declaring_type word.ObjectProperty kind e = refl
no_declaring_type word.DatatypeProperty kind e = refl
no_declaring_type word.AnnotationProperty kind e = refl
no_declaring_type word.NamedIndividual kind e = refl
no_declaring_type w kind e = cc

module _ (g : List Triple) where
  header_stays : (t : Triple) → carries word.Ontology t ≡ true → is_redundant g t ≡ false
  header_stays t h = never_redundant g t (ap (words_beside_type t.subject) (typed_object word.Ontology t ontology_is_type h) ∙ no_header_type t.subject)

  declaring_stays : (t : Triple) (iri : List ℕ) (w : Word) (kind : Kind) → t.subject ≡ Iri iri → site_of t ≡ TypedBy w → kind_declared w ≡ Some kind → is_redundant g t ≡ false
  declaring_stays t iri w kind subject site told =
      let type = kind_is_type w kind told in
      let object = typed_object w t type (carried w t type (site_says t w site).1) in
      never_redundant g t
      (ap (λ (x : Term). words_beside_type x t.object) subject ∙ ap (words_beside_type (Iri iri)) object ∙ no_declaring_type w kind told)

  declares_none : (t : Triple) → is_redundant g t ≡ true → declaration t ≡ None
  declares_none t h = by (declaration t) refl
    where
      by : (o : Option Entity) → declaration t ≡ o → o ≡ None
      by None e = refl
      by (Some entity) e =
          let d = entity_told t.subject (kind_at (site_of t)) entity e in
          let w = site_kind (site_of t) d.kind d.told in
          absurd (both_ways (is_redundant g t) (declaring_stays t d.iri w.0 d.kind d.subject w.1 w.2) h)

  pub same_declarations : declarations (thinned g) ≡ declarations g
  same_declarations = thinned_given g declaration declares_none

-- The headers of a graph are the subjects of its triples that carry owl:Ontology.

record IsHeader (g : List Triple) (x : Term) : Type 0 where
  triple : Triple
  inside : Contains g triple
  subject : triple.subject ≡ x
  carried : carries word.Ontology triple ≡ true

module _ (g : List Triple) where
  abbrev is_typed : Term → Bool
  is_typed x = list_any (carries word.Ontology) (of_subject g x)

  from_headers : (x : Term) → Contains (headers g) x → IsHeader g x
  unfolding headers
  from_headers x m =
      let kept = from_filter is_typed (subjects_of g) x m in
      let some = some_passes (carries word.Ontology) (of_subject g x) kept.passes in
      let at = from_subject g x some.element some.inside in
      record { triple = some.element; inside = at.0; subject = at.1; carried = some.passes }

  in_headers : (x : Term) → IsHeader g x → Contains (headers g) x
  unfolding headers
  in_headers x h =
      let subjects = map (λ t. t.subject) g in
      let among = (subjects_are g x).1 (subst (λ y. Contains subjects y) h.subject (in_map (λ t. t.subject) g h.triple h.inside)) in
      let there = in_subject g x h.triple h.inside h.subject in
      in_filter is_typed (subjects_of g) x among
      (list_any-from_Any (carries word.Ontology) (of_subject g x) (there.0, h.triple, there.1, there.2, h.carried))

  headers_ascend : IsAscending term_cmp (headers g)
  unfolding headers
  headers_ascend = IsStrictlySortedBy-filter term_cmp is_typed (subjects_of g) (ascending_ascends term_cmp terms_total (map (λ t. t.subject) g))

  abbrev stays : Triple → Bool
  stays t = not (is_redundant g t)

  thinned_header : (x : Term) → IsHeader (thinned g) x → IsHeader g x
  unfolding thinned
  thinned_header x h = record { triple = h.triple; inside = (from_filter stays g h.triple h.inside).inside; subject = h.subject; carried = h.carried }

  header_in_thinned : (x : Term) → IsHeader g x → IsHeader (thinned g) x
  unfolding thinned
  header_in_thinned x h = record {
    triple = h.triple;
    inside = in_filter stays g h.triple h.inside (ap not (header_stays g h.triple h.carried));
    subject = h.subject;
    carried = h.carried;
  }

pub same_headers : (g : List Triple) → headers (thinned g) ≡ headers g
same_headers g =
    ascending_unique term_cmp terms_total (headers (thinned g)) (headers g) (headers_ascend (thinned g)) (headers_ascend g)
    (λ x. (λ m. in_headers g x (thinned_header g x (from_headers (thinned g) x m)), λ m. in_headers (thinned g) x (header_in_thinned g x (from_headers g x m))))
