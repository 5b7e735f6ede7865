-- The subjects of the triples that carry owl:Ontology are the headers of the graph.
use Rattle.std.proofs.Common.{◌≡◌, Bool, true, inl, inr, List, [], ◌∷◌, refl, sym, ◌∙◌, subst}
use Rattle.std.specs.Prelude.{Contains, map}
use Rattle.std.specs.List.{AllByRecursion, filter, list_any}
use Rattle.std.specs.Str.{bytes_eq}
use Rattle.std.specs.declared.cmp.Ordering.TheVariants.{Less}
use Rattle.std.proofs.lemmas.Bool.{and_parts, or_left, or_right}
use Rattle.std.proofs.lemmas.List.Kept.{IsStrictlySortedBy-filter}
use Rattle.std.proofs.lemmas.Slice.Eq.{bytes_eq-Decides}
use Rattle.owl_list.specs.Ascending.{IsAscending}
use Rattle.owl_list.proofs.AscendingLaws.{all_from, ascending_ascends, ascending_unique, from_map, in_cases, in_map, in_none}
use Rattle.rdf_graph.specs.declared.term.Term.{Term}
use Rattle.rdf_graph.specs.declared.term.Term.TheVariants.{Iri}
use Rattle.rdf_graph.specs.declared.triple.Triple.{Triple}
use Rattle.rdf_graph.proofs.TermLaws.{terms_total}
use Rattle.rdf_graph.specs.Terms.{term_cmp, triple_cmp}
use Rattle.rdf_meaning.specs.declared.word.Word.TheVariants as word
use Rattle.owl_list.proofs.FilterLaws.{from_filter, in_filter}
use Rattle.rdf_meaning.proofs.ListLaws.{some_passes}
use Rattle.rdf_meaning.proofs.NodeLaws.{from_subject, in_subject, subjects_are, typed_object}
use Rattle.rdf_meaning.specs.Nodes.{carries, is_same, of_subject, subjects_of, type_iri}
use Rattle.rdf_meaning.specs.Statements.{headers}
use Rattle.rdf_meaning.specs.Words.{is_type, word_iri}
use Rattle.rdf_rows.specs.Chosen.{carriers}
use Rattle.rdf_rows.proofs.CarryingLaws.{by_class}
use Rattle.rdf_scans.proofs.Ascents.{less_subject, map_ascends}

pub any_from : {X : Type 0} (test : X → Bool) (xs : List X) (x : X) → Contains xs x → test x ≡ true → list_any test xs ≡ true
any_from test [] x m h = absurd (in_none x m)
any_from test (y ∷ xs) x m h =
    elim (in_cases y xs x m) [
      | inl e ↦ or_left (test y) (list_any test xs) (subst (λ z. test z ≡ true) (sym e) h)
      | inr k ↦ or_right (test y) (list_any test xs) (any_from test xs x k h)
    ]

is_ontology : is_type word.Ontology ≡ true
unfolding is_type
is_ontology = refl

abbrev CarriesOntology : Triple → Type 0
CarriesOntology t = carries word.Ontology t ≡ true

typed_so : (t : Triple) → CarriesOntology t → t.predicate ≡ type_iri
typed_so t h =
    let says = and_parts (bytes_eq t.predicate type_iri) (is_same t.object (Iri (word_iri word.Ontology))) (sym (by_class word.Ontology t is_ontology) ∙ h) in
    (bytes_eq-Decides t.predicate type_iri).0 says.0

ontology_so : (t : Triple) → CarriesOntology t → t.object ≡ Iri (word_iri word.Ontology)
ontology_so t h = typed_object word.Ontology t is_ontology h

keeps : (s t : Triple) → CarriesOntology s → CarriesOntology t → triple_cmp s t ≡ Less → term_cmp s.subject t.subject ≡ Less
keeps s t h k l = less_subject s t (typed_so s h ∙ sym (typed_so t k)) (ontology_so s h ∙ sym (ontology_so t k)) l

abbrev pub subjects : List Triple → List Term
subjects ts = map (λ t. t.subject) ts

module _ (g : List Triple) where
  abbrev is_header : Term → Bool
  is_header x = list_any (carries word.Ontology) (of_subject g x)

  there : (x : Term) → Contains (subjects (carriers word.Ontology g)) x → Contains (filter is_header (subjects_of g)) x
  there x m =
      let v = from_map (λ t. t.subject) (carriers word.Ontology g) x m in
      let k = from_filter (carries word.Ontology) g v.element v.inside in
      let among = (subjects_are g x).1 (subst (λ y. Contains (subjects g) y) v.value (in_map (λ t. t.subject) g v.element k.inside)) in
      in_filter is_header (subjects_of g) x among (any_from (carries word.Ontology) (of_subject g x) v.element (in_subject g x v.element k.inside v.value) k.passes)

  back : (x : Term) → Contains (filter is_header (subjects_of g)) x → Contains (subjects (carriers word.Ontology g)) x
  back x m =
      let k = from_filter is_header (subjects_of g) x m in
      let p = some_passes (carries word.Ontology) (of_subject g x) k.passes in
      let t = from_subject g x p.element p.inside in
      subst (λ y. Contains (subjects (carriers word.Ontology g)) y) t.1
      (in_map (λ t. t.subject) (carriers word.Ontology g) p.element (in_filter (carries word.Ontology) g p.element t.0 p.passes))

  pub headers_are : IsAscending triple_cmp g → headers g ≡ subjects (carriers word.Ontology g)
  unfolding headers
  headers_are a =
      let ts = carriers word.Ontology g in
      let all : AllByRecursion CarriesOntology ts = all_from CarriesOntology ts (λ t m. (from_filter (carries word.Ontology) g t m).passes) in
      ascending_unique term_cmp terms_total (filter is_header (subjects_of g)) (subjects ts)
      (IsStrictlySortedBy-filter term_cmp is_header (subjects_of g) (ascending_ascends term_cmp terms_total (subjects g)))
      (map_ascends (λ t. t.subject) triple_cmp term_cmp CarriesOntology keeps ts all (IsStrictlySortedBy-filter triple_cmp (carries word.Ontology) g a))
      (λ x. (back x, there x))
