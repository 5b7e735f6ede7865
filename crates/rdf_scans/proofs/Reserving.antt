-- The test says which triples take a reserved IRI for what it isn't.
use Rattle.std.specs.Prelude.{◌≡◌, ◌↔◌, true, false, not, List, Contains, Option, None, Some}
use Rattle.std.proofs.Common.{refl, ap, ◌∙◌}
use Rattle.std.proofs.lemmas.Bool.{and_from, and_parts, both_ways, not-true}
use Rattle.rdf_terms.specs.Vocabulary as vocabulary
use Rattle.owl_kind.specs.declared.kind.Kind.{Kind}
use Rattle.owl_kind.specs.declared.kind.Kind.TheVariants as kind
use Rattle.owl_kind.specs.Kinds.{Entity}
use Rattle.rdf_graph.specs.declared.term.Term.{Term}
use Rattle.rdf_graph.specs.declared.term.Term.TheVariants.{Iri, Blank, Literal}
use Rattle.rdf_graph.specs.declared.triple.Triple.{Triple}
use Rattle.rdf_meaning.specs.declared.row.Site.{Site}
use Rattle.rdf_meaning.specs.declared.row.Site.TheVariants.{Node, TypedBy, OtherType, LinkedBy, OtherLink}
use Rattle.rdf_meaning.specs.declared.word.Word.{Word}
use Rattle.rdf_meaning.specs.Denotation.{site_of}
use Rattle.rdf_meaning.specs.Kinds.{has_kind, may_be_declared}
use Rattle.rdf_meaning.specs.Statements.{main_triples}
use Rattle.rdf_faults.specs.Faults.{TakesReserved, as_property, as_class, as_declared, is_property, kind_declared}
use Rattle.rdf_scans.specs.declared.reading.Reading.{Reading}
use Rattle.rdf_scans.specs.declared.sorts.TripleSort.{TripleSort}
use Rattle.rdf_scans.specs.declared.sorts.TripleSort.TheVariants.{Structural, Header, Annotation, Main}
use Rattle.rdf_scans.specs.Reserved.{IsReservedIn, is_reserved, takes_at, takes_class, takes_declared, takes_reserved}
use Rattle.rdf_scans.specs.Sorts.{is_main, sort_in}
use Rattle.rdf_scans.proofs.SortLaws.{main_is}

module _ (k : List Entity) (t : Triple) where
  class_taken : (x : Term) → site_of t ≡ OtherType → t.object ≡ x → takes_class k x ≡ true → TakesReserved k t
  class_taken (Iri iri) s o h =
      let parts = and_parts (vocabulary.is_reserved iri) (not (has_kind k kind.Class iri)) h in
      as_class iri s o parts.0 (not-true (has_kind k kind.Class iri) parts.1)
  class_taken (Blank label) s o h = cc
  class_taken (Literal literal) s o h = cc

  declared_taken : (w : Word) (declared : Option Kind) (x : Term) → site_of t ≡ TypedBy w → kind_declared w ≡ declared → t.subject ≡ x →
      takes_declared declared x ≡ true → TakesReserved k t
  declared_taken w (Some declared) (Iri iri) s d o h = as_declared w declared iri s d o (not-true (may_be_declared declared iri) h)
  declared_taken w None x s d o h = cc
  declared_taken w (Some declared) (Blank label) s d o h = cc
  declared_taken w (Some declared) (Literal literal) s d o h = cc

  taken_at : (s : Site) → site_of t ≡ s → takes_at s k t ≡ true → TakesReserved k t
  taken_at OtherLink s h =
      let parts = and_parts (vocabulary.is_reserved t.predicate) (not (is_property k t.predicate)) h in
      as_property s parts.0 (not-true (is_property k t.predicate) parts.1)
  taken_at OtherType s h = class_taken t.object s refl h
  taken_at (TypedBy w) s h = declared_taken w (kind_declared w) t.subject s refl refl h
  taken_at (Node r) s h = cc
  taken_at (LinkedBy w) s h = cc

  takes : TakesReserved k t → takes_reserved k t ≡ true
  takes (as_property s r n) =
      ap (λ site. takes_at site k t) s ∙ and_from (vocabulary.is_reserved t.predicate) (not (is_property k t.predicate)) r (ap not n)
  takes (as_class iri s o r n) =
      ap (λ site. takes_at site k t) s ∙ ap (takes_class k) o
      ∙ and_from (vocabulary.is_reserved iri) (not (has_kind k kind.Class iri)) r (ap not n)
  takes (as_declared w declared iri s d o n) =
      ap (λ site. takes_at site k t) s ∙ ap (λ a. takes_declared a t.subject) d ∙ ap (takes_declared (Some declared)) o ∙ ap not n

  pub takes_is : (takes_reserved k t ≡ true) ↔ TakesReserved k t
  takes_is = (taken_at (site_of t) refl, takes)

pub main_sort : (s : TripleSort) → (is_main s ≡ true) ↔ (s ≡ Main)
main_sort Main = (λ h. refl, λ e. refl)
main_sort Structural = (λ h. cc, λ e. cc)
main_sort Header = (λ h. cc, λ e. cc)
main_sort Annotation = (λ h. cc, λ e. cc)

module _ (reading : Reading) (t : Triple) where
  abbrev as_main : Contains (main_triples reading.graph.now reading.kinds.now reading.header.now) t ↔ (Contains reading.graph.now t × (sort_in reading t ≡ Main))
  as_main = main_is reading.graph.now reading.kinds.now reading.header.now t

  pub reserved_so : Contains reading.graph.now t → is_reserved reading t ≡ true → IsReservedIn reading t
  reserved_so inside h =
      let parts = and_parts (is_main (sort_in reading t)) (takes_reserved reading.kinds.now t) h in record {
        main = as_main.1 (inside, (main_sort (sort_in reading t)).0 parts.0);
        takes = (takes_is reading.kinds.now t).0 parts.1;
      }

  pub not_reserved : is_reserved reading t ≡ false → IsReservedIn reading t → ⊥
  not_reserved h r =
      both_ways (is_reserved reading t) h
      (and_from (is_main (sort_in reading t)) (takes_reserved reading.kinds.now t)
      ((main_sort (sort_in reading t)).1 (as_main.0 r.main).1) ((takes_is reading.kinds.now t).1 r.takes))
