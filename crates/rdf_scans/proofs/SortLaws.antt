-- The main triples are those of this sort, and so the annotations.
use Rattle.std.specs.Prelude.{◌≡◌, ◌↔◌, Bool, true, false, not, ◌||◌, cond, List, Contains}
use Rattle.std.proofs.Common.{refl}
use Rattle.owl_kind.specs.Kinds.{Entity}
use Rattle.rdf_graph.specs.declared.term.Term.{Term}
use Rattle.rdf_graph.specs.declared.triple.Triple.{Triple}
use Rattle.owl_list.proofs.FilterLaws.{from_filter, in_filter}
use Rattle.rdf_meaning.specs.Nodes.{is_structural}
use Rattle.rdf_meaning.specs.Statements.{is_annotation_triple, is_header_triple, main_triples}
use Rattle.rdf_scans.specs.declared.sorts.TripleSort.{TripleSort}
use Rattle.rdf_scans.specs.declared.sorts.TripleSort.TheVariants.{Structural, Header, Annotation, Main}
use Rattle.rdf_scans.specs.Sorts.{sort_of}

abbrev sort_by : Bool → Bool → Bool → TripleSort
sort_by structural header annotation = cond structural Structural (cond header Header (cond annotation Annotation Main))

main_by : (a b c : Bool) → (not (a || b || c) ≡ true) ↔ (sort_by a b c ≡ Main)
main_by true b c = (λ e. cc, λ e. cc)
main_by false true c = (λ e. cc, λ e. cc)
main_by false false true = (λ e. cc, λ e. cc)
main_by false false false = (λ e. refl, λ e. refl)

annotation_by : (a b c : Bool) → sort_by a b c ≡ Annotation → c ≡ true
annotation_by a b true e = refl
annotation_by true b false e = cc
annotation_by false true false e = cc
annotation_by false false false e = cc

module _ (g : List Triple) (k : List Entity) (header : Term) (t : Triple) where
  abbrev by_main : (not (is_structural g t || is_header_triple header t || is_annotation_triple g k header t) ≡ true) ↔ (sort_of g k header t ≡ Main)
  by_main = main_by (is_structural g t) (is_header_triple header t) (is_annotation_triple g k header t)

  -- a triple of the graph is an axiom exactly where its sort says so
  pub main_is : Contains (main_triples g k header) t ↔ (Contains g t × (sort_of g k header t ≡ Main))
  unfolding main_triples
  main_is = (
    λ m. let kept = from_filter _ g t m in (kept.inside, by_main.0 kept.passes),
    λ h. in_filter _ g t h.0 (by_main.1 h.1),
  )

  pub annotation_is : sort_of g k header t ≡ Annotation → is_annotation_triple g k header t ≡ true
  annotation_is = annotation_by (is_structural g t) (is_header_triple header t) (is_annotation_triple g k header t)
