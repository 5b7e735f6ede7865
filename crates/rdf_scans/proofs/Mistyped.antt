-- The tests say which triples are not the axioms or annotations that they would be.
use Rattle.std.specs.Prelude.{◌≡◌, ◌↔◌, ◌||◌, ℕ, Bool, true, false, IsTrue, List, Contains}
use Rattle.std.specs.Option.{is_some}
use Rattle.std.proofs.Common.{refl, sym, ap, ◌∙◌}
use Rattle.std.proofs.lemmas.Bool.{both_ways}
use Rattle.owl_kind.specs.Kinds.{Entity}
use Rattle.owl_tree.specs.declared.row.Sort.{Sort}
use Rattle.owl_tree.specs.declared.row.Sort.TheVariants as sort
use Rattle.rdf_graph.specs.declared.term.Term.{Term}
use Rattle.rdf_graph.specs.declared.term.Term.TheVariants.{Iri}
use Rattle.rdf_graph.specs.declared.triple.Triple.{Triple}
use Rattle.rdf_meaning.specs.declared.role.Role.{Role}
use Rattle.rdf_meaning.specs.declared.role.Role.TheVariants as role
use Rattle.rdf_meaning.specs.Denotation.{simple}
use Rattle.rdf_meaning.specs.Nodes.{role_of}
use Rattle.rdf_faults.specs.Asked.{IsTypedNote, is_of_sort, role_gives}
use Rattle.rdf_faults.specs.Faults.{no_axiom, no_note}
use Rattle.rdf_scans.specs.declared.reading.Reading.{Reading}
use Rattle.rdf_scans.specs.Sorts.{sort_in}
use Rattle.rdf_scans.proofs.SortLaws.{main_is}
use Rattle.rdf_scans.specs.Statements.{IsNoAxiom, IsNoNote, IsUntypedIn}
use Rattle.rdf_scans.proofs.Reserving.{main_sort}

module _ (reading : Reading) (t : Triple) where
  pub untyped_axiom : Contains reading.graph.now t → IsNoAxiom reading t → IsUntypedIn reading t
  untyped_axiom inside n = no_axiom ((main_is reading.graph.now reading.kinds.now reading.header.now t).1 (inside, (main_sort (sort_in reading t)).0 n.0)) n.1

  pub untyped_note : Contains reading.graph.now t → IsNoNote reading t → IsUntypedIn reading t
  untyped_note inside n = no_note inside n.0 n.1

  pub typed_so : (IsNoAxiom reading t → ⊥) → (IsNoNote reading t → ⊥) → IsUntypedIn reading t → ⊥
  typed_so a n (no_axiom m u) =
      a ((main_sort (sort_in reading t)).1 ((main_is reading.graph.now reading.kinds.now reading.header.now t).0 m).1, u)
  typed_so a n (no_note inside h u) = n (h, u)

-- no node stands for the value of an annotation by what it is
no_value : (r : Role) → role_gives r sort.AnnotationValue ≡ false
no_value role.List = refl
no_value _ = refl

or_false : (b : Bool) → (b || false) ≡ b
or_false true = refl
or_false false = refl

module _ (g : List Triple) (k : List Entity) where
  by_itself : (s : Sort) (x : Term) → role_gives (role_of g x) s ≡ false → is_of_sort g k s x ≡ is_some (simple g k s x)
  by_itself s x none = ap (λ b. is_some (simple g k s x) || b) none ∙ or_false (is_some (simple g k s x))

  value_of : (x : Term) → is_of_sort g k sort.AnnotationValue x ≡ is_some (simple g k sort.AnnotationValue x)
  value_of x = by_itself sort.AnnotationValue x (no_value (role_of g x))

  property_of : (iri : List ℕ) → is_of_sort g k sort.AnnotationProperty (Iri iri) ≡ is_some (simple g k sort.AnnotationProperty (Iri iri))
  property_of iri = by_itself sort.AnnotationProperty (Iri iri) refl

  module _ (t : Triple) (answer : Bool) where
    -- the property is one
    pub typed_note : IsTrue (is_of_sort g k sort.AnnotationProperty (Iri t.predicate)) → answer ≡ is_of_sort g k sort.AnnotationValue t.object → IsTrue answer ↔ IsTypedNote g k t
    typed_note p e = (
      λ h. record { property = sym (property_of t.predicate) ∙ p; value = sym (value_of t.object) ∙ sym e ∙ h },
      λ n. e ∙ value_of t.object ∙ n.value,
    )

    -- it is none
    pub no_property : is_of_sort g k sort.AnnotationProperty (Iri t.predicate) ≡ false → IsTypedNote g k t → ⊥
    no_property p n = both_ways _ p (property_of t.predicate ∙ n.property)
