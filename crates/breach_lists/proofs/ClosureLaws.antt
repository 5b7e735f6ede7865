-- What is known of a closure whose trees stand in one arena.
use Rattle.std.proofs.Common.{◌≡◌, ◌<◌, ◌↔◌, ℕ, Bool, true, false, List, length, map, sym, ap, ◌∙◌, subst}
use Rattle.std.specs.Prelude.{Contains, slice_index_or}
use Rattle.std.specs.List.{AllByRecursion}
use Rattle.graph_walks.specs.Marks.{MarkEach, MarkNumbers}
use Rattle.owl_arena.specs.Held.{AreHeld, tree_at, trees_at}
use Rattle.owl_breaches.specs.Sites.{axiom_closure}
use Rattle.owl_doc.specs.Closures.{ImportClosure}
use Rattle.owl_doc.specs.Documents.{ontology_of}
use Rattle.owl_pool.specs.Pooling.{ArePooled, Numbered}
use Rattle.owl_tree.specs.Trees.{Tree}
use Rattle.breach_lists.specs.Marks.{IsMarkedAmong, MarkAxioms}
use Rattle.breach_lists.specs.Telling.{ontologies_of}
use Rattle.breach_lists.proofs.AllAxioms.{axiom_among, axioms_are, axioms_held, axioms_in}
use Rattle.breach_lists.proofs.Marking.{marks_of_axioms}

module _ (closure : ImportClosure) (ts : List Tree) (ns : List Numbered) (pooled : ArePooled ts (map ontology_of closure.documents) ns) (items : List ℕ) (made : items ≡ axioms_in ns) where
  pub held_so : (ids : List ℕ) → ids ≡ items → AreHeld ts ids
  held_so ids lent = subst (AreHeld ts) (sym (lent ∙ made)) (axioms_held ts (map ontology_of closure.documents) ns pooled)

  pub below_count : (ids : List ℕ) (count : ℕ) → ids ≡ items → count ≡ length ts → AllByRecursion (λ id. id < count) ids
  below_count ids count lent e = subst (λ (n : ℕ). AllByRecursion (λ id. id < n) ids) (sym e) (held_so ids lent)

  closure_so : trees_at ts items ≡ axiom_closure (ontologies_of closure)
  closure_so = ap (trees_at ts) made ∙ axioms_are ts (map ontology_of closure.documents) ns pooled

  -- marks by place, of what is so by all axioms
  pub numbers_so : (IsSo : List Tree → Tree → Type 0) (ids : List ℕ) (marks lent : List Bool) → ids ≡ items → lent ≡ marks → MarkNumbers (length ts) (λ id. IsSo (trees_at ts ids) (tree_at ts id)) marks →
      MarkNumbers (length ts) (λ id. IsSo (axiom_closure (ontologies_of closure)) (tree_at ts id)) lent
  numbers_so IsSo ids marks lent e f each =
      subst (λ (us : List Tree). MarkNumbers (length ts) (λ id. IsSo us (tree_at ts id)) lent) (ap (trees_at ts) e ∙ closure_so)
      (subst (λ (ms : List Bool). MarkNumbers (length ts) (λ id. IsSo (trees_at ts ids) (tree_at ts id)) ms) (sym f) each)

  -- marks of each axiom are marks by number
  pub marks_so : (IsSo : List Tree → Tree → Type 0) (ids others : List ℕ) (listed marks by_number lent : List Bool) → ids ≡ items → others ≡ items → marks ≡ listed → lent ≡ by_number →
      MarkEach (λ (place : ℕ) (t : Tree). IsSo (trees_at ts ids) t) (trees_at ts ids) listed → ((id : ℕ) → (slice_index_or by_number id false ≡ true) ↔ IsMarkedAmong others marks id) →
      MarkAxioms ts ns (IsSo (axiom_closure (ontologies_of closure))) lent
  marks_so IsSo ids others listed marks by_number lent e f g h each told =
      λ id of.
      let one = subst (λ (xs : List ℕ). MarkEach (λ (place : ℕ) (t : Tree). IsSo (trees_at ts xs) t) (trees_at ts xs) listed) e each in
      let all = subst (λ (us : List Tree). MarkEach (λ (place : ℕ) (t : Tree). IsSo us t) (trees_at ts items) listed) closure_so one in
      let by_items = subst (λ (xs : List ℕ). (n : ℕ) → (slice_index_or by_number n false ≡ true) ↔ IsMarkedAmong xs marks n) f told in
      let by_listed = subst (λ (ms : List Bool). (n : ℕ) → (slice_index_or by_number n false ≡ true) ↔ IsMarkedAmong items ms n) g by_items in
      subst (λ (bs : List Bool). (slice_index_or bs id false ≡ true) ↔ IsSo (axiom_closure (ontologies_of closure)) (tree_at ts id)) (sym h)
      (marks_of_axioms ts items listed by_number (IsSo (axiom_closure (ontologies_of closure))) all by_listed id (subst (λ (xs : List ℕ). Contains xs id) (sym made) (axiom_among ns id of)))
