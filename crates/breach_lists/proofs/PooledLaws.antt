-- What is known of the documents of a closure, by their places.
use Rattle.std.proofs.Common.{◌<◌, ℕ, zero, suc, List, [], ◌∷◌, length, get_or, map, arith}
use Rattle.std.proofs.lemmas.List.{length-map}
use Rattle.std.proofs.lemmas.List.Elements.{Contains-get_or}
use Rattle.std.proofs.lemmas.Slice.Zip.{AllZip-long}
use Rattle.owl_doc.specs.Documents.{Document, ontology_of}
use Rattle.owl_list.proofs.AscendingLaws.{all_from}
use Rattle.owl_pool.specs.Pooling.{ArePooled, IsPooled, Numbered}
use Rattle.owl_tree.specs.Trees.{Tree}
use Rattle.breach_lists.specs.Adding.{AreAxiomsOf}
use Rattle.breach_lists.specs.Marks.{IsAxiomOf}

pooled_at : (ts : List Tree) (ds : List Document) (ns : List Numbered) (place : ℕ) (d : Document) (n : Numbered) → ArePooled ts (map ontology_of ds) ns → place < length ds →
    IsPooled ts (ontology_of (get_or ds place d)) (get_or ns place n)
pooled_at ts [] ns place d n h inside = absurd (omega arith)
pooled_at ts (e ∷ ds) [] place d n h inside = absurd h
pooled_at ts (e ∷ ds) (m ∷ ns) zero d n h inside = h.0
pooled_at ts (e ∷ ds) (m ∷ ns) (suc place) d n h inside = pooled_at ts ds ns place d n h.1 (omega arith)

module _ (ts : List Tree) (ds : List Document) (ns : List Numbered) (pooled : ArePooled ts (map ontology_of ds) ns) (place : ℕ) (inside : place < length ds) where
  pub pooled_within : place < length ns
  pooled_within = omega (arith, AllZip-long (IsPooled ts) (map ontology_of ds) ns pooled, length-map ds ontology_of)

  -- what the document in this place says is among the trees
  pub pooled_here : (d : Document) (n : Numbered) → IsPooled ts (ontology_of (get_or ds place d)) (get_or ns place n)
  pooled_here d n = pooled_at ts ds ns place d n pooled inside

  pub axioms_here : (d : Document) (n : Numbered) → AreAxiomsOf ts ns (get_or ns place n).axioms
  axioms_here d n =
      let numbers = get_or ns place n in
      record {
        held = (pooled_here d n).axioms.held;
        each = all_from (IsAxiomOf ns) numbers.axioms (λ id m. record { numbers = numbers; among = Contains-get_or ns place n pooled_within; has = m });
      }
