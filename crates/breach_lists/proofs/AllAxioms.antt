-- The axioms of all documents.
use Rattle.std.proofs.Common.{◌≡◌, ◌++◌, inl, inr, ℕ, List, [], ◌∷◌, refl, sym, ap, ◌∙◌, subst}
use Rattle.std.specs.Prelude.{Contains}
use Rattle.std.specs.List.{flat_map}
use Rattle.std.proofs.lemmas.Grind.{flat_map-append}
use Rattle.std.proofs.lemmas.List.{append-nil, map-append}
use Rattle.std.proofs.lemmas.List.Elements.{Contains-append_left, Contains-append_right}
use Rattle.owl_arena.specs.Held.{AreHeld, tree_at, trees_at}
use Rattle.owl_list.proofs.AscendingLaws.{in_cases, in_none}
use Rattle.owl_pool.specs.Pooling.{ArePooled, Numbered}
use Rattle.owl_tree.specs.Ontologies.{Ontology}
use Rattle.owl_tree.specs.Trees.{Tree}
use Rattle.breach_lists.specs.Marks.{IsAxiomOf}

abbrev pub axioms_in : List Numbered → List ℕ
axioms_in ns = flat_map (λ (n : Numbered). n.axioms) ns

pub axioms_both : (ns ms : List Numbered) → axioms_in (ns ++ ms) ≡ axioms_in ns ++ axioms_in ms
axioms_both ns ms = flat_map-append (λ (n : Numbered). n.axioms) ns ms

pub axioms_of_one : (n : Numbered) → axioms_in (n ∷ []) ≡ n.axioms
axioms_of_one n = append-nil n.axioms

held_both : (ts : List Tree) (ids more : List ℕ) → AreHeld ts ids → AreHeld ts more → AreHeld ts (ids ++ more)
held_both ts [] more h k = k
held_both ts (id ∷ ids) more h k = (h.0, held_both ts ids more h.1 k)

pub axioms_held : (ts : List Tree) (os : List Ontology) (ns : List Numbered) → ArePooled ts os ns → AreHeld ts (axioms_in ns)
axioms_held ts [] [] h = tt
axioms_held ts [] (n ∷ ns) h = absurd h
axioms_held ts (o ∷ os) [] h = absurd h
axioms_held ts (o ∷ os) (n ∷ ns) h = held_both ts n.axioms (axioms_in ns) h.0.axioms.held (axioms_held ts os ns h.1)

-- they are the axioms of all ontologies
pub axioms_are : (ts : List Tree) (os : List Ontology) (ns : List Numbered) → ArePooled ts os ns → trees_at ts (axioms_in ns) ≡ flat_map (λ (o : Ontology). o.axioms) os
axioms_are ts [] [] h = refl
axioms_are ts [] (n ∷ ns) h = absurd h
axioms_are ts (o ∷ os) [] h = absurd h
axioms_are ts (o ∷ os) (n ∷ ns) h =
    map-append (tree_at ts) n.axioms (axioms_in ns)
    ∙ (ap (λ (us : List Tree). us ++ trees_at ts (axioms_in ns)) h.0.axioms.trees ∙ ap (λ (us : List Tree). o.axioms ++ us) (axioms_are ts os ns h.1))

among_all : (ns : List Numbered) (n : Numbered) (id : ℕ) → Contains ns n → Contains n.axioms id → Contains (axioms_in ns) id
among_all [] n id m h = absurd (in_none n m)
among_all (x ∷ ns) n id m h =
    elim (in_cases x ns n m) [
      | inl e ↦ Contains-append_left x.axioms (axioms_in ns) id (subst (λ (y : Numbered). Contains y.axioms id) (sym e) h)
      | inr k ↦ Contains-append_right x.axioms (axioms_in ns) id (among_all ns n id k h)
    ]

pub axiom_among : (ns : List Numbered) (id : ℕ) → IsAxiomOf ns id → Contains (axioms_in ns) id
axiom_among ns id of = among_all ns of.numbers id of.among of.has
