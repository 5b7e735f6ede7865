use Rattle.std.proofs.Common.{◌≡◌, ◌<◌, ◌↔◌, ℕ, false, length, get_or}
use Rattle.std.specs.Prelude.{IsTrue}
use Rattle.owl_arena.specs.Held.{tree_at}
use Rattle.owl_doc.specs.Parts.{of_axiom}
use Rattle.owl_tree.specs.Ontologies.{Ontology}
use Rattle.owl_profiles.specs.Facts.{closure_in}
use Rattle.owl_profiles.specs.Rules.{BreaksIt}
use Rattle.owl_profiles.proofs.listing.axiom_marks.Given as goal

abbrev pub invariant-axioms : goal.invariant-axioms
invariant-axioms l = record {
  size : length l.marks.items ≡ l.id-index;
  told : (o : Ontology) (k : ℕ) → k < length l.marks.items →
      IsTrue (get_or l.marks.items k false) ↔ BreaksIt (closure_in l.facts) l.rule o (of_axiom (tree_at l.facts.arena.now.trees (get_or l.axioms k 0)));
}
