-- The ontology that steps make, and which limit it passes.
use Rattle.std.specs.Prelude.{◌≡◌, ◌≤◌, ◌<◌, ◌⊎◌, ℕ, List}
use Rattle.man_raw.specs.Documents.{HeadTree}
use Rattle.owl_arena.specs.Held.{trees_at}
use Rattle.owl_arena.specs.Shared.{heaviest}
use Rattle.owl_tree.specs.Ontologies.{IsSameOntology, Ontology, ontology_weight}
use Rattle.owl_tree.specs.Trees.{Tree}
use Rattle.man_resolve.specs.declared.fault.ResolveFault.{ResolveFault}
use Rattle.man_resolve.specs.declared.fault.ResolveFault.TheVariants.{TooDeep, TooHeavy, Memory}
use Rattle.man_resolve.specs.declared.step.Step.{Step}
use Rattle.man_resolve.specs.Items.{head_in}
use Rattle.man_resolve.specs.Making.{trees_of}
use Rattle.man_resolve.specs.Resolved.{HasDeepTree}

abbrev pub ontology_made : HeadTree → List Step → List Step → Ontology
ontology_made head notes axioms = record { head = head_in head; annotations = trees_of notes; axioms = trees_of axioms }

-- the trees with these numbers
abbrev pub ontology_at : HeadTree → List Tree → List ℕ → List ℕ → Ontology
ontology_at head trees notes axioms = record { head = head_in head; annotations = trees_at trees notes; axioms = trees_at trees axioms }

-- the one is the other, and passes no limit
pub record IsWithin (o p : Ontology) : Type 0 where
  pub same : IsSameOntology o p
  pub shallow : HasDeepTree o → ⊥
  pub light : ontology_weight o ≤ heaviest

-- a tree is too deep, else all is too heavy
pub data PassesLimit (o : Ontology) : ResolveFault → Type 0 where
  too_deep : HasDeepTree o → PassesLimit o TooDeep
  too_heavy : (HasDeepTree o → ⊥) → heaviest < ontology_weight o → PassesLimit o TooHeavy

-- so; or memory ran out
abbrev pub IsLimitFault : Ontology → ResolveFault → Type 0
IsLimitFault o f = (f ≡ Memory) ⊎ PassesLimit o f

-- all is too heavy, or memory ran out
abbrev pub IsWeightFault : Ontology → ResolveFault → Type 0
IsWeightFault o f = (f ≡ Memory) ⊎ ((f ≡ TooHeavy) × (heaviest < ontology_weight o))
