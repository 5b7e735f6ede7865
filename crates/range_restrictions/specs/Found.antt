-- Steps, ranges and chains of axioms, and marks of the chains among them.
use Rattle.std.specs.Prelude.{◌≡◌, Bool, true, false, List, Option, [], ◌∷◌, ◌++◌}
use Rattle.std.specs.List.{flat_map}
use Rattle.owl_tree.specs.Trees.{Tree}
use Rattle.range_restrictions.specs.Restrictions.{ranges, steps}
use Rattle.range_restrictions.specs.Statements.{ArePairs, chain_in, chain_of, range_in, step_in}
use Rattle.range_restrictions.specs.declared.found.Found.{Found}
use Rattle.range_restrictions.specs.declared.statements.Statement.{Statement}

-- all that these axioms say
pub record AreFound (ts axioms : List Tree) (found : Found) : Type 0 where
  pub steps : ArePairs ts (steps axioms) found.steps.items
  pub ranges : ArePairs ts (ranges axioms) found.ranges.items
  pub chains : ArePairs ts (flat_map chain_of axioms) found.chains.items

-- behind what was there comes what is said
pub record Notes (said : Option Statement) (old new : Found) : Type 0 where
  pub steps : new.steps.items ≡ old.steps.items ++ step_in said
  pub ranges : new.ranges.items ≡ old.ranges.items ++ range_in said
  pub chains : new.chains.items ≡ old.chains.items ++ chain_in said

-- to those that are chosen the marks, one by one, and false to the others
abbrev pub spread : List Bool → List Bool → List Bool
spread [] marks = []
spread (false ∷ chosen) marks = false ∷ spread chosen marks
spread (true ∷ chosen) [] = false ∷ spread chosen []
spread (true ∷ chosen) (mark ∷ marks) = mark ∷ spread chosen marks
