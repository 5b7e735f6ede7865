-- What axioms say of object properties, by the numbers of trees.
use Rattle.std.specs.Prelude.{◌≡◌, ◌<◌, ℕ, Bool, List, Option, Some, [], ◌∷◌, length, map}
use Rattle.std.specs.List.{AllByRecursion}
use Rattle.std.specs.Option.{is_some, option_to_list}
use Rattle.dl_rules.specs.Logical.{operands}
use Rattle.owl_arena.specs.Held.{tree_at}
use Rattle.owl_tree.specs.declared.tag.Tag.{Tag}
use Rattle.owl_tree.specs.Trees.{Tree, tag_of}
use Rattle.range_restrictions.specs.Restrictions.{ends_over, ranges_over, steps_over}
use Rattle.range_restrictions.specs.declared.statements.Statement.{Statement}
use Rattle.range_restrictions.specs.declared.statements.Statement.TheVariants.{Step, Range, Chain}

-- the ends of the chain that an axiom with this tag and these operands is, if it is one
abbrev pub chain_over : Tag → List Tree → List (Tree × Tree)
chain_over t us = option_to_list (ends_over t us)

abbrev pub chain_of : Tree → List (Tree × Tree)
chain_of t = chain_over (tag_of t) (operands t)

abbrev pub is_chain : Tree → Bool
is_chain t = is_some (ends_over (tag_of t) (operands t))

-- the step, the range and the ends of a chain that are said
abbrev pub step_in : Option Statement → List (ℕ × ℕ)
step_in (Some (Step below above)) = (below, above) ∷ []
step_in _ = []

abbrev pub range_in : Option Statement → List (ℕ × ℕ)
range_in (Some (Range property class)) = (property, class) ∷ []
range_in _ = []

abbrev pub chain_in : Option Statement → List (ℕ × ℕ)
chain_in (Some (Chain last implied)) = (last, implied) ∷ []
chain_in _ = []

-- these numbers are of these pairs of trees
pub record ArePairs (ts : List Tree) (pairs : List (Tree × Tree)) (numbers : List (ℕ × ℕ)) : Type 0 where
  pub trees : map (λ (pair : ℕ × ℕ). (tree_at ts pair.0, tree_at ts pair.1)) numbers ≡ pairs
  pub held : AllByRecursion (λ (pair : ℕ × ℕ). (pair.0 < length ts) × (pair.1 < length ts)) numbers

-- an axiom with this tag and these operands says this
pub record IsStatement (ts : List Tree) (t : Tag) (us : List Tree) (said : Option Statement) : Type 0 where
  pub step : ArePairs ts (steps_over t us) (step_in said)
  pub range : ArePairs ts (ranges_over t us) (range_in said)
  pub chain : ArePairs ts (chain_over t us) (chain_in said)

-- the axiom says this
abbrev pub IsStatementOf : List Tree → Tree → Option Statement → Type 0
IsStatementOf ts t said = IsStatement ts (tag_of t) (operands t) said
