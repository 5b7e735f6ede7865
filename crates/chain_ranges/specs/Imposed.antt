-- Ranges that axioms impose on properties (OWL 2 Profiles, section 2.2.6). Properties and classes are of any type.
use Rattle.std.specs.Prelude.{List, Contains}
use Rattle.graph_walks.specs.Walks.{Walks}

-- the class is a range of the property, or of a property to which it leads by these steps, from properties to those above
pub record IsImposed {X : Type 0} (steps ranges : List (X × X)) (class property : X) : Type 0 where
  pub on : X
  pub leads : Walks steps property on
  pub range : Contains ranges (on, class)

-- a class is imposed on the property that a chain implies, and not on the last property of the chain
pub record LacksRange {X : Type 0} (steps ranges : List (X × X)) (last implied : X) : Type 0 where
  pub class : X
  pub imposed : IsImposed steps ranges class implied
  pub lacks : IsImposed steps ranges class last → ⊥
