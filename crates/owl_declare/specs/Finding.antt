-- What is found to be needed, part by part.
use Rattle.std.specs.Prelude.{◌↔◌, ◌⊎◌, List, Contains}
use Rattle.owl_kind.specs.Kinds.{Entity, HasKind}

-- one of these, and neither declared nor built in
pub record Lacks (kinds es : List Entity) (e : Entity) : Type 0 where
  pub among : Contains es e
  pub lacking : HasKind kinds e.kind e.iri → ⊥

-- what was found, and those of these that are neither declared nor built in
abbrev pub Finds : List Entity → List Entity → List Entity → List Entity → Type 0
Finds kinds es old new = (e : Entity) → Contains new e ↔ (Contains old e ⊎ Lacks kinds es e)
