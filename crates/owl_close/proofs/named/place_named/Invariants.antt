use Rattle.std.proofs.Common.{ℕ, ◌<◌}
use Rattle.owl_close.specs.Imports.{IsNamedAt, heads_of}
use Rattle.owl_close.proofs.named.place_named.Given as goal

abbrev pub invariant-places : goal.invariant-places
invariant-places l = (other : ℕ) → other < l.place → IsNamedAt (heads_of l.heads) l.iri other → ⊥
