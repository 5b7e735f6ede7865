use Rattle.std.proofs.Common.{◌≡◌, ◌∷◌, [], Some, false, take}
use Rattle.std.specs.List.{list_any}
use Rattle.dl_rules.specs.Local.{is_off}
use Rattle.owl_arena.specs.Held.{tree_at}
use Rattle.dl_local.proofs.nodes.lacks_one.Given as goal

abbrev pub invariant-facets : goal.invariant-facets
invariant-facets l = list_any (λ pair. is_off (Some l.datatype) (tree_at l.arena.trees pair ∷ [])) (take l.pair-index l.facets) ≡ false
