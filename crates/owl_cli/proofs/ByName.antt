-- Words by name.
use Rattle.std.proofs.Common.{◌≡◌, ◌-◌, ◌^◌, Option, None, Some, refl, inr}
use Rattle.std.specs.Prelude.{unwrap_or}
use Rattle.std.specs.Option.{option_map}
use Rattle.owl_port.specs.Outside.{Rose}
use Rattle.owl_cli.specs.Files.{Word}

-- the count of a name that is none of the words stands at its last value
pub rose_where_absent : (x : Option Word) → x ≡ None → Rose (unwrap_or (option_map (λ w. w.faults) x) (2 ^ 64 - 1)) (unwrap_or (option_map (λ w. w.faults) x) (2 ^ 64 - 1))
rose_where_absent None e = inr refl
rose_where_absent (Some w) e = absurd (cc)
