-- What is read of bytes, which are written as something and then more.
use Rattle.std.specs.Prelude.{◌≡◌, Result, MatchResult}
use Rattle.owl_canon.specs.declared.fault.CanonFault.{CanonFault}
use Rattle.owl_canon.specs.declared.fault.CanonFault.TheVariants.{Memory}

-- unless memory runs out, something is read of which this is so
abbrev pub Finds : {X : Type 0} → Result X CanonFault → (X → Type 0) → Type 0
Finds result Fact = MatchResult result Fact (λ fault. fault ≡ Memory)
