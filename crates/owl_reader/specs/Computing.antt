-- What calls of a syntax answer, beside that memory runs out.
use Rattle.std.specs.Prelude.{◌≡◌, ◌≢◌, Result, Ok, Err}
use Rattle.owl_reader.specs.declared.fault.TokenFault.{TokenFault}
use Rattle.owl_reader.specs.declared.fault.TokenFault.TheVariants.{Memory}

-- the answer is the one that is wanted
abbrev pub Computes : {A : Type 0} → Result A TokenFault → Result A TokenFault → Type 0
Computes (Ok x) wanted = wanted ≡ Ok x
Computes (Err fault) wanted = fault ≢ Memory → wanted ≡ Err fault

-- what stands there then is the one that is wanted
abbrev pub Turns : {A : Type 0} → Result Unit TokenFault → A → Result A TokenFault → Type 0
Turns (Ok done) new wanted = wanted ≡ Ok new
Turns (Err fault) new wanted = fault ≢ Memory → wanted ≡ Err fault

-- what stands there then shows the one that is wanted
abbrev pub TurnsTo : {A B : Type 0} → (B → A → Type 0) → Result Unit TokenFault → B → Result A TokenFault → Type 0
TurnsTo {A} Shows (Ok done) new wanted = (x : A) × (wanted ≡ Ok x) × Shows new x
TurnsTo Shows (Err fault) new wanted = fault ≢ Memory → wanted ≡ Err fault
