-- What calls of a syntax answer where they leave early.
use Rattle.std.proofs.Common.{◌≡◌, ◌≢◌, Result, Ok, Err, sym, ap, ◌∙◌}
use Rattle.std.specs.Result.{IsErrAnd}
use Rattle.owl_reader.specs.Computing.{TurnsTo}
use Rattle.owl_reader.specs.declared.fault.TokenFault.{TokenFault}
use Rattle.owl_reader.specs.declared.fault.TokenFault.TheVariants.{Memory}

pub turned_early : {A B : Type 0} (Shown : B → A → Type 0) (r : Result (Unit {0}) TokenFault) (fault : TokenFault) (new : B) (wanted : Result A TokenFault) → IsErrAnd r (λ e. e ≡ fault) → (fault ≢ Memory → wanted ≡ Err fault) → TurnsTo Shown r new wanted
turned_early Shown (Ok x) fault new wanted is h = absurd is
turned_early Shown (Err e) fault new wanted is h = λ other. h (λ same. other (is ∙ same)) ∙ ap Err (sym is)
