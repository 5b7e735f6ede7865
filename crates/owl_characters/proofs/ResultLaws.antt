-- What a `?` passes on.
use Rattle.std.proofs.Common.{Result, Ok, Err, IfErr, ◌≡◌, subst, sym}
use Rattle.std.specs.Result.{IsErrAnd}

-- what holds of a refusal holds of the answer that it becomes
pub passed : {X E : Type 0} (r : Result X E) (fault : E) (P : E → Type 0) → IsErrAnd r (λ e. e ≡ fault) → P fault → IfErr r P
passed (Ok x) fault P e p = tt
passed (Err y) fault P e p = subst P (sym e) p
