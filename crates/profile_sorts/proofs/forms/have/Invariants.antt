use Rattle.std.proofs.Common.{◌≡◌, drop, map}
use Rattle.profile_sorts.specs.Sets.{known_at}
use Rattle.profile_sorts.specs.Sorts.{have}
use Rattle.profile_sorts.proofs.forms.have.Given as goal

abbrev pub invariant-kids : goal.invariant-kids
invariant-kids l = have l.front l.rest (map (known_at l.sets) l.kids) ≡ have (drop l.place l.front) l.rest (map (known_at l.sets) (drop l.place l.kids))
