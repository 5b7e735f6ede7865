use Rattle.std.proofs.Common.{◌≡◌, drop, map}
use Rattle.profile_sorts.specs.Productions.{alternative_seen}
use Rattle.profile_sorts.specs.Sorts.{form_among}
use Rattle.profile_sorts.proofs.forms.form_among.Given as goal

abbrev pub invariant-alternatives : goal.invariant-alternatives
invariant-alternatives l = form_among (map alternative_seen l.alternatives) l.tag ≡ form_among (map alternative_seen (drop l.alternative-index l.alternatives)) l.tag
