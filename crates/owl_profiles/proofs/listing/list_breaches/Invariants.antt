use Rattle.std.proofs.Common.{[], take}
use Rattle.owl_breaches.specs.Sites.{sites}
use Rattle.owl_profiles.specs.Facts.{AddsBreaches, closure_in}
use Rattle.owl_profiles.proofs.listing.list_breaches.Given as goal

abbrev pub invariant-rules : goal.invariant-rules
invariant-rules l = AddsBreaches l.facts (sites (take l.rule-index l.rules) (closure_in l.facts).all) [] l.found.items
