use Rattle.std.proofs.Common.{take}
use Rattle.owl_breaches.specs.Sites.{sites_from}
use Rattle.owl_profiles.specs.Facts.{AddsBreaches, closure_in}
use Rattle.owl_profiles.proofs.listing.add_rule.Given as goal

abbrev pub invariant-places : goal.invariant-places
invariant-places l = AddsBreaches l.facts (sites_from l.rule 0 (take l.place (closure_in l.facts).all)) l.fn.found.items l.found.items
