use Rattle.std.proofs.Common.{◌≡◌, ◌++◌, codes, take}
use Rattle.std.specs.List.{flat_map}
use Rattle.owl_messages.specs.VerdictLines.{found_line}
use Rattle.owl_messages.proofs.verdicts.add_breaches.Given as goal

-- the lines so far
abbrev pub invariant-found : goal.invariant-found
invariant-found l = l.draft ≡ (l.fn.draft ++ codes "no\n") ++ flat_map (found_line l.closure.documents l.places) (take l.breach-index l.found)
