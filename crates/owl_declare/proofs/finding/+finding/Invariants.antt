use Rattle.std.proofs.Common.{◌+◌, ◌*◌, take}
use Rattle.owl_doc.proofs.SameTrees.{above}
use Rattle.owl_doc.specs.Entities.{entities_at}
use Rattle.owl_declare.specs.Finding.{Finds}
use Rattle.owl_declare.proofs.finding.+finding.Given as goal

abbrev pub decreases-find_all : goal.decreases-find_all
decreases-find_all l = 2 * above l.ids.now

abbrev pub decreases-find_in : goal.decreases-find_in
decreases-find_in l = 2 * l.id + 1

abbrev pub invariant-find_all-ids : goal.invariant-find_all-ids
invariant-find_all-ids l = Finds l.kinds (entities_at l.arena.trees (take l.id-index l.ids)) l.fn.found l.found
