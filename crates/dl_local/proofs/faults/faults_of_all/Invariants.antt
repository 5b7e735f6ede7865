use Rattle.std.proofs.Common.{◌≡◌, take}
use Rattle.std.specs.List.{list_any}
use Rattle.dl_local.specs.declared.faults.Local.{Local}
use Rattle.dl_local.specs.Faults.{faults_of, has}
use Rattle.dl_local.proofs.faults.faults_of_all.Given as goal

abbrev pub invariant-ids : goal.invariant-ids
invariant-ids l = (test : Local) → has l.faults test ≡ list_any (λ id. has (faults_of l.found id) test) (take l.id-index l.ids)
