use Rattle.std.proofs.Common.{take}
use Rattle.rdf_normal.specs.Makings.{IsParted}
use Rattle.rdf_normal.specs.NormalForms.{is_about}
use Rattle.rdf_normal.proofs.own.part.Given as goal

abbrev pub invariant-ids : goal.invariant-ids
invariant-ids l = IsParted l.arena.trees (is_about l.name) (take l.id-index l.ids) (record { own = l.own; others = l.others })
