use Rattle.std.proofs.Common.{◌≡◌, ◌∙◌, ap, sym, subst}
use Rattle.ttl_levels.specs.NestTables.{AreCounts, NestTable}
use Rattle.ttl_levels.proofs.LevelLaws.{count_told}
use Rattle.ttl_levels.proofs.nests.Nests.cells.Goals as goal

pub returns : goal.returns
returns c = λ g is table.
    let same : c.args.self.now.cells ≡ c.deref.result.now = ap (λ (t : NestTable). t.cells) (sym c.self.view_is) ∙ sym c.deref.ensures.value in
    count_told g c.deref.result.now c.args.term.now c.value_of.result (subst (AreCounts g) same table.cells) (c.value_of.ensures g is)
