use Rattle.std.proofs.Common.{◌≡◌, ◌∙◌, ap, sym, subst}
use Rattle.ttl_levels.specs.NestTables.{AreLevels, NestTable}
use Rattle.ttl_levels.proofs.LevelLaws.{level_told, nested_is, not_nested_by_none}
use Rattle.ttl_levels.proofs.nests.Nests.is_nested.Goals as goal

pub returns-then-level-eq0 : goal.returns-then-level-eq0
returns-then-level-eq0 c = λ g is table.
    let same : c.args.self.now.levels ≡ c.deref.result.now = ap (λ (t : NestTable). t.levels) (sym c.self.view_is) ∙ sym c.deref.ensures.value in
    let level = level_told g c.deref.result.now c.args.term.now c.value_of-level.result (subst (AreLevels g) same table.levels) (c.value_of-level.ensures g is) in
    (λ e. cc, λ nested. absurd (not_nested_by_none g c.args.term.now c.value_of-level.result level c.if-level-eq0.true nested))

pub returns : goal.returns
returns c = λ g is table.
    let same : c.args.self.now.levels ≡ c.deref.result.now = ap (λ (t : NestTable). t.levels) (sym c.self.view_is) ∙ sym c.deref.ensures.value in
    let level = level_told g c.deref.result.now c.args.term.now c.value_of-level.result (subst (AreLevels g) same table.levels) (c.value_of-level.ensures g is) in
    nested_is g c.args.term.now c.value_of-level.result level c.if-level-eq0.false
