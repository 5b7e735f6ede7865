use Rattle.std.proofs.Common.{rules, sym, ap, ◌∙◌}
use Rattle.profile_sorts.specs.Sets.{has, known_at}
use Rattle.profile_sorts.proofs.FormLaws.{misplaced, placed}
use Rattle.profile_sorts.proofs.forms.have.Goals as goal

pub returns-then-not-has : goal.returns-then-not-has
returns-then-not-has c =
    let told = ap (λ s. has s c.sort_at.result) (sym c.set_at.ensures) ∙ sym c.has.ensures ∙ c.if-not-has.true in
    sym (c.kids.invariant ∙ misplaced c.args.front.now c.args.rest (known_at c.args.sets.now) c.args.kids.now c.kids.place _ c.sort_at.result c.kids-test.true (search rules) c.sort_at.ensures told)

pub kids-preserved : goal.kids-preserved
kids-preserved c =
    let told = ap (λ s. has s c.sort_at.result) (sym c.set_at.ensures) ∙ sym c.has.ensures ∙ c.if-not-has.false in
    c.kids.invariant ∙ placed c.args.front.now c.args.rest (known_at c.args.sets.now) c.args.kids.now c.kids.place _ c.sort_at.result c.kids-test.true (search rules) c.sort_at.ensures told
