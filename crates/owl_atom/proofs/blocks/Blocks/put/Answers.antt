use Rattle.std.proofs.Common.{◌≡◌, ◌+◌, length, sym, ap, ◌∙◌, subst, arith}
use Rattle.std.proofs.lemmas.Grind.{common_steps}
use Rattle.std.specs.Prelude.{if◌then◌else◌}
use Rattle.owl_atom.specs.Blocks.{flat}
use Rattle.owl_atom.specs.Prefixes.{AreAscending}
use Rattle.owl_atom.specs.PrefixLaws.{SetsOnly}
use Rattle.owl_atom.proofs.PrefixBlocks.{puts_only, still_blocks}
use Rattle.owl_atom.proofs.blocks.Blocks.put.Goals as goal

pub invariant_of-self-then-branch : goal.invariant_of-self-then-branch
invariant_of-self-then-branch c =
    let up = subst AreAscending (sym c.room_for.ensures.same) c.self.invariant.ascending in
    let one : c.in_ok-len.len ≡ c.self.inside.len + 1 = grind (arith, common_steps) in
    still_blocks c.in_ok-put_into.field-0 c.room_for.new.blocks.items c.put_into.new.blocks.items c.args.prefix c.self.inside.len c.in_ok-len.len c.in_ok-put_into.ensures.filled up c.in_ok-put_into.ensures.puts
    (c.self.invariant.count ∙ ap length (sym c.room_for.ensures.same)) (one ∙ ap (λ b. c.self.inside.len + (if b then 1 else 0)) (sym c.if-branch.true))

pub invariant_of-self-else-branch : goal.invariant_of-self-else-branch
invariant_of-self-else-branch c =
    let up = subst AreAscending (sym c.room_for.ensures.same) c.self.invariant.ascending in
    let none : c.self.inside.len ≡ c.self.inside.len + 0 = omega arith in
    still_blocks c.in_ok-put_into.field-0 c.room_for.new.blocks.items c.put_into.new.blocks.items c.args.prefix c.self.inside.len c.self.inside.len c.in_ok-put_into.ensures.filled up c.in_ok-put_into.ensures.puts
    (c.self.invariant.count ∙ ap length (sym c.room_for.ensures.same)) (none ∙ ap (λ b. c.self.inside.len + (if b then 1 else 0)) (sym c.if-branch.false))

pub returns-then-branch-clause-ok : goal.returns-then-branch-clause-ok
returns-then-branch-clause-ok c =
    let up = subst AreAscending (sym c.room_for.ensures.same) c.self.invariant.ascending in
    subst (λ old. SetsOnly old (flat c.put_into.new.blocks.items) c.args.prefix.name c.args.prefix) (c.room_for.ensures.same ∙ c.self.view_is)
    (puts_only c.in_ok-put_into.field-0 (flat c.room_for.new.blocks.items) (flat c.put_into.new.blocks.items) c.args.prefix up c.in_ok-put_into.ensures.puts)

pub returns-else-branch-clause-ok : goal.returns-else-branch-clause-ok
returns-else-branch-clause-ok c =
    let up = subst AreAscending (sym c.room_for.ensures.same) c.self.invariant.ascending in
    subst (λ old. SetsOnly old (flat c.put_into.new.blocks.items) c.args.prefix.name c.args.prefix) (c.room_for.ensures.same ∙ c.self.view_is)
    (puts_only c.in_ok-put_into.field-0 (flat c.room_for.new.blocks.items) (flat c.put_into.new.blocks.items) c.args.prefix up c.in_ok-put_into.ensures.puts)
