use Rattle.std.proofs.Common.{Err, ap, List, ℕ, ◌++◌, subst, sym, ◌∙◌}
use Rattle.std.specs.List.{flat_map}
use Rattle.std.proofs.lemmas.List.{take_all}
use Rattle.man_resolve.specs.Expressions.{knows}
use Rattle.owl_arena.specs.Held.{tree_at}
use Rattle.owl_writing.specs.Limits.{IsTooLong}
use Rattle.owl_writing.specs.declared.fault.WriteFault.TheVariants.{TooLong}
use Rattle.owl_writing.proofs.DraftLaws.{flat_of_map, too_long_at, passed_on}
use Rattle.man_write.specs.Plans.{block_of_text}
use Rattle.man_write.proofs.lines.add_blocks.Goals as goal

pub returns-in_err-add_block-clause-too_long : goal.returns-in_err-add_block-clause-too_long
returns-in_err-add_block-clause-too_long c = λ e.
    let line : ℕ → List ℕ = λ id. block_of_text (knows c.args.kinds.now) c.args.prefixes.now (tree_at c.args.arena.now.trees id) in
    let found = passed_on c.from_residual.result c.in_err-add_block.field-0.0 TooLong c.from_residual.ensures.1 e in
    let long = too_long_at line c.args.draft.now c.loop-id.draft c.args.ids.now c.loop-id.id-index c.id-item.result c.loop-id.invariant c.loop-id-test.true c.id-item.is (c.in_err-add_block.ensures.too_long (ap Err found)) in
    subst (λ (text : List ℕ). IsTooLong (c.args.draft.now ++ text)) (sym (flat_of_map (tree_at c.args.arena.now.trees) (block_of_text (knows c.args.kinds.now) c.args.prefixes.now) c.args.ids.now)) long

pub returns-clause-ok : goal.returns-clause-ok
returns-clause-ok c =
    let line : ℕ → List ℕ = λ id. block_of_text (knows c.args.kinds.now) c.args.prefixes.now (tree_at c.args.arena.now.trees id) in
    c.loop-id.invariant
    ∙ ap (λ (ids : List ℕ). c.args.draft.now ++ flat_map line ids) (take_all c.loop-id.id-index c.args.ids.now c.loop-id-test.false)
    ∙ ap (λ (text : List ℕ). c.args.draft.now ++ text) (sym (flat_of_map (tree_at c.args.arena.now.trees) (block_of_text (knows c.args.kinds.now) c.args.prefixes.now) c.args.ids.now))
