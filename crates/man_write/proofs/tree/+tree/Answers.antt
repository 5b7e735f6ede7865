use Rattle.std.proofs.Common.{◌≡◌, ◌++◌, ◌≤◌, ℕ, List, Err, OnOk, IsErrOf, length, sym, ap, ◌∙◌, subst, arith}
use Rattle.owl_arena.specs.Held.{tree_at}
use Rattle.man_text.specs.Undecided.{form_of, is_counted}
use Rattle.owl_writing.proofs.DraftLaws.{passed_on}
use Rattle.owl_writing.specs.Limits.{IsTooLong}
use Rattle.owl_writing.specs.declared.fault.WriteFault.TheVariants.{TooLong}
use Rattle.man_write.specs.Parts.{ids_in, joined_from, operand_at, turned_if, words_seen}
use Rattle.man_write.proofs.JoinedLaws.{joined_all, joined_more, joined_too_long}
use Rattle.man_write.proofs.ListedLaws.{turned_length}
use Rattle.man_write.proofs.PieceLaws.{node_said, operand_bracketed, operand_plain, operands_are}
use Rattle.man_write.proofs.tree.+tree.Goals as goal

pub add_operand-returns-then-is_operand_bracketed-clause-ok : goal.add_operand-returns-then-is_operand_bracketed-clause-ok
add_operand-returns-then-is_operand_bracketed-clause-ok t c =
    let is = operand_bracketed c.args.prefixes.now (tree_at c.args.arena.now.trees c.args.id) (sym c.is_operand_bracketed.ensures ∙ c.if-is_operand_bracketed.true) in
    subst (λ (x : List ℕ). OnOk c.add_bracketed.result (c.add_bracketed.new.draft ≡ c.args.draft.now ++ x)) (sym is) c.add_bracketed.ensures.ok

pub add_operand-returns-then-is_operand_bracketed-clause-too_long : goal.add_operand-returns-then-is_operand_bracketed-clause-too_long
add_operand-returns-then-is_operand_bracketed-clause-too_long t c =
    let is = operand_bracketed c.args.prefixes.now (tree_at c.args.arena.now.trees c.args.id) (sym c.is_operand_bracketed.ensures ∙ c.if-is_operand_bracketed.true) in
    subst (λ (x : List ℕ). IsErrOf c.add_bracketed.result TooLong → IsTooLong (c.args.draft.now ++ x)) (sym is) c.add_bracketed.ensures.too_long

pub add_operand-returns-else-is_operand_bracketed-clause-ok : goal.add_operand-returns-else-is_operand_bracketed-clause-ok
add_operand-returns-else-is_operand_bracketed-clause-ok t c =
    let is = operand_plain c.args.prefixes.now (tree_at c.args.arena.now.trees c.args.id) (sym c.is_operand_bracketed.ensures ∙ c.if-is_operand_bracketed.false) in
    subst (λ (x : List ℕ). OnOk c.add_tree.result (c.add_tree.new.draft ≡ c.args.draft.now ++ x)) (sym is) c.add_tree.ensures.ok

pub add_operand-returns-else-is_operand_bracketed-clause-too_long : goal.add_operand-returns-else-is_operand_bracketed-clause-too_long
add_operand-returns-else-is_operand_bracketed-clause-too_long t c =
    let is = operand_plain c.args.prefixes.now (tree_at c.args.arena.now.trees c.args.id) (sym c.is_operand_bracketed.ensures ∙ c.if-is_operand_bracketed.false) in
    subst (λ (x : List ℕ). IsErrOf c.add_tree.result TooLong → IsTooLong (c.args.draft.now ++ x)) (sym is) c.add_tree.ensures.too_long

pub add_tree-returns-in-None-clause-ok : goal.add_tree-returns-in-None-clause-ok
add_tree-returns-in-None-clause-ok t c =
    let is = node_said c.args.prefixes.now (tree_at c.args.arena.now.trees c.args.id) (sym c.in-None.ensures.atom) in
    subst (λ (x : List ℕ). OnOk c.add_node.result (c.add_node.new.draft ≡ c.args.draft.now ++ x)) (sym is) c.add_node.ensures.ok

pub add_tree-returns-in-None-clause-too_long : goal.add_tree-returns-in-None-clause-too_long
add_tree-returns-in-None-clause-too_long t c =
    let is = node_said c.args.prefixes.now (tree_at c.args.arena.now.trees c.args.id) (sym c.in-None.ensures.atom) in
    subst (λ (x : List ℕ). IsErrOf c.add_node.result TooLong → IsTooLong (c.args.draft.now ++ x)) (sym is) c.add_node.ensures.too_long

pub add_operands-loop-place-preserved : goal.add_operands-loop-place-preserved
add_operands-loop-place-preserved t c =
    joined_more (words_seen c.args.words) (operand_at c.args.prefixes.now c.args.arena.now.trees) c.args.draft.now (turned_if c.is_counted-counted.result (ids_in c.written-list.result)) c.loop-place.place c.turned_at.result c.loop-place.draft c.add_part.new.draft c.loop-place.invariant c.turned_at.ensures c.in_ok-add_part.ensures.ok

pub add_operands-returns-in_err-add_part-clause-too_long : goal.add_operands-returns-in_err-add_part-clause-too_long
add_operands-returns-in_err-add_part-clause-too_long t c = λ e.
    let p = c.args.prefixes.now in
    let trees = c.args.arena.now.trees in
    let ids = ids_in c.written-list.result in
    let found = passed_on c.from_residual.result c.in_err-add_part.field-0.0 TooLong c.from_residual.ensures.1 e in
    let long = joined_too_long (words_seen c.args.words) (operand_at p trees) c.args.draft.now (turned_if c.is_counted-counted.result ids) c.loop-place.place c.turned_at.result c.loop-place.draft c.loop-place.invariant c.turned_at.ensures (c.in_err-add_part.ensures.too_long (ap Err found)) in
    let are = operands_are p trees c.args.id c.is_counted-counted.result ids (c.is_counted-counted.ensures ∙ ap is_counted (c.form_of.ensures ∙ ap form_of c.tag.ensures)) c.written-list.ensures.kids in
    subst (λ (ts : List (List ℕ)). IsTooLong (c.args.draft.now ++ joined_from (words_seen c.args.words) 0 ts)) are long

pub add_operands-returns-clause-ok : goal.add_operands-returns-clause-ok
add_operands-returns-clause-ok t c =
    let p = c.args.prefixes.now in
    let trees = c.args.arena.now.trees in
    let ids = ids_in c.written-list.result in
    let b = c.is_counted-counted.result in
    let past : length (turned_if b ids) ≤ c.loop-place.place = omega (arith, turned_length b ids, c.len-place-end.ensures, c.loop-place-test.false) in
    let all = joined_all (words_seen c.args.words) (operand_at p trees) c.args.draft.now (turned_if b ids) c.loop-place.place c.loop-place.draft c.loop-place.invariant past in
    all ∙ ap (λ (ts : List (List ℕ)). c.args.draft.now ++ joined_from (words_seen c.args.words) 0 ts) (operands_are p trees c.args.id b ids (c.is_counted-counted.ensures ∙ ap is_counted (c.form_of.ensures ∙ ap form_of c.tag.ensures)) c.written-list.ensures.kids)
