use Rattle.std.proofs.Common.{◌≡◌, ◌<◌, ◌++◌, ℕ, List, take, drop, suc, Option, Err, IfOk, OnOk, IsErrOf, arith, sym, ap, ◌∙◌, subst}
use Rattle.std.specs.Prelude.{[], ◌∷◌}
use Rattle.std.specs.List.{flat_map}
use Rattle.std.specs.Option.{option_to_list}
use Rattle.std.proofs.lemmas.List.{append-nil}
use Rattle.owl_arena.specs.Held.{tree_at}
use Rattle.owl_tree.specs.declared.tag.Tag.{Tag}
use Rattle.owl_tree.specs.Rows.{row_of}
use Rattle.fss_write.specs.Text.{leaf_text}
use Rattle.owl_writing.specs.declared.fault.WriteFault.TheVariants.{TooLong}
use Rattle.owl_writing.specs.Limits.{IsTooLong}
use Rattle.fss_write.specs.Parts.{behind, has_parts, kids_parts_at, parts_at, spacing}
use Rattle.written_trees.specs.Written.{repeated}
use Rattle.owl_writing.proofs.DraftLaws.{joined2, passed_on, taken_one}
use Rattle.fss_write.proofs.PartTexts.{AreAdded, added_all, added_one, added_too_long, around, kids_at, last_some, last_text, last_too_long, leaf_parts, one_behind, other_parts}
use Rattle.written_trees.proofs.RepeatedLaws.{repeated_kept}
use Rattle.fss_write.proofs.tree.+tree.Goals as goal

pub add_kids-returns-in_err-after_part-clause-too_long : goal.add_kids-returns-in_err-after_part-clause-too_long
add_kids-returns-in_err-after_part-clause-too_long t c = λ e.
    let pieces : ℕ → List (List ℕ) = parts_at c.args.prefixes.now c.args.arena.now.trees c.tag-tag.result in
    let ids = c.kids-kids.result.now in
    let i = c.loop-kid.kid-index in
    let again : List ℕ = option_to_list (repeated (row_of c.tag-tag.result) ids) in
    let found = passed_on c.from_residual.result c.in_err-after_part.field-0.0 TooLong c.from_residual.ensures.1 e in
    let long = added_too_long pieces c.args.draft.now c.args.after_part (take i ids) c.loop-kid.draft c.loop-kid.after_part c.kid-item.result (drop (suc i) ids ++ again) c.loop-kid.invariant (c.in_err-after_part.ensures.too_long (ap Err found)) in
    let whole = around ids i c.kid-item.result again c.loop-kid-test.true c.kid-item.is in
    let all = kids_at c.args.prefixes.now c.args.arena.now.trees c.args.id c.tag-tag.result ids c.tag-tag.ensures c.kids-kids.ensures.kids in
    subst (λ (parts : List (List ℕ)). IsTooLong (c.args.draft.now ++ behind c.args.after_part parts)) (ap (flat_map pieces) whole ∙ sym all) long

pub add_kids-loop-kid-preserved : goal.add_kids-loop-kid-preserved
add_kids-loop-kid-preserved t c =
    let pieces : ℕ → List (List ℕ) = parts_at c.args.prefixes.now c.args.arena.now.trees c.tag-tag.result in
    let ids = c.kids-kids.result.now in
    let i = c.loop-kid.kid-index in
    let next = added_one pieces c.args.draft.now c.args.after_part (take i ids) c.loop-kid.draft c.loop-kid.after_part c.kid-item.result c.add_parts.new.draft c.in_ok-after_part.after_part c.loop-kid.invariant c.in_ok-after_part.ensures.ok c.in_ok-after_part.ensures.some in
    subst (λ (xs : List ℕ). AreAdded pieces c.args.draft.now c.args.after_part xs c.add_parts.new.draft c.in_ok-after_part.after_part) (sym (taken_one ids i c.kid-item.result c.loop-kid-test.true c.kid-item.is)) next

pub add_kids-add_parts-requires-in-Some : goal.add_kids-add_parts-requires-in-Some
add_kids-add_parts-requires-in-Some t c =
    let below : c.in-Some.kid < c.args.id = repeated_kept (λ (kid : ℕ). kid < c.args.id) (row_of c.tag-tag.result) c.kids-kids.result.now c.in-Some.kid (sym c.repeated.ensures ∙ c.in-Some.is) c.kids-kids.ensures.below in
    (omega (arith, below), omega (arith, below))

pub add_parts-returns-in_ok-add_leaf-in-Some-clause-ok : goal.add_parts-returns-in_ok-add_leaf-in-Some-clause-ok
add_parts-returns-in_ok-add_leaf-in-Some-clause-ok t c =
    let tree = tree_at c.args.arena.now.trees c.args.id in
    let text = leaf_text c.args.prefixes.now c.args.within c.tag-tag.result c.in-Some.atom.now in
    let root = leaf_parts c.args.prefixes.now c.args.within tree c.in-Some.atom.now (sym c.in-Some.ensures.atom) in
    let parts : text ∷ [] ≡ parts_at c.args.prefixes.now c.args.arena.now.trees c.args.within c.args.id =
    ap (λ (u : Tag). leaf_text c.args.prefixes.now c.args.within u c.in-Some.atom.now ∷ []) c.tag-tag.ensures ∙ sym root in
    joined2 c.args.draft.now (spacing c.args.after_part) text c.add_space.new.draft c.add_leaf.new.draft c.in_ok-add_space-in-Some.ensures.ok c.in_ok-add_leaf-in-Some.ensures.ok
    ∙ ap (λ (x : List ℕ). c.args.draft.now ++ x) (sym (one_behind c.args.after_part text) ∙ ap (behind c.args.after_part) parts)

pub add_parts-returns-in-None-clause-some : goal.add_parts-returns-in-None-clause-some
add_parts-returns-in-None-clause-some t c =
    let parts = other_parts c.args.prefixes.now c.args.within (tree_at c.args.arena.now.trees c.args.id) (sym c.in-None.ensures.atom) in
    subst (λ (xs : List (List ℕ)). IfOk c.add_node_parts.result (λ some. some ≡ has_parts c.args.after_part xs)) (sym parts) c.add_node_parts.ensures.some

pub add_parts-returns-in-None-clause-ok : goal.add_parts-returns-in-None-clause-ok
add_parts-returns-in-None-clause-ok t c =
    let parts = other_parts c.args.prefixes.now c.args.within (tree_at c.args.arena.now.trees c.args.id) (sym c.in-None.ensures.atom) in
    subst (λ (xs : List (List ℕ)). OnOk c.add_node_parts.result (c.add_node_parts.new.draft ≡ c.args.draft.now ++ behind c.args.after_part xs)) (sym parts) c.add_node_parts.ensures.ok

pub add_parts-returns-in-None-clause-too_long : goal.add_parts-returns-in-None-clause-too_long
add_parts-returns-in-None-clause-too_long t c =
    let parts = other_parts c.args.prefixes.now c.args.within (tree_at c.args.arena.now.trees c.args.id) (sym c.in-None.ensures.atom) in
    subst (λ (xs : List (List ℕ)). IsErrOf c.add_node_parts.result TooLong → IsTooLong (c.args.draft.now ++ behind c.args.after_part xs)) (sym parts) c.add_node_parts.ensures.too_long

-- the parts of all kids, with the one that stands twice
twice : (t : ℕ) (c : goal.add_kids-After-add_parts-in-Some t) → flat_map (parts_at c.args.prefixes.now c.args.arena.now.trees c.tag-tag.result) (c.kids-kids.result.now ++ c.in-Some.kid ∷ []) ≡ kids_parts_at c.args.prefixes.now c.args.arena.now.trees c.args.id
twice t c =
    let pieces : ℕ → List (List ℕ) = parts_at c.args.prefixes.now c.args.arena.now.trees c.tag-tag.result in
    let ids = c.kids-kids.result.now in
    let all = kids_at c.args.prefixes.now c.args.arena.now.trees c.args.id c.tag-tag.result ids c.tag-tag.ensures c.kids-kids.ensures.kids in
    sym (all ∙ ap (λ (o : Option ℕ). flat_map pieces (ids ++ option_to_list o)) (sym c.repeated.ensures ∙ c.in-Some.is))

pub add_kids-returns-in-Some-clause-some : goal.add_kids-returns-in-Some-clause-some
add_kids-returns-in-Some-clause-some t c =
    let pieces : ℕ → List (List ℕ) = parts_at c.args.prefixes.now c.args.arena.now.trees c.tag-tag.result in
    let ids = c.kids-kids.result.now in
    let done = added_all pieces c.args.draft.now c.args.after_part ids c.loop-kid.kid-index c.loop-kid.draft c.loop-kid.after_part c.loop-kid.invariant c.loop-kid-test.false in
    subst (λ (xs : List (List ℕ)). IfOk c.add_parts-in-Some.result (λ some. some ≡ has_parts c.args.after_part xs)) (twice t c)
    (last_some pieces c.args.draft.now c.args.after_part c.add_parts-in-Some.result ids c.loop-kid.draft c.loop-kid.after_part c.in-Some.kid done c.add_parts-in-Some.ensures.some)

pub add_kids-returns-in-Some-clause-ok : goal.add_kids-returns-in-Some-clause-ok
add_kids-returns-in-Some-clause-ok t c =
    let pieces : ℕ → List (List ℕ) = parts_at c.args.prefixes.now c.args.arena.now.trees c.tag-tag.result in
    let ids = c.kids-kids.result.now in
    let done = added_all pieces c.args.draft.now c.args.after_part ids c.loop-kid.kid-index c.loop-kid.draft c.loop-kid.after_part c.loop-kid.invariant c.loop-kid-test.false in
    subst (λ (xs : List (List ℕ)). OnOk c.add_parts-in-Some.result (c.add_parts-in-Some.new.draft ≡ c.args.draft.now ++ behind c.args.after_part xs)) (twice t c)
    (last_text pieces c.args.draft.now c.args.after_part c.add_parts-in-Some.result ids c.loop-kid.draft c.loop-kid.after_part c.in-Some.kid c.add_parts-in-Some.new.draft done c.add_parts-in-Some.ensures.ok)

pub add_kids-returns-in-Some-clause-too_long : goal.add_kids-returns-in-Some-clause-too_long
add_kids-returns-in-Some-clause-too_long t c = λ e.
    let pieces : ℕ → List (List ℕ) = parts_at c.args.prefixes.now c.args.arena.now.trees c.tag-tag.result in
    let ids = c.kids-kids.result.now in
    let done = added_all pieces c.args.draft.now c.args.after_part ids c.loop-kid.kid-index c.loop-kid.draft c.loop-kid.after_part c.loop-kid.invariant c.loop-kid-test.false in
    subst (λ (xs : List (List ℕ)). IsTooLong (c.args.draft.now ++ behind c.args.after_part xs)) (twice t c)
    (last_too_long pieces c.args.draft.now c.args.after_part ids c.loop-kid.draft c.loop-kid.after_part c.in-Some.kid done (c.add_parts-in-Some.ensures.too_long e))

once : (t : ℕ) (c : goal.add_kids-In-None t) → flat_map (parts_at c.args.prefixes.now c.args.arena.now.trees c.tag-tag.result) c.kids-kids.result.now ≡ kids_parts_at c.args.prefixes.now c.args.arena.now.trees c.args.id
once t c =
    let pieces : ℕ → List (List ℕ) = parts_at c.args.prefixes.now c.args.arena.now.trees c.tag-tag.result in
    let ids = c.kids-kids.result.now in
    let all = kids_at c.args.prefixes.now c.args.arena.now.trees c.args.id c.tag-tag.result ids c.tag-tag.ensures c.kids-kids.ensures.kids in
    sym (all ∙ ap (λ (o : Option ℕ). flat_map pieces (ids ++ option_to_list o)) (sym c.repeated.ensures ∙ c.in-None.is) ∙ ap (flat_map pieces) (append-nil ids))

pub add_kids-returns-in-None-clause-some : goal.add_kids-returns-in-None-clause-some
add_kids-returns-in-None-clause-some t c =
    let pieces : ℕ → List (List ℕ) = parts_at c.args.prefixes.now c.args.arena.now.trees c.tag-tag.result in
    let done = added_all pieces c.args.draft.now c.args.after_part c.kids-kids.result.now c.loop-kid.kid-index c.loop-kid.draft c.loop-kid.after_part c.loop-kid.invariant c.loop-kid-test.false in
    done.some ∙ ap (has_parts c.args.after_part) (once t c)

pub add_kids-returns-in-None-clause-ok : goal.add_kids-returns-in-None-clause-ok
add_kids-returns-in-None-clause-ok t c =
    let pieces : ℕ → List (List ℕ) = parts_at c.args.prefixes.now c.args.arena.now.trees c.tag-tag.result in
    let done = added_all pieces c.args.draft.now c.args.after_part c.kids-kids.result.now c.loop-kid.kid-index c.loop-kid.draft c.loop-kid.after_part c.loop-kid.invariant c.loop-kid-test.false in
    done.text ∙ ap (λ (xs : List (List ℕ)). c.args.draft.now ++ behind c.args.after_part xs) (once t c)
