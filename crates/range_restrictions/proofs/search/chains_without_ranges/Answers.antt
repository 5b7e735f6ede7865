use Rattle.std.proofs.Common.{◌≡◌, false, List, Bool, ℕ, length, map, sym, ap, ◌∙◌, subst}
use Rattle.std.specs.Prelude.{replicate}
use Rattle.std.proofs.lemmas.List.{length-map}
use Rattle.graph_walks.specs.Marks.{MarkEach}
use Rattle.owl_arena.specs.Held.{tree_at, trees_at}
use Rattle.owl_tree.specs.Trees.{Tree}
use Rattle.range_restrictions.specs.Found.{spread}
use Rattle.range_restrictions.specs.Restrictions.{LacksRangeBy}
use Rattle.range_restrictions.specs.Statements.{is_chain}
use Rattle.range_restrictions.proofs.Lacking.{lacking_along, marks_of_axioms, none_lacks}
use Rattle.range_restrictions.proofs.search.chains_without_ranges.Goals as goal

pub returns-then-lacks_none : goal.returns-then-lacks_none
returns-then-lacks_none c =
    let ts = c.args.arena.now.trees in
    let axs = trees_at ts c.args.axioms.now in
    let many : length axs ≡ length c.args.axioms.now = length-map c.args.axioms.now (tree_at ts) in
    let made : c.in_ok-vec.field-0.items ≡ replicate (length c.args.axioms.now) false = c.in_ok-vec.ensures.items_if_clones_equal (λ y e. e) in
    subst (λ (marks : List Bool). MarkEach (λ (place : ℕ) (t : Tree). LacksRangeBy axs t) axs marks) (sym (made ∙ ap (λ (n : ℕ). replicate n false) (sym many)))
    (none_lacks ts axs c.in_ok-found.found c.in_ok-found.ensures (c.lacks_none.ensures.0 c.if-lacks_none.true))

pub returns : goal.returns
returns c =
    let ts = c.args.arena.now.trees in
    let axs = trees_at ts c.args.axioms.now in
    let found = c.in_ok-found.found in
    let marks = c.in_ok-marks.marks.items in
    let each =
    lacking_along c.deref.result.now found.steps.items c.deref-2.result.now found.ranges.items c.deref-3.result.now found.chains.items marks
    c.deref.ensures.value c.deref-2.ensures.value c.deref-3.ensures.value c.in_ok-marks.ensures in
    let made : c.in_ok-axiom_marks.field-0.items ≡ spread (map is_chain axs) marks = c.in_ok-axiom_marks.ensures ∙ ap (spread (map is_chain axs)) c.deref-4.ensures.value in
    subst (λ (all : List Bool). MarkEach (λ (place : ℕ) (t : Tree). LacksRangeBy axs t) axs all) (sym made)
    (marks_of_axioms ts c.distinct-nodes.ensures.shared.one_number axs found c.in_ok-found.ensures marks each)
