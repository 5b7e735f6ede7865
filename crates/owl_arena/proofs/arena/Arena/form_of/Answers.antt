use Rattle.std.proofs.Common.{◌+◌, ℕ, List, refl, ap, ◌∙◌, rules, arith}
use Rattle.owl_tree.specs.Trees.{kids_of, most_depth, sum_weight}
use Rattle.owl_arena.specs.Held.{Held, trees_at}
use Rattle.owl_arena.proofs.Outcomes.{form_in, is_entry, is_too_deep, is_too_heavy, is_within, not_shaped}
use Rattle.owl_arena.proofs.arena.Arena.form_of.Goals as goal

pub returns-then-not-fits-clause-bad_shape : goal.returns-then-not-fits-clause-bad_shape
returns-then-not-fits-clause-bad_shape c = λ _. not_shaped _ _ _ _ c.deref.ensures.value (λ fits. let test = c.fits.ensures.1 fits in cc)

pub returns-then-depth-gt-DEEPEST-clause-too_deep : goal.returns-then-depth-gt-DEEPEST-clause-too_deep
returns-then-depth-gt-DEEPEST-clause-too_deep c =
    let form = form_in _ _ _ _ _ _ (ap (λ (held : Held). held.trees) c.self.view_is) c.self.invariant.shared c.requires c.deref.ensures.value (c.fits.ensures.0 (search rules)) c.arrange.ensures.arranged in
    let depth = c.depth_over-depth.ensures ∙ ap (λ (ids : List ℕ). most_depth (kids_of (trees_at c.args.self.now.trees ids)) + 1) c.deref-2.ensures.value in
    λ _. is_too_deep _ _ form (omega arith)

pub returns-in-Some-clause-form : goal.returns-in-Some-clause-form
returns-in-Some-clause-form c =
    let form = form_in _ _ _ _ _ _ (ap (λ (held : Held). held.trees) c.self.view_is) c.self.invariant.shared c.requires c.deref.ensures.value (c.fits.ensures.0 (search rules)) c.arrange.ensures.arranged in
    form.is_form

pub returns-in-Some-clause-entry : goal.returns-in-Some-clause-entry
returns-in-Some-clause-entry c =
    let form = form_in _ _ _ _ _ _ (ap (λ (held : Held). held.trees) c.self.view_is) c.self.invariant.shared c.requires c.deref.ensures.value (c.fits.ensures.0 (search rules)) c.arrange.ensures.arranged in
    let depth = c.depth_over-depth.ensures ∙ ap (λ (ids : List ℕ). most_depth (kids_of (trees_at c.args.self.now.trees ids)) + 1) c.deref-2.ensures.value in
    let weight = c.in-Some.ensures.some ∙ ap (λ (ids : List ℕ). sum_weight (kids_of (trees_at c.args.self.now.trees ids)) + 1) c.deref-3.ensures.value in
    let few = c.in-Some.ensures.few in
    is_entry _ _ form (omega arith) (omega arith)

pub returns-in-Some-clause-within : goal.returns-in-Some-clause-within
returns-in-Some-clause-within c =
    let form = form_in _ _ _ _ _ _ (ap (λ (held : Held). held.trees) c.self.view_is) c.self.invariant.shared c.requires c.deref.ensures.value (c.fits.ensures.0 (search rules)) c.arrange.ensures.arranged in
    let depth = c.depth_over-depth.ensures ∙ ap (λ (ids : List ℕ). most_depth (kids_of (trees_at c.args.self.now.trees ids)) + 1) c.deref-2.ensures.value in
    let weight = c.in-Some.ensures.some ∙ ap (λ (ids : List ℕ). sum_weight (kids_of (trees_at c.args.self.now.trees ids)) + 1) c.deref-3.ensures.value in
    let few = c.in-Some.ensures.few in
    is_within _ _ form (omega arith) (omega arith)

pub returns-in-None-clause-too_heavy : goal.returns-in-None-clause-too_heavy
returns-in-None-clause-too_heavy c =
    let form = form_in _ _ _ _ _ _ (ap (λ (held : Held). held.trees) c.self.view_is) c.self.invariant.shared c.requires c.deref.ensures.value (c.fits.ensures.0 (search rules)) c.arrange.ensures.arranged in
    let depth = c.depth_over-depth.ensures ∙ ap (λ (ids : List ℕ). most_depth (kids_of (trees_at c.args.self.now.trees ids)) + 1) c.deref-2.ensures.value in
    let weight = ap (λ (ids : List ℕ). sum_weight (kids_of (trees_at c.args.self.now.trees ids)) + 1) c.deref-3.ensures.value in
    let many = c.in-None.ensures.none refl in
    λ _. is_too_heavy _ _ form (omega arith) (omega arith)
