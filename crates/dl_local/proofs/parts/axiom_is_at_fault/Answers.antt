use Rattle.std.proofs.Common.{arith, rules, true, ◌≡◌, ◌↔◌, sym, ap, ◌∙◌, subst}
use Rattle.owl_arena.proofs.HeldLaws.{below_later}
use Rattle.owl_arena.specs.Held.{tree_at, trees_at}
use Rattle.owl_doc.specs.Parts.{of_axiom}
use Rattle.owl_tree.specs.Trees.{tag_of}
use Rattle.dl_rules.specs.Local.{barred_over}
use Rattle.dl_rules.specs.Rules.{Breaks}
use Rattle.dl_local.proofs.PartLaws.{axiom_told, barred_told}
use Rattle.dl_local.proofs.parts.axiom_is_at_fault.Goals as goal

pub returns-in-TopDataProperty-clause-local : goal.returns-in-TopDataProperty-clause-local
returns-in-TopDataProperty-clause-local c =
    λ k o each local.
    subst (λ r. (c.some_has.result ≡ true) ↔ Breaks k r o (of_axiom (tree_at c.args.arena.now.trees c.args.id))) (sym c.in-TopDataProperty.is)
    (barred_told k o c.args.arena.now.trees c.args.found.now each c.args.id c.barred-barred.result.now c.some_has.result
    (c.barred-barred.ensures.barred c.args.arena.now.trees
    ∙ ap (λ t. barred_over t (trees_at c.args.arena.now.trees c.kids.result.now)) c.tag.ensures
    ∙ ap (barred_over (tag_of (tree_at c.args.arena.now.trees c.args.id))) c.kids.ensures.kids)
    (c.barred-barred.ensures.held c.args.arena.now.trees (below_later c.kids.result.now c.args.id _ (omega (arith, c.requires)) c.kids.ensures.below)) c.some_has.ensures)

pub returns-in-Some-clause-local : goal.returns-in-Some-clause-local
returns-in-Some-clause-local c =
    λ k o each local.
    axiom_told k o c.args.arena.now.trees c.args.found.now each c.args.id c.args.rule c.in-Some.test c.has.result c.requires (search rules) c.in_default.not-TopDataProperty (search rules)
