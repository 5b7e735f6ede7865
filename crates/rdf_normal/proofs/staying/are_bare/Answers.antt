use Rattle.std.proofs.Common.{ℕ, List, sym, ◌∙◌, subst}
use Rattle.std.specs.List.{AllByRecursion}
use Rattle.std.proofs.lemmas.List.{take_all}
use Rattle.owl_arena.specs.Held.{trees_at}
use Rattle.rdf_normal.specs.Staying.{IsBare}
use Rattle.rdf_normal.proofs.Looping.{all_further}
use Rattle.rdf_normal.proofs.staying.are_bare.Goals as goal

pub ids-preserved : goal.ids-preserved
ids-preserved c =
    all_further IsBare c.args.arena.now.trees c.args.ids.now c.ids.id-index c.id-item.result c.ids-test.true c.id-item.is c.ids.invariant (sym c.is_annotated.ensures ∙ c.if-is_annotated.false)

pub returns : goal.returns
returns c = λ _. subst (λ (ids : List ℕ). AllByRecursion IsBare (trees_at c.args.arena.now.trees ids)) (take_all c.ids.id-index c.args.ids.now c.ids-test.false) c.ids.invariant
