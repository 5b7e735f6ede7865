use Rattle.std.proofs.Common.{rules, ◌≡◌, ◌<◌, ◌∷◌, [], ◌++◌, not, ap, sym, ◌∙◌, subst, length}
use Rattle.owl_arena.specs.Held.{AreHeld, trees_at}
use Rattle.owl_list.proofs.AscendingLaws.{all_pushed}
use Rattle.rdf_normal.specs.NormalForms.{is_needless}
use Rattle.rdf_normal.proofs.Extending.{taken_held}
use Rattle.rdf_normal.proofs.Looping.{fails, passes}
use Rattle.rdf_normal.proofs.needless.kept.Goals.{then-not-is_needless+in_ok-push, else-not-is_needless}
use Rattle.rdf_normal.proofs.needless.kept.Goals as goal

pub ids-preserved : goal.ids-preserved
ids-preserved c =
    let ts = c.args.arena.now.trees in
    let us = trees_at ts c.args.ids.now in
    let told = c.is_needless.ensures c.args.ids.now c.requires.said in
    let within = taken_held ts c.args.ids.now c.ids.id-index c.id-item.result c.requires.held c.ids-test.true c.id-item.is in
    elim c.if-not-is_needless.branch [
      | then-not-is_needless+in_ok-push w ↦
          let more : c.if-not-is_needless.kept.items ≡ c.ids.kept.items ++ c.id-item.result ∷ [] = search rules in
          let is = w.if-not-is_needless.true in (
            ap (trees_at ts) more ∙ passes (λ t. not (is_needless us t)) ts c.ids.kept.items c.args.ids.now c.ids.id-index c.id-item.result c.ids.invariant.0 c.ids-test.true c.id-item.is (cc),
            subst (AreHeld ts) (sym more) (all_pushed (λ n. n < length ts) c.ids.kept.items c.id-item.result c.ids.invariant.1 within),
          )
      | else-not-is_needless w ↦
          let more : c.if-not-is_needless.kept.items ≡ c.ids.kept.items = search rules in
          let is = w.if-not-is_needless.false in (
            ap (trees_at ts) more ∙ fails (λ t. not (is_needless us t)) ts c.ids.kept.items c.args.ids.now c.ids.id-index c.id-item.result c.ids.invariant.0 c.ids-test.true c.id-item.is (cc),
            subst (AreHeld ts) (sym more) c.ids.invariant.1,
          )
    ]
