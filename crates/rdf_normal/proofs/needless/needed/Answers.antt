use Rattle.std.proofs.Common.{ℕ, List, map, filter, ap, sym, ◌∙◌, subst}
use Rattle.std.proofs.lemmas.Result.{IfOk-weaker}
use Rattle.owl_arena.specs.Held.{AreHeld, trees_at}
use Rattle.owl_tree.specs.Canonical.{canonical}
use Rattle.rdf_normal.specs.Makings.{AreMade}
use Rattle.rdf_normal.specs.NormalForms.{bare, is_annotated}
use Rattle.rdf_normal.proofs.Bare.{has_bare_forms, kept_made}
use Rattle.rdf_normal.proofs.needless.needed.Goals as goal

pub kept-requires-clause-said : goal.kept-requires-clause-said
kept-requires-clause-said c =
    let ts = c.args.arena.now.trees in
    let us = c.bare_forms.new.arena.trees in
    has_bare_forms ts us c.deref-2.result.now c.in_ok-said.said.items c.deref-3.result.now c.distinct-trees.ensures.shared
    (subst (AreHeld ts) (sym c.deref-2.ensures.value) c.sort_set.ensures.held)
    (subst (λ (ids : List ℕ). AreMade ts us c.in_ok-said.said.items (map (λ t. canonical (bare t)) (filter is_annotated (trees_at ts ids)))) (c.deref.ensures.value ∙ sym c.deref-2.ensures.value) c.in_ok-said.ensures.made)
    (c.deref-3.ensures.value ∙ c.arrange.ensures)

pub returns-clause-made : goal.returns-clause-made
returns-clause-made c =
    let ts = c.args.arena.now.trees in
    let us = c.bare_forms.new.arena.trees in
    IfOk-weaker c.kept.result _ _
    (λ kept h.
    kept_made ts us c.args.ids.items c.deref-2.result.now kept.items c.in_ok-said.ensures.made.extends (subst (AreHeld ts) (sym c.deref-2.ensures.value) c.sort_set.ensures.held)
    (ap (trees_at ts) c.deref-2.ensures.value ∙ c.sort_set.ensures.ascending) h)
    c.kept.ensures.kept
