use Rattle.std.proofs.Common.{◌∷◌, subst, sym}
use Rattle.tree_stores.specs.Stores.{StandFor}
use Rattle.rdf_statements.proofs.axioms.hold_axiom.Goals as goal

pub returns-clause-held : goal.returns-clause-held
returns-clause-held g c = λ s ts hs hk.
    c.hold_node.ensures.held (s ∷ ts) (subst (StandFor (g.S.TreeStore.stands c.args.store.now) (s ∷ ts)) (sym c.in_ok-all.ensures) (hs, hk))

pub returns-clause-fault : goal.returns-clause-fault
returns-clause-fault g c = λ s ts hs hk.
    c.hold_node.ensures.fault (s ∷ ts) (subst (StandFor (g.S.TreeStore.stands c.args.store.now) (s ∷ ts)) (sym c.in_ok-all.ensures) (hs, hk))
