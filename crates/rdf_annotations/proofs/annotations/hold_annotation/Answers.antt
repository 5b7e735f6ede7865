use Rattle.std.proofs.Common.{rules, ◌≡◌, ◌∷◌, [], subst, sym}
use Rattle.tree_stores.specs.Stores.{StandFor}
use Rattle.rdf_annotations.proofs.annotations.hold_annotation.Goals as goal

pub returns-clause-held : goal.returns-clause-held
returns-clause-held g c = λ s p v h.
    let items : c.push-3.new.self.items ≡ c.args.variant ∷ c.args.property ∷ c.args.value ∷ [] = search rules in
    c.hold_node.ensures.held (s ∷ p ∷ v ∷ []) (subst (StandFor (g.S.TreeStore.stands c.args.store.now) (s ∷ p ∷ v ∷ [])) (sym items) h)

pub returns-clause-fault : goal.returns-clause-fault
returns-clause-fault g c = λ s p v h.
    let items : c.push-3.new.self.items ≡ c.args.variant ∷ c.args.property ∷ c.args.value ∷ [] = search rules in
    c.hold_node.ensures.fault (s ∷ p ∷ v ∷ []) (subst (StandFor (g.S.TreeStore.stands c.args.store.now) (s ∷ p ∷ v ∷ [])) (sym items) h)
