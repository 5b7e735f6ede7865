use Rattle.std.proofs.Common.{arith, [], subst, sym}
use Rattle.rdf_meaning.specs.Statements.{notes}
use Rattle.tree_stores.proofs.StoreLaws.{few_are_small, only_memory}
use Rattle.tree_stores.specs.Stores.{StandFor}
use Rattle.rdf_annotations.proofs.hold_sets.hold_empty.Goals as goal

pub returns-in-Ok-clause-held : goal.returns-in-Ok-clause-held
returns-in-Ok-clause-held g c = c.in-Ok.ensures.held [] (subst (StandFor (g.S.TreeStore.stands c.args.store.now) []) (sym c.new.ensures.items) tt)

pub unreachable-requires : goal.unreachable-requires
unreachable-requires g c =
    let told = c.in-Err-TooDeep.ensures.fault [] (subst (StandFor (g.S.TreeStore.stands c.args.store.now) []) (sym c.new.ensures.items) tt) in
    let other = only_memory (notes []) (few_are_small (notes []) (omega arith) (omega arith)) _ told in
    cc

pub unreachable-requires-in-Err-TooHeavy : goal.unreachable-requires-in-Err-TooHeavy
unreachable-requires-in-Err-TooHeavy g c =
    let told = c.in-Err-TooHeavy.ensures.fault [] (subst (StandFor (g.S.TreeStore.stands c.args.store.now) []) (sym c.new.ensures.items) tt) in
    let other = only_memory (notes []) (few_are_small (notes []) (omega arith) (omega arith)) _ told in
    cc
