use Rattle.std.proofs.Common.{subst, sym, ◌∙◌}
use Rattle.std.proofs.lemmas.List.{nil_from_length}
use Rattle.tree_stores.proofs.KidLaws.{none_have_kids}
use Rattle.rdf_nodes.specs.Numbers.{IsNodeTree}
use Rattle.rdf_nodes.proofs.Knowing.{all_held}
use Rattle.rdf_nodes.proofs.Passing.{ArePassed, all_passed, next_of, none_passed, one_passed, passed_ahead}
use Rattle.rdf_nodes.proofs.source.Source.numbers.Goals as goal

pub loop-number-init : goal.loop-number-init
loop-number-init g c =
    let graph = c.args.self.now.graph.now in
    let k = c.args.self.now.kinds.now in
    let roles = c.args.self.now.roles.now in
    let old = g.S.TreeStore.stands c.args.store.now in
    let passed =
    subst (ArePassed graph k roles old old c.in_ok-ids.ids.items) (sym c.order-rest.ensures)
    (none_passed graph k roles old c.in_ok-ids.ids.items c.in_ok-ids.ensures.none (c.in_ok-ids.ensures.many ∙ c.len.ensures)) in
    (passed, none_have_kids (IsNodeTree graph k) old)

pub add_counted-requires-clause-numbered : goal.add_counted-requires-clause-numbered
add_counted-requires-clause-numbered g c = c.loop-number.invariant.0.numbered

pub add_counted-requires-clause-next : goal.add_counted-requires-clause-next
add_counted-requires-clause-next g c =
    let graph = c.args.self.now.graph.now in
    let k = c.args.self.now.kinds.now in
    let roles = c.args.self.now.roles.now in
    let old = g.S.TreeStore.stands c.args.store.now in
    let now = g.S.TreeStore.stands c.loop-number.store in
    next_of graph k roles old now c.loop-number.ids.items c.in-Some.number.now c.in-Some.behind.now c.requires.table
    (passed_ahead graph k roles old now c.loop-number.ids.items c.loop-number.rest.now c.in-Some.number.now c.in-Some.behind.now c.in-Some.ensures.cases.0 c.loop-number.invariant.0)

pub loop-number-preserved : goal.loop-number-preserved
loop-number-preserved g c =
    let graph = c.args.self.now.graph.now in
    let k = c.args.self.now.kinds.now in
    let roles = c.args.self.now.roles.now in
    let old = g.S.TreeStore.stands c.args.store.now in
    let now = g.S.TreeStore.stands c.loop-number.store in
    let new = g.S.TreeStore.stands c.add_counted.new.store in
    let passed =
    one_passed graph k roles old now new c.loop-number.ids.items c.add_counted.new.ids.items c.in-Some.number.now c.in-Some.behind.now
    (passed_ahead graph k roles old now c.loop-number.ids.items c.loop-number.rest.now c.in-Some.number.now c.in-Some.behind.now c.in-Some.ensures.cases.0 c.loop-number.invariant.0)
    c.add_counted.ensures.kept c.in-Ok.ensures.added.numbered c.in-Ok.ensures.added.known in
    (passed, c.in-Ok.ensures.sum c.loop-number.invariant.1)

pub returns-in-Err-clause-fault : goal.returns-in-Err-clause-fault
returns-in-Err-clause-fault g c = c.in-Err.ensures.fault c.loop-number.invariant.1

pub returns-clause-known : goal.returns-clause-known
returns-clause-known g c =
    all_passed c.args.self.now.graph.now c.args.self.now.kinds.now c.args.self.now.roles.now (g.S.TreeStore.stands c.args.store.now) (g.S.TreeStore.stands c.loop-number.store)
    c.loop-number.ids.items c.loop-number.rest.now c.requires.table (nil_from_length c.loop-number.rest.now c.in_default.ensures.cases) c.loop-number.invariant.0

pub returns-clause-all : goal.returns-clause-all
returns-clause-all g c =
    let graph = c.args.self.now.graph.now in
    let k = c.args.self.now.kinds.now in
    let roles = c.args.self.now.roles.now in
    let stands = g.S.TreeStore.stands c.loop-number.store in
    let known =
    all_passed graph k roles (g.S.TreeStore.stands c.args.store.now) stands c.loop-number.ids.items c.loop-number.rest.now c.requires.table
    (nil_from_length c.loop-number.rest.now c.in_default.ensures.cases) c.loop-number.invariant.0 in
    all_held graph k roles stands c.loop-number.ids.items c.requires.table c.loop-number.invariant.0.numbered known
