use Rattle.std.proofs.Common.{inr, sym}
use Rattle.tree_stores.proofs.KidLaws.{kids_kept}
use Rattle.rdf_nodes.specs.Numbers.{IsNodeTree}
use Rattle.rdf_nodes.proofs.Counting.{counted, lent_at, many_counted, stands_alone}
use Rattle.rdf_nodes.proofs.source.Source.add_counted.Goals as goal

pub returns-in_default-clause-sum : goal.returns-in_default-clause-sum
returns-in_default-clause-sum g c =
    kids_kept (IsNodeTree c.args.self.now.graph.now c.args.self.now.kinds.now) (g.S.TreeStore.stands c.args.store.now) (g.S.TreeStore.stands c.add_number.new.store) c.args.sum
    c.add_number.ensures.kept

pub add_kids-requires : goal.add_kids-requires
add_kids-requires g c =
    let found = c.in-Some-Some.ensures.lookup in
    let at =
    lent_at c.deref.result.now c.add_number.new.ids.items c.deref.ensures.value c.args.number _ c.in-Some-Some.field-0.now found.0 found.1 c.in-Some-Some.field-0-is in
    stands_alone c.args.self.now.graph.now c.args.self.now.kinds.now c.args.self.now.roles.now (g.S.TreeStore.stands c.add_number.new.store) c.add_number.new.ids.items
    c.args.number c.in-Some-Some.id c.in-Ok.ensures.numbered at

pub returns-in-Ok-add_kids-clause-sum : goal.returns-in-Ok-add_kids-clause-sum
returns-in-Ok-add_kids-clause-sum g c = λ have.
    let old = c.args.store.now in
    let kept = c.add_number.ensures.kept in
    let found = c.in-Some-Some.ensures.lookup in
    let at =
    lent_at c.deref.result.now c.add_number.new.ids.items c.deref.ensures.value c.args.number _ c.in-Some-Some.field-0.now found.0 found.1 c.in-Some-Some.field-0-is in
    counted c.args.self.now.graph.now c.args.self.now.kinds.now c.args.self.now.roles.now (g.S.TreeStore.stands c.add_number.new.store) c.add_number.new.ids.items
    c.args.number c.in-Some-Some.id c.in-Ok.ensures.numbered at (g.S.TreeStore.stands old) kept c.args.sum have c.in-Ok-add_kids.more
    (λ t own. c.in-Ok-add_kids.ensures.sum old t (sym c.count-before.ensures) kept own)

pub returns-in-Err-add_kids-clause-fault : goal.returns-in-Err-add_kids-clause-fault
returns-in-Err-add_kids-clause-fault g c = λ have.
    let old = c.args.store.now in
    let kept = c.add_number.ensures.kept in
    let found = c.in-Some-Some.ensures.lookup in
    let at =
    lent_at c.deref.result.now c.add_number.new.ids.items c.deref.ensures.value c.args.number _ c.in-Some-Some.field-0.now found.0 found.1 c.in-Some-Some.field-0-is in
    inr (
      c.if-not-limited.false,
      many_counted c.args.self.now.graph.now c.args.self.now.kinds.now c.args.self.now.roles.now (g.S.TreeStore.stands c.add_number.new.store) c.add_number.new.ids.items
          c.args.number c.in-Some-Some.id c.in-Ok.ensures.numbered at (g.S.TreeStore.stands old) kept c.args.sum have
          (λ t own. c.in-Err-add_kids.ensures.heavy old t (sym c.count-before.ensures) kept own),
    )
