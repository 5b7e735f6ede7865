use Rattle.std.proofs.Common.{rules, ◌≡◌, ◌++◌, ◌∷◌, [], subst, sym}
use Rattle.std.specs.List.{AllByRecursion}
use Rattle.std.proofs.lemmas.List.{nil_from_length}
use Rattle.rdf_annotations.specs.Annotations.{HasSet}
use Rattle.rdf_annotations.proofs.Setting.{AreSetsBefore, all_found, next_found, none_found}
use Rattle.rdf_annotations.proofs.annotated.Annotated.sets_of.Goals as goal

pub loop-number-init : goal.loop-number-init
loop-number-init g c = record {
  found = λ terms h.
      let r = c.args.self.now.reading in
      subst (λ found. AreSetsBefore (g.S.TreeStore.stands c.args._store.now) r.graph.now r.kinds.now r.roles.now terms c.args.numbers.now found) (sym c.new-found.ensures.items)
      (none_found (g.S.TreeStore.stands c.args._store.now) r.graph.now r.kinds.now r.roles.now terms c.args.numbers.now h);
  known = c.requires.known;
}

pub set_at-set-requires : goal.set_at-set-requires
set_at-set-requires g c = (subst (AllByRecursion (HasSet c.args.sets.now.of_nodes.items)) c.in-Some.ensures.cases.0 c.loop-number.invariant.known).0

pub loop-number-preserved : goal.loop-number-preserved
loop-number-preserved g c = record {
  found = λ terms h.
      let r = c.args.self.now.reading in
      let items : c.push.new.self.items ≡ c.loop-number.found.items ++ c.set_at-set.result ∷ [] = search rules in
      subst (λ found. AreSetsBefore (g.S.TreeStore.stands c.args._store.now) r.graph.now r.kinds.now r.roles.now terms c.in-Some.behind.now found) (sym items)
      (next_found (g.S.TreeStore.stands c.args._store.now) r.graph.now r.kinds.now r.roles.now c.args.sets.now.of_nodes.items c.args.sets.now.empty terms c.loop-number.rest.now
      c.in-Some.behind.now c.in-Some.number.now c.loop-number.found.items c.set_at-set.result c.requires.sets (c.loop-number.invariant.found terms h) c.in-Some.ensures.cases.0 c.set_at-set.ensures);
  known = (subst (AllByRecursion (HasSet c.args.sets.now.of_nodes.items)) c.in-Some.ensures.cases.0 c.loop-number.invariant.known).1;
}

pub returns : goal.returns
returns g c = λ terms h.
    let r = c.args.self.now.reading in
    all_found (g.S.TreeStore.stands c.args._store.now) r.graph.now r.kinds.now r.roles.now terms c.loop-number.rest.now c.loop-number.found.items (c.loop-number.invariant.found terms h)
    (nil_from_length c.loop-number.rest.now c.in_default.ensures.cases)
