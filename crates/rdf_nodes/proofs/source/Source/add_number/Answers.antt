use Rattle.std.proofs.Common.{◌<◌, IfSome, Some, sym, subst}
use Rattle.rdf_graph.specs.declared.term.Term.TheVariants.{Blank}
use Rattle.rdf_nodes.specs.Numbers.{AreKnownBelow}
use Rattle.tree_stores.proofs.StoreLaws.{keeps_all}
use Rattle.rdf_nodes.specs.Duplicates.{IsNumberOfDuplicate}
use Rattle.rdf_nodes.proofs.Duplicating.{number_of_other}
use Rattle.rdf_nodes.proofs.Passing.{one_more_numbered, passed_with}
use Rattle.rdf_nodes.proofs.source.Source.add_number.Goals as goal

pub denoted-requires-clause-below : goal.denoted-requires-clause-below
denoted-requires-clause-below g c =
    subst (λ ns. AreKnownBelow c.args.self.now.graph.now c.args.self.now.roles.now ns (Blank c.in-Some.label.now)) (sym c.deref-2.ensures.value)
    (c.requires.next.below c.in-Some.label.now c.in-Some.ensures)

pub returns-in-Ok-clause-numbered : goal.returns-in-Ok-clause-numbered
returns-in-Ok-clause-numbered g c =
    one_more_numbered c.args.self.now.graph.now c.args.self.now.kinds.now c.args.self.now.roles.now (g.S.TreeStore.stands c.args.store.now) (g.S.TreeStore.stands c.denoted.new.store)
    c.args.ids.now.items c.args.number c.in-Some.label.now c.in-Ok.found c.requires.numbered c.denoted.ensures.kept c.in-Some.ensures c.in-Ok.ensures.held

pub returns-in-Ok-clause-known : goal.returns-in-Ok-clause-known
returns-in-Ok-clause-known g c =
    passed_with c.args.self.now.graph.now c.args.self.now.roles.now c.args.ids.now.items c.args.number c.in-Some.label.now c.in-Ok.found
    (subst (λ n. c.args.number < n) (sym c.requires.next.places) c.requires.next.within) c.in-Some.ensures c.in-Ok.ensures.none

pub returns-in-Some-2-clause-numbered : goal.returns-in-Some-2-clause-numbered
returns-in-Some-2-clause-numbered g c =
    let graph = c.args.self.now.graph.now in
    let k = c.args.self.now.kinds.now in
    let roles = c.args.self.now.roles.now in
    let ids = c.args.ids.now.items in
    let stands = g.S.TreeStore.stands c.args.store.now in
    let found = subst (λ f. IfSome f (IsNumberOfDuplicate graph roles c.deref.result.now c.args.number)) c.in-Some-2.is c.in_ok-id.ensures.found in
    let other = subst (λ ns. IsNumberOfDuplicate graph roles ns c.args.number c.in-Some-2.id) c.deref.ensures.value found in
    one_more_numbered graph k roles stands stands ids c.args.number c.in-Some.label.now (Some c.in-Some-2.id) c.requires.numbered (keeps_all stands) c.in-Some.ensures
    (number_of_other graph k roles stands ids c.args.number c.in-Some.label.now c.in-Some-2.id c.requires.numbered c.in-Some.ensures other)

pub returns-in-Some-2-clause-known : goal.returns-in-Some-2-clause-known
returns-in-Some-2-clause-known g c =
    passed_with c.args.self.now.graph.now c.args.self.now.roles.now c.args.ids.now.items c.args.number c.in-Some.label.now (Some c.in-Some-2.id)
    (subst (λ n. c.args.number < n) (sym c.requires.next.places) c.requires.next.within) c.in-Some.ensures (λ none. cc)
