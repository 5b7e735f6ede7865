use Rattle.std.specs.Prelude.{true}
use Rattle.rdf_statements.specs.declared.known.Known.{Known}
use Rattle.owl_characters.proofs.ResultLaws.{passed}
use Rattle.rdf_statements.proofs.HoldingKids.{ok_more}
use Rattle.rdf_statements.proofs.Stating.{all_stated, known_with, node_fault}
use Rattle.rdf_statements.proofs.statements.hold_noted.Goals as goal

pub hold_known-requires : goal.hold_known-requires
hold_known-requires g c =
    let stands = g.S.TreeStore.stands in
    let known : Known g.row.S-Number.Denot = record { annotated = c.args.annotated.now; sets = c.args.sets; ids = c.deref.result } in
    known_with (stands c.args.store.now) (stands c.numbers.new.store) c.numbers.ensures.kept known c.in_ok-ids.ids.items c.deref.ensures.value c.requires.annotated c.requires.axioms c.requires.sets
    c.in_ok-ids.ensures.numbered c.in_ok-ids.ensures.known

pub returns-clause-all : goal.returns-clause-all
returns-clause-all g c =
    let stands = g.S.TreeStore.stands in
    let known : Known g.row.S-Number.Denot = record { annotated = c.args.annotated.now; sets = c.args.sets; ids = c.deref.result } in
    let is =
    known_with (stands c.args.store.now) (stands c.numbers.new.store) c.numbers.ensures.kept known c.in_ok-ids.ids.items c.deref.ensures.value c.requires.annotated c.requires.axioms c.requires.sets
    c.in_ok-ids.ensures.numbered c.in_ok-ids.ensures.known in
    ok_more
    (λ said stated. all_stated (stands c.numbers.new.store) (stands c.hold_known.new.store) c.hold_known.ensures.kept known c.requires.kinds is
    (c.in_ok-ids.ensures.all c.requires.kinds) said.annotations.items said.axioms.items stated)
    c.hold_known.result c.hold_known.ensures.stated

pub returns-in_err-ids-clause-fault : goal.returns-in_err-ids-clause-fault
returns-in_err-ids-clause-fault g c =
    let reading = c.args.annotated.now.reading in
    passed c.from_residual.result c.in_err-ids.field-0.0 _ c.from_residual.ensures.1 (node_fault reading.graph.now reading.kinds.now reading.header.now true c.in_err-ids.field-0.0 c.in_err-ids.ensures.fault)
