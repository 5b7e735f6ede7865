use Rattle.std.proofs.Common.{◌∷◌, [], sym, ◌∙◌}
use Rattle.std.proofs.lemmas.Option.{same_Some}
use Rattle.owl_characters.proofs.ResultLaws.{passed}
use Rattle.rdf_statements.proofs.Adding.{axiom_fault, in_main, told, triple_added, triple_passed}
use Rattle.std.proofs.Common.{false, refl, true}
use Rattle.rdf_meaning.specs.Statements.{AreAxioms}
use Rattle.rdf_statements.proofs.Counting.{are_lent, counted, faulty, triple_trees}
use Rattle.rdf_statements.proofs.Stating.{tree_fault}
use Rattle.rdf_statements.proofs.triples.add_triple.Goals as goal

pub returns-then-not-is_main-clause-added : goal.returns-then-not-is_main-clause-added
returns-then-not-is_main-clause-added g c = λ t at.
    let stands = g.S.TreeStore.stands c.args.store.now in
    let reading = c.args.known.now.annotated.reading in
    let same = same_Some c.at.result.now t (sym c.at.ensures.at ∙ at) in
    triple_passed reading.graph.now reading.kinds.now reading.header.now stands stands t c.args.axioms.now.numbers.items
    (told reading.graph.now reading.kinds.now reading.header.now c.at.result.now t same c.sort_of.result c.is_main.result false c.sort_of.ensures c.is_main.ensures c.if-not-is_main.true)

pub hold_triple-requires-clause-main : goal.hold_triple-requires-clause-main
hold_triple-requires-clause-main g c = λ t at.
    let reading = c.args.known.now.annotated.reading in
    let same = same_Some c.at.result.now t (sym c.at.ensures.at ∙ at) in
    in_main reading.graph.now reading.kinds.now reading.header.now t c.args.place at
    (told reading.graph.now reading.kinds.now reading.header.now c.at.result.now t same c.sort_of.result c.is_main.result true c.sort_of.ensures c.is_main.ensures c.if-not-is_main.false)

pub returns-in_err-more-clause-fault : goal.returns-in_err-more-clause-fault
returns-in_err-more-clause-fault g c =
    let reading = c.args.known.now.annotated.reading in
    let u = c.at.result.now in
    let main =
    told reading.graph.now reading.kinds.now reading.header.now u u refl c.sort_of.result c.is_main.result true c.sort_of.ensures c.is_main.ensures c.if-not-is_main.false in
    passed c.from_residual.result c.in_err-more.field-0.0 _ c.from_residual.ensures.1
    (tree_fault reading.graph.now reading.kinds.now reading.header.now c.in_err-more.field-0.0
    (axiom_fault reading.graph.now reading.kinds.now reading.header.now u (in_main reading.graph.now reading.kinds.now reading.header.now u c.args.place c.at.ensures.at main)
    c.in_err-more.field-0.0 (c.in_err-more.ensures.fault u c.at.ensures.at)))

pub returns-clause-added : goal.returns-clause-added
returns-clause-added g c = λ t at.
    let stands = g.S.TreeStore.stands in
    let reading = c.args.known.now.annotated.reading in
    let same = same_Some c.at.result.now t (sym c.at.ensures.at ∙ at) in
    triple_added reading.graph.now reading.kinds.now reading.header.now (stands c.args.store.now) (stands c.hold_triple.new.store) t c.args.axioms.now.numbers.items c.in_ok-more.more.items _
    (told reading.graph.now reading.kinds.now reading.header.now c.at.result.now t same c.sort_of.result c.is_main.result true c.sort_of.ensures c.is_main.ensures c.if-not-is_main.false)
    c.hold_triple.ensures.kept (c.in_ok-more.ensures.held t at) c.in_ok-append.ensures.items

pub add_first_kids-requires : goal.add_first_kids-requires
add_first_kids-requires g c =
    let stands = g.S.TreeStore.stands in
    let reading = c.args.known.now.annotated.reading in
    let graph = reading.graph.now in
    let kinds = reading.kinds.now in
    let header = reading.header.now in
    let u = c.at.result.now in
    let main =
    in_main graph kinds header u c.args.place c.at.ensures.at
    (told graph kinds header u u refl c.sort_of.result c.is_main.result true c.sort_of.ensures c.is_main.ensures c.if-not-is_main.false) in
    are_lent graph kinds header (stands c.args.store.now) (stands c.hold_triple.new.store) c.hold_triple.ensures.kept c.args.axioms.now.kids c.requires.kids
    (AreAxioms graph kinds (u ∷ [])) (triple_trees graph kinds header u main) c.in_ok-more.more.items (c.in_ok-more.ensures.held u c.at.ensures.at) c.deref.result.now
    c.deref.ensures.value

pub returns-in_err-axioms-clause-fault : goal.returns-in_err-axioms-clause-fault
returns-in_err-axioms-clause-fault g c =
    let stands = g.S.TreeStore.stands in
    let reading = c.args.known.now.annotated.reading in
    let graph = reading.graph.now in
    let kinds = reading.kinds.now in
    let header = reading.header.now in
    let u = c.at.result.now in
    let main =
    in_main graph kinds header u c.args.place c.at.ensures.at
    (told graph kinds header u u refl c.sort_of.result c.is_main.result true c.sort_of.ensures c.is_main.ensures c.if-not-is_main.false) in
    passed c.from_residual-in_err-axioms.result c.in_err-axioms.field-0.0 _ c.from_residual-in_err-axioms.ensures.1
    (faulty graph kinds header (stands c.args.store.now) (stands c.hold_triple.new.store) c.hold_triple.ensures.kept c.args.axioms.now.kids c.requires.kids
    (AreAxioms graph kinds (u ∷ [])) (triple_trees graph kinds header u main) c.in_ok-more.more.items (c.in_ok-more.ensures.held u c.at.ensures.at) c.deref.result.now
    c.deref.ensures.value c.in_err-axioms.field-0.0
    (λ ts stand. c.in_err-axioms.ensures.fault c.args.store.now ts (sym c.count-before.ensures) c.hold_triple.ensures.kept stand))

pub returns-clause-kids : goal.returns-clause-kids
returns-clause-kids g c =
    let stands = g.S.TreeStore.stands in
    let reading = c.args.known.now.annotated.reading in
    let graph = reading.graph.now in
    let kinds = reading.kinds.now in
    let header = reading.header.now in
    let u = c.at.result.now in
    let main =
    in_main graph kinds header u c.args.place c.at.ensures.at
    (told graph kinds header u u refl c.sort_of.result c.is_main.result true c.sort_of.ensures c.is_main.ensures c.if-not-is_main.false) in
    counted graph kinds header (stands c.args.store.now) (stands c.hold_triple.new.store) c.hold_triple.ensures.kept c.args.axioms.now.kids c.requires.kids
    (AreAxioms graph kinds (u ∷ [])) (triple_trees graph kinds header u main) c.in_ok-more.more.items (c.in_ok-more.ensures.held u c.at.ensures.at) c.deref.result.now
    c.deref.ensures.value c.in_ok-axioms.field-0
    (λ ts stand. c.in_ok-axioms.ensures.sum c.args.store.now ts (sym c.count-before.ensures) c.hold_triple.ensures.kept stand)
