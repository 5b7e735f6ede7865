use Rattle.std.proofs.Common.{◌∷◌, [], ap, subst, sym, ◌∙◌}
use Rattle.rdf_graph.specs.declared.term.Term.TheVariants.{Blank}
use Rattle.rdf_meaning.specs.declared.role.Role.TheVariants as role
use Rattle.rdf_meaning.specs.Nodes.{is_role, role_of}
use Rattle.rdf_meaning.specs.Statements.{AreNodeAxioms}
use Rattle.rdf_statements.specs.Holding.{StandForSome}
use Rattle.owl_characters.proofs.ResultLaws.{passed}
use Rattle.rdf_statements.proofs.Adding.{label_at, main_role, node_added, node_passed}
use Rattle.rdf_statements.proofs.Counting.{are_lent, counted, faulty, node_trees}
use Rattle.rdf_statements.proofs.Stating.{tree_fault}
use Rattle.rdf_statements.proofs.nodes.add_node.Goals as goal

pub returns-then-not-is_main-clause-added : goal.returns-then-not-is_main-clause-added
returns-then-not-is_main-clause-added g c = λ label at.
    let stands = g.S.TreeStore.stands c.args.store.now in
    let reading = c.args.known.now.annotated.reading in
    let graph = reading.graph.now in
    let table = c.requires.known.annotated.reading.table in
    let same = label_at graph reading.roles.now table c.args.number c.in-Some.label.now label c.in-Some.ensures at in
    let none =
    ap (λ l. is_role role.Main (role_of graph (Blank l))) (sym same) ∙ ap (is_role role.Main) (sym (c.role.ensures graph table)) ∙ sym c.is_main.ensures ∙ c.if-not-is_main.true in
    node_passed stands stands graph reading.kinds.now label c.args.axioms.now.numbers.items none

pub returns-clause-added : goal.returns-clause-added
returns-clause-added g c = λ label at.
    let stands = g.S.TreeStore.stands in
    let reading = c.args.known.now.annotated.reading in
    let graph = reading.graph.now in
    let kinds = reading.kinds.now in
    let table = c.requires.known.annotated.reading.table in
    let same = label_at graph reading.roles.now table c.args.number c.in-Some.label.now label c.in-Some.ensures at in
    let main =
    ap (λ l. is_role role.Main (role_of graph (Blank l))) (sym same) ∙ ap (is_role role.Main) (sym (c.role.ensures graph table)) ∙ sym c.is_main.ensures ∙ c.if-not-is_main.false in
    node_added (stands c.args.store.now) (stands c.hold_node_once.new.store) graph kinds label c.args.axioms.now.numbers.items c.in_ok-more.more.items _ main c.hold_node_once.ensures.kept
    (subst (λ l. StandForSome (stands c.hold_node_once.new.store) (AreNodeAxioms graph kinds (Blank l ∷ [])) c.in_ok-more.more.items) same c.in_ok-more.ensures.held)
    c.in_ok-append.ensures.items

pub returns-in_err-more-clause-fault : goal.returns-in_err-more-clause-fault
returns-in_err-more-clause-fault g c =
    let reading = c.args.known.now.annotated.reading in
    passed c.from_residual.result c.in_err-more.field-0.0 _ c.from_residual.ensures.1
    (tree_fault reading.graph.now reading.kinds.now reading.header.now c.in_err-more.field-0.0 c.in_err-more.ensures.fault)

pub add_first_kids-requires : goal.add_first_kids-requires
add_first_kids-requires g c =
    let stands = g.S.TreeStore.stands in
    let reading = c.args.known.now.annotated.reading in
    let graph = reading.graph.now in
    let kinds = reading.kinds.now in
    let header = reading.header.now in
    let x = Blank c.in-Some.label.now in
    let main =
    main_role (role_of graph x)
    (ap (is_role role.Main) (sym (c.role.ensures graph c.requires.known.annotated.reading.table)) ∙ sym c.is_main.ensures ∙ c.if-not-is_main.false) in
    are_lent graph kinds header (stands c.args.store.now) (stands c.hold_node_once.new.store) c.hold_node_once.ensures.kept c.args.axioms.now.kids c.requires.kids
    (AreNodeAxioms graph kinds (x ∷ [])) (node_trees graph kinds header x main) c.in_ok-more.more.items c.in_ok-more.ensures.held c.deref.result.now c.deref.ensures.value

pub returns-in_err-axioms-clause-fault : goal.returns-in_err-axioms-clause-fault
returns-in_err-axioms-clause-fault g c =
    let stands = g.S.TreeStore.stands in
    let reading = c.args.known.now.annotated.reading in
    let graph = reading.graph.now in
    let kinds = reading.kinds.now in
    let header = reading.header.now in
    let x = Blank c.in-Some.label.now in
    let main =
    main_role (role_of graph x)
    (ap (is_role role.Main) (sym (c.role.ensures graph c.requires.known.annotated.reading.table)) ∙ sym c.is_main.ensures ∙ c.if-not-is_main.false) in
    passed c.from_residual-in_err-axioms.result c.in_err-axioms.field-0.0 _ c.from_residual-in_err-axioms.ensures.1
    (faulty graph kinds header (stands c.args.store.now) (stands c.hold_node_once.new.store) c.hold_node_once.ensures.kept c.args.axioms.now.kids c.requires.kids
    (AreNodeAxioms graph kinds (x ∷ [])) (node_trees graph kinds header x main) c.in_ok-more.more.items c.in_ok-more.ensures.held c.deref.result.now c.deref.ensures.value
    c.in_err-axioms.field-0.0 (λ ts stand. c.in_err-axioms.ensures.fault c.args.store.now ts (sym c.count-before.ensures) c.hold_node_once.ensures.kept stand))

pub returns-clause-kids : goal.returns-clause-kids
returns-clause-kids g c =
    let stands = g.S.TreeStore.stands in
    let reading = c.args.known.now.annotated.reading in
    let graph = reading.graph.now in
    let kinds = reading.kinds.now in
    let header = reading.header.now in
    let x = Blank c.in-Some.label.now in
    let main =
    main_role (role_of graph x)
    (ap (is_role role.Main) (sym (c.role.ensures graph c.requires.known.annotated.reading.table)) ∙ sym c.is_main.ensures ∙ c.if-not-is_main.false) in
    counted graph kinds header (stands c.args.store.now) (stands c.hold_node_once.new.store) c.hold_node_once.ensures.kept c.args.axioms.now.kids c.requires.kids
    (AreNodeAxioms graph kinds (x ∷ [])) (node_trees graph kinds header x main) c.in_ok-more.more.items c.in_ok-more.ensures.held c.deref.result.now c.deref.ensures.value
    c.in_ok-axioms.field-0 (λ ts stand. c.in_ok-axioms.ensures.sum c.args.store.now ts (sym c.count-before.ensures) c.hold_node_once.ensures.kept stand)
