use Rattle.std.proofs.Common.{◌∷◌, [], IfSome, subst, sym}
use Rattle.rdf_graph.specs.declared.term.Term.TheVariants.{Blank}
use Rattle.rdf_meaning.specs.Statements.{AreNodeAxioms}
use Rattle.rdf_nodes.specs.Duplicates.{IsNumberOfDuplicate}
use Rattle.rdf_statements.specs.Holding.{StandForSome}
use Rattle.rdf_statements.proofs.WithoutNotes.{bare_still, kept_bare, same_axiom, where_ok}
use Rattle.rdf_statements.proofs.bare.hold_node_once.Goals as goal

pub returns-then-not-branch-clause-bare : goal.returns-then-not-branch-clause-bare
returns-then-not-branch-clause-bare g c =
    let stands = g.S.TreeStore.stands in
    let reading = c.args.known.now.annotated.reading in
    where_ok c.hold_node.result
    (bare_still reading.graph.now reading.kinds.now reading.roles.now (stands c.args.store.now) (stands c.hold_node.new.store) c.hold_node.ensures.kept
    c.args.bare.now.numbers.items c.requires.bare)

pub returns-in-Some-clause-held : goal.returns-in-Some-clause-held
returns-in-Some-clause-held g c =
    let stands = g.S.TreeStore.stands c.args.store.now in
    let reading = c.args.known.now.annotated.reading in
    let graph = reading.graph.now in
    let kinds = reading.kinds.now in
    let roles = reading.roles.now in
    let ids = c.args.bare.now.numbers.items in
    let label = c.args.label.now in
    let found = subst (λ f. IfSome f (IsNumberOfDuplicate graph roles c.deref.result.now c.args.number)) c.in-Some.is c.in_ok-axiom.ensures.found in
    let other = subst (λ ns. IsNumberOfDuplicate graph roles ns c.args.number c.in-Some.axiom) c.deref.ensures.value found in
    subst (StandForSome stands (AreNodeAxioms graph kinds (Blank label ∷ []))) (sym c.in_ok-alone.ensures)
    (same_axiom graph kinds roles stands ids c.args.number label c.in-Some.axiom c.requires.bare c.requires.at (c.in_ok-is_bare.ensures c.if-not-branch.false) other)

pub returns-clause-bare : goal.returns-clause-bare
returns-clause-bare g c =
    let stands = g.S.TreeStore.stands in
    let reading = c.args.known.now.annotated.reading in
    let graph = reading.graph.now in
    let kinds = reading.kinds.now in
    let label = c.args.label.now in
    let new = stands c.hold_node-2.new.store in
    let held = subst (StandForSome new (AreNodeAxioms graph kinds (Blank label ∷ []))) (sym c.deref-2.ensures.value) c.in_ok-axioms.ensures.held in
    kept_bare graph kinds reading.roles.now (stands c.args.store.now) new c.args.bare.now.numbers.items c.keep.new.self.numbers.items c.args.number label c.deref-2.result.now
    c.hold_node-2.ensures.kept c.requires.bare c.requires.at (c.in_ok-is_bare.ensures c.if-not-branch.false) held c.keep.ensures
