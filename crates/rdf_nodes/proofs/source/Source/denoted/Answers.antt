use Rattle.std.proofs.Common.{rules, ◌≡◌, ap, refl, subst, sym, true, ◌∙◌, IsNone}
use Rattle.std.specs.Prelude.{is_some}
use Rattle.rdf_graph.specs.declared.term.Term.TheVariants as held
use Rattle.rdf_meaning.specs.Denotation.{sort_of}
use Rattle.rdf_faults.proofs.DenotedLaws.{some_value}
use Rattle.rdf_nodes.proofs.Below.{operands_known}
use Rattle.rdf_nodes.proofs.Holding.{expression_is}
use Rattle.rdf_nodes.proofs.Labelling.{none_is}
use Rattle.rdf_nodes.proofs.source.Source.denoted.Goals as goal

pub returns-then-not-is_expression-clause-none : goal.returns-then-not-is_expression-clause-none
returns-then-not-is_expression-clause-none g c = λ _.
    ap sort_of (sym (c.role.ensures c.args.self.now.graph.now c.requires.table)) ∙ none_is (sort_of c.role.result) (sym c.is_expression.ensures ∙ c.if-not-is_expression.true)

pub unreachable-requires : goal.unreachable-requires
unreachable-requires g c =
    let some : is_some (sort_of c.role.result) ≡ true = search rules in
    let gives = some_value (sort_of c.role.result) some in
    let is = ap sort_of (sym (c.role.ensures c.args.self.now.graph.now c.requires.table)) ∙ gives.1 in
    let own = c.requires.trees.trees c.args.label.now gives.0 is in
    c.in_ok-form.ensures.none c.requires.trees.small own.0 own.1 (subst IsNone (sym c.in_default.is) refl)

pub tree-requires-clause-known : goal.tree-requires-clause-known
tree-requires-clause-known g c =
    let graph = c.args.self.now.graph.now in
    let k = c.args.self.now.kinds.now in
    let roles = c.args.self.now.roles.now in
    let x = held.Blank c.args.label.now in
    let some : is_some (sort_of c.role.result) ≡ true = search rules in
    operands_known graph roles c.args.ids.now x c.requires.below k c.requires.table c.in-Some.form
    (expression_is graph k roles x c.in-Some.form c.role.result (c.role.ensures graph c.requires.table) some c.in_ok-form.field-0 c.in-Some.is c.in_ok-form.ensures.form)

pub returns-in-Ok-clause-held : goal.returns-in-Ok-clause-held
returns-in-Ok-clause-held g c =
    let graph = c.args.self.now.graph.now in
    let some : is_some (sort_of c.role.result) ≡ true = search rules in
    c.in-Ok.ensures.held (held.Blank c.args.label.now)
    (expression_is graph c.args.self.now.kinds.now c.args.self.now.roles.now (held.Blank c.args.label.now) c.in-Some.form c.role.result (c.role.ensures graph c.requires.table) some
    c.in_ok-form.field-0 c.in-Some.is c.in_ok-form.ensures.form)

pub returns-clause-fault : goal.returns-clause-fault
returns-clause-fault g c =
    let graph = c.args.self.now.graph.now in
    let some : is_some (sort_of c.role.result) ≡ true = search rules in
    c.in-Err.ensures.fault (held.Blank c.args.label.now)
    (expression_is graph c.args.self.now.kinds.now c.args.self.now.roles.now (held.Blank c.args.label.now) c.in-Some.form c.role.result (c.role.ensures graph c.requires.table) some
    c.in_ok-form.field-0 c.in-Some.is c.in_ok-form.ensures.form)
