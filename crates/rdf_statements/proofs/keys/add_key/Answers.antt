use Rattle.std.proofs.Common.{rules, ◌≡◌, ◌∷◌, ◌++◌, [], IfSome, IsNone, refl, subst, sym}
use Rattle.owl_tree.specs.declared.row.Sort.TheVariants as sort
use Rattle.rdf_nodes.specs.Operands.{IsOperand}
use Rattle.rdf_statements.proofs.Finding.{no_key_is}
use Rattle.rdf_statements.proofs.Forming.{data_key_added, object_key_added}
use Rattle.rdf_statements.proofs.keys.add_key.Goals as goal

pub returns-in-Some-clause-added : goal.returns-in-Some-clause-added
returns-in-Some-clause-added c = λ _.
    let g = c.args.source.now.graph.now in
    let k = c.args.source.now.kinds.now in
    let roles = c.args.source.now.roles.now in
    let keys = c.args.keys.now in
    let pushed : c.push.new.self.items ≡ keys.of_objects.items ++ c.in-Some.key ∷ [] = search rules in
    object_key_added g k roles c.args.term.now c.in-Some.key keys.of_objects.items keys.of_data.items c.push.new.self.items pushed
    (subst (λ f. IfSome f (IsOperand g k roles sort.ObjectPropertyExpression c.args.term.now)) c.in-Some.is c.in_ok-key.ensures.operand)

pub returns-in-Some-2-clause-added : goal.returns-in-Some-2-clause-added
returns-in-Some-2-clause-added c = λ _.
    let g = c.args.source.now.graph.now in
    let k = c.args.source.now.kinds.now in
    let roles = c.args.source.now.roles.now in
    let keys = c.args.keys.now in
    let pushed : c.push-in-Some-2.new.self.items ≡ keys.of_data.items ++ c.in-Some-2.key ∷ [] = search rules in
    data_key_added g k roles c.args.term.now c.in-Some-2.key keys.of_objects.items keys.of_data.items c.push-in-Some-2.new.self.items pushed
    (subst (λ f. IfSome f (IsOperand g k roles sort.DataPropertyExpression c.args.term.now)) c.in-Some-2.is c.in_ok-key-2.ensures.operand)

pub returns-clause-none : goal.returns-clause-none
returns-clause-none c = λ _ key.
    no_key_is c.args.source.now.graph.now c.args.source.now.kinds.now c.args.source.now.roles.now c.args.term.now (c.in_ok-key.ensures.none (subst IsNone (sym c.in_default.is) refl) refl)
    (c.in_ok-key-2.ensures.none (subst IsNone (sym c.in_default-2.is) refl) refl) key
