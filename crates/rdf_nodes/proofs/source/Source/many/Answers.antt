use Rattle.std.proofs.Common.{rules, ◌≤◌, ◌<◌, length, refl, subst, sym, IfSome, IsNone}
use Rattle.rdf_nodes.specs.Operands.{AreElements, many}
use Rattle.rdf_nodes.proofs.Denoting.{any_many, too_few}
use Rattle.rdf_nodes.proofs.source.Source.many.Goals as goal

pub returns-clause-operands : goal.returns-clause-operands
returns-clause-operands c =
    let g = c.args.self.now.graph.now in
    let k = c.args.self.now.kinds.now in
    let roles = c.args.self.now.roles.now in
    let enough : c.args.least ≤ length c.in-Some.elements.items = search rules in
    many c.args.sort c.args.least c.in-Some.elements.items enough
    (subst (λ f. IfSome f (λ os. AreElements g k roles c.args.sort c.args.list.now os.items)) c.in-Some.is c.in_ok-elements.ensures.elements)

pub returns-in_default-clause-none : goal.returns-in_default-clause-none
returns-in_default-clause-none c = λ _ wanted.
    any_many c.args.self.now.graph.now c.args.self.now.kinds.now c.args.sort c.args.least c.args.list.now
    (c.in_ok-elements.ensures.no_list (subst IsNone (sym c.in_default.is) refl) wanted)

pub returns-then-len-least-clause-none : goal.returns-then-len-least-clause-none
returns-then-len-least-clause-none c = λ _ wanted.
    let g = c.args.self.now.graph.now in
    let k = c.args.self.now.kinds.now in
    let roles = c.args.self.now.roles.now in
    let os = c.in-Some.elements in
    let few : length os.items < c.args.least = search rules in
    let found = subst (λ f. IfSome f (λ es. AreElements g k roles c.args.sort c.args.list.now es.items)) c.in-Some.is c.in_ok-elements.ensures.elements in
    too_few g k roles c.args.sort c.args.list.now os.items c.args.least found few wanted.0
