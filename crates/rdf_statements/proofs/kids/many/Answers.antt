use Rattle.std.proofs.Common.{rules, ◌≤◌, ◌<◌, IfSome, IsNone, length, refl, subst, sym}
use Rattle.rdf_meaning.specs.declared.row.Want.TheVariants.{Many}
use Rattle.rdf_faults.specs.Asked.{is_of_sort}
use Rattle.rdf_nodes.specs.Operands.{AreElements}
use Rattle.rdf_statements.specs.Forms.{GivesKids, many}
use Rattle.rdf_statements.proofs.Finding.{any_list, too_few}
use Rattle.rdf_statements.proofs.kids.many.Goals as goal

pub returns-clause-kids : goal.returns-clause-kids
returns-clause-kids c =
    let g = c.args.source.now.graph.now in
    let k = c.args.source.now.kinds.now in
    let roles = c.args.source.now.roles.now in
    let os = c.in-Some.elements in
    let enough : c.args.least ≤ length os.items = search rules in
    let found = subst (λ f. IfSome f (λ es. AreElements g k roles c.args.sort c.args.list.now es.items)) c.in-Some.is c.in_ok-elements.ensures.elements in
    subst (GivesKids g k roles c.args.list.now (Many c.args.sort c.args.least)) (sym c.in_ok-ones.ensures) (many c.args.sort c.args.least os.items enough found)

pub returns-in_default-clause-none : goal.returns-in_default-clause-none
returns-in_default-clause-none c = λ formed told _ met.
    let g = c.args.source.now.graph.now in
    let k = c.args.source.now.kinds.now in
    c.in_ok-elements.ensures.none formed told (subst IsNone (sym c.in_default.is) refl) (any_list g (is_of_sort g k c.args.sort) c.args.least c.args.list.now met)

pub returns-then-len-least-clause-none : goal.returns-then-len-least-clause-none
returns-then-len-least-clause-none c = λ formed told _ met.
    let g = c.args.source.now.graph.now in
    let k = c.args.source.now.kinds.now in
    let roles = c.args.source.now.roles.now in
    let os = c.in-Some.elements in
    let few : length os.items < c.args.least = search rules in
    let found = subst (λ f. IfSome f (λ es. AreElements g k roles c.args.sort c.args.list.now es.items)) c.in-Some.is c.in_ok-elements.ensures.elements in
    too_few g k roles c.args.sort c.args.list.now os.items c.args.least found few met
