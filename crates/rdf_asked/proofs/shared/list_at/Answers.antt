use Rattle.std.proofs.Common.{IfSome, subst}
use Rattle.rdf_graph.specs.declared.term.Term.TheVariants.{Blank}
use Rattle.rdf_asked.specs.Listed.{IsListed}
use Rattle.rdf_asked.proofs.KnownLists.{known_at_node}
use Rattle.rdf_asked.proofs.shared.list_at.Goals as goal

pub returns : goal.returns
returns c =
    let g = c.args.source.now.graph.now in
    let k = c.args.source.now.kinds.now in
    known_at_node g k c.args.source.now.roles.now c.args.number c.in-Some.label.now c.list_from.result c.requires.source.table c.in-Some.ensures
    (subst (λ label. IfSome c.list_from.result (IsListed g k (Blank label))) c.in_ok-copy.ensures c.list_from.ensures)
