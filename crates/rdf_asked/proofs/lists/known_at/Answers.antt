use Rattle.std.proofs.Common.{Some, ap, sym, ◌∙◌}
use Rattle.std.proofs.lemmas.Option.{slice_get-get_or}
use Rattle.rdf_asked.proofs.KnownLists.{known_here}
use Rattle.rdf_asked.proofs.lists.known_at.Goals as goal

pub returns : goal.returns
returns c =
    let lists = c.args.source.now.lists.now in
    let number = c.in_ok-number.number in
    let known = c.in_ok-get.field-0.now in
    known_here c.args.source.now.graph.now c.args.source.now.kinds.now lists c.args.source.now.roles.now number c.args.node.now known c.requires.source.lists c.requires.source.table
    c.in_ok-number.ensures (slice_get-get_or lists number known c.in_ok-get.ensures.lookup.3.0 ∙ ap Some (sym c.in_ok-get.ensures.lookup.1))
