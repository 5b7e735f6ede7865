use Rattle.std.proofs.Common.{ap, sym, subst}
use Rattle.rdf_counts.proofs.ArenaLaws.{first_and, statement_at}
use Rattle.rdf_counts.specs.Counts.{Takes, statement_drawn}
use Rattle.rdf_counts.proofs.count.count_axiom.Goals as goal

pub returns-in-len1-up : goal.returns-in-len1-up
returns-in-len1-up c =
    let e = first_and c.kids.result.now c._notes-item.result c.in-len1-up.len_at_least c._notes-item.is in
    let said = statement_at c.args.arena.now.trees c.args.id c._notes-item.result c.kids.result.now _ c.tag.result e c.kids.ensures.kids c.tag.ensures in
    subst (Takes c.args.left c.count_statement.result) (sym (ap statement_drawn said)) c.count_statement.ensures
