use Rattle.std.proofs.lemmas.Result.{on_ok_weaker}
use Rattle.rdf_counts.proofs.ArenaLaws.{first_and, statement_at}
use Rattle.rdf_forward.specs.AxiomWalks.{sets_at}
use Rattle.rdf_forward.proofs.Placing.{as_said}
use Rattle.rdf_forward.proofs.writer.Writer.write_axioms.Goals as goal

pub returns-in-len1-up : goal.returns-in-len1-up
returns-in-len1-up c =
    let e = first_and c.kids.result.now c._notes-item.result c.in-len1-up.len_at_least c._notes-item.is in
    let said = statement_at c.args.arena.now.trees c.args.id c._notes-item.result c.kids.result.now _ c.tag.result e c.kids.ensures.kids c.tag.ensures in
    on_ok_weaker c.write_kids.result (λ kids. as_said c.args.self.now c.write_kids.new.self _ _ (sets_at c.args.arena.now.trees c.args.axioms.now) said kids) c.write_kids.ensures
