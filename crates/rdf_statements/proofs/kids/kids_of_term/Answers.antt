use Rattle.rdf_statements.proofs.Forming.{marks, is_word_true}
use Rattle.rdf_statements.proofs.kids.kids_of_term.Goals as goal

pub returns-in-Mark-clause-kids : goal.returns-in-Mark-clause-kids
returns-in-Mark-clause-kids c =
    marks c.args.source.now.graph.now c.args.source.now.kinds.now c.args.source.now.roles.now c.args.term.now c.args.want c.new.result.items c.in-Mark.is c.new.ensures.items

pub returns-else-not-is_true-clause-kids : goal.returns-else-not-is_true-clause-kids
returns-else-not-is_true-clause-kids c =
    is_word_true c.args.source.now.graph.now c.args.source.now.kinds.now c.args.source.now.roles.now c.args.term.now c.args.want c.new-in-True.result.items c.in-True.is
    c.new-in-True.ensures.items (c.is_true.ensures.0 c.if-not-is_true.false)
