use Rattle.std.proofs.lemmas.Result.{on_ok_weaker}
use Rattle.ttl_levels.specs.Nested.{IsNested}
use Rattle.ttl_nest.proofs.LineWritingLaws.{line_done, line_long, no_line_done}
use Rattle.ttl_nest.proofs.lines.add_line.Goals as goal

pub returns-then-is_nested-clause-ok : goal.returns-then-is_nested-clause-ok
returns-then-is_nested-clause-ok c =
    no_line_done c.args.source.now.graph.now c.args.source.now.prefixes.now c.args.triple.now c.args.draft.now ((c.is_nested.ensures c.args.source.now.graph.now c.requires.source.table c.requires.source.nests).0 c.if-is_nested.true)

pub returns-clause-ok : goal.returns-clause-ok
returns-clause-ok c =
    let g = c.args.source.now.graph.now in
    let not = λ (n : IsNested g c.args.triple.now.subject). let so = (c.is_nested.ensures g c.requires.source.table c.requires.source.nests).1 n in let no_is = c.if-is_nested.false in absurd (cc) in
    on_ok_weaker c.add_statement.result (λ is. line_done g c.args.source.now.prefixes.now c.args.triple.now c.args.draft.now not c.add_statement.new.draft is) c.add_statement.ensures.ok

pub returns-clause-too_long : goal.returns-clause-too_long
returns-clause-too_long c = λ e.
    let g = c.args.source.now.graph.now in
    let not = λ (n : IsNested g c.args.triple.now.subject). let so = (c.is_nested.ensures g c.requires.source.table c.requires.source.nests).1 n in let no_is = c.if-is_nested.false in absurd (cc) in
    line_long g c.args.source.now.prefixes.now c.args.triple.now c.args.draft.now not (c.add_statement.ensures.too_long e)
