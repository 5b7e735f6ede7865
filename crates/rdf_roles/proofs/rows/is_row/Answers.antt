use Rattle.std.proofs.lemmas.Bool.{both_ways}
use Rattle.rdf_meaning.specs.Rows.{row_seen}
use Rattle.rdf_roles.proofs.ListLengths.{fit_is}
use Rattle.rdf_roles.proofs.rows.is_row.Goals as goal

pub returns-then-fit : goal.returns-then-fit
returns-then-fit c g x seen counts =
    let fit = fit_is g x _ _ c.args.role c.args.triples.now (row_seen c.args.row.now) seen in (
      λ h. (fit.0 ((c.fit.ensures c.args.triples.now counts).0 c.if-fit.true), (c.are_formed.ensures g x c.args.role seen).0 h),
      λ k. (c.are_formed.ensures g x c.args.role seen).1 k.1,
    )

pub returns-else-fit : goal.returns-else-fit
returns-else-fit c g x seen counts =
    let fit = fit_is g x _ _ c.args.role c.args.triples.now (row_seen c.args.row.now) seen in (
      λ h. absurd (both_ways c.fit.result c.if-fit.false h),
      λ k. (c.fit.ensures c.args.triples.now counts).1 (fit.1 k.0),
    )
