use Rattle.std.proofs.Common.{subst, sym}
use Rattle.std.specs.List.{AllByRecursion}
use Rattle.std.proofs.lemmas.Bool.{both_ways}
use Rattle.rdf_meaning.specs.Rows.{row_seen}
use Rattle.rdf_faults.specs.Asked.{Suits}
use Rattle.rdf_asked.proofs.TypedNodes.{fits_seen}
use Rattle.rdf_asked.proofs.nodes.is_for_all.Goals as goal

pub returns-then-fit : goal.returns-then-fit
returns-then-fit c x role about =
    let fits = fits_seen c.args.source.now.graph.now x (row_seen c.args.row.now) c.args.role c.args.triples.now c.fit.result role about (c.fit.ensures c.args.triples.now c.requires.words) in
    let all = AllByRecursion (Suits c.args.source.now.graph.now c.args.source.now.kinds.now (row_seen c.args.row.now)) in (
      λ h. record { fits = fits.0 c.if-fit.true; suits = subst all about (c.suit.ensures.0 h) },
      λ a. c.suit.ensures.1 (subst all (sym about) a.suits),
    )

pub returns-else-fit : goal.returns-else-fit
returns-else-fit c x role about =
    let fits = fits_seen c.args.source.now.graph.now x (row_seen c.args.row.now) c.args.role c.args.triples.now c.fit.result role about (c.fit.ensures c.args.triples.now c.requires.words) in
    (λ h. absurd (both_ways c.fit.result c.if-fit.false h), λ a. fits.1 a.fits)
