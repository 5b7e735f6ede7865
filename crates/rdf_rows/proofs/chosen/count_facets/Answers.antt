use Rattle.std.proofs.Common.{ap, ◌∙◌, rules}
use Rattle.std.specs.Slice.Iter.{iter_rest}
use borrow.Author.Tests.{tests}
use Rattle.std.proofs.lemmas.Iterator.{YieldsList-from_slice}
use Rattle.std.proofs.lemmas.Iterator.Consumers.{YieldsList-from_filter, count_from_yields_List}
use Rattle.rdf_rows.specs.Chosen.{has_facet}
use Rattle.rdf_rows.proofs.chosen.count_facets.Goals as goal

pub returns : goal.returns
returns c =
    count_from_yields_List _ c.count.result c.count.ensures.ran
    (YieldsList-from_filter _ has_facet (YieldsList-from_slice c.args.triples.now (ap iter_rest c.filter.ensures.source ∙ c.iter.ensures.rest)) c.filter.ensures.closure (λ x b q k. search (rules, tests)))
