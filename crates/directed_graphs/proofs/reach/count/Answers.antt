use Rattle.std.proofs.Common.{ap, ◌∙◌, rules}
use Rattle.std.specs.Slice.Iter.{iter_rest}
use borrow.Author.Tests.{tests}
use Rattle.std.proofs.lemmas.Iterator.{YieldsList-from_slice}
use Rattle.std.proofs.lemmas.Iterator.Consumers.{YieldsList-from_filter, count_from_yields_List}
use Rattle.std.proofs.lemmas.List.Sums.{length-filter}
use Rattle.directed_graphs.proofs.reach.count.Goals as goal

pub returns : goal.returns
returns c =
    count_from_yields_List _ c.count.result c.count.ensures.ran
    (YieldsList-from_filter _ (λ mark. mark) (YieldsList-from_slice c.args.marks.now (ap iter_rest c.filter.ensures.source ∙ c.iter.ensures.rest)) c.filter.ensures.closure (λ x b q k. search (rules, tests)))
    ∙ length-filter (λ mark. mark) c.args.marks.now
