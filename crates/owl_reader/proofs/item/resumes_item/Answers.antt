use Rattle.std.proofs.Common.{rules}
use borrow.Author.Tests.{tests}
use Rattle.std.proofs.lemmas.Iterator.{YieldsList-from_slice}
use Rattle.std.proofs.lemmas.Iterator.Search.{any_from_yields_List}
use Rattle.owl_reader.specs.Items.{is_again}
use Rattle.owl_reader.proofs.item.resumes_item.Goals as goal

pub returns : goal.returns
returns g c = λ context.
    any_from_yields_List (λ act. is_again ((g.S.Syntax.rules context).mark act)) _ _ _ c.any.ensures.ran (YieldsList-from_slice c.args.acts.now c.iter.ensures.rest) (λ x b q k. search (rules, tests))
