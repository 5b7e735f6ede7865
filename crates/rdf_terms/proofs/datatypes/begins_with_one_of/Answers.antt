use Rattle.std.proofs.Common.{rules, nat_eq}
use Rattle.std.specs.List.{starts_with}
use borrow.Author.Tests.{tests}
use Rattle.std.proofs.lemmas.Iterator.{YieldsList-from_slice}
use Rattle.std.proofs.lemmas.Iterator.Search.{any_from_yields_List}
use Rattle.std.proofs.lemmas.Str.Pattern.{starts_text}
use Rattle.rdf_terms.specs.Tables.{begins_with_name}
use Rattle.rdf_terms.proofs.datatypes.begins_with_one_of.Goals as goal

pub returns : goal.returns
unfolding begins_with_name
returns c = any_from_yields_List (λ name. starts_with nat_eq c.args.text.now name.now) _ _ _ c.any.ensures.ran (YieldsList-from_slice c.args.names.now c.iter.ensures.rest) (λ x b q k. search (rules, tests, starts_text))
