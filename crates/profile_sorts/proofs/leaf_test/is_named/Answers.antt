use Rattle.std.proofs.Common.{◌∙◌, ap, rules}
use Rattle.std.specs.List.{list_any}
use Rattle.std.specs.Str.{bytes_eq}
use borrow.Author.Tests.{tests}
use Rattle.std.proofs.lemmas.Iterator.{YieldsList-from_slice}
use Rattle.std.proofs.lemmas.Iterator.Search.{any_from_yields_List}
use Rattle.rdf_terms.proofs.TableLaws.{names_are}
use Rattle.profile_sorts.proofs.leaf_test.is_named.Goals as goal

pub returns : goal.returns
returns c =
    any_from_yields_List (λ name. bytes_eq name.now c.text-text.result.now) _ _ _ c.any.ensures.ran (YieldsList-from_slice c.args.names.now c.iter.ensures.rest) (λ x b q k. search (rules, tests))
    ∙ ap (λ text. list_any (λ name. bytes_eq name.now text) c.args.names.now) c.text-text.ensures.bytes
    ∙ names_are c.args.names.now c.args.iri.now c.requires
