use Rattle.std.proofs.Common.{◌≡◌, Option, None, Some, IsNone, length, ap, ◌∙◌, rules}
use Rattle.std.specs.Slice.Iter.{iter_rest}
use Rattle.std.specs.Option.{option_map}
use Rattle.std.specs.Str.{bytes_eq}
use borrow.Author.Tests.{tests}
use Rattle.std.proofs.lemmas.Iterator.{YieldsList-from_slice}
use Rattle.std.proofs.lemmas.Iterator.Consumers.{YieldsList-from_copied}
use Rattle.std.proofs.lemmas.Iterator.Search.{find_from_yields_List}
use Rattle.owl_tree.specs.Tags.{keyword_of, with_length}
use Rattle.owl_tree.specs.declared.tag.Tag.{Tag}
use Rattle.owl_tree.proofs.Keywords.{is_named}
use Rattle.owl_tree.proofs.tag.Tag.named.Goals as goal

some_is_found : (r : Option Tag) (t : Tag) → option_map (λ x. x) r ≡ Some t → IsNone r → ⊥
some_is_found None t e h = cc
some_is_found (Some x) t e h = cc

pub returns-clause-none : goal.returns-clause-none
returns-clause-none c = λ none t e.
    let tags = with_length (length c.args.word.now) in
    let rest = ap iter_rest c.copied.ensures.source ∙ c.iter.ensures.rest ∙ c.with_length.ensures in
    some_is_found c.find.result t
    (find_from_yields_List (λ t. bytes_eq (keyword_of t) c.args.word.now) _ _ c.find.result c.find.ensures.ran (YieldsList-from_copied (YieldsList-from_slice tags rest)) (λ x b q k. search (rules, tests))
    ∙ is_named t c.args.word.now c.utf8.word e)
    none
