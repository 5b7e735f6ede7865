use Rattle.std.proofs.Common.{◌≡◌, ◌∙◌, ℕ, List, ap, length, refl, rules, subst}
use Rattle.std.specs.Map.Iter.{TakesFirst, deref, deref_pair}
use Rattle.std.specs.declared.cmp.Ordering.{Ordering}
use Rattle.std.specs.declared.cmp.Ordering.TheVariants.{Less, Equal, Greater}
use Rattle.std.specs.Iterator.Adapters.{filter_callee, filter_source}
use Rattle.std.specs.Ordering.{min_by_ordering}
use denote.Ref.{Bor}
use Rattle.owl_characters.specs.Order.{text_cmp}
use borrow.Author.Tests.{tests}
use Rattle.std.proofs.lemmas.Iterator.{YieldsList, YieldsList-from_map_by}
use Rattle.std.proofs.lemmas.Iterator.Consumers.{YieldsList-from_filter, YieldsList-from_shown, reduce_by_from_yields_List}
use Rattle.owl_kind.specs.Marks.{Entry, clashes, lesser}
use Rattle.owl_kind.proofs.kinds.first_clash.Goals as goal

-- the iterator of a map gives its entries
entries_yield : (s es : List Entry) → s ≡ es → YieldsList (TakesFirst deref_pair) deref_pair s es
entries_yield s es e = subst (YieldsList (TakesFirst deref_pair) deref_pair s) e (YieldsList-from_shown (TakesFirst deref_pair) deref_pair (λ t. t) (λ t u k. ap length k.0) (λ t x u k. k) s)

of_lesser : (o : Ordering) (p z : Bor (List ℕ)) → (min_by_ordering o p z).now ≡ min_by_ordering o p.now z.now
of_lesser Less p z = refl
of_lesser Equal p z = refl
of_lesser Greater p z = refl

pub returns : goal.returns
returns c =
    reduce_by_from_yields_List (λ p z. min_by_ordering (text_cmp p.now z.now) p z) lesser _ _ (λ p z. of_lesser (text_cmp p.now z.now) p z) c.min.ensures.ran
    (YieldsList-from_map_by _ deref (λ (e : Entry). e.0)
    (YieldsList-from_filter _ clashes
    (entries_yield _ c.args.table.now.entries (ap filter_source c.map.ensures.source ∙ c.filter.ensures.source ∙ c.iter.ensures.rest))
    (ap filter_callee c.map.ensures.source ∙ c.filter.ensures.closure) (λ x b q k. search (rules, tests)))
    c.map.ensures.closure (λ x r q k. search (rules, tests)))
