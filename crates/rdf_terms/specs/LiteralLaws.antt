-- The laws of the comparisons of literals.
use Rattle.std.specs.Prelude.{◌≡◌, ℕ, List, Option, None, Some}
use Rattle.std.specs.Cmp.{IsEquivalence, IsPartialEquivalence, IsTotalOrder, both_tied, partial_equiv_from_equiv}
use Rattle.std.specs.Cmp.Lexicographic.{options_equiv, options_total}
use Rattle.std.specs.Option.{option_cmp, option_eq}
use Rattle.std.specs.Ordering.{eq_by_cmp}
use Rattle.std.proofs.Common.{refl}
use Rattle.std.proofs.lemmas.Cmp.{and_equiv, nat_list_eq_equiv, on_equiv, on_total, then_total}
use Rattle.owl_characters.specs.Order.{text_cmp, text_eq}
use Rattle.owl_characters.specs.OrderLaws.{equal_ties, texts_total}
use Rattle.rdf_terms.specs.Literals.{LiteralParts, literal_cmp, literal_eq}

pub equivalence : IsEquivalence literal_eq
equivalence =
    and_equiv (on_equiv (λ a. a.lexical) nat_list_eq_equiv)
    (and_equiv (on_equiv (λ a. a.datatype) nat_list_eq_equiv) (on_equiv (λ a. a.tag) (options_equiv nat_list_eq_equiv)))

pub partial_equivalence : IsPartialEquivalence literal_eq
partial_equivalence = partial_equiv_from_equiv equivalence

pub total_order : IsTotalOrder literal_cmp
total_order =
    then_total (on_total (λ a. a.lexical) texts_total)
    (then_total (on_total (λ a. a.datatype) texts_total) (on_total (λ a. a.tag) (options_total texts_total)))

tags_tie : (a b : Option (List ℕ)) → option_eq text_eq a b ≡ eq_by_cmp (option_cmp text_cmp) a b
tags_tie None None = refl
tags_tie None (Some b) = refl
tags_tie (Some a) None = refl
tags_tie (Some a) (Some b) = equal_ties a b

-- only equal literals tie
pub only_equals_tie : (a b : LiteralParts) → literal_eq a b ≡ eq_by_cmp literal_cmp a b
only_equals_tie a b =
    both_tied _ _ _ _ (equal_ties a.lexical b.lexical) (both_tied _ _ _ _ (equal_ties a.datatype b.datatype) (tags_tie a.tag b.tag))
