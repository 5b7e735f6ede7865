-- Tables that are not what they should be fail the tests.
use Rattle.std.specs.Prelude.{◌≡◌, true, false, List, [], ◌∷◌, refl}
use Rattle.grammar.specs.Grammars.{Entry, Row}
use Rattle.grammar.specs.Predicting.{is_predictive, is_productive}
use Rattle.grammar.specs.declared.symbol.Symbol.TheVariants.{Need, Rule}
use Rattle.grammar_tests.specs.ItemsTable.{items_item, items_items, items_more, items_weight}

-- a comma follows a weight
pub no_comma_behind_a_weight_fails : is_predictive (items_item ∷ record items_weight { follow = 0x80000000000000000000000000000010 } ∷ items_items ∷ items_more ∷ []) ≡ false
unfolding is_predictive items_item items_weight items_items items_more
no_comma_behind_a_weight_fails = refl

-- a word begins an item
pub no_word_at_items_fails : is_predictive (items_item ∷ items_weight ∷ record items_items { first = 0x8 } ∷ items_more ∷ []) ≡ false
unfolding is_predictive items_item items_weight items_items items_more
no_word_at_items_fails = refl

-- one rule with these alternatives, whose columns are as large as may be
abbrev one_rule : List Row → List Entry
one_rule rows = record { rows = rows; first = 0x3; follow = 0x80000000000000000000000000000003; empty = true; cost = 9; rank = 9 } ∷ []

-- a class begins one alternative
pub two_alternatives_fail : is_predictive (one_rule (record { mask = 0x1; symbols = Need 0 ∷ [] } ∷ record { mask = 0x1; symbols = Need 0 ∷ Need 1 ∷ [] } ∷ [])) ≡ false
unfolding is_predictive
two_alternatives_fail = refl

-- no rule begins with itself
pub left_recursion_fails : is_predictive (one_rule (record { mask = 0x3; symbols = Rule 0 ∷ Need 0 ∷ [] } ∷ [])) ≡ false
unfolding is_predictive
left_recursion_fails = refl

-- a rule ends at last
pub no_end_fails : is_productive (one_rule (record { mask = 0x1; symbols = Need 0 ∷ Rule 0 ∷ [] } ∷ [])) ≡ false
unfolding is_productive
no_end_fails = refl
