-- The grammar of items by names, and that its table has no other alternatives.
use Rattle.std.specs.Prelude.{ℕ, List, [], ◌∷◌, refl}
use Rattle.grammar.specs.Pages.{IsTableOf, Named, Page}
use Rattle.grammar.specs.Pages.Named.{action, part, token}
use Rattle.grammar_tests.specs.ItemsTable.{items, items_item, items_items, items_more, items_weight}
use Rattle.grammar_tests.specs.declared.items.Act.{Act}
use Rattle.grammar_tests.specs.declared.items.Act.TheVariants as act
use Rattle.grammar_tests.specs.declared.items.Class.{Class}
use Rattle.grammar_tests.specs.declared.items.Class.TheVariants.{Close, Colon, Comma, Open, Word}
use Rattle.grammar_tests.specs.declared.items.Rule.{Rule}
use Rattle.grammar_tests.specs.declared.items.Rule.TheVariants.{Item, Items, More, Weight}

abbrev pub class_number : Class → ℕ
class_number Word = 0
class_number Colon = 1
class_number Comma = 2
class_number Open = 3
class_number Close = 4

abbrev pub rule_number : Rule → ℕ
rule_number Item = 0
rule_number Weight = 1
rule_number Items = 2
rule_number More = 3

abbrev pub act_number : Act → ℕ
act_number act.Word = 0
act_number act.Weight = 1
act_number act.Begin = 2
act_number act.End = 3

-- a word, maybe with a weight, or items in parentheses
abbrev pub alternatives : Rule → List (List (Named Class Rule Act))
alternatives Item =
    (action act.Word ∷ token Word ∷ part Weight ∷ [])
    ∷ (action act.Begin ∷ token Open ∷ part Items ∷ action act.End ∷ token Close ∷ [])
    ∷ []
alternatives Weight = [] ∷ (token Colon ∷ action act.Weight ∷ token Word ∷ []) ∷ []
alternatives Items = [] ∷ (part Item ∷ part More ∷ []) ∷ []
alternatives More = [] ∷ (token Comma ∷ part Item ∷ part More ∷ []) ∷ []

abbrev pub items_page : Page Class Rule Act
items_page = record {
  class_number = class_number;
  rule_number = rule_number;
  act_number = act_number;
  alternatives = alternatives;
  rules = Item ∷ Weight ∷ Items ∷ More ∷ [];
}

pub items_stand_for_page : IsTableOf items_page items
unfolding items items_item items_weight items_items items_more
items_stand_for_page = record { lists = refl; numbers = refl }
