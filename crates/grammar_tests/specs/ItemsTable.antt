-- The table of a grammar; `tools/make_grammar.py` made it.
use Rattle.std.specs.Prelude.{◌≡◌, ℕ, ◌≤◌, true, false, List, [], ◌∷◌, refl}
use Rattle.grammar.proofs.GrammarLaws.{beyond}
use Rattle.grammar.specs.Grammars.{Entry, entry}
use Rattle.grammar.specs.Predicting.{is_predictive, is_productive}
use Rattle.grammar.specs.declared.symbol.Symbol.TheVariants.{Act, Need, Rule}

-- item ::= @word Word weight | @begin Open items @end Close
unfoldable pub items_item : Entry
items_item = record {
  rows =
      record { mask = 0x1; symbols = Act 0 ∷ Need 0 ∷ Rule 1 ∷ [] }
      ∷ record { mask = 0x8; symbols = Act 2 ∷ Need 3 ∷ Rule 2 ∷ Act 3 ∷ Need 4 ∷ [] }
      ∷ [];
  first = 0x9;
  follow = 0x80000000000000000000000000000014;
  empty = false;
  cost = 2;
  rank = 1;
}

-- weight ::= % | Colon @weight Word
unfoldable pub items_weight : Entry
items_weight = record {
  rows =
      record { mask = 0x80000000000000000000000000000014; symbols = [] }
      ∷ record { mask = 0x2; symbols = Need 1 ∷ Act 1 ∷ Need 0 ∷ [] }
      ∷ [];
  first = 0x2;
  follow = 0x80000000000000000000000000000014;
  empty = true;
  cost = 1;
  rank = 0;
}

-- items ::= % | item more
unfoldable pub items_items : Entry
items_items = record {
  rows =
      record { mask = 0x80000000000000000000000000000010; symbols = [] }
      ∷ record { mask = 0x9; symbols = Rule 0 ∷ Rule 3 ∷ [] }
      ∷ [];
  first = 0x9;
  follow = 0x80000000000000000000000000000010;
  empty = true;
  cost = 3;
  rank = 0;
}

-- more ::= % | Comma item more
unfoldable pub items_more : Entry
items_more = record {
  rows =
      record { mask = 0x80000000000000000000000000000010; symbols = [] }
      ∷ record { mask = 0x4; symbols = Need 2 ∷ Rule 0 ∷ Rule 3 ∷ [] }
      ∷ [];
  first = 0x4;
  follow = 0x80000000000000000000000000000010;
  empty = true;
  cost = 1;
  rank = 0;
}

unfoldable pub items : List Entry
items =
    items_item ∷ items_weight ∷ items_items ∷ items_more ∷ []

pub items_beyond : (r : ℕ) → 4 ≤ r → [] ≡ (entry items r).rows
unfolding items
items_beyond r h = beyond items r h

pub items_is_predictive : is_predictive items ≡ true
unfolding is_predictive items items_item items_weight items_items items_more
items_is_predictive = refl

pub items_is_productive : is_productive items ≡ true
unfolding is_productive items items_item items_weight items_items items_more
items_is_productive = refl
