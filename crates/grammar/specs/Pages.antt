-- Grammars by names, as a person reads them, and the tables of numbers that stand for them.
use Rattle.std.specs.Prelude.{◌≡◌, ℕ, ◌+◌, false, List, [], ◌∷◌, map}
use Rattle.grammar.specs.Grammars.{Entry, Row}
use Rattle.grammar.specs.declared.symbol.Symbol.{Symbol}
use Rattle.grammar.specs.declared.symbol.Symbol.TheVariants.{Act, Need, Rule}

-- a symbol by the names of classes, rules and acts
pub data Named (C R A : Type 0) : Type 0 where
  token : C → Named C R A
  part : R → Named C R A
  action : A → Named C R A

-- A grammar by names: the numbers of the names, the alternatives of each rule, and all rules by their numbers.
pub record Page (C R A : Type 0) : Type 0 where
  pub class_number : C → ℕ
  pub rule_number : R → ℕ
  pub act_number : A → ℕ
  pub alternatives : R → List (List (Named C R A))
  pub rules : List R

abbrev pub numbered : {C R A : Type 0} → Page C R A → Named C R A → Symbol
numbered page (token c) = Need (page.class_number c)
numbered page (part r) = Rule (page.rule_number r)
numbered page (action a) = Act (page.act_number a)

-- the alternatives of a rule, by numbers
abbrev pub numbered_alternatives : {C R A : Type 0} → Page C R A → R → List (List Symbol)
numbered_alternatives page r = map (map (numbered page)) (page.alternatives r)

-- the alternatives of each rule of a table
abbrev pub table_lists : List Entry → List (List (List Symbol))
table_lists g = map (λ (e : Entry). map (λ (row : Row). row.symbols) e.rows) g

-- a rule with these alternatives, and no classes at which they are taken
abbrev pub plain_entry : List (List Symbol) → Entry
plain_entry lists = record {
  rows = map (λ (symbols : List Symbol). record { mask = 0; symbols = symbols }) lists;
  first = 0;
  follow = 0;
  empty = false;
  cost = 0;
  rank = 0;
}

-- A page as a list of its rules, the first of which has the number 0. From it the same derives as from each table that stands
-- for the page.
abbrev pub grammar_of : {C R A : Type 0} → Page C R A → List Entry
grammar_of {R = R} page = map (λ (r : R). plain_entry (numbered_alternatives page r)) page.rules

-- the numbers from one on, as many as there are items
abbrev pub numbers_from : {X : Type 0} → ℕ → List X → List ℕ
numbers_from n [] = []
numbers_from n (x ∷ xs) = n ∷ numbers_from (n + 1) xs

-- A table has the alternatives of a page, each rule's at its number. Both facts close by computation.
pub record IsTableOf {C R A : Type 0} (page : Page C R A) (g : List Entry) : Type 0 where
  pub lists : table_lists g ≡ map (numbered_alternatives page) page.rules
  pub numbers : map page.rule_number page.rules ≡ numbers_from 0 page.rules

-- an item is one of these
pub data IsIn {X : Type 0} (x : X) : List X → Type 0 where
  first : {xs : List X} → IsIn x (x ∷ xs)
  later : {y : X} {xs : List X} → IsIn x xs → IsIn x (y ∷ xs)

-- an alternative of a table by names
pub record IsNamed {C R A : Type 0} (page : Page C R A) (r : ℕ) (symbols : List Symbol) : Type 0 where
  pub rule : R
  pub number_is : page.rule_number rule ≡ r
  pub names : List (Named C R A)
  pub among : IsIn names (page.alternatives rule)
  pub symbols_are : symbols ≡ map (numbered page) names
