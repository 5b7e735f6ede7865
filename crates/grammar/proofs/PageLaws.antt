-- Each alternative of a table is one of the page that the table stands for.
use Rattle.std.proofs.Common.{◌≡◌, ℕ, zero, suc, ◌+◌, List, [], ◌∷◌, map, get_or, refl, ◌∙◌, subst, arith}
use Rattle.grammar.specs.Grammars.{Among, Entry, Row, entry, no_entry}
use Rattle.grammar.specs.Grammars.Among.{behind, here}
use Rattle.grammar.specs.Pages.{IsIn, IsNamed, IsTableOf, Page, numbered, numbered_alternatives, numbers_from, table_lists}
use Rattle.grammar.specs.Pages.IsIn.{first, later}
use Rattle.grammar.specs.declared.symbol.Symbol.{Symbol}

among_symbols : (rows : List Row) (row : Row) → Among row rows → IsIn row.symbols (map (λ (r : Row). r.symbols) rows)
among_symbols [] row a = elim a [ ]
among_symbols (other ∷ rows) row here = first
among_symbols (other ∷ rows) row (behind a) = later (among_symbols rows row a)

-- an item of a list that was made of another comes of one of its items
pub record ComesOf {X Y : Type 0} (f : X → Y) (xs : List X) (y : Y) : Type 0 where
  pub item : X
  pub is_in : IsIn item xs
  pub is : y ≡ f item

comes_of : {X Y : Type 0} (f : X → Y) (xs : List X) (y : Y) → IsIn y (map f xs) → ComesOf f xs y
comes_of f [] y i = elim i [ ]
comes_of f (x ∷ xs) y first = record { item = x; is_in = first; is = refl }
comes_of f (x ∷ xs) y (later i) = let it = comes_of f xs y i in record { item = it.item; is_in = later it.is_in; is = it.is }

-- the rule of a number, where the table has alternatives there
pub record RuleAt {C R A : Type 0} (page : Page C R A) (r : ℕ) (lists : List (List Symbol)) : Type 0 where
  pub rule : R
  pub number_is : page.rule_number rule ≡ r
  pub lists_are : lists ≡ numbered_alternatives page rule

rule_at : {C R A : Type 0} (page : Page C R A) (rules : List R) (g : List Entry) (n r : ℕ) (row : Row) → table_lists g ≡ map (numbered_alternatives page) rules → map page.rule_number rules ≡ numbers_from n rules → Among row (get_or g r no_entry).rows → RuleAt page (n + r) (map (λ (row : Row). row.symbols) (get_or g r no_entry).rows)
rule_at page rules [] n r row l m a = elim a [ ]
rule_at page [] (e ∷ g) n r row l m a = absurd (cc)
rule_at page (rule ∷ rules) (e ∷ g) n zero row l m a = record {
  rule = rule;
  number_is = (let same : page.rule_number rule ≡ n = cc in omega arith);
  lists_are = cc;
}
rule_at page (rule ∷ rules) (e ∷ g) n (suc r) row l m a =
    let it = rule_at page rules g (n + 1) r row (cc) (cc) a in
    let same : n + 1 + r ≡ n + suc r = omega arith in
    record { rule = it.rule; number_is = subst (λ (m : ℕ). page.rule_number it.rule ≡ m) same it.number_is; lists_are = it.lists_are }

pub named : {C R A : Type 0} {page : Page C R A} {g : List Entry} → IsTableOf page g → (r : ℕ) (row : Row) → Among row (entry g r).rows → IsNamed page r row.symbols
named {page = page} {g = g} table r row a =
    let it = rule_at page page.rules g 0 r row table.lists table.numbers a in
    let among = subst (IsIn row.symbols) it.lists_are (among_symbols (entry g r).rows row a) in
    let symbols = comes_of (map (numbered page)) (page.alternatives it.rule) row.symbols among in
    record {
      rule = it.rule;
      number_is = (let same : 0 + r ≡ r = omega arith in it.number_is ∙ same);
      names = symbols.item;
      among = symbols.is_in;
      symbols_are = symbols.is;
    }
