-- What derives from a table derives from each other with the same alternatives, and so from the page that a table stands for.
use Rattle.std.proofs.Common.{◌≡◌, ℕ, zero, suc, List, [], ◌∷◌, ◌++◌, map, get_or, refl, sym, ◌∙◌, subst}
use Rattle.grammar.specs.Derivations.{Begins, DerivesOf, Event, Lives}
use Rattle.grammar.specs.Derivations.DerivesOf.{act, need, nothing, rule}
use Rattle.grammar.specs.Feeding.{Fed}
use Rattle.grammar.specs.Grammars.{Among, Entry, Row, no_entry}
use Rattle.grammar.specs.Grammars.Among.{behind, here}
use Rattle.grammar.specs.Pages.{IsTableOf, Page, grammar_of, numbered_alternatives, plain_entry, table_lists}
use Rattle.grammar.specs.Parsing.{Leads}
use Rattle.grammar.specs.TokenFeeding.{FedTokens}
use Rattle.grammar.specs.declared.symbol.Symbol.{Symbol}

-- the one has the alternatives of the other
abbrev pub AreAlike : List Entry → List Entry → Type 0
AreAlike g h = table_lists g ≡ table_lists h

-- ---- rows

-- a row with these symbols
pub record HasRow (rows : List Row) (symbols : List Symbol) : Type 0 where
  pub row : Row
  pub among : Among row rows
  pub symbols_are : row.symbols ≡ symbols

row_among : (rows others : List Row) (row : Row) → map (λ (r : Row). r.symbols) rows ≡ map (λ (r : Row). r.symbols) others → Among row rows → HasRow others row.symbols
row_among [] others row e a = elim a [ ]
row_among (x ∷ rows) [] row e a = absurd (cc)
row_among (x ∷ rows) (y ∷ others) row e here = record { row = y; among = here; symbols_are = cc }
row_among (x ∷ rows) (y ∷ others) row e (behind a) =
    let it = row_among rows others row (cc) a in
    record { row = it.row; among = behind it.among; symbols_are = it.symbols_are }

row_at : (g h : List Entry) (r : ℕ) (row : Row) → AreAlike g h → Among row (get_or g r no_entry).rows → HasRow (get_or h r no_entry).rows row.symbols
row_at [] h r row e a = elim a [ ]
row_at (x ∷ g) [] r row e a = absurd (cc)
row_at (x ∷ g) (y ∷ h) zero row e a = row_among x.rows y.rows row (cc) a
row_at (x ∷ g) (y ∷ h) (suc r) row e a = row_at g h r row (cc) a

-- ---- what derives

pub derives_alike : {X : Type 0} {class_of : X → ℕ} {g h : List Entry} {ss : List Symbol} {xs : List X} {es : List (Event X)} → AreAlike g h → DerivesOf class_of g ss xs es → DerivesOf class_of h ss xs es
derives_alike e nothing = nothing
derives_alike e (need k d) = need k (derives_alike e d)
derives_alike e (act d) = act (derives_alike e d)
derives_alike {class_of = class_of} {g = g} {h = h} e (rule {r = r} {ss = ss} {xs = xs} {es = es} row a d) =
    let it = row_at g h r row e a in
    rule it.row it.among
    (subst (λ (l : List Symbol). DerivesOf class_of h (l ++ ss) xs es) (sym it.symbols_are) (derives_alike e d))

pub begins_alike : {g h : List Entry} {ss : List Symbol} {front : List ℕ} → AreAlike g h → Begins g ss front → Begins h ss front
begins_alike e b = record { more = b.more; events = b.events; derives = derives_alike e b.derives }

pub lives_alike : {g h : List Entry} {ss : List Symbol} → AreAlike g h → Lives g ss → Lives h ss
lives_alike e l = record { tokens = l.tokens; events = l.events; derives = derives_alike e l.derives }

-- ---- what was fed

leads_alike : {g h : List Entry} {old new : List Symbol} {tokens : List ℕ} {events : List (Event ℕ)} → AreAlike g h → Leads g old tokens events new → Leads h old tokens events new
leads_alike e l = record {
  only = λ more es d.
      let it = l.only more es (derives_alike (sym e) d) in
      record { more = it.more; events_are = it.events_are; derives = derives_alike e it.derives };
  all = λ more es d. derives_alike e (l.all more es (derives_alike (sym e) d));
}

fed_alike : {g h : List Entry} {start expected : List Symbol} {front : List ℕ} {events : List (Event ℕ)} → AreAlike g h → Fed g start front events expected → Fed h start front events expected
fed_alike e f = record { leads = leads_alike e f.leads; lives = lives_alike e f.lives }

pub fed_tokens_alike : {X : Type 0} {class_of : X → ℕ} {g h : List Entry} {start expected : List Symbol} {tokens : List X} {events : List (Event X)} → AreAlike g h → FedTokens class_of g start tokens events expected → FedTokens class_of h start tokens events expected
fed_tokens_alike e f = record { fed = fed_alike e f.fed; taken = f.taken }

-- ---- pages

plain_symbols : (lists : List (List Symbol)) → map (λ (row : Row). row.symbols) (plain_entry lists).rows ≡ lists
plain_symbols [] = refl
plain_symbols (l ∷ lists) = λ i. l ∷ plain_symbols lists i

page_lists : {C R A : Type 0} (page : Page C R A) (rules : List R) → table_lists (map (λ (r : R). plain_entry (numbered_alternatives page r)) rules) ≡ map (numbered_alternatives page) rules
page_lists page [] = refl
page_lists page (r ∷ rules) = λ i. plain_symbols (numbered_alternatives page r) i ∷ page_lists page rules i

-- a table that stands for a page has its alternatives
pub table_is_alike : {C R A : Type 0} {page : Page C R A} {g : List Entry} → IsTableOf page g → AreAlike g (grammar_of page)
table_is_alike {page = page} t = t.lists ∙ sym (page_lists page page.rules)
