-- The rows of the table are the alternatives of the page, each at the number of its rule.
use Rattle.std.proofs.Common.{◌≡◌, ℕ, zero, suc, ◌+◌, Bool, true, false, cond, List, [], ◌∷◌, map, filter, Some, slice_get, get_or, nat_lt, pred, refl, sym, ◌∙◌, subst, arith}
use Rattle.grammar.specs.Grammars.{Among, Entry, Row, entry, no_entry}
use Rattle.grammar.specs.Grammars.Among.{behind, here}
use Rattle.grammar.specs.Pages.{IsIn, numbered, numbered_alternatives, numbers_from, table_lists}
use Rattle.grammar.specs.Pages.IsIn.{first, later}
use Rattle.grammar.specs.declared.symbol.Symbol.{Symbol}
use Rattle.owl_tree.specs.declared.row.Sort.{Sort}
use Rattle.owl_tree.specs.declared.row.Sort.TheVariants as sort
use Rattle.owl_tree.specs.declared.tag.Tag.{Tag}
use Rattle.owl_tree.specs.declared.tag.Tag.TheVariants as tag
use Rattle.owl_tree.specs.Tags.{all_tags, number_of}
use Rattle.fss_grammar.specs.Page.{Names, Rule, alternatives, no_rule, page, rule_number, rules}
use Rattle.fss_grammar.specs.Page.Rule.{many, maybe, one}
use Rattle.fss_grammar.proofs.PageTable.{stands_for_page}
use Rattle.fss_grammar.specs.Table.{functional}

-- ---- lists

-- what is in a list that was made of another comes of an item of it
pub record ComesOf {X Y : Type 0} (f : X → Y) (xs : List X) (y : Y) : Type 0 where
  pub item : X
  pub is_in : IsIn item xs
  pub is : y ≡ f item

pub from_map : {X Y : Type 0} (f : X → Y) (xs : List X) {y : Y} → IsIn y (map f xs) → ComesOf f xs y
from_map f [] i = elim i [ ]
from_map f (x ∷ xs) first = record { item = x; is_in = first; is = refl }
from_map f (x ∷ xs) (later i) = let it = from_map f xs i in record { item = it.item; is_in = later it.is_in; is = it.is }

pub to_map : {X Y : Type 0} (f : X → Y) {x : X} {xs : List X} → IsIn x xs → IsIn (f x) (map f xs)
to_map f first = first
to_map f (later i) = later (to_map f i)

first_or_later : {X : Type 0} (test : X → Bool) (x y : X) (xs : List X) (b : Bool) → test x ≡ b → (IsIn y (filter test xs) → test y ≡ true) → IsIn y (cond b (x ∷ filter test xs) (filter test xs)) → test y ≡ true
first_or_later test x y xs true e go first = e
first_or_later test x y xs true e go (later j) = go j
first_or_later test x y xs false e go j = go j

pub from_filter : {X : Type 0} (test : X → Bool) (xs : List X) {x : X} → IsIn x (filter test xs) → test x ≡ true
from_filter test [] i = elim i [ ]
from_filter test (x ∷ xs) {x = y} i = first_or_later test x y xs (test x) refl (from_filter test xs) i

later_or_same : {X : Type 0} (x y : X) (xs : List X) (b : Bool) → IsIn x xs → IsIn x (cond b (y ∷ xs) xs)
later_or_same x y xs true i = later i
later_or_same x y xs false i = i

pub to_filter : {X : Type 0} (test : X → Bool) {x : X} {xs : List X} → IsIn x xs → test x ≡ true → IsIn x (filter test xs)
to_filter test {x = x} (first {xs = xs}) e =
    subst (λ (b : Bool). IsIn x (cond b (x ∷ filter test xs) (filter test xs))) (sym e) first
to_filter test {x = x} (later {y = y} {xs = xs} i) e = later_or_same x y (filter test xs) (test y) (to_filter test i e)

pub is_in_at : {X : Type 0} (xs : List X) (n : ℕ) (x : X) → slice_get xs n ≡ Some x → IsIn x xs
is_in_at [] n x e = absurd (cc)
is_in_at (y ∷ xs) zero x e = let same : y ≡ x = cc in subst (λ z. IsIn z (y ∷ xs)) same first
is_in_at (y ∷ xs) (suc n) x e = later (is_in_at xs n x e)

tag_at : (t : Tag) → slice_get all_tags (pred (number_of t)) ≡ Some t
unfolding all_tags number_of
tag_at tag.Class = refl
tag_at _ = refl

pub each_tag : (t : Tag) → IsIn t all_tags
each_tag t = is_in_at all_tags (pred (number_of t)) t (tag_at t)

-- ---- the rule of a number

-- the rule has this number, and the table goes so far
abbrev pub IsPlaced : Rule → Type 0
IsPlaced r = slice_get rules (rule_number r) ≡ Some r

pub one_is_placed : (s : Sort) → IsPlaced (one s)
one_is_placed sort.Notes = refl
one_is_placed _ = refl

abbrev pub is_within : Rule → Bool
is_within r = nat_lt (rule_number r) no_rule

pub many_is_placed : (s : Sort) → is_within (many s) ≡ true → IsPlaced (many s)
many_is_placed sort.Annotation h = refl
many_is_placed sort.ClassExpression h = refl
many_is_placed sort.DataRange h = refl
many_is_placed sort.ObjectPropertyExpression h = refl
many_is_placed sort.DataPropertyExpression h = refl
many_is_placed sort.Individual h = refl
many_is_placed sort.Literal h = refl
many_is_placed sort.FacetPair h = refl
many_is_placed _ h = absurd (cc)

pub maybe_is_placed : (s : Sort) → is_within (maybe s) ≡ true → IsPlaced (maybe s)
maybe_is_placed sort.ClassExpression h = refl
maybe_is_placed sort.DataRange h = refl
maybe_is_placed _ h = absurd (cc)

number_at : (rs : List Rule) (k n : ℕ) (r : Rule) → map rule_number rs ≡ numbers_from k rs → slice_get rs n ≡ Some r → rule_number r ≡ k + n
number_at [] k n r e h = absurd (cc)
number_at (q ∷ rs) k zero r e h =
    let same : q ≡ r = cc in
    let number : rule_number q ≡ k = cc in
    subst (λ q. rule_number q ≡ k + 0) same (number ∙ omega arith)
number_at (q ∷ rs) k (suc n) r e h = number_at rs (k + 1) n r (cc) h ∙ omega arith

-- the rule of a number has the number
pub placed_at : (n : ℕ) (r : Rule) → slice_get rules n ≡ Some r → IsPlaced r
placed_at n r h =
    let same : rule_number r ≡ n = number_at rules 0 n r stands_for_page.numbers h ∙ omega arith in
    subst (λ k. slice_get rules k ≡ Some r) (sym same) h

-- ---- from rows to alternatives

among_symbols : (rows : List Row) {row : Row} → Among row rows → IsIn row.symbols (map (λ (r : Row). r.symbols) rows)
among_symbols [] a = elim a [ ]
among_symbols (row ∷ rows) here = first
among_symbols (other ∷ rows) (behind a) = later (among_symbols rows a)

-- an alternative of the rule of a number, by names
pub record IsAlternative (n : ℕ) (symbols : List Symbol) : Type 0 where
  pub rule : Rule
  pub stands : slice_get rules n ≡ Some rule
  pub names : Names
  pub among : IsIn names (alternatives rule)
  pub symbols_are : symbols ≡ map (numbered page) names

-- the rule of a number, with what the table has there
record Stands (rs : List Rule) (g : List Entry) (n : ℕ) : Type 0 where
  rule : Rule
  stands : slice_get rs n ≡ Some rule
  lists : map (λ (row : Row). row.symbols) (get_or g n no_entry).rows ≡ numbered_alternatives page rule

stands_at : (rs : List Rule) (g : List Entry) (n : ℕ) {row : Row} → table_lists g ≡ map (numbered_alternatives page) rs → Among row (get_or g n no_entry).rows → Stands rs g n
stands_at rs [] n e a = elim a [ ]
stands_at [] (h ∷ g) n e a = absurd (cc)
stands_at (r ∷ rs) (h ∷ g) zero e a = record { rule = r; stands = refl; lists = cc }
stands_at (r ∷ rs) (h ∷ g) (suc n) e a = let it = stands_at rs g n (cc) a in record { rule = it.rule; stands = it.stands; lists = it.lists }

pub alternative_of : (n : ℕ) (row : Row) → Among row (entry functional n).rows → IsAlternative n row.symbols
alternative_of n row a =
    let it = stands_at rules functional n stands_for_page.lists a in
    let there = subst (IsIn row.symbols) it.lists (among_symbols (entry functional n).rows a) in
    let names = from_map (map (numbered page)) (alternatives it.rule) there in
    record { rule = it.rule; stands = it.stands; names = names.item; among = names.is_in; symbols_are = names.is }

-- ---- from alternatives to rows

lists_at : (rs : List Rule) (g : List Entry) (n : ℕ) (r : Rule) → table_lists g ≡ map (numbered_alternatives page) rs → slice_get rs n ≡ Some r → map (λ (row : Row). row.symbols) (get_or g n no_entry).rows ≡ numbered_alternatives page r
lists_at [] g n r e h = absurd (cc)
lists_at (q ∷ rs) [] n r e h = absurd (cc)
lists_at (q ∷ rs) (i ∷ g) zero r e h =
    let same : q ≡ r = cc in
    let lists : map (λ (row : Row). row.symbols) i.rows ≡ numbered_alternatives page q = cc in
    subst (λ q. map (λ (row : Row). row.symbols) i.rows ≡ numbered_alternatives page q) same lists
lists_at (q ∷ rs) (i ∷ g) (suc n) r e h = lists_at rs g n r (cc) h

-- a row with these symbols
pub record HasRow (r : Rule) (symbols : List Symbol) : Type 0 where
  pub row : Row
  pub among : Among row (entry functional (rule_number r)).rows
  pub symbols_are : row.symbols ≡ symbols

row_with : (rows : List Row) (symbols : List Symbol) → IsIn symbols (map (λ (r : Row). r.symbols) rows) → (row : Row) × Among row rows × (row.symbols ≡ symbols)
row_with [] symbols i = elim i [ ]
row_with (row ∷ rows) symbols first = (row, here, refl)
row_with (other ∷ rows) symbols (later i) = let it = row_with rows symbols i in (it.0, behind it.1, it.2)

pub row_for : (r : Rule) → IsPlaced r → {names : Names} → IsIn names (alternatives r) → HasRow r (map (numbered page) names)
row_for r p {names = names} i =
    let lists = lists_at rules functional (rule_number r) r stands_for_page.lists p in
    let there = subst (IsIn (map (numbered page) names)) (sym lists) (to_map (map (numbered page)) i) in
    let it = row_with (entry functional (rule_number r)).rows (map (numbered page) names) there in
    record { row = it.0; among = it.1; symbols_are = it.2 }
