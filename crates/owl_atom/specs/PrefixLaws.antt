-- Look-ups and edits of tables of prefixes, whose names ascend.
use Rattle.std.proofs.Common.{◌≡◌, ◌≢◌, ◌<◌, ◌≤◌, ℕ, zero, suc, true, false, cond, List, [], ◌∷◌, length, Some, None, refl, sym, ap, ◌∙◌, subst, set, arith, ◌⊎◌, inl, inr, Bool, Option}
use Rattle.std.specs.Prelude.{slice_get, insert, Contains}
use Rattle.std.specs.declared.cmp.Ordering.{Ordering}
use Rattle.std.specs.declared.cmp.Ordering.TheVariants.{Less, Equal, Greater}
use Rattle.std.specs.List.{AllByRecursion}
use Rattle.std.proofs.lemmas.Option.{same_Some, slice_get-get_or}
use Rattle.std.proofs.lemmas.Slice.Eq.{bytes_eq-Decides}
use Rattle.owl_characters.specs.Names.{IsPrefixName}
use Rattle.owl_characters.specs.Order.{text_cmp, text_eq}
use Rattle.owl_characters.specs.OrderLaws.{same_texts, turned, equal, unequal, less_unequal, greater_unequal, texts_total}
use Rattle.owl_atom.specs.declared.prefixes.Prefix.{Prefix}
use Rattle.owl_atom.specs.Prefixes.{AreAscending, prefix_in, IsBetter, is_plain_start, is_plain_character}
use Rattle.std.proofs.lemmas.Bool.Decides.{nat_tests}
use Rattle.owl_atom.specs.Places.{IsPlaceOf, IsGapFor}

-- looking up past the first prefix, and at it

pub passed : (prefix : Prefix) (others : List Prefix) (name : List ℕ) → text_eq prefix.name name ≡ false → prefix_in (prefix ∷ others) name ≡ prefix_in others name
passed prefix others name e = ap (λ b. cond b (Some prefix) (prefix_in others name)) e

pub met : (prefix : Prefix) (others : List Prefix) (name : List ℕ) → prefix.name ≡ name → prefix_in (prefix ∷ others) name ≡ Some prefix
met prefix others name e = ap (λ b. cond b (Some prefix) (prefix_in others name)) (equal prefix.name name e)

-- a name that is less than those of these prefixes, and one that is greater

abbrev pub Below : List ℕ → List Prefix → Type 0
Below name prefixes = AllByRecursion (λ other. text_cmp name other.name ≡ Less) prefixes

abbrev pub Above : List ℕ → List Prefix → Type 0
Above name prefixes = AllByRecursion (λ other. text_cmp other.name name ≡ Less) prefixes

pub below_too : (a b : List ℕ) (prefixes : List Prefix) → text_cmp a b ≡ Less → Below b prefixes → Below a prefixes
below_too a b [] e h = tt
below_too a b (x ∷ xs) e h = (texts_total.trans a b x.name e h.0, below_too a b xs e h.1)

pub below_none : (name : List ℕ) (prefixes : List Prefix) → Below name prefixes → prefix_in prefixes name ≡ None
below_none name [] h = refl
below_none name (x ∷ xs) h = passed x xs name (greater_unequal x.name name h.0) ∙ below_none name xs h.1

pub below_get : (name : List ℕ) (prefixes : List Prefix) (place : ℕ) (prefix : Prefix) → Below name prefixes → slice_get prefixes place ≡ Some prefix → text_cmp name prefix.name ≡ Less
below_get name [] place prefix h e = absurd (cc)
below_get name (x ∷ xs) zero prefix h e = subst (λ (q : Prefix). text_cmp name q.name ≡ Less) (same_Some x prefix e) h.0
below_get name (x ∷ xs) (suc place) prefix h e = below_get name xs place prefix h.1 e

below_set : (name : List ℕ) (prefixes : List Prefix) (place : ℕ) (new : Prefix) → Below name prefixes → text_cmp name new.name ≡ Less → Below name (set prefixes place new)
below_set name [] place new h e = tt
below_set name (x ∷ xs) zero new h e = (e, h.1)
below_set name (x ∷ xs) (suc place) new h e = (h.0, below_set name xs place new h.1 e)

below_insert : (name : List ℕ) (prefixes : List Prefix) (place : ℕ) (new : Prefix) → Below name prefixes → text_cmp name new.name ≡ Less → Below name (insert prefixes place new)
below_insert name [] zero new h e = (e, tt)
below_insert name [] (suc place) new h e = (e, tt)
below_insert name (x ∷ xs) zero new h e = (e, h)
below_insert name (x ∷ xs) (suc place) new h e = (h.0, below_insert name xs place new h.1 e)

-- what stands at a place

pub absent : (prefixes : List Prefix) (name : List ℕ) (place : ℕ) → AreAscending prefixes → IsGapFor prefixes name place → prefix_in prefixes name ≡ None
absent [] name place up gap = refl
absent (x ∷ xs) name zero up gap = below_none name (x ∷ xs) (gap, below_too name x.name xs gap up.0)
absent (x ∷ xs) name (suc place) up gap = passed x xs name (less_unequal x.name name gap.0) ∙ absent xs name place up.1 gap.1

-- the prefix at the place of a name has the name, and is the one that is looked up
pub record IsFound (prefixes : List Prefix) (name : List ℕ) (prefix : Prefix) : Type 0 where
  pub named : prefix.name ≡ name
  pub looked_up : prefix_in prefixes name ≡ Some prefix

pub found : (prefixes : List Prefix) (name : List ℕ) (place : ℕ) (prefix : Prefix) → IsPlaceOf prefixes name place → slice_get prefixes place ≡ Some prefix → IsFound prefixes name prefix
found [] name place prefix h e = absurd h
found (x ∷ xs) name zero prefix h e = record { named = ap (λ (q : Prefix). q.name) (sym (same_Some x prefix e)) ∙ h; looked_up = met x xs name h ∙ e }
found (x ∷ xs) name (suc place) prefix h e =
    let rest = found xs name place prefix h.1 e in
    record { named = rest.named; looked_up = passed x xs name (less_unequal x.name name h.0) ∙ rest.looked_up }

-- each prefix stands at the place of its name
pub stands : (prefixes : List Prefix) (place : ℕ) (prefix : Prefix) → AreAscending prefixes → slice_get prefixes place ≡ Some prefix → IsPlaceOf prefixes prefix.name place
stands [] place prefix up e = absurd (cc)
stands (x ∷ xs) zero prefix up e = ap (λ (q : Prefix). q.name) (same_Some x prefix e)
stands (x ∷ xs) (suc place) prefix up e = (below_get x.name xs place prefix up.0 e, stands xs place prefix up.1 e)

-- edits of one name

abbrev pub AreNamed : List Prefix → Type 0
AreNamed prefixes = AllByRecursion (λ prefix. IsPrefixName prefix.name) prefixes

pub record SetsOnly (old new : List Prefix) (name : List ℕ) (prefix : Prefix) : Type 0 where
  pub here : prefix_in new name ≡ Some prefix
  pub others : (other : List ℕ) → other ≢ name → prefix_in new other ≡ prefix_in old other
  pub ascending : AreAscending new
  pub names : AreNamed old → IsPrefixName name → AreNamed new

other_name : (prefix : Prefix) (name other : List ℕ) → prefix.name ≡ name → other ≢ name → text_eq prefix.name other ≡ false
other_name prefix name other e ne = unequal prefix.name other (λ same. ne (sym same ∙ e))

pub set_at : (prefixes : List Prefix) (name : List ℕ) (place : ℕ) (new : Prefix) → AreAscending prefixes → IsPlaceOf prefixes name place → new.name ≡ name → SetsOnly prefixes (set prefixes place new) name new
set_at [] name place new up h e = absurd h
set_at (x ∷ xs) name zero new up h e = record {
  here = met new xs name e;
  others = λ other ne. passed new xs other (other_name new name other e ne) ∙ sym (passed x xs other (other_name x name other h ne));
  ascending = (subst (λ n. Below n xs) (h ∙ sym e) up.0, up.1);
  names = λ all n. (subst IsPrefixName (sym e) n, all.1);
}
set_at (x ∷ xs) name (suc place) new up h e =
    let rest = set_at xs name place new up.1 h.1 e in
    record {
      here = passed x (set xs place new) name (less_unequal x.name name h.0) ∙ rest.here;
      others = λ other ne. ap (λ r. cond (text_eq x.name other) (Some x) r) (rest.others other ne);
      ascending = (below_set x.name xs place new up.0 (subst (λ n. text_cmp x.name n ≡ Less) (sym e) h.0), rest.ascending);
      names = λ all n. (all.0, rest.names all.1 n);
    }

pub insert_at : (prefixes : List Prefix) (name : List ℕ) (place : ℕ) (new : Prefix) → AreAscending prefixes → IsGapFor prefixes name place → new.name ≡ name → SetsOnly prefixes (insert prefixes place new) name new
insert_at [] name zero new up gap e = record {
  here = met new [] name e;
  others = λ other ne. passed new [] other (other_name new name other e ne);
  ascending = (tt, tt);
  names = λ all n. (subst IsPrefixName (sym e) n, tt);
}
insert_at [] name (suc place) new up gap e = absurd gap
insert_at (x ∷ xs) name zero new up gap e =
    let less : text_cmp new.name x.name ≡ Less = subst (λ n. text_cmp n x.name ≡ Less) (sym e) gap in
    record {
      here = met new (x ∷ xs) name e;
      others = λ other ne. passed new (x ∷ xs) other (other_name new name other e ne);
      ascending = ((less, below_too new.name x.name xs less up.0), up);
      names = λ all n. (subst IsPrefixName (sym e) n, all);
    }
insert_at (x ∷ xs) name (suc place) new up gap e =
    let rest = insert_at xs name place new up.1 gap.1 e in
    record {
      here = passed x (insert xs place new) name (less_unequal x.name name gap.0) ∙ rest.here;
      others = λ other ne. ap (λ r. cond (text_eq x.name other) (Some x) r) (rest.others other ne);
      ascending = (below_insert x.name xs place new up.0 (subst (λ n. text_cmp x.name n ≡ Less) (sym e) gap.0), rest.ascending);
      names = λ all n. (all.0, rest.names all.1 n);
    }

-- A table is told by what is looked up in it.

never_none : (o : Option Prefix) (prefix : Prefix) → o ≡ Some prefix → o ≡ None → ⊥
never_none o prefix e f = cc

first_is_least : (p q : Prefix) (ps qs : List Prefix) → AreAscending (q ∷ qs) → prefix_in (p ∷ ps) p.name ≡ prefix_in (q ∷ qs) p.name → text_cmp p.name q.name ≡ Less → ⊥
first_is_least p q ps qs up e less =
    never_none (prefix_in (q ∷ qs) p.name) p (sym e ∙ met p ps p.name refl) (below_none p.name (q ∷ qs) (less, below_too p.name q.name qs less up.0))

same_first : (order : Ordering) (p q : Prefix) (ps qs : List Prefix) → AreAscending (p ∷ ps) → AreAscending (q ∷ qs) → ((name : List ℕ) → prefix_in (p ∷ ps) name ≡ prefix_in (q ∷ qs) name) → text_cmp p.name q.name ≡ order → p ≡ q
same_first Less p q ps qs up down e is = absurd (first_is_least p q ps qs down (e p.name) is)
same_first Equal p q ps qs up down e is =
    same_Some p q (sym (met p ps p.name refl) ∙ e p.name ∙ met q qs p.name (sym (same_texts p.name q.name is)))
same_first Greater p q ps qs up down e is = absurd (first_is_least q p qs ps up (sym (e q.name)) (turned p.name q.name is))

same_behind : (test : Bool) (p q : Prefix) (ps qs : List Prefix) (name : List ℕ) → AreAscending (p ∷ ps) → AreAscending (q ∷ qs) → p ≡ q → prefix_in (p ∷ ps) name ≡ prefix_in (q ∷ qs) name → text_eq p.name name ≡ test → prefix_in ps name ≡ prefix_in qs name
same_behind true p q ps qs name up down same e is =
    let n : p.name ≡ name = (bytes_eq-Decides p.name name).0 is in
    let m : q.name ≡ name = ap (λ (x : Prefix). x.name) (sym same) ∙ n in
    below_none name ps (subst (λ (x : List ℕ). Below x ps) n up.0) ∙ sym (below_none name qs (subst (λ (x : List ℕ). Below x qs) m down.0))
same_behind false p q ps qs name up down same e is =
    sym (passed p ps name is) ∙ e ∙ passed q qs name (ap (λ (x : Prefix). text_eq x.name name) (sym same) ∙ is)

pub tables_are_told_by_names : (ps qs : List Prefix) → AreAscending ps → AreAscending qs → ((name : List ℕ) → prefix_in ps name ≡ prefix_in qs name) → ps ≡ qs
tables_are_told_by_names [] [] up down e = refl
tables_are_told_by_names [] (q ∷ qs) up down e = absurd (never_none _ q (met q qs q.name refl) (sym (e q.name)))
tables_are_told_by_names (p ∷ ps) [] up down e = absurd (never_none _ p (met p ps p.name refl) (e p.name))
tables_are_told_by_names (p ∷ ps) (q ∷ qs) up down e =
    let first : p ≡ q = same_first (text_cmp p.name q.name) p q ps qs up down e refl in
    let others : ps ≡ qs = tables_are_told_by_names ps qs up.1 down.1 (λ name. same_behind (text_eq p.name name) p q ps qs name up down first (e name) refl) in
    cc

-- which prefix is better

less_or_same : (m n : ℕ) → m ≤ n → (m < n) ⊎ (m ≡ n)
less_or_same zero zero h = inr refl
less_or_same zero (suc n) h = inl (omega arith)
less_or_same (suc m) zero h = absurd (omega arith)
less_or_same (suc m) (suc n) h = elim (less_or_same m n (omega arith)) as (λ _. (suc m < suc n) ⊎ (suc m ≡ suc n)) [ inl lt ↦ inl (omega arith) | inr e ↦ inr (ap suc e) ]

-- an earlier prefix that is no shorter is better
pub earlier_better : (p q : Prefix) → length q.iri ≤ length p.iri → text_cmp p.name q.name ≡ Less → IsBetter p q
earlier_better p q le less = elim (less_or_same (length q.iri) (length p.iri) le) as (λ _. IsBetter p q) [ inl lt ↦ inl lt | inr e ↦ inr (e, less) ]

pub contained : (prefixes : List Prefix) (other : Prefix) (h : Contains prefixes other) → slice_get prefixes h.0 ≡ Some other
contained prefixes other h = slice_get-get_or prefixes h.0 other h.1 ∙ ap Some h.2

-- local parts

pub start_is_plain : (c : ℕ) → is_plain_start c ≡ true → is_plain_character c ≡ true
start_is_plain c h = grind (arith, nat_tests)
