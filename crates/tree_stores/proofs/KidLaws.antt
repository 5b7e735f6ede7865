-- Sums of the kids of different trees: those of parts of trees are no more than these trees weigh.
use Rattle.std.specs.Prelude.{◌≡◌, ◌≤◌, ◌<◌, ◌+◌, ℕ, List, [], ◌∷◌, ◌++◌, Contains, length, map}
use Rattle.std.specs.List.{AllByRecursion, sum_by}
use Rattle.std.proofs.Common.{inl, inr, refl, sym, ap, subst, arith}
use Rattle.std.proofs.lemmas.List.Elements.{Contains-append_cases, Contains-append_left, Contains-append_right}
use Rattle.std.proofs.lemmas.List.Sums.{sum_by-append, sum_by-cons}
use Rattle.owl_list.specs.Ascending.{AreApart}
use Rattle.owl_list.proofs.AscendingLaws.{all_from, all_in, in_cases, in_head, in_none, in_tail}
use Rattle.owl_tree.specs.Canonical.{canonical}
use Rattle.owl_tree.specs.Trees.{Tree, Kids, leaf, node, no_kids, kid, kids_in, list_of, weight, sum_weight}
use Rattle.owl_arena.specs.Shared.{heaviest}
use Rattle.tree_stores.specs.Stores.{HaveKids, HaveManyKids, IsHeld, IsNew, IsSumWith, PassesWith, as_it_was, with_kids, Keeps, kid_count, kid_sum}

-- what stands before an element, and behind it
record IsAround {X : Type 0} (ys : List X) (y : X) : Type 0 where
  before : List X
  behind : List X
  is : ys ≡ before ++ y ∷ behind

around : {X : Type 0} (ys : List X) (y : X) → Contains ys y → IsAround ys y
around [] y m = absurd (in_none y m)
around {X} (z ∷ ys) y m =
    elim (in_cases z ys y m) [
      | inl e ↦ record { before = []; behind = ys; is = ap (λ (w : X). w ∷ ys) e }
      | inr n ↦ let a = around ys y n in record { before = z ∷ a.before; behind = a.behind; is = ap (λ (l : List X). z ∷ l) a.is }
    ]

-- elements that all differ, among those of a list, have no greater sum
within_sum : {X : Type 0} (f : X → ℕ) (xs ys : List X) → AreApart xs → ((x : X) → Contains xs x → Contains ys x) → sum_by f xs ≤ sum_by f ys
within_sum f [] ys a h = omega arith
within_sum {X} f (x ∷ xs) ys a h =
    let there = around ys x (h x (in_head x xs)) in
    let others = there.before ++ there.behind in
    let rest = within_sum f xs others a.1 (λ z m.
    elim (Contains-append_cases there.before (x ∷ there.behind) z (subst (λ (l : List X). Contains l z) there.is (h z (in_tail x xs z m)))) [
      | inl b ↦ Contains-append_left there.before there.behind z b
      | inr c ↦
          elim (in_cases x there.behind z c) [
            | inl e ↦ absurd (a.0 (subst (Contains xs) (sym e) m))
            | inr d ↦ Contains-append_right there.before there.behind z d
          ]
    ]) in
    let whole = ap (sum_by f) there.is in
    let with = sum_by-append f there.before (x ∷ there.behind) in
    let without = sum_by-append f there.before there.behind in
    let one = sum_by-cons f x xs in
    let placed = sum_by-cons f x there.behind in
    omega (arith, rest, whole, with, without, one, placed)

-- the tree, and all that is below it
abbrev mutual
  pub parts : Tree → List Tree
  parts (leaf t a) = leaf t a ∷ []
  parts (node t ks) = node t ks ∷ parts_below ks

  pub parts_below : Kids → List Tree
  parts_below no_kids = []
  parts_below (kid t ks) = parts t ++ parts_below ks

abbrev pub parts_of_all : List Tree → List Tree
parts_of_all [] = []
parts_of_all (t ∷ ts) = parts t ++ parts_of_all ts

abbrev own_kids : Tree → ℕ
own_kids t = length (kids_in t)

-- each node and leaf but the first is the kid of one
mutual
  parts_kids : (t : Tree) → sum_by own_kids (parts t) + 1 ≡ weight t
  parts_kids (leaf t a) = refl
  parts_kids (node t ks) =
      let rest = below_kids ks in
      let first = sum_by-cons own_kids (node t ks) (parts_below ks) in
      omega (arith, rest, first)

  below_kids : (ks : Kids) → length (list_of ks) + sum_by own_kids (parts_below ks) ≡ sum_weight ks
  below_kids no_kids = refl
  below_kids (kid t ks) =
      let first = parts_kids t in
      let rest = below_kids ks in
      let both = sum_by-append own_kids (parts t) (parts_below ks) in
      omega (arith, first, rest, both)

pub all_parts_kids : (ts : List Tree) → sum_by own_kids (parts_of_all ts) ≤ sum_by weight ts
all_parts_kids [] = omega arith
all_parts_kids (t ∷ ts) =
    let first = parts_kids t in
    let rest = all_parts_kids ts in
    let both = sum_by-append own_kids (parts t) (parts_of_all ts) in
    let weights = sum_by-cons weight t ts in
    omega (arith, first, rest, both, weights)

pub itself_part : (t : Tree) → Contains (parts t) t
itself_part (leaf t a) = in_head (leaf t a) []
itself_part (node t ks) = in_head (node t ks) (parts_below ks)

pub kid_parts : (ks : Kids) (u t : Tree) → Contains (list_of ks) u → Contains (parts u) t → Contains (parts_below ks) t
kid_parts no_kids u t m n = absurd (in_none u m)
kid_parts (kid v ks) u t m n =
    elim (in_cases v (list_of ks) u m) [
      | inl e ↦ Contains-append_left (parts v) (parts_below ks) t (subst (λ w. Contains (parts w) t) (sym e) n)
      | inr i ↦ Contains-append_right (parts v) (parts_below ks) t (kid_parts ks u t i n)
    ]

pub in_parts_of_all : (ts : List Tree) (u t : Tree) → Contains ts u → Contains (parts u) t → Contains (parts_of_all ts) t
in_parts_of_all [] u t m n = absurd (in_none u m)
in_parts_of_all (v ∷ ts) u t m n =
    elim (in_cases v ts u m) [
      | inl e ↦ Contains-append_left (parts v) (parts_of_all ts) t (subst (λ w. Contains (parts w) t) (sym e) n)
      | inr i ↦ Contains-append_right (parts v) (parts_of_all ts) t (in_parts_of_all ts u t i n)
    ]

sum_of_forms : (ts : List Tree) → sum_by own_kids (map canonical ts) ≡ kid_sum ts
sum_of_forms [] = refl
sum_of_forms (t ∷ ts) =
    let rest = sum_of_forms ts in
    let first = sum_by-cons own_kids (canonical t) (map canonical ts) in
    let second = sum_by-cons kid_count t ts in
    omega (arith, rest, first, second)

forms_in : (P : Tree → Type 0) (ts : List Tree) → AllByRecursion P ts → (form : Tree) → Contains (map canonical ts) form → (t : Tree) × P t × (canonical t ≡ form)
forms_in P [] each form m = absurd (in_none form m)
forms_in P (t ∷ ts) each form m =
    elim (in_cases (canonical t) (map canonical ts) form m) [
      | inl e ↦ (t, each.0, e)
      | inr n ↦ forms_in P ts each.1 form n
    ]

-- Trees of which no two are equivalent, and each of which is a part of these, or a tree without kids, have no more kids than these weigh.
pub kids_weigh : (P : Tree → Type 0) (wholes : List Tree) (none : Tree) → kids_in none ≡ [] →
    ((t : Tree) → P t → Contains (none ∷ parts_of_all wholes) (canonical t)) → (ts : List Tree) → AreApart (map canonical ts) → AllByRecursion P ts →
    kid_sum ts ≤ sum_by weight wholes
kids_weigh P wholes none empty within ts apart each =
    let most = within_sum own_kids (map canonical ts) (none ∷ parts_of_all wholes) apart (λ form m.
    let is = forms_in P ts each form m in
    subst (Contains (none ∷ parts_of_all wholes)) is.2 (within is.0 is.1)) in
    let same = sum_of_forms ts in
    let all = all_parts_kids wholes in
    let first = sum_by-cons own_kids none (parts_of_all wholes) in
    let zero = ap length empty in
    omega (arith, most, same, all, zero, first)

-- sums, as a store takes more

held_still : {N : Type 0} (Old New : Tree → N → Type 0) → Keeps Old New → (ts : List Tree) → AllByRecursion (IsHeld Old) ts → AllByRecursion (IsHeld New) ts
held_still Old New kept ts held =
    all_from (IsHeld New) ts (λ t m. let is = all_in (IsHeld Old) ts t held m in record { number = is.number; stands = kept t is.number is.stands })

kids_apart : {N : Type 0} (Old : Tree → N → Type 0) (t : Tree) (kids : ℕ) → IsNew Old t kids → (ts : List Tree) → AllByRecursion (IsHeld Old) ts →
    Contains (map canonical ts) (canonical t) → ⊥
kids_apart Old t kids new ts held m = let is = forms_in (IsHeld Old) ts held (canonical t) m in new.apart is.0 is.1.number is.1.stands is.2

module _ {N : Type 0} (P : Tree → Type 0) where
  pub none_have_kids : (Stands : Tree → N → Type 0) → HaveKids P Stands 0
  none_have_kids Stands = record { trees = []; apart = tt; each = tt; held = tt; many = omega arith }

  pub kids_kept : (Old New : Tree → N → Type 0) (sum : ℕ) → Keeps Old New → HaveKids P Old sum → HaveKids P New sum
  kids_kept Old New sum kept h = record { trees = h.trees; apart = h.apart; each = h.each; held = held_still Old New kept h.trees h.held; many = h.many }

  more_have_kids : (Old New : Tree → N → Type 0) (sum kids : ℕ) (t : Tree) (n : N) → Keeps Old New → HaveKids P Old sum → P t → New t n → IsNew Old t kids →
      HaveKids P New (sum + kids)
  more_have_kids Old New sum kids t n kept h own stands new = record {
    trees = t ∷ h.trees;
    apart = (kids_apart Old t kids new h.trees h.held, h.apart);
    each = (own, h.each);
    held = (record { number = n; stands = stands }, held_still Old New kept h.trees h.held);
    many = let first = h.many in let more = new.many in let both = sum_by-cons kid_count t h.trees in omega (arith, first, more, both);
  }

  pub sum_has_kids : (Old New : Tree → N → Type 0) (sum other : ℕ) (t : Tree) (n : N) → Keeps Old New → HaveKids P Old sum → P t → New t n → IsSumWith Old t sum other →
      HaveKids P New other
  sum_has_kids Old New sum _ t n kept h own stands as_it_was = kids_kept Old New sum kept h
  sum_has_kids Old New sum _ t n kept h own stands (with_kids kids new) = more_have_kids Old New sum kids t n kept h own stands new

  have_many_kids : (Stands : Tree → N → Type 0) (sum : ℕ) → HaveKids P Stands sum → heaviest < sum → HaveManyKids P
  have_many_kids Stands sum h more = record { trees = h.trees; apart = h.apart; each = h.each; many = let most = h.many in omega (arith, most, more) }

  pub passed_has_many : (Old New : Tree → N → Type 0) (sum : ℕ) (t : Tree) (n : N) → Keeps Old New → HaveKids P Old sum → P t → New t n → PassesWith Old t sum → HaveManyKids P
  passed_has_many Old New sum t n kept h own stands p = have_many_kids New (sum + p.kids) (more_have_kids Old New sum p.kids t n kept h own stands p.new) p.beyond

pub many_kids_of : (P Q : Tree → Type 0) → ((t : Tree) → P t → Q t) → HaveManyKids P → HaveManyKids Q
many_kids_of P Q into h = record { trees = h.trees; apart = h.apart; each = all_from Q h.trees (λ t m. into t (all_in P h.trees t h.each m)); many = h.many }
