-- The laws of trees that are held.
use Rattle.std.proofs.Common.{◌≡◌, ◌<◌, ◌≤◌, ◌+◌, ◌⊎◌, ℕ, List, [], ◌∷◌, ◌++◌, length, map, Contains, inl, inr, refl, sym, ap, ◌∙◌, subst, arith}
use Rattle.std.specs.List.{AllByRecursion}
use Rattle.std.proofs.lemmas.Bool.{cases_lt}
use Rattle.std.proofs.lemmas.List.{get_or_append_left, get_or_at, get_or_default, length-append, length_push}
use Rattle.owl_list.proofs.AscendingLaws.{all_in, all_pushed}
use Rattle.owl_tree.specs.Canonical.{canonical}
use Rattle.owl_tree.specs.Equivalence.{IsEquivalent}
use Rattle.owl_tree.proofs.EquivalenceLaws.{equivalent_is_equal_form, equivalent_refl}
use Rattle.owl_tree.specs.Trees.{Tree}
use Rattle.owl_arena.specs.Growth.{Lacks}
use Rattle.owl_arena.specs.Held.{AreHeld, tree_at, trees_at}
use Rattle.owl_arena.specs.Shared.{AreShared, HaveOneNumber, IsEntry, TellEquivalence, most_trees}

-- the trees with the numbers below this one are the same in both lists
abbrev pub AgreeBelow : ℕ → List Tree → List Tree → Type 0
AgreeBelow n ts us = (k : ℕ) → k < n → tree_at ts k ≡ tree_at us k

pub more_agrees : (ts us : List Tree) → AgreeBelow (length ts) (ts ++ us) ts
more_agrees ts us k h = get_or_append_left ts us _ k h

pub trees_agree : (n : ℕ) (ts us : List Tree) → AgreeBelow n ts us → (ids : List ℕ) → AllByRecursion (λ id. id < n) ids → trees_at ts ids ≡ trees_at us ids
trees_agree n ts us h [] b = refl
trees_agree n ts us h (id ∷ ids) b = let e = h id b.0 in let f = trees_agree n ts us h ids b.1 in cc

-- what is added behind them changes no kids
pub kids_stay : (ts us : List Tree) (ids : List ℕ) → AreHeld ts ids → trees_at (ts ++ us) ids ≡ trees_at ts ids
kids_stay ts us ids h = trees_agree (length ts) (ts ++ us) ts (more_agrees ts us) ids h

pub tree_inside : (ts : List Tree) (k : ℕ) → k < length ts → Contains ts (tree_at ts k)
tree_inside ts k h = (k, h, get_or_default ts k _ _ h)

pub entry_at : (ts : List Tree) (k : ℕ) → AreShared ts → k < length ts → IsEntry (tree_at ts k)
entry_at ts k shared h = all_in IsEntry ts (tree_at ts k) shared.entries (tree_inside ts k h)

pub kids_canonical : (ts : List Tree) → AreShared ts → (ids : List ℕ) → AreHeld ts ids → map canonical (trees_at ts ids) ≡ trees_at ts ids
kids_canonical ts shared [] h = refl
kids_canonical ts shared (id ∷ ids) h = let e = (entry_at ts id shared h.0).canonical in let f = kids_canonical ts shared ids h.1 in cc

pub tells_equivalence : (ts : List Tree) → AreShared ts → TellEquivalence ts
tells_equivalence ts shared a b h k = (
  λ e. subst (λ (n : ℕ). IsEquivalent (tree_at ts a) (tree_at ts n)) e (equivalent_refl (tree_at ts a)),
  λ e.
      let same = (equivalent_is_equal_form (tree_at ts a) (tree_at ts b)).0 e in
      let one = (entry_at ts a shared h).canonical in
      let other = (entry_at ts b shared k).canonical in
      shared.one_number a b h k (sym one ∙ same ∙ other),
)

-- kids that have the same trees are the same
pub same_kids : (ts : List Tree) → HaveOneNumber ts → (ks ls : List ℕ) → AllByRecursion (λ k. k < length ts) ks → AllByRecursion (λ k. k < length ts) ls → trees_at ts ks ≡ trees_at ts ls → ks ≡ ls
same_kids ts one [] [] h k e = refl
same_kids ts one [] (l ∷ ls) h k e = cc
same_kids ts one (k ∷ ks) [] h g e = cc
same_kids ts one (k ∷ ks) (l ∷ ls) h g e =
    let first = one k l h.0 g.0 (cc) in
    let rest = same_kids ts one ks ls h.1 g.1 (cc) in
    cc

pub below_later : (ids : List ℕ) (m n : ℕ) → m ≤ n → AllByRecursion (λ k. k < m) ids → AllByRecursion (λ k. k < n) ids
below_later [] m n h b = tt
below_later (id ∷ ids) m n h b = let first = b.0 in (omega arith, below_later ids m n h b.1)

pub held_more : (ts us : List Tree) (ids : List ℕ) → AreHeld ts ids → AreHeld (ts ++ us) ids
held_more ts us ids h = below_later ids (length ts) (length (ts ++ us)) (omega (arith, length-append ts us)) h

-- one more tree
new_tree_at : (ts : List Tree) (t : Tree) → tree_at (ts ++ t ∷ []) (length ts) ≡ t
new_tree_at ts t = get_or_at ts t [] _ (length ts) refl

not_at : (ts : List Tree) (t : Tree) → Lacks ts t → (k : ℕ) → k < length ts → tree_at ts k ≡ t → ⊥
not_at ts t lacks k h e = lacks (subst (Contains ts) e (tree_inside ts k h))

below_or_last : (a n : ℕ) → a < n + 1 → (a < n) ⊎ (a ≡ n)
below_or_last a n h = elim (cases_lt a n) [ inl l ↦ inl l | inr l ↦ inr (omega arith) ]

one_number_more : (ts : List Tree) (t : Tree) → HaveOneNumber ts → Lacks ts t → HaveOneNumber (ts ++ t ∷ [])
one_number_more ts t one lacks a b h k e =
    let more = length_push ts t in
    elim (below_or_last a (length ts) (omega arith)) [
      | inl l ↦ elim (below_or_last b (length ts) (omega arith)) [
        | inl m ↦ one a b l m (sym (more_agrees ts (t ∷ []) a l) ∙ e ∙ more_agrees ts (t ∷ []) b m)
        | inr m ↦ absurd (not_at ts t lacks a l (sym (more_agrees ts (t ∷ []) a l) ∙ e ∙ ap (tree_at (ts ++ t ∷ [])) m ∙ new_tree_at ts t))
      ]
      | inr l ↦ elim (below_or_last b (length ts) (omega arith)) [
        | inl m ↦ absurd (not_at ts t lacks b m (sym (more_agrees ts (t ∷ []) b m) ∙ sym e ∙ ap (tree_at (ts ++ t ∷ [])) l ∙ new_tree_at ts t))
        | inr m ↦ l ∙ sym m
      ]
    ]

pub shared_more : (ts : List Tree) (t : Tree) → AreShared ts → IsEntry t → Lacks ts t → length ts < most_trees → AreShared (ts ++ t ∷ [])
shared_more ts t shared entry lacks room =
    let more = length_push ts t in
    record { entries = all_pushed IsEntry ts t shared.entries entry; one_number = one_number_more ts t shared.one_number lacks; few = omega arith }
