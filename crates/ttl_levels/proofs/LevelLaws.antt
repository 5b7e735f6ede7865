-- The levels of nestable nodes.
use Rattle.std.specs.Prelude.{◌≡◌, ◌↔◌, ◌<◌, ◌≤◌, not, ℕ, zero, suc, Bool, true, false, nat_eq, nat_le, IsTrue, List, Contains, slice_index}
use Rattle.std.proofs.Common.{inl, inr, refl, sym, ap, ◌∙◌, subst, arith}
use Rattle.std.proofs.lemmas.Bool.{both_ways, cases_Bool, leb-false, leb-true, ne_eqb}
use Rattle.rdf_graph.specs.declared.term.Term.{Term}
use Rattle.rdf_graph.specs.declared.triple.Triple.{Triple}
use Rattle.rdf_roles.specs.Tables.{IsNode}
use Rattle.ttl_levels.specs.Nested.{HasLevel, IsInside, IsNested, IsNestedBy, IsNextLevel, IsRound, is_nestable, most_levels, rest_iri}
use Rattle.ttl_levels.specs.Nested.HasLevel.{at_top, below}
use Rattle.ttl_levels.specs.NestTables.{AreCounts, AreKnownAbove, AreLevels, IsCellCount, IsLevelFrom, IsLevelOf, IsNamer, IsValueOf}
use Rattle.ttl_levels.specs.NestTables.IsValueOf.{of_node, of_none}
use Rattle.ttl_levels.proofs.NestLaws.{leads_down, namer_inside, nestable_number, not_round_by_nestable, one_namer}

-- what is no node is not nestable
pub no_node_nests : (g : List Triple) (x : Term) → ((number : ℕ) → IsNode g x number → ⊥) → is_nestable g x ≡ false
no_node_nests g x none = elim (cases_Bool (is_nestable g x)) as (λ _. is_nestable g x ≡ false) [
  | inl t ↦ let numbered = nestable_number g x t in absurd (none numbered.number (record { label = numbered.label; is = numbered.is; at = numbered.at }))
  | inr f ↦ f
]

-- what stands at the numbers of terms

pub count_told : (g : List Triple) (cells : List ℕ) (x : Term) (n : ℕ) → AreCounts g cells → IsValueOf g cells x n → IsCellCount g x n
count_told g cells x _ are (of_node number is) = subst (λ (y : Term). IsCellCount g y (slice_index cells number)) (sym is.is) (are.each number is.label is.at)
count_told g cells x _ are (of_none none) = not_round_by_nestable g x (no_node_nests g x none)

pub level_told : (g : List Triple) (levels : List ℕ) (x : Term) (n : ℕ) → AreLevels g levels → IsValueOf g levels x n → IsLevelOf g x n
level_told g levels x _ are (of_node number is) = subst (λ (y : Term). IsLevelOf g y (slice_index levels number)) (sym is.is) (are.each number is.label is.at)
level_told g levels x _ are (of_none none) = no_node_nests g x none

some_is : (n : ℕ) → not (nat_eq (suc n) 0) ≡ true
some_is n = ap not (ne_eqb (suc n) 0 (λ e. omega (arith, e)))

pub round_told : (g : List Triple) (x : Term) (n : ℕ) → IsCellCount g x n → IsTrue (not (nat_eq n 0)) ↔ IsRound g x
round_told g x zero h = (λ e. cc, λ r. absurd (h r))
round_told g x (suc n) h = (λ e. (n, h), λ r. some_is n)

pub round_not : (g : List Triple) (x : Term) (n : ℕ) → IsCellCount g x n → n ≡ 0 → IsRound g x → ⊥
round_not g x n h e = subst (IsCellCount g x) e h

pub round_is : (g : List Triple) (x : Term) (n : ℕ) → IsCellCount g x n → (n ≡ 0 → ⊥) → IsRound g x
round_is g x zero h some = absurd (some refl)
round_is g x (suc n) h some = (n, h)

-- a level below one

pub value_above : (g : List Triple) (levels : List ℕ) (t : Triple) (number n : ℕ) → AreKnownAbove g levels number → Contains g t → IsNode g t.object number → is_nestable g t.subject ≡ true
    → IsValueOf g levels t.subject n → IsLevelOf g t.subject n
value_above g levels t number _ known m node h (of_node over is) =
    subst (λ (y : Term). IsLevelOf g y (slice_index levels over)) (sym is.is) (known over (leads_down g t.subject t over number h m refl is node) is.label is.at)
value_above g levels t number _ known m node h (of_none none) = no_node_nests g t.subject none

pub level_by : (g : List Triple) (x : Term) (t : Triple) (inside : Bool) (n level : ℕ) → IsNestedBy g x t → is_nestable g t.subject ≡ true → IsLevelOf g t.subject n → IsTrue inside ↔ IsInside g t
    → IsLevelFrom inside n level → IsLevelOf g x level
level_by g x t inside zero level by h above is from = absurd (both_ways (is_nestable g t.subject) above h)
level_by g x t inside (suc n) level by h above is (inl deep) = subst (IsLevelOf g x) (sym deep.1) (below x t (suc n) 1 by above (inl (deep.0, refl)))
level_by g x t inside (suc n) level by h above is (inr (inl stays)) = subst (IsLevelOf g x) (sym stays.2) (below x t (suc n) (suc n) by above (inr (inl (stays.0, is.0 stays.1, refl))))
level_by g x t inside (suc n) level by h above is (inr (inr deeper)) =
    let next : level ≡ suc (suc n) = omega (arith, deeper.2) in
    subst (IsLevelOf g x) (sym next)
    (below x t (suc n) (suc (suc n)) by above (inr (inr (deeper.0, λ i. let yes_is = is.1 i in let no_is = deeper.1 in cc, omega arith))))

-- one level

next_once : (g : List Triple) (t : Triple) (n m k : ℕ) → IsNextLevel g t n m → IsNextLevel g t n k → m ≡ k
next_once g t n m k (inl a) (inl b) = a.1 ∙ sym b.1
next_once g t n m k (inl a) (inr (inl b)) = absurd (omega (arith, a.0, b.0))
next_once g t n m k (inl a) (inr (inr b)) = absurd (omega (arith, a.0, b.0))
next_once g t n m k (inr (inl a)) (inl b) = absurd (omega (arith, a.0, b.0))
next_once g t n m k (inr (inl a)) (inr (inl b)) = a.2 ∙ sym b.2
next_once g t n m k (inr (inl a)) (inr (inr b)) = absurd (b.1 a.1)
next_once g t n m k (inr (inr a)) (inl b) = absurd (omega (arith, a.0, b.0))
next_once g t n m k (inr (inr a)) (inr (inl b)) = absurd (a.1 b.1)
next_once g t n m k (inr (inr a)) (inr (inr b)) = a.2 ∙ sym b.2

pub nested_once : (g : List Triple) (x : Term) (t u : Triple) → IsNestedBy g x t → IsNestedBy g x u → t ≡ u
nested_once g x t u a b = one_namer g x t u a.nestable a.inside a.object b.inside b.object

pub level_nestable : (g : List Triple) (x : Term) (n : ℕ) → HasLevel g x n → is_nestable g x ≡ true
level_nestable g x _ (at_top _ t by top) = by.nestable
level_nestable g x _ (below _ t n m by above next) = by.nestable

pub level_once : (g : List Triple) (x : Term) (m k : ℕ) → HasLevel g x m → HasLevel g x k → m ≡ k
level_once g x _ _ (at_top _ t by top) (at_top _ u by_u top_u) = refl
level_once g x _ _ (at_top _ t by top) (below _ u n k by_u above next) =
    absurd (both_ways (is_nestable g u.subject) (subst (λ (v : Triple). is_nestable g v.subject ≡ false) (nested_once g x t u by by_u) top) (level_nestable g u.subject n above))
level_once g x _ _ (below _ t n m by above next) (at_top _ u by_u top_u) =
    absurd (both_ways (is_nestable g t.subject) (subst (λ (v : Triple). is_nestable g v.subject ≡ false) (nested_once g x u t by_u by) top_u) (level_nestable g t.subject n above))
level_once g x _ _ (below _ t n m by above next) (below _ u p k by_u above_u next_u) =
    let same = nested_once g x u t by_u by in
    let level : n ≡ p = level_once g t.subject n p above (subst (λ (v : Triple). HasLevel g v.subject p) same above_u) in
    next_once g t n m k next (subst (λ (q : ℕ). IsNextLevel g t q k) (sym level) (subst (λ (v : Triple). IsNextLevel g v p k) same next_u))

-- nested nodes are those whose level is found to be so low

pub nested_told : (g : List Triple) (x : Term) (n : ℕ) → IsLevelOf g x n → (n ≡ 0 → ⊥) → n ≤ most_levels → IsNested g x
nested_told g x zero h some few = absurd (some refl)
nested_told g x (suc n) h some few = record { level = suc n; has = h; few = few }

pub not_nested_by_none : (g : List Triple) (x : Term) (n : ℕ) → IsLevelOf g x n → n ≡ 0 → IsNested g x → ⊥
not_nested_by_none g x n h e nested = both_ways (is_nestable g x) (subst (IsLevelOf g x) e h) (level_nestable g x nested.level nested.has)

pub not_nested_by_depth : (g : List Triple) (x : Term) (n : ℕ) → IsLevelOf g x n → most_levels < n → IsNested g x → ⊥
not_nested_by_depth g x zero h deep nested = absurd (omega (arith, deep))
not_nested_by_depth g x (suc n) h deep nested = omega (arith, deep, nested.few, level_once g x nested.level (suc n) nested.has h)

-- the triple of which a nestable node is the object
pub nested_by : (g : List Triple) (x : Term) (t : Triple) → IsNamer g x t → is_nestable g t.object ≡ true → IsNestedBy g x t
nested_by g x t namer h =
    let is = namer_inside g x t namer.1 in
    record { nestable = subst (λ (y : Term). is_nestable g y ≡ true) is.1 h; inside = is.0; object = is.1 }

-- a triple stays inside of a collection
pub inside_or_not : (g : List Triple) (t : Triple) (n : ℕ) → t.predicate ≡ rest_iri → IsRound g t.subject → IsCellCount g t.object n → IsTrue (not (nat_eq n 0)) ↔ IsInside g t
inside_or_not g t zero rest cell none = (λ e. cc, λ i. absurd (none i.rest))
inside_or_not g t (suc n) rest cell cells = (λ e. record { cell = cell; predicate = rest; rest = (n, cells) }, λ i. some_is n)

pub nested_is : (g : List Triple) (x : Term) (n : ℕ) → IsLevelOf g x n → (n ≡ 0 → ⊥) → IsTrue (nat_le n most_levels) ↔ IsNested g x
nested_is g x n h some = (
  λ e. nested_told g x n h some (leb-true n most_levels e),
  λ nested. elim (cases_Bool (nat_le n most_levels)) as (λ _. nat_le n most_levels ≡ true) [
    | inl t ↦ t
    | inr f ↦ absurd (not_nested_by_depth g x n h (leb-false n most_levels f) nested)
  ],
)
