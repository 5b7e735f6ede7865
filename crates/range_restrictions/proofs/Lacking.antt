-- Chains that lack a range, by numbers and by trees.
use Rattle.std.proofs.Common.{◌≡◌, ◌<◌, ◌⊎◌, inl, inr, ℕ, Bool, false, Option, None, Some, List, [], ◌∷◌, ◌++◌, length, map, refl, sym, ap, ◌∙◌, subst}
use Rattle.std.specs.Prelude.{Contains, replicate}
use Rattle.std.specs.List.{AllByRecursion, flat_map}
use Rattle.std.specs.Option.{option_to_list}
use Rattle.owl_list.proofs.AscendingLaws.{all_in, from_map, in_cases, in_none}
use Rattle.graph_walks.specs.Marks.{MarkEach}
use Rattle.graph_walks.specs.Numbers.{numbered}
use Rattle.graph_walks.specs.Walks.{AreWithin}
use Rattle.graph_walks.proofs.NumberLaws.{AreListed}
use Rattle.chain_ranges.specs.Imposed.{LacksRange}
use Rattle.dl_rules.specs.Logical.{operands}
use Rattle.dl_rules.specs.Places.{place_of}
use Rattle.dl_rules.proofs.PlaceLaws.{place_is, places_apart}
use Rattle.owl_arena.specs.Held.{tree_at}
use Rattle.owl_arena.specs.Shared.{HaveOneNumber}
use Rattle.owl_breaches.specs.Those.{HoldsOfSome}
use Rattle.owl_tree.specs.Trees.{Tree, tag_of}
use Rattle.range_restrictions.specs.Found.{AreFound, spread}
use Rattle.range_restrictions.specs.Restrictions.{LacksRangeBy, ends_over, ranges, steps}
use Rattle.range_restrictions.specs.Statements.{ArePairs, chain_of, is_chain}
use Rattle.range_restrictions.specs.declared.found.Found.{Found}
use Rattle.range_restrictions.proofs.Gathering.{IsHeld, trees_of}
use Rattle.range_restrictions.proofs.NumberedRanges.{lacking_of_things}
use Rattle.range_restrictions.proofs.Spreading.{marks_of_given, none_so}

-- marks of the chains that lack a range, by numbers
abbrev pub Lacking : List (ℕ × ℕ) → List (ℕ × ℕ) → List (ℕ × ℕ) → List Bool → Type 0
Lacking steps ranges chains marks = MarkEach (λ (place : ℕ) (chain : ℕ × ℕ). LacksRange steps ranges chain.0 chain.1) chains marks

-- along equations of the lists
pub lacking_along : (steps those_steps ranges those_ranges chains those_chains : List (ℕ × ℕ)) (marks : List Bool) → steps ≡ those_steps → ranges ≡ those_ranges → chains ≡ those_chains → Lacking steps ranges chains marks →
    Lacking those_steps those_ranges those_chains marks
lacking_along steps those_steps ranges those_ranges chains those_chains marks e f g each =
    subst (λ (ps : List (ℕ × ℕ)). Lacking ps those_ranges those_chains marks) e
    (subst (λ (ps : List (ℕ × ℕ)). Lacking steps ps those_chains marks) f (subst (λ (ps : List (ℕ × ℕ)). Lacking steps ranges ps marks) g each))

-- where nothing is given of a list, it is of no element
nothing_given : {X Y : Type 0} (give : X → List Y) (xs : List X) (x : X) → flat_map give xs ≡ [] → Contains xs x → give x ≡ []
nothing_given give [] x e m = absurd (in_none x m)
nothing_given {X} {Y} give (y ∷ ys) x e m =
    let parts = both_none (give y) (flat_map give ys) e in
    elim (in_cases y ys x m) as (λ _. give x ≡ []) [
      | inl same ↦ subst (λ (z : X). give z ≡ []) same parts.0
      | inr later ↦ nothing_given give ys x parts.1 later
    ]
  where
    both_none : (ps qs : List Y) → ps ++ qs ≡ [] → (ps ≡ []) × (qs ≡ [])
    both_none [] qs h = (refl, h)
    both_none (p ∷ ps) qs h = absurd (cc)

none_of_some : {Y : Type 0} (IsSo : Y → Type 0) (o : Option Y) → option_to_list o ≡ [] → HoldsOfSome IsSo o → ⊥
none_of_some IsSo None e h = h
none_of_some IsSo (Some y) e h = cc

-- without ranges none is imposed
none_without_ranges : {P : Type 0} (steps ranges : List (P × P)) (o : Option (P × P)) → ranges ≡ [] → HoldsOfSome (λ (ends : P × P). LacksRange steps ranges ends.0 ends.1) o → ⊥
none_without_ranges steps ranges None e h = h
none_without_ranges {P} steps ranges (Some ends) e h =
    in_none (h.imposed.on, h.class) (subst (λ (pairs : List (P × P)). Contains pairs (h.imposed.on, h.class)) e h.imposed.range)

module _ (ts : List Tree) where
  -- the tree is among these
  abbrev IsThere : Tree → Type 0
  IsThere t = place_of ts t < length ts

  there_apart : (t u : Tree) → IsThere t → IsThere u → place_of ts t ≡ place_of ts u → t ≡ u
  there_apart t u h k e = places_apart ts t u k e

  pub pairs_within : (pairs : List (Tree × Tree)) (numbers : List (ℕ × ℕ)) → ArePairs ts pairs numbers → AreWithin (length ts) numbers
  pairs_within pairs numbers are = λ x y m. all_in (IsHeld ts) numbers (x, y) are.held m

  none_from : (pairs : List (Tree × Tree)) (numbers : List (ℕ × ℕ)) → ArePairs ts pairs numbers → numbers ≡ [] → pairs ≡ []
  none_from pairs numbers are e = sym are.trees ∙ ap (map (trees_of ts)) e

  -- without chains or ranges no axiom lacks one
  pub none_lacks : (axioms : List Tree) (found : Found) → AreFound ts axioms found → (found.chains.items ≡ []) ⊎ (found.ranges.items ≡ []) →
      MarkEach (λ (place : ℕ) (t : Tree). LacksRangeBy axioms t) axioms (replicate (length axioms) false)
  none_lacks axioms found are none =
      none_so (LacksRangeBy axioms) axioms
      (λ t m lacks. elim none as (λ _. ⊥) [
        | inl chains ↦ none_of_some (λ (ends : Tree × Tree). LacksRange (steps axioms) (ranges axioms) ends.0 ends.1) (ends_over (tag_of t) (operands t))
            (nothing_given chain_of axioms t (none_from (flat_map chain_of axioms) found.chains.items are.chains chains) m) lacks
        | inr given ↦ none_without_ranges (steps axioms) (ranges axioms) (ends_over (tag_of t) (operands t)) (none_from (ranges axioms) found.ranges.items are.ranges given) lacks
      ])

  module _ (one : HaveOneNumber ts) where
    numbers_again : (numbers : List (ℕ × ℕ)) → AllByRecursion (IsHeld ts) numbers → numbers ≡ numbered (place_of ts) (map (trees_of ts) numbers)
    numbers_again [] h = refl
    numbers_again ((a, b) ∷ numbers) h =
        let first = place_is ts one a h.0.0 in
        let second = place_is ts one b h.0.1 in
        let rest = numbers_again numbers h.1 in
        cc

    -- the numbers are the places of the trees
    numbers_are : (pairs : List (Tree × Tree)) (numbers : List (ℕ × ℕ)) → ArePairs ts pairs numbers → numbers ≡ numbered (place_of ts) pairs
    numbers_are pairs numbers are = numbers_again numbers are.held ∙ ap (numbered (place_of ts)) are.trees

    held_there : (id : ℕ) (t : Tree) → id < length ts → tree_at ts id ≡ t → IsThere t
    held_there id t h e = subst IsThere e (subst (λ (n : ℕ). n < length ts) (sym (place_is ts one id h)) h)

    pairs_listed : (pairs : List (Tree × Tree)) (numbers : List (ℕ × ℕ)) → ArePairs ts pairs numbers → AreListed IsThere pairs
    pairs_listed pairs numbers are = λ x y m.
        let v = from_map (trees_of ts) numbers (x, y) (subst (λ (ps : List (Tree × Tree)). Contains ps (x, y)) (sym are.trees) m) in
        let held = all_in (IsHeld ts) numbers v.element are.held v.inside in (
          held_there v.element.0 x held.0 (ap (λ (pair : Tree × Tree). pair.0) v.value),
          held_there v.element.1 y held.1 (ap (λ (pair : Tree × Tree). pair.1) v.value),
        )

    -- marks of chains by numbers mark axioms
    pub marks_of_axioms : (axioms : List Tree) (found : Found) → AreFound ts axioms found → (marks : List Bool) → Lacking found.steps.items found.ranges.items found.chains.items marks →
        MarkEach (λ (place : ℕ) (t : Tree). LacksRangeBy axioms t) axioms (spread (map is_chain axioms) marks)
    marks_of_axioms axioms found are marks each =
        let number = numbered (place_of ts) in
        let chains : List (Tree × Tree) = flat_map chain_of axioms in
        let by_numbers =
        lacking_along found.steps.items (number (steps axioms)) found.ranges.items (number (ranges axioms)) found.chains.items (number chains) marks
        (numbers_are (steps axioms) found.steps.items are.steps) (numbers_are (ranges axioms) found.ranges.items are.ranges) (numbers_are chains found.chains.items are.chains) each in
        marks_of_given (λ (t : Tree). ends_over (tag_of t) (operands t)) (λ (ends : Tree × Tree). LacksRange (steps axioms) (ranges axioms) ends.0 ends.1) axioms marks
        (lacking_of_things (place_of ts) IsThere there_apart (steps axioms) (ranges axioms) (pairs_listed (steps axioms) found.steps.items are.steps) (pairs_listed (ranges axioms) found.ranges.items are.ranges)
        chains (pairs_listed chains found.chains.items are.chains) marks by_numbers)
