-- Marks of some of the elements of a list, spread over all of them.
use Rattle.std.proofs.Common.{◌≡◌, ◌↔◌, ℕ, zero, suc, pred, Bool, true, false, Option, None, Some, List, [], ◌∷◌, ◌++◌, length, map, refl, sym, ap, subst}
use Rattle.std.specs.Prelude.{Contains, replicate, slice_get}
use Rattle.std.specs.List.{flat_map}
use Rattle.std.specs.Option.{is_some, option_to_list}
use Rattle.std.proofs.lemmas.Bool.{false≢true}
use Rattle.owl_list.proofs.AscendingLaws.{in_head, in_tail}
use Rattle.std.proofs.lemmas.Option.{none-some, same_Some}
use Rattle.graph_walks.specs.Marks.{MarkEach}
use Rattle.owl_breaches.specs.Those.{HoldsOfSome}
use Rattle.range_restrictions.specs.Found.{spread}

module _ {X : Type 0} (IsSo : X → Type 0) where
  abbrev Marks : List X → List Bool → Type 0
  Marks xs marks = MarkEach (λ (place : ℕ) (x : X). IsSo x) xs marks

  none_marked : Marks [] []
  none_marked = record { size = refl; told = λ place x is. absurd (none-some x is) }

  head_told : (x : X) (xs : List X) (b : Bool) (bs : List Bool) → Marks (x ∷ xs) (b ∷ bs) → (b ≡ true) ↔ IsSo x
  head_told x xs b bs h =
      let told = h.told 0 x refl in (
        λ e. told.0 (ap (λ (m : Bool). Some m) e),
        λ so. same_Some b true (told.1 so),
      )

  tail_marked : (x : X) (xs : List X) (b : Bool) (bs : List Bool) → Marks (x ∷ xs) (b ∷ bs) → Marks xs bs
  tail_marked x xs b bs h = record { size = ap pred h.size; told = λ place y is. h.told (suc place) y is }

  cons_told : (x : X) (xs : List X) (b : Bool) (bs : List Bool) → (b ≡ true) ↔ IsSo x → Marks xs bs → (place : ℕ) (y : X) → slice_get (x ∷ xs) place ≡ Some y → (slice_get (b ∷ bs) place ≡ Some true) ↔ IsSo y
  cons_told x xs b bs own rest zero y is =
      let same : x ≡ y = same_Some x y is in (
        λ e. subst IsSo same (own.0 (same_Some b true e)),
        λ so. ap (λ (m : Bool). Some m) (own.1 (subst IsSo (sym same) so)),
      )
  cons_told x xs b bs own rest (suc place) y is = rest.told place y is

  cons_marked : (x : X) (xs : List X) (b : Bool) (bs : List Bool) → (b ≡ true) ↔ IsSo x → Marks xs bs → Marks (x ∷ xs) (b ∷ bs)
  cons_marked x xs b bs own rest = record { size = ap suc rest.size; told = cons_told x xs b bs own rest }

  -- where none is so, no mark is true
  pub none_so : (xs : List X) → ((x : X) → Contains xs x → IsSo x → ⊥) → Marks xs (replicate (length xs) false)
  none_so [] none = none_marked
  none_so (x ∷ xs) none =
      cons_marked x xs false (replicate (length xs) false) (λ e. absurd (false≢true e), λ so. absurd (none x (in_head x xs) so))
      (none_so xs (λ y m. none y (in_tail x xs y m)))

module _ {X Y : Type 0} (give : X → Option Y) (IsSo : Y → Type 0) where
  abbrev given : List X → List Y
  given xs = flat_map (λ x. option_to_list (give x)) xs

  abbrev chosen : List X → List Bool
  chosen xs = map (λ x. is_some (give x)) xs

  abbrev Spread : List X → List Bool → Type 0
  Spread xs marks = MarkEach (λ (place : ℕ) (x : X). HoldsOfSome IsSo (give x)) xs (spread (chosen xs) marks)

  -- one more element, where the marks of those behind it are known
  spread_first : (x : X) (xs : List X) (o : Option Y) → give x ≡ o → ((ms : List Bool) → MarkEach (λ (place : ℕ) (y : Y). IsSo y) (given xs) ms → Spread xs ms) → (marks : List Bool) →
      MarkEach (λ (place : ℕ) (y : Y). IsSo y) (option_to_list o ++ given xs) marks → MarkEach (λ (place : ℕ) (z : X). HoldsOfSome IsSo (give z)) (x ∷ xs) (spread (is_some o ∷ chosen xs) marks)
  spread_first x xs None is rest marks each =
      cons_marked (λ (z : X). HoldsOfSome IsSo (give z)) x xs false (spread (chosen xs) marks)
      (λ e. absurd (false≢true e), λ so. absurd (subst (HoldsOfSome IsSo) is so)) (rest marks each)
  spread_first x xs (Some y) is rest [] each = let s = each.size in absurd (cc)
  spread_first x xs (Some y) is rest (b ∷ bs) each =
      let told = head_told IsSo y (given xs) b bs each in
      cons_marked (λ (z : X). HoldsOfSome IsSo (give z)) x xs b (spread (chosen xs) bs)
      (λ e. subst (HoldsOfSome IsSo) (sym is) (told.0 e), λ so. told.1 (subst (HoldsOfSome IsSo) is so))
      (rest bs (tail_marked IsSo y (given xs) b bs each))

  -- marks of what some give, spread over all
  pub marks_of_given : (xs : List X) (marks : List Bool) → MarkEach (λ (place : ℕ) (y : Y). IsSo y) (given xs) marks → Spread xs marks
  marks_of_given [] marks h = none_marked (λ (x : X). HoldsOfSome IsSo (give x))
  marks_of_given (x ∷ xs) marks h = spread_first x xs (give x) refl (marks_of_given xs) marks h
