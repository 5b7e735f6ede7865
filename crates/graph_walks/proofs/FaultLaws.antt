-- Cycles and faults by numbers of parts, and faults by searches.
use Rattle.std.proofs.Common.{◌≡◌, ◌<◌, ◌↔◌, ◌++◌, ℕ, true, false, List, [], ◌∷◌, length, get_or, map, sym, ◌∙◌}
use Rattle.std.specs.Prelude.{Contains}
use Rattle.std.proofs.lemmas.Bool.{false≢true}
use Rattle.std.proofs.lemmas.List.Elements.{Contains-append_left, Contains-append_right, Contains-get_or}
use Rattle.graph_walks.specs.Faults.{AreWays, IsFault}
use Rattle.graph_walks.specs.Marks.{MarkEach}
use Rattle.graph_walks.specs.Parts.{AreParts, is_level}
use Rattle.graph_walks.specs.Searches.{HoldsReached}
use Rattle.graph_walks.specs.Walks.{AreWithin, Walks}
use Rattle.graph_walks.proofs.MarkLaws.{marks_by}
use Rattle.graph_walks.proofs.Parting.{level_tells}
use Rattle.graph_walks.proofs.WalkLaws.{from_one, one_step, to_one, walk_among, walk_keeps, walk_on}

-- a pair is on a cycle exactly where its nodes have one number
pub cycle_marks : (nodes : ℕ) (pairs : List (ℕ × ℕ)) (numbers : List ℕ) → AreWithin nodes pairs → AreParts nodes pairs numbers → MarkEach (λ (place : ℕ) (pair : ℕ × ℕ). Walks pairs pair.1 pair.0) pairs (map (is_level numbers) pairs)
cycle_marks nodes pairs numbers within parts =
    marks_by (λ (place : ℕ) (pair : ℕ × ℕ). Walks pairs pair.1 pair.0) (is_level numbers) (0, 0) pairs (λ k inside.
    let pair : ℕ × ℕ = get_or pairs k (0, 0) in
    let step : Contains pairs pair = Contains-get_or pairs k (0, 0) inside in
    let ends = within pair.0 pair.1 step in
    let tells = level_tells nodes pairs numbers parts pair.0 pair.1 ends.0 ends.1 in (
      λ h. (tells.0 h).1,
      λ back. tells.1 (one_step pairs pair.0 pair.1 step, back),
    ))

-- three searches, each from what the one before found
pub fault_by_searches : (nodes : ℕ) (leads below : List (ℕ × ℕ)) (x y : ℕ) (above led under : List ℕ) → AreWithin nodes leads → AreWithin nodes below → Contains below (x, y) →
    HoldsReached nodes below (y ∷ []) above → HoldsReached nodes leads above led → HoldsReached nodes below led under → Contains under x ↔ IsFault leads below x y
fault_by_searches nodes leads below x y above led under leads_within below_within step first second third = (
  λ m.
      let last = third.reached x m in
      let across = second.reached last.start last.among in
      let up = first.reached across.start across.among in
      record {
        upper = across.start;
        lower = last.start;
        above = from_one below y across.start up;
        led = across.way;
        under = last.way;
      },
  λ fault.
      let ends = below_within x y step in
      let high : fault.upper < nodes = walk_keeps below (λ z. z < nodes) (λ z w s h. (below_within z w s).1) y fault.upper fault.above ends.1 in
      let low : fault.lower < nodes = walk_keeps leads (λ z. z < nodes) (λ z w s h. (leads_within z w s).1) fault.upper fault.lower fault.led high in
      let up : Contains above fault.upper = first.all fault.upper high (to_one below y fault.upper fault.above) in
      let across : Contains led fault.lower = second.all fault.lower low (record { start = fault.upper; among = up; way = fault.led }) in
      third.all x ends.0 (record { start = fault.lower; among = across; way = fault.under }),
)

module _ (leads below : List (ℕ × ℕ)) (lead_edges below_edges : List (List ℕ)) (numbers : List ℕ) (ways : AreWays leads below lead_edges below_edges numbers) (x y : ℕ) (step : Contains below (x, y)) where
  -- a fault is a walk back, by both lists together
  walks_back : IsFault leads below x y → Walks (leads ++ below) y x
  walks_back fault =
      let by_below : (a b : ℕ) → Walks below a b → Walks (leads ++ below) a b = λ a b way. walk_among below (leads ++ below) (λ c d m. Contains-append_right leads below (c, d) m) a b way in
      let by_leads : (a b : ℕ) → Walks leads a b → Walks (leads ++ below) a b = λ a b way. walk_among leads (leads ++ below) (λ c d m. Contains-append_left leads below (c, d) m) a b way in
      walk_on (leads ++ below) y fault.lower x
      (walk_on (leads ++ below) y fault.upper fault.lower (by_below y fault.upper fault.above) (by_leads fault.upper fault.lower fault.led))
      (by_below fault.lower x fault.under)

  fault_is_level : IsFault leads below x y → is_level numbers (x, y) ≡ true
  fault_is_level fault =
      let ends = ways.below_within x y step in
      (level_tells (length below_edges) (leads ++ below) numbers ways.parts x y ends.0 ends.1).1
      (one_step (leads ++ below) x y (Contains-append_right leads below (x, y) step), walks_back fault)

  -- so a pair of nodes with two numbers is none
  pub no_fault : is_level numbers (x, y) ≡ false → (false ≡ true) ↔ IsFault leads below x y
  no_fault other = (
    λ h. absurd (false≢true h),
    λ fault. absurd (false≢true (sym other ∙ fault_is_level fault)),
  )
