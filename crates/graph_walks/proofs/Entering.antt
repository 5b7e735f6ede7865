-- Where into each part leads one pair at most from another, a pair that leads into a part is all that joins its ends.
use Rattle.std.proofs.Common.{◌≡◌, ◌<◌, ◌⊎◌, inl, inr, ℕ, true, false, List, length, refl, sym, ap, ◌∙◌, subst, arith}
use Rattle.std.specs.Prelude.{Contains, Some, slice_get, slice_index}
use Rattle.std.proofs.lemmas.Bool.{cases_Bool, eqb-true, false≢true}
use Rattle.std.proofs.lemmas.List.{get_or_default}
use Rattle.std.proofs.lemmas.List.Elements.{Contains-get_or}
use Rattle.std.proofs.lemmas.Option.{get_or_from_slice_get, slice_get-get_or, slice_get_within}
use Rattle.graph_walks.specs.Parts.{AreParts, is_level}
use Rattle.graph_walks.specs.Rings.{AreTurned, EnteredOnce, IsTurned, link_at, without}
use Rattle.graph_walks.specs.Walks.{AreWithin, Walks, both_ways, here, onward}
use Rattle.graph_walks.proofs.Parting.{level_tells}
use Rattle.graph_walks.proofs.WalkLaws.{both_back, both_forth, from_both, joined_back, one_step, walk_on}
use Rattle.graph_walks.proofs.WithoutLaws.{from_without, in_without}

-- between the ends of a link that may be turned round
pub to_ring : (ways : List (ℕ × ℕ)) (link turned : ℕ × ℕ) → IsTurned link turned → Walks (both_ways ways) turned.1 turned.0 → Walks (both_ways ways) link.0 link.1
to_ring ways link turned is way =
    elim is as (λ _. Walks (both_ways ways) link.0 link.1) [
      | inl same ↦ subst (λ (p : ℕ × ℕ). Walks (both_ways ways) p.0 p.1) same (joined_back ways turned.1 turned.0 way)
      | inr round ↦ subst (λ (p : ℕ × ℕ). Walks (both_ways ways) p.1 p.0) round way
    ]

pub from_ring : (ways : List (ℕ × ℕ)) (link turned : ℕ × ℕ) → IsTurned link turned → Walks (both_ways ways) link.0 link.1 → Walks (both_ways ways) turned.1 turned.0
from_ring ways link turned is way =
    elim is as (λ _. Walks (both_ways ways) turned.1 turned.0) [
      | inl same ↦ subst (λ (p : ℕ × ℕ). Walks (both_ways ways) p.1 p.0) (sym same) (joined_back ways link.0 link.1 way)
      | inr round ↦ subst (λ (p : ℕ × ℕ). Walks (both_ways ways) p.1 p.0) (sym round) way
    ]

-- what stands in a place, as a pair
pub read_at : (pairs : List (ℕ × ℕ)) (x y : ℕ) (m : Contains pairs (x, y)) → ◌≡◌ {A = ℕ × ℕ} (link_at pairs m.0) (x, y)
read_at pairs x y m = get_or_default pairs m.0 (0, 0) (x, y) m.1 ∙ m.2

module _ (links turned : List (ℕ × ℕ)) (h : AreTurned links turned) where
  pub turned_within : (nodes : ℕ) → AreWithin nodes links → AreWithin nodes turned
  turned_within nodes within =
      λ x y m.
      let size : length turned ≡ length links = h.size in
      let inside : m.0 < length turned = m.1 in
      let link : ℕ × ℕ = link_at links m.0 in
      let ends : (link.0 < nodes) × (link.1 < nodes) = within link.0 link.1 (Contains-get_or links m.0 (0, 0) (omega arith)) in
      let reads = read_at turned x y m in
      elim (h.told m.0 m.1) as (λ _. (x < nodes) × (y < nodes)) [
        | inl same ↦ subst (λ (p : ℕ × ℕ). (p.0 < nodes) × (p.1 < nodes)) (sym same ∙ reads) ends
        | inr round ↦ subst (λ (p : ℕ × ℕ). (p.0 < nodes) × (p.1 < nodes)) (sym round ∙ reads) (ends.1, ends.0)
      ]

  -- another link, as it was turned
  module _ (place : ℕ) where
    -- a turned link in another place is among the others, in one direction
    pub other_step : (other : ℕ) → other < length turned → (other ≡ place → ⊥) → Contains (both_ways (without place links)) (link_at turned other)
    other_step other inside differs =
        let size : length turned ≡ length links = h.size in
        let link : ℕ × ℕ = link_at links other in
        let is : slice_get links other ≡ Some link = slice_get-get_or links other (0, 0) (omega arith) in
        let m : Contains (without place links) link = in_without links place link other differs is in
        elim (h.told other inside) as (λ _. Contains (both_ways (without place links)) (link_at turned other)) [
          | inl same ↦ subst (λ (p : ℕ × ℕ). Contains (both_ways (without place links)) p) (sym same) (both_forth (without place links) link.0 link.1 m)
          | inr round ↦ subst (λ (p : ℕ × ℕ). Contains (both_ways (without place links)) p) (sym round) (both_back (without place links) link.0 link.1 m)
        ]

    -- and each of these is one
    pub record IsOther (x y : ℕ) : Type 0 where
      pub other : ℕ
      pub differs : other ≡ place → ⊥
      pub inside : other < length turned
      pub is : IsTurned (x, y) (link_at turned other)

    other_at : (x y : ℕ) → Contains (without place links) (x, y) → IsOther x y
    other_at x y m =
        let e = from_without links place (x, y) m in
        let size : length turned ≡ length links = h.size in
        let within : e.other < length links = slice_get_within links e.other (x, y) e.is in
        let inside : e.other < length turned = omega arith in
        let reads : ◌≡◌ {A = ℕ × ℕ} (link_at links e.other) (x, y) = get_or_from_slice_get links e.other (x, y) (0, 0) e.is in
        record {
          other = e.other;
          differs = e.differs;
          inside = inside;
          is = subst (λ (p : ℕ × ℕ). IsTurned p (link_at turned e.other)) reads (h.told e.other inside);
        }

    back_round : (x y : ℕ) (now : ℕ × ℕ) → IsTurned (x, y) now → IsTurned (y, x) now
    back_round x y now is = elim is as (λ _. IsTurned (y, x) now) [ inl same ↦ inr same | inr round ↦ inl round ]

    pub from_other : (x y : ℕ) → Contains (both_ways (without place links)) (x, y) → IsOther x y
    from_other x y m = elim (from_both (without place links) x y m) as (λ _. IsOther x y) [
      | inl n ↦ other_at x y n
      | inr n ↦
          let o = other_at y x n in
          record { other = o.other; differs = o.differs; inside = o.inside; is = back_round y x (link_at turned o.other) o.is }
    ]

-- into the part of a node to which a walk leads, the walk leads by a pair, where it does not begin in it
pub record IsEntered (pairs : List (ℕ × ℕ)) (numbers : List ℕ) (from node : ℕ) : Type 0 where
  pub place : ℕ
  pub inside : place < length pairs
  pub before : Walks pairs from (link_at pairs place).0
  pub crosses : is_level numbers (link_at pairs place) ≡ false
  pub into : slice_index numbers (link_at pairs place).1 ≡ slice_index numbers node

module _ (pairs : List (ℕ × ℕ)) (numbers : List ℕ) where
  comes_in : (x y : ℕ) → Walks pairs x y → (slice_index numbers x ≡ slice_index numbers y) ⊎ IsEntered pairs numbers x y
  comes_in x y (here _) = inl refl
  comes_in x y (onward _ m _ way step) =
      let reads = read_at pairs m y step in
      elim (cases_Bool (is_level numbers (m, y))) as (λ _. (slice_index numbers x ≡ slice_index numbers y) ⊎ IsEntered pairs numbers x y) [
        | inl level ↦
            let same : slice_index numbers m ≡ slice_index numbers y = eqb-true (slice_index numbers m) (slice_index numbers y) level in
            elim (comes_in x m way) as (λ _. (slice_index numbers x ≡ slice_index numbers y) ⊎ IsEntered pairs numbers x y) [
              | inl begins ↦ inl (begins ∙ same)
              | inr e ↦ inr (record { place = e.place; inside = e.inside; before = e.before; crosses = e.crosses; into = e.into ∙ same })
            ]
        | inr crosses ↦ inr (record {
          place = step.0;
          inside = step.1;
          before = subst (λ (p : ℕ × ℕ). Walks pairs x p.0) (sym reads) way;
          crosses = ap (λ (p : ℕ × ℕ). is_level numbers p) reads ∙ crosses;
          into = ap (λ (p : ℕ × ℕ). slice_index numbers p.1) reads;
        })
      ]

  module _ (nodes : ℕ) (within : AreWithin nodes pairs) (parts : AreParts nodes pairs numbers) (once : EnteredOnce numbers pairs) (place : ℕ) (there : place < length pairs) (crosses : is_level numbers (link_at pairs place) ≡ false) where
    -- what hangs below the part that this pair leads into, each other one keeps, in both directions
    abbrev Hangs : ℕ → Type 0
    Hangs x = Walks pairs (link_at pairs place).1 x

    step_at : (other : ℕ) → other < length pairs → Contains pairs ((link_at pairs other).0, (link_at pairs other).1)
    step_at other inside = Contains-get_or pairs other (0, 0) inside

    pub hangs_forth : (other : ℕ) → other < length pairs → Hangs (link_at pairs other).0 → Hangs (link_at pairs other).1
    hangs_forth other inside way =
        onward (link_at pairs place).1 (link_at pairs other).0 (link_at pairs other).1 way (step_at other inside)

    pub hangs_back : (other : ℕ) → other < length pairs → (other ≡ place → ⊥) → Hangs (link_at pairs other).1 → Hangs (link_at pairs other).0
    hangs_back other inside differs way =
        let start : ℕ = (link_at pairs place).1 in
        let first : ℕ = (link_at pairs other).0 in
        let second : ℕ = (link_at pairs other).1 in
        let ends : (first < nodes) × (second < nodes) = within first second (step_at other inside) in
        elim (cases_Bool (is_level numbers (link_at pairs other))) as (λ _. Walks pairs start first) [
          | inl level ↦
              let joined = (level_tells nodes pairs numbers parts first second ends.0 ends.1).0 level in
              walk_on pairs start second first way joined.1
          | inr apart ↦ elim (comes_in start second way) as (λ _. Walks pairs start first) [
            | inl same ↦ absurd (differs (once other place inside there apart crosses (sym same)))
            | inr e ↦
                let one : e.place ≡ other = once e.place other e.inside inside e.crosses apart e.into in
                subst (λ (k : ℕ). Walks pairs start (link_at pairs k).0) one e.before
          ]
        ]

    -- the pair's first node does not hang there
    pub first_apart : Hangs (link_at pairs place).0 → ⊥
    first_apart way =
        let first : ℕ = (link_at pairs place).0 in
        let second : ℕ = (link_at pairs place).1 in
        let ends : (first < nodes) × (second < nodes) = within first second (step_at place there) in
        let level : is_level numbers (link_at pairs place) ≡ true = (level_tells nodes pairs numbers parts first second ends.0 ends.1).1 (one_step pairs first second (step_at place there), way) in
        false≢true (sym crosses ∙ level)
