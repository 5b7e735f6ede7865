-- Links that close a ring, by the parts of the turned links.
use Rattle.std.proofs.Common.{◌≡◌, ◌<◌, ◌⊎◌, inl, inr, ℕ, true, false, List, length, get_or, map, sym, ap, ◌∙◌, subst, arith}
use Rattle.std.specs.Prelude.{Contains}
use Rattle.std.proofs.lemmas.Bool.{cases_Bool, cases_eq}
use Rattle.std.proofs.lemmas.List.{get_or-map, length-map}
use Rattle.std.proofs.lemmas.List.Elements.{Contains-get_or}
use Rattle.graph_walks.specs.Marks.{MarkEach}
use Rattle.graph_walks.specs.Parts.{AreParts, is_level}
use Rattle.graph_walks.specs.Rings.{AreTurned, ClosesRing, EnteredOnce, IsTurned, link_at, without}
use Rattle.graph_walks.specs.Walks.{AreWithin, Walks, both_ways, here, onward}
use Rattle.graph_walks.proofs.Entering.{first_apart, from_other, from_ring, hangs_back, hangs_forth, other_step, read_at, to_ring, turned_within}
use Rattle.graph_walks.proofs.MarkLaws.{marks_at}
use Rattle.graph_walks.proofs.Parting.{level_tells}
use Rattle.graph_walks.proofs.WalkLaws.{walk_keeps}

module _ (links turned : List (ℕ × ℕ)) (h : AreTurned links turned) (place : ℕ) where
  -- by the other links, in either direction
  abbrev Joins : ℕ → ℕ → Type 0
  Joins x y = Walks (both_ways (without place links)) x y

  -- a walk along turned links that passes this one has passed its first node before
  around : (x : ℕ) → Walks turned (link_at turned place).1 x → Joins (link_at turned place).1 x ⊎ Joins (link_at turned place).1 (link_at turned place).0
  around x way =
      let start : ℕ = (link_at turned place).1 in
      let end : ℕ = (link_at turned place).0 in
      walk_keeps turned (λ y. Joins start y ⊎ Joins start end) (λ y z step before.
      let reads = read_at turned y z step in
      elim before as (λ _. Joins start z ⊎ Joins start end) [
        | inl some ↦ elim (cases_eq step.0 place) as (λ _. Joins start z ⊎ Joins start end) [
          | inl same ↦
              let ends : y ≡ end = sym (ap (λ (p : ℕ × ℕ). p.0) reads) ∙ ap (λ (k : ℕ). (link_at turned k).0) same in
              inr (subst (λ (n : ℕ). Joins start n) ends some)
          | inr differs ↦
              let more : Contains (both_ways (without place links)) (y, z) = subst (λ (p : ℕ × ℕ). Contains (both_ways (without place links)) p) reads (other_step links turned h place step.0 step.1 differs) in
              inl (onward start y z some more)
        ]
        | inr done ↦ inr done
      ]) start x way (inl (here start))

  pub goes_round : Walks turned (link_at turned place).1 (link_at turned place).0 → Joins (link_at turned place).1 (link_at turned place).0
  goes_round way =
      elim (around (link_at turned place).0 way) as (λ _. Joins (link_at turned place).1 (link_at turned place).0) [
        | inl some ↦ some
        | inr done ↦ done
      ]

  -- a link that leads into another part closes no ring
  module _ (nodes : ℕ) (numbers : List ℕ) (within : AreWithin nodes turned) (parts : AreParts nodes turned numbers) (once : EnteredOnce numbers turned) (there : place < length turned) (crosses : is_level numbers (link_at turned place) ≡ false) where
    keeps : (x y : ℕ) → Contains (both_ways (without place links)) (x, y) → Walks turned (link_at turned place).1 x → Walks turned (link_at turned place).1 y
    keeps x y m way =
        let start : ℕ = (link_at turned place).1 in
        let o = from_other links turned h place x y m in
        elim o.is as (λ _. Walks turned start y) [
          | inl same ↦
              let first : Walks turned start (link_at turned o.other).0 = subst (λ (p : ℕ × ℕ). Walks turned start p.0) (sym same) way in
              subst (λ (p : ℕ × ℕ). Walks turned start p.1) same (hangs_forth turned numbers nodes within parts once place there crosses o.other o.inside first)
          | inr round ↦
              let second : Walks turned start (link_at turned o.other).1 = subst (λ (p : ℕ × ℕ). Walks turned start p.1) (sym round) way in
              subst (λ (p : ℕ × ℕ). Walks turned start p.0) round (hangs_back turned numbers nodes within parts once place there crosses o.other o.inside o.differs second)
        ]

    pub no_ring : Joins (link_at turned place).1 (link_at turned place).0 → ⊥
    no_ring way =
        let start : ℕ = (link_at turned place).1 in
        let end : ℕ = (link_at turned place).0 in
        first_apart turned numbers nodes within parts once place there crosses
        (walk_keeps (both_ways (without place links)) (λ x. Walks turned start x) keeps start end way (here start))

-- a link closes a ring exactly where its nodes are in one part of the turned links
pub ring_marks : (nodes : ℕ) (links turned : List (ℕ × ℕ)) (numbers : List ℕ) → AreWithin nodes links → AreTurned links turned → AreParts nodes turned numbers → EnteredOnce numbers turned → MarkEach (ClosesRing links) links (map (is_level numbers) turned)
ring_marks nodes links turned numbers inside h parts once =
    let within = turned_within links turned h nodes inside in
    marks_at (ClosesRing links) (0, 0) links (map (is_level numbers) turned) (length-map turned (is_level numbers) ∙ h.size) (λ k lt.
    let size : length turned ≡ length links = h.size in
    let there : k < length turned = omega arith in
    let pair : ℕ × ℕ = link_at turned k in
    let ends : (pair.0 < nodes) × (pair.1 < nodes) = within pair.0 pair.1 (Contains-get_or turned k (0, 0) there) in
    let reads = get_or-map (is_level numbers) turned k (0, 0) false there in
    let is_turned : IsTurned (link_at links k) pair = h.told k there in (
      λ mark.
          let joined = (level_tells nodes turned numbers parts pair.0 pair.1 ends.0 ends.1).0 (sym reads ∙ mark) in
          to_ring (without k links) (link_at links k) pair is_turned (goes_round links turned h k joined.1),
      λ ring. elim (cases_Bool (is_level numbers pair)) as (λ _. get_or (map (is_level numbers) turned) k false ≡ true) [
        | inl level ↦ reads ∙ level
        | inr crosses ↦ absurd (no_ring links turned h k nodes numbers within parts once there crosses (from_ring (without k links) (link_at links k) pair is_turned ring))
      ],
    ))
