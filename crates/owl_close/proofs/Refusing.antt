-- The first import that is missing, where the documents are looked at in the order of their places.
use Rattle.std.proofs.Common.{◌≡◌, ◌<◌, ◌≤◌, inl, inr, ℕ, List, None, length, get_or, take, ap, ◌∙◌, arith}
use Rattle.std.specs.Prelude.{Contains}
use Rattle.std.specs.List.{AllByRecursion}
use Rattle.std.proofs.lemmas.Bool.{cases_order}
use Rattle.std.proofs.lemmas.List.{get_or-take, get_or_default, length-map, length-take-le}
use Rattle.std.proofs.lemmas.Map.Keys.{below_from_sorted}
use Rattle.owl_list.proofs.AscendingLaws.{all_in}
use Rattle.owl_doc.specs.Heads.{head_of}
use Rattle.owl_doc.specs.declared.head.Head as held
use Rattle.owl_close.specs.Imports.{AreReached, IsFirstMissing, IsMissing, MissesNone, heads_of}
use Rattle.owl_close.specs.Searches.{FindsLeast, IsLeastMissing}
use Rattle.owl_close.proofs.Lacking.{IsWhole}
use Rattle.owl_close.proofs.Places.{imported_at}
use Rattle.owl_close.proofs.ReachingLaws.{reached_within}

-- an element is in front of an index, or it stands there or behind
in_front : (places : List ℕ) (index k other : ℕ) → k < index → index ≤ length places → get_or places k other ≡ other → Contains (take index places) other
in_front places index k other h l e =
    let long = length-take-le index places l in
    (k, omega arith, get_or-take index places k other h ∙ e)

module _ (heads : List held.Head) (places : List ℕ) (r : AreReached (heads_of heads) places) where
  inside : (index : ℕ) → index < length places → Contains places (get_or places index 0)
  inside index h = (index, h, get_or_default places index (get_or places index 0) 0 h)

  pub place_within : (index : ℕ) → 0 < length heads → index < length places → get_or places index 0 < length heads
  place_within index n h =
      let long = length-map heads head_of in
      let short = reached_within (heads_of heads) (get_or places index 0) (omega arith) ((r.reached (get_or places index 0)).0 (inside index h)) in
      omega arith

  -- all in front of the index are whole, so none that misses an import is below what stands there
  first_at : (index other k : ℕ) (theirs : List ℕ) → index < length places → AllByRecursion (IsWhole (heads_of heads)) (take index places) → IsMissing (heads_of heads) other theirs → k < length places → get_or places k other ≡ other → get_or places index 0 ≤ other
  first_at index other k theirs h whole m l e =
      elim (cases_order k index) [
        | inl same ↦ let here = get_or_default places k other 0 l in let there = ap (λ (n : ℕ). get_or places n 0) same in omega arith
        | inr apart ↦ elim apart [
          | inl front ↦ absurd (all_in (IsWhole (heads_of heads)) (take index places) other whole (in_front places index k other front (omega arith) e) theirs m.import m.none)
          | inr behind ↦
              let below = below_from_sorted places index k 0 r.ascending behind l in
              let same = get_or_default places k other 0 l in
              omega arith
        ]
      ]

  pub first_missing : (index : ℕ) (head : held.Head) (iri : List ℕ) → 0 < length heads → index < length places → AllByRecursion (IsWhole (heads_of heads)) (take index places) → head ≡ get_or heads (get_or places index 0) head → IsLeastMissing (heads_of heads) head.imports.items iri → IsFirstMissing (heads_of heads) (get_or places index 0) iri
  first_missing index head iri n h whole e m =
      let place = get_or places index 0 in
      let within = place_within index n h in
      record {
        missing = record {
          reached = (r.reached place).0 (inside index h);
          import = (imported_at heads place head within e iri).0 m.inside;
          none = m.none;
        };
        first = λ other theirs k. let found = (r.reached other).1 k.reached in first_at index other found.0 theirs h whole k found.1 found.2;
        least = λ other k l. m.least other ((imported_at heads place head within e other).1 k.import) k.none l;
      }

  pub whole_at : (index : ℕ) (head : held.Head) → 0 < length heads → index < length places → head ≡ get_or heads (get_or places index 0) head → FindsLeast (heads_of heads) head.imports.items None → IsWhole (heads_of heads) (get_or places index 0)
  whole_at index head n h e f =
      λ iri import none. f.none iri ((imported_at heads (get_or places index 0) head (place_within index n h) e iri).1 import) none

  pub misses_none : AllByRecursion (IsWhole (heads_of heads)) places → MissesNone (heads_of heads)
  misses_none whole =
      λ place iri m. all_in (IsWhole (heads_of heads)) places place whole ((r.reached place).1 m.reached) iri m.import m.none
