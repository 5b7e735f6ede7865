-- Walks, faults, rings and forests of things go along with those of their numbers, where no two things that are listed have one number.
use Rattle.std.proofs.Common.{◌≡◌, ◌↔◌, ◌<◌, ◌+◌, ◌++◌, inl, inr, ℕ, Bool, Option, List, [], ◌∷◌, map, take, drop, refl, sym, ap, ◌∙◌, subst}
use Rattle.std.specs.Prelude.{Contains, None, Some, slice_get}
use Rattle.std.specs.Option.{option_map}
use Rattle.std.proofs.lemmas.List.{drop-map, length-map, map-append, take-map}
use Rattle.std.proofs.lemmas.Option.{none-some, same_Some, slice_get-map}
use Rattle.std.proofs.lemmas.Simd.{map-map}
use Rattle.owl_list.proofs.AscendingLaws.{from_map, in_cases, in_head, in_map, in_none, in_tail}
use Rattle.graph_walks.specs.Faults.{IsFault}
use Rattle.graph_walks.specs.Forests.{HasForest, HasNoRing, IsForest}
use Rattle.graph_walks.specs.Marks.{MarkEach}
use Rattle.graph_walks.specs.Numbers.{numbered}
use Rattle.graph_walks.specs.Rings.{ClosesRing, without}
use Rattle.graph_walks.specs.Walks.{AreWithin, IsReached, Walks, backwards, both_ways, here, onward}
use Rattle.graph_walks.proofs.ForestLaws.{forest_of}
use Rattle.graph_walks.proofs.WalkLaws.{from_both}
use Rattle.graph_walks.proofs.WithoutLaws.{among_without, in_place}

-- marks of what is made of the elements mark them, where the one is so just where the other is
pub marks_of_made : {X Y : Type 0} (make : X → Y) (IsSo : ℕ → X → Type 0) (IsMadeSo : ℕ → Y → Type 0) (xs : List X) (marks : List Bool) → ((place : ℕ) (x : X) → slice_get xs place ≡ Some x → IsSo place x ↔ IsMadeSo place (make x)) →
    MarkEach IsMadeSo (map make xs) marks → MarkEach IsSo xs marks
marks_of_made make IsSo IsMadeSo xs marks same each = record {
  size = each.size ∙ length-map xs make;
  told = λ place x is.
      let told = each.told place (make x) (slice_get-map make xs place ∙ ap (option_map make) is) in (
        λ h. (same place x is).1 (told.0 h),
        λ h. told.1 ((same place x is).0 h),
      );
}

abbrev flip : {P : Type 0} → P × P → P × P
flip pair = (pair.1, pair.0)

module _ {P : Type 0} (number : P → ℕ) where
  abbrev both : P × P → ℕ × ℕ
  both pair = (number pair.0, number pair.1)

  pub to_numbered : (pairs : List (P × P)) (x y : P) → Contains pairs (x, y) → Contains (numbered number pairs) (number x, number y)
  to_numbered pairs x y m = in_map both pairs (x, y) m

  pub walks_numbered : (pairs : List (P × P)) (x y : P) → Walks pairs x y → Walks (numbered number pairs) (number x) (number y)
  walks_numbered pairs x y (here _) = here (number x)
  walks_numbered pairs x y (onward _ m _ way step) =
      onward (number x) (number m) (number y) (walks_numbered pairs x m way) (to_numbered pairs m y step)

  pub numbered_both : (pairs : List (P × P)) → numbered number (both_ways pairs) ≡ both_ways (numbered number pairs)
  numbered_both pairs =
      map-append both (backwards pairs) pairs
      ∙ ap (λ (turned : List (ℕ × ℕ)). turned ++ numbered number pairs) (map-map both (flip {P = P}) pairs ∙ sym (map-map (flip {P = ℕ}) both pairs))

  pub numbered_without : (links : List (P × P)) (place : ℕ) → numbered number (without place links) ≡ without place (numbered number links)
  numbered_without links place =
      map-append both (take place links) (drop (place + 1) links)
      ∙ ap (λ (before : List (ℕ × ℕ)). before ++ map both (drop (place + 1) links)) (sym (take-map both place links))
      ∙ ap (λ (behind : List (ℕ × ℕ)). take place (map both links) ++ behind) (sym (drop-map both (place + 1) links))

  pub numbered_others : (links : List (P × P)) (place : ℕ) → numbered number (both_ways (without place links)) ≡ both_ways (without place (numbered number links))
  numbered_others links place = numbered_both (without place links) ∙ ap (both_ways {P = ℕ}) (numbered_without links place)

  pub numbered_at : (links : List (P × P)) (place : ℕ) (link : P × P) → slice_get links place ≡ Some link → slice_get (numbered number links) place ≡ Some (number link.0, number link.1)
  numbered_at links place link is = slice_get-map both links place ∙ ap (option_map both) is

-- both of each pair are listed
abbrev pub AreListed : {P : Type 0} → (P → Type 0) → List (P × P) → Type 0
AreListed {P} IsListed pairs = (x y : P) → Contains pairs (x, y) → IsListed x × IsListed y

pub listed_both : {P : Type 0} (IsListed : P → Type 0) (pairs : List (P × P)) → AreListed IsListed pairs → AreListed IsListed (both_ways pairs)
listed_both IsListed pairs listed =
    λ x y m. elim (from_both pairs x y m) as (λ _. IsListed x × IsListed y) [
      | inl n ↦ listed x y n
      | inr n ↦ let h = listed y x n in (h.1, h.0)
    ]

pub listed_without : {P : Type 0} (IsListed : P → Type 0) (links : List (P × P)) (place : ℕ) → AreListed IsListed links → AreListed IsListed (without place links)
listed_without IsListed links place listed = λ x y m. listed x y (among_without links place x y m)

-- what a list has, made of an element
record IsMade {X Y : Type 0} (make : X → Y) (xs : Option X) (y : Y) : Type 0 where
  element : X
  is : xs ≡ Some element
  value : make element ≡ y

from_option : {X Y : Type 0} (make : X → Y) (xs : Option X) (y : Y) → option_map make xs ≡ Some y → IsMade make xs y
from_option make None y h = absurd (none-some y h)
from_option make (Some x) y h = record { element = x; is = refl; value = same_Some (make x) y h }

module _ {P : Type 0} (number : P → ℕ) (IsListed : P → Type 0) (apart : (x y : P) → IsListed x → IsListed y → number x ≡ number y → x ≡ y) where
  pub numbered_within : (nodes : ℕ) (pairs : List (P × P)) → AreListed IsListed pairs → ((x : P) → IsListed x → number x < nodes) → AreWithin nodes (numbered number pairs)
  numbered_within nodes pairs listed few =
      λ m n step.
      let v = from_map (both number) pairs (m, n) step in
      let own = listed v.element.0 v.element.1 v.inside in (
        subst (λ (k : ℕ). k < nodes) (ap (λ (p : ℕ × ℕ). p.0) v.value) (few v.element.0 own.0),
        subst (λ (k : ℕ). k < nodes) (ap (λ (p : ℕ × ℕ). p.1) v.value) (few v.element.1 own.1),
      )

  pub from_numbered : (pairs : List (P × P)) → AreListed IsListed pairs → (x y : P) → IsListed x → IsListed y → Contains (numbered number pairs) (number x, number y) → Contains pairs (x, y)
  from_numbered pairs listed x y first second m =
      let v = from_map (both number) pairs (number x, number y) m in
      let own = listed v.element.0 v.element.1 v.inside in
      let from : v.element.0 ≡ x = apart v.element.0 x own.0 first (ap (λ (p : ℕ × ℕ). p.0) v.value) in
      let to : v.element.1 ≡ y = apart v.element.1 y own.1 second (ap (λ (p : ℕ × ℕ). p.1) v.value) in
      subst (λ (z : P). Contains pairs (x, z)) to (subst (λ (z : P). Contains pairs (z, v.element.1)) from v.inside)

  -- a walk leads from the thing to one with this number
  record LeadsTo (pairs : List (P × P)) (x : P) (n : ℕ) : Type 0 where
    thing : P
    listed : IsListed thing
    is : number thing ≡ n
    way : Walks pairs x thing

  module _ (pairs : List (P × P)) (listed : AreListed IsListed pairs) where
    walk_of_things : (m n : ℕ) → Walks (numbered number pairs) m n → (x : P) → IsListed x → number x ≡ m → LeadsTo pairs x n
    walk_of_things m n (here _) x own is = record { thing = x; listed = own; is = is; way = here x }
    walk_of_things m n (onward _ k _ way step) x own is =
        let before = walk_of_things m k way x own is in
        let v = from_map (both number) pairs (k, n) step in
        let ends = listed v.element.0 v.element.1 v.inside in
        let same : before.thing ≡ v.element.0 = apart before.thing v.element.0 before.listed ends.0 (before.is ∙ sym (ap (λ (p : ℕ × ℕ). p.0) v.value)) in
        record {
          thing = v.element.1;
          listed = ends.1;
          is = ap (λ (p : ℕ × ℕ). p.1) v.value;
          way = onward x v.element.0 v.element.1 (subst (λ (z : P). Walks pairs x z) same before.way) v.inside;
        }

    pub same_walks : (x y : P) → IsListed x → IsListed y → Walks pairs x y ↔ Walks (numbered number pairs) (number x) (number y)
    same_walks x y first second = (
      walks_numbered number pairs x y,
      λ way.
          let to = walk_of_things (number x) (number y) way x first refl in
          subst (λ (z : P). Walks pairs x z) (apart to.thing y to.listed second to.is) to.way,
    )

    pub same_reached : (starts : List P) (x : P) → ((start : P) → Contains starts start → IsListed start) → IsListed x → IsReached pairs starts x ↔ IsReached (numbered number pairs) (map number starts) (number x)
    same_reached starts x known own = (
      λ r. record { start = number r.start; among = in_map number starts r.start r.among; way = walks_numbered number pairs r.start x r.way },
      λ r.
          let v = from_map number starts r.start r.among in
          let way : Walks (numbered number pairs) (number v.element) (number x) = subst (λ (k : ℕ). Walks (numbered number pairs) k (number x)) (sym v.value) r.way in
          record { start = v.element; among = v.inside; way = (same_walks v.element x (known v.element v.inside) own).1 way },
    )

    -- marks of numbers mark things
    pub cycles_of_things : (marks : List Bool) → MarkEach (λ (place : ℕ) (pair : ℕ × ℕ). Walks (numbered number pairs) pair.1 pair.0) (numbered number pairs) marks → MarkEach (λ (place : ℕ) (pair : P × P). Walks pairs pair.1 pair.0) pairs marks
    cycles_of_things marks each =
        marks_of_made (both number) (λ (place : ℕ) (pair : P × P). Walks pairs pair.1 pair.0) (λ (place : ℕ) (pair : ℕ × ℕ). Walks (numbered number pairs) pair.1 pair.0) pairs marks
        (λ place pair is. let ends = listed pair.0 pair.1 (in_place pairs place pair is) in same_walks pair.1 pair.0 ends.1 ends.0)
        each

  module _ (leads below : List (P × P)) (led : AreListed IsListed leads) (under : AreListed IsListed below) where
    pub same_faults : (x y : P) → IsListed x → IsListed y → IsFault leads below x y ↔ IsFault (numbered number leads) (numbered number below) (number x) (number y)
    same_faults x y first second = (
      λ fault. record {
        upper = number fault.upper;
        lower = number fault.lower;
        above = walks_numbered number below y fault.upper fault.above;
        led = walks_numbered number leads fault.upper fault.lower fault.led;
        under = walks_numbered number below fault.lower x fault.under;
      },
      λ fault.
          let high = walk_of_things below under (number y) fault.upper fault.above y second refl in
          let low = walk_of_things leads led fault.upper fault.lower fault.led high.thing high.listed high.is in
          let end = walk_of_things below under fault.lower (number x) fault.under low.thing low.listed low.is in
          record {
            upper = high.thing;
            lower = low.thing;
            above = high.way;
            led = low.way;
            under = subst (λ (z : P). Walks below low.thing z) (apart end.thing x end.listed first end.is) end.way;
          },
    )

    pub faults_of_things : (marks : List Bool) → MarkEach (λ (place : ℕ) (pair : ℕ × ℕ). IsFault (numbered number leads) (numbered number below) pair.0 pair.1) (numbered number below) marks →
        MarkEach (λ (place : ℕ) (pair : P × P). IsFault leads below pair.0 pair.1) below marks
    faults_of_things marks each =
        marks_of_made (both number) (λ (place : ℕ) (pair : P × P). IsFault leads below pair.0 pair.1) (λ (place : ℕ) (pair : ℕ × ℕ). IsFault (numbered number leads) (numbered number below) pair.0 pair.1) below marks
        (λ place pair is. let ends = under pair.0 pair.1 (in_place below place pair is) in same_faults pair.0 pair.1 ends.0 ends.1)
        each

  module _ (links : List (P × P)) (listed : AreListed IsListed links) where
    pub same_rings : (place : ℕ) (link : P × P) → IsListed link.0 → IsListed link.1 → ClosesRing links place link ↔ ClosesRing (numbered number links) place (number link.0, number link.1)
    same_rings place link first second =
        let others = both_ways (without place links) in
        let known : AreListed IsListed others = listed_both IsListed (without place links) (listed_without IsListed links place listed) in
        subst (λ (ways : List (ℕ × ℕ)). Walks others link.0 link.1 ↔ Walks ways (number link.0) (number link.1)) (numbered_others number links place) (same_walks others known link.0 link.1 first second)

    rings_at : (place : ℕ) (link : P × P) → slice_get links place ≡ Some link → ClosesRing links place link ↔ ClosesRing (numbered number links) place (number link.0, number link.1)
    rings_at place link is = let ends = listed link.0 link.1 (in_place links place link is) in same_rings place link ends.0 ends.1

    pub rings_of_things : (marks : List Bool) → MarkEach (ClosesRing (numbered number links)) (numbered number links) marks → MarkEach (ClosesRing links) links marks
    rings_of_things marks each =
        marks_of_made (both number) (ClosesRing links) (ClosesRing (numbered number links)) links marks rings_at each

    pub same_no_ring : HasNoRing links ↔ HasNoRing (numbered number links)
    same_no_ring = (
      λ none place pair is ring.
          let v = from_option (both number) (slice_get links place) pair (sym (slice_get-map (both number) links place) ∙ is) in
          none place v.element v.is ((rings_at place v.element v.is).1 (subst (λ (p : ℕ × ℕ). ClosesRing (numbered number links) place p) (sym v.value) ring)),
      λ none place link is ring. none place (number link.0, number link.1) (numbered_at number links place link is) ((rings_at place link is).0 ring),
    )

    -- a forest of numbers is one of things
    forest_by_numbers : (parents : List (P × P)) → AreListed IsListed parents → IsForest (numbered number links) (numbered number parents) → IsForest links parents
    forest_by_numbers parents known forest = record {
      single = λ child x y first second.
          apart x y (known child x first).1 (known child y second).1
          (forest.single (number child) (number x) (number y) (to_numbered number parents child x first) (to_numbered number parents child y second));
      acyclic = λ child parent m way.
          forest.acyclic (number child) (number parent) (to_numbered number parents child parent m) (walks_numbered number parents parent child way);
      between = λ x y m.
          let ends = listed x y m in
          let there = forest.between (number x) (number y) (to_numbered number links x y m) in
          from_numbered (both_ways parents) (listed_both IsListed parents known) x y ends.0 ends.1
          (subst (λ (ps : List (ℕ × ℕ)). Contains ps (number x, number y)) (sym (numbered_both number parents)) there);
      linked = λ child parent m.
          let ends = known child parent m in
          let there = forest.linked (number child) (number parent) (to_numbered number parents child parent m) in
          from_numbered (both_ways links) (listed_both IsListed links listed) child parent ends.0 ends.1
          (subst (λ (ps : List (ℕ × ℕ)). Contains ps (number child, number parent)) (sym (numbered_both number links)) there);
      apart = λ place x y is m.
          forest.apart place (number x) (number y) (numbered_at number links place (x, y) is)
          (subst (λ (ps : List (ℕ × ℕ)). Contains ps (number x, number y)) (numbered_others number links place) (to_numbered number (both_ways (without place links)) x y m));
    }

    -- things among the ends of the links, whose numbers these are
    record AreOf (parents : List (ℕ × ℕ)) : Type 0 where
      things : List (P × P)
      is : numbered number things ≡ parents
      among : (x y : P) → Contains things (x, y) → Contains (both_ways links) (x, y)

    things_of : (parents : List (ℕ × ℕ)) → ((c p : ℕ) → Contains parents (c, p) → Contains (numbered number (both_ways links)) (c, p)) → AreOf parents
    things_of [] among = record { things = []; is = refl; among = λ x y m. absurd (in_none {X = P × P} (x, y) m) }
    things_of (pair ∷ parents) among =
        let v = from_map (both number) (both_ways links) pair (among pair.0 pair.1 (in_head pair parents)) in
        let rest = things_of parents (λ c p m. among c p (in_tail pair parents (c, p) m)) in
        record {
          things = v.element ∷ rest.things;
          is = ap (λ (p : ℕ × ℕ). p ∷ numbered number rest.things) v.value ∙ ap (λ (ps : List (ℕ × ℕ)). pair ∷ ps) rest.is;
          among = λ x y m. elim (in_cases v.element rest.things (x, y) m) as (λ _. Contains (both_ways links) (x, y)) [
            | inl e ↦ subst (λ (p : P × P). Contains (both_ways links) p) e v.inside
            | inr n ↦ rest.among x y n
          ];
        }

    -- so things have a forest where no link closes a ring
    pub forest_of_things : HasNoRing links → HasForest links
    forest_of_things none =
        let forest = forest_of (numbered number links) (same_no_ring.0 none) in
        let of = things_of forest.parents (λ c p m. subst (λ (ps : List (ℕ × ℕ)). Contains ps (c, p)) (sym (numbered_both number links)) (forest.is.linked c p m)) in
        let known : AreListed IsListed of.things = λ x y m. listed_both IsListed links listed x y (of.among x y m) in
        record {
          parents = of.things;
          is = forest_by_numbers of.things known (subst (λ (ps : List (ℕ × ℕ)). IsForest (numbered number links) ps) (sym of.is) forest.is);
        }
