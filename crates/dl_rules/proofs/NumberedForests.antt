-- Links of which none closes a ring have a forest, whatever their nodes are: by numbers of the nodes.
use Rattle.std.proofs.Common.{◌≡◌, ◌⊎◌, inl, inr, ℕ, List, get_or, map, refl, sym, ap, ◌∙◌, subst}
use Rattle.std.specs.Prelude.{Contains, Option, None, Some, slice_get}
use Rattle.std.specs.Option.{option_map}
use Rattle.std.proofs.lemmas.List.{get_or_default}
use Rattle.std.proofs.lemmas.Option.{none-some, same_Some, slice_get-map}
use Rattle.owl_list.proofs.AscendingLaws.{from_map, in_map}
use Rattle.graph_walks.specs.Forests.{HasForest, HasNoRing, IsForest}
use Rattle.graph_walks.specs.Rings.{without}
use Rattle.graph_walks.specs.Walks.{Walks, both_ways, here, onward}
use Rattle.graph_walks.proofs.ForestLaws.{forest_of}
use Rattle.graph_walks.proofs.WalkLaws.{both_back, both_forth, both_turned, from_both}
use Rattle.owl_list.proofs.EachOnceLaws.{in_or_not}
use Rattle.graph_walks.proofs.WithoutLaws.{from_without, in_place, in_without}

-- what stands in a place, through a function
module _ {X Y : Type 0} (f : X → Y) where
  pub record IsValueAt (xs : List X) (place : ℕ) (y : Y) : Type 0 where
    pub element : X
    pub is : slice_get xs place ≡ Some element
    pub value : f element ≡ y

  of_value : (xs : List X) (place : ℕ) (y : Y) (o : Option X) → slice_get xs place ≡ o → option_map f o ≡ Some y → IsValueAt xs place y
  of_value xs place y None same h = absurd (none-some y h)
  of_value xs place y (Some x) same h = record { element = x; is = same; value = same_Some (f x) y h }

  pub from_map_at : (xs : List X) (place : ℕ) (y : Y) → slice_get (map f xs) place ≡ Some y → IsValueAt xs place y
  from_map_at xs place y h = of_value xs place y (slice_get xs place) refl (sym (slice_get-map f xs place) ∙ h)

  pub to_map_at : (xs : List X) (place : ℕ) (x : X) → slice_get xs place ≡ Some x → slice_get (map f xs) place ≡ Some (f x)
  to_map_at xs place x h = slice_get-map f xs place ∙ ap (option_map f) h

-- walks through a function
module _ {P Q : Type 0} (f : P → Q) (some : List (P × P)) (all : List (Q × Q)) where
  pub walk_through : ((x y : P) → Contains some (x, y) → Contains all (f x, f y)) → (x y : P) → Walks some x y → Walks all (f x) (f y)
  walk_through steps x y (here _) = here (f x)
  walk_through steps x y (onward _ m _ way step) = onward (f x) (f m) (f y) (walk_through steps x m way) (steps m y step)

  pub both_through : ((x y : P) → Contains some (x, y) → Contains (both_ways all) (f x, f y)) → (x y : P) → Contains (both_ways some) (x, y) →
      Contains (both_ways all) (f x, f y)
  both_through steps x y m = elim (from_both some x y m) as (λ _. Contains (both_ways all) (f x, f y)) [
    | inl n ↦ steps x y n
    | inr n ↦ both_turned all (f y) (f x) (steps y x n)
  ]

-- numbers from which the nodes of these links come back
module _ {P : Type 0} (links : List (P × P)) (number : P → ℕ) (node : ℕ → P)
    (again : (x y : P) → Contains (both_ways links) (x, y) → node (number x) ≡ x) where
  abbrev numbers : P × P → ℕ × ℕ
  numbers link = (number link.0, number link.1)

  abbrev nodes : ℕ × ℕ → P × P
  nodes pair = (node pair.0, node pair.1)

  abbrev numbered : List (ℕ × ℕ)
  numbered = map numbers links

  again_both : (x y : P) → Contains (both_ways links) (x, y) → ◌≡◌ {A = P × P} (nodes (numbers (x, y))) (x, y)
  again_both x y m =
      let first : node (number x) ≡ x = again x y m in
      let second : node (number y) ≡ y = again y x (both_turned links x y m) in
      ap (λ (z : P). (z, node (number y))) first ∙ ap (λ (z : P). (x, z)) second

  again_at : (place : ℕ) (pair : ℕ × ℕ) (v : IsValueAt numbers links place pair) → nodes pair ≡ v.element
  again_at place pair v = ap nodes (sym v.value)
      ∙ again_both v.element.0 v.element.1 (both_forth links v.element.0 v.element.1 (in_place links place v.element v.is))

  -- the links but one, and their numbers
  others_numbered : (place : ℕ) (x y : P) → Contains (without place links) (x, y) → Contains (without place numbered) (number x, number y)
  others_numbered place x y m =
      let e = from_without links place (x, y) m in
      in_without numbered place (number x, number y) e.other e.differs (to_map_at numbers links e.other (x, y) e.is)

  others_named : (place m n : ℕ) → Contains (without place numbered) (m, n) → Contains (without place links) (node m, node n)
  others_named place m n k =
      let e = from_without numbered place (m, n) k in
      let v = from_map_at numbers links e.other (m, n) e.is in
      subst (λ (link : P × P). Contains (without place links) link) (sym (again_at e.other (m, n) v))
      (in_without links place v.element e.other e.differs v.is)

  numbers_have_no_ring : HasNoRing links → HasNoRing numbered
  numbers_have_no_ring none = λ place pair is ring.
      let v = from_map_at numbers links place pair is in
      let others : List (P × P) = without place links in
      let way : Walks (both_ways others) (node pair.0) (node pair.1) =
      walk_through node (both_ways (without place numbered)) (both_ways others)
      (both_through node (without place numbered) others
      (λ m n k. both_forth others (node m) (node n) (others_named place m n k))) pair.0 pair.1 ring in
      none place v.element v.is (subst (λ (link : P × P). Walks (both_ways others) link.0 link.1) (again_at place pair v) way)

  -- numbers of linked nodes
  record AreLinked (m n : ℕ) : Type 0 where
    pub x : P
    pub y : P
    pub linked : Contains (both_ways links) (x, y)
    pub same : ◌≡◌ {A = ℕ × ℕ} (number x, number y) (m, n)

  are_linked : (m n : ℕ) → Contains (both_ways numbered) (m, n) → AreLinked m n
  are_linked m n k = elim (from_both numbered m n k) as (λ _. AreLinked m n) [
    | inl there ↦
        let v = from_map numbers links (m, n) there in
        record { x = v.element.0; y = v.element.1; linked = both_forth links v.element.0 v.element.1 v.inside; same = v.value }
    | inr there ↦
        let v = from_map numbers links (n, m) there in
        record {
          x = v.element.1;
          y = v.element.0;
          linked = both_back links v.element.0 v.element.1 v.inside;
          same = ap (λ (p : ℕ × ℕ). (p.1, p.0)) v.value;
        }
  ]

  module _ (parents : List (ℕ × ℕ)) (forest : IsForest numbered parents) where
    abbrev named : List (P × P)
    named = map nodes parents

    from_named : (c p : P) → Contains named (c, p) → Contains parents (number c, number p) × Contains (both_ways links) (c, p)
    from_named c p m =
        let v = from_map nodes parents (c, p) m in
        let l = are_linked v.element.0 v.element.1 (forest.linked v.element.0 v.element.1 v.inside) in
        let same : ◌≡◌ {A = P × P} (l.x, l.y) (c, p) = sym (again_both l.x l.y l.linked) ∙ (ap nodes l.same ∙ v.value) in (
          subst (λ (link : P × P). Contains parents (numbers link)) same (subst (λ (pair : ℕ × ℕ). Contains parents pair) (sym l.same) v.inside),
          subst (λ (link : P × P). Contains (both_ways links) link) same l.linked,
        )

    in_named : (c p : P) → Contains (both_ways links) (c, p) → Contains parents (number c, number p) → Contains named (c, p)
    in_named c p m k = subst (λ (link : P × P). Contains named link) (again_both c p m) (in_map nodes parents (number c, number p) k)

    forest_named : IsForest links named
    forest_named = record {
      single = λ child x y first second.
          let a = from_named child x first in
          let b = from_named child y second in
          sym (again x child (both_turned links child x a.1))
          ∙ (ap node (forest.single (number child) (number x) (number y) a.0 b.0) ∙ again y child (both_turned links child y b.1));
      acyclic = λ child parent m way.
          forest.acyclic (number child) (number parent) (from_named child parent m).0
          (walk_through number named parents (λ x y k. (from_named x y k).0) parent child way);
      between = λ x y m.
          let both : Contains (both_ways links) (x, y) = both_forth links x y m in
          let joined = forest.between (number x) (number y) (in_map numbers links (x, y) m) in
          elim (from_both parents (number x) (number y) joined) as (λ _. Contains (both_ways named) (x, y)) [
            | inl up ↦ both_forth named x y (in_named x y both up)
            | inr down ↦ both_back named y x (in_named y x (both_turned links x y both) down)
          ];
      linked = λ child parent m. (from_named child parent m).1;
      apart = λ place x y is m.
          let others : List (ℕ × ℕ) = without place numbered in
          forest.apart place (number x) (number y) (to_map_at numbers links place (x, y) is)
          (both_through number (without place links) others (λ z w k. both_forth others (number z) (number w) (others_numbered place z w k)) x y m);
    }

  pub forest_by_numbers : HasNoRing links → HasForest links
  forest_by_numbers none =
      let has = forest_of numbered (numbers_have_no_ring none) in
      record { parents = named has.parents has.is; is = forest_named has.parents has.is }

-- its place, where it has one
place_by : {P : Type 0} (xs : List P) (x : P) → Contains xs x ⊎ (Contains xs x → ⊥) → ℕ
place_by xs x (inl m) = m.0
place_by xs x (inr never) = 0

read_by : {P : Type 0} (some : P) (xs : List P) (x : P) (o : Contains xs x ⊎ (Contains xs x → ⊥)) → Contains xs x →
    get_or xs (place_by xs x o) some ≡ x
unfolding place_by
read_by some xs x (inl m) k = get_or_default xs m.0 some x m.1 ∙ m.2
read_by some xs x (inr never) k = absurd (never k)

module _ {P : Type 0} (decide : (x y : P) → (x ≡ y) ⊎ (x ≡ y → ⊥)) (some : P) (links : List (P × P)) where
  abbrev firsts : List P
  firsts = map (λ (link : P × P). link.0) (both_ways links)

  pub forest_over : HasNoRing links → HasForest links
  forest_over =
      forest_by_numbers links (λ x. place_by firsts x (in_or_not decide firsts x)) (λ n. get_or firsts n some) (λ x y m.
      read_by some firsts x (in_or_not decide firsts x) (in_map (λ (link : P × P). link.0) (both_ways links) (x, y) m))
