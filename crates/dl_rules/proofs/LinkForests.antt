-- A forest of links exists exactly where none of them closes a ring.
use Rattle.std.proofs.Common.{◌≡◌, ◌⊎◌, inl, inr, ℕ, true, List, [], ◌∷◌, map, sym, ap, ◌∙◌, subst}
use Rattle.std.specs.Prelude.{◌↔◌, Contains, Some, not, slice_get}
use Rattle.std.specs.List.{filter}
use Rattle.std.proofs.lemmas.Bool.{false_from_ne_true, false≢true, not_from_false, not_from_true}
use Rattle.std.proofs.lemmas.Option.{same_Some}
use Rattle.std.proofs.lemmas.Slice.Eq.{bytes_eq-Decides}
use Rattle.owl_kind.proofs.Found.{only}
use Rattle.owl_list.specs.Ascending.{AreApart, HoldSame}
use Rattle.owl_list.proofs.AscendingLaws.{from_map, in_head, in_map}
use Rattle.owl_list.proofs.FilterLaws.{from_filter, in_filter}
use Rattle.graph_walks.specs.Forests as graph
use Rattle.graph_walks.specs.Rings.{without}
use Rattle.graph_walks.specs.Walks.{Walks, both_ways}
use Rattle.graph_walks.proofs.ForestLaws.{forest_has_no_ring}
use Rattle.graph_walks.proofs.WalkLaws.{both_among, both_back, both_forth, from_both, walk_among}
use Rattle.graph_walks.proofs.WithoutLaws.{from_without, in_without}
use Rattle.dl_rules.specs.Assertions.{ClosesRing, ForestExists, IsForest, Link, ends, link_eq, ways_beside}
use Rattle.owl_list.proofs.EachOnceLaws.{IsTrimmed, at_place, decided, once, one_place, there, trimmed}
use Rattle.dl_rules.proofs.PropertyLaws.{link_tells}
use Rattle.dl_rules.proofs.NumberedForests.{forest_over, from_map_at, to_map_at}

same_link : (l m : Link) → (l ≡ m) ⊎ (l ≡ m → ⊥)
same_link l m = decided (link_tells l m)

same_label : (a b : List ℕ) → (a ≡ b) ⊎ (a ≡ b → ⊥)
same_label a b = decided (bytes_eq-Decides a b)

same_pair : (p q : List ℕ × List ℕ) → (p ≡ q) ⊎ (p ≡ q → ⊥)
same_pair p q = elim (same_label p.0 q.0) as (λ _. (p ≡ q) ⊎ (p ≡ q → ⊥)) [
  | inl first ↦ elim (same_label p.1 q.1) as (λ _. (p ≡ q) ⊎ (p ≡ q → ⊥)) [
    | inl second ↦ inl (ap (λ (a : List ℕ). (a, p.1)) first ∙ ap (λ (b : List ℕ). (q.0, b)) second)
    | inr differs ↦ inr (λ same. differs (ap (λ (r : List ℕ × List ℕ). r.1) same))
  ]
  | inr differs ↦ inr (λ same. differs (ap (λ (r : List ℕ × List ℕ). r.0) same))
]

-- other links by value are those in other places
module _ (links these : List Link) (apart : AreApart these) (same : HoldSame these links) where
  abbrev pairs : List (List ℕ × List ℕ)
  pairs = map ends these

  abbrev others : Link → List Link
  others l = filter (λ other. not (link_eq other l)) links

  -- in another place, and so another by value
  other_there : (place : ℕ) (l : Link) → slice_get these place ≡ Some l → (a b : List ℕ) → Contains (without place pairs) (a, b) →
      Contains (map ends (others l)) (a, b)
  other_there place l is a b m =
      let e = from_without pairs place (a, b) m in
      let v = from_map_at ends these e.other (a, b) e.is in
      let differs : v.element ≡ l → ⊥ =
      λ equal. e.differs (one_place these apart e.other place l (v.is ∙ ap (λ (k : Link). Some k) equal) is) in
      let passes : not (link_eq v.element l) ≡ true =
      not_from_false (link_eq v.element l) (false_from_ne_true (link_eq v.element l) (λ h. differs ((link_tells v.element l).0 h))) in
      let kept : Contains (others l) v.element =
      in_filter (λ other. not (link_eq other l)) links v.element ((same v.element).0 (there these e.other v.element v.is)) passes in
      subst (λ (p : List ℕ × List ℕ). Contains (map ends (others l)) p) v.value (in_map ends (others l) v.element kept)

  -- another by value, and so in another place
  other_place : (place : ℕ) (l m : Link) → slice_get these place ≡ Some l → Contains links m → (m ≡ l → ⊥) →
      Contains (without place pairs) (ends m)
  other_place place l m is n differs =
      let k : Contains these m = (same m).1 n in
      let at : slice_get these k.0 ≡ Some m = at_place these m k in
      let elsewhere : k.0 ≡ place → ⊥ = λ equal. differs (same_Some m l (sym at ∙ (ap (slice_get these) equal ∙ is))) in
      in_without pairs place (ends m) k.0 elsewhere (to_map_at ends these k.0 m at)

  other_beside : (place : ℕ) (l : Link) → slice_get these place ≡ Some l → (a b : List ℕ) → Contains (map ends (others l)) (a, b) →
      Contains (without place pairs) (a, b)
  other_beside place l is a b m =
      let v = from_map ends (others l) (a, b) m in
      let k = from_filter (λ other. not (link_eq other l)) links v.element v.inside in
      let differs : v.element ≡ l → ⊥ =
      λ equal. false≢true (sym (not_from_true (link_eq v.element l) ((link_tells v.element l).1 equal)) ∙ k.passes) in
      subst (λ (p : List ℕ × List ℕ). Contains (without place pairs) p) v.value (other_place place l v.element is k.inside differs)

  abbrev NoneCloses : Type 0
  NoneCloses = (l : Link) → Contains links l → ClosesRing links l → ⊥

  pairs_have_no_ring : NoneCloses → graph.HasNoRing pairs
  pairs_have_no_ring none = λ place pair is ring.
      let v = from_map_at ends these place pair is in
      let l : Link = v.element in
      let way : Walks (ways_beside links l) pair.0 pair.1 =
      walk_among (both_ways (without place pairs)) (ways_beside links l)
      (both_among (without place pairs) (map ends (others l))
      (λ a b m. both_forth (map ends (others l)) a b (other_there place l v.is a b m))) pair.0 pair.1 ring in
      none l ((same l).0 (there these place l v.is)) (subst (λ (p : List ℕ × List ℕ). Walks (ways_beside links l) p.0 p.1) (sym v.value) way)

  none_closes : graph.HasNoRing pairs → NoneCloses
  none_closes none = λ l m ring.
      let k : Contains these l = (same l).1 m in
      let at : slice_get these k.0 ≡ Some l = at_place these l k in
      let rest : List (List ℕ × List ℕ) = without k.0 pairs in
      none k.0 (ends l) (to_map_at ends these k.0 l at)
      (walk_among (ways_beside links l) (both_ways rest)
      (both_among (map ends (others l)) rest (λ a b n. both_forth rest a b (other_beside k.0 l at a b n))) l.subject l.object ring)

  in_pairs : (l : Link) → Contains links l → Contains pairs (ends l)
  in_pairs l m = in_map ends these l ((same l).1 m)

  -- a forest of the pairs is one of the links
  forest_of_links : (parents : List (List ℕ × List ℕ)) → graph.IsForest pairs parents → IsForest links parents
  forest_of_links parents forest = record {
    single = forest.single;
    acyclic = forest.acyclic;
    between = λ l m. forest.between l.subject l.object (in_pairs l m);
    apart = λ l m first second joined. elim (same_link m l) as (λ _. l ≡ m) [
      | inl equal ↦ sym equal
      | inr differs ↦
          let k : Contains these l = (same l).1 first in
          let at : slice_get these k.0 ≡ Some l = at_place these l k in
          let rest : List (List ℕ × List ℕ) = without k.0 pairs in
          let other : Contains rest (ends m) = other_place k.0 l m at second differs in
          let one : (a b : List ℕ) → Contains (ends m ∷ []) (a, b) → Contains (both_ways rest) (a, b) = λ a b n.
          subst (λ (p : List ℕ × List ℕ). Contains (both_ways rest) p) (only (ends m) (a, b) n) (both_forth rest m.subject m.object other) in
          absurd (forest.apart k.0 l.subject l.object (to_map_at ends these k.0 l at) (both_among (ends m ∷ []) rest one l.subject l.object joined))
    ];
  }

  -- a forest of the links, but for those of its pairs that no link joins
  module _ (parents : List (List ℕ × List ℕ)) (forest : IsForest links parents) where
    abbrev trim : IsTrimmed same_pair parents (both_ways pairs)
    trim = trimmed same_pair parents (both_ways pairs)

    trimmed_among : (a b : List ℕ) → Contains trim.these (a, b) → Contains parents (a, b)
    trimmed_among a b m = ((trim.told (a, b)).0 m).0

    forest_of_pairs : graph.IsForest pairs trim.these
    forest_of_pairs = record {
      single = λ child x y first second. forest.single child x y (trimmed_among child x first) (trimmed_among child y second);
      acyclic = λ child parent m way. forest.acyclic child parent (trimmed_among child parent m)
          (walk_among trim.these parents trimmed_among parent child way);
      between = λ a b m.
          let v = from_map ends these (a, b) m in
          let up : Contains (both_ways parents) (a, b) =
          subst (λ (p : List ℕ × List ℕ). Contains (both_ways parents) p) v.value (forest.between v.element ((same v.element).0 v.inside)) in
          elim (from_both parents a b up) as (λ _. Contains (both_ways trim.these) (a, b)) [
            | inl n ↦ both_forth trim.these a b ((trim.told (a, b)).1 (n, both_forth pairs a b m))
            | inr n ↦ both_back trim.these b a ((trim.told (b, a)).1 (n, both_back pairs a b m))
          ];
      linked = λ child parent m. ((trim.told (child, parent)).0 m).1;
      apart = λ place a b is m.
          let v = from_map_at ends these place (a, b) is in
          let l : Link = v.element in
          let inside : Contains links l = (same l).0 (there these place l v.is) in
          let other_joins : (x y : List ℕ) → Contains (without place pairs) (x, y) → Contains (both_ways ((x, y) ∷ [])) (ends l) → ⊥ =
          λ x y n joins.
          let e = from_without pairs place (x, y) n in
          let w = from_map_at ends these e.other (x, y) e.is in
          let equal : l ≡ w.element =
          forest.apart l w.element inside ((same w.element).0 (there these e.other w.element w.is))
          (subst (λ (p : List ℕ × List ℕ). Contains (both_ways (p ∷ [])) (ends l)) (sym w.value) joins) in
          e.differs (one_place these apart e.other place l (w.is ∙ ap (λ (k : Link). Some k) (sym equal)) v.is) in
          elim (from_both (without place pairs) a b m) as (λ _. ⊥) [
            | inl n ↦ other_joins a b n
                (subst (λ (p : List ℕ × List ℕ). Contains (both_ways ((a, b) ∷ [])) p) (sym v.value)
                (both_forth ((a, b) ∷ []) a b (in_head {X = List ℕ × List ℕ} (a, b) [])))
            | inr n ↦ other_joins b a n
                (subst (λ (p : List ℕ × List ℕ). Contains (both_ways ((b, a) ∷ [])) p) (sym v.value)
                (both_back ((b, a) ∷ []) b a (in_head {X = List ℕ × List ℕ} (b, a) [])))
          ];
    }

pub link_forests : (links : List Link) → ((l : Link) → Contains links l → ClosesRing links l → ⊥) ↔ ForestExists links
link_forests links =
    let o = once same_link links in (
      λ none.
          let has = forest_over same_label [] (map ends o.these) (pairs_have_no_ring links o.these o.apart o.same none) in
          record { parents = has.parents; is = forest_of_links links o.these o.apart o.same has.parents has.is },
      λ exists.
          none_closes links o.these o.apart o.same
          (forest_has_no_ring (map ends o.these) (trim links o.these o.apart o.same exists.parents exists.is).these
          (forest_of_pairs links o.these o.apart o.same exists.parents exists.is)),
    )
