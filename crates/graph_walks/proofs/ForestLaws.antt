-- Links of which none closes a ring have a forest, and in a forest none does.
use Rattle.std.proofs.Common.{◌≡◌, ◌⊎◌, inl, inr, ℕ, zero, suc, List, [], ◌∷◌, refl, sym, ap, ◌∙◌, subst}
use Rattle.std.specs.Prelude.{Contains, Some, slice_get}
use Rattle.std.proofs.lemmas.Option.{same_Some}
use Rattle.owl_list.proofs.AscendingLaws.{in_cases, in_head, in_none, in_tail}
use Rattle.graph_walks.specs.Forests.{HasForest, HasNoRing, IsForest}
use Rattle.graph_walks.specs.Rings.{ClosesRing, without}
use Rattle.graph_walks.specs.Walks.{IsReached, Walks, both_ways, here, onward}
use Rattle.graph_walks.proofs.Joining.{some_start, split_walk}
use Rattle.graph_walks.proofs.WalkLaws.{both_among, both_back, both_forth, both_turned, first_step, from_both, joined_back, one_step, walk_among, walk_keeps, walk_on}
use Rattle.graph_walks.proofs.WithoutLaws.{among_without, in_place, without_later}

-- in a forest the links but one join no child with the parent that this one links it with
module _ {P : Type 0} (links parents : List (P × P)) (forest : IsForest links parents) (place : ℕ) (link : P × P) (is : slice_get links place ≡ Some link) where
  other_parents : (x y : P) → Contains (both_ways (without place links)) (x, y) → Contains (both_ways parents) (x, y)
  other_parents x y m =
      both_among (without place links) parents (λ z w n. forest.between z w (among_without links place z w n)) x y m

  not_among : (x y : P) → Contains (both_ways (without place links)) (x, y) → ◌≡◌ {A = P × P} (x, y) link ⊎ ◌≡◌ {A = P × P} (y, x) link → ⊥
  not_among x y m ends =
      let apart = forest.apart place link.0 link.1 is in
      elim ends as (λ _. ⊥) [
        | inl same ↦ apart (subst (λ (p : P × P). Contains (both_ways (without place links)) p) same m)
        | inr round ↦ apart (subst (λ (p : P × P). Contains (both_ways (without place links)) p) round (both_turned (without place links) x y m))
      ]

  module _ (child parent : P) (above : Contains parents (child, parent)) (ends : ◌≡◌ {A = P × P} (child, parent) link ⊎ ◌≡◌ {A = P × P} (parent, child) link) where
    -- what stands below the child, the other links keep
    keeps : (x y : P) → Contains (both_ways (without place links)) (x, y) → Walks parents x child → Walks parents y child
    keeps x y m way =
        elim (from_both parents x y (other_parents x y m)) as (λ _. Walks parents y child) [
          | inl up ↦ elim (first_step parents x child way) as (λ _. Walks parents y child) [
            | inl same ↦
                let one : y ≡ parent = forest.single child y parent (subst (λ (z : P). Contains parents (z, y)) same up) above in
                let moved : Contains (both_ways (without place links)) (child, parent) = subst (λ (z : P). Contains (both_ways (without place links)) (child, z)) one (subst (λ (z : P). Contains (both_ways (without place links)) (z, y)) same m) in
                absurd (not_among child parent moved ends)
            | inr begins ↦
                let one : begins.next ≡ y = forest.single x begins.next y begins.step up in
                subst (λ (z : P). Walks parents z child) one begins.rest
          ]
          | inr down ↦ walk_on parents y x child (one_step parents y x down) way
        ]

    no_way : Walks (both_ways (without place links)) child parent → ⊥
    no_way way =
        forest.acyclic child parent above
        (walk_keeps (both_ways (without place links)) (λ x. Walks parents x child) keeps child parent way (here child))

  pub no_ring_there : ClosesRing links place link → ⊥
  no_ring_there ring =
      elim (from_both parents link.0 link.1 (forest.between link.0 link.1 (in_place links place link is))) as (λ _. ⊥) [
        | inl up ↦ no_way link.0 link.1 up (inl refl) ring
        | inr down ↦ no_way link.1 link.0 down (inr refl) (joined_back (without place links) link.0 link.1 ring)
      ]

pub forest_has_no_ring : {P : Type 0} (links parents : List (P × P)) → IsForest links parents → HasNoRing links
forest_has_no_ring links parents forest = λ place link is ring. no_ring_there links parents forest place link is ring

-- a link between a root and a node that the links do not join with it: the node becomes its parent
module _ {P : Type 0} (link : P × P) (links parents : List (P × P)) (child parent : P) (forest : IsForest links parents) (ends : ◌≡◌ {A = P × P} link (child, parent) ⊎ ◌≡◌ {A = P × P} link (parent, child)) (root : (x : P) → Contains parents (child, x) → ⊥) (apart : Walks (both_ways links) child parent → ⊥) where
  abbrev branch : P × P
  branch = (child, parent)

  abbrev Grown : List (P × P)
  Grown = (child, parent) ∷ parents

  -- what is joined by parents is so by links
  by_links : (x y : P) → Walks parents x y → Walks (both_ways links) x y
  by_links x y way = walk_among parents (both_ways links) forest.linked x y way

  single_more : (c x y : P) → Contains Grown (c, x) → Contains Grown (c, y) → x ≡ y
  single_more c x y first second =
      elim (in_cases branch parents (c, x) first) as (λ _. x ≡ y) [
        | inl a ↦ elim (in_cases branch parents (c, y) second) as (λ _. x ≡ y) [
          | inl b ↦ sym (ap (λ (p : P × P). p.1) a) ∙ ap (λ (p : P × P). p.1) b
          | inr n ↦ absurd (root y (subst (λ (z : P). Contains parents (z, y)) (sym (ap (λ (p : P × P). p.0) a)) n))
        ]
        | inr m ↦ elim (in_cases branch parents (c, y) second) as (λ _. x ≡ y) [
          | inl b ↦ absurd (root x (subst (λ (z : P). Contains parents (z, x)) (sym (ap (λ (p : P × P). p.0) b)) m))
          | inr n ↦ forest.single c x y m n
        ]
      ]

  -- a walk up from the parent does not lead to the child
  not_up : Walks parents parent child → ⊥
  not_up way = apart (joined_back links parent child (by_links parent child way))

  acyclic_more : (c p : P) → Contains Grown (c, p) → Walks Grown p c → ⊥
  acyclic_more c p m way =
      elim (in_cases branch parents (c, p) m) as (λ _. ⊥) [
        | inl same ↦
            let from_parent : Walks Grown parent c = subst (λ (q : P × P). Walks Grown q.1 c) (sym same) way in
            let cycle : Walks Grown parent child = subst (λ (q : P × P). Walks Grown parent q.0) (sym same) from_parent in
            elim (split_walk branch parents parent child cycle) as (λ _. ⊥) [ inl w ↦ not_up w | inr ws ↦ not_up ws.0 ]
        | inr n ↦ elim (split_walk branch parents p c way) as (λ _. ⊥) [
          | inl w ↦ forest.acyclic c p n w
          | inr ws ↦ not_up (walk_on parents parent p child (onward parent c p ws.1 n) ws.0)
        ]
      ]

  between_more : (x y : P) → Contains (link ∷ links) (x, y) → Contains (both_ways Grown) (x, y)
  between_more x y m =
      elim (in_cases link links (x, y) m) as (λ _. Contains (both_ways Grown) (x, y)) [
        | inl same ↦ elim ends as (λ _. Contains (both_ways Grown) (x, y)) [
          | inl forth ↦ subst (λ (q : P × P). Contains (both_ways Grown) q) (sym forth ∙ same) (both_forth Grown child parent (in_head branch parents))
          | inr back ↦ subst (λ (q : P × P). Contains (both_ways Grown) q) (sym back ∙ same) (both_back Grown child parent (in_head branch parents))
        ]
        | inr n ↦ both_among parents Grown (λ z w k. both_forth Grown z w (in_tail branch parents (z, w) k)) x y (forest.between x y n)
      ]

  linked_more : (c p : P) → Contains Grown (c, p) → Contains (both_ways (link ∷ links)) (c, p)
  linked_more c p m =
      elim (in_cases branch parents (c, p) m) as (λ _. Contains (both_ways (link ∷ links)) (c, p)) [
        | inl same ↦ elim ends as (λ _. Contains (both_ways (link ∷ links)) (c, p)) [
          | inl forth ↦ subst (λ (q : P × P). Contains (both_ways (link ∷ links)) q) (forth ∙ same) (both_forth (link ∷ links) link.0 link.1 (in_head link links))
          | inr back ↦
              let there : Contains (link ∷ links) (parent, child) = subst (λ (q : P × P). Contains (link ∷ links) q) back (in_head link links) in
              subst (λ (q : P × P). Contains (both_ways (link ∷ links)) q) same (both_back (link ∷ links) parent child there)
        ]
        | inr n ↦ both_among links (link ∷ links) (λ z w k. both_forth (link ∷ links) z w (in_tail link links (z, w) k)) c p (forest.linked c p n)
      ]

  -- the link's ends are not joined by the others
  ends_apart : Walks (both_ways links) link.0 link.1 → ⊥
  ends_apart way = elim ends as (λ _. ⊥) [
    | inl forth ↦ apart (subst (λ (q : P × P). Walks (both_ways links) q.0 q.1) forth way)
    | inr back ↦ apart (joined_back links parent child (subst (λ (q : P × P). Walks (both_ways links) q.0 q.1) back way))
  ]

  link_not_among : (x y : P) → ◌≡◌ {A = P × P} link (x, y) → Contains (both_ways links) (x, y) → ⊥
  link_not_among x y same m =
      ends_apart (subst (λ (q : P × P). Walks (both_ways links) q.0 q.1) (sym same) (one_step (both_ways links) x y m))

  apart_more : (place : ℕ) (x y : P) → slice_get (link ∷ links) place ≡ Some (x, y) → Contains (both_ways (without place (link ∷ links))) (x, y) → ⊥
  apart_more zero x y is m = link_not_among x y (same_Some link (x, y) is) m
  apart_more (suc place) x y is m =
      let there : Contains links (x, y) = in_place links place (x, y) is in
      let others : Contains (both_ways (link ∷ without place links)) (x, y) = subst (λ (ls : List (P × P)). Contains (both_ways ls) (x, y)) (without_later link links place) m in
      elim (from_both (link ∷ without place links) x y others) as (λ _. ⊥) [
        | inl n ↦ elim (in_cases link (without place links) (x, y) n) as (λ _. ⊥) [
          | inl same ↦ link_not_among x y same (both_forth links x y there)
          | inr k ↦ forest.apart place x y is (both_forth (without place links) x y k)
        ]
        | inr n ↦ elim (in_cases link (without place links) (y, x) n) as (λ _. ⊥) [
          | inl same ↦ link_not_among y x same (both_back links x y there)
          | inr k ↦ forest.apart place x y is (both_back (without place links) y x k)
        ]
      ]

  pub one_more_link : IsForest (link ∷ links) ((child, parent) ∷ parents)
  one_more_link = record {
    single = single_more;
    acyclic = acyclic_more;
    between = between_more;
    linked = linked_more;
    apart = apart_more;
  }

-- where none of more links closes a ring, none of some does, and the first link joins what the others do not
pub rest_has_no_ring : {P : Type 0} (link : P × P) (links : List (P × P)) → HasNoRing (link ∷ links) → HasNoRing links
rest_has_no_ring {P} link links none place other is ring =
    let more : Walks (both_ways (link ∷ without place links)) other.0 other.1 =
    walk_among (both_ways (without place links)) (both_ways (link ∷ without place links)) (both_among (without place links) (link ∷ without place links) (λ z w k. both_forth (link ∷ without place links) z w (in_tail link (without place links) (z, w) k))) other.0 other.1 ring in
    none (suc place) other is (subst (λ (ls : List (P × P)). Walks (both_ways ls) other.0 other.1) (sym (without_later link links place)) more)

-- by links no two of these nodes are joined
abbrev pub AreUnjoined : List (ℕ × ℕ) → List ℕ → Type 0
AreUnjoined links these = (x y : ℕ) → Contains these x → Contains these y → Walks (both_ways links) x y → x ≡ y

-- a forest in which these nodes have no parent
pub record IsRooted (links : List (ℕ × ℕ)) (roots : List ℕ) : Type 0 where
  pub parents : List (ℕ × ℕ)
  pub is : IsForest links parents
  pub tops : (root x : ℕ) → Contains roots root → Contains parents (root, x) → ⊥

-- one of the link's ends becomes a root beside these, and then the child of the other
module _ (link : ℕ × ℕ) (links : List (ℕ × ℕ)) (roots : List ℕ) (child parent : ℕ) (ends : ◌≡◌ {A = ℕ × ℕ} link (child, parent) ⊎ ◌≡◌ {A = ℕ × ℕ} link (parent, child)) (fresh : (root : ℕ) → Contains roots root → Walks (both_ways links) child root → ⊥) where
  more_ways : (x y : ℕ) → Walks (both_ways links) x y → Walks (both_ways (link ∷ links)) x y
  more_ways x y way =
      walk_among (both_ways links) (both_ways (link ∷ links)) (both_among links (link ∷ links) (λ z w k. both_forth (link ∷ links) z w (in_tail link links (z, w) k))) x y way

  pub one_more_root : AreUnjoined (link ∷ links) roots → AreUnjoined links (child ∷ roots)
  one_more_root unjoined =
      λ x y first second way.
      elim (in_cases child roots x first) as (λ _. x ≡ y) [
        | inl a ↦ elim (in_cases child roots y second) as (λ _. x ≡ y) [
          | inl b ↦ sym a ∙ b
          | inr n ↦ absurd (fresh y n (subst (λ (z : ℕ). Walks (both_ways links) z y) (sym a) way))
        ]
        | inr m ↦ elim (in_cases child roots y second) as (λ _. x ≡ y) [
          | inl b ↦ absurd (fresh x m (subst (λ (z : ℕ). Walks (both_ways links) z x) (sym b) (joined_back links x y way)))
          | inr n ↦ unjoined x y m n (more_ways x y way)
        ]
      ]

  pub hung : (Walks (both_ways links) child parent → ⊥) → IsRooted links (child ∷ roots) → IsRooted (link ∷ links) roots
  hung apart rooted = record {
    parents = (child, parent) ∷ rooted.parents;
    is = one_more_link link links rooted.parents child parent rooted.is ends (λ x m. rooted.tops child x (in_head child roots) m) apart;
    tops = λ root x among m. elim (in_cases {X = ℕ × ℕ} (child, parent) rooted.parents (root, x) m) as (λ _. ⊥) [
      | inl same ↦
          let own : child ≡ root = ap (λ (q : ℕ × ℕ). q.0) same in
          fresh root among (subst (λ (z : ℕ). Walks (both_ways links) child z) own (here child))
      | inr n ↦ rooted.tops root x (in_tail child roots root among) n
    ];
  }

no_links : (roots : List ℕ) → IsRooted [] roots
no_links roots = record {
  parents = [];
  is = record {
    single = λ c x y m. absurd (in_none {X = ℕ × ℕ} (c, x) m);
    acyclic = λ c p m. absurd (in_none {X = ℕ × ℕ} (c, p) m);
    between = λ x y m. absurd (in_none {X = ℕ × ℕ} (x, y) m);
    linked = λ c p m. absurd (in_none {X = ℕ × ℕ} (c, p) m);
    apart = λ place x y is m. in_none {X = ℕ × ℕ} (x, y) (in_place {P = ℕ} [] place (x, y) is);
  };
  tops = λ root x among m. in_none {X = ℕ × ℕ} (root, x) m;
}

module _ (link : ℕ × ℕ) (links : List (ℕ × ℕ)) (roots : List ℕ) (unjoined : AreUnjoined (link ∷ links) roots) (apart : Walks (both_ways links) link.0 link.1 → ⊥) where
  -- where the link's first end is joined with one of these, its second end is with none
  other_fresh : IsReached (both_ways links) roots link.0 → (root : ℕ) → Contains roots root → Walks (both_ways links) link.1 root → ⊥
  other_fresh first root among way =
      let more : (x y : ℕ) → Walks (both_ways links) x y → Walks (both_ways (link ∷ links)) x y = λ x y w. walk_among (both_ways links) (both_ways (link ∷ links)) (both_among links (link ∷ links) (λ z v k. both_forth (link ∷ links) z v (in_tail link links (z, v) k))) x y w in
      let across : Contains (both_ways (link ∷ links)) (link.0, link.1) = both_forth (link ∷ links) link.0 link.1 (in_head link links) in
      let through : Walks (both_ways (link ∷ links)) first.start root =
      walk_on (both_ways (link ∷ links)) first.start link.1 root (onward first.start link.0 link.1 (more first.start link.0 first.way) across) (more link.1 root way) in
      let one : first.start ≡ root = unjoined first.start root first.among among through in
      let back : Walks (both_ways links) link.1 link.0 = walk_on (both_ways links) link.1 root link.0 way (subst (λ (z : ℕ). Walks (both_ways links) z link.0) one first.way) in
      apart (joined_back links link.1 link.0 back)

pub rooted_forest : (links : List (ℕ × ℕ)) → HasNoRing links → (roots : List ℕ) → AreUnjoined links roots → IsRooted links roots
rooted_forest [] none roots unjoined = no_links roots
rooted_forest (link ∷ links) none roots unjoined =
    let apart : Walks (both_ways links) link.0 link.1 → ⊥ = λ way. none 0 link refl way in
    let rest = rest_has_no_ring link links none in
    elim (some_start (both_ways links) roots link.0) as (λ _. IsRooted (link ∷ links) roots) [
      | inl reached ↦
          let fresh = other_fresh link links roots unjoined apart reached in
          hung link links roots link.1 link.0 (inr refl) fresh (λ way. apart (joined_back links link.1 link.0 way))
          (rooted_forest links rest (link.1 ∷ roots) (one_more_root link links roots link.1 link.0 (inr refl) fresh unjoined))
      | inr never ↦
          let fresh : (root : ℕ) → Contains roots root → Walks (both_ways links) link.0 root → ⊥ = λ root among way. never root among (joined_back links link.0 root way) in
          hung link links roots link.0 link.1 (inl refl) fresh apart
          (rooted_forest links rest (link.0 ∷ roots) (one_more_root link links roots link.0 link.1 (inl refl) fresh unjoined))
    ]

pub forest_of : (links : List (ℕ × ℕ)) → HasNoRing links → HasForest links
forest_of links none =
    let rooted = rooted_forest links none [] (λ x y m. absurd (in_none x m)) in
    record { parents = rooted.parents; is = rooted.is }
