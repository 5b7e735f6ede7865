-- The closure of a list of pairs: a list of those between which walks of one step or more lead.
use Rattle.std.proofs.Common.{◌≡◌, ◌⊎◌, inl, inr, Bool, List, [], ◌∷◌, ◌++◌, map, refl, sym, subst}
use Rattle.std.specs.Prelude.{Contains, Decides}
use Rattle.std.specs.List.{filter, flat_map}
use Rattle.std.proofs.lemmas.List.Elements.{Contains-append_cases, Contains-append_left, Contains-append_right}
use Rattle.owl_kind.proofs.Found.{from_joined, joined_from}
use Rattle.owl_list.proofs.AscendingLaws.{from_map, in_cases, in_head, in_map, in_none, in_tail}
use Rattle.owl_list.proofs.FilterLaws.{from_filter, in_filter}
use Rattle.graph_walks.specs.Walks.{Walks, here}
use Rattle.graph_walks.proofs.Joining.{more_walk, split_walk}
use Rattle.graph_walks.proofs.WalkLaws.{BeginsWith, first_step, one_step, walk_on}

module _ {P : Type 0} where
  -- a walk to the first of a pair, and on from its second
  pub begins_through : (pairs : List (P × P)) (x y a b : P) → Walks pairs a x → Contains pairs (x, y) → Walks pairs y b → BeginsWith pairs a b
  begins_through pairs x y a b before step after =
      elim (first_step pairs a x before) as (λ _. BeginsWith pairs a b) [
        | inl same ↦ record { next = y; step = subst (λ (p : P). Contains pairs (p, y)) (sym same) step; rest = after }
        | inr begins ↦ record {
          next = begins.next;
          step = begins.step;
          rest = walk_on pairs begins.next x b begins.rest (walk_on pairs x y b (one_step pairs x y step) after);
        }
      ]

  -- one such walk, and on by another
  pub begins_both : (pairs : List (P × P)) (a b c : P) → BeginsWith pairs a b → BeginsWith pairs b c → BeginsWith pairs a c
  begins_both pairs a b c first second = record {
    next = first.next;
    step = first.step;
    rest = walk_on pairs first.next b c first.rest (walk_on pairs b second.next c (one_step pairs b second.next second.step) second.rest);
  }

  -- by these, or by these to the first of a pair and on from its second
  abbrev Splits : P × P → List (P × P) → P → P → Type 0
  Splits pair pairs a b = BeginsWith pairs a b ⊎ (Walks pairs a pair.0 × Walks pairs pair.1 b)

  splits : (pair : P × P) (pairs : List (P × P)) (a b : P) → BeginsWith (pair ∷ pairs) a b → Splits pair pairs a b
  splits pair pairs a b begins =
      elim (in_cases pair pairs (a, begins.next) begins.step) as (λ _. Splits pair pairs a b) [
        | inl same ↦
            let first : Walks pairs a pair.0 = subst (λ (p : P × P). Walks pairs p.0 pair.0) same (here pair.0) in
            let rest : Walks (pair ∷ pairs) pair.1 b = subst (λ (p : P × P). Walks (pair ∷ pairs) p.1 b) (sym same) begins.rest in
            elim (split_walk pair pairs pair.1 b rest) as (λ _. Splits pair pairs a b) [
              | inl way ↦ inr (first, way)
              | inr ways ↦ inr (first, ways.1)
            ]
        | inr n ↦
            elim (split_walk pair pairs begins.next b begins.rest) as (λ _. Splits pair pairs a b) [
              | inl way ↦ inl (record { next = begins.next; step = n; rest = way })
              | inr ways ↦ inr (walk_on pairs a begins.next pair.0 (one_step pairs a begins.next n) ways.0, ways.1)
            ]
      ]

  -- each of the first with each of the second
  abbrev products : List P → List P → List (P × P)
  products xs ys = flat_map (λ (x : P). map (λ (y : P). (x, y)) ys) xs

  from_products : (xs ys : List P) (a b : P) → Contains (products xs ys) (a, b) → Contains xs a × Contains ys b
  from_products xs ys a b m =
      let f = from_joined {X = P} {A = P × P} (λ (x : P). map (λ (y : P). (x, y)) ys) xs (a, b) m in
      let v = from_map {X = P} {Y = P × P} (λ (y : P). (f.0, y)) ys (a, b) f.2 in
      (subst (λ (p : P × P). Contains xs p.0) v.value f.1, subst (λ (p : P × P). Contains ys p.1) v.value v.inside)

  in_products : (xs ys : List P) (a b : P) → Contains xs a → Contains ys b → Contains (products xs ys) (a, b)
  in_products xs ys a b first second =
      joined_from {X = P} {A = P × P} (λ (x : P). map (λ (y : P). (x, y)) ys) xs (a, b) a first
      (in_map {X = P} {Y = P × P} (λ (y : P). (a, y)) ys b second)

module _ {P : Type 0} (eq : P → P → Bool) (tells : (p q : P) → Decides (eq p q) (p ≡ q)) where
  -- the far ends of the pairs that have this near end
  module _ (near far : P × P → P) where
    abbrev far_ends : List (P × P) → P → List P
    far_ends pairs x = map far (filter (λ (pair : P × P). eq (near pair) x) pairs)

    record IsFarEnd (pairs : List (P × P)) (x a : P) : Type 0 where
      pub pair : P × P
      pub inside : Contains pairs pair
      pub near_is : near pair ≡ x
      pub far_is : far pair ≡ a

    -- itself, or one of these
    from_ends : (pairs : List (P × P)) (x a : P) → Contains (x ∷ far_ends pairs x) a → (x ≡ a) ⊎ IsFarEnd pairs x a
    from_ends pairs x a m =
        elim (in_cases x (far_ends pairs x) a m) as (λ _. (x ≡ a) ⊎ IsFarEnd pairs x a) [
          | inl same ↦ inl same
          | inr n ↦
              let v = from_map far (filter (λ (pair : P × P). eq (near pair) x) pairs) a n in
              let k = from_filter (λ (pair : P × P). eq (near pair) x) pairs v.element v.inside in
              inr (record { pair = v.element; inside = k.inside; near_is = (tells (near v.element) x).0 k.passes; far_is = v.value })
        ]

    in_ends : (pairs : List (P × P)) (x a : P) → (x ≡ a) ⊎ IsFarEnd pairs x a → Contains (x ∷ far_ends pairs x) a
    in_ends pairs x a (inl same) = subst (λ (y : P). Contains (x ∷ far_ends pairs x) y) same (in_head x (far_ends pairs x))
    in_ends pairs x a (inr e) =
        let kept = in_filter (λ (pair : P × P). eq (near pair) x) pairs e.pair e.inside ((tells (near e.pair) x).1 e.near_is) in
        let there : Contains (far_ends pairs x) (far e.pair) = in_map far (filter (λ (pair : P × P). eq (near pair) x) pairs) e.pair kept in
        subst (λ (y : P). Contains (x ∷ far_ends pairs x) y) e.far_is (in_tail x (far_ends pairs x) (far e.pair) there)

  abbrev first : P × P → P
  first pair = pair.0

  abbrev second : P × P → P
  second pair = pair.1

  -- what these lead to the one, with what they lead to from the other
  abbrev crossed : P × P → List (P × P) → List (P × P)
  crossed pair pairs = products (pair.0 ∷ far_ends second first pairs pair.0) (pair.1 ∷ far_ends first second pairs pair.1)

  abbrev pub closed : List (P × P) → List (P × P)
  closed [] = []
  closed (pair ∷ pairs) = crossed pair (closed pairs) ++ closed pairs

  -- a pair of the closure is a walk of one step or more
  pub from_closed : (pairs : List (P × P)) (a b : P) → Contains (closed pairs) (a, b) → BeginsWith pairs a b
  from_closed [] a b m = absurd (in_none {X = P × P} (a, b) m)
  from_closed (pair ∷ pairs) a b m =
      let way : (p : P × P) → Contains (closed pairs) p → Walks pairs p.0 p.1 = λ p k.
      let w = from_closed pairs p.0 p.1 k in walk_on pairs p.0 w.next p.1 (one_step pairs p.0 w.next w.step) w.rest in
      elim (Contains-append_cases (crossed pair (closed pairs)) (closed pairs) (a, b) m) as (λ _. BeginsWith (pair ∷ pairs) a b) [
        | inl n ↦
            let both =
            from_products (pair.0 ∷ far_ends second first (closed pairs) pair.0) (pair.1 ∷ far_ends first second (closed pairs) pair.1) a b n in
            let before : Walks pairs a pair.0 = elim (from_ends second first (closed pairs) pair.0 a both.0) as (λ _. Walks pairs a pair.0) [
              | inl same ↦ subst (λ (p : P). Walks pairs p pair.0) same (here pair.0)
              | inr e ↦ subst (λ (p : P). Walks pairs p pair.0) e.far_is (subst (λ (p : P). Walks pairs e.pair.0 p) e.near_is (way e.pair e.inside))
            ] in
            let after : Walks pairs pair.1 b = elim (from_ends first second (closed pairs) pair.1 b both.1) as (λ _. Walks pairs pair.1 b) [
              | inl same ↦ subst (λ (p : P). Walks pairs pair.1 p) same (here pair.1)
              | inr e ↦ subst (λ (p : P). Walks pairs pair.1 p) e.far_is (subst (λ (p : P). Walks pairs p e.pair.1) e.near_is (way e.pair e.inside))
            ] in
            let up_to : Walks (pair ∷ pairs) a pair.0 = more_walk pair pairs a pair.0 before in
            begins_through (pair ∷ pairs) pair.0 pair.1 a b up_to (in_head pair pairs) (more_walk pair pairs pair.1 b after)
        | inr n ↦
            let w = from_closed pairs a b n in
            record { next = w.next; step = in_tail pair pairs (a, w.next) w.step; rest = more_walk pair pairs w.next b w.rest }
      ]

  -- and each such walk is a pair of the closure
  pub in_closed : (pairs : List (P × P)) (a b : P) → BeginsWith pairs a b → Contains (closed pairs) (a, b)
  in_closed [] a b begins = absurd (in_none {X = P × P} (a, begins.next) begins.step)
  in_closed (pair ∷ pairs) a b begins =
      elim (splits pair pairs a b begins) as (λ _. Contains (closed (pair ∷ pairs)) (a, b)) [
        | inl w ↦ Contains-append_right (crossed pair (closed pairs)) (closed pairs) (a, b) (in_closed pairs a b w)
        | inr ways ↦
            let before : (pair.0 ≡ a) ⊎ IsFarEnd second first (closed pairs) pair.0 a = elim (first_step pairs a pair.0 ways.0) [
              | inl same ↦ inl (sym same)
              | inr w ↦ inr (record { pair = (a, pair.0); inside = in_closed pairs a pair.0 w; near_is = refl; far_is = refl })
            ] in
            let after : (pair.1 ≡ b) ⊎ IsFarEnd first second (closed pairs) pair.1 b = elim (first_step pairs pair.1 b ways.1) [
              | inl same ↦ inl same
              | inr w ↦ inr (record { pair = (pair.1, b); inside = in_closed pairs pair.1 b w; near_is = refl; far_is = refl })
            ] in
            let there : Contains (crossed pair (closed pairs)) (a, b) =
            in_products (pair.0 ∷ far_ends second first (closed pairs) pair.0) (pair.1 ∷ far_ends first second (closed pairs) pair.1) a b
            (in_ends second first (closed pairs) pair.0 a before) (in_ends first second (closed pairs) pair.1 b after) in
            Contains-append_left (crossed pair (closed pairs)) (closed pairs) (a, b) there
      ]

  -- so the closure goes on
  pub closed_on : (pairs : List (P × P)) (a b c : P) → Contains (closed pairs) (a, b) → Contains (closed pairs) (b, c) →
      Contains (closed pairs) (a, c)
  closed_on pairs a b c before after = in_closed pairs a c (begins_both pairs a b c (from_closed pairs a b before) (from_closed pairs b c after))

  -- and it has the pairs
  pub pair_closed : (pairs : List (P × P)) (a b : P) → Contains pairs (a, b) → Contains (closed pairs) (a, b)
  pair_closed pairs a b m = in_closed pairs a b (record { next = b; step = m; rest = here b })
