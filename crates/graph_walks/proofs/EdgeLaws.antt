-- Laws of edges, and edges that are made pair by pair.
use Rattle.std.proofs.Common.{◌≡◌, ◌<◌, ◌+◌, ◌-◌, ◌++◌, inl, inr, ℕ, zero, suc, List, [], ◌∷◌, length, get_or, set, map, take, refl, sym, ap, ◌∙◌, subst, arith}
use Rattle.std.specs.Prelude.{◌↔◌, Contains}
use Rattle.std.specs.declared.vec.Vec.{Vec}
use Rattle.std.proofs.lemmas.Bool.{cases_eq, cases_lt}
use Rattle.std.proofs.lemmas.List.{get_or-append_right, get_or-map, get_or-set_other, get_or-set_same, get_or_append_left, get_or_past, length-map, map-append, map-set, take_more}
use Rattle.std.proofs.lemmas.List.Elements.{Contains-append_cases, Contains-append_left, Contains-append_right, Contains-get_or, Contains-push, Contains-push_cases}
use Rattle.owl_list.proofs.AscendingLaws.{from_map, in_map, in_none}
use Rattle.graph_walks.specs.Edges.{AreEdges, edges_of, successors}
use Rattle.graph_walks.specs.Walks.{AreWithin}

pub graph_size : {Z : Type 0} (edges : List (Vec ℕ Z)) → length (edges_of edges) ≡ length edges
graph_size {Z} edges = length-map edges (λ (nodes : Vec ℕ Z). nodes.items)

-- what has an edge is a node
pub begins_within : (edges : List (List ℕ)) (from next : ℕ) → Contains (successors edges from) next → from < length edges
begins_within edges from next h =
    elim (cases_lt from (length edges)) as (λ _. from < length edges) [
      | inl before ↦ before
      | inr past ↦ absurd (in_none next (subst (λ (nodes : List ℕ). Contains nodes next) (get_or_past edges from [] past) h))
    ]

abbrev own : List ℕ → List (ℕ × ℕ)
own nexts = map (λ (y : ℕ). (0, y)) nexts

abbrev behind : ℕ × ℕ → ℕ × ℕ
behind pair = (suc pair.0, pair.1)

-- the pairs that lead along the edges
pub pairs_of : List (List ℕ) → List (ℕ × ℕ)
pairs_of [] = []
pairs_of (nexts ∷ edges) = own nexts ++ map behind (pairs_of edges)

abbrev later : List (List ℕ) → List (ℕ × ℕ)
later edges = map behind (pairs_of edges)

-- for each node those to which they lead
pub pairs_tell : (edges : List (List ℕ)) → AreEdges (pairs_of edges) edges
unfolding pairs_of
pairs_tell [] x y = (
  λ m. absurd (in_none y m),
  λ m. absurd (in_none {X = ℕ × ℕ} (x, y) m),
)
pairs_tell (nexts ∷ edges) zero y = (
  λ m. Contains-append_left (own nexts) (later edges) (0, y) (in_map (λ (z : ℕ). (0, z)) nexts y m),
  λ m. elim (Contains-append_cases (own nexts) (later edges) (0, y) m) as (λ _. Contains nexts y) [
    | inl n ↦
        let v = from_map (λ (z : ℕ). (0, z)) nexts (0, y) n in
        subst (λ (z : ℕ). Contains nexts z) (ap (λ (p : ℕ × ℕ). p.1) v.value) v.inside
    | inr n ↦
        let v = from_map behind (pairs_of edges) (0, y) n in
        absurd (let e = ap (λ (p : ℕ × ℕ). p.0) v.value in cc)
  ],
)
pairs_tell (nexts ∷ edges) (suc x) y = (
  λ m. Contains-append_right (own nexts) (later edges) (suc x, y) (in_map behind (pairs_of edges) (x, y) ((pairs_tell edges x y).0 m)),
  λ m. elim (Contains-append_cases (own nexts) (later edges) (suc x, y) m) as (λ _. Contains (successors edges x) y) [
    | inl n ↦
        let v = from_map (λ (z : ℕ). (0, z)) nexts (suc x, y) n in
        absurd (let e = ap (λ (p : ℕ × ℕ). p.0) v.value in cc)
    | inr n ↦
        let v = from_map behind (pairs_of edges) (suc x, y) n in
        let from : v.element.0 ≡ x = (let e : suc v.element.0 ≡ suc x = ap (λ (p : ℕ × ℕ). p.0) v.value in omega arith) in
        let to : v.element.1 ≡ y = ap (λ (p : ℕ × ℕ). p.1) v.value in
        (pairs_tell edges x y).1 (subst (λ (z : ℕ). Contains (pairs_of edges) (x, z)) to (subst (λ (z : ℕ). Contains (pairs_of edges) (z, v.element.1)) from v.inside))
  ],
)

one_empty : (k : ℕ) → get_or {A = List ℕ} ([] ∷ []) k [] ≡ []
one_empty zero = refl
one_empty (suc k) = refl

-- a node without edges behind
empty_more : (edges : List (List ℕ)) (x : ℕ) → successors edges x ≡ [] → successors (edges ++ [] ∷ []) x ≡ []
empty_more edges x none =
    elim (cases_lt x (length edges)) as (λ _. successors (edges ++ [] ∷ []) x ≡ []) [
      | inl before ↦ get_or_append_left edges ([] ∷ []) [] x before ∙ none
      | inr past ↦ get_or-append_right edges ([] ∷ []) (length edges) x [] refl past ∙ one_empty (x - length edges)
    ]

-- graphs without edges
abbrev pub AreEmpty : List (List ℕ) → Type 0
AreEmpty edges = (x : ℕ) → successors edges x ≡ []

pub one_more_empty : {Z : Type 0} (old new : List (Vec ℕ Z)) (last : Vec ℕ Z) → AreEmpty (edges_of old) → new ≡ old ++ last ∷ [] → last.items ≡ [] → AreEmpty (edges_of new)
one_more_empty {Z} old new last empty grown none =
    λ x.
    let same : edges_of new ≡ edges_of old ++ [] ∷ [] =
    ap (edges_of {Z = Z}) grown ∙ map-append (λ (nodes : Vec ℕ Z). nodes.items) old (last ∷ []) ∙ ap (λ (nexts : List ℕ). edges_of old ++ nexts ∷ []) none in
    subst (λ (edges : List (List ℕ)). successors edges x ≡ []) (sym same) (empty_more (edges_of old) x (empty x))

pub empty_edges : (edges : List (List ℕ)) → AreEmpty edges → AreEdges [] edges
empty_edges edges empty =
    λ x y. (
      λ m. absurd (in_none y (subst (λ (nexts : List ℕ). Contains nexts y) (empty x) m)),
      λ m. absurd (in_none {X = ℕ × ℕ} (x, y) m),
    )

-- the edges with one more
abbrev grown : List (List ℕ) → ℕ → ℕ → List (List ℕ)
grown edges from to = set edges from (successors edges from ++ to ∷ [])

module _ (pairs : List (ℕ × ℕ)) (edges : List (List ℕ)) (from to : ℕ) (h : AreEdges pairs edges) (begins : from < length edges) where
  -- at the node that it leads from
  told_here : (y : ℕ) → Contains (successors (grown edges from to) from) y ↔ Contains (pairs ++ (from, to) ∷ []) (from, y)
  told_here y =
      let now : successors (grown edges from to) from ≡ successors edges from ++ to ∷ [] =
      get_or-set_same edges from (successors edges from ++ to ∷ []) [] begins in (
        λ m. elim (Contains-push_cases (successors edges from) to y (subst (λ (nexts : List ℕ). Contains nexts y) now m)) as (λ _. Contains (pairs ++ (from, to) ∷ []) (from, y)) [
          | inl n ↦ Contains-append_left pairs ((from, to) ∷ []) (from, y) ((h from y).0 n)
          | inr e ↦ subst (λ (z : ℕ). Contains (pairs ++ (from, to) ∷ []) (from, z)) e (Contains-push pairs (from, to))
        ],
        λ m. subst (λ (nexts : List ℕ). Contains nexts y) (sym now) (elim (Contains-push_cases pairs (from, to) (from, y) m) as (λ _. Contains (successors edges from ++ to ∷ []) y) [
          | inl n ↦ Contains-append_left (successors edges from) (to ∷ []) y ((h from y).1 n)
          | inr e ↦ subst (λ (z : ℕ). Contains (successors edges from ++ to ∷ []) z) (ap (λ (p : ℕ × ℕ). p.1) e) (Contains-push (successors edges from) to)
        ]),
      )

  -- and at another one
  told_else : (x y : ℕ) → (x ≡ from → ⊥) → Contains (successors (grown edges from to) x) y ↔ Contains (pairs ++ (from, to) ∷ []) (x, y)
  told_else x y differs =
      let now : successors (grown edges from to) x ≡ successors edges x =
      get_or-set_other edges from x (successors edges from ++ to ∷ []) [] differs in (
        λ m. Contains-append_left pairs ((from, to) ∷ []) (x, y) ((h x y).0 (subst (λ (nexts : List ℕ). Contains nexts y) now m)),
        λ m. subst (λ (nexts : List ℕ). Contains nexts y) (sym now) (elim (Contains-push_cases pairs (from, to) (x, y) m) as (λ _. Contains (successors edges x) y) [
          | inl n ↦ (h x y).1 n
          | inr e ↦ absurd (differs (sym (ap (λ (p : ℕ × ℕ). p.0) e)))
        ]),
      )

  one_more_edge : AreEdges (pairs ++ (from, to) ∷ []) (grown edges from to)
  one_more_edge =
      λ x y. elim (cases_eq x from) as (λ _. Contains (successors (grown edges from to) x) y ↔ Contains (pairs ++ (from, to) ∷ []) (x, y)) [
        | inl e ↦ subst (λ (z : ℕ). Contains (successors (grown edges from to) z) y ↔ Contains (pairs ++ (from, to) ∷ []) (z, y)) (sym e) (told_here y)
        | inr differs ↦ told_else x y differs
      ]

abbrev nexts_of : {Z : Type 0} → Vec ℕ Z → List ℕ
nexts_of nodes = nodes.items

-- in a loop over pairs: the node that the next one leads from has edges
pub begins_inside : (nodes : ℕ) (pairs : List (ℕ × ℕ)) (index : ℕ) → AreWithin nodes pairs → index < length pairs → (get_or pairs index (0, 0)).0 < nodes
begins_inside nodes pairs index within inside =
    let pair : ℕ × ℕ = get_or pairs index (0, 0) in
    (within pair.0 pair.1 (Contains-get_or pairs index (0, 0) inside)).0

-- and with one more edge there they are those of one more pair
pub one_more_pair : {Z : Type 0} (nodes : ℕ) (pairs : List (ℕ × ℕ)) (index : ℕ) (old new : List (Vec ℕ Z)) (was now : Vec ℕ Z) → AreWithin nodes pairs → index < length pairs → length old ≡ nodes → AreEdges (take index pairs) (edges_of old) →
    was ≡ get_or old (get_or pairs index (0, 0)).0 was → now.items ≡ was.items ++ (get_or pairs index (0, 0)).1 ∷ [] → new ≡ set old (get_or pairs index (0, 0)).0 now → AreEdges (take (index + 1) pairs) (edges_of new)
one_more_pair {Z} nodes pairs index old new was now within inside size edges read pushed put =
    let pair : ℕ × ℕ = get_or pairs index (0, 0) in
    let ends : (pair.0 < nodes) × (pair.1 < nodes) = within pair.0 pair.1 (Contains-get_or pairs index (0, 0) inside) in
    let many : nodes ≡ length (edges_of old) = sym (graph_size old ∙ size) in
    let begins : pair.0 < length old = subst (λ k. pair.0 < k) (sym size) ends.0 in
    let nexts : successors (edges_of old) pair.0 ≡ was.items =
    get_or-map (nexts_of {Z = Z}) old pair.0 was [] begins ∙ ap (nexts_of {Z = Z}) (sym read) in
    let moved : edges_of new ≡ grown (edges_of old) pair.0 pair.1 =
    ap (edges_of {Z = Z}) put ∙ map-set (nexts_of {Z = Z}) old pair.0 now
    ∙ ap (λ (xs : List ℕ). set (edges_of old) pair.0 xs) (pushed ∙ ap (λ (xs : List ℕ). xs ++ pair.1 ∷ []) (sym nexts)) in
    let more : AreEdges (take index pairs ++ pair ∷ []) (edges_of new) =
    subst (AreEdges (take index pairs ++ pair ∷ [])) (sym moved) (one_more_edge (take index pairs) (edges_of old) pair.0 pair.1 edges (subst (λ k. pair.0 < k) many ends.0)) in
    subst (λ (some : List (ℕ × ℕ)). AreEdges some (edges_of new)) (sym (take_more pairs index (0, 0) inside)) more
