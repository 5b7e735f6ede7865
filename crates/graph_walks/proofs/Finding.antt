-- What a search has found.
use Rattle.std.proofs.Common.{◌≡◌, ◌<◌, ◌≤◌, ◌+◌, inl, inr, ℕ, Bool, true, false, List, [], ◌∷◌, ◌++◌, length, get_or, set, refl, sym, ap, ◌∙◌, subst, arith, append_assoc, append-nil}
use Rattle.std.specs.Prelude.{◌↔◌, Contains, None, Some, slice_get}
use Rattle.std.proofs.lemmas.Option.{get_or_from_slice_get, slice_get-get_or, slice_get_within}
use Rattle.std.proofs.lemmas.List.{get_or_append_left, get_or_default, get_or-set_other, get_or-set_same, length-set}
use Rattle.std.proofs.lemmas.Bool.{cases_eq, cases_lt}
use Rattle.std.proofs.lemmas.List.Elements.{Contains-append_left, Contains-append_right, Contains-append_cases, Contains-push, Contains-push_cases}
use Rattle.owl_list.proofs.AscendingLaws.{in_none, in_cases}
use Rattle.graph_walks.specs.Edges.{AreEdges, successors}
use Rattle.graph_walks.specs.Marks.{MarkNumbers}
use Rattle.graph_walks.specs.Searches.{Finds, HoldsReached, IsTold}
use Rattle.graph_walks.specs.Walks.{IsReached, here, onward}
use Rattle.graph_walks.specs.declared.found.Found.{Found}
use Rattle.graph_walks.proofs.EdgeLaws.{begins_within}
use Rattle.graph_walks.proofs.WalkLaws.{walk_keeps}

pub finds_none : (found : Found) → IsTold found → Finds [] found found
finds_none found told = record {
  told = told;
  graph = refl;
  more = [];
  grown = sym (append-nil found.nodes.items);
  among = λ node m. m;
  all = λ node m. absurd (in_none node m);
}

pub finds_both : (xs ys : List ℕ) (old mid new : Found) → Finds xs old mid → Finds ys mid new → Finds (xs ++ ys) old new
finds_both xs ys old mid new a b = record {
  told = b.told;
  graph = b.graph ∙ a.graph;
  more = a.more ++ b.more;
  grown = b.grown ∙ ap (λ nodes. nodes ++ b.more) a.grown ∙ append_assoc old.nodes.items a.more b.more;
  among = λ node m. elim (Contains-append_cases a.more b.more node m) [
    | inl n ↦ Contains-append_left xs ys node (a.among node n)
    | inr n ↦ Contains-append_right xs ys node (b.among node n)
  ];
  all = λ node m within. elim (Contains-append_cases xs ys node m) [
    | inl n ↦ subst (λ nodes. Contains nodes node) (sym b.grown) (Contains-append_left mid.nodes.items b.more node (a.all node n (subst (λ k. node < k) b.graph within)))
    | inr n ↦ b.all node n within
  ];
}

-- a number that was found, or is no node, is not found again
pub finds_old : (found : Found) (node : ℕ) → IsTold found → (node < length found.marks.items → get_or found.marks.items node false ≡ true) → Finds (node ∷ []) found found
finds_old found node told there = record {
  told = told;
  graph = refl;
  more = [];
  grown = sym (append-nil found.nodes.items);
  among = λ other m. absurd (in_none other m);
  all = λ other m within. elim (in_cases node [] other m) [
    | inl e ↦ subst (Contains found.nodes.items) e ((told node).0 (there (subst (λ k. k < length found.marks.items) (sym e) within)))
    | inr n ↦ absurd (in_none other n)
  ];
}

-- a node that wasn't is marked
told_more : (marks : List Bool) (nodes : List ℕ) (node : ℕ) → node < length marks → ((other : ℕ) → (get_or marks other false ≡ true) ↔ Contains nodes other) → (other : ℕ) → (get_or (set marks node true) other false ≡ true) ↔ Contains (nodes ++ node ∷ []) other
told_more marks nodes node within told other =
    elim (cases_eq other node) [
      | inl e ↦ (
        λ h. subst (Contains (nodes ++ node ∷ [])) (sym e) (Contains-push nodes node),
        λ m. ap (λ k. get_or (set marks node true) k false) e ∙ get_or-set_same marks node true false within,
      )
      | inr differs ↦ (
        λ h. Contains-append_left nodes (node ∷ []) other ((told other).0 (sym (get_or-set_other marks node other true false differs) ∙ h)),
        λ m. get_or-set_other marks node other true false differs ∙ elim (Contains-push_cases nodes node other m) [
          | inl n ↦ (told other).1 n
          | inr e ↦ absurd (differs (sym e))
        ],
      )
    ]

pub finds_new : (old new : Found) (node : ℕ) → IsTold old → node < length old.marks.items → new.marks.items ≡ set old.marks.items node true → new.nodes.items ≡ old.nodes.items ++ node ∷ [] → Finds (node ∷ []) old new
finds_new old new node told within marks nodes =
    let more = told_more old.marks.items old.nodes.items node within told in
    record {
      told = λ other. (
        λ h. subst (λ xs. Contains xs other) (sym nodes) ((more other).0 (ap (λ xs. get_or xs other false) (sym marks) ∙ h)),
        λ m. ap (λ xs. get_or xs other false) marks ∙ (more other).1 (subst (λ xs. Contains xs other) nodes m),
      );
      graph = ap length marks ∙ length-set old.marks.items node true;
      more = node ∷ [];
      grown = nodes;
      among = λ other m. m;
      all = λ other m h. subst (λ xs. Contains xs other) (sym nodes) (Contains-append_right old.nodes.items (node ∷ []) other m);
    }

-- what the search from some nodes has found, once it has followed so many of the nodes
pub record AreFollowed (edges : List (List ℕ)) (starts : List ℕ) (found : Found) (count : ℕ) : Type 0 where
  pub told : IsTold found
  pub graph : length found.marks.items ≡ length edges
  pub reached : (pairs : List (ℕ × ℕ)) → AreEdges pairs edges → (node : ℕ) → Contains found.nodes.items node → IsReached pairs starts node
  pub first : (node : ℕ) → Contains starts node → node < length edges → Contains found.nodes.items node
  pub further : (place : ℕ) → place < count → (node : ℕ) → Contains (successors edges (get_or found.nodes.items place 0)) node → node < length edges → Contains found.nodes.items node

module _ (edges : List (List ℕ)) (starts : List ℕ) where
  -- the search begins at the starts
  pub none_followed : (old new : Found) → old.nodes.items ≡ [] → length old.marks.items ≡ length edges → Finds starts old new → AreFollowed edges starts new 0
  none_followed old new none graph finds = record {
    told = finds.told;
    graph = finds.graph ∙ graph;
    reached = λ pairs are node m. record {
      start = node;
      among = finds.among node (subst (λ xs. Contains xs node) (finds.grown ∙ ap (λ xs. xs ++ finds.more) none) m);
      way = here node;
    };
    first = λ node m within. finds.all node m (subst (λ k. node < k) (sym (finds.graph ∙ graph)) within);
    further = λ place h. absurd (omega arith);
  }

  -- one more of the nodes is followed
  module _ (nexts : List ℕ) (old new : Found) (count node : ℕ) (h : AreFollowed edges starts old count) (is : slice_get old.nodes.items count ≡ Some node) (all : nexts ≡ successors edges node) (finds : Finds nexts old new) where
    there : Contains old.nodes.items node
    there = (count, slice_get_within old.nodes.items count node is, get_or_from_slice_get old.nodes.items count node node is)

    kept : (other : ℕ) → Contains old.nodes.items other → Contains new.nodes.items other
    kept other m = subst (λ xs. Contains xs other) (sym finds.grown) (Contains-append_left old.nodes.items finds.more other m)

    same : (place : ℕ) → place < length old.nodes.items → get_or new.nodes.items place 0 ≡ get_or old.nodes.items place 0
    same place lt = ap (λ xs. get_or xs place 0) finds.grown ∙ get_or_append_left old.nodes.items finds.more 0 place lt

    followed : (place : ℕ) → place < count + 1 → (other : ℕ) → Contains (successors edges (get_or new.nodes.items place 0)) other → other < length edges → Contains new.nodes.items other
    followed place lt other m within =
        let inside = slice_get_within old.nodes.items count node is in
        elim (cases_eq place count) [
          | inl e ↦
              let now : get_or new.nodes.items place 0 ≡ node =
              same place (omega arith) ∙ ap (λ k. get_or old.nodes.items k 0) e ∙ get_or_from_slice_get old.nodes.items count node 0 is in
              finds.all other (subst (λ xs. Contains xs other) (ap (successors edges) now ∙ sym all) m) (subst (λ k. other < k) (sym (finds.graph ∙ h.graph)) within)
          | inr differs ↦
              kept other (h.further place (omega arith) other (subst (λ x. Contains (successors edges x) other) (same place (omega arith)) m) within)
        ]

    reached_more : (pairs : List (ℕ × ℕ)) → AreEdges pairs edges → (other : ℕ) → Contains new.nodes.items other → IsReached pairs starts other
    reached_more pairs are other m =
        elim (Contains-append_cases old.nodes.items finds.more other (subst (λ xs. Contains xs other) finds.grown m)) [
          | inl n ↦ h.reached pairs are other n
          | inr n ↦
              let before = h.reached pairs are node there in
              let step : Contains pairs (node, other) = (are node other).0 (subst (λ xs. Contains xs other) all (finds.among other n)) in
              record { start = before.start; among = before.among; way = onward before.start node other before.way step }
        ]

    pub one_followed : AreFollowed edges starts new (count + 1)
    one_followed = record {
      told = finds.told;
      graph = finds.graph ∙ h.graph;
      reached = reached_more;
      first = λ other m within. kept other (h.first other m within);
      further = followed;
    }

  -- the search ends where all that were found are followed
  module _ (found : Found) (count : ℕ) (h : AreFollowed edges starts found count) where
    pub all_followed : length found.nodes.items ≤ count → (pairs : List (ℕ × ℕ)) → AreEdges pairs edges → HoldsReached (length edges) pairs starts found.nodes.items
    all_followed end pairs are =
        let IsFound : ℕ → Type 0 = λ x. x < length edges → Contains found.nodes.items x in
        let follow : (x y : ℕ) → Contains pairs (x, y) → IsFound x → IsFound y = λ x y step before within.
        let next = (are x y).1 step in
        let m = before (begins_within edges x y next) in
        h.further m.0 (omega arith) y (subst (λ (z : ℕ). Contains (successors edges z) y) (sym (get_or_default found.nodes.items m.0 0 x m.1 ∙ m.2)) next) within in
        record {
          reached = h.reached pairs are;
          all = λ node within r. walk_keeps pairs IsFound follow r.start node r.way (h.first r.start r.among) within;
        }

    pub none_left : slice_get found.nodes.items count ≡ None → length found.nodes.items ≤ count
    none_left none =
        elim (cases_lt count (length found.nodes.items)) as (λ _. length found.nodes.items ≤ count) [
          | inl within ↦ absurd (let is = slice_get-get_or found.nodes.items count 0 within in cc)
          | inr end ↦ end
        ]

-- the marks of what was found
pub found_marks : (nodes : ℕ) (pairs : List (ℕ × ℕ)) (starts : List ℕ) (found : Found) → IsTold found → length found.marks.items ≡ nodes → HoldsReached nodes pairs starts found.nodes.items → MarkNumbers nodes (IsReached pairs starts) found.marks.items
found_marks nodes pairs starts found told graph holds = record {
  size = graph;
  told = λ node within. (
    λ mark. holds.reached node ((told node).0 mark),
    λ r. (told node).1 (holds.all node within r),
  );
}
