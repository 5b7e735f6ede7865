-- What marks of nodes say of properties, and of chains.
use Rattle.std.proofs.Common.{◌≡◌, ◌↔◌, ◌<◌, ◌+◌, ◌*◌, ◌++◌, inl, inr, ℕ, Bool, true, false, List, [], ◌∷◌, Option, None, Some, length, map, refl, sym, ap, ◌∙◌, subst, arith}
use Rattle.std.specs.Prelude.{Contains, slice_index_or}
use Rattle.std.specs.List.{cons_option, flat_map}
use Rattle.std.proofs.lemmas.Bool.{cases_Bool, false≢true}
use Rattle.std.proofs.lemmas.List.{length-append}
use Rattle.std.proofs.lemmas.Simd.{map-map}
use Rattle.owl_list.proofs.AscendingLaws.{from_map, in_map, in_none}
use Rattle.owl_breaches.specs.Those.{HoldsOfOne, HoldsOfSome}
use Rattle.graph_walks.specs.Faults.{IsFault}
use Rattle.graph_walks.specs.Marks.{MarkEach, MarkNumbers}
use Rattle.graph_walks.specs.Walks.{AreWithin, IsReached, Walks}
use Rattle.graph_walks.proofs.MarkLaws.{pushed_at}
use Rattle.graph_walks.proofs.WalkLaws.{first_step}
use Rattle.dl_rules.specs.Hierarchy.{BreaksOrder, below, below_of, chains}
use Rattle.graph_walks.specs.Numbers as things
use Rattle.dl_rules.specs.Properties.{Chain, IsSimple, Property, chain_of, composites, leads, property_in}
use Rattle.graph_walks.proofs.NumberLaws.{AreListed, faults_of_things, same_walks, walks_numbered}
use Rattle.owl_arena.specs.Held.{AreHeld, tree_at, trees_at}
use Rattle.owl_arena.specs.Shared.{AreShared}
use Rattle.owl_arena.proofs.HeldLaws.{tree_inside}
use Rattle.owl_tree.specs.Trees.{Tree}
use Rattle.dl_graphs.specs.Groups.{group_marks}
use Rattle.property_hierarchy.specs.Listed.{HoldsKids, mark_of, node_pairs, nodes_of, property_node}
use Rattle.property_hierarchy.specs.Numbers.{IsBelowBy, below_at, below_from, node_of, number_of, numbered_pairs}
use Rattle.property_hierarchy.specs.declared.chains.Below.{Below}
use Rattle.property_hierarchy.specs.declared.numbers.PropertyNumber.{PropertyNumber}
use Rattle.dl_graphs.proofs.GroupLaws.{marks_of_groups, marks_same}
use Rattle.property_hierarchy.proofs.Listing.{IsListed, below_listed, leads_listed, node_few, node_listed, nodes_apart, property_listed}

abbrev both : {P : Type 0} → (P → ℕ) → P × P → ℕ × ℕ
both number pair = (number pair.0, number pair.1)

-- a walk to a thing that is listed begins at one
module _ {P : Type 0} (number : P → ℕ) (IsKnown : P → Type 0) (apart : (x y : P) → IsKnown x → IsKnown y → number x ≡ number y → x ≡ y) (passes : (x y : P) → number x ≡ number y → IsKnown x → IsKnown y)
    (pairs : List (P × P)) (listed : AreListed IsKnown pairs)
  where
    start_known : (x y : P) → IsKnown y → Walks (things.numbered number pairs) (number x) (number y) → IsKnown x
    start_known x y own way =
        elim (first_step (things.numbered number pairs) (number x) (number y) way) as (λ _. IsKnown x) [
          | inl same ↦ passes y x (sym same) own
          | inr begins ↦
              let v = from_map (both number) pairs (number x, begins.next) begins.step in
              passes v.element.0 x (ap (λ (p : ℕ × ℕ). p.0) v.value) (listed v.element.0 v.element.1 v.inside).0
        ]

    -- so it doesn't matter whether the others are
    reached_known : (starts : List P) (x : P) → IsKnown x → IsReached pairs starts x ↔ IsReached (things.numbered number pairs) (map number starts) (number x)
    reached_known starts x own =
        let same = same_walks number IsKnown apart pairs listed in (
          λ r. record { start = number r.start; among = in_map number starts r.start r.among; way = walks_numbered number pairs r.start x r.way },
          λ r.
              let v = from_map number starts r.start r.among in
              let way : Walks (things.numbered number pairs) (number v.element) (number x) = subst (λ (k : ℕ). Walks (things.numbered number pairs) k (number x)) (sym v.value) r.way in
              record { start = v.element; among = v.inside; way = (same v.element x (start_known v.element x own way) own).1 way },
        )

module _ (ts : List Tree) where
  nodes_are : (ps : List Property) → nodes_of (map (number_of ts) ps) ≡ map (property_node ts) ps
  nodes_are ps = map-map node_of (number_of ts) ps

  pairs_are : (pairs : List (Property × Property)) → node_pairs (numbered_pairs ts pairs) ≡ things.numbered (property_node ts) pairs
  pairs_are pairs = map-map (both node_of) (λ (pair : Property × Property). (number_of ts pair.0, number_of ts pair.1)) pairs

  pairs_within : (pairs : List (Property × Property)) → AreWithin (2 * (length ts + 1)) (node_pairs (numbered_pairs ts pairs))
  pairs_within pairs = λ x y m.
      let v = from_map (both (property_node ts)) pairs (x, y) (subst (λ (qs : List (ℕ × ℕ)). Contains qs (x, y)) (pairs_are pairs) m) in (
        subst (λ (n : ℕ). n < 2 * (length ts + 1)) (ap (λ (p : ℕ × ℕ). p.0) v.value) (node_few ts v.element.0),
        subst (λ (n : ℕ). n < 2 * (length ts + 1)) (ap (λ (p : ℕ × ℕ). p.1) v.value) (node_few ts v.element.1),
      )

  -- marks of the nodes that are reached mark the trees that are no simple property
  module _ (shared : AreShared ts) (kids : HoldsKids ts) (ids : List ℕ) (held : AreHeld ts ids) where
    abbrev IsComposite : Property → Type 0
    IsComposite p = IsSimple (trees_at ts ids) p → ⊥

    abbrev ReachesNode : ℕ → Type 0
    ReachesNode n = IsReached (node_pairs (numbered_pairs ts (leads (trees_at ts ids)))) (nodes_of (map (number_of ts) (composites (trees_at ts ids)))) n

    same_node : (p : Property) → IsListed ts p → IsReached (leads (trees_at ts ids)) (composites (trees_at ts ids)) p ↔ ReachesNode (property_node ts p)
    same_node p own =
        let ps : List Property = composites (trees_at ts ids) in
        let pairs : List (Property × Property) = leads (trees_at ts ids) in
        subst (λ (qs : List (ℕ × ℕ)). IsReached pairs ps p ↔ IsReached qs (nodes_of (map (number_of ts) ps)) (property_node ts p)) (sym (pairs_are pairs))
        (subst (λ (ns : List ℕ). IsReached pairs ps p ↔ IsReached (things.numbered (property_node ts) pairs) ns (property_node ts p)) (sym (nodes_are ps))
        (reached_known (property_node ts) (IsListed ts) (nodes_apart ts) (node_listed ts) pairs (leads_listed ts shared kids ids held) ps p own))

    mark_told : (nodes : List Bool) → MarkNumbers (2 * (length ts + 1)) ReachesNode nodes → (o : Option Property) → ((p : Property) → o ≡ Some p → IsListed ts p) → (mark_of ts nodes o ≡ true) ↔ HoldsOfSome IsComposite o
    mark_told nodes marks None listed = (λ e. absurd (false≢true e), λ h. absurd h)
    mark_told nodes marks (Some p) listed =
        let told = marks.told (property_node ts p) (node_few ts p) in
        let same = same_node p (listed p refl) in (
          λ e. λ simple. simple (same.1 (told.0 e)),
          λ h. elim (cases_Bool (slice_index_or nodes (property_node ts p) false)) as (λ _. slice_index_or nodes (property_node ts p) false ≡ true) [
            | inl marked ↦ marked
            | inr unmarked ↦ absurd (h (λ r. false≢true (sym unmarked ∙ told.1 (same.0 r))))
          ],
        )

    pub composite_marks : (nodes marks : List Bool) → MarkNumbers (2 * (length ts + 1)) ReachesNode nodes → MarkNumbers (length ts) (λ id. mark_of ts nodes (property_in (tree_at ts id)) ≡ true) marks →
        MarkNumbers (length ts) (λ id. HoldsOfSome IsComposite (property_in (tree_at ts id))) marks
    composite_marks nodes marks of_nodes of_trees = record {
      size = of_trees.size;
      told = λ id within.
          let same = mark_told nodes of_nodes (property_in (tree_at ts id)) (property_listed ts shared kids (tree_at ts id) (tree_inside ts id within)) in
          let told = of_trees.told id within in (
            λ e. same.0 (told.0 e),
            λ h. told.1 (same.1 h),
          );
    }

-- one more mark
pub mark_pushed : (count : ℕ) (IsSo : ℕ → Type 0) (marks : List Bool) (b : Bool) → MarkNumbers count IsSo marks → (b ≡ true) ↔ IsSo count → MarkNumbers (count + 1) IsSo (marks ++ b ∷ [])
mark_pushed count IsSo marks b all own =
    let more = length-append marks (b ∷ []) in
    record {
      size = omega (arith, more, all.size);
      told = λ k within.
          pushed_at (λ n mark. (mark ≡ true) ↔ IsSo n) false marks b (λ n h. all.told n (subst (λ m. n < m) all.size h))
          (subst (λ m. (b ≡ true) ↔ IsSo m) (sym all.size) own) k (omega (arith, within, more, all.size));
    }

pub no_marks : (IsSo : ℕ → Type 0) → MarkNumbers 0 IsSo []
no_marks IsSo = record { size = refl; told = λ k within. absurd (omega (arith, within)) }

-- and one that the tree at the place has
pub tree_marked : (ts : List Tree) (nodes : List Bool) (place at : ℕ) (marks more : List Bool) (b : Bool) → MarkNumbers place (λ id. mark_of ts nodes (property_in (tree_at ts id)) ≡ true) marks → at ≡ place →
    b ≡ mark_of ts nodes (property_in (tree_at ts at)) → more ≡ marks ++ b ∷ [] → MarkNumbers (place + 1) (λ id. mark_of ts nodes (property_in (tree_at ts id)) ≡ true) more
tree_marked ts nodes place at marks more b all same is e =
    let here : b ≡ mark_of ts nodes (property_in (tree_at ts place)) = is ∙ ap (λ (id : ℕ). mark_of ts nodes (property_in (tree_at ts id))) same in
    subst (λ (bs : List Bool). MarkNumbers (place + 1) (λ id. mark_of ts nodes (property_in (tree_at ts id)) ≡ true) bs) (sym e)
    (mark_pushed place (λ id. mark_of ts nodes (property_in (tree_at ts id)) ≡ true) marks b all (λ h. sym here ∙ h, λ h. here ∙ h))

abbrev pub NodeFaults : List (ℕ × ℕ) → List (ℕ × ℕ) → List Bool → Type 0
NodeFaults steps pairs marks = MarkEach (λ (place : ℕ) (pair : ℕ × ℕ). IsFault steps pairs pair.0 pair.1) pairs marks

-- what the calls of graphs are passed, and give
pub within_for : (ts : List Tree) (count : ℕ) (pairs : List (Property × Property)) (nodes : List (ℕ × ℕ)) → count ≡ length ts → nodes ≡ node_pairs (numbered_pairs ts pairs) → AreWithin (2 * (count + 1)) nodes
within_for ts count pairs nodes e f =
    subst (λ (qs : List (ℕ × ℕ)). AreWithin (2 * (count + 1)) qs) (sym f) (subst (λ (n : ℕ). AreWithin (2 * (n + 1)) (node_pairs (numbered_pairs ts pairs))) (sym e) (pairs_within ts pairs))

pub reached_for : (count nodes : ℕ) (pairs others : List (ℕ × ℕ)) (starts those : List ℕ) (marks : List Bool) → count ≡ nodes → pairs ≡ others → starts ≡ those →
    MarkNumbers (2 * (count + 1)) (IsReached pairs starts) marks → MarkNumbers (2 * (nodes + 1)) (IsReached others those) marks
reached_for count nodes pairs others starts those marks e f g h =
    subst (λ (n : ℕ). MarkNumbers (2 * (n + 1)) (IsReached others those) marks) e
    (subst (λ (qs : List (ℕ × ℕ)). MarkNumbers (2 * (count + 1)) (IsReached qs those) marks) f (subst (λ (ns : List ℕ). MarkNumbers (2 * (count + 1)) (IsReached pairs ns) marks) g h))

pub faults_for : (steps others pairs those : List (ℕ × ℕ)) (marks : List Bool) → steps ≡ others → pairs ≡ those → NodeFaults steps pairs marks → NodeFaults others those marks
faults_for steps others pairs those marks e f h =
    subst (λ (qs : List (ℕ × ℕ)). NodeFaults qs those marks) e (subst (λ (qs : List (ℕ × ℕ)). NodeFaults steps qs marks) f h)

-- what axioms put below what, chain by chain
below_from_is : (o : Option (Chain Property)) (cs : List (Chain Property)) → below_from o ++ flat_map below_of cs ≡ flat_map below_of (cons_option o cs)
below_from_is None cs = refl
below_from_is (Some chain) cs = refl

below_is : (axioms : List Tree) → flat_map below_at axioms ≡ below axioms
below_is [] = refl
below_is (t ∷ axioms) = ap (λ (pairs : List (Property × Property)). below_at t ++ pairs) (below_is axioms) ∙ below_from_is (chain_of t) (chains axioms)

one_of_chain : (axioms : List Tree) (o : Option (Chain Property)) → HoldsOfOne (λ (pair : Property × Property). IsFault (leads axioms) (below axioms) pair.0 pair.1) (below_from o) ↔ HoldsOfSome (BreaksOrder axioms) o
one_of_chain axioms None = (λ h. in_none h.one h.among, λ h. absurd h)
one_of_chain axioms (Some chain) = (λ h. h, λ h. h)

module _ (ts : List Tree) (shared : AreShared ts) (kids : HoldsKids ts) (ids : List ℕ) (held : AreHeld ts ids) where
  abbrev axs : List Tree
  axs = trees_at ts ids

  abbrev pairs_below : List (Property × Property)
  pairs_below = flat_map below_at (trees_at ts ids)

  things_marked : (marks : List Bool) → NodeFaults (node_pairs (numbered_pairs ts (leads axs))) (node_pairs (numbered_pairs ts pairs_below)) marks →
      MarkEach (λ (place : ℕ) (pair : Property × Property). IsFault (leads axs) pairs_below pair.0 pair.1) pairs_below marks
  things_marked marks each =
      faults_of_things (property_node ts) (IsListed ts) (nodes_apart ts) (leads axs) pairs_below (leads_listed ts shared kids ids held) (below_listed ts shared kids ids held) marks
      (subst (λ (steps : List (ℕ × ℕ)). NodeFaults steps (things.numbered (property_node ts) pairs_below) marks) (pairs_are ts (leads axs))
      (subst (λ (pairs : List (ℕ × ℕ)). NodeFaults (node_pairs (numbered_pairs ts (leads axs))) pairs marks) (pairs_are ts pairs_below) each))

  pub broken_marks : (found : Below) (marks groups : List Bool) → IsBelowBy ts axs found → NodeFaults (node_pairs (numbered_pairs ts (leads axs))) (node_pairs found.pairs.items) marks → groups ≡ group_marks found.counts.items marks →
      MarkEach (λ (place : ℕ) (t : Tree). HoldsOfSome (BreaksOrder axs) (chain_of t)) axs groups
  broken_marks found marks groups by faults made =
      let marked = things_marked marks (subst (λ (pairs : List (PropertyNumber × PropertyNumber)). NodeFaults (node_pairs (numbered_pairs ts (leads axs))) (node_pairs pairs) marks) by.pairs faults) in
      let IsSo = λ (pair : Property × Property). IsFault (leads axs) pairs_below pair.0 pair.1 in
      let grouped = marks_of_groups below_at IsSo axs marks marked in
      let same_groups : group_marks (map (λ t. length (below_at t)) axs) marks ≡ groups = sym (made ∙ ap (λ (counts : List ℕ). group_marks counts marks) by.counts) in
      marks_same (λ (place : ℕ) (t : Tree). HoldsOfOne IsSo (below_at t)) (λ (place : ℕ) (t : Tree). HoldsOfSome (BreaksOrder axs) (chain_of t)) axs groups
      (λ place t is.
      subst (λ (pairs : List (Property × Property)). HoldsOfOne (λ (pair : Property × Property). IsFault (leads axs) pairs pair.0 pair.1) (below_at t) ↔ HoldsOfSome (BreaksOrder axs) (chain_of t)) (sym (below_is axs))
      (one_of_chain axs (chain_of t)))
      (subst (λ (bs : List Bool). MarkEach (λ (place : ℕ) (t : Tree). HoldsOfOne IsSo (below_at t)) axs bs) same_groups grouped)
