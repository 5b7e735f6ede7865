-- What the search for an equal form finds, and what one node more makes.
use Rattle.std.proofs.Common.{◌≡◌, ◌<◌, ℕ, Some, List, [], ◌∷◌, ◌++◌, length, get_or, slice_get, sym, ap, ◌∙◌, subst, arith}
use Rattle.std.specs.List.{AllWithin, HoldsAt}
use Rattle.std.proofs.lemmas.List.{get_or_default, get_or_push, length_push}
use Rattle.std.proofs.lemmas.Option.{slice_get-get_or}
use Rattle.owl_tree.specs.Trees.{Tree}
use Rattle.owl_arena.specs.declared.nodes.Form.{Form}
use Rattle.owl_arena.specs.declared.nodes.Node.{Node}
use Rattle.owl_arena.specs.Growth.{Lacks}
use Rattle.owl_arena.specs.Held.{tree_at}
use Rattle.owl_arena.specs.Nodes.{tree_of, grown, AreKidsBelow, Differs, HasForm, IsMeasured, IsArena, IsSameForm}
use Rattle.owl_arena.specs.Shared.{AreShared, IsEntry, most_trees}
use Rattle.owl_arena.proofs.HeldLaws.{shared_more}
use Rattle.owl_arena.proofs.Forms.{kids_below_later, same_tree, same_tree_form}
use Rattle.owl_arena.proofs.Grown.{below_at_node, grown_more, length_of_trees, measured_more, order_more, tree_at_node}

pub record StandsAt (ts : List Tree) (f : Form) (place : ℕ) : Type 0 where
  pub few : place < most_trees
  pub here : slice_get ts place ≡ Some (tree_of ts f)

stands : (ns : List Node) (f : Form) (place : ℕ) (d : Node) → IsArena ns → place < length ns → IsSameForm (get_or ns place d).form f → StandsAt (grown [] ns) f place
stands ns f place d arena inside same =
    let long = length_of_trees ns in
    let few = arena.shared.few in
    let ts = grown [] ns in
    record {
      few = omega arith;
      here = slice_get-get_or ts place (tree_at ts place) (omega arith) ∙ ap Some (get_or_default ts place _ _ (omega arith) ∙ sym (tree_at_node ns arena place d inside) ∙ same_tree ts (get_or ns place d).form f same);
    }

some_stands : (ns : List Node) (f : Form) (place : ℕ) → IsArena ns → place < length ns → HoldsAt (HasForm f) ns place → StandsAt (grown [] ns) f place
some_stands [] f place arena inside h = absurd (omega arith)
some_stands (n ∷ ns) f place arena inside h = stands (n ∷ ns) f place n arena inside (h n)

pub found : (ts : List Tree) (ns : List Node) (f : Form) (place : ℕ) → grown [] ns ≡ ts → IsArena ns → place < length ns → HoldsAt (HasForm f) ns place → StandsAt ts f place
found ts ns f place e arena inside h = subst (λ (us : List Tree). StandsAt us f place) e (some_stands ns f place arena inside h)

differs : (ns : List Node) (f : Form) → IsArena ns → AreKidsBelow (length (grown [] ns)) f → (k : ℕ) (d : Node) → k < length ns → tree_at (grown [] ns) k ≡ tree_of (grown [] ns) f → Differs f (get_or ns k d) → ⊥
differs ns f arena below k d inside e h =
    let long = length_of_trees ns in
    let ts = grown [] ns in
    let g = (get_or ns k d).form in
    h (same_tree_form ts arena.shared.one_number g f (kids_below_later g k (length ts) (omega arith) (below_at_node ns arena k d inside)) below (tree_at_node ns arena k d inside ∙ e))

all_differ : (ns : List Node) (f : Form) → IsArena ns → AreKidsBelow (length (grown [] ns)) f → AllWithin (Differs f) ns 0 (length ns) → (k : ℕ) → k < length ns → tree_at (grown [] ns) k ≡ tree_of (grown [] ns) f → ⊥
all_differ [] f arena below h k inside e = omega arith
all_differ (n ∷ ns) f arena below h k inside e = differs (n ∷ ns) f arena below k n inside e (h k n (omega arith) inside)

lacks : (ns : List Node) (f : Form) → IsArena ns → AreKidsBelow (length (grown [] ns)) f → AllWithin (Differs f) ns 0 (length ns) → Lacks (grown [] ns) (tree_of (grown [] ns) f)
lacks ns f arena below h m =
    let long = length_of_trees ns in
    let inside = m.1 in
    all_differ ns f arena below h m.0 (omega arith) (get_or_default (grown [] ns) m.0 _ _ inside ∙ m.2)

pub not_found : (ts : List Tree) (ns : List Node) (f : Form) → grown [] ns ≡ ts → IsArena ns → AreKidsBelow (length ts) f → AllWithin (Differs f) ns 0 (length ns) → Lacks ts (tree_of ts f)
not_found ts ns f e arena below h = subst (λ (us : List Tree). Lacks us (tree_of us f)) e (lacks ns f arena (subst (λ (us : List Tree). AreKidsBelow (length us) f) (sym e) below) h)

-- a node may come behind the others
pub record MayCome (ts : List Tree) (n : Node) : Type 0 where
  pub below : AreKidsBelow (length ts) n.form
  pub measured : IsMeasured (tree_of ts n.form) n
  pub entry : IsEntry (tree_of ts n.form)
  pub absent : Lacks ts (tree_of ts n.form)

come : (ns : List Node) (n : Node) → IsArena ns → MayCome (grown [] ns) n → length (grown [] ns) < most_trees → IsArena (ns ++ n ∷ [])
come ns n arena may room =
    let long = length_of_trees ns in
    let shared = shared_more (grown [] ns) (tree_of (grown [] ns) n.form) arena.shared may.entry may.absent room in
    record {
      in_order = order_more 0 ns n arena.in_order (subst (λ (p : ℕ). AreKidsBelow p n.form) (omega arith) may.below);
      measured = measured_more [] ns n arena.measured may.measured;
      shared = subst AreShared (sym (grown_more [] ns n)) shared;
    }

pub arena_more : (ts : List Tree) (ns ms : List Node) (n : Node) → grown [] ns ≡ ts → ms ≡ ns ++ n ∷ [] → IsArena ns → MayCome ts n → length ts < most_trees → IsArena ms
arena_more ts ns ms n e f arena may room = subst IsArena (sym f) (come ns n arena (subst (λ (us : List Tree). MayCome us n) (sym e) may) (subst (λ (us : List Tree). length us < most_trees) (sym e) room))

pub trees_more : (ts : List Tree) (ns ms : List Node) (n : Node) → grown [] ns ≡ ts → ms ≡ ns ++ n ∷ [] → grown [] ms ≡ ts ++ tree_of ts n.form ∷ []
trees_more ts ns ms n e f = ap (grown []) f ∙ grown_more [] ns n ∙ ap (λ (us : List Tree). us ++ tree_of us n.form ∷ []) e

pub new_here : (ts us : List Tree) (t : Tree) (place : ℕ) → us ≡ ts ++ t ∷ [] → place ≡ length ts → slice_get us place ≡ Some t
new_here ts us t place e h =
    let long = length_push ts t in
    let more = ap length e in
    slice_get-get_or us place t (omega arith) ∙ ap Some (ap (λ (vs : List Tree). get_or vs place t) e ∙ get_or_push ts t t place (sym h))
