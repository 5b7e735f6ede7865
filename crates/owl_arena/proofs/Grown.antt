-- The trees of nodes, each over what stands before it.
use Rattle.std.proofs.Common.{◌≡◌, ◌<◌, ◌+◌, ℕ, zero, suc, List, [], ◌∷◌, ◌++◌, length, get_or, refl, sym, ap, ◌∙◌, subst, arith}
use Rattle.std.proofs.lemmas.List.{get_or_at, length_push}
use Rattle.owl_tree.specs.Trees.{Tree, kids_of, node}
use Rattle.owl_arena.specs.declared.nodes.Form.{Form}
use Rattle.owl_arena.specs.declared.nodes.Form.TheVariants as form
use Rattle.owl_arena.specs.declared.nodes.Node.{Node}
use Rattle.owl_arena.specs.Held.{tree_at}
use Rattle.owl_arena.proofs.HeldLaws.{AgreeBelow, more_agrees, trees_agree}
use Rattle.owl_arena.specs.Nodes.{tree_of, grown, AreKidsBelow, HaveKidsBefore, IsMeasured, AreMeasured, IsArena}

tree_agrees : (n : ℕ) (ts us : List Tree) → AgreeBelow n ts us → (f : Form) → AreKidsBelow n f → tree_of ts f ≡ tree_of us f
tree_agrees n ts us h (form.Leaf tag atom) b = refl
tree_agrees n ts us h (form.Branch tag kids) b = ap (λ (vs : List Tree). node tag (kids_of vs)) (trees_agree n ts us h kids.items b)

grown_length : (ts : List Tree) (ns : List Node) → length (grown ts ns) ≡ length ts + length ns
grown_length ts [] = omega arith
grown_length ts (n ∷ ns) = let rest = grown_length (ts ++ tree_of ts n.form ∷ []) ns in let more = length_push ts (tree_of ts n.form) in omega arith

grown_agrees : (ts : List Tree) (ns : List Node) → AgreeBelow (length ts) (grown ts ns) ts
grown_agrees ts [] k h = refl
grown_agrees ts (n ∷ ns) k h =
    let more = length_push ts (tree_of ts n.form) in
    grown_agrees (ts ++ tree_of ts n.form ∷ []) ns k (omega arith) ∙ more_agrees ts (tree_of ts n.form ∷ []) k h

-- one node more is one tree more
pub grown_more : (ts : List Tree) (ns : List Node) (n : Node) → grown ts (ns ++ n ∷ []) ≡ grown ts ns ++ tree_of (grown ts ns) n.form ∷ []
grown_more ts [] n = refl
grown_more ts (m ∷ ns) n = grown_more (ts ++ tree_of ts m.form ∷ []) ns n

pub order_more : (place : ℕ) (ns : List Node) (n : Node) → HaveKidsBefore place ns → AreKidsBelow (place + length ns) n.form → HaveKidsBefore place (ns ++ n ∷ [])
order_more place [] n h b = (subst (λ (p : ℕ). AreKidsBelow p n.form) (omega arith) b, tt)
order_more place (m ∷ ns) n h b = (h.0, order_more (suc place) ns n h.1 (subst (λ (p : ℕ). AreKidsBelow p n.form) (omega arith) b))

pub measured_more : (ts : List Tree) (ns : List Node) (n : Node) → AreMeasured ts ns → IsMeasured (tree_of (grown ts ns) n.form) n → AreMeasured ts (ns ++ n ∷ [])
measured_more ts [] n h m = (m, tt)
measured_more ts (k ∷ ns) n h m = (h.0, measured_more (ts ++ tree_of ts k.form ∷ []) ns n h.1 m)

-- what stands at a place
order_at : (place : ℕ) (ns : List Node) → HaveKidsBefore place ns → (k : ℕ) (d : Node) → k < length ns → AreKidsBelow (place + k) (get_or ns k d).form
order_at place [] h k d l = absurd (omega arith)
order_at place (n ∷ ns) h zero d l = subst (λ (p : ℕ). AreKidsBelow p n.form) (omega arith) h.0
order_at place (n ∷ ns) h (suc k) d l = subst (λ (p : ℕ). AreKidsBelow p (get_or ns k d).form) (omega arith) (order_at (suc place) ns h.1 k d (omega arith))

-- the tree of a node over what stands before it is its tree over all
settled : (ts : List Tree) (n : Node) (ns : List Node) → AreKidsBelow (length ts) n.form → tree_of (grown ts (n ∷ ns)) n.form ≡ tree_of ts n.form
settled ts n ns b = tree_agrees (length ts) (grown ts (n ∷ ns)) ts (grown_agrees ts (n ∷ ns)) n.form b

stands : (ts : List Tree) (n : Node) (ns : List Node) → tree_at (grown ts (n ∷ ns)) (length ts) ≡ tree_of ts n.form
stands ts n ns =
    let more = length_push ts (tree_of ts n.form) in
    grown_agrees (ts ++ tree_of ts n.form ∷ []) ns (length ts) (omega arith) ∙ get_or_at ts (tree_of ts n.form) [] _ (length ts) refl

order_on : (ts : List Tree) (n : Node) (ns : List Node) → HaveKidsBefore (suc (length ts)) ns → HaveKidsBefore (length (ts ++ tree_of ts n.form ∷ [])) ns
order_on ts n ns h = let more = length_push ts (tree_of ts n.form) in subst (λ (p : ℕ). HaveKidsBefore p ns) (omega arith) h

tree_here : (ts : List Tree) (ns : List Node) → HaveKidsBefore (length ts) ns → (k : ℕ) (d : Node) → k < length ns → tree_of (grown ts ns) (get_or ns k d).form ≡ tree_at (grown ts ns) (length ts + k)
tree_here ts [] h k d l = absurd (omega arith)
tree_here ts (n ∷ ns) h zero d l = settled ts n ns h.0 ∙ sym (stands ts n ns) ∙ ap (tree_at (grown ts (n ∷ ns))) (omega arith)
tree_here ts (n ∷ ns) h (suc k) d l =
    let more = length_push ts (tree_of ts n.form) in
    tree_here (ts ++ tree_of ts n.form ∷ []) ns (order_on ts n ns h.1) k d (omega arith) ∙ ap (tree_at (grown ts (n ∷ ns))) (omega arith)

measured_here : (ts : List Tree) (ns : List Node) → AreMeasured ts ns → (k : ℕ) (d : Node) → k < length ns → IsMeasured (tree_at (grown ts ns) (length ts + k)) (get_or ns k d)
measured_here ts [] h k d l = absurd (omega arith)
measured_here ts (n ∷ ns) h zero d l = subst (λ (t : Tree). IsMeasured t n) (sym (stands ts n ns) ∙ ap (tree_at (grown ts (n ∷ ns))) (omega arith)) h.0
measured_here ts (n ∷ ns) h (suc k) d l =
    let more = length_push ts (tree_of ts n.form) in
    subst (λ (p : ℕ). IsMeasured (tree_at (grown ts (n ∷ ns)) p) (get_or ns k d)) (omega arith) (measured_here (ts ++ tree_of ts n.form ∷ []) ns h.1 k d (omega arith))

pub tree_at_node : (ns : List Node) → IsArena ns → (k : ℕ) (d : Node) → k < length ns → tree_of (grown [] ns) (get_or ns k d).form ≡ tree_at (grown [] ns) k
tree_at_node ns h k d l = tree_here [] ns h.in_order k d l ∙ ap (tree_at (grown [] ns)) (omega arith)

pub measured_at_node : (ns : List Node) → IsArena ns → (k : ℕ) (d : Node) → k < length ns → IsMeasured (tree_at (grown [] ns) k) (get_or ns k d)
measured_at_node ns h k d l = subst (λ (p : ℕ). IsMeasured (tree_at (grown [] ns) p) (get_or ns k d)) (omega arith) (measured_here [] ns h.measured k d l)

pub below_at_node : (ns : List Node) → IsArena ns → (k : ℕ) (d : Node) → k < length ns → AreKidsBelow k (get_or ns k d).form
below_at_node ns h k d l = subst (λ (p : ℕ). AreKidsBelow p (get_or ns k d).form) (omega arith) (order_at 0 ns h.in_order k d l)

pub length_of_trees : (ns : List Node) → length (grown [] ns) ≡ length ns
length_of_trees ns = let e = grown_length [] ns in omega arith

pub long_as_nodes : (ts : List Tree) (ns : List Node) → grown [] ns ≡ ts → length ts ≡ length ns
long_as_nodes ts ns e = sym (ap length e) ∙ length_of_trees ns
