-- Numbers by the numbers of a pool.
use Rattle.std.proofs.Common.{◌≡◌, ◌<◌, arith, ℕ, List, [], ◌∷◌, length, map, take, drop, None, Some, refl, sym, ap, ◌∙◌, subst}
use Rattle.std.specs.List.{AllByRecursion}
use Rattle.std.proofs.lemmas.List.{get_or-map, get_or_default, length-map, length-take-le, take-append-drop}
use Rattle.owl_arena.specs.Held.{AreHeld, node_over, tree_at, trees_at}
use Rattle.owl_arena.proofs.HeldLaws.{kids_stay}
use Rattle.owl_doc.proofs.FirstUndeclared.{leaf_is}
use Rattle.owl_doc.proofs.SameTrees.{same_parts}
use Rattle.owl_list.proofs.AscendingLaws.{all_in, all_later}
use Rattle.owl_pool.specs.Pooling.{AreNumbers, number_at}
use Rattle.owl_tree.specs.declared.atom.Atom.{Atom}
use Rattle.owl_tree.specs.declared.tag.Tag.{Tag}
use Rattle.owl_tree.proofs.TreeLaws.{list_of_kids_of}
use Rattle.owl_tree.specs.Trees.{Tree, leaf, atom_in, kids_in, tag_of}

-- among the trees are the others, by these numbers
module _ (ts others : List Tree) (numbers : List ℕ) (n : AreNumbers ts numbers others) where
  -- there are as many numbers as others
  there : (place : ℕ) → place < length others → place < length numbers
  there place inside = subst (λ (k : ℕ). place < k) (ap length (sym n.trees) ∙ length-map numbers (tree_at ts)) inside

  pub places_there : (places : List ℕ) → AreHeld others places → AllByRecursion (λ place. place < length numbers) places
  places_there places held = all_later (λ (k : ℕ). k < length others) (λ (k : ℕ). k < length numbers) there places held

  number_held : (place : ℕ) → place < length others → number_at numbers place < length ts
  number_held place inside = all_in (λ (k : ℕ). k < length ts) numbers (number_at numbers place) n.held (place, there place inside, get_or_default numbers place _ 0 (there place inside))

  number_is : (place : ℕ) → place < length others → tree_at ts (number_at numbers place) ≡ tree_at others place
  number_is place inside = sym (get_or-map (tree_at ts) numbers place 0 _ (there place inside)) ∙ ap (λ (us : List Tree). tree_at us place) n.trees

  each_is : (places : List ℕ) → AreHeld others places → AreNumbers ts (map (number_at numbers) places) (trees_at others places)
  each_is [] held = record { held = tt; trees = refl }
  each_is (place ∷ places) held =
      let rest = each_is places held.1 in
      record {
        held = (number_held place held.0, rest.held);
        trees = let first = number_is place held.0 in let behind = rest.trees in cc;
      }

  -- what has numbers among the others has numbers here
  pub renumbered : (places found : List ℕ) → AreHeld others places → found ≡ map (number_at numbers) places → AreNumbers ts found (trees_at others places)
  renumbered places found held e = subst (λ (ks : List ℕ). AreNumbers ts ks (trees_at others places)) (sym e) (each_is places held)

pub leaf_there : (t : Tree) (tag : Tag) (a : Atom) → tag ≡ tag_of t → Some a ≡ atom_in t → leaf tag a ≡ t
leaf_there t tag a e f = ap (λ (u : Tag). leaf u a) e ∙ leaf_is t a f

-- a node whose kids are in the pool
module _ (ts us : List Tree) (id : ℕ) (numbers : List ℕ) (inside : id < length ts) (n : AreNumbers us numbers (take id ts)) (kids : List ℕ) (below : AllByRecursion (λ kid. kid < id) kids) where
  kids_before : AreHeld (take id ts) kids
  kids_before = subst (λ (k : ℕ). AllByRecursion (λ kid. kid < k) kids) (sym (length-take-le id ts (omega arith))) below

  pub kids_there : AllByRecursion (λ kid. kid < length numbers) kids
  kids_there = places_there us (take id ts) numbers n kids kids_before

  kids_are : (found : List ℕ) → found ≡ map (number_at numbers) kids → AreNumbers us found (trees_at ts kids)
  kids_are found e =
      let same = sym (kids_stay (take id ts) (drop id ts) kids kids_before) ∙ ap (λ (xs : List Tree). trees_at xs kids) (take-append-drop id ts) in
      subst (AreNumbers us found) same (renumbered us (take id ts) numbers n kids found kids_before e)

  pub kids_held : (found : List ℕ) → found ≡ map (number_at numbers) kids → AreHeld us found
  kids_held found e = (kids_are found e).held

  pub node_there : (tag : Tag) (found : List ℕ) → tag ≡ tag_of (tree_at ts id) → None ≡ atom_in (tree_at ts id) → trees_at ts kids ≡ kids_in (tree_at ts id) → found ≡ map (number_at numbers) kids → node_over us tag found ≡ tree_at ts id
  node_there tag found e f g h = same_parts (node_over us tag found) (tree_at ts id) e f (list_of_kids_of (trees_at us found) ∙ (kids_are found h).trees ∙ g)
