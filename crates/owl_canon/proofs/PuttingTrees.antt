-- Trees that are put.
use Rattle.std.proofs.Common.{◌≡◌, ◌<◌, ◌^◌, ℕ, List, [], ◌∷◌, ◌++◌, None, length, take, get_or, refl, sym, ap, ◌∙◌, subst, arith}
use Rattle.std.specs.Prelude.{flat_map}
use Rattle.std.specs.List.{AllByRecursion}
use Rattle.std.proofs.lemmas.List.{get_or-map, length-map, take-map}
use Rattle.owl_arena.specs.Held.{tree_at, trees_at}
use Rattle.owl_canon.specs.Bytes.{kids_bytes, number_bytes, tree_bytes}
use Rattle.owl_canon.specs.Limits.{AreCountable, IsCountable}
use Rattle.owl_canon.specs.Sinks.{Stops, Takes}
use Rattle.owl_canon.specs.declared.fault.WriteFault.{WriteFault}
use Rattle.owl_canon.specs.declared.sink.Sink.{Sink}
use Rattle.owl_canon.proofs.Putting.{IsPut, one_stops, stops_then, takes_then}
use Rattle.owl_tree.specs.Tags.{number_of}
use Rattle.owl_tree.specs.Trees.{Kids, Tree, atom_in, kid, kids_in, leaf, list_of, no_kids, node, tag_of}

pub bytes_of_kids : (ks : Kids) → kids_bytes ks ≡ flat_map tree_bytes (list_of ks)
bytes_of_kids no_kids = refl
bytes_of_kids (kid t ks) = ap (λ (bs : List ℕ). tree_bytes t ++ bs) (bytes_of_kids ks)

pub countable_kids : (ks : Kids) → AllByRecursion IsCountable (list_of ks) → AreCountable ks
countable_kids no_kids h = tt
countable_kids (kid t ks) h = (h.0, countable_kids ks h.1)

-- what is written of a tree without an atom
abbrev behind_tag : List Tree → List ℕ
behind_tag us = number_bytes (length us) ++ flat_map tree_bytes us

node_bytes : (t : Tree) → None ≡ atom_in t → (us : List Tree) → us ≡ kids_in t → (number_of (tag_of t) ∷ []) ++ behind_tag us ≡ tree_bytes t
node_bytes (leaf t a) e us f = cc
node_bytes (node t ks) e us f =
    ap (λ (xs : List Tree). number_of t ∷ behind_tag xs) f ∙ ap (λ (bs : List ℕ). number_of t ∷ (number_bytes (length (list_of ks)) ++ bs)) (sym (bytes_of_kids ks))

-- the numbers of kids, and the kids
abbrev by_numbers : List Tree → List ℕ → List ℕ
by_numbers ts ids = number_bytes (length ids) ++ flat_map tree_bytes (trees_at ts ids)

module _ (ts : List Tree) (id : ℕ) (ids : List ℕ) (none : None ≡ atom_in (tree_at ts id)) (kids : trees_at ts ids ≡ kids_in (tree_at ts id)) where
  node_is : (number_of (tag_of (tree_at ts id)) ∷ []) ++ by_numbers ts ids ≡ tree_bytes (tree_at ts id)
  node_is =
      ap (λ (n : ℕ). number_of (tag_of (tree_at ts id)) ∷ (number_bytes n ++ flat_map tree_bytes (trees_at ts ids))) (sym (length-map ids (tree_at ts)))
      ∙ node_bytes (tree_at ts id) none (trees_at ts ids) kids

  pub node_taken : (a b c d : Sink) (number : ℕ) → number ≡ number_of (tag_of (tree_at ts id)) → Takes a (number ∷ []) b → Takes b (number_bytes (length ids)) c → Takes c (flat_map tree_bytes (trees_at ts ids)) d →
      Takes a (tree_bytes (tree_at ts id)) d
  node_taken a b c d number e h k l =
      subst (λ (bs : List ℕ). Takes a bs d) (ap (λ (n : ℕ). n ∷ by_numbers ts ids) e ∙ node_is) (takes_then a b _ _ d h (takes_then b c _ _ d k l))

  pub node_stops : (a b c : Sink) (fault : WriteFault) (number : ℕ) → number ≡ number_of (tag_of (tree_at ts id)) → Takes a (number ∷ []) b → Takes b (number_bytes (length ids)) c → Stops c (flat_map tree_bytes (trees_at ts ids)) fault →
      Stops a (tree_bytes (tree_at ts id)) fault
  node_stops a b c fault number e h k l =
      subst (λ (bs : List ℕ). Stops a bs fault) (ap (λ (n : ℕ). n ∷ by_numbers ts ids) e ∙ node_is) (stops_then a b _ _ fault h (stops_then b c _ _ fault k l))

  pub node_countable : length ids < 2 ^ 64 → AllByRecursion IsCountable (trees_at ts ids) → IsCountable (tree_at ts id)
  node_countable few h = countable_node (tree_at ts id) none (trees_at ts ids) kids (subst (λ (n : ℕ). n < 2 ^ 64) (sym (length-map ids (tree_at ts))) few) h
    where
      countable_node : (t : Tree) → None ≡ atom_in t → (us : List Tree) → us ≡ kids_in t → length us < 2 ^ 64 → AllByRecursion IsCountable us → IsCountable t
      countable_node (leaf t a) e us f few h = cc
      countable_node (node t ks) e us f few h = (
        subst (λ (xs : List Tree). length xs < 2 ^ 64) f few,
        countable_kids ks (subst (AllByRecursion IsCountable) f h),
      )

pub one_tree_stops : (ts : List Tree) (ids : List ℕ) (old now : Sink) (i id : ℕ) (fault : WriteFault) → IsPut IsCountable tree_bytes old (trees_at ts (take i ids)) now → i < length ids → id ≡ get_or ids i id →
    Stops now (tree_bytes (tree_at ts id)) fault → Stops old (flat_map tree_bytes (trees_at ts ids)) fault
one_tree_stops ts ids old now i id fault h l e k =
    one_stops IsCountable tree_bytes old now (trees_at ts ids) i (tree_at ts id) fault (subst (λ (xs : List Tree). IsPut IsCountable tree_bytes old xs now) (sym (take-map (tree_at ts) i ids)) h)
    (omega (arith, length-map ids (tree_at ts)))
    (ap (tree_at ts) e ∙ sym (get_or-map (tree_at ts) ids i id (tree_at ts id) l)) k
