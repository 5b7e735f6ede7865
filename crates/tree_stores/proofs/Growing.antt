-- Numbers of trees, as an arena grows.
use Rattle.std.specs.Prelude.{◌≡◌, ◌<◌, ◌≤◌, ℕ, List, [], ◌∷◌, ◌++◌, Some, length, map, slice_get}
use Rattle.std.proofs.Common.{inl, inr, arith, length-append, refl, ap, sym, subst, ◌∙◌}
use Rattle.std.proofs.lemmas.List.{get_or_append_left, length-map}
use Rattle.std.proofs.lemmas.Option.{get_or_from_slice_get, slice_get_read, slice_get_within}
use Rattle.owl_arena.specs.Growth.{Adds, IsTooDeep, IsTooHeavy}
use Rattle.owl_arena.specs.Held.{AreHeld, node_over, tree_at, trees_at}
use Rattle.owl_arena.specs.Shared.{AreShared, deepest, heaviest}
use Rattle.owl_tree.specs.Canonical.{canonical}
use Rattle.owl_tree.proofs.CanonicalLaws.{canonical_depth, canonical_node}
use Rattle.owl_tree.specs.declared.tag.Tag.{Tag}
use Rattle.owl_tree.specs.Trees.{Tree, depth, kids_in, kids_of, node, weight}
use Rattle.tree_stores.specs.Stores.{AreStanding, HasNumber, IsDeep, IsHeavy, IsNew, Keeps, StandFor}

get_more : (old more : List Tree) (id : ℕ) (t : Tree) → slice_get old id ≡ Some t → slice_get (old ++ more) id ≡ Some t
get_more old more id t e =
    let within = slice_get_within old id t e in
    let longer = length-append old more in
    slice_get_read (old ++ more) (length (old ++ more)) id t refl (omega (arith, within, longer)) (sym (get_or_append_left old more t id within ∙ get_or_from_slice_get old id t t e))

pub added_keeps : (old new : List Tree) (t : Tree) → Adds old new t → Keeps (HasNumber old) (HasNumber new)
added_keeps old new t (inl h) u id e = subst (λ ts. HasNumber ts u id) (sym h.1) e
added_keeps old new t (inr h) u id e = subst (λ ts. HasNumber ts u id) (sym h.1) (get_more old (t ∷ []) id (canonical u) e)

numbers_held : (trees ts : List Tree) (ids : List ℕ) → StandFor (HasNumber trees) ts ids → AreHeld trees ids
numbers_held trees [] [] h = tt
numbers_held trees [] (id ∷ ids) h = absurd h
numbers_held trees (t ∷ ts) [] h = absurd h
numbers_held trees (t ∷ ts) (id ∷ ids) h = (slice_get_within trees id (canonical t) h.0, numbers_held trees ts ids h.1)

pub standing_held : (trees : List Tree) (ids : List ℕ) → AreStanding (HasNumber trees) ids → AreHeld trees ids
standing_held trees ids s = numbers_held trees s.trees ids s.stand

trees_are : (trees ts : List Tree) (ids : List ℕ) → StandFor (HasNumber trees) ts ids → trees_at trees ids ≡ map canonical ts
trees_are trees [] [] h = refl
trees_are trees [] (id ∷ ids) h = absurd h
trees_are trees (t ∷ ts) [] h = absurd h
trees_are trees (t ∷ ts) (id ∷ ids) h =
    let first : tree_at trees id ≡ canonical t = get_or_from_slice_get trees id (canonical t) _ h.0 in
    let rest = trees_are trees ts ids h.1 in
    ap (λ u. u ∷ trees_at trees ids) first ∙ ap (λ us. canonical t ∷ us) rest

pub node_is : (trees ts : List Tree) (tag : Tag) (ids : List ℕ) → StandFor (HasNumber trees) ts ids → canonical (node_over trees tag ids) ≡ canonical (node tag (kids_of ts))
node_is trees ts tag ids h = ap (λ us. canonical (node tag (kids_of us))) (trees_are trees ts ids h) ∙ canonical_node tag ts

depth_is : (trees ts : List Tree) (tag : Tag) (ids : List ℕ) → StandFor (HasNumber trees) ts ids → depth (node_over trees tag ids) ≡ depth (node tag (kids_of ts))
depth_is trees ts tag ids h =
    sym (canonical_depth (node_over trees tag ids)) ∙ ap depth (node_is trees ts tag ids h) ∙ canonical_depth (node tag (kids_of ts))

pub node_too_deep : (trees ts : List Tree) (tag : Tag) (ids : List ℕ) → StandFor (HasNumber trees) ts ids → IsTooDeep (node_over trees tag ids) → IsDeep (node tag (kids_of ts))
node_too_deep trees ts tag ids h d = subst (λ n. deepest < n) (depth_is trees ts tag ids h) d.deep

pub node_too_heavy : (trees ts : List Tree) (tag : Tag) (ids : List ℕ) → StandFor (HasNumber trees) ts ids → IsTooHeavy (node_over trees tag ids) → IsHeavy (node tag (kids_of ts))
node_too_heavy trees ts tag ids h d = subst (λ t. heaviest < weight t) (node_is trees ts tag ids h) d.heavy

-- a tree behind those that there were is none of them
pub new_tree : (trees olds : List Tree) → AreShared trees → (before place : ℕ) {id : ℕ} → length olds ≡ before → before ≤ place → place ≡ id → Keeps (HasNumber olds) (HasNumber trees) →
    (t : Tree) → HasNumber trees t id → (kids : List ℕ) → trees_at trees kids ≡ kids_in (tree_at trees id) → IsNew (HasNumber olds) t (length kids)
new_tree trees olds shared before place {id} size behind is kept t at kids are =
    let here : tree_at trees id ≡ canonical t = get_or_from_slice_get trees id (canonical t) _ at in
    record {
      apart = λ u n old e.
          let new = kept u n old in
          let there : tree_at trees n ≡ canonical u = get_or_from_slice_get trees n (canonical u) _ new in
          let same =
          shared.one_number id n (slice_get_within trees id (canonical t) at) (slice_get_within trees n (canonical u) new) (here ∙ sym e ∙ sym there) in
          let less = slice_get_within olds n (canonical u) old in
          omega (arith, size, behind, is, same, less);
      many = let many = sym (length-map kids (tree_at trees)) ∙ ap length (are ∙ ap kids_in here) in omega (arith, many);
    }
