-- The greatest of some numbers, and the depth of a node over trees of these depths.
use Rattle.std.proofs.Common.{◌≡◌, ◌<◌, ◌≤◌, ◌+◌, ℕ, max, List, [], ◌∷◌, length, get_or, drop, arith, refl, ap, sym, subst, ◌∙◌}
use Rattle.std.proofs.lemmas.List.{at_drop_more, at_drop_all}
use Rattle.owl_arena.specs.Shared.{deepest}
use Rattle.owl_tree.specs.declared.tag.Tag.{Tag}
use Rattle.owl_tree.specs.Trees.{Tree, kids_of, most_depth, node}
use Rattle.tree_stores.specs.Stores.{HasDepth, IsDeep, StandFor, most_of}

pub most_step : (ns : List ℕ) (i : ℕ) → i < length ns → most_of (drop i ns) ≡ max (get_or ns i 0) (most_of (drop (i + 1) ns))
most_step ns i h = at_drop_more most_of ns i 0 h

pub most_end : (ns : List ℕ) (i : ℕ) → length ns ≤ i → most_of (drop i ns) ≡ 0
most_end ns i h = at_drop_all most_of ns i h

most_is : (ts : List Tree) (ds : List ℕ) → StandFor HasDepth ts ds → most_depth (kids_of ts) ≡ most_of ds
most_is [] [] h = refl
most_is [] (d ∷ ds) h = absurd h
most_is (t ∷ ts) [] h = absurd h
most_is (t ∷ ts) (d ∷ ds) h = ap (λ n. max n (most_depth (kids_of ts))) h.0.is ∙ ap (λ n. max d n) (most_is ts ds h.1)

pub node_deep : (tag : Tag) (ts : List Tree) (ds : List ℕ) (most : ℕ) → StandFor HasDepth ts ds → most ≡ most_of ds → most < deepest → HasDepth (node tag (kids_of ts)) (most + 1)
node_deep tag ts ds most h is less = record { is = ap (λ n. n + 1) (most_is ts ds h ∙ sym is); shallow = omega (arith, less) }

pub node_too_deep : (tag : Tag) (ts : List Tree) (ds : List ℕ) (most : ℕ) → StandFor HasDepth ts ds → most ≡ most_of ds → deepest ≤ most → IsDeep (node tag (kids_of ts))
node_too_deep tag ts ds most h is more = subst (λ n. deepest < n + 1) (is ∙ sym (most_is ts ds h)) (omega (arith, more))
