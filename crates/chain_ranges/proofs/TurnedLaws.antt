-- Laws of pairs that are turned round.
use Rattle.std.proofs.Common.{◌≡◌, ◌<◌, ◌+◌, ◌++◌, ℕ, List, [], ◌∷◌, length, get_or, set, take, sym, subst}
use Rattle.std.specs.declared.vec.Vec.{Vec}
use Rattle.std.proofs.lemmas.List.{get_or-map, length-map}
use Rattle.graph_walks.specs.Edges.{AreEdges, edges_of}
use Rattle.graph_walks.specs.Walks.{AreWithin, backwards}
use Rattle.graph_walks.proofs.EdgeLaws.{one_more_pair}
use Rattle.graph_walks.proofs.WalkLaws.{backwards_within}

abbrev flip : ℕ × ℕ → ℕ × ℕ
flip pair = (pair.1, pair.0)

-- in a loop over pairs: with one more edge, from the second node of the next one to the first, the edges are those of one more pair turned round
pub one_more_turned : {Z : Type 0} (nodes : ℕ) (pairs : List (ℕ × ℕ)) (index : ℕ) (old new : List (Vec ℕ Z)) (was now : Vec ℕ Z) → AreWithin nodes pairs → index < length pairs → length old ≡ nodes → AreEdges (take index (backwards pairs)) (edges_of old) →
    was ≡ get_or old (get_or pairs index (0, 0)).1 was → now.items ≡ was.items ++ (get_or pairs index (0, 0)).0 ∷ [] → new ≡ set old (get_or pairs index (0, 0)).1 now → AreEdges (take (index + 1) (backwards pairs)) (edges_of new)
one_more_turned {Z} nodes pairs index old new was now within inside size edges read pushed put =
    let turned = backwards pairs in
    let same : flip (get_or pairs index (0, 0)) ≡ get_or turned index (0, 0) = sym (get_or-map flip pairs index (0, 0) (0, 0) inside) in
    one_more_pair nodes turned index old new was now (backwards_within nodes pairs within) (subst (λ n. index < n) (sym (length-map pairs flip)) inside) size edges
    (subst (λ (pair : ℕ × ℕ). was ≡ get_or old pair.0 was) same read)
    (subst (λ (pair : ℕ × ℕ). now.items ≡ was.items ++ pair.1 ∷ []) same pushed)
    (subst (λ (pair : ℕ × ℕ). new ≡ set old pair.0 now) same put)
