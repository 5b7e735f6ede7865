-- A part of a tree is no deeper than the tree, and its canonical form no heavier, and a part of that of the tree.
use Rattle.std.specs.Prelude.{◌≤◌, List, [], ◌∷◌, Contains, map}
use Rattle.std.proofs.Common.{inl, inr, ap, arith, subst, sym}
use Rattle.owl_list.proofs.AscendingLaws.{in_cases, in_map, in_none, in_tail}
use Rattle.owl_tree.specs.declared.tag.Tag.{Tag}
use Rattle.owl_tree.specs.Canonical.{arranged, canonical}
use Rattle.owl_tree.proofs.CanonicalLaws.{arranged_holds, canonicals_kids_of}
use Rattle.owl_tree.specs.Rows.{row_of, set_start}
use Rattle.owl_tree.specs.Shape.{AreShaped, IsShaped}
use Rattle.owl_tree.proofs.TreeLaws.{list_of_kids_of}
use Rattle.owl_tree.specs.Trees.{Tree, depth, kids_of, most_depth, node, sum_weight, weight}
use Rattle.tree_stores.proofs.KidLaws.{itself_part, kid_parts, parts, parts_below}
use Rattle.rdf_statements.specs.GraphTrees.{IsPartOf, itself, below}

most_of_kids : (ts : List Tree) (t : Tree) → Contains ts t → depth t ≤ most_depth (kids_of ts)
most_of_kids [] t m = absurd (in_none t m)
most_of_kids (u ∷ us) t m =
    elim (in_cases u us t m) [
      | inl e ↦ let same = ap depth e in omega arith
      | inr n ↦ let rest = most_of_kids us t n in omega arith
    ]

sum_of_kids : (ts : List Tree) (t : Tree) → Contains ts t → weight t ≤ sum_weight (kids_of ts)
sum_of_kids [] t m = absurd (in_none t m)
sum_of_kids (u ∷ us) t m =
    elim (in_cases u us t m) [
      | inl e ↦ let same = ap weight e in omega arith
      | inr n ↦ let rest = sum_of_kids us t n in omega arith
    ]

-- a kid is less deep than its node
pub kid_depth : (tag : Tag) (ts : List Tree) (t : Tree) → Contains ts t → depth t ≤ depth (node tag (kids_of ts))
kid_depth tag ts t m = let most = most_of_kids ts t m in omega arith

-- its canonical form is lighter than that of the node
pub kid_weight : (tag : Tag) (ts : List Tree) (t : Tree) → Contains ts t → weight (canonical t) ≤ weight (canonical (node tag (kids_of ts)))
kid_weight tag ts t m =
    let start = set_start (row_of tag) in
    let among = (arranged_holds start (map canonical ts) (canonical t)).1 (in_map canonical ts t m) in
    let sum = sum_of_kids (arranged start (map canonical ts)) (canonical t) among in
    let same = ap (λ us. sum_weight (kids_of (arranged start us))) (canonicals_kids_of ts) in
    omega arith

pub part_depth : (t u : Tree) → IsPartOf t u → depth t ≤ depth u
part_depth _ _ (itself t) = omega arith
part_depth _ _ (below t u tag us m p) = let first = part_depth t u p in let more = kid_depth tag us u m in omega arith

pub part_weight : (t u : Tree) → IsPartOf t u → weight (canonical t) ≤ weight (canonical u)
part_weight _ _ (itself t) = omega arith
part_weight _ _ (below t u tag us m p) = let first = part_weight t u p in let more = kid_weight tag us u m in omega arith

pub part_of_form : (t u : Tree) → IsPartOf t u → Contains (parts (canonical u)) (canonical t)
part_of_form _ _ (itself t) = itself_part (canonical t)
part_of_form _ _ (below t u tag us m p) =
    let start = set_start (row_of tag) in
    let forms = arranged start (map canonical us) in
    let among = (arranged_holds start (map canonical us) (canonical u)).1 (in_map canonical us u m) in
    let kids = subst (λ vs. Contains vs (canonical u)) (sym (list_of_kids_of forms)) among in
    let inside = in_tail (node tag (kids_of forms)) (parts_below (kids_of forms)) (canonical t) (kid_parts (kids_of forms) (canonical u) (canonical t) kids (part_of_form t u p)) in
    subst (λ vs. Contains (parts (node tag (kids_of (arranged start vs)))) (canonical t)) (sym (canonicals_kids_of us)) inside

pub part_of_part : (t u v : Tree) → IsPartOf t u → IsPartOf u v → IsPartOf t v
part_of_part t u _ p (itself v) = p
part_of_part t u _ p (below v w tag us m q) = below t w tag us m (part_of_part t u w p q)

-- each kid of a part is one
pub kid_part : (t u : Tree) (tag : Tag) (us : List Tree) → Contains us u → IsPartOf (node tag (kids_of us)) t → IsPartOf u t
kid_part t u tag us m p = part_of_part u (node tag (kids_of us)) t (below u u tag us m (itself u)) p

kids_are_shaped : (us : List Tree) (u : Tree) → Contains us u → AreShaped (kids_of us) → IsShaped u
kids_are_shaped [] u m s = absurd (in_none u m)
kids_are_shaped (v ∷ us) u m s =
    elim (in_cases v us u m) [ inl e ↦ subst IsShaped e s.0 | inr n ↦ kids_are_shaped us u n s.1 ]

-- a part of a shaped tree is shaped
pub part_shape : (t u : Tree) → IsPartOf t u → IsShaped u → IsShaped t
part_shape _ _ (itself t) s = s
part_shape _ _ (below t u tag us m p) s = part_shape t u p (kids_are_shaped us u m s.1)
