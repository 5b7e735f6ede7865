-- The order of axioms without their annotations.
use Rattle.std.proofs.Common.{◌≡◌, ◌↔◌, ◌<◌, ◌==◌, IsTrue, ℕ, Bool, List, [], ◌∷◌, length, refl, sym, ap, ◌∙◌, subst, arith}
use Rattle.std.specs.declared.cmp.Ordering.{Ordering}
use Rattle.std.specs.declared.cmp.Ordering.TheVariants.{Less, Equal, Greater}
use Rattle.std.specs.Ordering.{ordering_index, ordering_then}
use Rattle.std.proofs.lemmas.Cmp.{tied_itself}
use Rattle.owl_arena.specs.Held.{tree_at, trees_at}
use Rattle.owl_tree.specs.declared.tag.Tag.{Tag}
use Rattle.owl_tree.specs.declared.tag.Tag.TheVariants as tag
use Rattle.owl_tree.specs.Order.{kids_cmp, tag_cmp, tree_cmp}
use Rattle.owl_tree.specs.OrderLaws.{only_equal_trees_tie, trees_total}
use Rattle.owl_tree.proofs.TreeLaws.{kids_of_list_of}
use Rattle.owl_tree.specs.Trees.{Tree, Kids, leaf, node, no_kids, kid, kids_in, kids_of, list_of, tag_of}
use Rattle.rdf_mapping.specs.Graphs.{bare}
use Rattle.rdf_forward.specs.BareOrder.{bare_cmp}

pub same_ties : (t u : Tree) → t ≡ u → Equal ≡ tree_cmp t u
same_ties t u e = sym (subst (λ (v : Tree). tree_cmp t v ≡ Equal) e (tied_itself trees_total t))

pub greater_told : (o : Ordering) → (o ≡ Less → ⊥) → (o ≡ Equal → ⊥) → Greater ≡ o
greater_told Less h k = absurd (h refl)
greater_told Equal h k = absurd (k refl)
greater_told Greater h k = refl

pub fewer_kids : (trees : List Tree) (left right : List ℕ) → left ≡ [] → 0 < length right → kids_cmp (kids_of (trees_at trees left)) (kids_of (trees_at trees right)) ≡ Less
fewer_kids trees left [] e f = absurd (omega (arith, f))
fewer_kids trees left (l ∷ ls) e f = rw e refl

-- axioms by their kids behind the first

bare_kids : (t n : Tree) (ts : List Tree) → n ∷ ts ≡ kids_in t → bare t ≡ node (tag_of t) (kid (node tag.Notes no_kids) (kids_of ts))
bare_kids (leaf g a) n ts e = cc
bare_kids (node g no_kids) n ts e = cc
bare_kids (node g (kid m ms)) n ts e =
    let rest : list_of ms ≡ ts = cc in
    ap (λ (ks : Kids). node g (kid (node tag.Notes no_kids) ks)) (sym (kids_of_list_of ms) ∙ ap kids_of rest)

pub by_operands : (t u n m : Tree) (ts us : List Tree) → n ∷ ts ≡ kids_in t → m ∷ us ≡ kids_in u → bare_cmp t u ≡ ordering_then (tag_cmp (tag_of t) (tag_of u)) (kids_cmp (kids_of ts) (kids_of us))
by_operands t u n m ts us e f =
    let none = node tag.Notes no_kids in
    ap (λ (v : Tree). tree_cmp v (bare u)) (bare_kids t n ts e)
    ∙ ap (tree_cmp (node (tag_of t) (kid none (kids_of ts)))) (bare_kids u m us f)
    ∙ ap (λ (o : Ordering). ordering_then (tag_cmp (tag_of t) (tag_of u)) (ordering_then o (kids_cmp (kids_of ts) (kids_of us)))) (tied_itself trees_total none)

pub bare_parts : (trees : List Tree) (a b n m : ℕ) (ks ls ids others : List ℕ) (t u : Tag) (tags kids order : Ordering) → ids ≡ n ∷ ks → others ≡ m ∷ ls → trees_at trees ids ≡ kids_in (tree_at trees a) → trees_at trees others ≡ kids_in (tree_at trees b) → t ≡ tag_of (tree_at trees a) → u ≡ tag_of (tree_at trees b) → tags ≡ tag_cmp t u → kids ≡ kids_cmp (kids_of (trees_at trees ks)) (kids_of (trees_at trees ls)) → order ≡ ordering_then tags kids → order ≡ bare_cmp (tree_at trees a) (tree_at trees b)
bare_parts trees a b n m ks ls ids others t u tags kids order e f g h i j x y z =
    z
    ∙ ap (λ (o : Ordering). ordering_then o kids) (x ∙ ap (λ (v : Tag). tag_cmp v u) i ∙ ap (tag_cmp (tag_of (tree_at trees a))) j)
    ∙ ap (ordering_then (tag_cmp (tag_of (tree_at trees a)) (tag_of (tree_at trees b)))) y
    ∙ sym (by_operands (tree_at trees a) (tree_at trees b) (tree_at trees n) (tree_at trees m) (trees_at trees ks) (trees_at trees ls) (sym (ap (trees_at trees) e) ∙ g) (sym (ap (trees_at trees) f) ∙ h))

-- where one has no kids, the annotations of the other don't matter

index_told : (o : Ordering) → IsTrue (ordering_index o == 1) → o ≡ Equal
index_told Less h = cc
index_told Equal h = refl
index_told Greater h = cc

pub same_told : (t u : Tree) (o : Ordering) (is : Bool) → o ≡ bare_cmp t u → is ≡ (ordering_index o == 1) → IsTrue is ↔ (bare t ≡ bare u)
same_told t u o is e f = (
  λ h. only_equal_trees_tie (bare t) (bare u) (sym e ∙ index_told o (sym f ∙ h)),
  λ h. f ∙ ap (λ (p : Ordering). ordering_index p == 1) (e ∙ sym (same_ties (bare t) (bare u) h)),
)
