-- What is known of a tree by what is known of its kids.
use Rattle.std.proofs.Common.{◌≡◌, ◌<◌, ◌+◌, ℕ, Bool, List, [], ◌∷◌, ◌++◌, length, map, None, Some, refl, sym, ap, ◌∙◌, subst, arith, inl, inr}
use Rattle.std.proofs.Math.Path.{fun_ext}
use Rattle.std.proofs.lemmas.List.{get_or_append_left, get_or_push}
use Rattle.std.proofs.lemmas.Bool.{cases_lt}
use Rattle.std.proofs.lemmas.Option.{none-some, same_Some}
use Rattle.std.specs.List.{AllByRecursion}
use Rattle.owl_arena.specs.Held.{tree_at, trees_at}
use Rattle.owl_tree.specs.declared.atom.Atom.{Atom}
use Rattle.owl_tree.specs.declared.tag.Tag.{Tag}
use Rattle.owl_tree.specs.Trees.{Tree, Kids, leaf, node, no_kids, kid, atom_in, kids_in, list_of, tag_of}
use Rattle.profile_sorts.specs.declared.set.SortSet.{SortSet}
use Rattle.profile_sorts.specs.declared.sort.Sort.{Sort}
use Rattle.profile_sorts.specs.Sets.{AreSortsBelow, HasSorts, has, known_at, no_sorts, set_at}
use Rattle.profile_sorts.specs.Sorts.{form_of, kids_fit, leaf_fits, sorts, sorts_of}

sorts_are : (ks : Kids) → sorts_of ks ≡ map sorts (list_of ks)
sorts_are no_kids = refl
sorts_are (kid t ks) = ap (λ (fs : List (Sort → Bool)). sorts t ∷ fs) (sorts_are ks)

kids_known : (ts : List Tree) (sets : List SortSet) (count : ℕ) (ids : List ℕ) → AreSortsBelow count ts sets → AllByRecursion (λ id. id < count) ids → map (known_at sets) ids ≡ map sorts (trees_at ts ids)
kids_known ts sets count [] told below = refl
kids_known ts sets count (id ∷ ids) told below =
    let here : known_at sets id ≡ sorts (tree_at ts id) = fun_ext (λ s. (told id below.0).each s) in
    ap (λ (f : Sort → Bool). f ∷ map (known_at sets) ids) here
    ∙ ap (λ (fs : List (Sort → Bool)). sorts (tree_at ts id) ∷ fs) (kids_known ts sets count ids told below.1)

pub leaf_told : (t : Tree) (g : Tag) (a : Atom) (set : SortSet) → g ≡ tag_of t → Some a ≡ atom_in t → ((s : Sort) → has set s ≡ leaf_fits (form_of s g) a) → HasSorts t set
leaf_told (leaf t b) g a set is holds told = record { each = λ s. told s ∙ ap (λ (h : Tag). leaf_fits (form_of s h) a) is ∙ ap (leaf_fits (form_of s t)) (same_Some a b holds) }
leaf_told (node t ks) g a set is holds told = absurd (none-some a (sym holds))

node_is : (t : Tree) (s : Sort) → None ≡ atom_in t → kids_fit (form_of s (tag_of t)) (map sorts (kids_in t)) ≡ sorts t s
node_is (leaf t a) s e = absurd (none-some a e)
node_is (node t ks) s e = ap (kids_fit (form_of s t)) (sym (sorts_are ks))

pub node_told : (ts : List Tree) (sets : List SortSet) (id : ℕ) (ids : List ℕ) (g : Tag) (set : SortSet) → g ≡ tag_of (tree_at ts id) → None ≡ atom_in (tree_at ts id) → AllByRecursion (λ kid. kid < id) ids → trees_at ts ids ≡ kids_in (tree_at ts id) →
    ((s : Sort) → has set s ≡ kids_fit (form_of s g) (map (known_at sets) ids)) → AreSortsBelow id ts sets → HasSorts (tree_at ts id) set
node_told ts sets id ids g set is none below kids told known = record {
  each = λ s.
      told s ∙ ap (λ (h : Tag). kids_fit (form_of s h) (map (known_at sets) ids)) is
      ∙ ap (kids_fit (form_of s (tag_of (tree_at ts id)))) (kids_known ts sets id ids known below ∙ ap (map sorts) kids)
      ∙ node_is (tree_at ts id) s none;
}

-- one more tree
pub sets_more : (ts : List Tree) (old lent new : List SortSet) (set : SortSet) (place id : ℕ) → new ≡ old ++ set ∷ [] → length old ≡ place → id ≡ place → lent ≡ old → AreSortsBelow place ts old →
    (AreSortsBelow id ts lent → HasSorts (tree_at ts id) set) → AreSortsBelow (place + 1) ts new
sets_more ts old lent new set place id pushed size is same told more k inside =
    let before = subst (λ (n : ℕ). AreSortsBelow n ts lent) (sym is) (subst (λ (xs : List SortSet). AreSortsBelow place ts xs) (sym same) told) in
    let Here : SortSet → Type 0 = HasSorts (tree_at ts k) in
    elim (cases_lt k place) as (λ _. HasSorts (tree_at ts k) (set_at new k)) [
      | inl earlier ↦
          subst Here (sym (ap (λ (xs : List SortSet). set_at xs k) pushed ∙ get_or_append_left old (set ∷ []) no_sorts k (omega (arith, size, earlier)))) (told k earlier)
      | inr past ↦
          let last : length old ≡ k = omega (arith, size, inside, past) in
          subst Here (sym (ap (λ (xs : List SortSet). set_at xs k) pushed ∙ get_or_push old set no_sorts k last))
          (subst (λ (n : ℕ). HasSorts (tree_at ts n) set) (is ∙ sym size ∙ last) (more before))
    ]
