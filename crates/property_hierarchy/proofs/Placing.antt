-- The place of a tree, found from the first on, and the kids of all trees.
use Rattle.std.proofs.Common.{◌≡◌, ◌↔◌, ◌<◌, ◌≤◌, ◌+◌, inl, inr, ℕ, Bool, true, false, List, Some, length, sym, ap, ◌∙◌, subst, arith}
use Rattle.std.specs.Prelude.{Contains, IsTrue}
use Rattle.std.specs.List.{AllByRecursion}
use Rattle.std.specs.Ordering.{is_eq}
use Rattle.std.proofs.lemmas.Bool.{cases_Bool, cases_lt}
use Rattle.std.proofs.lemmas.List.{get_or_default}
use Rattle.std.proofs.lemmas.List.Sums.{position_or_len_is}
use Rattle.std.proofs.lemmas.Option.{same_Some}
use Rattle.owl_list.proofs.AscendingLaws.{all_later, all_map}
use Rattle.dl_rules.specs.Places.{place_of}
use Rattle.dl_rules.proofs.PlaceLaws.{equal_trees}
use Rattle.std.proofs.lemmas.Cmp.{tied_itself}
use Rattle.owl_tree.specs.OrderLaws.{trees_total}
use Rattle.owl_arena.specs.Held.{tree_at, trees_at}
use Rattle.owl_arena.proofs.HeldLaws.{tree_inside}
use Rattle.owl_tree.specs.declared.atom.Atom.{Atom}
use Rattle.owl_tree.specs.declared.atom.Atom.TheVariants as atom
use Rattle.owl_tree.specs.declared.tag.Tag.{Tag}
use Rattle.owl_tree.specs.declared.tag.Tag.TheVariants as tag
use Rattle.owl_tree.specs.Order.{tree_cmp}
use Rattle.owl_tree.specs.Trees.{Tree, leaf, node, no_kids, atom_in, kids_in, tag_of}
use Rattle.property_hierarchy.specs.Listed.{HoldsKids}

-- the tree is none of those before the place
abbrev pub IsNoneBefore : List Tree → Tree → ℕ → Type 0
IsNoneBefore ts t place = (k : ℕ) → k < place → tree_at ts k ≡ t → ⊥

pub none_before_more : (ts : List Tree) (t : Tree) (place : ℕ) → IsNoneBefore ts t place → (tree_at ts place ≡ t → ⊥) → IsNoneBefore ts t (place + 1)
none_before_more ts t place none own k h e =
    elim (cases_lt k place) [
      | inl before ↦ none k before e
      | inr past ↦ let here : k ≡ place = omega (arith, h, past) in own (subst (λ (n : ℕ). tree_at ts n ≡ t) here e)
    ]

pub first_place : (ts : List Tree) (t : Tree) (place : ℕ) → place ≤ length ts → IsNoneBefore ts t place → (place < length ts → tree_at ts place ≡ t) → place ≡ place_of ts t
first_place ts t place within none there =
    sym (position_or_len_is (λ u. is_eq (tree_cmp u t)) ts place (node tag.Notes no_kids) within
    (λ k before. elim (cases_Bool (is_eq (tree_cmp (tree_at ts k) t))) as (λ _. is_eq (tree_cmp (tree_at ts k) t) ≡ false) [
      | inl tied ↦ absurd (none k before (equal_trees (tree_at ts k) t tied))
      | inr apart ↦ apart
    ])
    (λ inside. subst (λ (u : Tree). is_eq (tree_cmp u t) ≡ true) (sym (there inside)) (ap is_eq (tied_itself trees_total t))))

-- a leaf by its tag and its atom
iri_of_leaf : (t : Tree) (own iri : List ℕ) → Some (atom.Iri own) ≡ atom_in t → t ≡ leaf tag.ObjectProperty (atom.Iri iri) → own ≡ iri
iri_of_leaf t own iri h e = let same = same_Some (atom.Iri own) (atom.Iri iri) (h ∙ ap atom_in e) in cc

leaf_there : (t : Tree) (own : List ℕ) → tag_of t ≡ tag.ObjectProperty → Some (atom.Iri own) ≡ atom_in t → t ≡ leaf tag.ObjectProperty (atom.Iri own)
leaf_there (leaf u a) own e h = ap (λ (v : Tag). leaf v a) e ∙ ap (λ (b : Atom). leaf tag.ObjectProperty b) (sym (same_Some (atom.Iri own) a h))
leaf_there (node u ks) own e h = absurd (cc)

pub names_iri : (t : Tree) (own iri : List ℕ) (is : Bool) → tag_of t ≡ tag.ObjectProperty → Some (atom.Iri own) ≡ atom_in t → IsTrue is ↔ (own ≡ iri) → IsTrue is ↔ (t ≡ leaf tag.ObjectProperty (atom.Iri iri))
names_iri t own iri is e h told = (
  λ yes_. leaf_there t own e h ∙ ap (λ (i : List ℕ). leaf tag.ObjectProperty (atom.Iri i)) (told.0 yes_),
  λ same. told.1 (iri_of_leaf t own iri h same),
)

-- the kids of the trees before the place are trees
abbrev pub HoldsKidsBefore : List Tree → ℕ → Type 0
HoldsKidsBefore ts place = (id : ℕ) → id < place → AllByRecursion (Contains ts) (kids_in (tree_at ts id))

pub kids_before_more : (ts : List Tree) (place at : ℕ) (kids : List ℕ) → HoldsKidsBefore ts place → place < length ts → at ≡ place → trees_at ts kids ≡ kids_in (tree_at ts at) → AllByRecursion (λ kid. kid < at) kids → HoldsKidsBefore ts (place + 1)
kids_before_more ts place at kids all within same are low id h =
    elim (cases_lt id place) as (λ _. AllByRecursion (Contains ts) (kids_in (tree_at ts id))) [
      | inl before ↦ all id before
      | inr past ↦
          let here : at ≡ id = omega (arith, h, past, same) in
          subst (λ (n : ℕ). AllByRecursion (Contains ts) (kids_in (tree_at ts n))) here
          (subst (λ (us : List Tree). AllByRecursion (Contains ts) us) are
          (all_map (tree_at ts) (Contains ts) kids (all_later (λ kid. kid < at) (λ kid. Contains ts (tree_at ts kid)) (λ kid k. tree_inside ts kid (omega (arith, k, within, same))) kids low)))
    ]

pub holds_kids : (ts : List Tree) (place : ℕ) → HoldsKidsBefore ts place → length ts ≤ place → HoldsKids ts
holds_kids ts place all past t m =
    let same : tree_at ts m.0 ≡ t = get_or_default ts m.0 (node tag.Notes no_kids) t m.1 ∙ m.2 in
    subst (λ (u : Tree). AllByRecursion (Contains ts) (kids_in u)) same (all m.0 (omega (arith, past, m.1)))
