-- Which kids a node may have, by their numbers.
use Rattle.std.proofs.Common.{◌≡◌, ◌↔◌, ◌⊎◌, ◌<◌, ◌≤◌, ◌+◌, ◌-◌, ℕ, zero, suc, IsTrue, Bool, true, false, not, ◌&&◌, ◌==◌, List, [], ◌∷◌, length, get_or, drop, drop-cons, add-one, refl, sym, ap, ◌∙◌, subst, arith}
use Rattle.std.specs.Prelude.{nat_eq}
use Rattle.std.specs.List.{AllByRecursion}
use Rattle.std.proofs.lemmas.Bool.{eq-eqb, ne_eqb}
use Rattle.std.proofs.lemmas.List.{drop_all, length-drop, length-map}
use Rattle.owl_tree.specs.declared.tag.Tag.TheVariants as tag
use Rattle.owl_tree.specs.Places.{admits_at, admits_from, counts}
use Rattle.owl_tree.proofs.PlacesLaws.{fits_by_place}
use Rattle.owl_tree.specs.Rows.{Row, fits}
use Rattle.owl_tree.specs.Shape.{HasKeyProperty}
use Rattle.owl_tree.specs.ShapeTests.{IsKeyGroup}
use Rattle.owl_tree.proofs.ShapeTestLaws.{group_told, key_behind}
use Rattle.owl_tree.specs.Trees.{Tree, kids_in, tag_of}
use Rattle.owl_arena.specs.Held.{tree_at, trees_at}
use Rattle.owl_arena.specs.Members.{are_either, are_one_other, other_from, tags_at}

pub held_at : (n : ℕ) (ids : List ℕ) (place id : ℕ) → AllByRecursion (λ k. k < n) ids → place < length ids → id ≡ get_or ids place id → id < n
held_at n [] place id h j e = absurd (omega arith)
held_at n (k ∷ ids) zero id h j e = omega (arith, h.0)
held_at n (k ∷ ids) (suc place) id h j e = held_at n ids place id h.1 (omega arith) e

-- what is left begins with the number at the place
left : (ids : List ℕ) (place id : ℕ) → place < length ids → id ≡ get_or ids place id → drop place ids ≡ id ∷ drop (place + 1) ids
left ids place id h e = rw (add-one) (drop-cons ids place id h ∙ ap (λ (k : ℕ). k ∷ drop (suc place) ids) (sym e))

-- the row, place by place
module _ (row : Row) (ts : List Tree) (ids : List ℕ) (place id : ℕ) (inside : place < length ids) (there : id ≡ get_or ids place id) where
  from_kid : admits_from row place (tags_at ts (drop place ids)) ≡ (admits_at row place (length ids - place - 1) (tag_of (tree_at ts id)) && admits_from row (place + 1) (tags_at ts (drop (place + 1) ids)))
  from_kid =
      let rest = drop (suc place) ids in
      let long : length (tags_at ts rest) ≡ length ids - place - 1 = length-map (trees_at ts rest) tag_of ∙ length-map rest (tree_at ts) ∙ length-drop (suc place) ids ∙ omega arith in
      ap (λ (xs : List ℕ). admits_from row place (tags_at ts xs)) (left ids place id inside there) ∙ rw add-one (ap (λ (n : ℕ). admits_at row place n (tag_of (tree_at ts id)) && admits_from row (suc place) (tags_at ts rest)) long)

  pub kid_admitted : true ≡ admits_at row place (length ids - place - 1) (tag_of (tree_at ts id)) → admits_from row (place + 1) (tags_at ts (drop (place + 1) ids)) ≡ admits_from row place (tags_at ts (drop place ids))
  kid_admitted e = sym (from_kid ∙ sym (ap (λ (b : Bool). b && admits_from row (place + 1) (tags_at ts (drop (place + 1) ids))) e))

  pub kid_refused : false ≡ admits_at row place (length ids - place - 1) (tag_of (tree_at ts id)) → false ≡ admits_from row place (tags_at ts (drop place ids))
  kid_refused e = sym (from_kid ∙ sym (ap (λ (b : Bool). b && admits_from row (place + 1) (tags_at ts (drop (place + 1) ids))) e))

pub kids_admitted : (row : Row) (ts : List Tree) (ids : List ℕ) (place : ℕ) → length ids ≤ place → true ≡ admits_from row place (tags_at ts (drop place ids))
kids_admitted row ts ids place h = rw (drop_all place ids h) refl

-- the members of a set of inverses
module _ (one : ℕ) (ids : List ℕ) (place id : ℕ) (inside : place < length ids) (there : id ≡ get_or ids place id) where
  at_member : are_one_other one (drop place ids) ≡ other_from (nat_eq id one) (are_one_other one (drop (place + 1) ids)) (are_either one id (drop (place + 1) ids))
  at_member = ap (are_one_other one) (left ids place id inside there)

  pub is_one : id ≡ one → are_one_other one (drop (place + 1) ids) ≡ are_one_other one (drop place ids)
  is_one e =
      sym (at_member ∙ ap (λ (b : Bool). other_from b (are_one_other one (drop (place + 1) ids)) (are_either one id (drop (place + 1) ids))) (eq-eqb id one e))

  pub is_other : (id ≡ one → ⊥) → are_either one id (drop (place + 1) ids) ≡ are_one_other one (drop place ids)
  is_other e =
      sym (at_member ∙ ap (λ (b : Bool). other_from b (are_one_other one (drop (place + 1) ids)) (are_either one id (drop (place + 1) ids))) (ne_eqb id one e))

pub no_other : (one : ℕ) (ids : List ℕ) (place : ℕ) → length ids ≤ place → true ≡ are_one_other one (drop place ids)
no_other one ids place h = rw (drop_all place ids h) refl

-- kids fit a row where they may be so many, and each may stand at its place
pub row_fits : (row : Row) (ts : List Tree) (ids : List ℕ) (count admitted : Bool) → count ≡ counts row (length ids) → admitted ≡ admits_from row 0 (tags_at ts ids) → (count && admitted) ≡ fits row (tags_at ts ids)
row_fits row ts ids count admitted e f =
    let long : length (tags_at ts ids) ≡ length ids = length-map (trees_at ts ids) tag_of ∙ length-map ids (tree_at ts) in
    rw (e, f) (ap (λ (n : ℕ). counts row n && admits_from row 0 (tags_at ts ids)) (sym long) ∙ sym (fits_by_place row (tags_at ts ids)))

pub row_refuses : (row : Row) (ts : List Tree) (ids : List ℕ) (count : Bool) → count ≡ false → count ≡ counts row (length ids) → count ≡ fits row (tags_at ts ids)
row_refuses row ts ids count e f = e ∙ sym (ap (λ (b : Bool). b && admits_from row 0 (tags_at ts ids)) e) ∙ row_fits row ts ids count (admits_from row 0 (tags_at ts ids)) f refl

pub group_member : (ts : List Tree) (a : Tree) (ids : List ℕ) (empty : Bool) → (tag_of a ≡ tag.ObjectKeys) ⊎ (tag_of a ≡ tag.DataKeys) → trees_at ts ids ≡ kids_in a → empty ≡ (length ids == 0) → IsTrue (not empty) ↔ IsKeyGroup a
group_member ts a ids empty h kids e = group_told a (trees_at ts ids) empty h kids (e ∙ ap (λ (n : ℕ). n == 0) (sym (length-map ids (tree_at ts))))

module _ (ts : List Tree) (ids : List ℕ) (place id : ℕ) (inside : place < length ids) (there : id ≡ get_or ids place id) where
  pub no_group : (b : Bool) → b ≡ false → IsTrue b ↔ IsKeyGroup (tree_at ts id) → HasKeyProperty (trees_at ts (drop place ids)) → HasKeyProperty (trees_at ts (drop (place + 1) ids))
  no_group b e h k = key_behind (tree_at ts id) (trees_at ts (drop (place + 1) ids)) b e h (subst (λ (xs : List ℕ). HasKeyProperty (trees_at ts xs)) (left ids place id inside there) k)
