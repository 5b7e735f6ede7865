-- What is written of a tree is equivalent to it, and has as many members as have to be written.
use Rattle.std.proofs.Common.{◌≡◌, ◌⊎◌, ◌<◌, ◌≤◌, ◌+◌, ◌-◌, inl, inr, ℕ, zero, suc, min, Bool, true, false, List, [], ◌∷◌, length, map, drop, refl, sym, ap, ◌∙◌, subst, arith}
use Rattle.std.specs.Prelude.{if◌then◌else◌, nat_le}
use Rattle.std.specs.declared.cmp.Ordering.{Ordering}
use Rattle.std.specs.declared.cmp.Ordering.TheVariants.{Less, Equal}
use Rattle.std.specs.List.{AllByRecursion}
use Rattle.std.proofs.lemmas.Bool.{and_parts, leb-true, leb-false}
use Rattle.std.proofs.lemmas.Cmp.{tied_itself}
use Rattle.std.proofs.lemmas.List.{length-map}
use Rattle.owl_list.specs.Ascending.{IsAscending, by_order}
use Rattle.owl_list.proofs.AscendingLaws.{head_below, nothing_ascends, tail_ascends}
use Rattle.owl_tree.specs.declared.tag.Tag.{Tag}
use Rattle.owl_tree.specs.declared.tag.Tag.TheVariants as tag
use Rattle.owl_tree.specs.declared.row.Sort.{Sort}
use Rattle.owl_tree.specs.declared.row.Rest.TheVariants.{Nothing, Optional, AtLeast, SomeThen, Set}
use Rattle.owl_tree.specs.Canonical.{canonical, canonicals, arranged, arranged_from, AscendsFrom, SetAscends, SetsAscend, EachSetsAscend}
use Rattle.owl_tree.proofs.CanonicalLaws.{ascends_is_canonical, canonicals_kids_of}
use Rattle.owl_tree.specs.Equivalence.{IsEquivalent}
use Rattle.owl_tree.proofs.EquivalenceLaws.{equivalent_is_equal_form}
use Rattle.owl_tree.specs.Order.{tree_cmp}
use Rattle.owl_tree.specs.OrderLaws.{trees_total}
use Rattle.owl_tree.specs.Places.{admits_from, counts}
use Rattle.owl_tree.proofs.PlacesLaws.{fits_by_place}
use Rattle.owl_tree.specs.Rows.{Row, Leaf, Node, row_of, set_start}
use Rattle.owl_tree.specs.Shape.{AreAtMostTwo, AreShaped, FitsRow, IsShaped}
use Rattle.owl_tree.proofs.ShapeLaws.{equivalent_shape}
use Rattle.owl_tree.proofs.TreeLaws.{list_of_kids_of}
use Rattle.owl_tree.specs.Trees.{Tree, Kids, leaf, node, no_kids, kid, kids_of, list_of, tag_of}
use Rattle.fss_terms.specs.Spelling.{HasMembers, HaveMembers, IsWritten, MeetsMinimum}
use Rattle.written_trees.specs.Written.{doubled, doubled_behind, written_form, written_forms}

-- one that stands twice is arranged as one

arranged_behind : (n : ℕ) (ts : List Tree) → arranged_from n (doubled_behind n ts) ≡ arranged_from n ts
arranged_behind zero [] = refl
arranged_behind zero (t ∷ []) = ap (λ (o : Ordering). by_order o (t ∷ t ∷ []) (t ∷ []) (t ∷ t ∷ [])) (tied_itself trees_total t)
arranged_behind zero (t ∷ u ∷ ts) = refl
arranged_behind (suc n) [] = refl
arranged_behind (suc n) (t ∷ ts) = ap (λ (us : List Tree). t ∷ us) (arranged_behind n ts)

arranged_if : (b : Bool) (n : ℕ) (ts : List Tree) → arranged_from n (if b then doubled_behind n ts else ts) ≡ arranged_from n ts
arranged_if true n ts = arranged_behind n ts
arranged_if false n ts = refl

arranged_doubled : (row : Row) (ts : List Tree) → arranged (set_start row) (doubled row ts) ≡ arranged (set_start row) ts
arranged_doubled (Leaf sort) ts = refl
arranged_doubled (Node front Nothing) ts = refl
arranged_doubled (Node front (Optional sort)) ts = refl
arranged_doubled (Node front (AtLeast sort least)) ts = refl
arranged_doubled (Node front (SomeThen sort last)) ts = refl
arranged_doubled (Node front (Set sort least)) ts = arranged_if (nat_le 2 least) (length front) ts

map_behind : (n : ℕ) (ts : List Tree) → map canonical (doubled_behind n ts) ≡ doubled_behind n (map canonical ts)
map_behind zero [] = refl
map_behind zero (t ∷ []) = refl
map_behind zero (t ∷ u ∷ ts) = refl
map_behind (suc n) [] = refl
map_behind (suc n) (t ∷ ts) = ap (λ (us : List Tree). canonical t ∷ us) (map_behind n ts)

map_if : (b : Bool) (n : ℕ) (ts : List Tree) → map canonical (if b then doubled_behind n ts else ts) ≡ (if b then doubled_behind n (map canonical ts) else map canonical ts)
map_if true n ts = map_behind n ts
map_if false n ts = refl

map_doubled : (row : Row) (ts : List Tree) → map canonical (doubled row ts) ≡ doubled row (map canonical ts)
map_doubled (Leaf sort) ts = refl
map_doubled (Node front Nothing) ts = refl
map_doubled (Node front (Optional sort)) ts = refl
map_doubled (Node front (AtLeast sort least)) ts = refl
map_doubled (Node front (SomeThen sort last)) ts = refl
map_doubled (Node front (Set sort least)) ts = map_if (nat_le 2 least) (length front) ts

mutual
  pub canonical_written : (t : Tree) → canonical (written_form t) ≡ canonical t
  canonical_written (leaf t a) = refl
  canonical_written (node t ks) =
      let row = row_of t in
      let forms : canonicals (kids_of (doubled row (written_forms ks))) ≡ doubled row (canonicals ks) =
      canonicals_kids_of (doubled row (written_forms ks)) ∙ map_doubled row (written_forms ks) ∙ ap (doubled row) (canonicals_written ks) in
      ap (λ (us : List Tree). node t (kids_of us)) (ap (arranged (set_start row)) forms ∙ arranged_doubled row (canonicals ks))

  canonicals_written : (ks : Kids) → map canonical (written_forms ks) ≡ canonicals ks
  canonicals_written no_kids = refl
  canonicals_written (kid t ks) = let e = canonical_written t in let f = canonicals_written ks in cc

-- what is written is equivalent
pub written_equivalent : (t : Tree) → IsEquivalent (written_form t) t
written_equivalent t = (equivalent_is_equal_form (written_form t) t).1 (canonical_written t)

pub equivalent_written : (t : Tree) → IsEquivalent t (written_form t)
equivalent_written t = (equivalent_is_equal_form t (written_form t)).1 (sym (canonical_written t))

pub written_tag : (t : Tree) → tag_of (written_form t) ≡ tag_of t
written_tag (leaf t a) = refl
written_tag (node t ks) = refl

-- a row asks for two members at most

abbrev least_of : Row → ℕ
least_of (Leaf sort) = 0
least_of (Node front Nothing) = 0
least_of (Node front (Optional sort)) = 0
least_of (Node front (AtLeast sort least)) = 0
least_of (Node front (SomeThen sort last)) = 0
least_of (Node front (Set sort least)) = least

two_asked : (t : Tag) → nat_le (least_of (row_of t)) 2 ≡ true
unfolding row_of
two_asked tag.Class = refl
two_asked _ = refl

-- as many as have to be written

some_behind : (n : ℕ) (ts : List Tree) → n < length ts → n + 2 ≤ length (doubled_behind n ts)
some_behind zero [] h = absurd (omega arith)
some_behind zero (t ∷ []) h = omega arith
some_behind zero (t ∷ u ∷ ts) h = omega arith
some_behind (suc n) [] h = absurd (omega arith)
some_behind (suc n) (t ∷ ts) h = let rest = some_behind n ts (omega arith) in omega arith

enough_if : (b : Bool) (n least : ℕ) (ts : List Tree) → nat_le 2 least ≡ b → least ≤ 2 → n ≤ length ts → min least 1 ≤ length ts - n → n + least ≤ length (if b then doubled_behind n ts else ts)
enough_if true n least ts e small front some =
    let two = leb-true 2 least e in
    let enough = some_behind n ts (omega arith) in
    omega arith
enough_if false n least ts e small front some = let one = leb-false 2 least e in omega arith

meets : (row : Row) (count : ℕ) (ts : List Tree) → count ≡ length ts → least_of row ≤ 2 → counts row count ≡ true → MeetsMinimum row (length (doubled row ts))
meets (Leaf sort) count ts same small h = tt
meets (Node front Nothing) count ts same small h = tt
meets (Node front (Optional sort)) count ts same small h = tt
meets (Node front (AtLeast sort least)) count ts same small h = tt
meets (Node front (SomeThen sort last)) count ts same small h = tt
meets (Node front (Set sort least)) count ts same small h =
    let parts = and_parts (nat_le (length front) count) (nat_le (min least 1) (count - length front)) h in
    let long = leb-true (length front) count parts.0 in
    let some = leb-true (min least 1) (count - length front) parts.1 in
    enough_if (nat_le 2 least) (length front) least ts refl small (omega arith) (omega arith)

-- of trees that ascend, at most two are equivalent to one of two

apart : (x y u : Tree) → tree_cmp x y ≡ Less → SetsAscend x → SetsAscend y → IsEquivalent x u → IsEquivalent y u → ⊥
apart x y u less a b h k =
    let same : x ≡ y =
    sym ((ascends_is_canonical x).0 a) ∙ (equivalent_is_equal_form x u).0 h ∙ sym ((equivalent_is_equal_form y u).0 k) ∙ (ascends_is_canonical y).0 b in
    let tie : tree_cmp x y ≡ Equal = subst (λ (z : Tree). tree_cmp x z ≡ Equal) same (tied_itself trees_total x) in
    absurd (cc)

three_apart : (x y z one other : Tree) → tree_cmp x y ≡ Less → tree_cmp x z ≡ Less → tree_cmp y z ≡ Less → SetsAscend x → SetsAscend y → SetsAscend z
    → IsEquivalent x one ⊎ IsEquivalent x other → IsEquivalent y one ⊎ IsEquivalent y other → IsEquivalent z one ⊎ IsEquivalent z other → ⊥
three_apart x y z one other xy xz yz a b d (inl h) (inl k) m = apart x y one xy a b h k
three_apart x y z one other xy xz yz a b d (inr h) (inr k) m = apart x y other xy a b h k
three_apart x y z one other xy xz yz a b d (inl h) (inr k) (inl m) = apart x z one xz a d h m
three_apart x y z one other xy xz yz a b d (inl h) (inr k) (inr m) = apart y z other yz b d k m
three_apart x y z one other xy xz yz a b d (inr h) (inl k) (inl m) = apart y z one yz b d k m
three_apart x y z one other xy xz yz a b d (inr h) (inl k) (inr m) = apart x z other xz a d h m

two_at_most : (ts : List Tree) → IsAscending tree_cmp ts → AllByRecursion SetsAscend ts → AreAtMostTwo ts → length ts ≤ 2
two_at_most [] up each two = omega arith
two_at_most (x ∷ []) up each two = omega arith
two_at_most (x ∷ y ∷ []) up each two = omega arith
two_at_most (x ∷ y ∷ z ∷ ts) up each two =
    let below = head_below tree_cmp x (y ∷ z ∷ ts) up in
    let next = head_below tree_cmp y (z ∷ ts) (tail_ascends tree_cmp x (y ∷ z ∷ ts) up) in
    absurd (three_apart x y z two.one two.other below.0 below.1.0 next.0 each.0 each.1.0 each.1.1.0 two.each.0 two.each.1.0 two.each.1.1.0)

each_ascends : (ks : Kids) → EachSetsAscend ks → AllByRecursion SetsAscend (list_of ks)
each_ascends no_kids h = tt
each_ascends (kid t ks) h = (h.0, each_ascends ks h.1)

all_dropped : (ts : List Tree) → AllByRecursion SetsAscend ts → AllByRecursion SetsAscend (drop 1 ts)
all_dropped [] h = tt
all_dropped (t ∷ ts) h = h.1

ascends_dropped : (ts : List Tree) → AscendsFrom 1 ts → IsAscending tree_cmp (drop 1 ts)
ascends_dropped [] h = nothing_ascends tree_cmp
ascends_dropped (t ∷ ts) h = h

length_dropped : (ts : List Tree) → length ts ≤ length (drop 1 ts) + 1
length_dropped [] = omega arith
length_dropped (t ∷ ts) = omega arith

abbrev InverseRow : Row → Type 0
InverseRow row = (sort : Sort) × (second : Sort) × (row ≡ Node (sort ∷ []) (Set second 2))

inverse_sorts : InverseRow (row_of tag.InverseObjectProperties)
unfolding row_of
inverse_sorts = (_, _, refl)

inverse_row : (t : Tag) → t ≡ tag.InverseObjectProperties → InverseRow (row_of t)
inverse_row t e = subst (λ (u : Tag). InverseRow (row_of u)) (sym e) inverse_sorts

three_behind : (ts : List Tree) → 2 ≤ length ts → length ts ≤ 3 → length (doubled_behind 1 ts) ≡ 3
three_behind [] h k = absurd (omega arith)
three_behind (a ∷ []) h k = absurd (omega arith)
three_behind (a ∷ b ∷ []) h k = refl
three_behind (a ∷ b ∷ d ∷ []) h k = refl
three_behind (a ∷ b ∷ d ∷ e ∷ ts) h k = absurd (omega arith)

inverse_count : (row : Row) (sort second : Sort) (ts us : List Tree) → row ≡ Node (sort ∷ []) (Set second 2) → length us ≡ length ts → counts row (length ts) ≡ true → SetAscends (set_start row) ts → AllByRecursion SetsAscend ts → AreAtMostTwo (drop 1 ts) → length (doubled row us) ≡ 3
inverse_count row sort second ts us e same h up each two =
    let row_counts : counts (Node (sort ∷ []) (Set second 2)) (length ts) ≡ true = subst (λ (r : Row). counts r (length ts) ≡ true) e h in
    let row_ascends : AscendsFrom 1 ts = subst (λ (r : Row). SetAscends (set_start r) ts) e up in
    let parts = and_parts (nat_le 1 (length ts)) (nat_le 1 (length ts - 1)) row_counts in
    let long = leb-true 1 (length ts - 1) parts.1 in
    let short = two_at_most (drop 1 ts) (ascends_dropped ts row_ascends) (all_dropped ts each) two in
    let dropped = length_dropped ts in
    ap (λ (r : Row). length (doubled r us)) e ∙ three_behind us (omega arith) (omega arith)

-- each of those that are written

members_each : (ts : List Tree) → AllByRecursion HasMembers ts → HaveMembers (kids_of ts)
members_each [] h = tt
members_each (t ∷ ts) h = (h.0, members_each ts h.1)

all_behind : (n : ℕ) (ts : List Tree) → AllByRecursion HasMembers ts → AllByRecursion HasMembers (doubled_behind n ts)
all_behind zero [] h = tt
all_behind zero (t ∷ []) h = (h.0, h)
all_behind zero (t ∷ u ∷ ts) h = h
all_behind (suc n) [] h = tt
all_behind (suc n) (t ∷ ts) h = (h.0, all_behind n ts h.1)

all_if : (b : Bool) (n : ℕ) (ts : List Tree) → AllByRecursion HasMembers ts → AllByRecursion HasMembers (if b then doubled_behind n ts else ts)
all_if true n ts h = all_behind n ts h
all_if false n ts h = h

all_doubled : (row : Row) (ts : List Tree) → AllByRecursion HasMembers ts → AllByRecursion HasMembers (doubled row ts)
all_doubled (Leaf sort) ts h = h
all_doubled (Node front Nothing) ts h = h
all_doubled (Node front (Optional sort)) ts h = h
all_doubled (Node front (AtLeast sort least)) ts h = h
all_doubled (Node front (SomeThen sort last)) ts h = h
all_doubled (Node front (Set sort least)) ts h = all_if (nat_le 2 least) (length front) ts h

forms_length : (ks : Kids) → length (written_forms ks) ≡ length (list_of ks)
forms_length no_kids = refl
forms_length (kid t ks) = ap suc (forms_length ks)

row_counts : (t : Tag) (ts : List Tree) → FitsRow t ts → counts (row_of t) (length ts) ≡ true
row_counts t ts h =
    let both = and_parts (counts (row_of t) (length (map tag_of ts))) (admits_from (row_of t) 0 (map tag_of ts)) (sym (fits_by_place (row_of t) (map tag_of ts)) ∙ h.row) in
    ap (counts (row_of t)) (sym (length-map ts tag_of)) ∙ both.0

mutual
  has_members : (t : Tree) → IsShaped t → SetsAscend t → HasMembers (written_form t)
  has_members (leaf t a) h up = tt
  has_members (node t ks) h up =
      let row = row_of t in
      let kids = doubled row (written_forms ks) in
      let back = list_of_kids_of kids in
      let many = row_counts t (list_of ks) h.0 in (
        subst (λ (us : List Tree). MeetsMinimum row (length us)) (sym back) (meets row (length (list_of ks)) (written_forms ks) (sym (forms_length ks)) (leb-true (least_of row) 2 (two_asked t)) many),
        λ e.
            let at = inverse_row t e in
            ap (λ (us : List Tree). length us) back
            ∙ inverse_count row at.0 at.1 (list_of ks) (written_forms ks) at.2 (forms_length ks) many up.0 (each_ascends ks up.1) (h.0.inverses e),
        members_each kids (all_doubled row (written_forms ks) (have_members ks h.1 up.1)),
      )

  have_members : (ks : Kids) → AreShaped ks → EachSetsAscend ks → AllByRecursion HasMembers (written_forms ks)
  have_members no_kids h up = tt
  have_members (kid t ks) h up = (has_members t h.0 up.0, have_members ks h.1 up.1)

-- what is written of a tree in canonical form may be written
pub is_written : (t : Tree) → IsShaped t → canonical t ≡ t → IsWritten (written_form t)
is_written t h e = record {
  shaped = equivalent_shape t (written_form t) (equivalent_written t) h;
  members = has_members t h ((ascends_is_canonical t).1 e);
}
