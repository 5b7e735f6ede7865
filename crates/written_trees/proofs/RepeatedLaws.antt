-- Kids as they are written: themselves, and one that stands twice.
use Rattle.std.proofs.Common.{◌≡◌, ◌≢◌, ◌-◌, ℕ, zero, suc, ◌+◌, ◌<◌, Bool, true, false, List, [], ◌∷◌, ◌++◌, length, get_or, None, Some, refl, sym, ap, ◌∙◌, subst, arith}
use Rattle.std.specs.Prelude.{map, nat_le, if◌then◌else◌}
use Rattle.std.specs.List.{AllByRecursion}
use Rattle.std.specs.Option.{option_map, option_to_list}
use Rattle.std.proofs.lemmas.List.{append-nil}
use Rattle.owl_tree.specs.declared.tag.Tag.{Tag}
use Rattle.owl_tree.specs.declared.row.Rest.TheVariants.{Nothing, Optional, AtLeast, SomeThen, Set}
use Rattle.owl_tree.specs.Rows.{Row, Leaf, Node, row_of}
use Rattle.owl_tree.specs.Trees.{Tree, Kids, node, no_kids, kid, kids_in, list_of}
use Rattle.owl_tree.proofs.TreeLaws.{list_of_kids_of}
use Rattle.written_trees.specs.Written.{doubled, doubled_behind, only_behind, repeated, written_form, written_forms}

-- kids as they are written
doubled_behind_is : (n : ℕ) (ts : List Tree) → doubled_behind n ts ≡ ts ++ option_to_list (only_behind n ts)
doubled_behind_is zero [] = refl
doubled_behind_is zero (t ∷ []) = refl
doubled_behind_is zero (t ∷ u ∷ ts) = sym (append-nil (t ∷ u ∷ ts))
doubled_behind_is (suc n) [] = refl
doubled_behind_is (suc n) (t ∷ ts) = ap (λ (us : List Tree). t ∷ us) (doubled_behind_is n ts)

doubled_set : (b : Bool) (n : ℕ) (ts : List Tree) → (if b then doubled_behind n ts else ts) ≡ ts ++ option_to_list (if b then only_behind n ts else None)
doubled_set true n ts = doubled_behind_is n ts
doubled_set false n ts = sym (append-nil ts)

pub doubled_is : (row : Row) (ts : List Tree) → doubled row ts ≡ ts ++ option_to_list (repeated row ts)
doubled_is (Leaf sort) ts = sym (append-nil ts)
doubled_is (Node front Nothing) ts = sym (append-nil ts)
doubled_is (Node front (Optional sort)) ts = sym (append-nil ts)
doubled_is (Node front (AtLeast sort least)) ts = sym (append-nil ts)
doubled_is (Node front (SomeThen sort last)) ts = sym (append-nil ts)
doubled_is (Node front (Set sort least)) ts = doubled_set (nat_le 2 least) (length front) ts

-- by how many there are
pub only_there : (n : ℕ) (xs : List ℕ) → n < length xs → length xs - n ≡ 1 → only_behind n xs ≡ Some (get_or xs n 0)
only_there zero [] l e = absurd (omega arith)
only_there zero (x ∷ []) l e = refl
only_there zero (x ∷ y ∷ zs) l e = absurd (omega arith)
only_there (suc n) [] l e = absurd (omega arith)
only_there (suc n) (x ∷ xs) l e = only_there n xs (omega arith) (omega arith)

pub only_not : (n : ℕ) (xs : List ℕ) → length xs ≢ n + 1 → only_behind n xs ≡ None
only_not zero [] l = refl
only_not zero (x ∷ []) l = absurd (l refl)
only_not zero (x ∷ y ∷ zs) l = refl
only_not (suc n) [] l = refl
only_not (suc n) (x ∷ xs) l = only_not n xs (λ e. l (omega arith))

only_map : {X Y : Type 0} (f : X → Y) (n : ℕ) (xs : List X) → only_behind n (map f xs) ≡ option_map f (only_behind n xs)
only_map f zero [] = refl
only_map f zero (x ∷ []) = refl
only_map f zero (x ∷ y ∷ zs) = refl
only_map f (suc n) [] = refl
only_map f (suc n) (x ∷ xs) = only_map f n xs

set_map : {X Y : Type 0} (f : X → Y) (b : Bool) (n : ℕ) (xs : List X) → (if b then only_behind n (map f xs) else None) ≡ option_map f (if b then only_behind n xs else None)
set_map f true n xs = only_map f n xs
set_map f false n xs = refl

pub repeated_map : {X Y : Type 0} (f : X → Y) (row : Row) (xs : List X) → repeated row (map f xs) ≡ option_map f (repeated row xs)
repeated_map f (Leaf sort) xs = refl
repeated_map f (Node front Nothing) xs = refl
repeated_map f (Node front (Optional sort)) xs = refl
repeated_map f (Node front (AtLeast sort least)) xs = refl
repeated_map f (Node front (SomeThen sort last)) xs = refl
repeated_map f (Node front (Set sort least)) xs = set_map f (nat_le 2 least) (length front) xs

pub forms_map : (ks : Kids) → written_forms ks ≡ map written_form (list_of ks)
forms_map no_kids = refl
forms_map (kid k ks) = ap (λ (ts : List Tree). written_form k ∷ ts) (forms_map ks)

pub kids_written : (t : Tag) (ks : Kids) → kids_in (written_form (node t ks)) ≡ doubled (row_of t) (map written_form (list_of ks))
kids_written t ks = list_of_kids_of (doubled (row_of t) (written_forms ks)) ∙ ap (doubled (row_of t)) (forms_map ks)

-- no kids are written of a leaf
pub none_repeated : (row : Row) → repeated {X = ℕ} row [] ≡ None
none_repeated (Leaf sort) = refl
none_repeated (Node front Nothing) = refl
none_repeated (Node front (Optional sort)) = refl
none_repeated (Node front (AtLeast sort least)) = refl
none_repeated (Node front (SomeThen sort last)) = refl
none_repeated (Node front (Set sort least)) = of_set (nat_le 2 least) (length front) where
  none_behind : (n : ℕ) → only_behind {X = ℕ} n [] ≡ None
  none_behind zero = refl
  none_behind (suc n) = refl

  of_set : (b : Bool) (n : ℕ) → (if b then only_behind {X = ℕ} n [] else None) ≡ None
  of_set true n = none_behind n
  of_set false n = refl

-- the one that stands twice is one of the kids
only_kept : (P : ℕ → Type 0) (n : ℕ) (ids : List ℕ) (id : ℕ) → only_behind n ids ≡ Some id → AllByRecursion P ids → P id
only_kept P zero [] id e h = absurd (cc)
only_kept P zero (x ∷ []) id e h = let same : x ≡ id = cc in subst P same h.0
only_kept P zero (x ∷ y ∷ zs) id e h = absurd (cc)
only_kept P (suc n) [] id e h = absurd (cc)
only_kept P (suc n) (x ∷ xs) id e h = only_kept P n xs id e h.1

set_kept : (P : ℕ → Type 0) (b : Bool) (n : ℕ) (ids : List ℕ) (id : ℕ) → (if b then only_behind n ids else None) ≡ Some id → AllByRecursion P ids → P id
set_kept P true n ids id e h = only_kept P n ids id e h
set_kept P false n ids id e h = absurd (cc)

pub repeated_kept : (P : ℕ → Type 0) (row : Row) (ids : List ℕ) (id : ℕ) → repeated row ids ≡ Some id → AllByRecursion P ids → P id
repeated_kept P (Leaf sort) ids id e h = absurd (cc)
repeated_kept P (Node front Nothing) ids id e h = absurd (cc)
repeated_kept P (Node front (Optional sort)) ids id e h = absurd (cc)
repeated_kept P (Node front (AtLeast sort least)) ids id e h = absurd (cc)
repeated_kept P (Node front (SomeThen sort last)) ids id e h = absurd (cc)
repeated_kept P (Node front (Set sort least)) ids id e h = set_kept P (nat_le 2 least) (length front) ids id e h
