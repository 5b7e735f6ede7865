-- Trees and axioms by the numbers of an arena.
use Rattle.std.proofs.Common.{◌≡◌, ◌<◌, ◌≤◌, ◌-◌, ℕ, suc, Bool, List, [], ◌∷◌, length, map, take, drop, get_or, Option, None, option_map, refl, sym, ap, ◌∙◌, arith}
use Rattle.std.specs.Prelude.{max, nat_eq}
use Rattle.std.specs.List.{AllByRecursion}
use Rattle.std.proofs.Math.Seq.{take-length}
use Rattle.std.proofs.lemmas.Simd.{map-map}
use Rattle.owl_arena.specs.Held.{tree_at, trees_at}
use Rattle.owl_tree.specs.declared.tag.Tag.{Tag}
use Rattle.owl_tree.specs.declared.tag.Tag.TheVariants as tag
use Rattle.owl_tree.specs.Rows.{is_tag}
use Rattle.owl_tree.specs.Tags.{number_of}
use Rattle.owl_tree.specs.Trees.{Tree, leaf, node, no_kids, kid, atom_in, kids_in, list_of, tag_of}
use Rattle.rdf_meaning.specs.declared.row.Row as held
use Rattle.rdf_meaning.specs.Rows.{Row, axiom_rows, row_seen}
use Rattle.rdf_mapping.specs.Arenas.{kids_at, tags_at}
use Rattle.rdf_mapping.specs.Drawing.{Kid, by_kids, form_of, kid_of, node_form, row_for, stated_by, statement_of, tags_of}
use Rattle.rdf_mapping.proofs.NodeDrawingLaws.{seen_each}

-- a slice, by its first items and the others
pub first_and : {X : Type 0} (xs : List X) (x : X) → 1 ≤ length xs → x ≡ get_or xs 0 x → xs ≡ x ∷ take (length xs - 1) (drop 1 xs)
first_and {X} [] x h e = absurd (omega arith)
first_and {X} (y ∷ ys) x h e =
    let n : suc (length ys) - 1 ≡ length ys = omega arith in
    ap (λ (z : X). z ∷ ys) (sym e) ∙ ap (λ (zs : List X). x ∷ zs) (sym (ap (λ (k : ℕ). take k ys) n ∙ take-length ys))

pub none_left : {X : Type 0} (xs : List X) → length xs < 1 → xs ≡ []
none_left {X} [] h = refl
none_left {X} (x ∷ xs) h = absurd (omega arith)

-- all of these numbers are below it
abbrev pub above_all : List ℕ → ℕ
above_all [] = 0
above_all (i ∷ is) = max (suc i) (above_all is)

pub above_kids : (ids : List ℕ) (id : ℕ) → AllByRecursion (λ k. k < id) ids → above_all ids ≤ id
above_kids [] id h = omega arith
above_kids (i ∷ ids) id h = let first = h.0 in let rest = above_kids ids id h.1 in grind (arith, first, rest)

pub above_first : (i : ℕ) (is : List ℕ) → i < above_all (i ∷ is)
above_first i is = grind arith

pub above_rest : (i : ℕ) (is : List ℕ) → above_all is ≤ above_all (i ∷ is)
above_rest i is = grind arith

form_by_kids : (t : Tree) (ks : List Kid) → atom_in t ≡ None → map kid_of (kids_in t) ≡ ks → form_of t ≡ node_form (tag_of t) ks
form_by_kids (leaf t a) ks e h = cc
form_by_kids (node t us) ks e h = ap (node_form t) (seen_each us ∙ h)

pub kids_are_at : (trees : List Tree) (id : ℕ) (ids : List ℕ) → trees_at trees ids ≡ kids_in (tree_at trees id) → map kid_of (kids_in (tree_at trees id)) ≡ kids_at trees ids
kids_are_at trees id ids e = ap (map kid_of) (sym e) ∙ map-map kid_of (tree_at trees) ids

-- the form of a tree that is no leaf, by the numbers of its kids
pub form_at : (trees : List Tree) (id : ℕ) (ids : List ℕ) → atom_in (tree_at trees id) ≡ None → trees_at trees ids ≡ kids_in (tree_at trees id) → form_of (tree_at trees id) ≡ node_form (tag_of (tree_at trees id)) (kids_at trees ids)
form_at trees id ids h e = form_by_kids (tree_at trees id) (kids_at trees ids) h (kids_are_at trees id ids e)

tag_seen : (t : Tree) → (kid_of t).tag ≡ tag_of t
tag_seen (leaf t a) = refl
tag_seen (node t ks) = refl

pub tags_seen : (trees : List Tree) (ids : List ℕ) → tags_of (kids_at trees ids) ≡ tags_at trees ids
tags_seen trees [] = refl
tags_seen trees (id ∷ ids) = let e = tag_seen (tree_at trees id) in let f = tags_seen trees ids in cc

-- a tag is asked for with the sides turned
same_turned : (m n : ℕ) → nat_eq m n ≡ nat_eq n m
same_turned m n = grind arith

pub tag_told : (t : Tag) (b c : Bool) → b ≡ nat_eq (number_of t) (number_of tag.FacetPair) → b ≡ c → is_tag tag.FacetPair t ≡ c
tag_told t b c e h = same_turned (number_of tag.FacetPair) (number_of t) ∙ sym e ∙ h

-- the row that was found, over the tags of kids
pub found_row : (trees : List Tree) (t : Tag) (ids : List ℕ) (found : Option held.Row) (rows : List held.Row) (seen : List Row) → map row_seen rows ≡ seen → option_map row_seen found ≡ row_for (map row_seen rows) t (tags_at trees ids) → row_for seen t (tags_of (kids_at trees ids)) ≡ option_map row_seen found
found_row trees t ids found rows seen r e =
    ap (λ (ts : List Tag). row_for seen t ts) (tags_seen trees ids) ∙ ap (λ (rs : List Row). row_for rs t (tags_at trees ids)) (sym r) ∙ sym e

statement_by_kids : (t n : Tree) (ts : List Tree) → n ∷ ts ≡ kids_in t → statement_of t ≡ by_kids (tag_of t) (map kid_of ts)
statement_by_kids (leaf g a) n ts e = cc
statement_by_kids (node g no_kids) n ts e = cc
statement_by_kids (node g (kid m ms)) n ts e = let rest : list_of ms ≡ ts = cc in ap (by_kids g) (seen_each ms ∙ ap (map kid_of) rest)

pub statement_at : (trees : List Tree) (id n : ℕ) (ids others : List ℕ) (t : Tag) → ids ≡ n ∷ others → trees_at trees ids ≡ kids_in (tree_at trees id) → t ≡ tag_of (tree_at trees id) → statement_of (tree_at trees id) ≡ by_kids t (kids_at trees others)
statement_at trees id n ids others t e f g =
    statement_by_kids (tree_at trees id) (tree_at trees n) (trees_at trees others) (sym (ap (trees_at trees) e) ∙ f)
    ∙ ap (by_kids (tag_of (tree_at trees id))) (map-map kid_of (tree_at trees) others) ∙ ap (λ (u : Tag). by_kids u (kids_at trees others)) (sym g)

pub rows_seen : (trees : List Tree) (t : Tag) (ids : List ℕ) → stated_by (row_for axiom_rows t (tags_of (kids_at trees ids))) (kids_at trees ids) ≡ stated_by (row_for axiom_rows t (tags_at trees ids)) (kids_at trees ids)
rows_seen trees t ids = ap (λ (ts : List Tag). stated_by (row_for axiom_rows t ts) (kids_at trees ids)) (tags_seen trees ids)

pub more_kids_by_row : (trees : List Tree) (t : Tag) (ids : List ℕ) → 2 ≤ length ids → by_kids t (kids_at trees ids) ≡ stated_by (row_for axiom_rows t (tags_at trees ids)) (kids_at trees ids)
more_kids_by_row trees t [] h = absurd (omega (arith, h))
more_kids_by_row trees t (i ∷ []) h = absurd (omega (arith, h))
more_kids_by_row trees t (i ∷ j ∷ ids) h = rows_seen trees t (i ∷ j ∷ ids)
