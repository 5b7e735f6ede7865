-- Parts that are added one behind another.
use Rattle.std.proofs.Common.{◌≡◌, ◌≢◌, ◌-◌, ℕ, zero, suc, ◌+◌, ◌<◌, ◌≤◌, Bool, true, false, List, [], ◌∷◌, ◌++◌, length, take, drop, get_or, Option, None, Some, Result, Ok, Err, IfOk, OnOk, refl, sym, ap, ◌∙◌, subst, arith, codes}
use Rattle.std.specs.Prelude.{map, nat_le, if◌then◌else◌}
use Rattle.std.specs.List.{AllByRecursion, flat_map}
use Rattle.std.specs.Option.{option_map, option_to_list}
use Rattle.std.proofs.lemmas.Grind.{flat_map-append}
use Rattle.std.proofs.lemmas.List.{append-nil, append_assoc, take_all}
use Rattle.owl_atom.specs.declared.prefixes.Prefix.{Prefix}
use Rattle.owl_arena.specs.Held.{tree_at, trees_at}
use Rattle.owl_tree.specs.declared.atom.Atom.{Atom}
use Rattle.owl_tree.specs.declared.tag.Tag.{Tag}
use Rattle.owl_tree.specs.declared.row.Rest.TheVariants.{Nothing, Optional, AtLeast, SomeThen, Set}
use Rattle.owl_tree.specs.Rows.{Row, Leaf, Node, row_of}
use Rattle.owl_tree.specs.Trees.{Tree, Kids, leaf, node, no_kids, kid, atom_in, kids_in, kids_of, list_of, tag_of}
use Rattle.owl_tree.proofs.TreeLaws.{list_of_kids_of}
use Rattle.owl_writing.specs.Limits.{IsTooLong}
use Rattle.fss_write.specs.Parts.{behind, has_parts, kids_parts, kids_parts_at, parts_at, spaced, spacing}
use Rattle.written_trees.proofs.RepeatedLaws.{doubled_is, forms_map, kids_written, none_repeated, repeated_map}
use Rattle.written_trees.specs.Written.{only_behind, repeated}
use Rattle.fss_write.specs.Text.{joined, leaf_text, node_parts, parts, parts_of}
use Rattle.written_trees.specs.Written.{doubled, doubled_behind, written_form, written_forms}
use Rattle.owl_writing.proofs.DraftLaws.{flat_of_map, joined2, longer_by}

-- parts behind parts
behind_first : (x : List ℕ) (ys : List (List ℕ)) → joined (x ∷ ys) ≡ x ++ flat_map spaced ys
behind_first x [] = sym (append-nil x)
behind_first x (y ∷ ys) = ap (λ (z : List ℕ). x ++ (codes " " ++ z)) (behind_first y ys)

pub behind_append : (some : Bool) (xs ys : List (List ℕ)) → behind some (xs ++ ys) ≡ behind some xs ++ behind (has_parts some xs) ys
behind_append true [] ys = refl
behind_append false [] ys = refl
behind_append true (x ∷ xs) ys = flat_map-append spaced (x ∷ xs) ys
behind_append false (x ∷ xs) ys =
    behind_first x (xs ++ ys)
    ∙ ap (λ (z : List ℕ). x ++ z) (flat_map-append spaced xs ys)
    ∙ sym (append_assoc x (flat_map spaced xs) (flat_map spaced ys))
    ∙ ap (λ (z : List ℕ). z ++ flat_map spaced ys) (sym (behind_first x xs))

pub has_append : (some : Bool) (xs ys : List (List ℕ)) → has_parts some (xs ++ ys) ≡ has_parts (has_parts some xs) ys
has_append some [] ys = refl
has_append some (x ∷ xs) [] = refl
has_append some (x ∷ xs) (y ∷ ys) = refl

-- the parts of these were added, and whether some part stands there now
pub record AreAdded (pieces : ℕ → List (List ℕ)) (start : List ℕ) (before : Bool) (ids : List ℕ) (now : List ℕ) (after : Bool) : Type 0 where
  pub text : now ≡ start ++ behind before (flat_map pieces ids)
  pub some : after ≡ has_parts before (flat_map pieces ids)

module _ (pieces : ℕ → List (List ℕ)) (start : List ℕ) (before : Bool) where
  pub added_none : AreAdded pieces start before [] start before
  added_none = record { text = sym (append-nil start) ∙ none before; some = refl } where
    none : (some : Bool) → start ++ [] ≡ start ++ behind some []
    none true = refl
    none false = refl

  grown : (ids : List ℕ) (id : ℕ) → flat_map pieces (ids ++ id ∷ []) ≡ flat_map pieces ids ++ pieces id
  grown ids id = flat_map-append pieces ids (id ∷ []) ∙ ap (λ (z : List (List ℕ)). flat_map pieces ids ++ z) (append-nil (pieces id))

  grown_text : (ids : List ℕ) (id : ℕ) → behind before (flat_map pieces (ids ++ id ∷ [])) ≡ behind before (flat_map pieces ids) ++ behind (has_parts before (flat_map pieces ids)) (pieces id)
  grown_text ids id = ap (behind before) (grown ids id) ∙ behind_append before (flat_map pieces ids) (pieces id)

  pub added_one : (ids : List ℕ) (now : List ℕ) (after : Bool) (id : ℕ) (later : List ℕ) (some : Bool) → AreAdded pieces start before ids now after → later ≡ now ++ behind after (pieces id) → some ≡ has_parts after (pieces id) → AreAdded pieces start before (ids ++ id ∷ []) later some
  added_one ids now after id later some h text is = record {
    text =
        joined2 start (behind before (flat_map pieces ids)) (behind (has_parts before (flat_map pieces ids)) (pieces id)) now later h.text (text ∙ ap (λ (b : Bool). now ++ behind b (pieces id)) h.some)
        ∙ ap (λ (z : List ℕ). start ++ z) (sym (grown_text ids id));
    some =
        is
        ∙ ap (λ (b : Bool). has_parts b (pieces id)) h.some
        ∙ sym (has_append before (flat_map pieces ids) (pieces id))
        ∙ ap (has_parts before) (sym (grown ids id));
  }

  pub added_too_long : (ids : List ℕ) (now : List ℕ) (after : Bool) (id : ℕ) (rest : List ℕ) → AreAdded pieces start before ids now after → IsTooLong (now ++ behind after (pieces id)) → IsTooLong (start ++ behind before (flat_map pieces ((ids ++ id ∷ []) ++ rest)))
  added_too_long ids now after id rest h long =
      let next = added_one ids now after id _ _ h refl refl in
      let here = subst IsTooLong next.text long in
      let whole = ap (behind before) (flat_map-append pieces (ids ++ id ∷ []) rest) ∙ behind_append before (flat_map pieces (ids ++ id ∷ [])) (flat_map pieces rest) in
      subst (λ (z : List ℕ). IsTooLong (start ++ z)) (sym whole) (longer_by start (behind before (flat_map pieces (ids ++ id ∷ []))) (behind (has_parts before (flat_map pieces (ids ++ id ∷ []))) (flat_map pieces rest)) here)

  pub added_all : (ids : List ℕ) (i : ℕ) (now : List ℕ) (after : Bool) → AreAdded pieces start before (take i ids) now after → length ids ≤ i → AreAdded pieces start before ids now after
  added_all ids i now after h l = subst (λ (xs : List ℕ). AreAdded pieces start before xs now after) (take_all i ids l) h

  pub last_some : {E : Type 0} (r : Result Bool E) (ids : List ℕ) (now : List ℕ) (after : Bool) (id : ℕ) → AreAdded pieces start before ids now after → IfOk r (λ some. some ≡ has_parts after (pieces id)) → IfOk r (λ some. some ≡ has_parts before (flat_map pieces (ids ++ id ∷ [])))
  last_some (Ok some) ids now after id h is = (added_one ids now after id _ some h refl is).some
  last_some (Err e) ids now after id h is = is

  pub last_text : {E : Type 0} (r : Result Bool E) (ids : List ℕ) (now : List ℕ) (after : Bool) (id : ℕ) (later : List ℕ) → AreAdded pieces start before ids now after → OnOk r (later ≡ now ++ behind after (pieces id)) → OnOk r (later ≡ start ++ behind before (flat_map pieces (ids ++ id ∷ [])))
  last_text (Ok some) ids now after id later h is = (added_one ids now after id later _ h is refl).text
  last_text (Err e) ids now after id later h is = is

  pub last_too_long : (ids : List ℕ) (now : List ℕ) (after : Bool) (id : ℕ) → AreAdded pieces start before ids now after → IsTooLong (now ++ behind after (pieces id)) → IsTooLong (start ++ behind before (flat_map pieces (ids ++ id ∷ [])))
  last_too_long ids now after id h long =
      subst (λ (xs : List ℕ). IsTooLong (start ++ behind before (flat_map pieces xs))) (append-nil (ids ++ id ∷ [])) (added_too_long ids now after id [] h long)

-- one part behind some or none
pub one_behind : (some : Bool) (part : List ℕ) → behind some (part ∷ []) ≡ spacing some ++ part
one_behind true part = append-nil (spaced part)
one_behind false part = refl

map_both : {X Y Z : Type 0} (f : X → Y) (g : Y → Z) (xs : List X) → map g (map f xs) ≡ map (λ (x : X). g (f x)) xs
map_both f g [] = refl
map_both f g (x ∷ xs) = ap (λ (zs : List _). g (f x) ∷ zs) (map_both f g xs)

flat_of_option : {X Y : Type 0} (f : X → Y) (g : Y → List (List ℕ)) (o : Option X) → flat_map g (option_to_list (option_map f o)) ≡ flat_map (λ (x : X). g (f x)) (option_to_list o)
flat_of_option f g None = refl
flat_of_option f g (Some x) = refl

-- the parts of the kids of a node are those of their numbers, and of the one that stands twice
node_kids : (prefixes : List Prefix) (trees : List Tree) (t : Tag) (ks : Kids) (ids : List ℕ) → trees_at trees ids ≡ list_of ks → kids_parts prefixes (node t ks) ≡ flat_map (parts_at prefixes trees t) (ids ++ option_to_list (repeated (row_of t) ids))
node_kids prefixes trees t ks ids e =
    let form : ℕ → Tree = λ id. written_form (tree_at trees id) in
    let forms : map written_form (list_of ks) ≡ map form ids = ap (map written_form) (sym e) ∙ map_both (tree_at trees) written_form ids in
    let written : kids_in (written_form (node t ks)) ≡ map form ids ++ option_to_list (option_map form (repeated (row_of t) ids)) =
    kids_written t ks ∙ ap (doubled (row_of t)) forms ∙ doubled_is (row_of t) (map form ids) ∙ ap (λ (o : Option Tree). map form ids ++ option_to_list o) (repeated_map form (row_of t) ids) in
    ap (flat_map (parts prefixes t)) written
    ∙ flat_map-append (parts prefixes t) (map form ids) (option_to_list (option_map form (repeated (row_of t) ids)))
    ∙ ap (λ (z : List (List ℕ)). z ++ flat_map (parts prefixes t) (option_to_list (option_map form (repeated (row_of t) ids)))) (flat_of_map form (parts prefixes t) ids)
    ∙ ap (λ (z : List (List ℕ)). flat_map (parts_at prefixes trees t) ids ++ z) (flat_of_option form (parts prefixes t) (repeated (row_of t) ids))
    ∙ sym (flat_map-append (parts_at prefixes trees t) ids (option_to_list (repeated (row_of t) ids)))

parts_list : (prefixes : List Prefix) (t : Tag) (ks : Kids) → parts_of prefixes t ks ≡ flat_map (parts prefixes t) (list_of ks)
parts_list prefixes t no_kids = refl
parts_list prefixes t (kid k ks) = ap (λ (z : List (List ℕ)). parts prefixes t k ++ z) (parts_list prefixes t ks)

-- the parts of a tree by its root
pub leaf_parts : (prefixes : List Prefix) (within : Tag) (t : Tree) (a : Atom) → atom_in t ≡ Some a → parts prefixes within (written_form t) ≡ leaf_text prefixes within (tag_of t) a ∷ []
leaf_parts prefixes within (leaf u b) a e = let same : b ≡ a = cc in ap (λ (x : Atom). leaf_text prefixes within u x ∷ []) same
leaf_parts prefixes within (node u ks) a e = absurd (cc)

pub other_parts : (prefixes : List Prefix) (within : Tag) (t : Tree) → atom_in t ≡ None → parts prefixes within (written_form t) ≡ node_parts (tag_of t) (kids_parts prefixes t)
other_parts prefixes within (leaf u b) e = absurd (cc)
other_parts prefixes within (node u ks) e = ap (node_parts u) (parts_list prefixes u (kids_of (doubled (row_of u) (written_forms ks))))

empty_numbers : (trees : List Tree) (ids : List ℕ) → trees_at trees ids ≡ [] → ids ≡ []
empty_numbers trees [] e = refl
empty_numbers trees (id ∷ ids) e = absurd (cc)

tree_kids : (prefixes : List Prefix) (trees : List Tree) (t : Tree) (ids : List ℕ) → trees_at trees ids ≡ kids_in t → kids_parts prefixes t ≡ flat_map (parts_at prefixes trees (tag_of t)) (ids ++ option_to_list (repeated (row_of (tag_of t)) ids))
tree_kids prefixes trees (leaf t a) ids e =
    let none = empty_numbers trees ids e in
    sym (ap (λ (xs : List ℕ). flat_map (parts_at prefixes trees t) (xs ++ option_to_list (repeated (row_of t) xs))) none ∙ ap (λ (o : Option ℕ). flat_map (parts_at prefixes trees t) (option_to_list o)) (none_repeated (row_of t)))
tree_kids prefixes trees (node t ks) ids e = node_kids prefixes trees t ks ids e

pub kids_at : (prefixes : List Prefix) (trees : List Tree) (id : ℕ) (t : Tag) (ids : List ℕ) → t ≡ tag_of (tree_at trees id) → trees_at trees ids ≡ kids_in (tree_at trees id) → kids_parts_at prefixes trees id ≡ flat_map (parts_at prefixes trees t) (ids ++ option_to_list (repeated (row_of t) ids))
kids_at prefixes trees id t ids e f =
    tree_kids prefixes trees (tree_at trees id) ids f ∙ ap (λ (u : Tag). flat_map (parts_at prefixes trees u) (ids ++ option_to_list (repeated (row_of u) ids))) (sym e)

-- the kids around a place
pub around : (ids : List ℕ) (i : ℕ) (id : ℕ) (rest : List ℕ) → i < length ids → id ≡ get_or ids i id → (take i ids ++ id ∷ []) ++ (drop (suc i) ids ++ rest) ≡ ids ++ rest
around [] i id rest l e = absurd (omega arith)
around (x ∷ xs) zero id rest l e = ap (λ (y : ℕ). y ∷ (xs ++ rest)) e
around (x ∷ xs) (suc i) id rest l e = ap (λ (ys : List ℕ). x ∷ ys) (around xs i id rest (omega arith) e)
