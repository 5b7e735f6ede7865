-- Texts of pieces in front of more.
use Rattle.std.proofs.Common.{◌≡◌, ℕ, suc, Bool, true, false, List, [], ◌∷◌, ◌++◌, Option, None, Some, codes, refl, sym, ap, ◌∙◌}
use Rattle.std.specs.Prelude.{map, if◌then◌else◌}
use Rattle.std.specs.Option.{option_map, option_to_list}
use Rattle.std.proofs.lemmas.List.{append-nil, append_assoc, map-append}
use Rattle.std.proofs.lemmas.Simd.{map-map}
use Rattle.man_raw.specs.declared.form.Facet.{Facet}
use Rattle.man_raw.specs.declared.form.Form.{Form}
use Rattle.man_raw.specs.declared.form.Form.TheVariants as form
use Rattle.man_raw.specs.declared.form.What.TheVariants as what
use Rattle.man_raw.specs.Raws.{RawTree, RawTrees, raw, none, more, trees_of}
use Rattle.man_text.specs.Text.{text, behind, leaf_text, words_in}
use Rattle.man_sayable.specs.Facets.{facet_named}
use Rattle.man_text.specs.Undecided.{facet_what, form_of, in_order, is_bracketed, is_counted, leaf_what, operand, operands, piece, turned}
use Rattle.man_text.specs.Words.{Words, words_of}
use Rattle.owl_arena.specs.Held.{tree_at, trees_at}
use Rattle.owl_atom.specs.declared.prefixes.Prefix.{Prefix}
use Rattle.owl_tree.specs.declared.atom.Atom.{Atom}
use Rattle.owl_tree.specs.declared.atom.Atom.TheVariants as atom
use Rattle.owl_tree.specs.declared.tag.Tag.{Tag}
use Rattle.owl_tree.specs.declared.tag.Tag.TheVariants as tag
use Rattle.owl_tree.specs.Rows.{row_of}
use Rattle.owl_tree.specs.Trees.{Tree, Kids, leaf, node, no_kids, kid, atom_in, kids_in, kids_of, list_of, tag_of}
use Rattle.written_trees.specs.Written.{doubled, repeated, written_form, written_forms}
use Rattle.written_trees.proofs.RepeatedLaws.{doubled_is, kids_written, none_repeated, repeated_map}
use Rattle.man_write.specs.Parts.{form_text, forms_at, is_operand_bracketed, joined_from, kids_at, operand_at, operand_text, operands_at, said, turned_if}

module _ (p : List Prefix) where
  -- a text in front of more is itself, and then more
  mutual
    pub text_more : (t : RawTree) (xs rest : List ℕ) → text p t (xs ++ rest) ≡ text p t xs ++ rest
    text_more (raw at w none) xs rest = sym (append_assoc (leaf_text p w) xs rest)
    text_more (raw at w (more t ts)) xs rest =
        let first = (words_in w).first in
        let others = (words_in w).others in
        let last = (words_in w).last in
        let inner = ap (behind p first others ts) (sym (append_assoc last xs rest)) ∙ behind_more first others ts (last ++ xs) rest in
        ap (λ (x : List ℕ). (words_in w).front ++ text p t x) inner
        ∙ ap (λ (x : List ℕ). (words_in w).front ++ x) (text_more t (behind p first others ts (last ++ xs)) rest)
        ∙ sym (append_assoc ((words_in w).front) (text p t (behind p first others ts (last ++ xs))) rest)

    pub behind_more : (first others : List ℕ) (ts : RawTrees) (xs rest : List ℕ) → behind p first others ts (xs ++ rest) ≡ behind p first others ts xs ++ rest
    behind_more first others none xs rest = refl
    behind_more first others (more t ts) xs rest =
        ap (λ (x : List ℕ). first ++ text p t x) (behind_more others others ts xs rest)
        ∙ ap (λ (x : List ℕ). first ++ x) (text_more t (behind p others others ts xs) rest)
        ∙ sym (append_assoc first (text p t (behind p others others ts xs)) rest)

  pub text_goes : (t : RawTree) (rest : List ℕ) → text p t rest ≡ text p t [] ++ rest
  text_goes t rest = text_more t [] rest

  abbrev pub alone : RawTree → List ℕ
  alone t = text p t []

  -- parts behind a part
  one_more : (front : List ℕ) (t : RawTree) (joined rest : List ℕ) → front ++ text p t (joined ++ rest) ≡ ((front ++ alone t) ++ joined) ++ rest
  one_more front t joined rest =
      ap (λ (x : List ℕ). front ++ x) (text_goes t (joined ++ rest))
      ∙ sym (append_assoc front (alone t) (joined ++ rest))
      ∙ sym (append_assoc (front ++ alone t) joined rest)

  others_joined : (w : Words) (n : ℕ) (ts : List RawTree) (rest : List ℕ) → behind p w.others w.others (trees_of ts) rest ≡ joined_from w (suc (suc n)) (map alone ts) ++ rest
  others_joined w n [] rest = refl
  others_joined w n (t ∷ ts) rest =
      ap (λ (x : List ℕ). w.others ++ text p t x) (others_joined w (suc n) ts rest)
      ∙ one_more w.others t (joined_from w (suc (suc (suc n))) (map alone ts)) rest

  pub behind_joined : (w : Words) (ts : List RawTree) (rest : List ℕ) → behind p w.first w.others (trees_of ts) rest ≡ joined_from w 1 (map alone ts) ++ rest
  behind_joined w [] rest = refl
  behind_joined w (t ∷ ts) rest =
      ap (λ (x : List ℕ). w.first ++ text p t x) (others_joined w 0 ts rest)
      ∙ one_more w.first t (joined_from w 2 (map alone ts)) rest

  pub all_joined : (w : Words) (t : RawTree) (ts : List RawTree) (rest : List ℕ) → text p t (behind p w.first w.others (trees_of ts) rest) ≡ joined_from w 0 (map alone (t ∷ ts)) ++ rest
  all_joined w t ts rest =
      ap (text p t) (behind_joined w ts rest)
      ∙ one_more [] t (joined_from w 1 (map alone ts)) rest

  pub form_said : (f : Form) (ts : List RawTree) → text p (piece (what.Form f) ts) [] ≡ form_text (words_of f) (map alone ts)
  form_said f [] = refl
  form_said f (t ∷ ts) =
      ap (λ (x : List ℕ). (words_of f).front ++ x) (all_joined (words_of f) t ts ((words_of f).last ++ []) ∙ ap (λ (x : List ℕ). joined_from (words_of f) 0 (map alone (t ∷ ts)) ++ x) (append-nil ((words_of f).last)))

  -- operands
  operands_list : (ks : Kids) → map alone (operands ks) ≡ map (operand_text p) (list_of ks)
  operands_list no_kids = refl
  operands_list (kid t ks) = ap (λ (x : List (List ℕ)). operand_text p t ∷ x) (operands_list ks)

map_turned : {X Y : Type 0} (f : X → Y) (xs : List X) → map f (turned xs) ≡ turned (map f xs)
map_turned f [] = refl
map_turned f (x ∷ []) = refl
map_turned f (x ∷ y ∷ xs) = refl

map_turned_if : {X Y : Type 0} (f : X → Y) (b : Bool) (xs : List X) → map f (if b then turned xs else xs) ≡ (if b then turned (map f xs) else map f xs)
map_turned_if f true xs = map_turned f xs
map_turned_if f false xs = refl

pub map_in_order : {X Y : Type 0} (f : X → Y) (o : Form) (xs : List X) → map f (in_order o xs) ≡ in_order o (map f xs)
map_in_order f o xs = map_turned_if f (is_counted o) xs

pub operands_alone : (p : List Prefix) (f : Form) (ks : Kids) → map (alone p) (in_order f (operands ks)) ≡ map (operand_text p) (in_order f (list_of ks))
operands_alone p f ks = map_in_order (alone p) f (operands ks) ∙ ap (in_order f) (operands_list p ks) ∙ sym (map_in_order (operand_text p) f (list_of ks))

undecided_said : (p : List Prefix) (t : Tag) (ks : Kids) → said p (node t ks) ≡ form_text (words_of (form_of t)) (map (operand_text p) (in_order (form_of t) (list_of ks)))
undecided_said p t ks =
    let f = form_of t in
    form_said p f (in_order f (operands ks))
    ∙ ap (form_text (words_of f)) (operands_alone p f ks)

-- the text of a node, as it is written
pub node_said : (p : List Prefix) (t : Tree) → atom_in t ≡ None
    → said p (written_form t) ≡ form_text (words_of (form_of (tag_of t))) (map (operand_text p) (in_order (form_of (tag_of t)) (kids_in (written_form t))))
node_said p (leaf u a) e = absurd (cc)
node_said p (node u ks) e = undecided_said p u (kids_of (doubled (row_of u) (written_forms ks)))

-- the kids as they are written
map_option : {X Y : Type 0} (f : X → Y) (o : Option X) → option_to_list (option_map f o) ≡ map f (option_to_list o)
map_option f None = refl
map_option f (Some x) = refl

empty_numbers : (trees : List Tree) (ids : List ℕ) → trees_at trees ids ≡ [] → ids ≡ []
empty_numbers trees [] e = refl
empty_numbers trees (id ∷ ids) e = absurd (cc)

pub kids_written_at : (trees : List Tree) (t : Tree) (ids : List ℕ) → trees_at trees ids ≡ kids_in t → forms_at trees (ids ++ option_to_list (repeated (row_of (tag_of t)) ids)) ≡ kids_in (written_form t)
kids_written_at trees (leaf u a) ids e =
    let none = empty_numbers trees ids e in
    ap (λ (xs : List ℕ). forms_at trees (xs ++ option_to_list (repeated (row_of u) xs))) none ∙ ap (λ (o : Option ℕ). forms_at trees (option_to_list o)) (none_repeated (row_of u))
kids_written_at trees (node u ks) ids e =
    let form : ℕ → Tree = λ id. written_form (tree_at trees id) in
    let forms : map written_form (list_of ks) ≡ map form ids = ap (map written_form) (sym e) ∙ map-map written_form (tree_at trees) ids in
    let written : kids_in (written_form (node u ks)) ≡ map form ids ++ option_to_list (option_map form (repeated (row_of u) ids)) =
    kids_written u ks ∙ ap (doubled (row_of u)) forms ∙ doubled_is (row_of u) (map form ids) ∙ ap (λ (o : Option Tree). map form ids ++ option_to_list o) (repeated_map form (row_of u) ids) in
    map-append form ids (option_to_list (repeated (row_of u) ids)) ∙ ap (λ (z : List Tree). map form ids ++ z) (sym (map_option form (repeated (row_of u) ids))) ∙ sym written

-- the operands of a node by the numbers of its kids
pub operands_are : (p : List Prefix) (trees : List Tree) (id : ℕ) (b : Bool) (ids : List ℕ) → b ≡ is_counted (form_of (tag_of (tree_at trees id))) → forms_at trees ids ≡ kids_at trees id
    → map (operand_at p trees) (turned_if b ids) ≡ operands_at p trees id
operands_are p trees id b ids e k =
    let form : ℕ → Tree = λ kid. written_form (tree_at trees kid) in
    sym (map-map (operand_text p) form (turned_if b ids))
    ∙ ap (map (operand_text p)) (map_turned_if form b ids ∙ ap (turned_if b) k ∙ ap (λ (c : Bool). turned_if c (kids_at trees id)) e)

-- operands in brackets and without
with_brackets : (p : List Prefix) (f : Form) (ts : RawTrees) (b : Bool) → b ≡ true
    → text p (if b then piece (what.Form form.Bracket) (raw 0 (what.Form f) ts ∷ []) else raw 0 (what.Form f) ts) [] ≡ codes "(" ++ (text p (raw 0 (what.Form f) ts) [] ++ codes ")")
unfolding words_of
with_brackets p f ts true e = ap (λ (x : List ℕ). codes "(" ++ x) (text_goes p (raw 0 (what.Form f) ts) (codes ")"))
with_brackets p f ts false e = absurd (cc)

without_brackets : (p : List Prefix) (f : Form) (ts : RawTrees) (b : Bool) → b ≡ false
    → text p (if b then piece (what.Form form.Bracket) (raw 0 (what.Form f) ts ∷ []) else raw 0 (what.Form f) ts) [] ≡ text p (raw 0 (what.Form f) ts) []
without_brackets p f ts true e = absurd (cc)
without_brackets p f ts false e = refl

facet_plain : (iri : List ℕ) (o : Option Facet) → operand (piece (facet_what iri o) []) ≡ piece (facet_what iri o) []
facet_plain iri None = refl
facet_plain iri (Some f) = refl

leaf_plain : (t : Tag) (a : Atom) → operand (piece (leaf_what t a) []) ≡ piece (leaf_what t a) []
unfolding leaf_what
leaf_plain tag.Facet (atom.Iri iri) = facet_plain iri (facet_named iri)
leaf_plain tag.Facet (atom.Label label) = refl
leaf_plain tag.Facet (atom.Literal literal) = refl
leaf_plain tag.Facet (atom.Number number) = refl
leaf_plain t a = refl

pub operand_bracketed : (p : List Prefix) (t : Tree) → is_operand_bracketed t ≡ true → operand_text p (written_form t) ≡ codes "(" ++ (said p (written_form t) ++ codes ")")
operand_bracketed p (leaf u a) e = absurd (cc)
operand_bracketed p (node u ks) e = with_brackets p (form_of u) _ (is_bracketed (form_of u)) e

pub operand_plain : (p : List Prefix) (t : Tree) → is_operand_bracketed t ≡ false → operand_text p (written_form t) ≡ said p (written_form t)
operand_plain p (leaf u a) e = ap (λ (x : RawTree). text p x []) (leaf_plain u a)
operand_plain p (node u ks) e = without_brackets p (form_of u) _ (is_bracketed (form_of u)) e
