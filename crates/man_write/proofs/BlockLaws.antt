-- Texts of blocks.
use Rattle.std.proofs.Common.{◌≡◌, ℕ, true, false, codes, List, [], ◌∷◌, ◌++◌, map, Option, None, Some, ◌<◌, length, arith, refl, sym, ap, ◌∙◌}
use Rattle.std.proofs.lemmas.List.{append-nil, append_assoc}
use Rattle.std.proofs.lemmas.Simd.{map-map}
use Rattle.man_grammar.specs.ClassNumbers.{word_of}
use Rattle.man_raw.specs.declared.form.Characteristic.{Characteristic}
use Rattle.man_raw.specs.declared.form.Form.{Form}
use Rattle.man_raw.specs.declared.form.Form.TheVariants as form
use Rattle.man_raw.specs.declared.form.What.{What}
use Rattle.man_raw.specs.declared.form.What.TheVariants as what
use Rattle.man_raw.specs.declared.heading.Section.{Section}
use Rattle.man_raw.specs.Raws.{RawTree, raw, none, more}
use Rattle.std.specs.Option.{option_map}
use Rattle.man_raw.specs.declared.document.RawPart.{RawPart}
use Rattle.man_raw.specs.Documents.{ItemTree}
use Rattle.man_text.specs.Text.{text, behind, body_text, item_text, name_text, part_text, parts_text, section_front}
use Rattle.man_text.specs.Undecided.{form_of, in_order, leaf_what, piece, undecided}
use Rattle.man_text.specs.Words.{Words, between, characteristic_class, colon, heading_class, list_gap, words_of}
use Rattle.man_text.specs.Blocks.{kind_tag, listed, pair, subject_as}
use Rattle.owl_kind.specs.declared.kind.Kind.{Kind}
use Rattle.owl_kind.specs.declared.kind.Kind.TheVariants as kind
use Rattle.owl_writing.specs.Terms.{iri_text}
use Rattle.man_write.specs.declared.plan.Body as held
use Rattle.man_write.specs.declared.plan.Plan as plan
use Rattle.owl_arena.specs.Held.{tree_at}
use Rattle.owl_atom.specs.declared.prefixes.Prefix.{Prefix}
use Rattle.owl_tree.specs.Rows.{row_of}
use Rattle.owl_tree.specs.Trees.{Tree, leaf, node, kids_in, kids_of, tag_of}
use Rattle.written_trees.specs.Written.{doubled, written_form, written_forms}
use Rattle.man_write.specs.declared.listed.Members as members
use Rattle.man_write.specs.Parts.{form_text, forms_at, joined_from, operand_text, operands_at, said, said_at}
use Rattle.man_write.specs.Plans.{annotations_text, block_text, body_alone, body_seen, body_words, element_text, form_at, is_list_form, is_list_node, members_in, notes_text, pair_text, part_seen, parts_seen, plan_seen, plan_text, subject_seen}
use Rattle.man_write.proofs.PieceLaws.{all_joined, alone, behind_more, form_said, operands_alone, text_goes, text_more}

-- a form in a section
list_said : (p : List Prefix) (s : Section) (ts : List RawTree) → body_alone p s (piece (what.Form form.List) ts) ≡ joined_from (body_words s form.List) 0 (map (alone p) ts)
list_said p s [] = refl
list_said p s (t ∷ ts) = all_joined p (between (list_gap s)) t ts [] ∙ append-nil (joined_from (between (list_gap s)) 0 (map (alone p) (t ∷ ts)))

pub list_body : (p : List Prefix) (trees : List Tree) (s : Section) (ids : List ℕ) → joined_from (body_words s form.List) 0 (map (said_at p trees) ids) ≡ body_alone p s (listed (forms_at trees ids))
list_body p trees s ids =
    let tree : ℕ → Tree = λ id. written_form (tree_at trees id) in
    sym (list_said p s (map undecided (forms_at trees ids)) ∙ ap (joined_from (body_words s form.List) 0) (map-map (alone p) undecided (forms_at trees ids) ∙ map-map (said p) tree ids))

-- two parts of a form
two_parts : (w : Words) (a b : List ℕ) → form_text w (a ∷ b ∷ []) ≡ w.front ++ (a ++ (w.first ++ (b ++ w.last)))
two_parts w a b =
    ap (λ (x : List ℕ). w.front ++ x)
    (append_assoc a ((w.first ++ b) ++ []) w.last ∙ ap (λ (x : List ℕ). a ++ x) (ap (λ (x : List ℕ). x ++ w.last) (append-nil (w.first ++ b)) ∙ append_assoc w.first b w.last))

form_body : (p : List Prefix) (s : Section) (f : Form) (t u : RawTree) → body_alone p s (piece (what.Form f) (t ∷ u ∷ [])) ≡ form_text (body_words s f) (alone p t ∷ alone p u ∷ [])
form_body p s form.List t u = list_said p s (t ∷ u ∷ []) ∙ sym (append-nil (joined_from (body_words s form.List) 0 (alone p t ∷ alone p u ∷ [])))
form_body p s f t u = form_said p f (t ∷ u ∷ [])

pub pair_body : (p : List Prefix) (trees : List Tree) (s : Section) (f : Form) (a b : ℕ) → pair_text p trees (body_words s f) a b ≡ body_alone p s (pair f (form_at trees a) (form_at trees b))
pair_body p trees s f a b = sym (form_body p s f (undecided (form_at trees a)) (undecided (form_at trees b)) ∙ two_parts (body_words s f) (said_at p trees a) (said_at p trees b))

pub word_body : (p : List Prefix) (s : Section) (w : Characteristic) → word_of (characteristic_class w) ≡ body_alone p s (piece (what.Word w) [])
word_body p s w = sym (append-nil (word_of (characteristic_class w)))

-- a tree as it stands in a section
other_form : (p : List Prefix) (s : Section) (f : Form) (ts : List RawTree) → is_list_form f ≡ false → text p (piece (what.Form f) ts) [] ≡ body_alone p s (piece (what.Form f) ts)
other_form p s form.List ts e = absurd (cc)
other_form p s f ts e = refl

list_form : (p : List Prefix) (s : Section) (f : Form) (ts : List RawTree) → is_list_form f ≡ true → body_alone p s (piece (what.Form f) ts) ≡ joined_from (body_words s form.List) 0 (map (alone p) ts)
list_form p s form.List ts e = list_said p s ts
list_form p s f ts e = absurd (cc)

pub whole_other : (p : List Prefix) (s : Section) (t : Tree) → is_list_node t ≡ false → said p (written_form t) ≡ body_alone p s (undecided (written_form t))
whole_other p s (leaf u a) e = leaf_body p s (leaf_what u a) where
  leaf_body : (p : List Prefix) (s : Section) (w : What) → text p (piece w []) [] ≡ body_alone p s (piece w [])
  leaf_body p s (what.Atom a) = refl
  leaf_body p s (what.Word a) = refl
  leaf_body p s (what.Facet a) = refl
  leaf_body p s (what.Form form.List) = refl
  leaf_body p s (what.Form f) = refl
whole_other p s (node u ks) e = other_form p s (form_of u) _ e

pub whole_list : (p : List Prefix) (s : Section) (trees : List Tree) (id : ℕ) → is_list_node (tree_at trees id) ≡ true → joined_from (body_words s form.List) 0 (operands_at p trees id) ≡ body_alone p s (undecided (form_at trees id))
whole_list p s trees id e = sym (of_tree (tree_at trees id) e) where
  of_tree : (t : Tree) → is_list_node t ≡ true → body_alone p s (undecided (written_form t)) ≡ joined_from (body_words s form.List) 0 (map (operand_text p) (in_order (form_of (tag_of t)) (kids_in (written_form t))))
  of_tree (leaf u a) e = absurd (cc)
  of_tree (node u ks) e = list_form p s (form_of u) _ e ∙ ap (joined_from (body_words s form.List) 0) (operands_alone p (form_of u) (kids_of (doubled (row_of u) (written_forms ks))))

-- a name in front of its section
subject_text : (p : List Prefix) (iri : List ℕ) (kind : Option Kind) → iri_text p iri ≡ text p (undecided (subject_as kind iri)) []
unfolding leaf_what kind_tag
subject_text p iri None = sym (append-nil (iri_text p iri))
subject_text p iri (Some kind.Class) = sym (append-nil (iri_text p iri))
subject_text p iri (Some k) = sym (append-nil (iri_text p iri))

pub named_text : (p : List Prefix) (iri : List ℕ) (kind : Option Kind) → codes " " ++ iri_text p iri ≡ codes " " ++ text p (undecided (subject_as kind iri)) []
named_text p iri kind = ap (λ (x : List ℕ). codes " " ++ x) (subject_text p iri kind)

-- the parts of an item in front of more
body_more : (p : List Prefix) (s : Section) (t : RawTree) (xs rest : List ℕ) → body_text p s t (xs ++ rest) ≡ body_text p s t xs ++ rest
body_more p s (raw at (what.Form form.List) none) xs rest = text_more p (raw at (what.Form form.List) none) xs rest
body_more p s (raw at (what.Form form.List) (more t ts)) xs rest = ap (text p t) (behind_more p (list_gap s) (list_gap s) ts xs rest) ∙ text_more p t (behind p (list_gap s) (list_gap s) ts xs) rest
body_more p s (raw at (what.Form f) ts) xs rest = text_more p (raw at (what.Form f) ts) xs rest
body_more p s (raw at (what.Atom a) ts) xs rest = text_more p (raw at (what.Atom a) ts) xs rest
body_more p s (raw at (what.Word a) ts) xs rest = text_more p (raw at (what.Word a) ts) xs rest
body_more p s (raw at (what.Facet a) ts) xs rest = text_more p (raw at (what.Facet a) ts) xs rest

part_more : (p : List Prefix) (part : RawPart) (xs rest : List ℕ) → part_text p part (xs ++ rest) ≡ part_text p part xs ++ rest
part_more p part xs rest =
    let front = section_front part.section in
    ap (λ (x : List ℕ). front ++ text p part.notes x) (body_more p part.section part.body xs rest)
    ∙ ap (λ (x : List ℕ). front ++ x) (text_more p part.notes (body_text p part.section part.body xs) rest)
    ∙ sym (append_assoc front (text p part.notes (body_text p part.section part.body xs)) rest)

parts_more : (p : List Prefix) (parts : List RawPart) (xs rest : List ℕ) → parts_text p parts (xs ++ rest) ≡ parts_text p parts xs ++ rest
parts_more p [] xs rest = refl
parts_more p (part ∷ parts) xs rest = ap (part_text p part) (parts_more p parts xs rest) ∙ part_more p part (parts_text p parts xs) rest

name_more : (p : List Prefix) (o : Option RawTree) (xs rest : List ℕ) → name_text p o (xs ++ rest) ≡ name_text p o xs ++ rest
name_more p None xs rest = refl
name_more p (Some t) xs rest = ap (λ (x : List ℕ). codes " " ++ x) (text_more p t xs rest)

pub item_more : (p : List Prefix) (item : ItemTree) (xs rest : List ℕ) → item_text p item (xs ++ rest) ≡ item_text p item xs ++ rest
item_more p item xs rest =
    let front = colon (heading_class item.heading) in
    let parts = parts_text p item.parts (codes "\n" ++ xs) in
    ap (λ (x : List ℕ). front ++ name_text p item.name x) (parts_more p item.parts (codes "\n" ++ xs) rest)
    ∙ ap (λ (x : List ℕ). front ++ x) (name_more p item.name parts rest)
    ∙ sym (append_assoc front (name_text p item.name parts) rest)

pub element_is : (p : List Prefix) (trees : List Tree) (s : Section) (part : ℕ × held.Body) → element_text p trees s part ≡ part_seen p trees s (Some part)
element_is p trees s part = ap (λ (x : List ℕ). section_front s ++ x) (sym (text_goes p (undecided (form_at trees part.0)) (body_alone p s (body_seen trees part.1))))

pub plan_is : (p : List Prefix) (trees : List Tree) (b : plan.Plan) → plan_text p trees b ≡ block_text p (plan_seen trees b)
plan_is p trees b =
    let name = option_map undecided (option_map (subject_seen trees) b.subject) in
    let parts = parts_seen trees b.section b.part in
    ap (λ (x : List ℕ). colon (heading_class b.heading) ++ x)
    (ap (λ (x : List ℕ). name_text p name [] ++ x) (sym (parts_more p parts [] (codes "\n"))) ∙ sym (name_more p name [] (parts_text p parts (codes "\n"))))

-- annotations by their numbers
pub notes_are : (p : List Prefix) (trees : List Tree) (m : members.Members) (ids : List ℕ) → members_in m ≡ ids ++ [] → 0 < length ids → notes_text p trees m ≡ annotations_text p trees ids
notes_are p trees m [] e h = absurd (omega (arith, h))
notes_are p trees m (x ∷ ids) e h =
    let same : members_in m ≡ x ∷ ids = e ∙ append-nil (x ∷ ids) in
    ap (λ (ns : List ℕ). (words_of form.Notes).front ++ (joined_from (words_of form.Notes) 0 (map (said_at p trees) ns) ++ codes "\n")) same
