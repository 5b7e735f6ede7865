-- What an ontology is written as means the ontology.
use Rattle.std.proofs.Common.{◌≡◌, ◌≤◌, ◌*◌, ℕ, suc, arith, true, Option, None, Some, Ok, List, [], ◌∷◌, ◌++◌, map, refl, sym, ap, ◌∙◌, subst, inl, inr}
use Rattle.std.specs.Prelude.{IsTrue, Contains}
use Rattle.std.specs.List.{AllByRecursion, flat_map}
use Rattle.std.proofs.lemmas.Bool.{and_from}
use Rattle.std.proofs.lemmas.List.{append-nil}
use Rattle.std.proofs.lemmas.List.Elements.{Contains-append_cases, Contains-append_left, Contains-append_right}
use Rattle.man_raw.specs.Raws.{RawTree, list_of as raws_of, trees_of}
use Rattle.man_raw.specs.declared.heading.Heading.{Heading}
use Rattle.man_resolve.specs.declared.place.Place.{Place}
use Rattle.man_resolve.specs.declared.place.Place.TheVariants as place
use Rattle.man_resolve.specs.Expressions.{Knows, Told, all_at, all_of, in_front, meant}
use Rattle.man_resolve.specs.Items.{annotations_of, axioms_of, head_in, meanings_of, ontology_with, resolved}
use Rattle.man_sayable.specs.Sayable.{IsUnopposed}
use Rattle.owl_atom.specs.declared.prefixes.Prefix.{Prefix}
use Rattle.owl_doc.specs.Entities.{entities, entities_of}
use Rattle.owl_doc.specs.Heads.{iri_in, name_of, version_in}
use Rattle.owl_kind.specs.declared.kind.Kind.TheVariants as kind
use Rattle.owl_list.proofs.AscendingLaws.{in_cases, in_head, in_none, in_tail}
use Rattle.owl_tree.specs.Canonical.{canonical}
use Rattle.owl_tree.specs.declared.atom.Atom.TheVariants as atom
use Rattle.owl_tree.specs.declared.row.Sort.TheVariants as sort
use Rattle.owl_tree.specs.declared.tag.Tag.{Tag}
use Rattle.owl_tree.specs.declared.tag.Tag.TheVariants as tag
use Rattle.owl_tree.specs.Ontologies.{Head, IsAnnotation, Ontology, OntologyName}
use Rattle.owl_tree.specs.Rows.{admits, row_of, takes}
use Rattle.owl_tree.specs.Shape.{IsShaped}
use Rattle.owl_tree.specs.Tags.{is_axiom, number_of}
use Rattle.owl_tree.specs.Trees.{Kids, Tree, depth, kids_in, kids_of, leaf, most_depth, node, tag_of}
use Rattle.owl_tree.proofs.TreeLaws.{kids_of_list_of}
use Rattle.written_trees.specs.Written.{written_form}
use Rattle.written_trees.proofs.WrittenLaws.{is_written, written_tag}
use Rattle.man_text.specs.Blocks.{block_of, block_with, document_of, headed, head_tree, item_of, notes_of}
use Rattle.man_text.specs.Undecided.{form_of, is_bracketed, is_counted, operand, operands, undecided}
use Rattle.man_text.proofs.AxiomLaws.{IsAxiomOver, IsEntityTag, bare_notes}
use Rattle.man_text.proofs.AxiomMeaningLaws.{list_back}
use Rattle.man_text.proofs.BlockLaws.{block_meant}
use Rattle.man_text.proofs.ExpressionLaws.{AreNoteTrees, note_of, no_note}
use Rattle.man_text.proofs.HeadLaws.{depth_written, has_head, head_typed, heads_declared, heads_of, typed_written}
use Rattle.man_text.proofs.ItemStandingLaws.{each_stands, item_stands}
use Rattle.man_text.proofs.MeaningLaws.{both_mean}
use Rattle.man_text.proofs.NoteLaws.{each_means}
use Rattle.man_text.proofs.ShapedNotesLaws.{IsNoteTree, noted_at}
use Rattle.man_text.proofs.TypedLaws.{AreTyped}
use Rattle.man_text.proofs.WritableLaws.{AreHeadNotes, AreNotes, IsItem}
use Rattle.man_text.proofs.WrittenAxiomLaws.{no_axiom_leaf, written_block}

-- ---- one axiom

entity_there : (t : Tag) (h : Heading) (p : Place) (iri : List ℕ) → IsEntityTag t h p → Contains (heads_of (Some (leaf t (atom.Iri iri))) ++ []) (node tag.Declaration (kids_of (bare_notes ∷ leaf t (atom.Iri iri) ∷ [])))
unfolding number_of
entity_there _ _ _ iri IsEntityTag.of_class = in_head _ []
entity_there _ _ _ iri IsEntityTag.of_datatype = in_head _ []
entity_there _ _ _ iri IsEntityTag.of_object_property = in_head _ []
entity_there _ _ _ iri IsEntityTag.of_data_property = in_head _ []
entity_there _ _ _ iri IsEntityTag.of_annotation_property = in_head _ []
entity_there _ _ _ iri IsEntityTag.of_individual = in_head _ []

last_there : (front : List Tree) (x : Tree) → Contains (front ++ x ∷ []) x
last_there front x = Contains-append_right front (x ∷ []) x (in_head x [])

-- what the block says, beside what heads it, is the axiom as it is written
own_there : (looks : Knows) (t : Tag) (ts own : List Tree) → IsAxiomOver looks t ts own → Contains (heads_of (block_with looks t ts).subject ++ own) (node t (kids_of ts))
unfolding number_of
own_there looks _ _ _ (IsAxiomOver.declaration t h p iri is ok) = entity_there t h p iri is
own_there looks t ts own (IsAxiomOver.beside _ h s p q notes subject body is above at stands) = last_there (heads_of (block_with looks t ts).subject) (node t (kids_of ts))
own_there looks t ts own (IsAxiomOver.typing notes body subject above is at) = last_there (heads_of (block_with looks t ts).subject) (node t (kids_of ts))
own_there looks t ts own (IsAxiomOver.chain notes a b us subject above links at) = last_there (heads_of (block_with looks t ts).subject) (node t (kids_of ts))
own_there looks t ts own (IsAxiomOver.listed _ h p notes a b us is above members) = last_there (heads_of (block_with looks t ts).subject) (node t (kids_of ts))
own_there looks t ts own (IsAxiomOver.union_of notes subject a b us above at members) = last_there (heads_of (block_with looks t ts).subject) (node t (kids_of ts))
own_there looks t ts own (IsAxiomOver.property_list s _ h notes a b us is above members) = last_there (heads_of (block_with looks t ts).subject) (node t (kids_of ts))
own_there looks t ts own (IsAxiomOver.key notes subject os ds a us above at first second some) = last_there (heads_of (block_with looks t ts).subject) (node t (kids_of ts))
own_there looks t ts own (IsAxiomOver.fact s _ notes p subject value is above named at stands) = last_there (heads_of (block_with looks t ts).subject) (node t (kids_of ts))
own_there looks t ts own (IsAxiomOver.word _ h p notes subject is above at) = last_there (heads_of (block_with looks t ts).subject) (node t (kids_of ts))
own_there looks t ts own (IsAxiomOver.assertion notes p about v above property is value) = last_there (heads_of (block_with looks t ts).subject) (node t (kids_of ts))

only_one : (x u : Tree) → Contains (x ∷ []) u → u ≡ x
only_one x u m = elim (in_cases x [] u m) [
  | inl e ↦ sym e
  | inr n ↦ absurd (in_none u n)
]

own_only : (looks : Knows) (t : Tag) (ts own : List Tree) → IsAxiomOver looks t ts own → (u : Tree) → Contains own u → u ≡ node t (kids_of ts)
own_only looks _ _ _ (IsAxiomOver.declaration t h p iri is ok) u m = absurd (in_none u m)
own_only looks t ts own (IsAxiomOver.beside _ h s p q notes subject body is above at stands) u m = only_one _ u m
own_only looks t ts own (IsAxiomOver.typing notes body subject above is at) u m = only_one _ u m
own_only looks t ts own (IsAxiomOver.chain notes a b us subject above links at) u m = only_one _ u m
own_only looks t ts own (IsAxiomOver.listed _ h p notes a b us is above members) u m = only_one _ u m
own_only looks t ts own (IsAxiomOver.union_of notes subject a b us above at members) u m = only_one _ u m
own_only looks t ts own (IsAxiomOver.property_list s _ h notes a b us is above members) u m = only_one _ u m
own_only looks t ts own (IsAxiomOver.key notes subject os ds a us above at first second some) u m = only_one _ u m
own_only looks t ts own (IsAxiomOver.fact s _ notes p subject value is above named at stands) u m = only_one _ u m
own_only looks t ts own (IsAxiomOver.word _ h p notes subject is above at) u m = only_one _ u m
own_only looks t ts own (IsAxiomOver.assertion notes p about v above property is value) u m = only_one _ u m

-- an axiom that can be said
pub record CanBeSaid (looks : Knows) (t : Tree) : Type 0 where
  pub axiom_tag : IsTrue (is_axiom (tag_of t))
  pub shaped : IsShaped t
  pub canonical : canonical t ≡ t
  pub unopposed : IsUnopposed looks t

-- it is typed, and so is the declaration of what heads its block
pub record IsKnownUnder (looks ks : Knows) (t : Tree) : Type 0 where
  pub own : AreTyped ks (entities t)
  pub head : (u : Tree) → Contains (headed looks t) u → AreTyped ks (entities u)

-- what its block means
pub record OneSaid (looks ks : Knows) (t : Tree) : Type 0 where
  pub own : List Tree
  pub says : axioms_of ks (item_of (block_of looks t)) ≡ map Ok (headed looks t ++ own)
  pub there : Contains (headed looks t ++ own) (written_form t)
  pub only : (u : Tree) → Contains own u → u ≡ written_form t

kids_known : (ks : Knows) (w : Tree) → AreTyped ks (entities w) → AreTyped ks (entities_of (kids_of (kids_in w)))
kids_known ks (leaf t a) h = tt
kids_known ks (node t K) h = subst (λ (us : Kids). AreTyped ks (entities_of us)) (sym (kids_of_list_of K)) h

one_said : (looks ks : Knows) → ((iri : List ℕ) → ks kind.ObjectProperty iri ≡ true → ks kind.DataProperty iri ≡ true → ⊥) → (t : Tree) → CanBeSaid looks t → IsKnownUnder looks ks t → OneSaid looks ks t
one_said looks ks apart (leaf t a) said known = absurd (no_axiom_leaf t a (and_from (is_axiom t) (takes (row_of t) a) said.axiom_tag said.shaped.0))
one_said looks ks apart (node t K) said known =
    let whole_axiom = node t K in
    let ts = kids_in (written_form whole_axiom) in
    let block = written_block looks whole_axiom said.axiom_tag said.shaped said.canonical said.unopposed in
    let headed_so = has_head looks t ts block.own block.is in
    let same = heads_declared (block_with looks t ts).subject headed_so in
    let typed = kids_known ks (written_form whole_axiom) (typed_written ks whole_axiom known.own) in
    let head = head_typed ks (block_with looks t ts).subject headed_so (subst (λ (us : List Tree). (u : Tree) → Contains us u → AreTyped ks (entities u)) (sym same) known.head) in
    let meant = block_meant looks ks apart t ts block.own block.is typed head in
    let whole : node t (kids_of ts) ≡ written_form whole_axiom = ap (node t) (kids_of_list_of _) in
    record {
      own = block.own;
      says = meant.says ∙ ap (λ (us : List Tree). map Ok (us ++ block.own)) same;
      there = subst (λ (us : List Tree). Contains (us ++ block.own) (written_form whole_axiom)) same (subst (λ (u : Tree). Contains (heads_of (block_with looks t ts).subject ++ block.own) u) whole (own_there looks t ts block.own block.is));
      only = λ u m. own_only looks t ts block.own block.is u m ∙ whole;
    }

-- ---- all axioms

-- it is an axiom as it is written, or the declaration of what heads one's block
pub data IsSaidOf (looks : Knows) (ts : List Tree) (u : Tree) : Type 0 where
  an_axiom : (t : Tree) → Contains ts t → u ≡ written_form t → IsSaidOf looks ts u
  a_name : (t : Tree) → Contains ts t → Contains (headed looks t) u → IsSaidOf looks ts u

pub record AllSaid (looks ks : Knows) (ts : List Tree) : Type 0 where
  pub said : List Tree
  pub says : all_of (flat_map (axioms_of ks) (map (λ t. item_of (block_of looks t)) ts)) ≡ Ok said
  pub there : (t : Tree) → Contains ts t → Contains said (written_form t)
  pub only : (u : Tree) → Contains said u → IsSaidOf looks ts u

told_front : (xs : List Tree) (ys : List (Told Tree)) (rest : List Tree) → all_of ys ≡ Ok rest → all_of (map Ok xs ++ ys) ≡ Ok (xs ++ rest)
told_front [] ys rest e = e
told_front (x ∷ xs) ys rest e = ap (in_front (Ok x)) (told_front xs ys rest e)

weaker : (looks : Knows) (t : Tree) (ts : List Tree) (u : Tree) → IsSaidOf looks ts u → IsSaidOf looks (t ∷ ts) u
weaker looks t ts u (an_axiom x m e) = an_axiom x (in_tail t ts x m) e
weaker looks t ts u (a_name x m k) = a_name x (in_tail t ts x m) k

pub all_axioms_said : (looks ks : Knows) → ((iri : List ℕ) → ks kind.ObjectProperty iri ≡ true → ks kind.DataProperty iri ≡ true → ⊥) → (ts : List Tree) → AllByRecursion (CanBeSaid looks) ts → AllByRecursion (IsKnownUnder looks ks) ts → AllSaid looks ks ts
all_axioms_said looks ks apart [] h k = record { said = []; says = refl; there = λ t m. absurd (in_none t m); only = λ u m. absurd (in_none u m) }
all_axioms_said looks ks apart (t ∷ ts) h k =
    let one = one_said looks ks apart t h.0 k.0 in
    let rest = all_axioms_said looks ks apart ts h.1 k.1 in
    let own = headed looks t ++ one.own in
    let others = flat_map (axioms_of ks) (map (λ u. item_of (block_of looks u)) ts) in
    record {
      said = own ++ rest.said;
      says = ap (λ (l : List (Told Tree)). all_of (l ++ others)) one.says ∙ told_front own others rest.said rest.says;
      there = λ u m. elim (in_cases t ts u m) [
        | inl e ↦ subst (λ (x : Tree). Contains (own ++ rest.said) (written_form x)) e (Contains-append_left own rest.said (written_form t) one.there)
        | inr n ↦ Contains-append_right own rest.said (written_form u) (rest.there u n)
      ];
      only = λ u m. elim (Contains-append_cases own rest.said u m) [
        | inl n ↦ elim (Contains-append_cases (headed looks t) one.own u n) [
          | inl x ↦ a_name t (in_head t ts) x
          | inr x ↦ an_axiom t (in_head t ts) (one.only u x)
        ]
        | inr n ↦ weaker looks t ts u (rest.only u n)
      ];
    }

-- ---- annotations

note_form : (w : Tree) → IsNoteTree w → AreNoteTrees (w ∷ [])
note_form w note = subst (λ (u : Tree). AreNoteTrees (u ∷ [])) (sym note.is) (note_of note.notes note.property note.value [] note.above note.named note.stands no_note)

bare_note : (w : Tree) → IsNoteTree w → operand (undecided w) ≡ undecided w
unfolding form_of is_counted is_bracketed
bare_note w note = subst (λ (u : Tree). operand (undecided u) ≡ undecided u) (sym note.is) refl

annotation_tag : admits sort.Annotation tag.Annotation ≡ true
unfolding admits number_of
annotation_tag = refl

pub note_written : (t : Tree) → IsAnnotation t → canonical t ≡ t → IsNoteTree (written_form t)
note_written t is same = (noted_at (written_form t) (is_written t is.shaped same).shaped).note (ap (admits sort.Annotation) (written_tag t ∙ is.tag) ∙ annotation_tag)

abbrev said_notes : List Tree → List RawTree
said_notes ts = map (λ t. undecided (written_form t)) ts

each_note_means : (ks : Knows) (ts : List Tree) → AllByRecursion (λ t. IsNoteTree (written_form t)) ts → AllByRecursion (λ t. AreTyped ks (entities t)) ts → all_of (all_at place.Note (meanings_of ks (said_notes ts))) ≡ Ok (map written_form ts)
each_note_means ks [] h k = refl
each_note_means ks (t ∷ ts) h k =
    let w = written_form t in
    let own = (each_means ks (w ∷ []) (note_form w h.0) (subst (AreTyped ks) (sym (append-nil (entities w))) (typed_written ks t k.0))).0 in
    both_mean ks (meant ks (undecided w) place.Note) (all_of (all_at place.Note (meanings_of ks (said_notes ts)))) w (map written_form ts) (ap (λ (r : RawTree). meant ks r place.Note) (sym (bare_note w h.0)) ∙ own) (each_note_means ks ts h.1 k.1)

pub annotations_mean : (ks : Knows) (ts : List Tree) → AllByRecursion (λ t. IsNoteTree (written_form t)) ts → AllByRecursion (λ t. AreTyped ks (entities t)) ts → all_of (flat_map (annotations_of ks) (notes_of ts)) ≡ Ok (map written_form ts)
annotations_mean ks [] h k = refl
annotations_mean ks (t ∷ ts) h k =
    ap all_of (append-nil (all_at place.Note (meanings_of ks (raws_of (trees_of (said_notes (t ∷ ts)))))))
    ∙ ap (λ (rs : List RawTree). all_of (all_at place.Note (meanings_of ks rs))) (list_back (said_notes (t ∷ ts)))
    ∙ each_note_means ks (t ∷ ts) h k

-- ---- the head

name_back : (n : Option OntologyName) → name_of (iri_in n) (version_in n) ≡ n
name_back None = refl
name_back (Some name) = refl

head_back : (h : Head) → head_in (head_tree h) ≡ h
head_back h = ap (λ (n : Option OntologyName). record h { name = n }) (name_back h.name)

-- what the document means, in the order of the lists
pub document_means : (looks ks : Knows) (prefixes : List Prefix) (o : Ontology) (all : AllSaid looks ks o.axioms) → all_of (flat_map (annotations_of ks) (notes_of o.annotations)) ≡ Ok (map written_form o.annotations)
    → resolved ks (document_of looks prefixes o) ≡ Ok (record { head = o.head; annotations = map written_form o.annotations; axioms = all.said })
unfolding resolved
document_means looks ks prefixes o all notes =
    ap (λ (r : Told (List Tree)). ontology_with (head_in (head_tree o.head)) r (all_of (flat_map (axioms_of ks) (map (λ t. item_of (block_of looks t)) o.axioms)))) notes
    ∙ ap (λ (r : Told (List Tree)). ontology_with (head_in (head_tree o.head)) (Ok (map written_form o.annotations)) r) all.says
    ∙ ap (λ (h : Head). Ok (record { head = h; annotations = map written_form o.annotations; axioms = all.said })) (head_back o.head)

-- ---- what is written stands in a text

most_of : (w : Tree) → most_depth (kids_of (kids_in w)) ≤ depth w
most_of (leaf t a) = omega arith
most_of (node t K) = subst (λ (us : Kids). most_depth us ≤ depth (node t K)) (sym (kids_of_list_of K)) (omega arith)

pub item_written : (looks : Knows) (n : ℕ) (t : Tree) → CanBeSaid looks t → 2 * depth t ≤ n → IsItem n (item_of (block_of looks t))
item_written looks n t said fits =
    let block = written_block looks t said.axiom_tag said.shaped said.canonical said.unopposed in
    let w = written_form t in
    let inside = most_of w in
    let shallow = depth_written t in
    item_stands looks n (tag_of t) (kids_in w) block.own block.is (omega arith)

each_note_tree : (ts : List Tree) → AllByRecursion (λ t. IsNoteTree (written_form t)) ts → AreNoteTrees (map written_form ts)
each_note_tree [] h = no_note
each_note_tree (t ∷ ts) h =
    let note = h.0 in
    subst (λ (u : Tree). AreNoteTrees (u ∷ map written_form ts)) (sym note.is) (note_of note.notes note.property note.value (map written_form ts) note.above note.named note.stands (each_note_tree ts h.1))

notes_as_said : (ts : List Tree) → AllByRecursion (λ t. IsNoteTree (written_form t)) ts → operands (kids_of (map written_form ts)) ≡ said_notes ts
notes_as_said [] h = refl
notes_as_said (t ∷ ts) h = ap (λ (r : RawTree). r ∷ operands (kids_of (map written_form ts))) (bare_note (written_form t) h.0) ∙ ap (λ (rs : List RawTree). undecided (written_form t) ∷ rs) (notes_as_said ts h.1)

notes_deep : (n : ℕ) (ts : List Tree) → AllByRecursion (λ t. depth t ≤ n) ts → most_depth (kids_of (map written_form ts)) ≤ n
notes_deep n [] h = omega arith
notes_deep n (t ∷ ts) h = let first = h.0 in let own = depth_written t in let rest = notes_deep n ts h.1 in omega arith

pub notes_written : (n : ℕ) (ts : List Tree) → AllByRecursion (λ t. IsNoteTree (written_form t)) ts → AllByRecursion (λ t. depth t ≤ n) ts → AllByRecursion (AreHeadNotes (suc n)) (notes_of ts)
notes_written n [] h k = tt
notes_written n (t ∷ ts) h k =
    (AreHeadNotes.head_notes n _ _ (subst (AreNotes n) (notes_as_said (t ∷ ts) h) (each_stands n (map written_form (t ∷ ts)) (each_note_tree (t ∷ ts) h) (notes_deep n (t ∷ ts) k))), tt)
