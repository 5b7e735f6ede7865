-- Shaped annotations by their parts.
use Rattle.std.proofs.Common.{◌≡◌, true, List, [], ◌∷◌, map, refl, sym, ap, ◌∙◌, subst}
use Rattle.std.specs.List.{AllByRecursion}
use Rattle.std.proofs.lemmas.Bool.{and_from}
use Rattle.man_resolve.specs.declared.place.Place.TheVariants as place
use Rattle.owl_tree.specs.declared.atom.Atom.{Atom}
use Rattle.owl_tree.specs.declared.row.Sort.TheVariants as sort
use Rattle.owl_tree.specs.declared.tag.Tag.{Tag}
use Rattle.owl_tree.specs.declared.tag.Tag.TheVariants as tag
use Rattle.owl_tree.specs.Rows.{admits, fits, row_of}
use Rattle.owl_tree.specs.Shape.{AreShaped, IsShaped}
use Rattle.owl_tree.specs.Tags.{number_of}
use Rattle.owl_tree.specs.Trees.{Kids, Tree, kid, kids_of, leaf, list_of, no_kids, node, tag_of}
use Rattle.owl_tree.proofs.TreeLaws.{kids_of_list_of}
use Rattle.man_text.proofs.ExpressionLaws.{AreNoteTrees, IsLeafAt, IsNotesTree, no_note, note_of, notes_of}
use Rattle.man_text.proofs.ShapedLaws.{AllOf, Three, annotation_property_at, set_kids, three_kids, value_at}
use Rattle.man_text.proofs.SortLaws.{IsLeafOf, IsNodeOf}

-- an annotation by its parts
pub record IsNoteTree (t : Tree) : Type 0 where
  pub notes : Tree
  pub property : Tree
  pub value : Tree
  pub is : t ≡ node tag.Annotation (kids_of (notes ∷ property ∷ value ∷ []))
  pub above : IsNotesTree notes
  pub named : IsLeafAt place.AnnotationProperty property
  pub stands : IsLeafAt place.Value value

pub record NoteFacts (t : Tree) : Type 0 where
  pub shaped : IsShaped t
  pub notes : admits sort.Notes (tag_of t) ≡ true → IsNotesTree t
  pub note : admits sort.Annotation (tag_of t) ≡ true → IsNoteTree t

abbrev pub AllNoted : List Tree → Type 0
AllNoted ts = AllByRecursion NoteFacts ts

notes_tag : (t : Tag) (ts : List Tag) → IsNodeOf sort.Notes t ts → t ≡ tag.Notes
unfolding admits row_of number_of
notes_tag tag.Notes ts e = refl
notes_tag _ ts e = absurd (cc)

no_notes_leaf : (t : Tag) (a : Atom) → IsLeafOf sort.Notes t a → ⊥
unfolding admits row_of number_of
no_notes_leaf tag.Class a e = absurd (cc)
no_notes_leaf _ a e = absurd (cc)

note_tag : (t : Tag) (ts : List Tag) → IsNodeOf sort.Annotation t ts → t ≡ tag.Annotation
unfolding admits row_of number_of
note_tag tag.Annotation ts e = refl
note_tag _ ts e = absurd (cc)

no_note_leaf : (t : Tag) (a : Atom) → IsLeafOf sort.Annotation t a → ⊥
unfolding admits row_of number_of
no_note_leaf tag.Class a e = absurd (cc)
no_note_leaf _ a e = absurd (cc)

each_note : (ts : List Tree) → AllNoted ts → AllOf sort.Annotation ts → AreNoteTrees ts
each_note [] h k = no_note
each_note (t ∷ ts) h k =
    let note = h.0.note k.0 in
    subst (λ (u : Tree). AreNoteTrees (u ∷ ts)) (sym note.is) (note_of note.notes note.property note.value ts note.above note.named note.stands (each_note ts h.1 k.1))

own_set : (ts : List Tree) → fits (row_of tag.Notes) (map tag_of ts) ≡ true → AllOf sort.Annotation ts
unfolding row_of
own_set ts f = set_kids sort.Annotation 0 ts f

own_kids : (ts : List Tree) → fits (row_of tag.Annotation) (map tag_of ts) ≡ true → Three sort.Notes sort.AnnotationProperty sort.AnnotationValue ts
unfolding row_of
own_kids ts f = three_kids sort.Notes sort.AnnotationProperty sort.AnnotationValue ts f

notes_over : (t : Tag) (ts : List Tree) → admits sort.Notes t ≡ true → fits (row_of t) (map tag_of ts) ≡ true → AllNoted ts → IsNotesTree (node t (kids_of ts))
notes_over t ts e f h =
    let is = notes_tag t (map tag_of ts) (and_from (admits sort.Notes t) _ e f) in
    subst (λ (u : Tag). IsNotesTree (node u (kids_of ts))) (sym is) (notes_of ts (each_note ts h (own_set ts (subst (λ (u : Tag). fits (row_of u) (map tag_of ts) ≡ true) is f))))

note_over : (t : Tag) (ts : List Tree) → admits sort.Annotation t ≡ true → fits (row_of t) (map tag_of ts) ≡ true → AllNoted ts → IsNoteTree (node t (kids_of ts))
note_over t ts e f h =
    let is = note_tag t (map tag_of ts) (and_from (admits sort.Annotation t) _ e f) in
    let kids = own_kids ts (subst (λ (u : Tag). fits (row_of u) (map tag_of ts) ≡ true) is f) in
    let own = subst AllNoted kids.is h in
    record {
      notes = kids.a;
      property = kids.b;
      value = kids.d;
      is = ap (λ (u : Tag). node u (kids_of ts)) is ∙ ap (λ (us : List Tree). node tag.Annotation (kids_of us)) kids.is;
      above = own.0.notes kids.first;
      named = annotation_property_at kids.b kids.second own.1.0.shaped;
      stands = value_at kids.d kids.third own.1.1.0.shaped;
    }

mutual
  pub noted_at : (t : Tree) → IsShaped t → NoteFacts t
  noted_at (leaf t a) shaped = record {
    shaped = shaped;
    notes = λ e. absurd (no_notes_leaf t a (and_from (admits sort.Notes t) _ e shaped.0));
    note = λ e. absurd (no_note_leaf t a (and_from (admits sort.Annotation t) _ e shaped.0));
  }
  noted_at (node t ks) shaped =
      let facts = all_noted ks shaped.1 in
      let back = kids_of_list_of ks in record {
        shaped = shaped;
        notes = λ e. subst (λ (us : Kids). IsNotesTree (node t us)) back (notes_over t (list_of ks) e shaped.0.row facts);
        note = λ e. subst (λ (us : Kids). IsNoteTree (node t us)) back (note_over t (list_of ks) e shaped.0.row facts);
      }

  pub all_noted : (ks : Kids) → AreShaped ks → AllNoted (list_of ks)
  all_noted no_kids shaped = tt
  all_noted (kid t ks) shaped = (noted_at t shaped.0, all_noted ks shaped.1)

pub notes_at : (t : Tree) → admits sort.Notes (tag_of t) ≡ true → IsShaped t → IsNotesTree t
notes_at t e shaped = (noted_at t shaped).notes e
