-- What is said of annotations means the annotations.
use Rattle.std.proofs.Common.{◌≡◌, ℕ, arith, true, Ok, List, [], ◌∷◌, length, refl, ap, ◌∙◌}
use Rattle.man_raw.specs.Raws.{RawTree, trees_of}
use Rattle.man_resolve.specs.declared.place.Place.TheVariants as place
use Rattle.man_resolve.specs.Expressions.{Knows, meanings, meant, takes}
use Rattle.man_resolve.specs.Places.{shape_of}
use Rattle.owl_doc.specs.Entities.{entities, entities_of}
use Rattle.owl_tree.specs.declared.tag.Tag.TheVariants as tag
use Rattle.owl_tree.specs.Rows.{row_of}
use Rattle.owl_tree.specs.Trees.{Tree, kids_of, no_kids, node}
use Rattle.man_text.specs.Undecided.{form_of, is_bracketed, is_counted, operand, operands, undecided}
use Rattle.man_text.proofs.ExpressionLaws.{AreNoteTrees, IsNotesTree, no_note, note_of, notes_of}
use Rattle.man_text.proofs.MeaningLaws.{MeanEach, all_mean, both_mean, leaf_operand_means, over_means, set_counts}
use Rattle.man_text.proofs.TypedLaws.{AreTyped, typed_first, typed_rest}

-- annotations are not bracketed
pub bare_of : (t : Tree) → IsNotesTree t → operand (undecided t) ≡ undecided t
unfolding form_of is_counted is_bracketed
bare_of _ (notes_of ts h) = refl

module _ (ks : Knows) where
  notes_taken : (n : ℕ) → takes tag.Notes n ≡ true
  unfolding row_of
  notes_taken n = set_counts 0 0 n (omega arith) (omega arith)

  mutual
    unfolding form_of is_counted is_bracketed shape_of row_of

    pub notes_mean : (t : Tree) → IsNotesTree t → AreTyped ks (entities t) → meant ks (undecided t) place.Notes ≡ Ok t
    notes_mean _ (notes_of ts h) typed = over_means ks tag.Notes _ _ ts (notes_taken (length (meanings ks (trees_of (operands (kids_of ts)))))) (all_mean ks place.Note (operands (kids_of ts)) ts (each_means ts h typed))

    pub each_means : (ts : List Tree) → AreNoteTrees ts → AreTyped ks (entities_of (kids_of ts)) → MeanEach ks place.Note (operands (kids_of ts)) ts
    each_means _ no_note typed = tt
    each_means _ (note_of notes p v ts above property value others) typed =
        let note = node tag.Annotation (kids_of (notes ∷ p ∷ v ∷ [])) in
        let first = typed_first ks note (kids_of ts) typed in
        let own = typed_rest ks notes (kids_of (p ∷ v ∷ [])) first in
        let two = both_mean ks (meant ks (operand (undecided p)) place.AnnotationProperty) _ p (v ∷ [])
        (leaf_operand_means ks place.AnnotationProperty p property (typed_first ks p (kids_of (v ∷ [])) own))
        (all_mean ks place.Value (operand (undecided v) ∷ []) (v ∷ []) (leaf_operand_means ks place.Value v value (typed_first ks v no_kids (typed_rest ks p (kids_of (v ∷ [])) own)), tt)) in
        (over_means ks tag.Annotation true _ (notes ∷ p ∷ v ∷ []) refl (both_mean ks (meant ks (operand (undecided notes)) place.Notes) _ notes (p ∷ v ∷ []) (ap (λ (r : RawTree). meant ks r place.Notes) (bare_of notes above) ∙ notes_mean notes above (typed_first ks notes (kids_of (p ∷ v ∷ [])) first)) two), each_means ts others (typed_rest ks note (kids_of ts) typed))
