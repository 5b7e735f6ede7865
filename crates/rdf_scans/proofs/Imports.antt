-- The imports that a node gives ascend.
use Rattle.std.proofs.Common.{◌≡◌, ℕ, true, false, List, refl, sym, ◌∙◌, subst}
use Rattle.std.specs.Prelude.{Contains, map}
use Rattle.std.specs.Str.{bytes_eq}
use Rattle.std.specs.declared.cmp.Ordering.TheVariants.{Less}
use Rattle.std.proofs.lemmas.Bool.{and_parts}
use Rattle.std.proofs.lemmas.List.Kept.{IsStrictlySortedBy-filter}
use Rattle.std.proofs.lemmas.Slice.Eq.{bytes_eq-Decides}
use Rattle.owl_characters.specs.Order.{text_cmp}
use Rattle.owl_list.specs.Ascending.{IsAscending}
use Rattle.owl_list.proofs.AscendingLaws.{all_from}
use Rattle.rdf_graph.specs.declared.term.Term.{Term}
use Rattle.rdf_graph.specs.declared.term.Term.TheVariants.{Iri}
use Rattle.rdf_graph.specs.declared.triple.Triple.{Triple}
use Rattle.rdf_graph.specs.Terms.{term_cmp, triple_cmp}
use Rattle.rdf_meaning.specs.declared.word.Word.TheVariants as word
use Rattle.owl_list.proofs.FilterLaws.{from_filter}
use Rattle.rdf_meaning.proofs.NodeLaws.{from_subject}
use Rattle.rdf_meaning.specs.Nodes.{carries, is_same, of_subject}
use Rattle.rdf_meaning.specs.Words.{is_type, word_iri}
use Rattle.rdf_rows.specs.Carrying.{may_have}
use Rattle.rdf_rows.proofs.CarryingLaws.{by_link}
use Rattle.rdf_rows.specs.Chosen.{carriers, objects_with}
use Rattle.rdf_scans.proofs.Ascents.{ascends_before_map, less_object, map_ascends}

is_link : is_type word.Imports ≡ false
unfolding is_type
is_link = refl

imported : (t : Triple) → carries word.Imports t ≡ true → t.predicate ≡ word_iri word.Imports
imported t h =
    (bytes_eq-Decides t.predicate (word_iri word.Imports)).0
    (and_parts (bytes_eq t.predicate (word_iri word.Imports)) (may_have word.Imports t.object) (sym (by_link word.Imports t is_link) ∙ h)).0

module _ (g : List Triple) (x : Term) where
  record IsImport (t : Triple) : Type 0 where
    subject : t.subject ≡ x
    predicate : t.predicate ≡ word_iri word.Imports

  keeps : (s t : Triple) → IsImport s → IsImport t → triple_cmp s t ≡ Less → term_cmp s.object t.object ≡ Less
  keeps s t h k l = less_object s t (h.subject ∙ sym k.subject) (h.predicate ∙ sym k.predicate) l

  is_import : (t : Triple) → Contains (carriers word.Imports (of_subject g x)) t → IsImport t
  is_import t m =
      let k = from_filter (carries word.Imports) (of_subject g x) t m in
      record { subject = (from_subject g x t k.inside).1; predicate = imported t k.passes }

  pub imports_ascend : IsAscending triple_cmp g → (imports : List (List ℕ)) → objects_with word.Imports (of_subject g x) ≡ map Iri imports → IsAscending text_cmp imports
  imports_ascend a imports e =
      let ts = carriers word.Imports (of_subject g x) in
      let of_node = IsStrictlySortedBy-filter triple_cmp (λ t. is_same t.subject x) g a in
      let objects =
      map_ascends (λ t. t.object) triple_cmp term_cmp IsImport keeps ts (all_from IsImport ts is_import)
      (IsStrictlySortedBy-filter triple_cmp (carries word.Imports) (of_subject g x) of_node) in
      ascends_before_map Iri text_cmp term_cmp (λ a b. refl) imports (subst (IsAscending term_cmp) e objects)
