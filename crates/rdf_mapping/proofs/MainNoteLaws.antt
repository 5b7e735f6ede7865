-- A node that stands for an axiom has the annotations that are drawn of it.
use Rattle.std.proofs.Common.{◌≡◌, ◌++◌, true, false, List, inl, inr, refl, sym, ap, ◌∙◌}
use Rattle.std.specs.Prelude.{◌↔◌, Contains, not}
use Rattle.std.specs.List.{list_all}
use Rattle.std.proofs.lemmas.Bool.{both_ways, cases_Bool}
use Rattle.std.proofs.lemmas.List.Elements.{Contains-append_cases, Contains-append_right}
use Rattle.rdf_graph.specs.declared.term.Term.{Term}
use Rattle.rdf_graph.specs.declared.triple.Triple.{Triple}
use Rattle.rdf_meaning.specs.declared.role.Role.{Role}
use Rattle.rdf_meaning.specs.declared.role.Role.TheVariants as role
use Rattle.owl_list.proofs.FilterLaws.{from_filter, in_filter}
use Rattle.rdf_meaning.proofs.ListLaws.{passes, some_passes}
use Rattle.rdf_meaning.proofs.NodeLaws.{from_subject, in_subject}
use Rattle.rdf_meaning.specs.Nodes.{carries, carries_some, is_own, is_structural, of_subject, role_of, words_of}
use Rattle.rdf_meaning.specs.Statements.{notes_of}
use Rattle.rdf_meaning.specs.Words.{word_number}
use Rattle.rdf_mapping.specs.Frames.{IsAny, IsOwn, by_word, is_node_word}
use Rattle.rdf_mapping.specs.Notes.{Notes}
use Rattle.rdf_mapping.specs.Entries.{AreBeside, note_links}
use Rattle.rdf_mapping.specs.NoteLaws.{beside_links}

main_node_words : list_all is_node_word (words_of role.Main) ≡ true
unfolding words_of is_node_word word_number
main_node_words = refl

module _ (g : List Triple) (x : Term) (own : List Triple) (ns : Notes) (main : role_of g x ≡ role.Main) (structural : list_all (carries_some (words_of role.Main)) own ≡ true) (beside : AreBeside ns) (is : IsOwn IsAny g x (own ++ note_links x ns)) where
  structural_at : (t : Triple) → t.subject ≡ x → is_structural g t ≡ carries_some (words_of role.Main) t
  unfolding is_structural
  structural_at t i = ap (λ (r : Role). is_own r t) (ap (role_of g) i ∙ main)

  notes_to : (t : Triple) → Contains (notes_of g x) t → Contains (note_links x ns) t
  unfolding notes_of
  notes_to t m =
      let k = from_filter (λ u. not (is_structural g u)) (of_subject g x) t m in
      let at = from_subject g x t k.inside in
      elim (Contains-append_cases own (note_links x ns) t (is.back t at.1 tt at.0)) [
        | inl a ↦
            let passed = structural_at t at.1 ∙ passes (carries_some (words_of role.Main)) own t structural a in
            absurd (both_ways false refl (sym (ap not passed) ∙ k.passes))
        | inr b ↦ b
      ]

  notes_from : (t : Triple) → Contains (note_links x ns) t → Contains (notes_of g x) t
  unfolding notes_of
  notes_from t m =
      let inside = Contains-append_right own (note_links x ns) t m in
      let at = is.subject t inside in
      in_filter (λ u. not (is_structural g u)) (of_subject g x) t (in_subject g x t (is.there t inside) at)
      (elim (cases_Bool (is_structural g t)) [
        | inl h ↦
            let p = some_passes (λ w. carries w t) (words_of role.Main) (sym (structural_at t at) ∙ h) in
            absurd (beside_links x ns t beside m (by_word p.element (passes is_node_word (words_of role.Main) p.element main_node_words p.inside) p.passes))
        | inr f ↦ ap not f
      ])

  pub main_notes : (t : Triple) → Contains (notes_of g x) t ↔ Contains (note_links x ns) t
  main_notes t = (notes_to t, notes_from t)
