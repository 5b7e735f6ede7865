-- The nested form of a graph reads back to it.
use Rattle.std.specs.Prelude.{◌≡◌, ℕ, List, [], ◌++◌, Contains, flat_map}
use Rattle.std.specs.List.{AllByRecursion}
use Rattle.std.proofs.Common.{inl, inr, refl, sym, ap, ◌∙◌, subst, arith}
use Rattle.owl_atom.specs.declared.prefixes.Prefix.{Prefix}
use Rattle.owl_characters.specs.Iri.{IsIri}
use Rattle.owl_list.specs.Ascending.{HoldSame}
use Rattle.owl_list.proofs.AscendingLaws.{all_from, all_in, in_head, in_tail}
use Rattle.owl_writing.proofs.DraftLaws.{longer, too_long_in_bytes}
use Rattle.owl_writing.specs.Limits.{IsTooLong}
use Rattle.owl_writing.specs.Tables.{written_prefixes}
use Rattle.rdf_graph.specs.Graphs.{IsGraph}
use Rattle.rdf_graph.specs.Terms.{IsSubject}
use Rattle.rdf_graph.specs.declared.term.Term.TheVariants.{Blank}
use Rattle.rdf_graph.specs.declared.triple.Triple.{Triple}
use Rattle.rdf_roles.specs.Tables.{IsTableOf, RoleTable}
use Rattle.ttl_levels.proofs.NestLaws.{nestable_number}
use Rattle.ttl_levels.specs.Nested.{IsNested, most_levels}
use Rattle.ttl_levels.specs.NestTables.{IsNestTable, NestTable}
use Rattle.ttl_nested.specs.Forms.{Line}
use Rattle.ttl_nested.specs.NestedText.{line_text, nested_lines, nested_text}
use Rattle.ttl_nested.proofs.FormLaws.{AreLinesKept, form_labels, lines_labels, lines_triples}
use Rattle.ttl_nested.proofs.NumberLaws.{number_in}
use Rattle.ttl_nested.proofs.ReadingLaws.{IsFormedLine, IsWithin}
use Rattle.ttl_nested.proofs.RenameLaws.{AreLinesOf, subject_kept}
use Rattle.ttl_write.specs.Formed.{AreFormed, IsFormedTerm, IsFormedTriple}
use Rattle.ttl_write.specs.Text.{prefix_line}
use Rattle.ttl_nest.proofs.ExistLaws.{graphs_have_a_form}
use Rattle.ttl_nest.proofs.FormLaws.{nested_nestable, shallow_at_top}
use Rattle.ttl_nest.proofs.OnceLaws.{apart_by_times, each_once, stands_somewhere, times}
use Rattle.ttl_nest.proofs.Parts.{from_parts}
use Rattle.ttl_nest.proofs.TripleLaws.{lines_own, lines_triples_in, on_line}
use Rattle.ttl_nest.proofs.WithinLaws.{form_formed, form_kept, form_labels_nested, form_within}
use Rattle.ttl_nest.specs.NestedForm.{AreLinesFor, IsNestedForm, IsTooLongText}
use Rattle.ttl_nest.specs.NestedForm.AreLinesFor.{inside, no_lines, one_line}

module _ (g : List Triple) where
  lines_labels_nested : (ts : List Triple) (lines : List Line) → AreLinesFor g ts lines → (label : List ℕ) → Contains (lines_labels lines) label → IsNested g (Blank label)
  lines_labels_nested _ _ no_lines label m = absurd (none label m)
    where
      none : (label : List ℕ) → Contains [] label → ⊥
      none label m = absurd (omega (arith, m.1))
  lines_labels_nested _ _ (inside t ts lines nested more) label m = lines_labels_nested ts lines more label m
  lines_labels_nested _ _ (one_line t ts line lines is more) label m = elim (from_parts (form_labels line.object) (lines_labels lines) label m) as (λ _. IsNested g (Blank label)) [
    | inl f ↦ form_labels_nested g line.object t.object is.object label f
    | inr b ↦ lines_labels_nested ts lines more label b
  ]

  lines_within : (ts : List Triple) (lines : List Line) → AreLinesFor g ts lines → AllByRecursion (λ line. IsWithin most_levels line.object) lines
  lines_within _ _ no_lines = tt
  lines_within _ _ (inside t ts lines nested more) = lines_within ts lines more
  lines_within _ _ (one_line t ts line lines is more) = (form_within g line.object t.object most_levels is.object (shallow_at_top g t.object), lines_within ts lines more)

  module _ (formed : AreFormed g) (subjects : (t : Triple) → Contains g t → IsSubject t.subject) where
    lines_formed : (ts : List Triple) (lines : List Line) → AreLinesFor g ts lines → ((t : Triple) → Contains ts t → Contains g t) → AllByRecursion IsFormedLine lines
    lines_formed _ _ no_lines within = tt
    lines_formed _ _ (inside t ts lines nested more) within = lines_formed ts lines more (λ u m. within u (in_tail t ts u m))
    lines_formed _ _ (one_line t ts line lines is more) within =
        let here = within t (in_head t ts) in
        let known = all_in IsFormedTriple g t formed here in (
          record {
            is_subject = subst IsSubject is.subject (subjects t here);
            subject = subst IsFormedTerm is.subject known.subject;
            predicate = subst IsIri is.predicate known.predicate;
            object = form_formed g formed line.object t.object known.object is.object;
          },
          lines_formed ts lines more (λ u m. within u (in_tail t ts u m)),
        )

    module _ (ls : List (List ℕ)) (all : (label : List ℕ) → Contains ls label → IsNested g (Blank label)) where
      lines_kept : (ts : List Triple) (lines : List Line) → AreLinesFor g ts lines → ((t : Triple) → Contains ts t → Contains g t) → AreLinesKept (number_in ls 0) lines
      lines_kept _ _ no_lines within = tt
      lines_kept _ _ (inside t ts lines nested more) within = lines_kept ts lines more (λ u m. within u (in_tail t ts u m))
      lines_kept _ _ (one_line t ts line lines is more) within = (
        subject_kept ls line.subject (subst IsSubject is.subject (subjects t (within t (in_head t ts)))) (λ label e m. is.not_nested (subst (IsNested g) (sym (is.subject ∙ e)) (all label m))),
        form_kept g ls all line.object t.object is.object,
        lines_kept ts lines more (λ u m. within u (in_tail t ts u m)),
      )

  module _ (lines : List Line) (h : IsNestedForm g lines) where
    all_nested : (label : List ℕ) → Contains (lines_labels lines) label → IsNested g (Blank label)
    all_nested = lines_labels_nested g lines h

    once : (label : List ℕ) → IsNested g (Blank label) → times (lines_labels lines) (Blank label) ≡ 1
    once label nested = each_once g lines h all_nested (Blank label) nested.level nested.has nested

    -- each triple of the graph is written
    is_written : (t : Triple) → Contains g t → Contains (lines_triples lines) t
    is_written t m = elim (on_line g g lines h t m) as (λ _. Contains (lines_triples lines) t) [
      | inl k ↦ k
      | inr nested ↦
          let node = nestable_number g t.subject (nested_nestable g t.subject nested) in
          let same = once node.label (subst (IsNested g) node.is nested) in
          lines_own g node.label t m node.is g lines h (stands_somewhere (lines_labels lines) node.label (omega (arith, same)))
    ]

    holds_same : HoldSame (lines_triples lines) g
    holds_same t = (lines_triples_in g g lines h (λ u m. m) t, is_written t)

    pub form_is_of : IsGraph g → AreFormed g → AreLinesOf (λ label. IsNested g (Blank label)) most_levels lines g
    form_is_of graph formed =
        let subjects = λ (t : Triple) (m : Contains g t). all_in (λ (u : Triple). IsSubject u.subject) g t graph.subjects m in
        record {
          formed = lines_formed formed subjects g lines h (λ t m. m);
          within = lines_within g lines h;
          subjects = all_from (λ (u : Triple). IsSubject u.subject) (lines_triples lines) (λ t m. subjects t ((holds_same t).0 m));
          same = holds_same;
          apart = apart_by_times (lines_labels lines) (λ label m. once label (all_nested label m));
          kept = lines_kept formed subjects (lines_labels lines) all_nested g lines h (λ t m. m);
          but = all_nested;
        }

-- the text of a form

pub text_is : (prefixes written : List Prefix) (lines : List Line) (none front whole : List ℕ) → written ≡ written_prefixes prefixes → none ≡ [] → front ≡ none ++ flat_map prefix_line written
    → whole ≡ front ++ flat_map (line_text written) lines → whole ≡ nested_text prefixes lines
text_is prefixes written lines none front whole is empty fronted lined =
    lined ∙ ap (λ (cs : List ℕ). cs ++ flat_map (line_text written) lines) (fronted ∙ ap (λ (cs : List ℕ). cs ++ flat_map prefix_line written) empty) ∙ ap (λ (ps : List Prefix). nested_lines ps lines) is

module _ (g : List Triple) (table : RoleTable) (is : IsTableOf g table) (nests : NestTable) (are : IsNestTable g nests) (prefixes written : List Prefix) (written_is : written ≡ written_prefixes prefixes) (none : List ℕ) (empty : none ≡ []) where
  too_long_by : (lines : List Line) → IsNestedForm g lines → IsTooLong (nested_text prefixes lines) → IsTooLongText prefixes g
  too_long_by lines form long = record { lines = lines; form = form; long = too_long_in_bytes (nested_text prefixes lines) long }

  pub prefixes_too_long : IsTooLong (none ++ flat_map prefix_line written) → IsTooLongText prefixes g
  prefixes_too_long long =
      let form = graphs_have_a_form g table is nests are in
      too_long_by form.0 form.1
      (subst IsTooLong (text_is prefixes written form.0 none (none ++ flat_map prefix_line written) _ written_is empty refl refl) (longer (none ++ flat_map prefix_line written) (flat_map (line_text written) form.0) long))

  pub lines_too_long : (front : List ℕ) → front ≡ none ++ flat_map prefix_line written → ((lines : List Line) → IsNestedForm g lines → IsTooLong (front ++ flat_map (line_text written) lines)) → IsTooLongText prefixes g
  lines_too_long front fronted long =
      let form = graphs_have_a_form g table is nests are in
      too_long_by form.0 form.1 (subst IsTooLong (text_is prefixes written form.0 none front _ written_is empty fronted refl) (long form.0 form.1))
