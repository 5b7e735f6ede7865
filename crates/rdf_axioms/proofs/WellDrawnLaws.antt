-- Each axiom that can be said has a place in a graph, and is told from all else there.
use Rattle.std.proofs.Common.{◌≡◌, ℕ, true, false, List, [], ◌∷◌, inl, inr, refl, sym, ap, ◌∙◌, subst}
use Rattle.std.specs.Prelude.{Contains, map, ◌&&◌}
use Rattle.std.specs.List.{AllByRecursion, list_all, list_any}
use Rattle.std.specs.declared.cmp.Ordering.TheVariants.{Less}
use Rattle.std.proofs.lemmas.Bool.{and_parts, both_ways, cases_Bool}
use Rattle.owl_kind.specs.Kinds.{Entity}
use Rattle.owl_list.specs.Ascending.{IsAscending}
use Rattle.owl_list.proofs.AscendingLaws.{head_below}
use Rattle.owl_tree.specs.declared.row.Sort.{Sort}
use Rattle.owl_tree.specs.declared.row.Sort.TheVariants as sort
use Rattle.owl_tree.specs.declared.tag.Tag.{Tag}
use Rattle.owl_tree.specs.declared.tag.Tag.TheVariants as tag
use Rattle.owl_tree.proofs.CanonicalLaws.{ascends_is_canonical}
use Rattle.owl_tree.specs.Order.{tree_cmp}
use Rattle.owl_tree.specs.Rows.{admits, is_tag, row_of}
use Rattle.owl_tree.specs.Tags.{number_of}
use Rattle.owl_tree.specs.Trees.{Tree, Kids, node, kid, list_of, tag_of}
use Rattle.rdf_graph.specs.declared.term.Term.TheVariants.{Blank}
use Rattle.rdf_meaning.proofs.ListLaws.{nothing_else, same_front}
use Rattle.rdf_meaning.specs.declared.row.Part.{Part}
use Rattle.rdf_meaning.specs.declared.row.Place.TheVariants.{Subject, Object}
use Rattle.rdf_meaning.specs.declared.row.Want.{Want}
use Rattle.rdf_meaning.specs.declared.row.Site.{Site}
use Rattle.rdf_meaning.specs.declared.row.Site.TheVariants.{Node, TypedBy, OtherType, LinkedBy, OtherLink}
use Rattle.rdf_meaning.specs.declared.word.Word.{Word}
use Rattle.rdf_meaning.specs.Denotation.{axiom_predicates}
use Rattle.rdf_meaning.specs.Nodes.{is_iri, is_word}
use Rattle.rdf_meaning.specs.Rows.{Row, axiom_rows}
use Rattle.rdf_meaning.specs.Words.{word_iri}
use Rattle.rdf_mapping.specs.Drawing.{Placed, looped, by_kids, by_triple, fit, form_of, is_pair, kid_of, kids_seen, placed, placed_at, stated, statement_of, tags_of}
use Rattle.rdf_mapping.specs.Forms.{Form, term_of}
use Rattle.rdf_mapping.specs.Frames.{IsForeign, is_node_word}
use Rattle.rdf_mapping.specs.LinkedLaws.{two_parts}
use Rattle.rdf_mapping.proofs.NodeDrawingLaws.{same_tag}
use Rattle.rdf_mapping.specs.Sorts.{by_link}
use Rattle.rdf_mapping.specs.Spelling.{is_at_node}
use Rattle.rdf_axioms.specs.AxiomReading.{AreForeignLabels, IsSayableAxiom, IsWellDrawn}
use Rattle.rdf_axioms.proofs.AxiomKidLaws.{HasNotes, axiom_node, can_behind, have_keys, inverses_ascend, kids_good}
use Rattle.rdf_axioms.specs.AxiomRows.{HasPairRow, member, members_fit}
use Rattle.rdf_axioms.proofs.DrawnLaws.{AreOrdered, IsEndAt, IsOrdered, ends_given, keys_given, tree_apart, triple_well}
use Rattle.rdf_axioms.proofs.EndLaws.{in_words, named_term, property_term, tree_subject}
use Rattle.rdf_axioms.proofs.MemberLaws.{named_below}
use Rattle.rdf_axioms.proofs.Placed.{StandAt, is_of_subjects, is_triple_row}
use Rattle.rdf_axioms.proofs.RowStandLaws.{inverse_parts, inverse_row, row_stands, triple_row}
use Rattle.rdf_axioms.proofs.SayableTreeLaws.{IsSayableTree}
use Rattle.rdf_axioms.proofs.StatedLaws.{IsStated, as_loop, by_row, axiom_stated, link_apart, stated_triple}

module _ (name : ℕ → List ℕ) (most : ℕ) (k : List Entity) where
  abbrev IsGood : Tree → Type 0
  IsGood t = IsSayableTree k (λ label. IsForeign name most (Blank label)) t

  node_well : (site : Site) (qs : List Placed) → is_at_node site ≡ true → IsWellDrawn name most (stated site qs)
  node_well (Node role) qs h = record { said = λ e. cc; apart = tt; subject = λ n. tt; says = λ n. tt }
  node_well (TypedBy w) qs h = absurd (both_ways false refl h)
  node_well OtherType qs h = absurd (both_ways false refl h)
  node_well (LinkedBy w) qs h = absurd (both_ways false refl h)
  node_well OtherLink qs h = absurd (both_ways false refl h)

  -- of two properties in order the first has a name if the second has
  ordered : (u v : Tree) → IsGood u → IsGood v → admits sort.ObjectPropertyExpression (tag_of u) ≡ true → admits sort.ObjectPropertyExpression (tag_of v) ≡ true → tree_cmp u v ≡ Less → IsOrdered name most k (form_of u) (form_of v)
  ordered u v good fine m p below i j =
      elim (property_term name v j fine.shaped p) [
        | inl named ↦ inr (named_term name u i good.shaped good.sayable (named_below u v m below named))
        | inr blank ↦ inl blank
      ]

  abbrev FirstOrdered : List Tree → Type 0
  FirstOrdered [] = Unit {0}
  FirstOrdered (u ∷ []) = Unit {0}
  FirstOrdered (u ∷ v ∷ ts) = IsOrdered name most k (form_of u) (form_of v)

  members_ordered : (ts : List Tree) → IsAscending tree_cmp ts → AllByRecursion IsGood ts → list_all (admits sort.ObjectPropertyExpression) (map tag_of ts) ≡ true → FirstOrdered ts
  members_ordered [] a all m = tt
  members_ordered (u ∷ []) a all m = tt
  members_ordered (u ∷ v ∷ ts) a all m =
      let first = and_parts (admits sort.ObjectPropertyExpression (tag_of u)) _ m in
      let second = and_parts (admits sort.ObjectPropertyExpression (tag_of v)) _ first.1 in
      ordered u v all.0 all.1.0 first.0 second.0 (head_below tree_cmp u (v ∷ ts) a).0

  abbrev IsEnd : Want → Form → List Tree → Type 0
  IsEnd w f us = IsEndAt name most k w f us

  two_ordered : (s : Sort) (ts : List Tree) → FirstOrdered ts → (d : StandAt IsEnd (two_parts s s) ts) → AreOrdered name most k (two_parts s s) d.placed_so
  unfolding placed
  two_ordered s [] h d = absurd (nothing_else _ _ d.forms)
  two_ordered s (u ∷ []) h d = absurd (nothing_else _ _ (same_front _ _ _ _ d.forms).1)
  two_ordered s (u ∷ v ∷ ts) h d =
      let first = same_front (placed_at Subject (form_of u)) (placed_at Subject d.placed_so.0.form) (placed_at Object (form_of v) ∷ []) (placed_at Object d.placed_so.1.0.form ∷ []) d.forms in
      let second = same_front (placed_at Object (form_of v)) (placed_at Object d.placed_so.1.0.form) [] [] first.1 in
      subst (λ f. IsOrdered name most k f d.placed_so.1.0.form) (ap (λ (q : Placed). q.form) first.0)
      (subst (λ q. IsOrdered name most k (form_of u) q) (ap (λ (q : Placed). q.form) second.0) h)

  ordered_at : (s : Sort) (ps : List Part) → ps ≡ two_parts s s → (ts : List Tree) → FirstOrdered ts → (d : StandAt IsEnd ps ts) → AreOrdered name most k ps d.placed_so
  ordered_at s ps e ts h = subst (λ qs. (d : StandAt IsEnd qs ts) → AreOrdered name most k qs d.placed_so) (sym e) (two_ordered s ts h)

  -- Rows.

  inverse_member : member tag.InverseObjectProperties ≡ sort.ObjectPropertyExpression
  unfolding row_of
  inverse_member = refl

  inverse_pair : is_pair tag.InverseObjectProperties ≡ true
  unfolding is_pair number_of
  inverse_pair = refl

  row_ordered : (t : Tag) (ns : Tree) (ks : Kids) → IsSayableAxiom k (node t (kid ns ks)) → AllByRecursion IsGood (list_of ks) → (r : Row) → Contains axiom_rows r → is_tag r.tag t ≡ true → (d : StandAt IsEnd r.parts (list_of ks)) → (w : Word) → r.site ≡ LinkedBy w → is_node_word w ≡ true → AreOrdered name most k r.parts d.placed_so
  row_ordered t ns ks h all r m same d w e n =
      let inverse = inverse_row r w m e n in
      let is : t ≡ tag.InverseObjectProperties = sym (same_tag r.tag t same) ∙ sym (same_tag tag.InverseObjectProperties r.tag inverse) in
      let fits = members_fit t (map tag_of (list_of ks)) (ap is_pair is ∙ inverse_pair) (can_behind k t ns ks h).fits in
      let suits = ap (λ (s : Sort). list_all (admits s) (map tag_of (list_of ks))) (sym (ap member is ∙ inverse_member)) ∙ fits in
      ordered_at sort.ObjectPropertyExpression r.parts (inverse_parts r m inverse) (list_of ks)
      (members_ordered (list_of ks) (inverses_ascend t ns ks is ((ascends_is_canonical (node t (kid ns ks))).1 h.canonical)) all suits) d

  row_well : (t : Tag) (ns : Tree) (ks : Kids) → IsSayableAxiom k (node t (kid ns ks)) → AllByRecursion IsGood (list_of ks) → (r : Row) → Contains axiom_rows r → is_tag r.tag t ≡ true → fit r.parts (tags_of (map kid_of (list_of ks))) ≡ true → IsWellDrawn name most (stated r.site (placed r.parts (map kid_of (list_of ks))))
  row_well t ns ks h all r m same f =
      elim (cases_Bool (is_at_node r.site)) [
        | inl y ↦ node_well r.site (placed r.parts (map kid_of (list_of ks))) y
        | inr n ↦
            let d =
            row_stands IsEnd IsGood (ends_given name most k) (keys_given name most k) r m n (list_of ks) f all
            (λ key. have_keys t ns ks (ap (is_tag tag.HasKey) (sym (same_tag r.tag t same)) ∙ key) h.is.shaped.0) in
            subst (λ s. IsWellDrawn name most s) (sym (stated_triple r.site (placed r.parts (map kid_of (list_of ks))) n))
            (subst (λ qs. IsWellDrawn name most (by_triple r.site qs)) (sym d.forms)
            (triple_well name most k r.site r.parts (triple_row r m n) d.placed_so (row_ordered t ns ks h all r m same d)))
      ]

  -- A set of one.

  loop_well : (t : Tag) (u : Tree) (p : HasPairRow t (tag_of u)) → IsGood u → admits (member t) (tag_of u) ≡ true → IsWellDrawn name most (looped (word_iri p.word) (form_of u))
  loop_well t u p good m =
      let test : (list_any (is_word p.word) axiom_predicates && is_of_subjects (member t)) ≡ true =
      ap (λ (ps : List Part). is_triple_row (LinkedBy p.word) ps) (sym p.parts) ∙ ap (λ (s : Site). is_triple_row s p.row.parts) (sym p.site)
      ∙ triple_row p.row p.among (link_apart p.row.site p.word p.site) in
      let parts = and_parts (list_any (is_word p.word) axiom_predicates) (is_of_subjects (member t)) test in
      record {
        said = λ e. cc;
        apart = tree_apart name most k u good.labels;
        subject = λ n. (tree_subject name (member t) u n parts.1 m good.shaped, tt);
        says = λ n. (
          by_link p.word (in_words p.word axiom_predicates parts.0) refl (λ w. elim (cases_Bool (is_iri (term_of name (form_of u) n))) [ inl y ↦ inr y | inr e ↦ inl e ]),
          tt,
        );
      }

  kids_well : (t : Tag) (ns : Tree) (ks : Kids) → IsSayableAxiom k (node t (kid ns ks)) → AllByRecursion IsGood (list_of ks) → IsStated t ks → IsWellDrawn name most (by_kids t (kids_seen ks))
  kids_well t ns ks h all (by_row r m same f e) = subst (λ s. IsWellDrawn name most s) (sym e) (row_well t ns ks h all r m same f)
  kids_well t ns ks h all (as_loop u p pair is m e) =
      subst (λ s. IsWellDrawn name most s) (sym e) (loop_well t u p (subst (λ us. AllByRecursion IsGood (list_of us)) is all).0 m)

  by_shape : (a : Tree) → IsSayableAxiom k a → AreForeignLabels name most a → HasNotes a → IsWellDrawn name most (statement_of a)
  by_shape a h labels s =
      let sayable = subst (λ b. IsSayableAxiom k b) s.is h in
      let all = kids_good k (λ label. IsForeign name most (Blank label)) s.tag s.notes s.behind sayable (subst (λ b. AreForeignLabels name most b) s.is labels) in
      subst (λ b. IsWellDrawn name most (statement_of b)) (sym s.is)
      (kids_well s.tag s.notes s.behind sayable all (axiom_stated s.tag s.behind sayable.is.tag (can_behind k s.tag s.notes s.behind sayable)))

  -- each axiom that can be said has a place in a graph
  pub axiom_well_drawn : (a : Tree) → IsSayableAxiom k a → AreForeignLabels name most a → IsWellDrawn name most (statement_of a)
  axiom_well_drawn a h labels = by_shape a h labels (axiom_node a h.is)
