-- Each axiom that can be said is read back from a graph that keeps it.
use Rattle.std.proofs.Common.{◌≡◌, ◌≤◌, ◌+◌, ℕ, suc, true, false, List, [], ◌∷◌, inl, inr, refl, sym, ap, ◌∙◌, subst}
use Rattle.std.specs.Prelude.{Contains, map, ◌&&◌}
use Rattle.std.specs.List.{AllByRecursion, list_any}
use Rattle.std.proofs.lemmas.Bool.{and_parts, both_ways, cases_Bool}
use Rattle.owl_kind.specs.Kinds.{Entity}
use Rattle.owl_list.specs.Ascending.{AreApart}
use Rattle.owl_tree.specs.declared.tag.Tag.{Tag}
use Rattle.owl_tree.specs.declared.tag.Tag.TheVariants as tag
use Rattle.owl_tree.specs.Equivalence.{IsEquivalent}
use Rattle.owl_tree.specs.Rows.{admits, is_tag}
use Rattle.owl_tree.specs.Trees.{Tree, Kids, node, no_kids, kid, kids_of, list_of, tag_of}
use Rattle.rdf_graph.specs.declared.triple.Triple.{Triple}
use Rattle.rdf_meaning.specs.declared.row.Part.{Part}
use Rattle.rdf_meaning.specs.declared.row.Site.{Site}
use Rattle.rdf_meaning.specs.declared.row.Site.TheVariants.{Node, TypedBy, OtherType, LinkedBy, OtherLink}
use Rattle.rdf_meaning.specs.Denotation.{of_node, axiom_predicates}
use Rattle.rdf_meaning.specs.Nodes.{is_word}
use Rattle.rdf_meaning.specs.Rows.{Row, axiom_rows}
use Rattle.rdf_meaning.specs.Statements.{IsAxiomWith}
use Rattle.rdf_meaning.specs.Words.{word_iri}
use Rattle.rdf_mapping.specs.Drawing.{Placed, Statement, looped, arcs_of, by_kids, by_triple, fit, form_of, is_pair, kid_of, kids_seen, placed, stated, tags_of}
use Rattle.rdf_mapping.specs.Forms.{arc_nodes, blank}
use Rattle.rdf_mapping.specs.Frames.{AreNamedApart, IsOfNode, KeepsArcs}
use Rattle.rdf_mapping.proofs.NodeDrawingLaws.{same_tag}
use Rattle.rdf_mapping.specs.Spelling.{is_at_node}
use Rattle.rdf_mapping.proofs.StandingLaws.{standing_drawn}
use Rattle.rdf_mapping.specs.Written.{AreIndividuals, given, written}
use Rattle.rdf_axioms.proofs.AgreeLaws.{loop_agrees, row_agrees}
use Rattle.rdf_axioms.proofs.AxiomKidLaws.{HasNotes, axiom_node, can_behind, have_keys, kids_good}
use Rattle.rdf_axioms.specs.AxiomReading.{IsReadAt, IsReadBack, IsSayableAxiom}
use Rattle.rdf_axioms.specs.AxiomRows.{HasPairRow, member}
use Rattle.rdf_axioms.proofs.PartReadLaws.{IsOfIndividual, IsReadPart, all_drawn_well, both_keys_read, one_read, parts_read}
use Rattle.rdf_axioms.proofs.Placed.{is_of_subjects, is_triple_row, placings}
use Rattle.rdf_axioms.proofs.ReadLaws.{loop_read, triple_read}
use Rattle.rdf_axioms.proofs.RowStandLaws.{pair_wanted, row_stands, triple_row}
use Rattle.rdf_axioms.proofs.SayableTreeLaws.{IsSayableTree}
use Rattle.rdf_axioms.proofs.StatedLaws.{IsStated, as_loop, by_row, axiom_stated, link_apart, stated_triple}

-- these kids of an axiom of the tag are read back from what the statement is
pub record IsReadAs (name : ℕ → List ℕ) (most : ℕ) (g : List Triple) (k : List Entity) (t : Tag) (ks : Kids) (s : Statement) : Type 0 where
  pub kids : List Tree
  pub read : (n : ℕ) → IsReadAt name most g k t kids s n
  pub equivalent : (us vs : Tree) → IsEquivalent us vs → IsEquivalent (node t (kids_of (us ∷ kids))) (node t (kid vs ks))

module _ (name : ℕ → List ℕ) (most : ℕ) (differ : AreNamedApart name most) (g : List Triple) (k : List Entity) (apart : AreApart g) where
  abbrev IsGood : Tree → Type 0
  IsGood t = IsSayableTree k (IsOfIndividual g) t

  -- a row whose axioms have nodes
  node_read : (t : Tag) (us : List Tree) (site : Site) (qs : List Placed) (n : ℕ) → is_at_node site ≡ true → (n + suc (arc_nodes (arcs_of qs)) ≤ most → KeepsArcs name IsOfNode g (arcs_of qs) n → IsAxiomWith g k (of_node (blank name n)) t us) → IsReadAt name most g k t us (stated site qs) n
  node_read t us (Node role) qs n h read = read
  node_read t us (TypedBy w) qs n h read = absurd (both_ways false refl h)
  node_read t us OtherType qs n h read = absurd (both_ways false refl h)
  node_read t us (LinkedBy w) qs n h read = absurd (both_ways false refl h)
  node_read t us OtherLink qs n h read = absurd (both_ways false refl h)

  row_read : (t : Tag) (ns : Tree) (ks : Kids) → IsSayableAxiom k (node t (kid ns ks)) → AllByRecursion IsGood (list_of ks) → (r : Row) → Contains axiom_rows r → is_tag r.tag t ≡ true → fit r.parts (tags_of (map kid_of (list_of ks))) ≡ true → (n : ℕ) → IsReadAt name most g k t (given r.parts (map written (list_of ks))) (stated r.site (placed r.parts (map kid_of (list_of ks)))) n
  row_read t ns ks h all r m same f n =
      let ts = list_of ks in
      let tags = same_tag r.tag t same in
      elim (cases_Bool (is_at_node r.site)) [
        | inl y ↦
            node_read t (given r.parts (map written ts)) r.site (placed r.parts (map kid_of ts)) n y
            (λ few kept.
            subst (λ u. IsAxiomWith g k (of_node (blank name n)) u (given r.parts (map written ts))) tags
            (standing_drawn name most differ g k apart r m y ts f (all_drawn_well name most differ g k apart ts all) n few kept))
        | inr o ↦
            let d =
            row_stands (IsReadPart name most g k) IsGood (parts_read name most differ g k apart) (both_keys_read name most differ g k apart) r m o ts f all
            (λ key. have_keys t ns ks (ap (is_tag tag.HasKey) (sym tags) ∙ key) h.is.shaped.0) in
            subst (λ s. IsReadAt name most g k t (given r.parts (map written ts)) s n) (sym (stated_triple r.site (placed r.parts (map kid_of ts)) o))
            (subst (λ qs. IsReadAt name most g k t (given r.parts (map written ts)) (by_triple r.site qs) n) (sym d.forms)
            (subst (λ us. IsReadAt name most g k t us (by_triple r.site (placings (IsReadPart name most g k) r.parts d.placed_so)) n) (sym d.trees)
            (triple_read name most g k t r m tags r.site r.parts (triple_row r m o) refl refl d.placed_so n)))
      ]

  row_read_as : (t : Tag) (ns : Tree) (ks : Kids) → IsSayableAxiom k (node t (kid ns ks)) → AllByRecursion IsGood (list_of ks) → (r : Row) → Contains axiom_rows r → is_tag r.tag t ≡ true → fit r.parts (tags_of (map kid_of (list_of ks))) ≡ true → IsReadAs name most g k t ks (stated r.site (placed r.parts (map kid_of (list_of ks))))
  row_read_as t ns ks h all r m same f =
      record {
        kids = given r.parts (map written (list_of ks));
        read = row_read t ns ks h all r m same f;
        equivalent = λ us vs e.
            subst (λ u. IsEquivalent (node u (kids_of (us ∷ given r.parts (map written (list_of ks))))) (node u (kid vs ks))) (same_tag r.tag t same)
            (row_agrees r m ks f us vs e);
      }

  -- A set of one.

  loop_read_as : (t : Tag) (u : Tree) (p : HasPairRow t (tag_of u)) → is_pair t ≡ true → IsGood u → admits (member t) (tag_of u) ≡ true → IsReadAs name most g k t (kid u no_kids) (looped (word_iri p.word) (form_of u))
  loop_read_as t u p pair good m =
      let test : (list_any (is_word p.word) axiom_predicates && is_of_subjects (member t)) ≡ true =
      ap (λ (ps : List Part). is_triple_row (LinkedBy p.word) ps) (sym p.parts) ∙ ap (λ (s : Site). is_triple_row s p.row.parts) (sym p.site)
      ∙ triple_row p.row p.among (link_apart p.row.site p.word p.site) in
      let known = (and_parts (list_any (is_word p.word) axiom_predicates) (is_of_subjects (member t)) test).0 in
      record {
        kids = written u ∷ written u ∷ [];
        read =
            loop_read name most g k t p.row p.among (same_tag p.row.tag t p.tag) p.word (member t) known p.site p.parts (form_of u) (written u)
            (one_read name most differ g k apart (member t) u (pair_wanted t pair) m good);
        equivalent = λ us vs e. loop_agrees t pair u us vs e;
      }

  kids_read : (t : Tag) (ns : Tree) (ks : Kids) → IsSayableAxiom k (node t (kid ns ks)) → AllByRecursion IsGood (list_of ks) → IsStated t ks → IsReadAs name most g k t ks (by_kids t (kids_seen ks))
  kids_read t ns ks h all (by_row r m same f e) = subst (λ s. IsReadAs name most g k t ks s) (sym e) (row_read_as t ns ks h all r m same f)
  kids_read t ns ks h all (as_loop u p pair is m e) =
      subst (λ s. IsReadAs name most g k t ks s) (sym e)
      (subst (λ us. IsReadAs name most g k t us (looped (word_iri p.word) (form_of u))) (sym is)
      (loop_read_as t u p pair (subst (λ us. AllByRecursion IsGood (list_of us)) is all).0 m))

  whole_axiom : (t : Tag) (ns : Tree) (ks : Kids) → IsReadAs name most g k t ks (by_kids t (kids_seen ks)) → IsReadBack name most g k (node t (kid ns ks))
  whole_axiom t ns ks h = record { kids = h.kids; read = h.read; equivalent = h.equivalent }

  by_shape : (a : Tree) → IsSayableAxiom k a → AreIndividuals g a → HasNotes a → IsReadBack name most g k a
  by_shape a h single s =
      let sayable = subst (λ b. IsSayableAxiom k b) s.is h in
      let all = kids_good k (IsOfIndividual g) s.tag s.notes s.behind sayable (subst (λ b. AreIndividuals g b) s.is single) in
      subst (λ b. IsReadBack name most g k b) (sym s.is)
      (whole_axiom s.tag s.notes s.behind
      (kids_read s.tag s.notes s.behind sayable all (axiom_stated s.tag s.behind sayable.is.tag (can_behind k s.tag s.notes s.behind sayable))))

  -- each axiom that can be said is read back
  pub axiom_read_back : (a : Tree) → IsSayableAxiom k a → AreIndividuals g a → IsReadBack name most g k a
  axiom_read_back a h single = by_shape a h single (axiom_node a h.is)
