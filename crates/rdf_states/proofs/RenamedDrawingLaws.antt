-- What is drawn with other names of its nodes is what was drawn, under other labels, where the labels of the ontology stay.
use Rattle.std.proofs.Common.{◌≡◌, ◌+◌, ℕ, suc, false, List, [], ◌∷◌, ◌++◌, inl, inr, refl, sym, ap, ◌∙◌, subst}
use Rattle.std.specs.Prelude.{Contains, map, Option, None, Some}
use Rattle.std.specs.List.{AllByRecursion}
use Rattle.std.proofs.lemmas.Bool.{cases_Bool}
use Rattle.std.proofs.lemmas.List.{map-append}
use Rattle.std.proofs.lemmas.List.Elements.{Contains-append_left, Contains-append_right}
use Rattle.owl_list.proofs.AscendingLaws.{all_from, in_head, in_tail}
use Rattle.owl_tree.specs.declared.atom.Atom.{Atom}
use Rattle.owl_tree.specs.declared.atom.Atom.TheVariants as atom
use Rattle.owl_tree.specs.declared.tag.Tag.{Tag}
use Rattle.owl_tree.specs.declared.tag.Tag.TheVariants as tag
use Rattle.owl_tree.specs.Ontologies.{Head, Ontology, OntologyName}
use Rattle.owl_tree.specs.Rows.{is_tag}
use Rattle.owl_tree.specs.Trees.{Tree, Kids, leaf, node, no_kids, kid}
use Rattle.rdf_graph.specs.declared.term.Term.{Term}
use Rattle.rdf_graph.specs.declared.term.Term.TheVariants.{Iri, Blank, Literal}
use Rattle.rdf_graph.specs.declared.triple.Triple.{Triple}
use Rattle.rdf_meaning.specs.declared.word.Word.{Word}
use Rattle.rdf_meaning.specs.declared.word.Word.TheVariants as word
use Rattle.rdf_meaning.specs.Nodes.{nil_iri, type_iri}
use Rattle.rdf_meaning.specs.Rows.{Row, node_rows}
use Rattle.rdf_meaning.specs.Words.{word_iri}
use Rattle.rdf_mapping.specs.Drawing.{Kid, Statement, linked, linked_back, looped, standing, unsaid, arcs_of, atom_term, facet_arcs, kid_of, kids_seen, node_form, placed, row_for, statement_of, tags_of}
use Rattle.rdf_mapping.specs.Forms.{Form, plain, made, twice, Arcs, no_arcs, arc, arc_nodes, arc_triples, blank, first_iri, link, list_form, nodes, rest_iri, term_of, triples}
use Rattle.rdf_mapping.specs.FormSorts.{AllForms}
use Rattle.rdf_mapping.specs.Graphs.{Group, all_labels_in, axiom_notes, bare, group_triples, groups_of, head_triples, header_nodes, header_term, import_triples, labels_in, labels_of, linked_triples, made_triples, main_triple, notes_from, set_triples, standing_triples, statement_nodes, statement_triples, version_of, version_triples}
use Rattle.rdf_mapping.proofs.GroupLaws.{group_of_axiom, set_of_axiom}
use Rattle.rdf_mapping.proofs.NodeDrawingLaws.{row_form}
use Rattle.rdf_mapping.specs.Notes.{Notes, no_notes, note, annotation_in, note_nodes, note_triples, notes_in, notes_of, reified, reified_nodes, reifying, where_some}
use Rattle.rdf_mapping.proofs.TreeSortLaws.{facet_form}
use Rattle.rdf_states.proofs.EndLaws.{HoldsOfLists, KidSorts, arc_sorts, by_kids_sorts, kid_forms, placed_sorts}
use Rattle.rdf_states.specs.Places.{AllEnds}
use Rattle.rdf_states.proofs.ReadLaws.{labels_among}
use Rattle.rdf_states.specs.Renamed.{renamed, renamed_term}
use Rattle.rdf_states.proofs.StatedLaws.{bare_statement}

no_form : (t : Tag) (ks : List Kid) → is_tag tag.FacetPair t ≡ false → row_for node_rows t (tags_of ks) ≡ None → node_form t ks ≡ made no_arcs
no_form t ks e h = rw (e, h) refl

module _ (rename : List ℕ → List ℕ) where
  abbrev pub Stay : List (List ℕ) → Type 0
  Stay labels = (label : List ℕ) → Contains labels label → rename label ≡ label

  stay_first : (xs ys : List (List ℕ)) → Stay (xs ++ ys) → Stay xs
  stay_first xs ys h label m = h label (Contains-append_left xs ys label m)

  stay_others : (xs ys : List (List ℕ)) → Stay (xs ++ ys) → Stay ys
  stay_others xs ys h label m = h label (Contains-append_right xs ys label m)

  atom_stays : (t : Tag) (a : Atom) → Stay (labels_in (leaf t a)) → renamed_term rename (atom_term a) ≡ atom_term a
  atom_stays t (atom.Iri iri) h = refl
  atom_stays t (atom.Label label) h = ap Blank (h label (in_head label []))
  atom_stays t (atom.Literal literal) h = refl
  atom_stays t (atom.Number n) h = refl

  -- The values of annotations.

  abbrev NotesStay : Notes → Type 0
  NotesStay no_notes = Unit {0}
  NotesStay (note p v inside more) = (renamed_term rename v ≡ v) × (NotesStay inside × NotesStay more)

  mutual
    notes_stay : (t : Tree) → Stay (labels_in t) → NotesStay (notes_of t)
    notes_stay (leaf t a) h = tt
    notes_stay (node t ks) h = all_notes_stay ks h

    all_notes_stay : (ks : Kids) → Stay (all_labels_in ks) → NotesStay (notes_in ks)
    all_notes_stay no_kids h = tt
    all_notes_stay (kid t ks) h =
        annotation_stays t (notes_in ks) (stay_first (labels_in t) (all_labels_in ks) h) (all_notes_stay ks (stay_others (labels_in t) (all_labels_in ks) h))

    annotation_stays : (t : Tree) (more : Notes) → Stay (labels_in t) → NotesStay more → NotesStay (annotation_in t more)
    annotation_stays (node t (kid ns (kid (leaf tp (atom.Iri p)) (kid (leaf tv v) no_kids)))) more h m = (
      atom_stays tv v (stay_first (labels_in (leaf tv v)) [] (stay_others (labels_in ns) (labels_in (leaf tv v) ++ []) h)),
      (notes_stay ns (stay_first (labels_in ns) (labels_in (leaf tv v) ++ []) h), m),
    )
    annotation_stays _ more h m = m

  axiom_notes_stay : (a : Tree) → Stay (labels_in a) → NotesStay (axiom_notes a)
  axiom_notes_stay (leaf t a) h = tt
  axiom_notes_stay (node t no_kids) h = tt
  axiom_notes_stay (node t (kid ns ks)) h = notes_stay ns (stay_first (labels_in ns) (all_labels_in ks) h)

  header_notes_stay : (ts : List Tree) → ((t : Tree) → Contains ts t → Stay (labels_in t)) → NotesStay (notes_from ts)
  header_notes_stay [] h = tt
  header_notes_stay (t ∷ ts) h = annotation_stays t (notes_from ts) (h t (in_head t ts)) (header_notes_stay ts (λ u m. h u (in_tail t ts u m)))

  module _ (name : ℕ → List ℕ) where
    abbrev pub other : ℕ → List ℕ
    other n = rename (name n)

    abbrev again : List Triple → List Triple
    again ts = map (renamed rename) ts

    both : (xs ys us vs : List Triple) → xs ≡ again us → ys ≡ again vs → xs ++ ys ≡ again (us ++ vs)
    both xs ys us vs h k = (λ i. h i ++ k i) ∙ sym (map-append (renamed rename) us vs)

    -- Forms.

    record IsAlike (f : Form) : Type 0 where
      pub begins : (n : ℕ) → term_of other f n ≡ renamed_term rename (term_of name f n)
      pub goes_on : (n : ℕ) → triples other f n ≡ again (triples name f n)

    plain_alike : (x : Term) → renamed_term rename x ≡ x → IsAlike (plain x)
    plain_alike x e = record { begins = λ n. sym e; goes_on = λ n. refl }

    arcs_alike : (x : Term) (arcs : Arcs) (n : ℕ) → AllForms IsAlike arcs → arc_triples other (renamed_term rename x) arcs n ≡ again (arc_triples name x arcs n)
    arcs_alike x no_arcs n all = refl
    arcs_alike x (arc p f more) n all =
        let rest = both _ _ _ _ (all.0.goes_on n) (arcs_alike x more (n + nodes f) all.1) in
        λ i. link (renamed_term rename x) p (all.0.begins n i) ∷ rest i

    made_alike : (arcs : Arcs) → AllForms IsAlike arcs → IsAlike (made arcs)
    made_alike arcs all = record { begins = λ n. refl; goes_on = λ n. arcs_alike (blank name n) arcs (suc n) all }

    list_alike : (fs : List Form) → AllByRecursion IsAlike fs → IsAlike (list_form fs)
    list_alike [] all = plain_alike (Iri nil_iri) refl
    list_alike (f ∷ fs) all = made_alike (arc first_iri f (arc rest_iri (list_form fs) no_arcs)) (all.0, (list_alike fs all.1, tt))

    twice_alike : (f : Form) → IsAlike f → IsAlike (twice f)
    twice_alike f h = record {
      begins = λ n. refl;
      goes_on = λ n.
          let x = blank other n in
          let y = blank other (suc n + nodes f) in
          let rest = both _ _ _ _ (h.goes_on (suc n)) (λ i. link x rest_iri y ∷ link y first_iri (h.begins (suc n) i) ∷ link y rest_iri (Iri nil_iri) ∷ []) in
          λ i. link x first_iri (h.begins (suc n) i) ∷ rest i;
    }

    alike_lists : HoldsOfLists IsAlike
    alike_lists = record {
      iri = λ iri. plain_alike (Iri iri) refl;
      literal = λ literal. plain_alike (Literal literal) refl;
      list = list_alike;
      twice_over = twice_alike;
    }

    -- Trees.

    abbrev KidAlike : Kid → Type 0
    KidAlike q = KidSorts IsAlike alike_lists q

    facet_alike : (ks : List Kid) → AllByRecursion KidAlike ks → AllForms IsAlike (facet_arcs ks)
    facet_alike [] all = tt
    facet_alike (q ∷ []) all = tt
    facet_alike (q ∷ r ∷ []) all = by q.form
      where
        by : (f : Form) → AllForms IsAlike (facet_arcs (record { tag = q.tag; form = f; members = q.members } ∷ r ∷ []))
        by (plain (Iri iri)) = (all.1.0.0, tt)
        by (plain (Blank label)) = tt
        by (plain (Literal literal)) = tt
        by (made arcs) = tt
        by (twice f) = tt
    facet_alike (q ∷ r ∷ s ∷ ks) all = tt

    node_alike : (t : Tag) (ks : List Kid) → AllByRecursion KidAlike ks → IsAlike (node_form t ks)
    node_alike t ks all =
        elim (cases_Bool (is_tag tag.FacetPair t)) [
          | inl y ↦ subst IsAlike (sym (facet_form t ks y)) (made_alike (facet_arcs ks) (facet_alike ks all))
          | inr n ↦ by n (row_for node_rows t (tags_of ks)) refl
        ]
      where
        by : is_tag tag.FacetPair t ≡ false → (r : Option Row) → row_for node_rows t (tags_of ks) ≡ r → IsAlike (node_form t ks)
        by n None e = subst IsAlike (sym (no_form t ks n e)) (made_alike no_arcs tt)
        by n (Some r) e =
            subst IsAlike (sym (row_form t ks r n e))
            (made_alike (arcs_of (placed r.parts ks)) (arc_sorts IsAlike alike_lists (placed r.parts ks) (placed_sorts IsAlike alike_lists r.parts ks all)))

    mutual
      kid_alike : (t : Tree) → Stay (labels_in t) → KidAlike (kid_of t)
      kid_alike (leaf t a) h = (plain_alike (atom_term a) (atom_stays t a h), tt)
      kid_alike (node t ks) h =
          let all = kids_alike ks h in (node_alike t (kids_seen ks) all, kid_forms IsAlike alike_lists (kids_seen ks) all)

      kids_alike : (ks : Kids) → Stay (all_labels_in ks) → AllByRecursion KidAlike (kids_seen ks)
      kids_alike no_kids h = tt
      kids_alike (kid t ks) h =
          (kid_alike t (stay_first (labels_in t) (all_labels_in ks) h), kids_alike ks (stay_others (labels_in t) (all_labels_in ks) h))

    ends_alike : (a : Tree) → Stay (labels_in a) → AllEnds IsAlike (statement_of a)
    ends_alike (leaf t a) h = tt
    ends_alike (node t no_kids) h = tt
    ends_alike (node t (kid ns ks)) h =
        by_kids_sorts IsAlike alike_lists t (kids_seen ks) (kids_alike ks (stay_others (labels_in ns) (all_labels_in ks) h))

    -- Annotations.

    some_alike : (ns : Notes) (xs us : List Triple) → xs ≡ again us → where_some ns [] xs ≡ again (where_some ns [] us)
    some_alike no_notes xs us h = refl
    some_alike (note p v inside more) xs us h = h

    notes_alike : (x : Term) (ns : Notes) (n : ℕ) → NotesStay ns → note_triples other (renamed_term rename x) ns n ≡ again (note_triples name x ns n)
    notes_alike x no_notes n h = refl
    notes_alike x (note p v inside more) n h =
        let same : link (renamed_term rename x) p v ≡ renamed rename (link x p v) = λ i. link (renamed_term rename x) p (sym h.0 i) in
        let own = both _ _ (reifying word.Annotation (blank name n) (link x p v)) _ (ap (reifying word.Annotation (blank other n)) same) (notes_alike (blank name n) inside (suc n) h.1.0) in
        let rest = both _ _ _ _ (some_alike inside _ _ own) (notes_alike x more (n + reified_nodes inside) h.1.1) in
        λ i. same i ∷ rest i

    reified_alike : (w : Word) (t : Triple) (ns : Notes) (n : ℕ) → NotesStay ns → reified other w (renamed rename t) ns n ≡ again (reified name w t ns n)
    reified_alike w t ns n h = some_alike ns _ _ (both _ _ (reifying w (blank name n) t) _ refl (notes_alike (blank name n) ns (suc n) h))

    sets_alike : (t : Triple) (sets : List Notes) (n : ℕ) → AllByRecursion NotesStay sets → set_triples other (renamed rename t) sets n ≡ again (set_triples name t sets n)
    sets_alike t [] n h = refl
    sets_alike t (ns ∷ sets) n h = both _ _ _ _ (reified_alike word.Axiom t ns n h.0) (sets_alike t sets (n + reified_nodes ns) h.1)

    -- Statements.

    standing_alike : (arcs : Arcs) (sets : List Notes) (n : ℕ) → AllForms IsAlike arcs → AllByRecursion NotesStay sets → standing_triples other arcs sets n ≡ again (standing_triples name arcs sets n)
    standing_alike arcs [] n all h = refl
    standing_alike arcs (ns ∷ sets) n all h =
        both _ _ _ _ ((made_alike arcs all).goes_on n)
        (both _ _ _ _ (notes_alike (blank name n) ns (n + suc (arc_nodes arcs)) h.0) (standing_alike arcs sets (n + (suc (arc_nodes arcs) + note_nodes ns)) all h.1))

    main_alike : (s : Term) (p : List ℕ) (o : Term) (xs us : List Triple) → xs ≡ again us → main_triple other (renamed_term rename s) p (renamed_term rename o) xs ≡ again (main_triple name s p o us)
    main_alike (Iri s) p o xs us h = ap (λ (ts : List Triple). renamed rename (link (Iri s) p o) ∷ ts) h
    main_alike (Blank s) p o xs us h = ap (λ (ts : List Triple). renamed rename (link (Blank s) p o) ∷ ts) h
    main_alike (Literal s) p o xs us h = h

    linked_alike : (s x : Term) (p : List ℕ) (o y : Term) (ends xs : List Triple) (sets : List Notes) (n : ℕ) → x ≡ renamed_term rename s → y ≡ renamed_term rename o → xs ≡ again ends → AllByRecursion NotesStay sets → linked_triples other x p y xs sets n ≡ again (linked_triples name s p o ends sets n)
    linked_alike s x p o y ends xs sets n hs ho he h =
        (λ i. linked_triples other (hs i) p (ho i) (he i) sets n)
        ∙ both _ _ ends _ refl (main_alike s p o _ (set_triples name (link s p o) sets n) (sets_alike (link s p o) sets n h))

    statement_alike : (s : Statement) (sets : List Notes) (n : ℕ) → AllEnds IsAlike s → AllByRecursion NotesStay sets → statement_triples other s sets n ≡ again (statement_triples name s sets n)
    statement_alike (linked f p q) sets n all h =
        let b = n + nodes f in
        linked_alike (term_of name f n) (term_of other f n) p (term_of name q b) (term_of other q b) (triples name f n ++ triples name q b) (triples other f n ++ triples other q b)
        sets (n + (nodes f + nodes q)) (all.0.begins n) (all.1.begins b) (both _ _ _ _ (all.0.goes_on n) (all.1.goes_on b)) h
    statement_alike (linked_back f p q) sets n all h =
        let b = n + nodes f in
        linked_alike (term_of name q b) (term_of other q b) p (term_of name f n) (term_of other f n) (triples name f n ++ triples name q b) (triples other f n ++ triples other q b)
        sets (n + (nodes f + nodes q)) (all.1.begins b) (all.0.begins n) (both _ _ _ _ (all.0.goes_on n) (all.1.goes_on b)) h
    statement_alike (looped p f) sets n all h =
        linked_alike (term_of name f n) (term_of other f n) p (term_of name f n) (term_of other f n) (triples name f n) (triples other f n)
        sets (n + nodes f) (all.begins n) (all.begins n) (all.goes_on n) h
    statement_alike (standing arcs) sets n all h = standing_alike arcs sets n all h
    statement_alike unsaid sets n all h = refl

    groups_alike : (gs : List Group) (n : ℕ) → ((q : Group) → Contains gs q → AllEnds IsAlike q.statement × AllByRecursion NotesStay q.sets) → group_triples other gs n ≡ again (group_triples name gs n)
    groups_alike [] n each = refl
    groups_alike (q ∷ gs) n each =
        let own = each q (in_head q gs) in
        both _ _ _ _ (statement_alike q.statement q.sets n own.0 own.1) (groups_alike gs (n + statement_nodes q.statement q.sets) (λ r m. each r (in_tail q gs r m)))

    -- The header.

    header_alike : (n : Option OntologyName) → header_term other n ≡ renamed_term rename (header_term name n)
    header_alike None = refl
    header_alike (Some n) = refl

    version_alike : (x : Term) (version : Option (List ℕ)) → version_triples (renamed_term rename x) version ≡ again (version_triples x version)
    version_alike x None = refl
    version_alike x (Some iri) = refl

    imports_alike : (x : Term) (iris : List (List ℕ)) → import_triples (renamed_term rename x) iris ≡ again (import_triples x iris)
    imports_alike x [] = refl
    imports_alike x (iri ∷ iris) =
        ap (λ (ts : List Triple). link (renamed_term rename x) (word_iri word.Imports) (Iri iri) ∷ ts) (imports_alike x iris)

    head_alike : (x : Term) (h : Head) → head_triples (renamed_term rename x) h ≡ again (head_triples x h)
    head_alike x h =
        ap (λ (ts : List Triple). link (renamed_term rename x) type_iri (Iri (word_iri word.Ontology)) ∷ ts)
        (both _ _ _ _ (version_alike x (version_of h.name)) (imports_alike x h.imports))

    -- and so all that is drawn of an ontology whose labels stay
    module _ (o : Ontology) (stay : Stay (labels_of o)) where
      tree_stays : (t : Tree) → Contains (o.annotations ++ o.axioms) t → Stay (labels_in t)
      tree_stays t m label i = stay label (labels_among (o.annotations ++ o.axioms) t label m i)

      axiom_stays : (a : Tree) → Contains o.axioms a → Stay (labels_in a)
      axiom_stays a m = tree_stays a (Contains-append_right o.annotations o.axioms a m)

      group_stays : (q : Group) → Contains (groups_of o.axioms) q → AllEnds IsAlike q.statement × AllByRecursion NotesStay q.sets
      group_stays q m =
          let a = group_of_axiom o.axioms q m in (
            subst (AllEnds IsAlike) (sym (bare_statement a.0) ∙ ap (λ (r : Group). r.statement) a.2) (ends_alike a.0 (axiom_stays a.0 a.1)),
            all_from NotesStay q.sets (λ ns i.
                let b = set_of_axiom o.axioms (bare a.0) ns (subst (λ (r : Group). Contains r.sets ns) (sym a.2) i) in
                subst NotesStay b.3 (axiom_notes_stay b.0 (axiom_stays b.0 b.1))),
          )

      pub drawing_alike : made_triples other o ≡ again (made_triples name o)
      drawing_alike =
          let x = header_term name o.head.name in
          let ns = notes_from o.annotations in
          let a = header_nodes o.head.name in
          let gs = group_triples other (groups_of o.axioms) (a + note_nodes ns) in
          let notes = header_notes_stay o.annotations (λ t m. tree_stays t (Contains-append_left o.annotations o.axioms t m)) in
          ap (λ (y : Term). head_triples y o.head ++ (note_triples other y ns a ++ gs)) (header_alike o.head.name)
          ∙ both _ _ (head_triples x o.head) _ (head_alike x o.head) (both _ _ _ _ (notes_alike x ns a notes) (groups_alike (groups_of o.axioms) (a + note_nodes ns) group_stays))
