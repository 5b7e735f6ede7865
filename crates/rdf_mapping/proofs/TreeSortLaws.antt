-- What is drawn of a tree makes its nodes what they are.
use Rattle.std.proofs.Common.{◌≡◌, ℕ, suc, Bool, true, false, List, [], ◌∷◌, inl, inr, refl, sym, ap, ◌∙◌, subst}
use Rattle.std.specs.Prelude.{map, ◌&&◌, ◌||◌, Option, None, Some}
use Rattle.std.specs.List.{AllByRecursion}
use Rattle.std.proofs.lemmas.Bool.{and_parts, both_ways, cases_Bool, or_cases}
use Rattle.owl_doc.specs.Entities.{AreWellTyped, entities, entities_of}
use Rattle.owl_kind.specs.Kinds.{Entity}
use Rattle.owl_list.specs.Ascending.{AreApart}
use Rattle.owl_list.proofs.AscendingLaws.{in_cases, in_none}
use Rattle.owl_tree.specs.declared.atom.Atom.{Atom}
use Rattle.owl_tree.specs.declared.atom.Atom.TheVariants as atom
use Rattle.owl_tree.specs.declared.row.Sort.TheVariants as sort
use Rattle.owl_tree.specs.declared.tag.Tag.{Tag}
use Rattle.owl_tree.specs.declared.tag.Tag.TheVariants as tag
use Rattle.owl_tree.specs.Rows.{admits, fits, is_tag, row_of}
use Rattle.owl_tree.specs.Shape.{AreShaped, IsShaped}
use Rattle.owl_tree.specs.Trees.{Tree, Kids, leaf, node, no_kids, kid, list_of, tag_of}
use Rattle.rdf_graph.specs.declared.triple.Triple.{Triple}
use Rattle.rdf_meaning.specs.declared.role.Role.TheVariants as role
use Rattle.rdf_meaning.specs.Nodes.{is_facet}
use Rattle.rdf_meaning.specs.RowShapes.{is_expression}
use Rattle.rdf_meaning.specs.Rows.{Row, node_rows}
use Rattle.rdf_mapping.specs.RowForLaws.{HasRowFor, has_row_for}
use Rattle.owl_tree.specs.Tags.{number_of}
use Rattle.rdf_mapping.specs.Drawing.{Kid, arcs_of, atom_term, facet_arcs, fit, form_of, kid_of, kids_seen, node_form, placed, row_for, tags_of}
use Rattle.rdf_mapping.specs.Forms.{Form, made, arc, no_arcs, blank, link, term_of}
use Rattle.rdf_mapping.specs.FormSorts.{IsOfNodes}
use Rattle.rdf_mapping.proofs.FormSortLaws.{made_sort, plain_sort, structural_as}
use Rattle.rdf_mapping.specs.Frames.{AreNamedApart}
use Rattle.rdf_mapping.proofs.NodeDrawingLaws.{same_tag, seen_each, row_form}
use Rattle.rdf_mapping.proofs.RowSortLaws.{row_sort}
use Rattle.rdf_mapping.proofs.TreeDrawingLaws.{first_and_others, kids_drawn, tags_each}
use Rattle.rdf_mapping.specs.Written.{AreIndividuals, HasFacetNames, HaveFacetNames, HaveIndividuals, IsDrawnWell}
use Rattle.rdf_mapping.proofs.FacetDrawingLaws.{facet_role, no_facet_kids, facet_tag}

-- a tree that is no expression is drawn by no row

abbrev is_none : Option Row → Bool
is_none None = true
is_none (Some r) = false

only_none : (o : Option Row) → is_none o ≡ true → o ≡ None
only_none None h = refl
only_none (Some r) h = absurd (both_ways false refl h)

no_row : (t : Tag) (ts : List Tag) → is_expression t || is_none (row_for node_rows t ts) ≡ true
unfolding row_for node_rows number_of
no_row tag.Class ts = refl
no_row _ ts = refl

no_form : (t : Tag) (ks : List Kid) → is_tag tag.FacetPair t ≡ false → row_for node_rows t (tags_of ks) ≡ None → node_form t ks ≡ made no_arcs
no_form t ks e h = rw (e, h) refl

pub facet_form : (t : Tag) (ks : List Kid) → is_tag tag.FacetPair t ≡ true → node_form t ks ≡ made (facet_arcs ks)
facet_form t ks e = rw e refl

module _ (name : ℕ → List ℕ) (most : ℕ) (differ : AreNamedApart name most) (g : List Triple) (k : List Entity) (apart : AreApart g) where
  abbrev P : Form → Type 0
  P f = IsOfNodes name most g f

  nothing_sort : P (made no_arcs)
  nothing_sort = made_sort name most differ g no_arcs (λ n few kept t m. absurd (in_none t m)) tt

  pair_sort : (iri : List ℕ) (v : Form) → is_facet iri ≡ true → P v → P (made (arc iri v no_arcs))
  pair_sort iri v h sorted =
      made_sort name most differ g (arc iri v no_arcs) (λ n few kept t m.
      let only = link (blank name n) iri (term_of name v (suc n)) in
      elim (in_cases only [] t m) [
        | inl e ↦ structural_as g t (blank name n) role.Facet (kept.own.subject t m) (facet_role g (name n) only kept.own h) (ap (λ (u : Triple). is_facet u.predicate) (sym e) ∙ h)
        | inr o ↦ absurd (in_none t o)
      ]) (sorted, tt)

  facet_leaf_sort : (t : Tag) (a : Atom) (r : Kid) → tag.Facet ≡ t → HasFacetNames (leaf t a) → P r.form → P (made (facet_arcs (kid_of (leaf t a) ∷ r ∷ [])))
  facet_leaf_sort t (atom.Iri iri) r e names h = pair_sort iri r.form (names (sym e)) h
  facet_leaf_sort t (atom.Label label) r e names h = nothing_sort
  facet_leaf_sort t (atom.Literal literal) r e names h = nothing_sort
  facet_leaf_sort t (atom.Number n) r e names h = nothing_sort

  facet_sort : (t : Tree) (r : Kid) → admits sort.Facet (tag_of t) ≡ true → IsShaped t → HasFacetNames t → P r.form → P (made (facet_arcs (kid_of t ∷ r ∷ [])))
  facet_sort (leaf u a) r h s names p = facet_leaf_sort u a r (facet_tag u h) names p
  facet_sort (node u ks) r h s names p = absurd (no_facet_kids (map tag_of (list_of ks)) (ap (λ (v : Tag). fits (row_of v) (map tag_of (list_of ks))) (facet_tag u h) ∙ s.0.row))

  facets_sort : (ks : Kids) → fits (row_of tag.FacetPair) (map tag_of (list_of ks)) ≡ true → AreShaped ks → HaveFacetNames ks → AllByRecursion (λ q. P q.form) (kids_seen ks) → P (made (facet_arcs (kids_seen ks)))
  unfolding row_of
  facets_sort no_kids h s names all = nothing_sort
  facets_sort (kid t no_kids) h s names all = nothing_sort
  facets_sort (kid t (kid u no_kids)) h s names all = facet_sort t (kid_of u) (and_parts (admits sort.Facet (tag_of t)) (admits sort.Literal (tag_of u) && true) h).0 s.0 names.0 all.1.0
  facets_sort (kid t (kid u (kid v ks))) h s names all = nothing_sort

  by_the_row : (t : Tag) (ks : Kids) → HasRowFor t (tags_of (kids_seen ks)) → is_tag tag.FacetPair t ≡ false → AllByRecursion (IsDrawnWell name most g k) (list_of ks) → AllByRecursion (λ q. P q.form) (kids_seen ks) → P (node_form t (kids_seen ks))
  by_the_row t ks is f all sorts =
      let r = is.row in
      let seen = seen_each ks in
      let fitting : fit r.parts (tags_of (map kid_of (list_of ks))) ≡ true = ap (λ (qs : List Kid). fit r.parts (tags_of qs)) (sym seen) ∙ is.fits in
      let done = row_sort name most differ g k apart r is.among (list_of ks) fitting all (subst (λ (qs : List Kid). AllByRecursion (λ q. P q.form) qs) seen sorts) in
      subst P (sym (row_form t (kids_seen ks) r f is.is)) (subst (λ (qs : List Kid). P (made (arcs_of (placed r.parts qs)))) (sym seen) done)

  by_no_row : (t : Tag) (ks : Kids) → is_expression t ≡ false → is_tag tag.FacetPair t ≡ false → P (node_form t (kids_seen ks))
  by_no_row t ks n f =
      elim (or_cases (is_expression t) (is_none (row_for node_rows t (tags_of (kids_seen ks)))) (no_row t (tags_of (kids_seen ks)))) [
        | inl a ↦ absurd (both_ways (is_expression t) n a)
        | inr b ↦ subst P (sym (no_form t (kids_seen ks) f (only_none (row_for node_rows t (tags_of (kids_seen ks))) b))) nothing_sort
      ]

  node_sort : (t : Tag) (ks : Kids) → fits (row_of t) (map tag_of (list_of ks)) ≡ true → AreShaped ks → HaveFacetNames ks → AllByRecursion (IsDrawnWell name most g k) (list_of ks) → AllByRecursion (λ q. P q.form) (kids_seen ks) → P (node_form t (kids_seen ks))
  node_sort t ks h s names all sorts =
      elim (cases_Bool (is_tag tag.FacetPair t)) [
        | inl y ↦
            let same : tag.FacetPair ≡ t = same_tag tag.FacetPair t y in
            subst P (sym (facet_form t (kids_seen ks) y)) (facets_sort ks (ap (λ (u : Tag). fits (row_of u) (map tag_of (list_of ks))) same ∙ h) s names sorts)
        | inr n ↦
            elim (cases_Bool (is_expression t)) [
              | inl e ↦ by_the_row t ks (has_row_for t (tags_of (kids_seen ks)) e (ap (fits (row_of t)) (tags_each ks) ∙ h)) n all sorts
              | inr o ↦ by_no_row t ks o n
            ]
      ]

  mutual
    pub tree_sort : (t : Tree) → IsShaped t → AreWellTyped k (entities t) → HasFacetNames t → AreIndividuals g t → P (form_of t)
    tree_sort (leaf t a) shaped typed names single = plain_sort name most differ g (atom_term a)
    tree_sort (node t ks) shaped typed names single =
        node_sort t ks shaped.0.row shaped.1 names (kids_drawn name most differ g k apart ks shaped.1 typed names single) (kids_sort ks shaped.1 typed names single)

    pub kids_sort : (ks : Kids) → AreShaped ks → AreWellTyped k (entities_of ks) → HaveFacetNames ks → HaveIndividuals g ks → AllByRecursion (λ q. IsOfNodes name most g q.form) (kids_seen ks)
    kids_sort no_kids shaped typed names single = tt
    kids_sort (kid t ks) shaped typed names single = first_and_others g k t ks (tree_sort t) (kids_sort ks) shaped typed names single
