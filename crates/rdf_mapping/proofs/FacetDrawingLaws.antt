-- A facet with its value is drawn as a node with one triple, which stands for it.
use Rattle.std.proofs.Common.{◌≡◌, ◌≤◌, ◌+◌, ℕ, Bool, true, false, List, [], ◌∷◌, length, inl, inr, refl, sym, ap, ◌∙◌, subst, arith}
use Rattle.std.specs.Prelude.{map, ◌&&◌, ◌||◌, None}
use Rattle.std.specs.List.{filter}
use Rattle.std.proofs.lemmas.Bool.{and_parts, both_ways, cases_Bool, cond-true}
use Rattle.owl_kind.specs.Kinds.{Entity}
use Rattle.owl_list.specs.Ascending.{AreApart}
use Rattle.owl_tree.specs.declared.atom.Atom.{Atom}
use Rattle.owl_tree.specs.declared.atom.Atom.TheVariants as atom
use Rattle.owl_tree.specs.declared.row.Sort.TheVariants as sort
use Rattle.owl_tree.specs.declared.tag.Tag.{Tag}
use Rattle.owl_tree.specs.declared.tag.Tag.TheVariants as tag
use Rattle.owl_tree.specs.Rows.{admits, fits, row_of, takes}
use Rattle.owl_tree.specs.Shape.{AreShaped, IsShaped}
use Rattle.owl_tree.specs.Tags.{number_of}
use Rattle.owl_tree.specs.Trees.{Tree, Kids, leaf, node, no_kids, kid, list_of, tag_of}
use Rattle.rdf_terms.specs.Literals.{LiteralParts}
use Rattle.rdf_graph.specs.declared.term.Term.TheVariants.{Blank, Literal}
use Rattle.rdf_graph.specs.declared.triple.Triple.{Triple}
use Rattle.rdf_meaning.specs.declared.role.Role.{Role}
use Rattle.rdf_meaning.specs.declared.role.Role.TheVariants as role
use Rattle.rdf_meaning.specs.declared.row.Want.TheVariants.{One}
use Rattle.rdf_meaning.specs.declared.word.Word.{Word}
use Rattle.rdf_meaning.specs.declared.word.Word.TheVariants as word
use Rattle.rdf_meaning.specs.Denotation.{Denotes, by_itself, facet_pair, facets_of, simple}
use Rattle.rdf_meaning.specs.Nodes.{carries, first_role, is_facet, is_role, marked_roles, marks_role, role_of}
use Rattle.rdf_meaning.specs.Rows.{node_rows}
use Rattle.rdf_mapping.specs.Forms.{plain, made, arc, no_arcs, blank, link, nodes, triples}
use Rattle.rdf_mapping.specs.Drawing.{row_for}
use Rattle.rdf_mapping.specs.Frames.{AreNamedApart, IsOfNode, IsOwn, Keeps}
use Rattle.rdf_mapping.specs.FormLaws.{made_kept}
use Rattle.rdf_mapping.proofs.NodeDrawingLaws.{same_tag}
use Rattle.rdf_mapping.specs.OwnLaws.{facets_own, role_own}
use Rattle.rdf_mapping.proofs.SpellingLaws.{no_facet, predicate_of}
use Rattle.rdf_mapping.specs.Written.{HaveFacetNames, IsDrawn}

no_word : (v : Word) (t : Triple) → is_facet t.predicate ≡ true → carries v t ≡ false
no_word v t h =
    elim (cases_Bool (carries v t)) [
      | inl a ↦ absurd (both_ways (is_facet t.predicate) (ap is_facet (predicate_of v t a) ∙ no_facet v) h)
      | inr b ↦ b
    ]

facet_marks : (r : Role) (t : Triple) → is_facet t.predicate ≡ true → marks_role r t ≡ is_role role.Facet r
unfolding marks_role
facet_marks role.List t h = λ i. no_word word.First t h i || (no_word word.Rest t h i || false)
facet_marks role.Property t h = no_word word.InverseOf t h
facet_marks role.Class t h = λ i. no_word word.Class t h i || (no_word word.Restriction t h i || false)
facet_marks role.Range t h = no_word word.Datatype t h
facet_marks role.Facet t h = h
facet_marks role.Main t h =
    λ i.
    no_word word.AllDisjointClasses t h i
    || (no_word word.AllDisjointProperties t h i || (no_word word.AllDifferent t h i || (no_word word.NegativePropertyAssertion t h i || false)))
facet_marks role.Note t h = λ i. no_word word.Axiom t h i || (no_word word.Annotation t h i || false)
facet_marks role.Header t h = no_word word.Ontology t h
facet_marks role.Individual t h = refl

pub facet_role : (g : List Triple) (label : List ℕ) (t : Triple) → IsOwn IsOfNode g (Blank label) (t ∷ []) → is_facet t.predicate ≡ true → role_of g (Blank label) ≡ role.Facet
facet_role g label t is h =
    role_own g label (t ∷ []) is ∙ ap (λ (f : Role → Bool). first_role (filter f marked_roles)) (λ i. λ r. facet_marks r t h i || false)

facet_kept : (t : Triple) → is_facet t.predicate ≡ true → filter (λ u. is_facet u.predicate) (t ∷ []) ≡ t ∷ []
facet_kept t h = cond-true (is_facet t.predicate) (t ∷ []) [] h

facet_triples : (g : List Triple) (label : List ℕ) (t : Triple) → AreApart g → IsOwn IsOfNode g (Blank label) (t ∷ []) → is_facet t.predicate ≡ true → facets_of g (Blank label) ≡ t ∷ []
facet_triples g label t apart is h =
    let kept = facet_kept t h in
    facets_own g (Blank label) (t ∷ []) is apart (omega (arith, ap length kept)) ∙ kept

abbrev pair : List ℕ → LiteralParts → Tree
pair f l = node tag.FacetPair (kid (leaf tag.Facet (atom.Iri f)) (kid (leaf tag.Literal (atom.Literal l)) no_kids))

-- the kids of a facet pair

facet_atom : (a : Atom) → takes (row_of tag.Facet) a ≡ true → (f : List ℕ) × (a ≡ atom.Iri f)
unfolding row_of
facet_atom (atom.Iri f) h = (f, refl)
facet_atom _ h = absurd (both_ways false refl h)

literal_atom : (a : Atom) → takes (row_of tag.Literal) a ≡ true → (l : LiteralParts) × (a ≡ atom.Literal l)
unfolding row_of
literal_atom (atom.Literal l) h = (l, refl)
literal_atom _ h = absurd (both_ways false refl h)

pub no_facet_kids : (ts : List Tag) → fits (row_of tag.Facet) ts ≡ true → ⊥
unfolding row_of
no_facet_kids ts h = both_ways false refl h

no_literal_kids : (ts : List Tag) → fits (row_of tag.Literal) ts ≡ true → ⊥
unfolding row_of
no_literal_kids ts h = both_ways false refl h

pub facet_tag : (t : Tag) → admits sort.Facet t ≡ true → tag.Facet ≡ t
unfolding admits
facet_tag t h = same_tag tag.Facet t h

literal_tag : (t : Tag) → admits sort.Literal t ≡ true → tag.Literal ≡ t
unfolding admits
literal_tag t h = same_tag tag.Literal t h

facet_leaf : (t : Tree) → admits sort.Facet (tag_of t) ≡ true → IsShaped t → (f : List ℕ) × (t ≡ leaf tag.Facet (atom.Iri f))
facet_leaf (leaf u a) h s =
    let e = facet_tag u h in
    let q = facet_atom a (ap (λ (v : Tag). takes (row_of v) a) e ∙ s.0) in
    (q.0, λ i. leaf (sym e i) (q.1 i))
facet_leaf (node u ks) h s = absurd (no_facet_kids (map tag_of (list_of ks)) (ap (λ (v : Tag). fits (row_of v) (map tag_of (list_of ks))) (facet_tag u h) ∙ s.0.row))

literal_leaf : (t : Tree) → admits sort.Literal (tag_of t) ≡ true → IsShaped t → (l : LiteralParts) × (t ≡ leaf tag.Literal (atom.Literal l))
literal_leaf (leaf u a) h s =
    let e = literal_tag u h in
    let q = literal_atom a (ap (λ (v : Tag). takes (row_of v) a) e ∙ s.0) in
    (q.0, λ i. leaf (sym e i) (q.1 i))
literal_leaf (node u ks) h s = absurd (no_literal_kids (map tag_of (list_of ks)) (ap (λ (v : Tag). fits (row_of v) (map tag_of (list_of ks))) (literal_tag u h) ∙ s.0.row))

module _ (name : ℕ → List ℕ) (most : ℕ) (differ : AreNamedApart name most) (g : List Triple) (k : List Entity) (apart : AreApart g) where
  pair_denoted : (f : List ℕ) (l : LiteralParts) → is_facet f ≡ true → (n : ℕ) → n + nodes (made (arc f (plain (Literal l)) no_arcs)) ≤ most → Keeps name IsOfNode g (triples name (made (arc f (plain (Literal l)) no_arcs)) n) n (n + nodes (made (arc f (plain (Literal l)) no_arcs))) → Denotes g k (blank name n) (One sort.FacetPair) (pair f l ∷ [])
  unfolding simple
  pair_denoted f l h n few keeps =
      let kept = made_kept name most differ IsOfNode g (arc f (plain (Literal l)) no_arcs) n few keeps in
      let t = link (blank name n) f (Literal l) in
      by_itself sort.FacetPair (blank name n) (pair f l)
      (cond-true (is_role role.Facet (role_of g (blank name n))) (facet_pair (facets_of g (blank name n))) None (ap (is_role role.Facet) (facet_role g (name n) t kept.own h))
      ∙ ap facet_pair (facet_triples g (name n) t apart kept.own h))

  pair_drawn : (f : List ℕ) (l : LiteralParts) → is_facet f ≡ true → IsDrawn name most g k sort.FacetPair (pair f l)
  unfolding row_for node_rows number_of
  pair_drawn f l h = pair_denoted f l h

  two_drawn : (t u : Tree) → admits sort.Facet (tag_of t) ≡ true → admits sort.Literal (tag_of u) ≡ true → AreShaped (kid t (kid u no_kids)) → HaveFacetNames (kid t (kid u no_kids)) → IsDrawn name most g k sort.FacetPair (node tag.FacetPair (kid t (kid u no_kids)))
  two_drawn t u a b s names =
      let f = facet_leaf t a s.0 in
      let l = literal_leaf u b s.1.0 in
      subst (λ v. HaveFacetNames (kid v (kid u no_kids)) → IsDrawn name most g k sort.FacetPair (node tag.FacetPair (kid v (kid u no_kids)))) (sym f.1)
      (subst (λ v. HaveFacetNames (kid (leaf tag.Facet (atom.Iri f.0)) (kid v no_kids)) → IsDrawn name most g k sort.FacetPair (node tag.FacetPair (kid (leaf tag.Facet (atom.Iri f.0)) (kid v no_kids)))) (sym l.1)
      (λ q. pair_drawn f.0 l.0 (q.0 refl))) names

  pub facet_drawn : (ks : Kids) → fits (row_of tag.FacetPair) (map tag_of (list_of ks)) ≡ true → AreShaped ks → HaveFacetNames ks → IsDrawn name most g k sort.FacetPair (node tag.FacetPair ks)
  unfolding row_of
  facet_drawn no_kids h s names = absurd (both_ways false refl h)
  facet_drawn (kid t no_kids) h s names = absurd (both_ways false refl (and_parts (admits sort.Facet (tag_of t)) false h).1)
  facet_drawn (kid t (kid u no_kids)) h s names =
      let both = and_parts (admits sort.Facet (tag_of t)) (admits sort.Literal (tag_of u) && true) h in
      two_drawn t u both.0 (and_parts (admits sort.Literal (tag_of u)) true both.1).0 s names
  facet_drawn (kid t (kid u (kid v ks))) h s names =
      let both = and_parts (admits sort.Facet (tag_of t)) (admits sort.Literal (tag_of u) && false) h in
      absurd (both_ways false refl (and_parts (admits sort.Literal (tag_of u)) false both.1).1)
