-- What is drawn of an expression makes its nodes what they are.
use lib.Utf8.{encode}
use Rattle.std.proofs.Common.{◌≡◌, ◌≤◌, ◌+◌, ℕ, suc, true, List, [], ◌∷◌, ◌++◌, inl, inr, refl, sym, ap, ◌∙◌, subst, arith}
use Rattle.std.specs.Prelude.{Contains}
use Rattle.std.specs.List.{AllByRecursion, filter, list_any}
use Rattle.std.proofs.lemmas.List.Elements.{Contains-append_cases}
use Rattle.owl_list.proofs.AscendingLaws.{in_cases, in_head, in_none, in_tail}
use Rattle.rdf_graph.specs.declared.term.Term.{Term}
use Rattle.rdf_graph.specs.declared.term.Term.TheVariants.{Iri, Blank}
use Rattle.rdf_graph.specs.declared.triple.Triple.{Triple}
use Rattle.rdf_meaning.specs.declared.role.Role.{Role}
use Rattle.rdf_meaning.specs.declared.role.Role.TheVariants as role
use Rattle.rdf_meaning.specs.Nodes.{carries, first_role, is_facet, is_own, is_structural, marked_roles, marks_role, nil_iri, role_of, words_of}
use Rattle.rdf_meaning.specs.Words.{is_type, word_iri, word_number}
use Rattle.rdf_mapping.specs.Forms.{Form, plain, made, twice, Arcs, no_arcs, arc, arc_nodes, arc_triples, blank, first_iri, link, list_form, nodes, rest_iri, term_of, triples}
use Rattle.rdf_mapping.specs.FormLaws.{made_kept, twice_kept}
use Rattle.rdf_mapping.specs.Frames.{AreNamedApart, EachKept, IsOfNode, IsOwn, own_triples, second_cell, twice_behind}
use Rattle.rdf_mapping.specs.OwnLaws.{role_own}
use Rattle.rdf_mapping.specs.FormSorts.{AllForms, AreOfNode, HasOwnSort, IsOfNodes}

-- the role that these triples give their node
abbrev own_role : List Triple → Role
own_role own = first_role (filter (λ r. list_any (marks_role r) own) marked_roles)

cell_role : (x y z : Term) → own_role (link x first_iri y ∷ link x rest_iri z ∷ []) ≡ role.List
unfolding marks_role carries is_type word_iri word_number is_facet encode
cell_role x y z = refl

first_own : (x y : Term) → is_own role.List (link x first_iri y) ≡ true
unfolding words_of carries is_type word_iri word_number encode
first_own x y = refl

rest_own : (x y : Term) → is_own role.List (link x rest_iri y) ≡ true
unfolding words_of carries is_type word_iri word_number encode
rest_own x y = refl

pub structural_as : (g : List Triple) (t : Triple) (x : Term) (r : Role) → t.subject ≡ x → role_of g x ≡ r → is_own r t ≡ true → is_structural g t ≡ true
unfolding is_structural
structural_as g t x r s e h = ap (λ (q : Role). is_own q t) (ap (role_of g) s ∙ e) ∙ h

-- the triples of a cell are structural
cell_sort : (g : List Triple) (label : List ℕ) (y z : Term) → IsOwn IsOfNode g (Blank label) (link (Blank label) first_iri y ∷ link (Blank label) rest_iri z ∷ []) → AreOfNode g (link (Blank label) first_iri y ∷ link (Blank label) rest_iri z ∷ [])
cell_sort g label y z is t m =
    let x = Blank label in
    let own = link x first_iri y ∷ link x rest_iri z ∷ [] in
    let of_list = role_own g label own is ∙ cell_role x y z in
    elim (in_cases (link x first_iri y) (link x rest_iri z ∷ []) t m) [
      | inl e ↦ structural_as g t x role.List (is.subject t m) of_list (ap (is_own role.List) (sym e) ∙ first_own x y)
      | inr k ↦
          elim (in_cases (link x rest_iri z) [] t k) [
            | inl e ↦ structural_as g t x role.List (is.subject t m) of_list (ap (is_own role.List) (sym e) ∙ rest_own x z)
            | inr o ↦ absurd (in_none t o)
          ]
    ]

module _ (name : ℕ → List ℕ) (most : ℕ) (differ : AreNamedApart name most) (g : List Triple) where
  pub plain_sort : (x : Term) → IsOfNodes name most g (plain x)
  plain_sort x n few k t m = absurd (in_none t m)

  pub arcs_sort : (x : Term) (arcs : Arcs) (n : ℕ) → n + arc_nodes arcs ≤ most → EachKept name IsOfNode g arcs n → AllForms (IsOfNodes name most g) arcs → AreOfNode g (own_triples name x arcs n) → AreOfNode g (arc_triples name x arcs n)
  arcs_sort x no_arcs n few k all own t m = absurd (in_none t m)
  arcs_sort x (arc p f more) n few k all own t m =
      let first = link x p (term_of name f n) in
      let rest = own_triples name x more (n + nodes f) in
      elim (in_cases first (triples name f n ++ arc_triples name x more (n + nodes f)) t m) [
        | inl e ↦ own t (subst (λ (u : Triple). Contains (first ∷ rest) u) e (in_head first rest))
        | inr j ↦
            elim (Contains-append_cases (triples name f n) (arc_triples name x more (n + nodes f)) t j) [
              | inl a ↦ all.0 n (omega (arith, few)) k.0 t a
              | inr b ↦ arcs_sort x more (n + nodes f) (omega (arith, few)) k.1 all.1 (λ u l. own u (in_tail first rest u l)) t b
            ]
      ]

  -- a node of which the own triples are structural, and so what its arcs lead to
  pub made_sort : (arcs : Arcs) → HasOwnSort name most g arcs → AllForms (IsOfNodes name most g) arcs → IsOfNodes name most g (made arcs)
  made_sort arcs own all n few k =
      let kept = made_kept name most differ IsOfNode g arcs n few k in
      arcs_sort (blank name n) arcs (suc n) (omega (arith, few)) kept.each all (own n few kept)

  cell_own : (f h : Form) → HasOwnSort name most g (arc first_iri f (arc rest_iri h no_arcs))
  cell_own f h n few kept = cell_sort g (name n) (term_of name f (suc n)) (term_of name h (suc n + nodes f)) kept.own

  pub list_sort : (fs : List Form) → AllByRecursion (IsOfNodes name most g) fs → IsOfNodes name most g (list_form fs)
  list_sort [] all = plain_sort (Iri nil_iri)
  list_sort (f ∷ fs) all = made_sort (arc first_iri f (arc rest_iri (list_form fs) no_arcs)) (cell_own f (list_form fs)) (all.0, (list_sort fs all.1, tt))

  pub twice_sort : (f : Form) → IsOfNodes name most g f → IsOfNodes name most g (twice f)
  twice_sort f all n few k t m =
      let kept = twice_kept name most differ IsOfNode g f n few k in
      let o = term_of name f (suc n) in
      let next = blank name (second_cell f n) in
      let first = link (blank name n) first_iri o in
      let rest = link (blank name n) rest_iri next in
      let again = link next first_iri o in
      let end = link next rest_iri (Iri nil_iri) in
      let one = cell_sort g (name n) o next kept.first_own in
      let two = cell_sort g (name (second_cell f n)) o (Iri nil_iri) kept.second_own in
      elim (in_cases first (triples name f (suc n) ++ twice_behind name f n) t m) [
        | inl e ↦ one t (subst (λ (u : Triple). Contains (first ∷ rest ∷ []) u) e (in_head first (rest ∷ [])))
        | inr j ↦
            elim (Contains-append_cases (triples name f (suc n)) (twice_behind name f n) t j) [
              | inl a ↦ all (suc n) (omega (arith, few)) kept.element t a
              | inr b ↦
                  elim (in_cases rest (again ∷ end ∷ []) t b) [
                    | inl e ↦ one t (in_tail first (rest ∷ []) t (subst (λ (u : Triple). Contains (rest ∷ []) u) e (in_head rest [])))
                    | inr l ↦ two t l
                  ]
            ]
      ]
