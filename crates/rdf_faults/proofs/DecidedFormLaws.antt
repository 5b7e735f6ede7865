-- Whether a node has its form is decided.
use Rattle.std.specs.Prelude.{◌≡◌, ◌⊎◌, ◌<◌, ℕ, zero, suc, true, List, [], ◌∷◌, is_some, length, map}
use Rattle.std.specs.Str.{bytes_eq}
use Rattle.std.specs.List.{AllByRecursion}
use Rattle.std.proofs.Common.{inl, inr, refl, sym, ap, ◌∙◌, subst, arith}
use Rattle.std.proofs.lemmas.Slice.Eq.{bytes_eq-Decides}
use Rattle.owl_tree.specs.declared.row.Sort.TheVariants as sort
use Rattle.rdf_graph.specs.declared.term.Term.{Term}
use Rattle.rdf_graph.specs.declared.term.Term.TheVariants.{Iri, Literal}
use Rattle.rdf_graph.specs.declared.triple.Triple.{Triple}
use Rattle.rdf_meaning.proofs.ListLaws.{same_only}
use Rattle.rdf_meaning.specs.declared.role.Role.{Role}
use Rattle.rdf_meaning.specs.declared.role.Role.TheVariants as role
use Rattle.rdf_meaning.specs.declared.word.Word.TheVariants as word
use Rattle.rdf_meaning.specs.declared.row.Want.{Want}
use Rattle.rdf_meaning.specs.declared.row.Want.TheVariants.{One, Many, Whole, Keys, Declared, Mark, True}
use Rattle.rdf_meaning.specs.declared.row.Site.{Site}
use Rattle.rdf_meaning.specs.declared.row.Site.TheVariants.{Node, TypedBy, OtherType, LinkedBy, OtherLink}
use Rattle.rdf_meaning.specs.Nodes.{chosen, nil_iri, role_of, words_of}
use Rattle.rdf_meaning.specs.Rows.{Row, axiom_rows, node_rows}
use Rattle.rdf_meaning.specs.RowTests.{is_site}
use Rattle.rdf_meaning.proofs.RowLaws.{own_site, same_role}
use Rattle.rdf_meaning.proofs.WordLaws.{same_word}
use Rattle.rdf_meaning.specs.Denotation.{Bearer, of_node, of_triple, Fits, facets_of, number_leaf, select, site_of, times, true_literal}
use Rattle.rdf_meaning.specs.Statements.{IsCell, IsReification}
use Rattle.rdf_faults.specs.Formed.{HasForm, HasFormAt, HasFormedRow, HasLength, no_element, one_more, IsFormedAs, IsShort}
use Rattle.rdf_faults.specs.DecidedLaws.{Decided, HasSome, IsOnly, decided_both, decided_by, decided_each, decided_either, decided_not, decided_number, decided_only, decided_role, decided_some, decided_term, decided_test}
use Rattle.rdf_faults.specs.WantLaws.{length_is}

same_site : (a b : Site) → is_site a b ≡ true → a ≡ b
same_site (Node a) (Node b) h = ap Node (same_role a b h)
same_site (TypedBy a) (TypedBy b) h = ap TypedBy (same_word a b h)
same_site OtherType OtherType h = refl
same_site (LinkedBy a) (LinkedBy b) h = ap LinkedBy (same_word a b h)
same_site OtherLink OtherLink h = refl
same_site _ _ h = cc

pub decided_site : (a b : Site) → Decided (a ≡ b)
decided_site a b =
    decided_by (same_site a b) (λ e. subst (λ c. is_site a c ≡ true) e (own_site a)) (decided_test (is_site a b))

decided_numbers : (xs ys : List ℕ) → Decided (xs ≡ ys)
decided_numbers xs ys =
    decided_by (bytes_eq-Decides xs ys).0 (bytes_eq-Decides xs ys).1 (decided_test (bytes_eq xs ys))

none_fewer : (n : ℕ) → n < 0 → ⊥
none_fewer n h = omega arith

module _ (g : List Triple) where
  pub decided_fits : (b : Bearer) (row : Row) → Decided (Fits g b row)
  decided_fits (of_node x) row =
      decided_both (decided_site row.site (Node (role_of g x)))
      (decided_numbers (map (λ w. length (chosen g x w)) (words_of (role_of g x))) (map (λ w. times w row.parts) (words_of (role_of g x))))
  decided_fits (of_triple t) row = decided_site row.site (site_of t)

  -- a cell

  decided_cell : (x : Term) → Decided (IsCell g x)
  decided_cell x =
      elim (decided_only (chosen g x word.First)) [
        | inr n ↦ inr (λ c. n (record { only = c.first; one = c.one_first }))
        | inl first ↦
            elim (decided_only (chosen g x word.Rest)) [
              | inr n ↦ inr (λ c. n (record { only = c.rest; one = c.one_rest }))
              | inl rest ↦
                  decided_by
                  (λ on. record { first = first.only; rest = rest.only; one_first = first.one; one_rest = rest.one; goes_on = on })
                  (λ c.
                  subst (λ y. (y ≡ Iri nil_iri) ⊎ (role_of g y ≡ role.List)) (same_only c.rest rest.only (sym c.one_rest ∙ rest.one)) c.goes_on)
                  (decided_either (decided_term rest.only (Iri nil_iri)) (decided_role (role_of g rest.only) role.List))
            ]
      ]

  decided_reification : (x : Term) → Decided (IsReification g x)
  decided_reification x =
      decided_by
      (λ p. record { one_type = p.0.0; one_source = p.0.1; one_property = p.1.0; one_target = p.1.1 })
      (λ r. ((r.one_type, r.one_source), (r.one_property, r.one_target)))
      (decided_both (decided_both (decided_number _ 1) (decided_number _ 1)) (decided_both (decided_number _ 1) (decided_number _ 1)))

  -- a list with fewer elements than some

  shorter : (x rest : Term) (n : ℕ) → role_of g x ≡ role.List → chosen g x word.Rest ≡ rest ∷ [] → IsShort g n rest → IsShort g (suc n) x
  shorter x rest n l r s =
      let few = s.few in
      record { count = suc s.count; has_length = one_more x rest s.count l r s.has_length; few = omega (arith, few) }

  rest_short : (x rest : Term) (n : ℕ) → (x ≡ Iri nil_iri → ⊥) → chosen g x word.Rest ≡ rest ∷ [] → IsShort g (suc n) x → IsShort g n rest
  rest_short x rest n some r s =
      elim (length_is g x s.count s.has_length) [
        | inl empty ↦ absurd (some empty.0)
        | inr longer ↦
            let few = s.few in
            let count = longer.count in
            record {
              count = longer.m;
              has_length = subst (λ y. HasLength g y longer.m) (same_only longer.rest rest (sym longer.one_rest ∙ r)) longer.has_length;
              few = omega (arith, few, count);
            }
      ]

  only_cells : (x : Term) (n : ℕ) → (x ≡ Iri nil_iri → ⊥) → IsShort g n x → (role_of g x ≡ role.List) × IsOnly (chosen g x word.Rest)
  only_cells x n some s =
      elim (length_is g x s.count s.has_length) [
        | inl empty ↦ absurd (some empty.0)
        | inr longer ↦ (longer.list, record { only = longer.rest; one = longer.one_rest })
      ]

  decided_short : (least : ℕ) (x : Term) → Decided (IsShort g least x)
  decided_short zero x = inr (λ s. none_fewer s.count s.few)
  decided_short (suc n) x =
      elim (decided_term x (Iri nil_iri)) [
        | inl e ↦ inl (record { count = 0; has_length = no_element x e; few = omega arith })
        | inr some ↦
            elim (decided_both (decided_role (role_of g x) role.List) (decided_only (chosen g x word.Rest))) [
              | inr other ↦ inr (λ s. other (only_cells x (suc n) some s))
              | inl c ↦
                  decided_by (shorter x c.1.only n c.0 c.1.one) (rest_short x c.1.only n some c.1.one) (decided_short n c.1.only)
            ]
      ]

  -- the form of a node

  decided_form : (w : Want) (x : Term) → Decided (HasForm g w x)
  decided_form (One sort.Number) x = decided_test (is_some (number_leaf x))
  decided_form (One _) x = inl tt
  decided_form (Many s least) x = decided_not (decided_short least x)
  decided_form (Whole t s least) x = decided_not (decided_short least x)
  decided_form Keys x = decided_not (decided_short 1 x)
  decided_form (Declared t) x = inl tt
  decided_form Mark x = inl tt
  decided_form True x = decided_term x (Literal true_literal)

  abbrev IsFormedRow : Term → Row → Type 0
  IsFormedRow x row = Fits g (of_node x) row × AllByRecursion (HasFormAt g x) row.parts

  decided_row : (x : Term) (row : Row) → Decided (IsFormedRow x row)
  decided_row x row =
      decided_both (decided_fits (of_node x) row)
      (decided_each (HasFormAt g x) row.parts (λ p.
      decided_each (HasForm g p.want) (select g (of_node x) p.place) (decided_form p.want)))

  decided_rows : (all : List Row) (x : Term) → Decided (HasFormedRow g all x)
  decided_rows all x =
      decided_by
      (λ (s : HasSome (IsFormedRow x) all). record { row = s.element; among = s.inside; fits = s.holds.0; formed = s.holds.1 })
      (λ f. record { element = f.row; inside = f.among; holds = (f.fits, f.formed) })
      (decided_some (IsFormedRow x) all (decided_row x))

  pub decided_formed : (r : Role) (x : Term) → Decided (IsFormedAs g r x)
  decided_formed role.List x = decided_cell x
  decided_formed role.Property x = decided_rows node_rows x
  decided_formed role.Class x = decided_rows node_rows x
  decided_formed role.Range x = decided_rows node_rows x
  decided_formed role.Facet x = decided_number (length (facets_of g x)) 1
  decided_formed role.Main x = decided_rows axiom_rows x
  decided_formed role.Note x = decided_reification x
  decided_formed role.Header x = inl tt
  decided_formed role.Individual x = inl tt
