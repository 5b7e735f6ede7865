-- What a node's own words choose is below it, and lists have elements.
use Rattle.std.specs.Prelude.{◌≡◌, ◌⊎◌, Bool, true, false, List, [], ◌∷◌, Contains}
use Rattle.std.specs.List.{list_any}
use Rattle.std.proofs.Common.{inl, inr, refl, sym, ap, ◌∙◌, subst}
use Rattle.std.proofs.lemmas.Bool.{or_left, or_right}
use Rattle.owl_list.proofs.AscendingLaws.{in_cases, in_head, in_none, in_tail}
use Rattle.rdf_graph.specs.declared.term.Term.{Term}
use Rattle.rdf_graph.specs.declared.term.Term.TheVariants.{Iri}
use Rattle.rdf_graph.specs.declared.triple.Triple.{Triple}
use Rattle.rdf_meaning.proofs.ListLaws.{same_only}
use Rattle.rdf_meaning.specs.declared.role.Role.{Role}
use Rattle.rdf_meaning.specs.declared.role.Role.TheVariants as role
use Rattle.rdf_meaning.specs.declared.word.Word.{Word}
use Rattle.rdf_meaning.specs.declared.word.Word.TheVariants as word
use Rattle.rdf_meaning.specs.Nodes.{carries, chosen, is_own, is_role, is_structural, nil_iri, role_of, words_of}
use Rattle.rdf_meaning.proofs.NodeLaws.{from_chosen}
use Rattle.rdf_meaning.proofs.DenotationLaws.{no_nil}
use Rattle.rdf_meaning.specs.Statements.{IsCell, IsDirectlyBelow}
use Rattle.rdf_faults.specs.Asked.{HasElements, no_element, element}
use Rattle.rdf_faults.specs.Faults.{IsCyclic}
use Rattle.std.specs.Prelude.{ℕ}
use Rattle.rdf_faults.proofs.WayDownLaws.{by_terms_below}

pub passes_some : {X : Type 0} (test : X → Bool) (xs : List X) (x : X) → Contains xs x → test x ≡ true → list_any test xs ≡ true
passes_some test [] x m h = absurd (in_none x m)
passes_some test (y ∷ xs) x m h =
    elim (in_cases y xs x m) [
      | inl e ↦ or_left (test y) (list_any test xs) (subst (λ z. test z ≡ true) (sym e) h)
      | inr n ↦ or_right (test y) (list_any test xs) (passes_some test xs x n h)
    ]

own_by : (r : Role) (t : Triple) (w : Word) → is_role role.Facet r ≡ false → Contains (words_of r) w → carries w t ≡ true → is_own r t ≡ true
own_by role.Facet t w f m h = cc
own_by role.List t w f m h = passes_some (λ v. carries v t) (words_of role.List) w m h
own_by role.Property t w f m h = passes_some (λ v. carries v t) (words_of role.Property) w m h
own_by role.Class t w f m h = passes_some (λ v. carries v t) (words_of role.Class) w m h
own_by role.Range t w f m h = passes_some (λ v. carries v t) (words_of role.Range) w m h
own_by role.Main t w f m h = passes_some (λ v. carries v t) (words_of role.Main) w m h
own_by role.Note t w f m h = passes_some (λ v. carries v t) (words_of role.Note) w m h
own_by role.Header t w f m h = passes_some (λ v. carries v t) (words_of role.Header) w m h
own_by role.Individual t w f m h = passes_some (λ v. carries v t) (words_of role.Individual) w m h

-- roles whose nodes' own words lead to what is below
abbrev pub leads_by_words : Role → Bool
leads_by_words role.Facet = false
leads_by_words role.Note = false
leads_by_words _ = true

no_facet : (r : Role) → leads_by_words r ≡ true → is_role role.Facet r ≡ false
no_facet role.Facet h = cc
no_facet role.Note h = cc
no_facet _ h = refl

other_role : leads_by_words role.Note ≡ true → ⊥
other_role h = cc

pub structural_by : (g : List Triple) (t : Triple) (x : Term) (w : Word) → t.subject ≡ x → leads_by_words (role_of g x) ≡ true → Contains (words_of (role_of g x)) w → carries w t ≡ true → is_structural g t ≡ true
unfolding is_structural
structural_by g t x w s leads m h =
    subst (λ y. is_own (role_of g y) t ≡ true) (sym s) (own_by (role_of g x) t w (no_facet (role_of g x) leads) m h)

pub below_by : (g : List Triple) (x y : Term) (w : Word) → leads_by_words (role_of g x) ≡ true → Contains (words_of (role_of g x)) w → Contains (chosen g x w) y → IsDirectlyBelow g y x
below_by g x y w leads m n =
    let by = from_chosen g x w y n in
    record {
      triple = by.triple;
      inside = by.inside;
      subject = by.subject;
      object = by.object;
      structural = structural_by g by.triple x w by.subject leads m by.carries;
      no_note = λ e. other_role (subst (λ r. leads_by_words r ≡ true) e leads);
    }

in_first : Contains (words_of role.List) word.First
unfolding words_of
in_first = in_head word.First (word.Rest ∷ [])

in_rest : Contains (words_of role.List) word.Rest
unfolding words_of
in_rest = in_tail word.First (word.Rest ∷ []) word.Rest (in_head word.Rest [])

only_chosen : (g : List Triple) (x y : Term) (w : Word) → chosen g x w ≡ y ∷ [] → Contains (chosen g x w) y
only_chosen g x y w e = subst (λ ys. Contains ys y) (sym e) (in_head y [])

pub rest_below : (g : List Triple) (x rest : Term) → role_of g x ≡ role.List → chosen g x word.Rest ≡ rest ∷ [] → IsDirectlyBelow g rest x
rest_below g x rest l e =
    below_by g x rest word.Rest (ap leads_by_words l) (subst (λ r. Contains (words_of r) word.Rest) (sym l) in_rest) (only_chosen g x rest word.Rest e)

pub first_below : (g : List Triple) (x first : Term) → role_of g x ≡ role.List → chosen g x word.First ≡ first ∷ [] → IsDirectlyBelow g first x
first_below g x first l e =
    below_by g x first word.First (ap leads_by_words l) (subst (λ r. Contains (words_of r) word.First) (sym l) in_first)
    (only_chosen g x first word.First e)

-- the elements of a list

pub record IsElement (g : List Triple) (x : Term) (ys : List Term) : Type 0 where
  pub first : Term
  pub rest : Term
  pub more : List Term
  pub list : role_of g x ≡ role.List
  pub one_first : chosen g x word.First ≡ first ∷ []
  pub one_rest : chosen g x word.Rest ≡ rest ∷ []
  pub has_elements : HasElements g rest more
  pub joined : ys ≡ first ∷ more

pub elements_are : (g : List Triple) (x : Term) (ys : List Term) → HasElements g x ys → ((x ≡ Iri nil_iri) × (ys ≡ [])) ⊎ IsElement g x ys
elements_are g _ _ (no_element x e) = inl (e, refl)
elements_are g _ _ (element x first rest more l f r h) =
    inr (record { first = first; rest = rest; more = more; list = l; one_first = f; one_rest = r; has_elements = h; joined = refl })

pub is_listed : (g : List Triple) (x : Term) (ys : List Term) → HasElements g x ys → (x ≡ Iri nil_iri) ⊎ (role_of g x ≡ role.List)
is_listed g x ys h = elim (elements_are g x ys h) [ inl e ↦ inl e.0 | inr c ↦ inr c.list ]

pub same_elements : (g : List Triple) (x : Term) (ys zs : List Term) → HasElements g x ys → HasElements g x zs → ys ≡ zs
same_elements g _ _ zs (no_element x e) h =
    elim (elements_are g x zs h) [ inl empty ↦ sym empty.1 | inr c ↦ absurd (no_nil g x e c.list) ]
same_elements g _ _ zs (element x first rest more l f r k) h =
    elim (elements_are g x zs h) [
      | inl empty ↦ absurd (no_nil g x empty.0 l)
      | inr c ↦
          let a = same_only first c.first (sym f ∙ c.one_first) in
          let b = same_only c.rest rest (sym c.one_rest ∙ r) in
          let others = same_elements g rest more c.more k (subst (λ y. HasElements g y c.more) b c.has_elements) in
          (λ i. a i ∷ others i) ∙ sym c.joined
    ]

module _ (g : List Triple) (acyclic : (label : List ℕ) → IsCyclic g label → ⊥) (cells : (x : Term) → role_of g x ≡ role.List → IsCell g x) where
  abbrev IsListed : Term → Type 0
  IsListed x = (x ≡ Iri nil_iri) ⊎ (role_of g x ≡ role.List)

  elements_from : (x : Term) → ((y : Term) → IsDirectlyBelow g y x → IsListed y → (ys : List Term) × HasElements g y ys) → IsListed x → (ys : List Term) × HasElements g x ys
  elements_from x below (inl e) = ([], no_element x e)
  elements_from x below (inr l) =
      let c = cells x l in
      let rest = below c.rest (rest_below g x c.rest l c.one_rest) c.goes_on in
      (c.first ∷ rest.0, element x c.first c.rest rest.0 l c.one_first c.one_rest rest.1)

  pub elements_of : (x : Term) → IsListed x → (ys : List Term) × HasElements g x ys
  elements_of = by_terms_below g acyclic (λ x. IsListed x → (ys : List Term) × HasElements g x ys) elements_from
