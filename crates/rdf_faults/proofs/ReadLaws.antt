-- Each term of a graph without faults of its nodes denotes what it may stand for, and each triple and node that would be an axiom is one.
use Rattle.std.specs.Prelude.{◌≡◌, ℕ, Bool, true, false, not, cond, is_some, List, [], ◌∷◌, Contains}
use Rattle.std.specs.List.{list_all}
use Rattle.std.specs.Str.{bytes_eq}
use Rattle.std.proofs.Common.{inl, inr, refl, sym, ap, ◌∙◌, subst}
use Rattle.std.proofs.lemmas.Bool.{both_ways, not-true, or_cases}
use Rattle.std.proofs.lemmas.List.Elements.{Contains-append_cases, Contains-append_left, Contains-append_right}
use Rattle.owl_list.proofs.AscendingLaws.{all_from, in_head}
use Rattle.owl_kind.specs.Kinds.{Entity}
use Rattle.owl_tree.specs.Rows.{admits}
use Rattle.owl_tree.specs.declared.row.Sort.{Sort}
use Rattle.owl_tree.specs.declared.row.Sort.TheVariants as sort
use Rattle.owl_tree.specs.Trees.{Tree, node, kids_of}
use Rattle.rdf_graph.specs.declared.term.Term.{Term}
use Rattle.rdf_graph.specs.declared.term.Term.TheVariants.{Iri}
use Rattle.rdf_graph.specs.declared.triple.Triple.{Triple}
use Rattle.owl_list.proofs.FilterLaws.{from_filter}
use Rattle.rdf_meaning.proofs.ListLaws.{passes}
use Rattle.rdf_meaning.specs.declared.role.Role.{Role}
use Rattle.rdf_meaning.specs.declared.role.Role.TheVariants as role
use Rattle.rdf_meaning.specs.declared.row.Part.{Part}
use Rattle.rdf_meaning.specs.declared.row.Place.{Place}
use Rattle.rdf_meaning.specs.declared.row.Place.TheVariants.{At, Subject, Predicate, Object}
use Rattle.rdf_meaning.specs.declared.row.Site.{Site}
use Rattle.rdf_meaning.specs.declared.row.Site.TheVariants.{Node, TypedBy, OtherType, LinkedBy, OtherLink}
use Rattle.rdf_meaning.specs.declared.row.Want.TheVariants.{One}
use Rattle.rdf_meaning.specs.declared.word.Word.{Word}
use Rattle.rdf_meaning.specs.Kinds.{HaveNoClash}
use Rattle.rdf_meaning.specs.Nodes.{is_facet, is_structural, of_subject, role_of, type_iri}
use Rattle.rdf_meaning.proofs.NodeLaws.{from_subject}
use Rattle.rdf_meaning.specs.Rows.{Row, axiom_rows, node_rows}
use Rattle.rdf_meaning.specs.RowTests.{has_row, has_row_at}
use Rattle.rdf_meaning.proofs.RowLaws.{at_expression}
use Rattle.rdf_meaning.specs.Denotation.{Bearer, of_node, of_triple, Denotes, by_itself, by_row, Fits, Holds, facets_of, first_of, select, simple, site_of}
use Rattle.rdf_meaning.specs.Statements.{IsAxiomWith, IsDirectlyBelow}
use Rattle.rdf_faults.specs.Asked.{IsRow, IsTyped, IsTypedAs, IsTypedAxiom, is_of_sort, role_gives}
use Rattle.rdf_faults.specs.Formed.{HasFormedRow, IsFormedAs}
use Rattle.rdf_faults.specs.Faults.{IsCyclic}
use Rattle.rdf_faults.proofs.BelowLaws.{below_by, leads_by_words}
use Rattle.rdf_faults.specs.DecidedLaws.{only_of_length}
use Rattle.rdf_faults.proofs.DenotedLaws.{HasRead, IsRead, asked_as, facet_simple, facet_structural, formed_row, gives_such, giving, keys_read, list_read, parts_hold, row_leads, rows_give_such, some_pair, some_value}
use Rattle.rdf_faults.proofs.RowOfNodeLaws.{HasMetRow, met_row, one_chosen, own_place}
use Rattle.rdf_faults.proofs.TypedLaws.{no_expression}
use Rattle.rdf_faults.specs.WantLaws.{site_gives}
use Rattle.rdf_faults.proofs.WayDownLaws.{by_terms_below}

-- a row of triples has its parts at the ends of the triple

abbrev is_end : Place → Bool
is_end (At w) = false
is_end Subject = true
is_end Predicate = true
is_end Object = true

abbrev are_at_ends : Site → List Part → Bool
are_at_ends (Node r) ps = true
are_at_ends (TypedBy w) ps = list_all (λ p. is_end p.place) ps
are_at_ends OtherType ps = list_all (λ p. is_end p.place) ps
are_at_ends (LinkedBy w) ps = list_all (λ p. is_end p.place) ps
are_at_ends OtherLink ps = list_all (λ p. is_end p.place) ps

axioms_at_ends : list_all (λ row. are_at_ends row.site row.parts) axiom_rows ≡ true
unfolding axiom_rows
axioms_at_ends = refl

chosen_ends : (b : Bool) (ts us : List Word) (ps : List Part) → are_at_ends (cond b (first_of TypedBy OtherType ts) (first_of LinkedBy OtherLink us)) ps ≡ true → list_all (λ p. is_end p.place) ps ≡ true
chosen_ends true [] us ps h = h
chosen_ends true (w ∷ ts) us ps h = h
chosen_ends false ts [] ps h = h
chosen_ends false ts (w ∷ us) ps h = h

site_ends : (t : Triple) (ps : List Part) → are_at_ends (site_of t) ps ≡ true → list_all (λ p. is_end p.place) ps ≡ true
unfolding site_of
site_ends t ps h = chosen_ends (bytes_eq t.predicate type_iri) _ _ ps h

end_of : (g : List Triple) (t : Triple) (place : Place) → is_end place ≡ true → (z : Term) × (select g (of_triple t) place ≡ z ∷ [])
end_of g t (At w) h = cc
end_of g t Subject h = (t.subject, refl)
end_of g t Predicate h = (Iri t.predicate, refl)
end_of g t Object h = (t.object, refl)

module _ (g : List Triple) (k : List Entity) (none : HaveNoClash k) (acyclic : (label : List ℕ) → IsCyclic g label → ⊥) (formed : (x : Term) → IsFormedAs g (role_of g x) x) (typed : (t : Triple) → Contains g t → is_structural g t ≡ true → IsTyped g k t) where
  typed_as : (t : Triple) (x : Term) (r : Role) → Contains g t → t.subject ≡ x → role_of g x ≡ r → is_structural g t ≡ true → IsTypedAs g k r t
  typed_as t x r m e f s = subst (λ q. IsTypedAs g k q t) (ap (role_of g) e ∙ f) (typed t m s)

  formed_as : (x : Term) (r : Role) → role_of g x ≡ r → IsFormedAs g r x
  formed_as x r e = subst (λ q. IsFormedAs g q x) e (formed x)

  -- the parts of a node's row

  node_parts : (x : Term) → leads_by_words (role_of g x) ≡ true → ((y : Term) → IsDirectlyBelow g y x → IsRead g k y) → (h : HasMetRow g k x) → (ts : List Tree) × Holds g k (of_node x) h.row.parts ts
  node_parts x leads below h =
      parts_hold g k (of_node x) h.row.parts h.met (all_from (HasRead g k (of_node x)) h.row.parts (λ p m.
      let own = own_place g k none x leads h.row h.is p m in
      let only = one_chosen g k none x leads h.row h.is p own in
      let there = subst (λ ys. Contains ys only.only) (sym only.one) (in_head only.only []) in
      record {
        z = only.only;
        one = ap (select g (of_node x)) own.at ∙ only.one;
        read = below only.only (below_by g x only.only own.w leads own.among there);
      }))

  in_expressions : (x : Term) → has_row (role_of g x) ≡ true → (row : Row) → IsRow g x row → Contains node_rows row
  in_expressions x has row is =
      elim (Contains-append_cases node_rows axiom_rows row is.among) [
        | inl m ↦ m
        | inr m ↦
            absurd (
            both_ways _ (not-true _ (passes (λ r. not (has_row_at r.site)) axiom_rows row no_expression m))
            (subst (λ (site : Site). has_row_at site ≡ true) (sym is.fits.0) has))
      ]

  expression_met : (x : Term) → has_row (role_of g x) ≡ true → HasMetRow g k x
  expression_met x has =
      let f = formed_row g (role_of g x) x has (formed x) in
      met_row g k none x (row_leads (role_of g x) has)
      (λ t m e s. asked_as g k (role_of g x) t has (typed_as t x (role_of g x) m e refl s)) f.row
      (record { among = Contains-append_left node_rows axiom_rows f.row f.among; fits = f.fits })

  expression_read : (x : Term) → ((y : Term) → IsDirectlyBelow g y x → IsRead g k y) → (s : Sort) → has_row (role_of g x) ≡ true → role_gives (role_of g x) s ≡ true → (ts : List Tree) × Denotes g k x (One s) ts
  expression_read x below s has gives =
      let h = expression_met x has in
      let m = in_expressions x has h.row h.is in
      let kids = node_parts x (row_leads (role_of g x) has) below h in
      let such = passes (gives_such s) node_rows h.row (rows_give_such s) m in
      let site : site_gives h.row.site s ≡ true = subst (λ (site : Site). site_gives site s ≡ true) (sym h.is.fits.0) gives in
      elim (or_cases (not (site_gives h.row.site s)) (admits s h.row.tag) such) [
        | inl n ↦ absurd (both_ways _ (not-true _ n) site)
        | inr a ↦ (node h.row.tag (kids_of kids.0) ∷ [], by_row s x h.row kids.0 m a h.is.fits kids.1)
      ]

  -- a facet and its value
  facet_read : (x : Term) → role_of g x ≡ role.Facet → is_some (simple g k sort.FacetPair x) ≡ true
  facet_read x e =
      let only = only_of_length (facets_of g x) (formed_as x role.Facet e) in
      let kept = from_filter (λ t. is_facet t.predicate) (of_subject g x) only.only (subst (λ ts. Contains ts only.only) (sym only.one) (in_head only.only [])) in
      let own = from_subject g x only.only kept.inside in
      let structural = facet_structural g only.only (ap (role_of g) own.1 ∙ e) kept.passes in
      facet_simple g k x e (some_pair (facets_of g x) only.only only.one (typed_as only.only x role.Facet own.0 own.1 e structural))

  by_simple : (s : Sort) (x : Term) → is_some (simple g k s x) ≡ true → (ts : List Tree) × Denotes g k x (One s) ts
  by_simple s x h = let t = some_value (simple g k s x) h in (t.0 ∷ [], by_itself s x t.0 t.1)

  tree_read : (x : Term) → ((y : Term) → IsDirectlyBelow g y x → IsRead g k y) → (s : Sort) → is_of_sort g k s x ≡ true → (ts : List Tree) × Denotes g k x (One s) ts
  tree_read x below s h =
      elim (or_cases (is_some (simple g k s x)) (role_gives (role_of g x) s) h) [
        | inl some ↦ by_simple s x some
        | inr gives ↦
            elim (giving (role_of g x) s gives) [
              | inl has ↦ expression_read x below s has gives
              | inr f ↦ by_simple s x (subst (λ q. is_some (simple g k q x) ≡ true) (sym f.1) (facet_read x f.0))
            ]
      ]

  pub read : (x : Term) → IsRead g k x
  read =
      by_terms_below g acyclic (IsRead g k) (λ x below.
      record { tree = tree_read x below; list = list_read g k x below; keys = keys_read g k x below })

  -- axioms

  pub record HasSaid (b : Bearer) : Type 0 where
    pub row : Row
    pub kids : List Tree
    pub said : IsAxiomWith g k b row.tag kids

  said_by : (b : Bearer) (row : Row) → Contains axiom_rows row × Fits g b row → (ts : List Tree) × Holds g k b row.parts ts → HasSaid b
  said_by b row is holds = record { row = row; kids = holds.0; said = record { row = row; among = is.0; tag = refl; fits = is.1; parts = holds.1 } }

  pub triple_said : (t : Triple) → IsTypedAxiom g k t → HasSaid (of_triple t)
  triple_said t is =
      let ends = site_ends t is.row.parts (subst (λ (site : Site). are_at_ends site is.row.parts ≡ true) is.fits (passes (λ row. are_at_ends row.site row.parts) axiom_rows is.row axioms_at_ends is.among)) in
      said_by (of_triple t) is.row (is.among, is.fits)
      (parts_hold g k (of_triple t) is.row.parts is.met (all_from (HasRead g k (of_triple t)) is.row.parts (λ p m.
      let z = end_of g t p.place (passes (λ q. is_end q.place) is.row.parts p ends m) in
      record { z = z.0; one = z.1; read = read z.0 })))

  in_axioms : (x : Term) → role_of g x ≡ role.Main → (row : Row) → IsRow g x row → Contains axiom_rows row
  in_axioms x e row is =
      elim (Contains-append_cases node_rows axiom_rows row is.among) [
        | inl m ↦
            absurd (both_ways _ (ap has_row e) (subst (λ (site : Site). has_row_at site ≡ true) is.fits.0 (at_expression row m)))
        | inr m ↦ m
      ]

  pub node_said : (x : Term) → role_of g x ≡ role.Main → HasSaid (of_node x)
  node_said x e =
      let leads = ap leads_by_words e in
      let f : HasFormedRow g axiom_rows x = formed_as x role.Main e in
      let h =
      met_row g k none x leads (λ t m s structural. typed_as t x role.Main m s e structural) f.row
      (record { among = Contains-append_right node_rows axiom_rows f.row f.among; fits = f.fits }) in
      said_by (of_node x) h.row (in_axioms x e h.row h.is, h.is.fits) (node_parts x leads (λ y b. read y) h)
