-- In a graph that says an ontology each node has its form, and each triple names what it may.
use Rattle.std.specs.Prelude.{◌≡◌, ℕ, true, false, not, List, Contains, IsTrue, Some}
use Rattle.std.specs.List.{AllByRecursion, list_all}
use Rattle.std.proofs.Common.{inl, inr, refl, sym, ap, ◌∙◌, subst}
use Rattle.std.proofs.lemmas.Bool.{and_parts, both_ways, not-true}
use Rattle.std.proofs.lemmas.List.Elements.{Contains-append_left, Contains-append_right}
use Rattle.owl_kind.specs.Kinds.{Entity}
use Rattle.owl_tree.specs.Ontologies.{Ontology}
use Rattle.owl_tree.specs.Trees.{Tree}
use Rattle.rdf_graph.specs.declared.term.Term.{Term}
use Rattle.rdf_graph.specs.declared.term.Term.TheVariants.{Blank}
use Rattle.rdf_graph.specs.declared.triple.Triple.{Triple}
use Rattle.rdf_meaning.proofs.ListLaws.{passes}
use Rattle.rdf_meaning.specs.declared.role.Role.{Role}
use Rattle.rdf_meaning.specs.declared.role.Role.TheVariants as role
use Rattle.rdf_meaning.specs.declared.row.Site.{Site}
use Rattle.rdf_meaning.specs.Nodes.{is_role, is_structural, role_of}
use Rattle.rdf_meaning.specs.Rows.{Row, axiom_rows, node_rows}
use Rattle.rdf_meaning.specs.RowTests.{has_row, has_row_at, is_apart_from_facets}
use Rattle.rdf_meaning.proofs.RowLaws.{at_expression, axiom_marked_well, own_role}
use Rattle.rdf_meaning.specs.Denotation.{of_node, of_triple, Fits, Holds, IsRowOf, facet_pair, facets_of}
use Rattle.rdf_meaning.proofs.DenotationLaws.{key_is, list_is, one_is, itself, with_row}
use Rattle.rdf_meaning.proofs.SoundLaws.{in_facets, plain_itself}
use Rattle.rdf_meaning.specs.Statements.{IsPartOfAxiom, IsSoundAs, Says, main_triples}
use Rattle.rdf_faults.specs.Asked.{IsAskedFor, suited, IsTyped, IsTypedAs, IsTypedAxiom, rows}
use Rattle.rdf_faults.specs.Formed.{HasFormedRow, IsFormedAs}
use Rattle.rdf_faults.specs.Meant.{AnyTree, HasPart, IsMeant, an_individual, a_tree, a_list, a_list_of_keys, an_axiom}
use Rattle.rdf_faults.proofs.MeantLaws.{each_part, node_axiom, node_meant, pair_literal, triple_axiom}
use Rattle.rdf_faults.specs.WantLaws.{axiom_known, expression_known, parts_formed, parts_met, suits, wants_known}

pub no_expression : list_all (λ row. not (has_row_at row.site)) axiom_rows ≡ true
unfolding axiom_rows
no_expression = refl

apart_from : (a b : Role) → a ≡ b → is_role a b ≡ false → ⊥
apart_from a b e other = both_ways (is_role a b) other (subst (λ c. is_role a c ≡ true) e (own_role a))

module _ (g : List Triple) (k : List Entity) where
  -- what a meant node is by its role
  data IsNode (x : Term) : Type 0 where
    no_node : role_of g x ≡ role.Individual → IsNode x
    list_cell : role_of g x ≡ role.List → IsNode x
    facet : role_of g x ≡ role.Facet → (u : Tree) → facet_pair (facets_of g x) ≡ Some u → IsNode x
    expression : (row : Row) → IsRowOf g k (of_node x) node_rows row → IsNode x
    main : (row : Row) → IsRowOf g k (of_node x) axiom_rows row → IsNode x

  is_node : (x : Term) → IsMeant g k AnyTree x → IsNode x
  is_node _ (an_individual x e) = no_node e
  is_node _ (a_tree x s ts d _) =
      elim (one_is g k s x ts d) [
        | itself u e _ ↦ elim (plain_itself g k s x u e) [ inl i ↦ no_node i | inr f ↦ facet f.0 u f.1 ]
        | with_row row us m a f held _ ↦ expression row (record { among = m; fits = f; kids = us; holds = held })
      ]
  is_node _ (a_list x s ts l _) =
      elim (list_is g k x s ts l) [ inl empty ↦ no_node (ap (role_of g) empty.0) | inr c ↦ list_cell c.list ]
  is_node _ (a_list_of_keys x os ds are _ _) =
      elim (key_is g k x os ds are) [ inl empty ↦ no_node (ap (role_of g) empty.0) | inr c ↦ list_cell c.list ]
  is_node _ (an_axiom x t ts is _) =
      main is.row (record { among = is.among; fits = is.fits; kids = ts; holds = is.parts })

  -- where its role has rows it is of one of them
  row_of_node : (x : Term) → IsNode x → has_row (role_of g x) ≡ true → (row : Row) × IsRowOf g k (of_node x) node_rows row
  row_of_node x (no_node e) h = absurd (both_ways _ (ap has_row e) h)
  row_of_node x (list_cell e) h = absurd (both_ways _ (ap has_row e) h)
  row_of_node x (facet e u f) h = absurd (both_ways _ (ap has_row e) h)
  row_of_node x (expression row is) h = (row, is)
  row_of_node x (main row is) h =
      absurd (
      both_ways _ (not-true _ (passes (λ r. not (has_row_at r.site)) axiom_rows row no_expression is.among))
      (subst (λ (site : Site). has_row_at site ≡ true) (sym is.fits.0) h))

  -- and a facet has its value
  value_of_facet : (x : Term) → IsNode x → role_of g x ≡ role.Facet → (u : Tree) × (facet_pair (facets_of g x) ≡ Some u)
  value_of_facet x (no_node e) f = absurd (apart_from role.Individual role.Facet (sym e ∙ f) refl)
  value_of_facet x (list_cell e) f = absurd (apart_from role.List role.Facet (sym e ∙ f) refl)
  value_of_facet x (facet e u pair) f = (u, pair)
  value_of_facet x (expression row is) f =
      absurd (both_ways _ (ap has_row f) (subst (λ (site : Site). has_row_at site ≡ true) is.fits.0 (at_expression row is.among)))
  value_of_facet x (main row is) f =
      let well = (and_parts (is_apart_from_facets row.site) _ (axiom_marked_well row is.among)).0 in
      let plain : not (is_role role.Facet (role_of g x)) ≡ true = subst (λ (site : Site). is_apart_from_facets site ≡ true) is.fits.0 well in
      absurd (both_ways _ (not-true _ plain) (ap (is_role role.Facet) f))

  row_formed : (all : List Row) (x : Term) (row : Row) → IsRowOf g k (of_node x) all row → wants_known row ≡ true → HasFormedRow g all x
  row_formed all x row is known =
      record {
        row = row;
        among = is.among;
        fits = is.fits;
        formed = parts_formed g k x row known (each_part g k (of_node x) row.parts is.kids is.holds);
      }

  asked_for : (t : Triple) (row : Row) → Contains g t → Contains rows row → Fits g (of_node t.subject) row → wants_known row ≡ true → (ts : List Tree) → Holds g k (of_node t.subject) row.parts ts → IsAskedFor g k t
  asked_for t row m among fits known ts h =
      let parts = each_part g k (of_node t.subject) row.parts ts h in
      suited row (record { among = among; fits = fits }) (suits g k t row m known parts) (λ by u n e on.
      suits g k u row n known (subst (λ x. AllByRecursion (HasPart g k (of_node x)) row.parts) (sym e) parts))

-- in a graph that says an ontology

module _ (g : List Triple) (k : List Entity) (o : Ontology) (h : Says g k o) where
  its_row : (x : Term) → IsPartOfAxiom (role_of g x) → has_row (role_of g x) ≡ true → (row : Row) × IsRowOf g k (of_node x) node_rows row
  its_row x p has = row_of_node g k x (is_node g k x (node_meant g k o h x p)) has

  expression_formed : (x : Term) (r : Role) → role_of g x ≡ r → IsPartOfAxiom r → has_row r ≡ true → HasFormedRow g node_rows x
  expression_formed x r e p has =
      let is = its_row x (subst IsPartOfAxiom (sym e) p) (ap has_row e ∙ has) in
      row_formed g k node_rows x is.0 is.1 (expression_known is.0 is.1.among)

  main_formed : (x : Term) → role_of g x ≡ role.Main → HasFormedRow g axiom_rows x
  main_formed x e =
      let is = node_axiom g k o h x e in
      row_formed g k axiom_rows x is.said.row
      (record { among = is.said.among; fits = is.said.fits; kids = is.kids; holds = is.said.parts }) (axiom_known is.said.row is.said.among)

  formed_as : (x : Term) (r : Role) → role_of g x ≡ r → IsSoundAs g r x → IsFormedAs g r x
  formed_as x role.List e sound = sound
  formed_as x role.Property e sound = expression_formed x role.Property e tt refl
  formed_as x role.Class e sound = expression_formed x role.Class e tt refl
  formed_as x role.Range e sound = expression_formed x role.Range e tt refl
  formed_as x role.Facet e sound = sound
  formed_as x role.Main e sound = main_formed x e
  formed_as x role.Note e sound = sound
  formed_as x role.Header e sound = tt
  formed_as x role.Individual e sound = tt

  pub node_formed : (label : List ℕ) → IsFormedAs g (role_of g (Blank label)) (Blank label)
  node_formed label = formed_as (Blank label) (role_of g (Blank label)) refl (h.whole.sound label)

  expression_asked : (t : Triple) (r : Role) → Contains g t → role_of g t.subject ≡ r → IsPartOfAxiom r → has_row r ≡ true → IsAskedFor g k t
  expression_asked t r m e p has =
      let is = its_row t.subject (subst IsPartOfAxiom (sym e) p) (ap has_row e ∙ has) in
      asked_for g k t is.0 m (Contains-append_left node_rows axiom_rows is.0 is.1.among) is.1.fits (expression_known is.0 is.1.among) is.1.kids is.1.holds

  main_asked : (t : Triple) → Contains g t → role_of g t.subject ≡ role.Main → IsAskedFor g k t
  main_asked t m e =
      let is = node_axiom g k o h t.subject e in
      let row = is.said.row in
      asked_for g k t row m (Contains-append_right node_rows axiom_rows row is.said.among) is.said.fits (axiom_known row is.said.among) is.kids is.said.parts

  typed_as : (t : Triple) (r : Role) → Contains g t → IsTrue (is_structural g t) → role_of g t.subject ≡ r → IsTypedAs g k r t
  typed_as t role.List m s e = tt
  typed_as t role.Property m s e = expression_asked t role.Property m e tt refl
  typed_as t role.Class m s e = expression_asked t role.Class m e tt refl
  typed_as t role.Range m s e = expression_asked t role.Range m e tt refl
  typed_as t role.Facet m s e =
      let meant = node_meant g k o h t.subject (subst IsPartOfAxiom (sym e) tt) in
      let pair = value_of_facet g k t.subject (is_node g k t.subject meant) e in
      pair_literal (facets_of g t.subject) pair.0 pair.1 t (in_facets g t.subject e t m refl s)
  typed_as t role.Main m s e = main_asked t m e
  typed_as t role.Note m s e = tt
  typed_as t role.Header m s e = tt
  typed_as t role.Individual m s e = tt

  pub triple_typed : (t : Triple) → Contains g t → IsTrue (is_structural g t) → IsTyped g k t
  triple_typed t m s = typed_as t (role_of g t.subject) m s refl

  pub axiom_typed : (t : Triple) → Contains (main_triples g k h.states.header) t → IsTypedAxiom g k t
  axiom_typed t m =
      let is = triple_axiom g k o h t m in
      let row = is.said.row in
      record {
        row = row;
        among = is.said.among;
        fits = is.said.fits;
        met = parts_met g k (of_triple t) row (axiom_known row is.said.among) (each_part g k (of_triple t) row.parts is.kids is.said.parts);
      }
