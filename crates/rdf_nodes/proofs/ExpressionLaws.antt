-- Where nodes are meant as parts of axioms, those that are expressions denote trees of their sort.
use Rattle.std.specs.Prelude.{◌≡◌, true, not, List, [], ◌∷◌, Contains, None, Some}
use Rattle.std.specs.List.{AllByRecursion}
use Rattle.std.proofs.Common.{inl, inr, refl, sym, ap, ◌∙◌, subst}
use Rattle.std.proofs.lemmas.Bool.{both_ways, not-true}
use Rattle.std.proofs.lemmas.Option.{none-some, same_Some}
use Rattle.owl_kind.specs.Kinds.{Entity}
use Rattle.owl_tree.specs.declared.row.Sort.{Sort}
use Rattle.owl_tree.specs.Trees.{Tree, node, kids_of}
use Rattle.rdf_graph.specs.declared.term.Term.{Term}
use Rattle.rdf_graph.specs.declared.triple.Triple.{Triple}
use Rattle.rdf_meaning.specs.declared.role.Role.{Role}
use Rattle.rdf_meaning.specs.declared.role.Role.TheVariants as role
use Rattle.rdf_meaning.specs.declared.row.Site.{Site}
use Rattle.rdf_meaning.specs.declared.row.Site.TheVariants.{Node}
use Rattle.rdf_meaning.specs.declared.row.Want.TheVariants.{One}
use Rattle.rdf_meaning.specs.Denotation.{Denotes, by_row, sort_of, DenotesOwn}
use Rattle.rdf_meaning.proofs.DenotationLaws.{itself, with_row, key_is, list_is, one_is, one_tree, simple_has_none}
use Rattle.rdf_meaning.specs.Kinds.{HaveNoClash}
use Rattle.rdf_meaning.proofs.ListLaws.{passes}
use Rattle.rdf_meaning.specs.Nodes.{role_of}
use Rattle.rdf_meaning.specs.RowTests.{has_row, has_row_at}
use Rattle.rdf_meaning.specs.Rows.{Row, axiom_rows}
use Rattle.rdf_meaning.specs.Statements.{IsPartOfAxiom}
use Rattle.rdf_faults.specs.Meant.{AnyTree, IsMeant, an_individual, a_tree, a_list, a_list_of_keys, an_axiom}
use Rattle.rdf_faults.proofs.TypedLaws.{no_expression}
use Rattle.rdf_nodes.proofs.OperandLaws.{admitted}

pub expression_has_row : (r : Role) (s : Sort) → sort_of r ≡ Some s → has_row r ≡ true
expression_has_row role.Property s e = refl
expression_has_row role.Class s e = refl
expression_has_row role.Range s e = refl
expression_has_row r s e = cc

pub expression_is_part : (r : Role) (s : Sort) → sort_of r ≡ Some s → IsPartOfAxiom r
expression_is_part role.Property s e = tt
expression_is_part role.Class s e = tt
expression_is_part role.Range s e = tt
expression_is_part r s e = cc

module _ (g : List Triple) (k : List Entity) (x : Term) (s : Sort) (gives : sort_of (role_of g x) ≡ Some s) where
  no_role : (r : Role) → role_of g x ≡ r → sort_of r ≡ None → ⊥
  no_role r e none = none-some s (sym none ∙ ap sort_of (sym e) ∙ gives)

  tree_of_sort : (u : Sort) (ts : List Tree) → Denotes g k x (One u) ts → (t : Tree) × DenotesOwn g k x t × (ts ≡ t ∷ [])
  tree_of_sort u ts d =
      elim (one_is g k u x ts d) [
        | itself t e _ ↦ absurd (both_ways _ (simple_has_none g k u x t e) (expression_has_row (role_of g x) s gives))
        | with_row row us m a f held whole ↦ (
          node row.tag (kids_of us),
          record { sort = s; gives = gives; denotes = by_row s x row us m (admitted row (role_of g x) s m f.0 gives) f held },
          whole,
        )
      ]

  no_axiom : (row : Row) → Contains axiom_rows row → row.site ≡ Node (role_of g x) → ⊥
  no_axiom row m site =
      both_ways _ (not-true _ (passes (λ r. not (has_row_at r.site)) axiom_rows row no_expression m))
      (subst (λ (site : Site). has_row_at site ≡ true) (sym site) (expression_has_row (role_of g x) s gives))

-- a node that is an expression, and is meant, denotes a tree of its sort, of which it is true what is true of what is meant
pub meant_denotes_such : (g : List Triple) (k : List Entity) (P : Tree → Type 0) (x : Term) (s : Sort) → sort_of (role_of g x) ≡ Some s → IsMeant g k P x → (t : Tree) × DenotesOwn g k x t × P t
meant_denotes_such g k P _ s gives (an_individual x e) = absurd (no_role g k x s gives role.Individual e refl)
meant_denotes_such g k P _ s gives (a_tree x u ts d all) =
    let own = tree_of_sort g k x s gives u ts d in
    (own.0, own.1, (subst (AllByRecursion P) own.2 all).0)
meant_denotes_such g k P _ s gives (a_list x u ts l _) =
    elim (list_is g k x u ts l) [
      | inl empty ↦ absurd (no_role g k x s gives role.Individual (ap (role_of g) empty.0) refl)
      | inr c ↦ absurd (no_role g k x s gives role.List c.list refl)
    ]
meant_denotes_such g k P _ s gives (a_list_of_keys x os ds are _ _) =
    elim (key_is g k x os ds are) [
      | inl empty ↦ absurd (no_role g k x s gives role.Individual (ap (role_of g) empty.0) refl)
      | inr c ↦ absurd (no_role g k x s gives role.List c.list refl)
    ]
meant_denotes_such g k P _ s gives (an_axiom x tag ts is _) = absurd (no_axiom g k x s gives is.row is.among is.fits.0)

pub meant_denotes : (g : List Triple) (k : List Entity) (x : Term) (s : Sort) → sort_of (role_of g x) ≡ Some s → IsMeant g k AnyTree x → (t : Tree) × DenotesOwn g k x t
meant_denotes g k x s gives is = let own = meant_denotes_such g k AnyTree x s gives is in (own.0, own.1)

same_first : (t u : Tree) → t ∷ [] ≡ u ∷ [] → t ≡ u
same_first t u e = cc

-- it denotes one tree of its sort
pub own_same : (g : List Triple) (k : List Entity) → HaveNoClash k → (x : Term) (t u : Tree) → DenotesOwn g k x t → DenotesOwn g k x u → t ≡ u
own_same g k clean x t u d e =
    let sorts = same_Some e.sort d.sort (sym e.gives ∙ d.gives) in
    same_first t u (one_tree g k clean x (One d.sort) (t ∷ []) d.denotes (u ∷ []) (subst (λ s. Denotes g k x (One s) (u ∷ [])) sorts e.denotes))
