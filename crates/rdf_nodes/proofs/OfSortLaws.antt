-- The laws of what terms stand for: something is found exactly where a term is of the sort.
use Rattle.std.specs.Prelude.{◌≡◌, true, IsTrue, List, [], ◌∷◌, Option, None, Some, length}
use Rattle.std.specs.Option.{is_some}
use Rattle.std.proofs.Common.{suc, inl, inr, refl, ap, ◌∙◌}
use Rattle.std.proofs.lemmas.Bool.{or_cases, or_left, or_right}
use Rattle.owl_kind.specs.Kinds.{Entity}
use Rattle.owl_tree.specs.declared.row.Sort.{Sort}
use Rattle.owl_tree.specs.declared.row.Sort.TheVariants as sort
use Rattle.owl_tree.specs.Trees.{Tree}
use Rattle.rdf_graph.specs.declared.term.Term.{Term}
use Rattle.rdf_graph.specs.declared.triple.Triple.{Triple}
use Rattle.rdf_meaning.specs.declared.role.Role.{Role}
use Rattle.rdf_meaning.specs.declared.role.Role.TheVariants as role
use Rattle.rdf_meaning.specs.Denotation.{simple, sort_of}
use Rattle.rdf_meaning.specs.Nodes.{role_of}
use Rattle.rdf_faults.specs.Asked.{HasElements, no_element, element, is_of_sort, role_gives}
use Rattle.rdf_asked.proofs.ListedLaws.{same_elements}
use Rattle.rdf_roles.specs.Tables.{RoleTable}
use Rattle.rdf_nodes.specs.declared.form.Operand.{Operand}
use Rattle.rdf_nodes.specs.Operands.{AreElements, no_cell, cell, IsOperand, by_itself, by_node, is_told_by_kind}

pub gives_sort : (r : Role) (s : Sort) → sort_of r ≡ Some s → role_gives r s ≡ true
gives_sort role.Property sort.ObjectPropertyExpression e = refl
gives_sort role.Class sort.ClassExpression e = refl
gives_sort role.Range sort.DataRange e = refl
gives_sort r s e = cc

sort_given : (r : Role) (s : Sort) → is_told_by_kind s ≡ true → role_gives r s ≡ true → sort_of r ≡ Some s
sort_given role.Property sort.ObjectPropertyExpression t e = refl
sort_given role.Class sort.ClassExpression t e = refl
sort_given role.Range sort.DataRange t e = refl
sort_given role.Facet sort.FacetPair t e = cc
sort_given r s t e = cc

some_simple : (o : Option Tree) (t : Tree) → o ≡ Some t → is_some o ≡ true
some_simple o t e = ap is_some e

no_simple : (o : Option Tree) → o ≡ None → is_some o ≡ true → ⊥
no_simple o e h = let none = ap is_some e in cc

module _ (g : List Triple) (k : List Entity) (roles : RoleTable) where
  -- what is found is of the sort
  pub found_is_of_sort : (s : Sort) (x : Term) (o : Operand) → IsOperand g k roles s x o → IsTrue (is_of_sort g k s x)
  found_is_of_sort s x o (by_itself _ own) = or_left (is_some (simple g k s x)) (role_gives (role_of g x) s) (some_simple _ own.tree own.is)
  found_is_of_sort s x _ (by_node number is) = or_right (is_some (simple g k s x)) (role_gives (role_of g x) s) (gives_sort (role_of g x) s is.gives)

  -- the elements that are found are those of the list
  pub has_elements : (s : Sort) (x : Term) (os : List Operand) → AreElements g k roles s x os → (ys : List Term) × HasElements g x ys × (length ys ≡ length os)
  has_elements s _ _ (no_cell x e) = ([], no_element x e, refl)
  has_elements s _ _ (cell x first rest o os c is more) =
      let r = has_elements s rest os more in (first ∷ r.0, element x first rest r.0 c.list c.one_first c.one_rest r.1, ap suc r.2)

  pub as_many_elements : (s : Sort) (x : Term) (os : List Operand) → AreElements g k roles s x os → (ys : List Term) → HasElements g x ys → length ys ≡ length os
  as_many_elements s x os h ys has = let r = has_elements s x os h in ap length (same_elements g x ys r.0 has r.1) ∙ r.2

-- nothing is found of what is not of the sort
pub nothing_of_sort : (g : List Triple) (k : List Entity) (s : Sort) (x : Term) → is_told_by_kind s ≡ true → simple g k s x ≡ None → (sort_of (role_of g x) ≡ Some s → ⊥) →
    IsTrue (is_of_sort g k s x) → ⊥
nothing_of_sort g k s x told none no_node h =
    elim (or_cases (is_some (simple g k s x)) (role_gives (role_of g x) s) h) [
      | inl some ↦ no_simple (simple g k s x) none some
      | inr gives ↦ no_node (sort_given (role_of g x) s told gives)
    ]
