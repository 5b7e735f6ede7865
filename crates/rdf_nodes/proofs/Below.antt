-- The operands of a form stand for what is below its node.
use Rattle.std.specs.Prelude.{◌≡◌, ℕ, true, List, [], ◌∷◌, ◌++◌, Contains, Option, Some, slice_get}
use Rattle.std.specs.List.{AllByRecursion, list_all}
use Rattle.std.proofs.Common.{inl, sym, ap, ◌∙◌, subst}
use Rattle.std.proofs.lemmas.Bool.{and_parts}
use Rattle.std.proofs.lemmas.List.Elements.{Contains-append_left}
use Rattle.std.proofs.lemmas.Option.{none-some}
use Rattle.owl_kind.specs.Kinds.{Entity}
use Rattle.owl_list.proofs.AscendingLaws.{in_head}
use Rattle.owl_tree.specs.declared.row.Sort.{Sort}
use Rattle.owl_tree.specs.Trees.{Tree}
use Rattle.rdf_graph.specs.declared.term.Term.{Term}
use Rattle.rdf_graph.specs.declared.term.Term.TheVariants.{Blank}
use Rattle.rdf_graph.specs.declared.triple.Triple.{Triple}
use Rattle.rdf_meaning.specs.declared.role.Role.TheVariants as role
use Rattle.rdf_meaning.specs.declared.row.Part.{Part}
use Rattle.rdf_meaning.specs.declared.row.Site.{Site}
use Rattle.rdf_meaning.specs.declared.row.Want.{Want}
use Rattle.rdf_meaning.proofs.ListLaws.{passes}
use Rattle.rdf_meaning.specs.Nodes.{role_of}
use Rattle.rdf_meaning.specs.Denotation.{of_node, select, sort_of}
use Rattle.rdf_meaning.specs.RowTests.{has_row}
use Rattle.rdf_meaning.specs.Rows.{axiom_rows, node_rows}
use Rattle.rdf_meaning.specs.Statements.{IsDirectlyBelow}
use Rattle.rdf_faults.specs.Asked.{rows}
use Rattle.rdf_faults.proofs.BelowLaws.{below_by, first_below, rest_below}
use Rattle.rdf_faults.proofs.DenotedLaws.{row_leads}
use Rattle.rdf_faults.proofs.RowPairLaws.{own_place_at, rows_have_own_parts}
use Rattle.rdf_faults.proofs.RowPairTestLaws.{are_own_at, has_own_parts, is_own_place}
use Rattle.rdf_asked.proofs.ListedLaws.{all_more}
use Rattle.rdf_roles.proofs.NodeLaws.{keys_are}
use Rattle.rdf_roles.specs.OrderLaws.{AreClosed, leads_to_front}
use Rattle.rdf_roles.specs.Tables.{IsTableOf, LeadsTo, RoleTable, blank_nodes}
use Rattle.rdf_roles.proofs.WayLaws.{numbered_by_role}
use Rattle.rdf_nodes.specs.declared.form.Form.{Form}
use Rattle.rdf_nodes.specs.declared.form.Operand.{Operand}
use Rattle.rdf_nodes.specs.declared.form.Operand.TheVariants as operand
use Rattle.rdf_nodes.proofs.ExpressionLaws.{expression_has_row}
use Rattle.rdf_nodes.specs.Numbers.{AreKnownBelow, HasItsNumber, IsExpression, IsPassed}
use Rattle.rdf_nodes.specs.Operands.{AreElements, no_cell, cell, AreOperands, no_parts, part, Gives, one, many, mark, is_true, IsForm, IsNodeOf, IsOperand, by_itself, by_node, IsTree, StandAt, labels}

pub as_nodes : (g : List Triple) (roles : RoleTable) → IsTableOf g roles → labels roles ≡ blank_nodes g
as_nodes g roles table = keys_are g roles.nodes table.nodes

-- what stands before a node in the order is what it leads to
pub passed_below : (g : List Triple) (roles : RoleTable) → IsTableOf g roles → (passed : List ℕ) (number : ℕ) (rest : List ℕ) → roles.order ≡ passed ++ number ∷ rest → (label : List ℕ) →
    slice_get (labels roles) number ≡ Some label → (y : Term) → LeadsTo g (Blank label) y → IsPassed g passed y
passed_below g roles table passed number rest split label at y leads next is =
    leads_to_front g roles.order table.order passed number rest split next
    (record {
      from = label;
      to = is.label;
      from_at = subst (λ ls. slice_get ls number ≡ Some label) (as_nodes g roles table) at;
      to_at = is.at;
      leads = subst (LeadsTo g (Blank label)) is.is leads;
    })

module _ (g : List Triple) (k : List Entity) (roles : RoleTable) (table : IsTableOf g roles) (passed : List ℕ) (closed : AreClosed g passed) (P : Operand → Type 0)
    (own : (what : Option Tree) (o : Operand) → IsTree what o → P o)
    (at_node : (s : Sort) (x : Term) (number : ℕ) → IsNodeOf g roles s x number → Contains passed number → P (operand.Node number)) where
  operand_is : (s : Sort) (x : Term) (o : Operand) → IsOperand g k roles s x o → IsPassed g passed x → P o
  operand_is s x _ (by_itself o is) p = own _ o is
  operand_is s x _ (by_node number is) p =
      at_node s x number is (p number (record { label = is.label; is = is.blank; at = subst (λ ls. slice_get ls number ≡ Some is.label) (as_nodes g roles table) is.at }))

  below_cell : (x y : Term) → IsPassed g passed x → role_of g x ≡ role.List → IsDirectlyBelow g y x → IsPassed g passed y
  below_cell x y p list below number node =
      let n = numbered_by_role g x (λ e. let never : role.List ≡ role.Individual = sym list ∙ e in cc) in
      closed n.number number (p n.number (record { label = n.label; is = n.is; at = n.at }))
      (record {
        from = n.label;
        to = node.label;
        from_at = n.at;
        to_at = node.at;
        leads = inl (subst (λ z. IsDirectlyBelow g z (Blank n.label)) node.is (subst (λ z. IsDirectlyBelow g y z) n.is below));
      })

  elements_are : (s : Sort) (x : Term) (os : List Operand) → AreElements g k roles s x os → IsPassed g passed x → AllByRecursion P os
  elements_are s _ _ (no_cell x e) p = tt
  elements_are s _ _ (cell x first rest o os c is more) p = (
    operand_is s first o is (below_cell x first p c.list (first_below g x first c.list c.one_first)),
    elements_are s rest os more (below_cell x rest p c.list (rest_below g x rest c.list c.one_rest)),
  )

  given_are : (x : Term) (w : Want) (os : List Operand) → Gives g k roles x w os → IsPassed g passed x → AllByRecursion P os
  given_are x _ _ (one s o is) p = (operand_is s x o is p, tt)
  given_are x _ _ (many s least os n are) p = elements_are s x os are p
  given_are x _ _ mark p = tt
  given_are x _ _ (is_true e) p = tt

  module _ (x : Term) (has : has_row (role_of g x) ≡ true) (below : (y : Term) → LeadsTo g x y → IsPassed g passed y) where
    part_are : (all : List Part) (p : Part) (os : List Operand) → is_own_place (role_of g x) all p.place ≡ true → StandAt g k roles x p os → AllByRecursion P os
    part_are all p os t stand =
        let own_word = own_place_at (role_of g x) all p.place t in
        let chosen_there = sym (ap (select g (of_node x)) own_word.at) ∙ stand.selected in
        given_are stand.object p.want os stand.gives
        (below stand.object (inl (below_by g x stand.object own_word.w (row_leads (role_of g x) has) own_word.among
        (subst (λ ys. Contains ys stand.object) (sym chosen_there) (in_head stand.object [])))))

    parts_are : (all ps : List Part) (os : List Operand) → list_all (λ p. is_own_place (role_of g x) all p.place) ps ≡ true → AreOperands g k roles x ps os → AllByRecursion P os
    parts_are all _ _ t no_parts = tt
    parts_are all _ _ t (part p ps os us stand more) =
        let tests = and_parts (is_own_place (role_of g x) all p.place) (list_all (λ q. is_own_place (role_of g x) all q.place) ps) t in
        all_more P os us (part_are all p os tests.0 stand) (parts_are all ps us tests.1 more)

    -- what is so of each tree, and of each node below, is so of each operand
    pub operands_are : (form : Form) → IsForm g k roles x form → AllByRecursion P form.operands.items
    operands_are form is =
        let own_at = subst (λ (site : Site). are_own_at site is.row.parts ≡ true) is.fits.0 (passes has_own_parts rows is.row rows_have_own_parts (Contains-append_left node_rows axiom_rows is.row is.among)) in
        parts_are is.row.parts is.row.parts form.operands.items own_at is.operands

module _ (g : List Triple) (roles : RoleTable) {N : Type 0} (ns : List (Option N)) (x : Term) (below : AreKnownBelow g roles ns x) where
  own_known : (what : Option Tree) (o : Operand) → IsTree what o → HasItsNumber ns o
  own_known what (operand.Leaf t a) own = tt
  own_known what (operand.Facet iri literal) own = tt
  own_known what (operand.Node number) own = absurd (none-some own.tree own.own)

  node_known : (s : Sort) (y : Term) (number : ℕ) → IsNodeOf g roles s y number → Contains below.passed number → HasItsNumber ns (operand.Node number)
  node_known s y number is m = below.known number m is.label s is.at (ap (λ z. sort_of (role_of g z)) (sym is.blank) ∙ is.gives)

  -- where those below a node are known, its operands are
  pub operands_known : (k : List Entity) → IsTableOf g roles → (form : Form) → IsExpression g k roles x form → AllByRecursion (HasItsNumber ns) form.operands.items
  operands_known k table form is =
      operands_are g k roles table below.passed below.closed (HasItsNumber ns) own_known node_known x (expression_has_row (role_of g x) is.sort is.gives) below.below form is.form
