-- The forms of nodes, by their triples.
use Rattle.std.specs.Prelude.{◌≡◌, ◌↔◌, ℕ, Bool, true, false, not, IsTrue, List, [], ◌∷◌, None, Some, Option, length, option_map}
use Rattle.std.specs.Option.{is_some}
use Rattle.std.proofs.Common.{refl, sym, ap, ◌∙◌, subst, arith}
use Rattle.rdf_graph.specs.declared.term.Term.{Term}
use Rattle.rdf_graph.specs.declared.term.Term.TheVariants.{Blank}
use Rattle.rdf_graph.specs.declared.triple.Triple.{Triple}
use Rattle.rdf_meaning.specs.declared.role.Role.{Role}
use Rattle.rdf_meaning.specs.declared.role.Role.TheVariants as role
use Rattle.rdf_meaning.specs.Nodes.{of_subject, role_of}
use Rattle.rdf_faults.specs.Faults.{IsBadNode}
use Rattle.rdf_faults.specs.Formed.{IsFormedAs}
use Rattle.rdf_rows.specs.Chosen.{IsReificationOf, facets, the_only}
use Rattle.rdf_rows.proofs.NodeTripleLaws.{facets_are, reification_is}
use Rattle.rdf_roles.specs.declared.fault.NodeFault.{NodeFault}
use Rattle.rdf_roles.specs.declared.fault.NodeFault.TheVariants.{Mixed, BadList, Cycle, BadNode, Memory}
use Rattle.rdf_roles.proofs.FirstLaws.{HoldsNowhereBelow, first_at}
use Rattle.rdf_roles.specs.Refusals.{HaveCells, HaveNoCycle, HaveOneRole, IsNodeFault}
use Rattle.rdf_roles.specs.FaultPlaces.{IsBadNodeAt}
use Rattle.rdf_roles.specs.Tables.{blank_nodes}

-- one is told as the only one
one_told : {X Y : Type 0} (f : X → Y) (found : Option X) (ys : List Y) → option_map f found ≡ the_only ys → (is_some found ≡ true) ↔ (length ys ≡ 1)
one_told f None [] e = (λ h. cc, λ h. absurd (omega arith))
one_told f (Some x) [] e = cc
one_told f None (y ∷ []) e = cc
one_told f (Some x) (y ∷ []) e = (λ h. refl, λ h. refl)
one_told f None (y ∷ z ∷ ys) e = (λ h. cc, λ h. absurd (omega arith))
one_told f (Some x) (y ∷ z ∷ ys) e = cc

pub one_facet : {X : Type 0} (f : X → Triple) (found : Option X) (triples : List Triple) (answer : Bool) → option_map f found ≡ the_only (facets triples) → answer ≡ is_some found
    → IsTrue answer ↔ (length (facets triples) ≡ 1)
one_facet f found triples answer e a = let told = one_told f found (facets triples) e in (λ h. told.0 (sym a ∙ h), λ h. a ∙ told.1 h)

module _ (g : List Triple) (x : Term) (triples : List Triple) (about : triples ≡ of_subject g x) where
  pub facet_formed : (answer : Bool) → IsTrue answer ↔ (length (facets triples) ≡ 1) → IsTrue answer ↔ IsFormedAs g role.Facet x
  facet_formed answer is = subst (λ ts. IsTrue answer ↔ (length ts ≡ 1)) (ap facets about ∙ sym (facets_are g x)) is

  pub note_formed : (answer : Bool) → IsTrue answer ↔ IsReificationOf triples → IsTrue answer ↔ IsFormedAs g role.Note x
  note_formed answer is = (
    λ h. (reification_is g x).1 (subst IsReificationOf about (is.0 h)),
    λ r. is.1 (subst IsReificationOf (sym about) ((reification_is g x).0 r)),
  )

-- a bad node
pub cell_is_no_bad_node : (g : List Triple) (label : List ℕ) → role_of g (Blank label) ≡ role.List → IsTrue false ↔ IsBadNode g label
cell_is_no_bad_node g label e = (λ h. cc, λ b. absurd (b.no_cell e))

pub node_is_bad : (g : List Triple) (label : List ℕ) (r : Role) (formed bad : Bool) → r ≡ role_of g (Blank label) → (r ≡ role.List → ⊥) → IsTrue formed ↔ IsFormedAs g r (Blank label)
    → bad ≡ not formed → IsTrue bad ↔ IsBadNode g label
node_is_bad g label r true bad e no_cell is n = (
  λ h. let never : false ≡ true = sym n ∙ h in cc,
  λ b. absurd (b.not_formed (subst (λ q. IsFormedAs g q (Blank label)) e (is.0 refl))),
)
node_is_bad g label r false bad e no_cell is n = (
  λ h. record {
    no_cell = λ f. no_cell (e ∙ f);
    not_formed = λ f. let never : false ≡ true = is.1 (subst (λ q. IsFormedAs g q (Blank label)) (sym e) f) in cc;
  },
  λ b. n,
)

pub bad_node_stops : (g : List Triple) (number : ℕ) → HaveOneRole g → HaveCells g → HaveNoCycle g → HoldsNowhereBelow (IsBadNode g) (blank_nodes g) number
    → (fault : NodeFault) → IsBadNodeAt g number fault → IsNodeFault g fault
bad_node_stops g number one cells clear none (Mixed label) f = absurd f
bad_node_stops g number one cells clear none (BadList label) f = absurd f
bad_node_stops g number one cells clear none (Cycle label) f = absurd f
bad_node_stops g number one cells clear none (BadNode label) f = (one, cells, clear, first_at (IsBadNode g) (blank_nodes g) number label none f.0 f.1)
bad_node_stops g number one cells clear none Memory f = tt
