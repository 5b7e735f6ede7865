-- Cells of lists, by the triples of a node.
use Rattle.std.specs.Prelude.{◌≡◌, ◌↔◌, ◌⊎◌, ℕ, Bool, true, false, IsTrue, not, List, None, Some}
use Rattle.std.proofs.Common.{refl, sym, ap, ◌∙◌, subst}
use Rattle.std.proofs.lemmas.Option.{same_Some}
use Rattle.rdf_graph.specs.declared.term.Term.{Term}
use Rattle.rdf_graph.specs.declared.term.Term.TheVariants.{Iri, Blank}
use Rattle.rdf_graph.specs.declared.triple.Triple.{Triple}
use Rattle.rdf_meaning.specs.declared.role.Role.TheVariants as role
use Rattle.rdf_meaning.specs.declared.word.Word.TheVariants as word
use Rattle.rdf_meaning.specs.Nodes.{nil_iri, of_subject, role_of}
use Rattle.rdf_meaning.specs.Statements.{IsCell}
use Rattle.rdf_faults.specs.Faults.{IsBadCell}
use Rattle.rdf_faults.specs.Formed.{IsFormedAs}
use Rattle.rdf_rows.specs.Chosen.{the_cell}
use Rattle.rdf_rows.proofs.NodeTripleLaws.{cell_is, chosen_is}
use Rattle.rdf_roles.specs.declared.fault.NodeFault.{NodeFault}
use Rattle.rdf_roles.specs.declared.fault.NodeFault.TheVariants.{Mixed, BadList, Cycle, BadNode, Memory}
use Rattle.rdf_roles.proofs.FirstLaws.{HoldsNowhereBelow, first_at}
use Rattle.rdf_roles.specs.Refusals.{HaveOneRole, IsNodeFault}
use Rattle.rdf_roles.specs.FaultPlaces.{IsBadListAt}
use Rattle.rdf_roles.specs.Tables.{blank_nodes}

abbrev MayBeRest : List Triple → Term → Type 0
MayBeRest g y = (y ≡ Iri nil_iri) ⊎ (role_of g y ≡ role.List)

module _ (g : List Triple) (x : Term) (triples : List Triple) (about : triples ≡ of_subject g x) where
  told : (k : IsCell g x) → the_cell triples ≡ Some (k.first, k.rest)
  told k = ap the_cell about ∙ (cell_is (of_subject g x) k.first k.rest).1 (sym (chosen_is g x word.First) ∙ k.one_first, sym (chosen_is g x word.Rest) ∙ k.one_rest)

  pub cell_seen : (first rest : Term) (answer : Bool) → Some (first, rest) ≡ the_cell triples → IsTrue answer ↔ MayBeRest g rest → IsTrue answer ↔ IsCell g x
  cell_seen first rest answer e is =
      let one = (cell_is (of_subject g x) first rest).0 (sym (e ∙ ap the_cell about)) in (
        λ h. record {
          first = first;
          rest = rest;
          one_first = chosen_is g x word.First ∙ one.0;
          one_rest = chosen_is g x word.Rest ∙ one.1;
          goes_on = is.0 h;
        },
        λ k. is.1 (subst (MayBeRest g) (sym (ap (λ p. p.1) (same_Some (first, rest) (k.first, k.rest) (e ∙ told k)))) k.goes_on),
      )

  pub no_cell : None ≡ the_cell triples → IsTrue false ↔ IsCell g x
  no_cell e = (λ h. cc, λ k. let some : None ≡ Some (k.first, k.rest) = e ∙ told k in cc)

-- a bad cell
pub other_is_not_bad : (g : List Triple) (label : List ℕ) → (role_of g (Blank label) ≡ role.List → ⊥) → IsTrue false ↔ IsBadCell g label
other_is_not_bad g label n = (λ h. cc, λ b. absurd (n b.cell))

pub cell_is_bad : (g : List Triple) (label : List ℕ) (is bad : Bool) → role_of g (Blank label) ≡ role.List → IsTrue is ↔ IsCell g (Blank label) → bad ≡ not is → IsTrue bad ↔ IsBadCell g label
cell_is_bad g label true bad e is n = (
  λ h. let never : false ≡ true = sym n ∙ h in cc,
  λ b. absurd (b.not_formed (subst (λ r. IsFormedAs g r (Blank label)) (sym e) (is.0 refl))),
)
cell_is_bad g label false bad e is n = (
  λ h. record { cell = e; not_formed = λ f. let never : false ≡ true = is.1 (subst (λ r. IsFormedAs g r (Blank label)) e f) in cc },
  λ b. n,
)

pub bad_cell_stops : (g : List Triple) (number : ℕ) → HaveOneRole g → HoldsNowhereBelow (IsBadCell g) (blank_nodes g) number → (fault : NodeFault) → IsBadListAt g number fault → IsNodeFault g fault
bad_cell_stops g number one none (Mixed label) f = absurd f
bad_cell_stops g number one none (BadList label) f = (one, first_at (IsBadCell g) (blank_nodes g) number label none f.0 f.1)
bad_cell_stops g number one none (Cycle label) f = absurd f
bad_cell_stops g number one none (BadNode label) f = absurd f
bad_cell_stops g number one none Memory f = tt
