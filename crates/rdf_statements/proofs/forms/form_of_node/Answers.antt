use Rattle.std.proofs.Common.{ℕ, IfOk, IsNone, List, refl, subst}
use Rattle.rdf_meaning.specs.Denotation.{of_node}
use Rattle.rdf_statements.specs.Forms.{IsNoAxiom}
use Rattle.rdf_graph.specs.declared.term.Term.TheVariants.{Blank}
use Rattle.rdf_statements.proofs.Forming.{node_at}
use Rattle.rdf_statements.proofs.forms.form_of_node.Goals as goal

pub form_of_role-requires-clause-places : goal.form_of_role-requires-clause-places
form_of_role-requires-clause-places c = record {
  at = node_at c.args.source.now.graph.now (Blank c.in_ok-copy.field-0) c.about.result.now c.about.ensures;
  subject = refl;
  predicate = refl;
  object = refl;
}

pub returns-clause-none : goal.returns-clause-none
returns-clause-none c = λ formed.
    let g = c.args.source.now.graph.now in
    let k = c.args.source.now.kinds.now in
    subst (λ (l : List ℕ). IfOk c.form_of_role.result (λ found. IsNone found → IsNoAxiom g k (of_node (Blank l)))) c.in_ok-copy.ensures (c.form_of_role.ensures.none formed)
