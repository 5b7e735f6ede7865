use Rattle.std.proofs.Common.{◌≡◌, ◌↔◌, true, Some, sym, subst}
use Rattle.rdf_meaning.specs.Nodes.{marks_role}
use Rattle.rdf_rows.proofs.Marks.{is_marked}
use Rattle.rdf_rows.proofs.roles.marked_role.Goals as goal

pub returns-in-Some : goal.returns-in-Some
returns-in-Some c = λ r.
    subst (λ o. (marks_role r c.args.triple.now ≡ true) ↔ (o ≡ Some r)) (sym c.role_marked.ensures) (is_marked c.args.triple.now (Some c.in-Some.word) c.in-Some.ensures r)

pub returns-in-None : goal.returns-in-None
returns-in-None c = λ r.
    subst (λ o. (marks_role r c.args.triple.now ≡ true) ↔ (o ≡ Some r)) (sym c.role_of_facet.ensures) (is_marked c.args.triple.now _ c.in-None.ensures r)
