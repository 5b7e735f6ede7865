use Rattle.std.proofs.Common.{sym, subst}
use Rattle.std.specs.Prelude.{◌↔◌, IsTrue, nat_eq}
use Rattle.rdf_graph.specs.declared.term.Term.TheVariants.{Iri}
use Rattle.rdf_faults.specs.Asked.{IsMet, is_of_sort}
use Rattle.rdf_scans.proofs.Meeting.{nil_list}
use Rattle.rdf_scans.proofs.statements.is_met_by_iri.Goals as goal

pub returns-then-is_nil_iri : goal.returns-then-is_nil_iri
returns-then-is_nil_iri c g =
    let k = c.args.kinds.now in
    let nil = c.is_nil_iri.ensures.0 c.if-is_nil_iri.true in
    subst (λ w. IsTrue (nat_eq c.in-Many.least 0) ↔ IsMet g k w (Iri c.args.iri.now)) (sym c.in-Many.is)
    (nil_list g (is_of_sort g k c.in-Many.field-0) c.in-Many.least c.args.iri.now nil)

pub returns-then-is_nil_iri-2 : goal.returns-then-is_nil_iri-2
returns-then-is_nil_iri-2 c g =
    let k = c.args.kinds.now in
    let nil = c.is_nil_iri-in-Whole.ensures.0 c.if-is_nil_iri-2.true in
    subst (λ w. IsTrue (nat_eq c.in-Whole.least 0) ↔ IsMet g k w (Iri c.args.iri.now)) (sym c.in-Whole.is)
    (nil_list g (is_of_sort g k c.in-Whole.field-1) c.in-Whole.least c.args.iri.now nil)
