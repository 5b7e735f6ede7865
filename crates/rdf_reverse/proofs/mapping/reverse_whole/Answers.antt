use Rattle.std.specs.Prelude.{◌≡◌, ◌∷◌, []}
use Rattle.std.proofs.Common.{subst, sym}
use Rattle.rdf_meaning.specs.Statements.{headers}
use Rattle.rdf_reverse.specs.Reverse.{IsReverseFault}
use Rattle.rdf_scans.specs.Outlines.{IsOutlineFault}
use Rattle.rdf_reverse.proofs.Finding.{err_more, given_by, good_header, header_refused, limit_refused, node_refused, scan_refused}
use Rattle.rdf_reverse.proofs.mapping.reverse_whole.Goals as goal

pub returns-in_err-header-clause-fault : goal.returns-in_err-header-clause-fault
returns-in_err-header-clause-fault c =
    let g = c.args.graph.now in
    let fault = c.in_err-header.field-0.0 in
    given_by c.from_residual-in_err-header.result c.from_residual-in_err-header.ensures.1 (λ f e.
    header_refused g c.args.kinds.now c.in_ok-check_kinds.ensures.clear fault f e (subst (λ ts. IsOutlineFault ts fault) c.triples.ensures.triples c.in_err-header.ensures.fault))

pub returns-in_err-head-clause-fault : goal.returns-in_err-head-clause-fault
returns-in_err-head-clause-fault c =
    given_by c.from_residual-in_err-head.result c.from_residual-in_err-head.ensures.1 (λ f e.
    header_refused c.args.graph.now c.args.kinds.now c.in_ok-check_kinds.ensures.clear c.in_err-head.field-0.0 f e c.in_err-head.ensures.fault)

pub returns-in_err-roles-clause-fault : goal.returns-in_err-roles-clause-fault
returns-in_err-roles-clause-fault c =
    let g = c.args.graph.now in
    let header = c.in_ok-header.header.now in
    let one = subst (λ ts. headers ts ≡ header ∷ []) c.triples.ensures.triples c.in_ok-header.ensures.ok in
    given_by c.from_residual-in_err-roles.result c.from_residual-in_err-roles.ensures.1 (λ f e.
    node_refused g c.args.kinds.now c.in_ok-check_kinds.ensures.clear header one (good_header g header c.in_ok-head.head c.in_ok-head.ensures.ok) c.in_err-roles.field-0.0 f e
    c.in_err-roles.ensures.fault)

pub returns-in_err-check_reading-clause-fault : goal.returns-in_err-check_reading-clause-fault
returns-in_err-check_reading-clause-fault c =
    let g = c.args.graph.now in
    let k = c.args.kinds.now in
    let header = c.in_ok-header.header.now in
    let one = subst (λ ts. headers ts ≡ header ∷ []) c.triples.ensures.triples c.in_ok-header.ensures.ok in
    given_by c.from_residual-in_err-check_reading.result c.from_residual-in_err-check_reading.ensures.1 (λ f e.
    subst (IsReverseFault g k) (sym e)
    (scan_refused g k c.in_ok-check_kinds.ensures.clear header one (good_header g header c.in_ok-head.head c.in_ok-head.ensures.ok) c.in_ok-roles.ensures.formed _
    c.in_err-check_reading.ensures.fault))

pub returns-clause-fault : goal.returns-clause-fault
returns-clause-fault c =
    let g = c.args.graph.now in
    let header = c.in_ok-header.header.now in
    let one = subst (λ ts. headers ts ≡ header ∷ []) c.triples.ensures.triples c.in_ok-header.ensures.ok in
    err_more c.read_clear.result c.read_clear.ensures.fault (limit_refused g c.args.kinds.now c.in_ok-check_kinds.ensures.clear header one
    (good_header g header c.in_ok-head.head c.in_ok-head.ensures.ok) c.in_ok-roles.ensures.formed c.in_ok-check_reading.ensures.clear)
