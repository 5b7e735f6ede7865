use Rattle.std.proofs.Common.{◌∙◌}
use Rattle.std.specs.Bool.{one_answer}
use Rattle.rdf_graph.proofs.TermLaws.{only_equal_terms_compare_equal, same_term}
use Rattle.rdf_meaning.specs.Nodes.{is_same}
use Rattle.rdf_scans.proofs.sorts.is_same.Goals as goal

pub returns : goal.returns
returns c =
    let x = c.args.term.now in
    let y = c.args.other.now in
    c.eq.ensures ∙ one_answer _ (is_same x y) (same_term x y) (only_equal_terms_compare_equal x y)
