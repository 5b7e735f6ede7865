use Rattle.std.proofs.Common.{rules, ◌≡◌, true, false}
use Rattle.std.proofs.lemmas.Result.{on_ok_weaker}
use Rattle.rdf_forward.specs.AxiomWalks.{is_end}
use Rattle.rdf_forward.proofs.Axioms.{at_no_place, at_place}
use Rattle.rdf_forward.proofs.writer.Writer.write_linked.Goals as goal

pub returns-then-not-is_end : goal.returns-then-not-is_end
returns-then-not-is_end c =
    let no : is_end c.args.place ≡ false = search rules in
    at_no_place _ _ _ _ _ _ no

pub returns : goal.returns
returns c =
    let yes : is_end c.args.place ≡ true = search rules in
    on_ok_weaker c.write_main.result (λ main. at_place _ _ _ _ _ _ _ _ c.args.predicate.now _ _ yes c.in_ok-near.ensures.terms c.in_ok-near.ensures.writes c.link_at-link.ensures main) c.write_main.ensures
