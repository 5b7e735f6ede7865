use Rattle.std.proofs.Common.{length, nat_eq, sym, ◌∙◌}
use Rattle.std.specs.List.{list_all}
use Rattle.rdf_meaning.specs.Denotation.{times}
use Rattle.rdf_meaning.specs.Nodes.{words_of}
use Rattle.rdf_rows.specs.Chosen.{objects_with}
use Rattle.rdf_rows.proofs.Counting.{same_maps}
use Rattle.rdf_rows.proofs.fits.NodeWords.fit.Goals as goal

pub returns-then-is_of_role : goal.returns-then-is_of_role
returns-then-is_of_role c = λ ts counted.
    let parts = c.args.row.now.parts.now in
    let words = words_of c.args.role in
    let told =
    c.has_counts.ensures ∙ (λ i. list_all (λ w. nat_eq (counted.counts w i) (times w parts)) (c.words_of.ensures i)) in
    let same = same_maps (λ w. length (objects_with w ts)) (λ w. times w parts) words in
    (λ h. (c.is_of_role.ensures.0 c.if-is_of_role.true, same.0 (sym told ∙ h)), λ f. told ∙ same.1 f.1)
