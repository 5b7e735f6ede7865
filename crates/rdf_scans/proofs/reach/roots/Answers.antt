use Rattle.std.proofs.Common.{rules, ◌≡◌, false, replicate, ap, ◌∙◌}
use Rattle.rdf_scans.proofs.Marking.{so_many}
use Rattle.rdf_scans.proofs.Reaching.{roots_marked}
use Rattle.rdf_scans.proofs.reach.roots.Goals as goal

pub returns : goal.returns
returns c =
    let reading = c.args.reading.now in
    let clear : c.in_ok-marks.marks.items ≡ replicate c.len.result false = search rules in
    roots_marked reading c.in_ok-marks.marks.items c.mark_ends.new.marks.items
    (clear ∙ ap (λ n. replicate n false) (c.len.ensures ∙ so_many reading.graph.now reading.roles.now c.requires.table)) c.mark_ends.ensures
