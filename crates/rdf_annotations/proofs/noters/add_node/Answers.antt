use Rattle.rdf_roles.proofs.NodeLaws.{keys_are}
use Rattle.std.proofs.Common.{subst}
use Rattle.std.specs.Prelude.{None, Some}
use Rattle.std.proofs.lemmas.Result.{on_ok_weaker}
use Rattle.rdf_annotations.specs.Noters.{AnnotatesAt, numbers_at}
use Rattle.rdf_annotations.proofs.Numbering.{added_at, not_added, one_added}
use Rattle.rdf_annotations.proofs.noters.add_node.Goals as goal

pub returns-in-Some : goal.returns-in-Some
returns-in-Some c =
    let g = c.args.reading.now.graph.now in
    let roles = c.args.reading.now.roles.now in
    let old = numbers_at c.args.by_place.now.entries in
    let new = numbers_at c.add.new.by_place.entries in
    on_ok_weaker c.add.result
    (λ added. one_added g roles c.args.number (Some c.in-Some.place) old new (keys_are g roles.nodes c.requires.reading.table.nodes)
    (subst (AnnotatesAt g c.args.number) c.in-Some.is c.in_ok-place.ensures) (λ place. added_at c.args.number c.in-Some.place place old (new place) (added place)) c.requires.before)
    c.add.ensures

pub returns-in-None : goal.returns-in-None
returns-in-None c =
    let g = c.args.reading.now.graph.now in
    let old = numbers_at c.args.by_place.now.entries in
    one_added g c.args.reading.now.roles.now c.args.number None old old (keys_are g c.args.reading.now.roles.now.nodes c.requires.reading.table.nodes)
    (subst (AnnotatesAt g c.args.number) c.in-None.is c.in_ok-place.ensures) (λ place. not_added c.args.number place (old place)) c.requires.before
