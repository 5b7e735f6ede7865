use Rattle.std.specs.Prelude.{◌≡◌, length}
use Rattle.std.proofs.Common.{arith, ap, ◌∙◌}
use Rattle.std.proofs.lemmas.List.{length-map}
use Rattle.rdf_roles.specs.Tables.{blank_nodes, with_role}
use Rattle.rdf_annotations.proofs.Numbering.{all_added}
use Rattle.rdf_annotations.proofs.noters.add_all.Goals as goal

pub returns : goal.returns
returns c =
    let g = c.args.reading.now.graph.now in
    let roles = c.args.reading.now.roles.now in
    let nodes : length roles.nodes ≡ length (blank_nodes g) = ap length c.requires.reading.table.nodes ∙ length-map (blank_nodes g) (with_role g) in
    let end : c.loop-number.number ≡ length (blank_nodes g) = omega (arith, nodes) in
    all_added g roles c.loop-number.number c.loop-number.by_place.entries end c.loop-number.invariant
