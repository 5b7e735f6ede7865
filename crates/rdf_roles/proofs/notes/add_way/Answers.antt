use Rattle.std.proofs.Common.{ap, ◌∙◌, ◌++◌, ◌∷◌, [], slice_set}
use Rattle.std.proofs.lemmas.List.{map-set}
use Rattle.directed_graphs.specs.Cycles.{edges_of}
use Rattle.rdf_roles.proofs.NotedUnder.{lent_ways}
use Rattle.rdf_roles.proofs.notes.add_way.Goals as goal

pub returns : goal.returns
returns c =
    map-set (λ nodes. nodes.items) c.args.ways.now.items c.args.from c.push.new.self
    ∙ ap (λ nexts. slice_set (edges_of c.args.ways.now.items) c.args.from nexts)
    (c.in_ok-push.ensures.items ∙ ap (λ nexts. nexts ++ c.args.to ∷ []) (lent_ways c.args.ways.now.items c.args.from c.index_mut.result.now c.requires c.index_mut.ensures.value))
