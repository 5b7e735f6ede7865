use Rattle.std.proofs.Common.{◌<◌, ◌∙◌, take, slice_set, slice_set, List, subst, sym}
use Rattle.rdf_graph.specs.declared.term.Term.{Term}
use Rattle.rdf_graph.specs.declared.triple.Triple.{Triple}
use Rattle.ttl_levels.specs.NestTables.{AreNamed, IsNamedSo}
use Rattle.ttl_levels.proofs.NamedLaws.{label_is, no_node_named, node_named, node_number, no_number, number_within, taken_one}
use Rattle.ttl_levels.proofs.Setting.{stands_there}
use Rattle.ttl_levels.proofs.named.name_again.Goals as goal

pub returns-in_default : goal.returns-in_default
returns-in_default c =
    let g = c.args.graph.now in
    subst (λ (ts : List Triple). AreNamed g ts c.args.names.now.items) (sym (taken_one g c.args.place c.at.result.now c.at.ensures.at))
    (no_node_named g _ c.at.result.now c.args.names.now.items c.requires.named (λ number label at e. c.in_default.not-Blank label e))

pub returns-in_default-number : goal.returns-in_default-number
returns-in_default-number c =
    let g = c.args.graph.now in
    subst (λ (ts : List Triple). AreNamed g ts c.args.names.now.items) (sym (taken_one g c.args.place c.at.result.now c.at.ensures.at))
    (no_node_named g _ c.at.result.now c.args.names.now.items c.requires.named
    (λ number label at e. no_number g c.args.roles.now c.in-Blank.label number label c.requires.table c.in_default-number.ensures at (label_is label c.in-Blank.label (sym e ∙ c.in-Blank.is))))

pub returns : goal.returns
returns c =
    let g = c.args.graph.now in
    let names = c.args.names.now.items in
    let t = c.at.result.now in
    let at = node_number g c.args.roles.now c.in-Blank.label c.in-Some.number c.requires.table c.in-Some.ensures in
    let within = subst (λ n. c.in-Some.number < n) (sym c.requires.named.size) (number_within g c.args.roles.now c.in-Blank.label c.in-Some.number c.requires.table c.in-Some.ensures) in
    let before = c.requires.named.each c.in-Some.number c.in-Blank.label c.index-named.result.now at (stands_there names c.in-Some.number c.index-named.result.now within c.index-named.ensures) in
    let once_more = c.once_more.ensures g (take c.args.place g) t c.at.ensures.at (subst (λ (x : Term). IsNamedSo g (take c.args.place g) x c.index-named.result.now) (sym c.in-Blank.is) before) in
    subst (λ (ts : List Triple). AreNamed g ts (slice_set names c.in-Some.number c.once_more.result)) (sym (taken_one g c.args.place t c.at.ensures.at))
    (node_named g (take c.args.place g) t names c.requires.named c.in-Some.number c.in-Blank.label c.once_more.result at c.in-Blank.is once_more)
