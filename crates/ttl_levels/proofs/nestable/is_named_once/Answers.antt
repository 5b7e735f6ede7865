use Rattle.std.proofs.Common.{arith}
use Rattle.ttl_levels.specs.declared.named.Named.TheVariants.{More, Never, Once}
use Rattle.ttl_levels.proofs.NestableLaws.{is_within, part_has_number, told}
use Rattle.ttl_levels.proofs.Setting.{stands_there}
use Rattle.ttl_levels.proofs.nestable.is_named_once.Goals as goal

pub returns-in_default : goal.returns-in_default
returns-in_default c = absurd (part_has_number c.args.graph.now c.args.roles.now c.args.label.now c.requires.table c.requires.part c.in_default.ensures)

pub returns-in_default-get : goal.returns-in_default-get
returns-in_default-get c =
    let within = is_within c.args.graph.now c.args.roles.now c.args.names.now c.args.label.now c.in-Some.number c.requires.table c.requires.names c.in-Some.ensures in
    grind (arith, c.in_default-get.ensures, within)

pub returns-in-Never : goal.returns-in-Never
returns-in-Never c =
    let g = c.args.graph.now in
    let within = is_within g c.args.roles.now c.args.names.now c.args.label.now c.in-Some.number c.requires.table c.requires.names c.in-Some.ensures in
    told g c.args.roles.now c.args.names.now c.args.label.now c.in-Some.number c.in-Some-get.named.now Never c.requires.table c.requires.names c.in-Some.ensures
    (stands_there c.args.names.now c.in-Some.number c.in-Some-get.named.now within c.in-Some-get.ensures.lookup.1) c.in-Never.is

pub returns-in-Once : goal.returns-in-Once
returns-in-Once c =
    let g = c.args.graph.now in
    let within = is_within g c.args.roles.now c.args.names.now c.args.label.now c.in-Some.number c.requires.table c.requires.names c.in-Some.ensures in
    told g c.args.roles.now c.args.names.now c.args.label.now c.in-Some.number c.in-Some-get.named.now (Once c.in-Once.field-0) c.requires.table c.requires.names c.in-Some.ensures
    (stands_there c.args.names.now c.in-Some.number c.in-Some-get.named.now within c.in-Some-get.ensures.lookup.1) c.in-Once.is

pub returns-in-More : goal.returns-in-More
returns-in-More c =
    let g = c.args.graph.now in
    let within = is_within g c.args.roles.now c.args.names.now c.args.label.now c.in-Some.number c.requires.table c.requires.names c.in-Some.ensures in
    told g c.args.roles.now c.args.names.now c.args.label.now c.in-Some.number c.in-Some-get.named.now More c.requires.table c.requires.names c.in-Some.ensures
    (stands_there c.args.names.now c.in-Some.number c.in-Some-get.named.now within c.in-Some-get.ensures.lookup.1) c.in-More.is
