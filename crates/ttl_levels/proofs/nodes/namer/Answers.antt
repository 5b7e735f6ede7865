use Rattle.std.proofs.Common.{refl, arith}
use Rattle.ttl_levels.proofs.NamerLaws.{no_place, not_once, the_namer}
use Rattle.ttl_levels.proofs.nodes.namer.Goals as goal

pub returns-in-Never-clause-none : goal.returns-in-Never-clause-none
returns-in-Never-clause-none c = λ e label at.
    not_once c.args.graph.now c.args.names.now c.args.number label c.in_ok-place.field-0.now _ c.requires.names at (c.in_ok-place.ensures.lookup.1) c.in-Never.is refl

pub returns-in-More-clause-none : goal.returns-in-More-clause-none
returns-in-More-clause-none c = λ e label at.
    not_once c.args.graph.now c.args.names.now c.args.number label c.in_ok-place.field-0.now _ c.requires.names at (c.in_ok-place.ensures.lookup.1) c.in-More.is refl

pub returns-then-place-len-clause-some : goal.returns-then-place-len-clause-some
returns-then-place-len-clause-some c = λ label at.
    the_namer c.args.graph.now c.args.names.now c.args.number label c.in_ok-place.field-0.now _ c.requires.names at (c.in_ok-place.ensures.lookup.1) c.in-Once.is c.at.result.now c.at.ensures.at

pub returns-else-place-len-clause-none : goal.returns-else-place-len-clause-none
returns-else-place-len-clause-none c = λ e label at.
    absurd (no_place c.args.graph.now c.args.names.now c.args.number label c.in_ok-place.field-0.now _ c.requires.names at (c.in_ok-place.ensures.lookup.1) c.in-Once.is (λ h. omega (arith, h, c.if-place-len.false, c.len.ensures.len)))
