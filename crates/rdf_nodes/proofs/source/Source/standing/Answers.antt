use Rattle.std.proofs.Common.{ap, sym, ◌∙◌}
use Rattle.rdf_rows.specs.Chosen.{objects_with, the_only}
use Rattle.rdf_rows.proofs.NodeTripleLaws.{only_is}
use Rattle.rdf_nodes.proofs.Denoting.{held_at_word, none_held, not_held}
use Rattle.rdf_nodes.proofs.Steps.{at_word, found_more, stand_at}
use Rattle.rdf_nodes.proofs.source.Source.standing.Goals as goal

pub returns-in_default-clause-none : goal.returns-in_default-clause-none
returns-in_default-clause-none c = λ _ held. held_at_word c.args.self.now.graph.now c.args.self.now.kinds.now c.args.node.now c.args.part.now c.in_default.not-At held

pub returns-in-Some-clause-operands : goal.returns-in-Some-clause-operands
returns-in-Some-clause-operands c =
    let only = ap (λ ts. the_only (objects_with c.in-At.word ts)) (sym c.requires.triples) ∙ sym c.in-Some.ensures in
    found_more
    (λ os. stand_at c.args.self.now.graph.now c.args.self.now.kinds.now c.args.self.now.roles.now c.args.node.now c.args.part.now c.in-At.word c.in-Some.term.now os.items
    c.in-At.is only)
    c.given.result c.given.ensures.operands

pub returns-in-Some-clause-none : goal.returns-in-Some-clause-none
returns-in-Some-clause-none c =
    let g = c.args.self.now.graph.now in
    let x = c.args.node.now in
    let only = ap (λ ts. the_only (objects_with c.in-At.word ts)) (sym c.requires.triples) ∙ sym c.in-Some.ensures in
    not_held g c.args.self.now.kinds.now x c.args.part.now c.in-Some.term.now
    (at_word g x c.args.part.now c.in-At.word c.in-At.is ∙ (only_is _ c.in-Some.term.now).0 only) c.given.result c.given.ensures.none

pub returns-in-None-clause-none : goal.returns-in-None-clause-none
returns-in-None-clause-none c = λ _ held.
    let g = c.args.self.now.graph.now in
    let x = c.args.node.now in
    none_held g c.args.self.now.kinds.now x c.args.part.now
    (c.in-None.ensures ∙ ap (λ ts. the_only (objects_with c.in-At.word ts)) c.requires.triples ∙ sym (ap the_only (at_word g x c.args.part.now c.in-At.word c.in-At.is))) held
