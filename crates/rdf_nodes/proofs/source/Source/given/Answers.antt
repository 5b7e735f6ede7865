use Rattle.std.proofs.Common.{refl, subst}
use Rattle.rdf_meaning.specs.declared.row.Want.TheVariants.{True}
use Rattle.rdf_meaning.specs.Denotation.{Denotes}
use Rattle.rdf_faults.specs.WantLaws.{met}
use Rattle.rdf_nodes.proofs.Steps.{marks, is_word_true}
use Rattle.rdf_nodes.proofs.source.Source.given.Goals as goal

pub returns-in-Mark-clause-operands : goal.returns-in-Mark-clause-operands
returns-in-Mark-clause-operands c =
    marks c.args.self.now.graph.now c.args.self.now.kinds.now c.args.self.now.roles.now c.args.term.now c.args.want c.new.result.items c.in-Mark.is c.new.ensures.items

pub returns-else-not-is_true-clause-operands : goal.returns-else-not-is_true-clause-operands
returns-else-not-is_true-clause-operands c =
    is_word_true c.args.self.now.graph.now c.args.self.now.kinds.now c.args.self.now.roles.now c.args.term.now c.args.want c.new-in-True.result.items c.in-True.is
    c.new-in-True.ensures.items (c.is_true.ensures.0 c.if-not-is_true.false)

pub returns-then-not-is_true-clause-none : goal.returns-then-not-is_true-clause-none
returns-then-not-is_true-clause-none c = λ _ _ ts d.
    let g = c.args.self.now.graph.now in
    let k = c.args.self.now.kinds.now in
    let x = c.args.term.now in
    let is = c.is_true.ensures.1 (met g k x True ts refl (subst (λ w. Denotes g k x w ts) c.in-True.is d)) in
    let isnt = c.if-not-is_true.true in
    cc
