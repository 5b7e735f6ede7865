use Rattle.std.proofs.Common.{subst, sym, ◌∙◌}
use Rattle.owl_tree.specs.declared.atom.Atom.TheVariants as atom
use Rattle.rdf_meaning.specs.declared.row.Want.TheVariants.{Declared}
use Rattle.rdf_nodes.specs.declared.form.Operand.TheVariants as operand
use Rattle.rdf_statements.specs.Forms.{GivesKids, declared}
use Rattle.rdf_statements.proofs.Finding.{declared_only}
use Rattle.rdf_statements.proofs.Forming.{entity_is}
use Rattle.rdf_statements.proofs.kids.declared.Goals as goal

pub returns-clause-kids : goal.returns-clause-kids
returns-clause-kids c =
    let g = c.args.source.now.graph.now in
    let k = c.args.source.now.kinds.now in
    let roles = c.args.source.now.roles.now in
    let x = c.args.term.now in
    let leaf = operand.Leaf c.args.tag (atom.Iri c.in_ok-copy.field-0) in
    let entity = entity_is k c.args.tag x c.in-Iri.iri c.in_ok-copy.field-0 c.in-Iri.is c.in_ok-copy.ensures (sym c.is_declared.ensures ∙ c.if-not-is_declared.false) in
    subst (GivesKids g k roles x (Declared c.args.tag)) (sym c.in_ok-only.ensures) (declared c.args.tag leaf entity)

pub returns-in_default : goal.returns-in_default
returns-in_default c = record { kids = tt; none = λ _ _ _ some. declared_only c.args.source.now.kinds.now c.args.tag c.args.term.now c.in_default.not-Iri some }
