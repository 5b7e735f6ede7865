use Rattle.std.proofs.Common.{◌∙◌, ℕ, sym, subst}
use Rattle.ttl_levels.specs.NestTables.{IsValueOf}
use Rattle.ttl_levels.specs.NestTables.IsValueOf.{of_node, of_none}
use Rattle.ttl_levels.proofs.NamedLaws.{label_is, no_number, node_number}
use Rattle.ttl_levels.proofs.nodes.value_of.Goals as goal

pub returns-in_default : goal.returns-in_default
returns-in_default c = λ g is. of_none (λ number node. c.in_default.not-Blank node.label node.is)

pub returns-in_default-number : goal.returns-in_default-number
returns-in_default-number c = λ g is.
    of_none (λ number node. no_number g c.args.roles.now c.in-Blank.label number node.label is c.in_default-number.ensures node.at (label_is node.label c.in-Blank.label (sym node.is ∙ c.in-Blank.is)))

pub returns : goal.returns
returns c = λ g is.
    subst (λ (n : ℕ). IsValueOf g c.args.values.now c.args.term.now n) (sym c.value_at.ensures)
    (of_node c.in-Some.number (record { label = c.in-Blank.label; is = c.in-Blank.is; at = node_number g c.args.roles.now c.in-Blank.label c.in-Some.number is c.in-Some.ensures }))
