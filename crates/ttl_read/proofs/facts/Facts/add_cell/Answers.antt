use Rattle.std.proofs.Common.{◌≡◌, ℕ, Some, None, ap, refl, rules, sym, subst}
use Rattle.ttl_grammar.specs.States.{Facts, cell_added, node_term, rest_iri}
use Rattle.ttl_grammar.specs.declared.node.Node.TheVariants as node
use Rattle.ttl_read.specs.Keeping.{AreSame}
use Rattle.ttl_read.proofs.SameFacts.{cell_made, same_stated}
use Rattle.ttl_read.proofs.facts.Facts.add_cell.Goals as goal

pub returns : goal.returns
returns c =
    let last : c.in_ok-last.last ≡ c.args.self.now.nest.subject = search rules in
    let rest : c.in_ok-rest.rest ≡ rest_iri = search rules in
    let number : c.self.inside.unlabelled ≡ c.args.self.now.unlabelled = ap (λ (f : Facts). f.unlabelled) c.self.view_is in
    let whole : c.take-whole.result ≡ c.add_triple.new.self.nest.whole = search rules in
    let added = same_stated c.add_triple.new.self _ c.args.self.now _ _ _ _ _ _ c.in_ok-add_triple.ensures last rest (ap (λ (n : ℕ). node_term (Some (node.Unlabelled n))) number) refl in
    let made = cell_made c.args.self.now c.add_triple.new.self c.unwrap_or.result c.take-whole.result c.self.inside.unlabelled c.in_ok-self-inside.field-0
    added c.unwrap_or.ensures whole number c.in_ok-self-inside.ensures.ok in
    (_, refl, subst (λ (f : Facts). AreSame (record f { nest = record { whole = Some c.unwrap_or.result; subject = Some (node.Unlabelled c.self.inside.unlabelled); predicate = None }; unlabelled = c.in_ok-self-inside.field-0 }) (cell_added c.args.self.now)) (sym c.self-2.view_is) made)
