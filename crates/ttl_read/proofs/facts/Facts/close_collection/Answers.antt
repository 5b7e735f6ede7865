use Rattle.std.proofs.Common.{◌≡◌, List, ℕ, Some, ap, refl, rules}
use Rattle.std.specs.Option.{option_or}
use Rattle.ttl_grammar.specs.States.{closed, nil_iri, node_term, rest_iri}
use Rattle.ttl_grammar.specs.declared.node.Node.TheVariants as node
use Rattle.ttl_read.proofs.SameFacts.{list_closed, same_stated}
use Rattle.ttl_read.proofs.facts.Facts.close_collection.Goals as goal

pub returns : goal.returns
returns c =
    let nil : c.in_ok-nil.nil ≡ nil_iri = search rules in
    let last : c.in_ok-last.last ≡ c.args.self.now.nest.subject = search rules in
    let rest : c.in_ok-rest.rest ≡ rest_iri = search rules in
    let done : c.close.new.self ≡ closed (Some c.match-take.whole) c.add_triple.new.self = search rules in
    let whole : Some c.match-take.whole ≡ option_or c.add_triple.new.self.nest.whole (Some (node.Iri nil_iri)) = search rules in
    list_closed c.args.self.now c.add_triple.new.self c.close.new.self (Some c.match-take.whole)
    (same_stated c.add_triple.new.self _ c.args.self.now _ _ _ _ _ _ c.in_ok-add_triple.ensures last rest (ap (λ (iri : List ℕ). node_term (Some (node.Iri iri))) nil) refl)
    done whole
