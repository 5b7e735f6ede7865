use Rattle.std.proofs.Common.{◌≡◌, List, ℕ, None, Some, OnOk, rules, subst}
use Rattle.ttl_grammar.specs.States.{first_iri, with_triple}
use Rattle.ttl_read.specs.Keeping.{AreSame}
use Rattle.ttl_read.proofs.facts.Facts.add_element.Goals as goal

pub returns : goal.returns
returns c =
    let facts = c.args.self.now in
    let first : c.in_ok-first.first ≡ first_iri = c.in_ok-first.ensures in
    let added : OnOk c.add_triple.result (AreSame c.add_triple.new.self (record (with_triple facts.nest.subject (Some c.in_ok-first.first) facts.term facts) { term = None })) = search rules in
    subst (λ (iri : List ℕ). OnOk c.add_triple.result (AreSame c.add_triple.new.self (record (with_triple facts.nest.subject (Some iri) facts.term facts) { term = None }))) first added
