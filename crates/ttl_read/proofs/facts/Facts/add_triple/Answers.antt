use Rattle.std.proofs.Common.{◌≡◌, ◌∷◌, [], rules}
use Rattle.std.proofs.lemmas.Result.{on_ok_weaker}
use Rattle.ttl_grammar.specs.States.{stated, with_triple}
use Rattle.ttl_grammar.specs.declared.node.NodeTriple.{NodeTriple}
use Rattle.ttl_read.proofs.SameFacts.{same_from, triple_added}
use Rattle.ttl_read.proofs.facts.Facts.add_triple.Goals as goal

pub returns-in-Some-Some-Some : goal.returns-in-Some-Some-Some
returns-in-Some-Some-Some c =
    let triple : NodeTriple = record { subject = c.in-Some-Some-Some.subject; predicate = c.in-Some-Some-Some.predicate; object = c.in-Some-Some-Some.object } in
    let one : stated c.args.subject c.args.predicate c.args.object ≡ triple ∷ [] = search rules in
    on_ok_weaker c.keep.result (λ same. triple_added c.args.self.now c.keep.new.self c.args.subject c.args.predicate c.args.object triple one same) c.keep.ensures

pub returns : goal.returns
returns c =
    let same : c.args.self.now ≡ with_triple c.args.subject c.args.predicate c.args.object c.args.self.now = search rules in
    same_from c.args.self.now (with_triple c.args.subject c.args.predicate c.args.object c.args.self.now) c.kept.ensures.once same
