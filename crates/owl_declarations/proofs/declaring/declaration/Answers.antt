use Rattle.std.proofs.Common.{ℕ}
use Rattle.std.proofs.lemmas.Result.{IfOk-weaker}
use Rattle.owl_declarations.proofs.DeclaringLaws.{declaration_made}
use Rattle.owl_declarations.proofs.declaring.declaration.Goals as goal

pub returns-clause-made : goal.returns-clause-made
returns-clause-made c =
    IfOk-weaker c.make-2.result _ _
    (λ (id : ℕ). declaration_made c.args.arena.now.trees c.name.new.arena.trees c.make.new.arena.trees c.make-2.new.arena.trees c.args.kind c.args.iri
    c.in_ok-name.name c.in_ok-notes.notes id c.new.result.items c.in_ok-kids.kids.items c.in_ok-name.ensures.made c.distinct-trees.ensures.shared
    c.new.ensures.items c.in_ok-notes.ensures.made c.in_ok-kids.ensures.items)
    c.make-2.ensures.made
