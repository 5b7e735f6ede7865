-- A copy is fed: something goes on from what it expects then, or it refuses.
use Rattle.std.proofs.Common.{refl}
use Rattle.grammar.proofs.ProductiveLaws.{productive}
use Rattle.grammar.proofs.Parsers.{begins_never, begins_so}
use Rattle.grammar.proofs.parser.takes.Goals as goal

pub returns-in-Ok : goal.returns-in-Ok
returns-in-Ok g c =
    (λ _. begins_so (productive g.T.Table.grammar g.met.T.Table.productive) c.args.stack.now c.in_ok-copy.copy.items c.args.class _ _ _ c.in_ok-copy.ensures.items c.in-Ok.ensures.steps, λ _. refl)

pub returns-in-Err-Unexpected : goal.returns-in-Err-Unexpected
returns-in-Err-Unexpected g c =
    (λ e. absurd (cc), λ b. absurd (begins_never c.args.stack.now c.in_ok-copy.copy.items c.args.class c.in_ok-copy.ensures.items (c.in-Err-Unexpected.ensures.refuses (c.in-Err-Unexpected.field-0-is)) b))
