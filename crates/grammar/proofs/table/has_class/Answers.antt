-- A mask of 128 bits has no class beyond them.
use Rattle.std.proofs.Common.{arith}
use Rattle.std.proofs.lemmas.Bool.{ltb-true}
use Rattle.grammar.proofs.ClassSetLaws.{has_below}
use Rattle.grammar.proofs.table.has_class.Goals as goal

pub returns-else-class-lt128 : goal.returns-else-class-lt128
returns-else-class-lt128 c =
    (λ t. absurd (omega (arith, ltb-true c.args.class 128 t)), λ h. let below = has_below c.args.mask c.args.class c.ranges.mask.fits h in absurd (omega arith))
