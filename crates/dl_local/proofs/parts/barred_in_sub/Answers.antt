use Rattle.owl_arena.specs.Held.{tree_at}
use Rattle.dl_local.proofs.PartLaws.{barred_few, barred_sub}
use Rattle.dl_local.proofs.parts.barred_in_sub.Goals as goal

pub returns-then-kids-lt2-clause-barred : goal.returns-then-kids-lt2-clause-barred
returns-then-kids-lt2-clause-barred c = λ ts. barred_few (tree_at ts) c.args.kids.now c.if-kids-lt2.true

pub returns-else-kids-lt2-clause-barred : goal.returns-else-kids-lt2-clause-barred
returns-else-kids-lt2-clause-barred c = λ ts. barred_sub (tree_at ts) c.args.kids.now c.if-kids-lt2.false
