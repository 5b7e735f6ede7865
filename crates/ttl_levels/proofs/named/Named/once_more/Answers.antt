use Rattle.std.proofs.Common.{subst}
use Rattle.ttl_levels.specs.NestTables.{IsNamedSo}
use Rattle.ttl_levels.proofs.NamedLaws.{more_of_more, more_of_once, once_of_never}
use Rattle.ttl_levels.proofs.named.Named.once_more.Goals as goal

pub returns-in-Never : goal.returns-in-Never
returns-in-Never c = λ g before t at h. once_of_never g before t c.args.place at (subst (IsNamedSo g before t.object) c.in-Never.is h)

pub returns-in-Once : goal.returns-in-Once
returns-in-Once c = λ g before t at h. more_of_once g before t _ (subst (IsNamedSo g before t.object) c.in-Once.is h)

pub returns-in-More : goal.returns-in-More
returns-in-More c = λ g before t at h. more_of_more before t (subst (IsNamedSo g before t.object) c.in-More.is h)
