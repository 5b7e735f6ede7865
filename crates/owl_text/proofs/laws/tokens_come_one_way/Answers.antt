use Rattle.owl_text.specs.declared.dialect.Dialect.TheVariants.{Functional, Manchester}
use Rattle.owl_text.proofs.laws.tokens_come_one_way.Goals as goal

pub returns-clause-whole : goal.returns-clause-whole
returns-clause-whole c Functional = c.tokens_come_one_way.ensures.whole
returns-clause-whole c Manchester = c.tokens_come_one_way-2.ensures.whole

pub returns-clause-rest : goal.returns-clause-rest
returns-clause-rest c Functional = c.tokens_come_one_way.ensures.rest
returns-clause-rest c Manchester = c.tokens_come_one_way-2.ensures.rest
