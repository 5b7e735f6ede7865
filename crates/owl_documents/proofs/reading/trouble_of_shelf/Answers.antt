use Rattle.std.proofs.Common.{refl}
use Rattle.owl_documents.specs.Reading.{too_long}
use Rattle.owl_documents.proofs.reading.trouble_of_shelf.Goals as goal

pub returns-in-TooLong : goal.returns-in-TooLong
returns-in-TooLong c = too_long c.limit_behind.result c.in-TooLong.is c.limit_behind.ensures.limit c.limit_behind.ensures.passed refl
