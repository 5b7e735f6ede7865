-- The numbers of the statuses.
use Rattle.std.specs.Prelude.{ℕ}
use Rattle.owl_command.specs.declared.status.Status.{Status}
use Rattle.owl_command.specs.declared.status.Status.TheVariants.{Done, No, Words, Document, Target, Limit, ReadFailed, WriteFailed, Memory}

abbrev pub number_of : Status → ℕ
number_of Done = 0
number_of No = 1
number_of Words = 2
number_of Document = 3
number_of Target = 4
number_of Limit = 5
number_of ReadFailed = 6
number_of WriteFailed = 7
number_of Memory = 8
