use Rattle.std.proofs.Common.{length}
use Rattle.owl_command.proofs.names.+are_distinct_names.Given as goal

abbrev pub decreases-are_distinct_names : goal.decreases-are_distinct_names
decreases-are_distinct_names l = length l.words.now
