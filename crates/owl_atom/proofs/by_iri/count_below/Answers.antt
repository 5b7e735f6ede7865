use Rattle.std.proofs.Common.{rules}
use Rattle.std.specs.Ordering.{is_lt}
use Rattle.std.specs.Str.{chars}
use Rattle.std.proofs.lemmas.List.Sorted.{IsPartitionPoint-from_clause}
use Rattle.std.proofs.lemmas.Str.{encodes-chars}
use Rattle.owl_characters.specs.Order.{text_cmp}
use Rattle.owl_atom.proofs.Fronts.{parted}
use Rattle.owl_atom.proofs.by_iri.count_below.Goals as goal

pub returns-clause-parted : goal.returns-clause-parted
returns-clause-parted c =
    IsPartitionPoint-from_clause (λ front. is_lt (text_cmp front.iri (chars c.args.iri.now))) c.args.fronts.now c.partition_point.result c.partition_point.ensures.partitioned
    (parted c.args.fronts.now (chars c.args.iri.now) c.requires) (λ a r q k. rw (encodes-chars c.args.iri.now c.utf8.iri) (search rules))
