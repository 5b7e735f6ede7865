-- The interval at the place has the class.
use Rattle.std.proofs.Common.{rules, ◌∙◌, ap, sym, ℕ}
use Rattle.std.specs.Prelude.{nat_lt}
use Rattle.std.proofs.lemmas.List.{get_or_past}
use Rattle.std.proofs.lemmas.List.Sorted.{IsPartitionPoint-from_clause}
use Rattle.owl_lexer.proofs.Classes.{class_at, parted}
use Rattle.owl_lexer.proofs.tables.class_of.Goals as goal

pub returns-in-Some : goal.returns-in-Some
returns-in-Some c =
    ap (λ (x : ℕ × ℕ). x.1) (c.in-Some.ensures.lookup.3.1 (0, c.args.others))
    ∙ sym (class_at c.args.intervals.now c.args.others c.args.c c.partition_point-place.result
    (IsPartitionPoint-from_clause (λ x. nat_lt x.0 c.args.c) c.args.intervals.now c.partition_point-place.result c.partition_point-place.ensures.partitioned (parted c.args.intervals.now c.args.c c.requires) (λ a r q k. search rules)))

pub returns-in-None : goal.returns-in-None
returns-in-None c =
    sym (class_at c.args.intervals.now c.args.others c.args.c c.partition_point-place.result
    (IsPartitionPoint-from_clause (λ x. nat_lt x.0 c.args.c) c.args.intervals.now c.partition_point-place.result c.partition_point-place.ensures.partitioned (parted c.args.intervals.now c.args.c c.requires) (λ a r q k. search rules))
    ∙ ap (λ (x : ℕ × ℕ). x.1) (get_or_past c.args.intervals.now c.partition_point-place.result (0, c.args.others) c.in-None.ensures.lookup.3))
