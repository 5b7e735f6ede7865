use Rattle.owl_tree.specs.Rows.{row_of}
use Rattle.std.proofs.Common.{◌<◌, subst, sym, ℕ, Option, ◌++◌}
use Rattle.std.specs.List.{AllByRecursion}
use Rattle.std.specs.Option.{option_to_list}
use Rattle.man_write.proofs.ListedLaws.{all_with}
use Rattle.man_write.proofs.listed.written.Goals as goal

pub returns-clause-below : goal.returns-clause-below
returns-clause-below c =
    subst (λ (o : Option ℕ). AllByRecursion (λ kid. kid < c.args.id) (c.kids-kids.result.now ++ option_to_list o)) (sym c.repeated.ensures)
    (all_with c.args.id (row_of c.tag.result) c.kids-kids.result.now c.kids-kids.ensures.below)
