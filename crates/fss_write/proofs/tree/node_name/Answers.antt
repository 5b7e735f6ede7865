use Rattle.std.proofs.Common.{Bool, [], ap, sym, ◌∙◌}
use Rattle.std.specs.Prelude.{if◌then◌else◌}
use Rattle.std.proofs.lemmas.Str.{chars-nil}
use Rattle.owl_tree.specs.Tags.{keyword_of}
use Rattle.fss_write.proofs.tree.node_name.Goals as goal

pub returns-then-is_group : goal.returns-then-is_group
returns-then-is_group c = chars-nil ∙ ap (λ (b : Bool). if b then [] else keyword_of c.args.tag) (sym c.if-is_group.true ∙ c.is_group.ensures)
