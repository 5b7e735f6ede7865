use Rattle.std.proofs.Common.{refl, []}
use Rattle.owl_characters.proofs.NameLaws.{empty_name, prefix_name}
use Rattle.value_tests.proofs.prefixes.set_names.Goals as goal

pub set-requires : goal.set-requires
set-requires c = empty_name

pub set-requires-2 : goal.set-requires-2
set-requires-2 c = prefix_name _ [] refl refl refl refl
