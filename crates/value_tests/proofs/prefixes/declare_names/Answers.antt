use Rattle.std.proofs.Common.{refl}
use Rattle.std.specs.Prelude.{codes}
use Rattle.owl_characters.proofs.NameLaws.{prefix_name}
use Rattle.value_tests.proofs.prefixes.declare_names.Goals as goal

pub declare-requires : goal.declare-requires
declare-requires c = prefix_name _ (codes "wl") refl refl refl refl

pub declare-requires-2 : goal.declare-requires-2
declare-requires-2 c = prefix_name _ (codes "wl") refl refl refl refl

pub declare-requires-3 : goal.declare-requires-3
declare-requires-3 c = prefix_name _ (codes "df") refl refl refl refl
