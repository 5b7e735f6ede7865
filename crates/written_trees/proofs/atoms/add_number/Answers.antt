use Rattle.std.proofs.Common.{arith, ap, ◌∙◌}
use Rattle.std.specs.List.{list_all}
use Rattle.owl_characters.specs.Iri.{is_ascii}
use Rattle.written_trees.proofs.Decimals.{decimal_ascii}
use Rattle.written_trees.proofs.atoms.add_number.Goals as goal

pub add_ascii-requires : goal.add_ascii-requires
add_ascii-requires c = ap (list_all is_ascii) (c.as_str.ensures.value ∙ c.in_ok-digits.ensures.ok) ∙ decimal_ascii c.args.number (omega (arith, c.ranges.number))
