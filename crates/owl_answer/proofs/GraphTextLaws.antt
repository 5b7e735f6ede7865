-- Nested texts that are too long.
use Rattle.std.proofs.Common.{List, refl}
use Rattle.owl_atom.specs.declared.prefixes.Prefix.{Prefix}
use Rattle.owl_command.specs.declared.command.Layout.TheVariants.{Nested}
use Rattle.rdf_graph.specs.declared.triple.Triple.{Triple}
use Rattle.ttl_nest.specs.NestedForm.{IsTooLongText}
use Rattle.ttl_nested.specs.NestedText.{nested_text}
use Rattle.owl_answer.specs.GraphTexts.{IsTooLong}

pub nested_too_long : (prefixes : List Prefix) (g : List Triple) → IsTooLongText prefixes g → IsTooLong Nested prefixes g
nested_too_long prefixes g h = record {
  text = nested_text prefixes h.lines;
  is = record { lines = h.lines; form = h.form; text_is = refl };
  long = h.long;
}
