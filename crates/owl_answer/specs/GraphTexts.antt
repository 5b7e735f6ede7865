-- What is known of a graph of which a text is written, and that its text is too long.
use Rattle.std.specs.Prelude.{◌≢◌, ◌<◌, ℕ, List, length}
use Rattle.std.specs.Str.{encode_utf8_all}
use Rattle.owl_atom.specs.declared.prefixes.Prefix.{Prefix}
use Rattle.owl_characters.specs.Limit.{most_bytes}
use Rattle.owl_command.specs.declared.command.Layout.{Layout}
use Rattle.rdf_graph.specs.declared.triple.Triple.{Triple}
use Rattle.rdf_roles.specs.Refusals.{IsNodeFault}
use Rattle.rdf_roles.specs.declared.fault.NodeFault.{NodeFault}
use Rattle.rdf_roles.specs.declared.fault.NodeFault.TheVariants.{Memory}
use Rattle.owl_answer.specs.TurtleOutcome.{IsGraphText}

-- nothing is wrong with the roles of its nodes
abbrev pub HaveRoles : List Triple → Type 0
HaveRoles g = (fault : NodeFault) → fault ≢ Memory → IsNodeFault g fault → ⊥

-- the text has more than 2^27 bytes
pub record IsTooLong (layout : Layout) (prefixes : List Prefix) (g : List Triple) : Type 0 where
  pub text : List ℕ
  pub is : IsGraphText layout prefixes g text
  pub long : most_bytes < length (encode_utf8_all text)
