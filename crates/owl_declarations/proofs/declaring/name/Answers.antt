use Rattle.owl_declarations.proofs.DeclaringLaws.{name_shaped}
use Rattle.owl_declarations.proofs.declaring.name.Goals as goal

pub add_leaf-requires : goal.add_leaf-requires
add_leaf-requires c = name_shaped c.name_tag.result c.args.kind c.args.iri c.name_tag.ensures c.made.ensures
