use Rattle.man_normal.proofs.DeclaringLaws.{name_shaped}
use Rattle.man_normal.proofs.declaring.name.Goals as goal

pub add_leaf-requires : goal.add_leaf-requires
add_leaf-requires c = name_shaped c.kind_tag.result c.args.kind c.args.iri c.kind_tag.ensures c.made.ensures
