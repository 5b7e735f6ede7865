-- Trees by their numbers in an arena, as rows look at them.
use Rattle.std.specs.Prelude.{ℕ, List, map}
use Rattle.owl_arena.specs.Held.{tree_at}
use Rattle.owl_tree.specs.declared.tag.Tag.{Tag}
use Rattle.owl_tree.specs.Trees.{Tree, tag_of}
use Rattle.rdf_mapping.specs.Forms.{Form}
use Rattle.rdf_mapping.specs.Drawing.{Kid, form_of, kid_of}

abbrev pub kids_at : List Tree → List ℕ → List Kid
kids_at trees ids = map (λ id. kid_of (tree_at trees id)) ids

abbrev pub tags_at : List Tree → List ℕ → List Tag
tags_at trees ids = map (λ id. tag_of (tree_at trees id)) ids

abbrev pub forms_at : List Tree → List ℕ → List Form
forms_at trees ids = map (λ id. form_of (tree_at trees id)) ids
