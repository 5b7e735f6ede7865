-- The mixes of forms, by which a table sorts nodes.
use Rattle.std.specs.Prelude.{ℕ, List, map}
use Rattle.std.specs.List.{fold}
use Rattle.owl_tree.specs.Mixes.{mix_of, mix_step}
use Rattle.owl_tree.specs.Tags.{number_of}
use Rattle.owl_arena.specs.declared.nodes.Form.{Form}
use Rattle.owl_arena.specs.declared.nodes.Form.TheVariants as form
use Rattle.owl_arena.specs.declared.nodes.Node.{Node}

-- the number of the tag, and then the mix of the atom or the numbers of the kids
abbrev pub form_mix : Form → ℕ
form_mix (form.Leaf tag atom) = mix_step (number_of tag) (mix_of atom)
form_mix (form.Branch tag kids) = fold mix_step (number_of tag) kids.items

-- node by node
abbrev pub mixes : List Node → List ℕ
mixes ns = map (λ n. form_mix n.form) ns
