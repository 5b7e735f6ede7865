-- The global restriction on ranges of OWL 2 EL (OWL 2 Profiles, section 2.2.6).
use Rattle.std.specs.Prelude.{if◌then◌else◌, List, [], ◌∷◌, Option, None}
use Rattle.std.specs.List.{flat_map, last_or}
use Rattle.std.specs.Option.{option_map}
use Rattle.chain_ranges.specs.Imposed.{LacksRange}
use Rattle.dl_rules.specs.Logical.{operands}
use Rattle.owl_breaches.specs.Those.{HoldsOfSome}
use Rattle.owl_tree.specs.declared.tag.Tag.{Tag}
use Rattle.owl_tree.specs.declared.tag.Tag.TheVariants as tag
use Rattle.owl_tree.specs.Rows.{is_tag}
use Rattle.owl_tree.specs.Trees.{Tree, node, list_of, tag_of}

-- the property below and the one above, of SubObjectPropertyOf without a chain
unfoldable pub steps_over : Tag → List Tree → List (Tree × Tree)
steps_over tag.SubObjectPropertyOf (below ∷ above ∷ []) = if is_tag tag.ObjectPropertyChain (tag_of below) then [] else (below, above) ∷ []
steps_over _ ts = []

-- the property and the class of ObjectPropertyRange
unfoldable pub ranges_over : Tag → List Tree → List (Tree × Tree)
ranges_over tag.ObjectPropertyRange (property ∷ class ∷ []) = (property, class) ∷ []
ranges_over _ ts = []

-- the last property of a chain, and the property that the chain implies
unfoldable pub ends_over : Tag → List Tree → Option (Tree × Tree)
ends_over tag.SubObjectPropertyOf (node tag.ObjectPropertyChain ks ∷ implied ∷ []) = option_map (λ last. (last, implied)) (last_or None (list_of ks))
ends_over _ ts = None

abbrev pub steps : List Tree → List (Tree × Tree)
steps axioms = flat_map (λ t. steps_over (tag_of t) (operands t)) axioms

abbrev pub ranges : List Tree → List (Tree × Tree)
ranges axioms = flat_map (λ t. ranges_over (tag_of t) (operands t)) axioms

-- The axiom is a chain, and a class that these axioms impose as range on the property that it implies is not imposed on its last
-- property. Trees are in canonical form, so structurally equivalent class expressions are one.
abbrev pub LacksRangeBy : List Tree → Tree → Type 0
LacksRangeBy axioms t = HoldsOfSome (λ (ends : Tree × Tree). LacksRange (steps axioms) (ranges axioms) ends.0 ends.1) (ends_over (tag_of t) (operands t))
