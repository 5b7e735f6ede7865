-- The axioms that one triple says (Mapping to RDF Graphs, section 2.1, table 1).
use Rattle.std.specs.Prelude.{Bool, ◌&&◌, ◌||◌, not, nat_le, length}
use Rattle.owl_tree.specs.declared.tag.Tag.{Tag}
use Rattle.owl_tree.specs.declared.tag.Tag.TheVariants as tag
use Rattle.owl_tree.specs.Rows.{is_tag}
use Rattle.owl_tree.specs.Trees.{Tree, kids_in, tag_of}

-- a negative assertion has a node of its own, with four triples
abbrev pub is_negative : Tag → Bool
is_negative t = is_tag tag.NegativeObjectPropertyAssertion t || is_tag tag.NegativeDataPropertyAssertion t

-- two that are disjoint or different are said by a triple, and more by a node with a list of them
abbrev pub lists_members : Tag → Bool
lists_members t = is_tag tag.DisjointClasses t || is_tag tag.DisjointObjectProperties t || is_tag tag.DisjointDataProperties t || is_tag tag.DifferentIndividuals t

-- one triple says the axiom, which is in canonical form, so that each member counts once; its first kid is its annotations
abbrev pub is_one_triple : Tree → Bool
is_one_triple t = not (is_negative (tag_of t)) && (not (lists_members (tag_of t)) || nat_le (length (kids_in t)) 3)
