-- The subjects of axioms in canonical form: that of which their blocks are.
use Rattle.std.specs.Prelude.{ℕ, Bool, false, if◌then◌else◌, List, Option, None, Some}
use Rattle.std.specs.List.{slice_get}
use Rattle.owl_tree.specs.declared.tag.Tag.{Tag}
use Rattle.owl_tree.specs.declared.tag.Tag.TheVariants as tag
use Rattle.owl_tree.specs.Rows.{is_tag}
use Rattle.owl_tree.specs.Trees.{Tree, tag_of}

-- The place of the subject among the kids, from 0, of which the first are the annotations. A property chain stands before it,
-- and so does the class or the property of an assertion. An axiom of members alike has none.
unfoldable pub subject_place : Tag → Bool → Option ℕ
subject_place tag.EquivalentClasses behind_chain = None
subject_place tag.DisjointClasses behind_chain = None
subject_place tag.EquivalentObjectProperties behind_chain = None
subject_place tag.DisjointObjectProperties behind_chain = None
subject_place tag.EquivalentDataProperties behind_chain = None
subject_place tag.DisjointDataProperties behind_chain = None
subject_place tag.SameIndividual behind_chain = None
subject_place tag.DifferentIndividuals behind_chain = None
subject_place tag.ClassAssertion behind_chain = Some 2
subject_place tag.ObjectPropertyAssertion behind_chain = Some 2
subject_place tag.NegativeObjectPropertyAssertion behind_chain = Some 2
subject_place tag.DataPropertyAssertion behind_chain = Some 2
subject_place tag.NegativeDataPropertyAssertion behind_chain = Some 2
subject_place tag.AnnotationAssertion behind_chain = Some 2
subject_place tag.SubObjectPropertyOf behind_chain = Some (if behind_chain then 2 else 1)
subject_place _ behind_chain = Some 1

abbrev pub is_chain_tagged : Option Tree → Bool
is_chain_tagged None = false
is_chain_tagged (Some t) = is_tag tag.ObjectPropertyChain (tag_of t)

-- a property chain stands behind the annotations
abbrev pub is_behind_chain : List Tree → Bool
is_behind_chain ts = is_chain_tagged (slice_get ts 1)

abbrev pub kid_at : List Tree → Option ℕ → Option Tree
kid_at ts None = None
kid_at ts (Some place) = slice_get ts place

-- the subject of an axiom with the tag and these kids
abbrev pub subject_in : Tag → List Tree → Option Tree
subject_in t ts = kid_at ts (subject_place t (is_behind_chain ts))
