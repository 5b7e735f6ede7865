-- What a text in Manchester Syntax says of trees by its words alone, before the kinds of names are known (sections 2.1 to 2.6):
-- pieces that stand nowhere yet, at place 0 all of them.
use Rattle.std.specs.Prelude.{ℕ, Bool, true, false, if◌then◌else◌, List, [], ◌∷◌, map, Option, None, Some}
use Rattle.man_raw.specs.declared.form.Facet.{Facet}
use Rattle.man_raw.specs.declared.form.Form.{Form}
use Rattle.man_raw.specs.declared.form.Form.TheVariants as form
use Rattle.man_raw.specs.declared.form.What.{What}
use Rattle.man_raw.specs.declared.form.What.TheVariants as what
use Rattle.man_raw.specs.Documents.{DocumentTree, ItemTree}
use Rattle.man_raw.specs.declared.document.RawPart.{RawPart}
use Rattle.std.specs.Option.{option_map}
use Rattle.man_raw.specs.Raws.{RawTree, RawTrees, raw, none, more, trees_of}
use Rattle.man_sayable.specs.Facets.{facet_named}
use Rattle.owl_tree.specs.declared.atom.Atom.{Atom}
use Rattle.owl_tree.specs.declared.atom.Atom.TheVariants as atom
use Rattle.owl_tree.specs.declared.tag.Tag.{Tag}
use Rattle.owl_tree.specs.declared.tag.Tag.TheVariants as tag
use Rattle.owl_tree.specs.Trees.{Tree, Kids, leaf, node, no_kids, kid}

abbrev pub piece : What → List RawTree → RawTree
piece w ts = raw 0 w (trees_of ts)

-- a piece but for the places in it
abbrev mutual
  pub unplaced : RawTree → RawTree
  unplaced (raw at w ts) = raw 0 w (all_unplaced ts)

  pub all_unplaced : RawTrees → RawTrees
  all_unplaced none = none
  all_unplaced (more t ts) = more (unplaced t) (all_unplaced ts)

-- the same of items and of documents
abbrev pub unplaced_part : RawPart → RawPart
unplaced_part part = record { at = 0; section = part.section; notes = unplaced part.notes; body = unplaced part.body }

abbrev pub unplaced_item : ItemTree → ItemTree
unplaced_item item = record { at = 0; heading = item.heading; name = option_map unplaced item.name; parts = map unplaced_part item.parts }

abbrev pub unplaced_document : DocumentTree → DocumentTree
unplaced_document d = record d { notes = map unplaced d.notes; items = map unplaced_item d.items }

-- ---- leaves

abbrev pub facet_what : List ℕ → Option Facet → What
facet_what iri None = what.Atom (atom.Iri iri)
facet_what iri (Some f) = what.Facet f

-- a facet is told by its word or sign, and all else by its atom
unfoldable pub leaf_what : Tag → Atom → What
leaf_what tag.Facet (atom.Iri iri) = facet_what iri (facet_named iri)
leaf_what t a = what.Atom a

-- ---- nodes

-- The form of a node. Expressions of object properties and of data properties, and of classes and data ranges, are written alike.
unfoldable pub form_of : Tag → Form
form_of tag.ObjectInverseOf = form.Inverse
form_of tag.ObjectIntersectionOf = form.And
form_of tag.ObjectUnionOf = form.Or
form_of tag.ObjectComplementOf = form.Not
form_of tag.ObjectOneOf = form.Individuals
form_of tag.ObjectSomeValuesFrom = form.SomeOf
form_of tag.ObjectAllValuesFrom = form.OnlyOf
form_of tag.ObjectHasValue = form.HasValue
form_of tag.ObjectHasSelf = form.HasSelf
form_of tag.ObjectMinCardinality = form.Min
form_of tag.ObjectMaxCardinality = form.Max
form_of tag.ObjectExactCardinality = form.Exactly
form_of tag.DataSomeValuesFrom = form.SomeOf
form_of tag.DataAllValuesFrom = form.OnlyOf
form_of tag.DataHasValue = form.HasValue
form_of tag.DataMinCardinality = form.Min
form_of tag.DataMaxCardinality = form.Max
form_of tag.DataExactCardinality = form.Exactly
form_of tag.DataIntersectionOf = form.And
form_of tag.DataUnionOf = form.Or
form_of tag.DataComplementOf = form.Not
form_of tag.DataOneOf = form.Literals
form_of tag.DatatypeRestriction = form.Restricted
form_of tag.FacetPair = form.FacetPair
form_of tag.Annotation = form.Note
form_of tag.Notes = form.Notes
form_of _ = form.List

-- an expression of this form stands in brackets where it is an operand
unfoldable pub is_bracketed : Form → Bool
is_bracketed form.Or = true
is_bracketed form.And = true
is_bracketed form.Not = true
is_bracketed form.SomeOf = true
is_bracketed form.OnlyOf = true
is_bracketed form.HasValue = true
is_bracketed form.HasSelf = true
is_bracketed form.Min = true
is_bracketed form.Max = true
is_bracketed form.Exactly = true
is_bracketed _ = false

abbrev pub operand : RawTree → RawTree
operand (raw at (what.Form f) ts) = if is_bracketed f then piece (what.Form form.Bracket) (raw at (what.Form f) ts ∷ []) else raw at (what.Form f) ts
operand t = t

-- the number of a cardinality is written behind its property
unfoldable pub is_counted : Form → Bool
is_counted form.Min = true
is_counted form.Max = true
is_counted form.Exactly = true
is_counted _ = false

abbrev pub turned : {X : Type 0} → List X → List X
turned [] = []
turned (number ∷ []) = number ∷ []
turned (number ∷ property ∷ ts) = property ∷ number ∷ ts

abbrev pub in_order : {X : Type 0} → Form → List X → List X
in_order f ts = if is_counted f then turned ts else ts

-- what is said of the tree
abbrev mutual
  pub undecided : Tree → RawTree
  undecided (leaf t a) = piece (leaf_what t a) []
  undecided (node t ks) = piece (what.Form (form_of t)) (in_order (form_of t) (operands ks))

  pub operands : Kids → List RawTree
  operands no_kids = []
  operands (kid t ks) = operand (undecided t) ∷ operands ks
