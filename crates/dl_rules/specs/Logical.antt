-- What counts of a part of an ontology. Annotations and annotation assertions have no meaning in OWL 2 DL (Direct Semantics, section 2).
use Rattle.std.specs.Prelude.{ℕ, Bool, ◌||◌, if◌then◌else◌, List, [], ◌∷◌, ◌++◌, Option, None, Some}
use Rattle.owl_doc.specs.Counts.{subtrees, subtrees_of}
use Rattle.owl_doc.specs.Parts.{Part, of_axiom, of_header}
use Rattle.owl_tree.specs.declared.atom.Atom.TheVariants as atom
use Rattle.owl_tree.specs.declared.tag.Tag.{Tag}
use Rattle.owl_tree.specs.declared.tag.Tag.TheVariants as tag
use Rattle.owl_tree.specs.Rows.{is_tag}
use Rattle.owl_tree.specs.Trees.{Tree, Kids, leaf, node, no_kids, kid, kids_in, kids_of}

-- a tree with this tag annotates, and nothing else
abbrev pub is_remark : Tag → Bool
is_remark t = is_tag tag.Notes t || is_tag tag.AnnotationAssertion t

-- a tree and all that stands below it, but for remarks and what stands below them
abbrev mutual
  pub logical : Tree → List Tree
  logical (leaf t a) = leaf t a ∷ []
  logical (node t ks) = if is_remark t then [] else node t ks ∷ logical_of ks

  pub logical_of : Kids → List Tree
  logical_of no_kids = []
  logical_of (kid t ks) = logical t ++ logical_of ks

-- all that stands in a part, remarks too
abbrev pub all_within : Part → List Tree
all_within (of_header annotations) = subtrees_of (kids_of annotations)
all_within (of_axiom t) = subtrees t

-- what counts of it; in a header there are only annotations
abbrev pub logical_within : Part → List Tree
logical_within (of_header annotations) = []
logical_within (of_axiom t) = logical t

-- the IRI that a leaf holds
abbrev pub iri_in : Tree → Option (List ℕ)
iri_in (leaf t (atom.Iri iri)) = Some iri
iri_in _ = None

-- the label of an anonymous individual
abbrev pub label_in : Tree → Option (List ℕ)
label_in (leaf t (atom.Label label)) = Some label
label_in _ = None

-- the kids of an axiom behind its annotations
abbrev pub operands : Tree → List Tree
operands t = operands_of (kids_in t)
  where
    operands_of : List Tree → List Tree
    operands_of [] = []
    operands_of (notes ∷ ts) = ts
