-- What an act finds where the grammar has it.
use Rattle.std.specs.Prelude.{◌≡◌, IsTrue, ℕ, List, [], ◌∷◌, Option, None, Some}
use Rattle.owl_tokens.specs.declared.token.Token.{Token}
use Rattle.owl_tokens.specs.declared.token.Token.TheVariants as token
use Rattle.owl_tree.specs.declared.row.AtomSort.{AtomSort}
use Rattle.owl_tree.specs.declared.row.AtomSort.TheVariants as atom
use Rattle.owl_tree.specs.declared.tag.Tag.{Tag}
use Rattle.owl_tree.specs.declared.tag.Tag.TheVariants as tag
use Rattle.owl_tree.specs.Frames.{FitsButKeys, Frame}
use Rattle.owl_tree.specs.Rows.{Row, Leaf, Node, row_of}
use Rattle.owl_tree.specs.Tags.{is_axiom}
use Rattle.owl_tree.specs.Trees.{Tree, tag_of}
use Rattle.fss_grammar.specs.Making.{Maker}
use Rattle.fss_grammar.specs.Making.Kept.{iri, item, nothing, prefix, string}
use Rattle.fss_grammar.specs.declared.acts.Act.{Act}
use Rattle.fss_grammar.specs.declared.acts.Act.TheVariants.{AddAnnotation, AddAxiom, Begin, DeclareIri, DeclareName, EndItem, HeldDatatype, HeldProperty, Hold, ImportIri, OntologyIri, Plain, Shut, Tagged, Typed, VersionIri}

-- an IRI comes, in full or abbreviated
pub data ComesName (next : Option Token) : Type 0 where
  full : (i : List ℕ) → next ≡ Some (token.Iri i) → ComesName next
  short : (name local : List ℕ) → next ≡ Some (token.Name name local) → ComesName next

-- what is written for an atom of this sort comes, or begins
abbrev pub ComesFor : AtomSort → Option Token → Type 0
ComesFor atom.Iri next = ComesName next
ComesFor atom.Label next = (label : List ℕ) × (next ≡ Some (token.Blank label))
ComesFor atom.Literal next = (form : List ℕ) × (next ≡ Some (token.Str form))
ComesFor atom.Number next = (digits : List ℕ) × (next ≡ Some (token.Int digits))

-- a construct is open, and nothing is kept
pub record IsWithin (m : Maker) : Type 0 where
  pub nothing_kept : m.kept ≡ nothing
  pub frame : Frame
  pub outer : List Frame
  pub frames_are : m.frames ≡ frame ∷ outer

-- a string is kept for a literal of the innermost construct
pub record KeepsString (m : Maker) : Type 0 where
  pub tag : Tag
  pub form : List ℕ
  pub keeps : m.kept ≡ string tag form
  pub holds : row_of tag ≡ Leaf atom.Literal
  pub frame : Frame
  pub outer : List Frame
  pub frames_are : m.frames ≡ frame ∷ outer

-- an IRI is kept for the innermost construct
pub record KeepsIri (m : Maker) : Type 0 where
  pub kept : List ℕ
  pub keeps : m.kept ≡ iri kept
  pub frame : Frame
  pub outer : List Frame
  pub frames_are : m.frames ≡ frame ∷ outer

-- no construct is open, and nothing is kept
pub record IsBetween (m : Maker) : Type 0 where
  pub nothing_kept : m.kept ≡ nothing
  pub none_open : m.frames ≡ []

-- an item of the document is whole
pub record KeepsItem (Good : Tree → Type 0) (m : Maker) : Type 0 where
  pub tree : Tree
  pub keeps : m.kept ≡ item tree
  pub none_open : m.frames ≡ []
  pub good : Good tree

-- the innermost construct has all its kids, but for its keys
pub record MayShut (m : Maker) : Type 0 where
  pub nothing_kept : m.kept ≡ nothing
  pub frame : Frame
  pub outer : List Frame
  pub frames_are : m.frames ≡ frame ∷ outer
  pub fits : FitsButKeys frame

pub record MayDeclare (next : Option Token) (m : Maker) : Type 0 where
  pub name : List ℕ
  pub keeps : m.kept ≡ prefix name
  pub iri : List ℕ
  pub comes : next ≡ Some (token.Iri iri)

-- the ontology has an IRI and no version
pub record HasIri (m : Maker) : Type 0 where
  pub iri : List ℕ
  pub named : m.document.ontology.head.name ≡ Some (record { iri = iri; version = None })

abbrev pub IsReadyToBegin : Row → Option Token → Maker → Type 0
IsReadyToBegin (Leaf sort) next m = IsWithin m × ComesFor sort next
IsReadyToBegin (Node front rest) next m = m.kept ≡ nothing

-- What an act needs besides what its token says.
abbrev pub IsReady : Act → Option Token → Maker → Type 0
IsReady (Begin t) next m = IsReadyToBegin (row_of t) next m
IsReady Shut next m = MayShut m
IsReady Plain next m = KeepsString m
IsReady Tagged next m = KeepsString m × (language : List ℕ) × (next ≡ Some (token.At language))
IsReady Typed next m = KeepsString m × ComesName next
IsReady Hold next m = IsWithin m × ComesName next
IsReady HeldProperty next m = KeepsIri m
IsReady HeldDatatype next m = KeepsIri m
IsReady DeclareName next m = IsBetween m × (name : List ℕ) × (next ≡ Some (token.Name name []))
IsReady DeclareIri next m = MayDeclare next m
IsReady OntologyIri next m = IsBetween m × ComesName next
IsReady VersionIri next m = IsBetween m × HasIri m × ComesName next
IsReady ImportIri next m = IsBetween m × ComesName next
IsReady AddAnnotation next m = KeepsItem (λ t. tag_of t ≡ tag.Annotation) m
IsReady AddAxiom next m = KeepsItem (λ t. IsTrue (is_axiom (tag_of t))) m
IsReady EndItem next m = Unit {0}
