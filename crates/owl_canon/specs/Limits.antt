-- Ontologies that have canonical bytes, and are within the limits of a document.
use Rattle.std.specs.Prelude.{◌≡◌, ◌<◌, ◌≤◌, ◌^◌, ℕ, true, List, length, IfSome}
use Rattle.std.specs.List.{AllByRecursion}
use Rattle.std.specs.Str.{all_scalars, encode_utf8_all}
use Rattle.owl_arena.specs.Shared.{deepest, heaviest}
use Rattle.owl_canon.specs.Bytes.{canonical_bytes}
use Rattle.owl_doc.specs.Heads.{iri_in, version_in}
use Rattle.owl_tree.specs.declared.atom.Atom.{Atom}
use Rattle.owl_tree.specs.declared.atom.Atom.TheVariants.{Iri, Label, Literal, Number}
use Rattle.owl_tree.specs.Ontologies.{IsOntology, Ontology, canonical_ontology, ontology_weight}
use Rattle.owl_tree.specs.Trees.{Tree, Kids, leaf, node, no_kids, kid, depth, list_of}

-- characters whose bytes are counted by a number of 64 bits
pub record IsText (text : List ℕ) : Type 0 where
  pub characters : all_scalars text ≡ true
  pub few : length (encode_utf8_all text) < 2 ^ 64

abbrev pub HasTexts : Atom → Type 0
HasTexts (Iri iri) = IsText iri
HasTexts (Label label) = IsText label
HasTexts (Literal literal) = IsText literal.lexical × IsText literal.datatype × IfSome literal.tag IsText
HasTexts (Number number) = number < 2 ^ 64

-- what the leaves hold are texts and numbers of 64 bits, and kids are counted by such numbers
abbrev mutual
  pub IsCountable : Tree → Type 0
  IsCountable (leaf t a) = HasTexts a
  IsCountable (node t ks) = (length (list_of ks) < 2 ^ 64) × AreCountable ks

  pub AreCountable : Kids → Type 0
  AreCountable no_kids = Unit {0}
  AreCountable (kid t ks) = IsCountable t × AreCountable ks

-- so few that a number of 64 bits counts them
pub record AreFew {X : Type 0} (IsOne : X → Type 0) (xs : List X) : Type 0 where
  pub few : length xs < 2 ^ 64
  pub each : AllByRecursion IsOne xs

-- an ontology whose texts, numbers and counts are such
pub record HasBytes (o : Ontology) : Type 0 where
  pub iri : IfSome (iri_in o.head.name) IsText
  pub version : IfSome (version_in o.head.name) IsText
  pub imports : AreFew IsText o.head.imports
  pub annotations : AreFew IsCountable o.annotations
  pub axioms : AreFew IsCountable o.axioms

abbrev pub IsShallow : Tree → Type 0
IsShallow t = depth t ≤ deepest

-- what the ontology of every document is
pub record IsWithinLimits (o : Ontology) : Type 0 where
  pub ontology : IsOntology o
  pub bytes : HasBytes o
  pub annotations : AllByRecursion IsShallow o.annotations
  pub axioms : AllByRecursion IsShallow o.axioms
  pub weight : ontology_weight o ≤ heaviest

-- these are the canonical bytes of an ontology within the limits
pub record ReadsCanonical (bytes : List ℕ) (o : Ontology) : Type 0 where
  pub written : canonical_bytes o ≡ bytes
  pub within : IsWithinLimits (canonical_ontology o)
