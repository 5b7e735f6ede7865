-- What was read of a document: its head, its prefixes, its annotations and its items.
use Rattle.std.specs.Prelude.{ℕ, List, Option}
use Rattle.man_raw.specs.Raws.{RawTree}
use Rattle.man_raw.specs.declared.document.RawPart.{RawPart}
use Rattle.man_raw.specs.declared.heading.Heading.{Heading}
use Rattle.owl_atom.specs.declared.prefixes.Prefix.{Prefix}

-- a frame, or a sentence of its own
pub record ItemTree : Type 0 where
  pub at : ℕ
  pub heading : Heading
  pub name : Option RawTree
  pub parts : List RawPart

-- how the ontology is called, and what it imports
pub record HeadTree : Type 0 where
  pub iri : Option (List ℕ)
  pub version : Option (List ℕ)
  pub imports : List (List ℕ)

pub record DocumentTree : Type 0 where
  pub head : HeadTree
  pub prefixes : List Prefix
  pub notes : List RawTree
  pub items : List ItemTree
