-- Why an act can't be done in front of a token (Structural Specification, sections 2.4, 3.7, 5.7 and 9.5).
use Rattle.std.specs.Prelude.{◌≡◌, ◌≢◌, ◌≤◌, ◌<◌, ◌⊎◌, ◌^◌, ℕ, true, List, [], ◌∷◌, length, IsSome, Option, None, Some}
use Rattle.std.specs.Str.Parse.{digits_value}
use Rattle.grammar.specs.Derivations.{Event}
use Rattle.owl_arena.specs.Shared.{deepest, heaviest}
use Rattle.rdf_terms.specs.Literals.{DenotesLiteral, LiteralParts}
use Rattle.owl_atom.specs.Prefixes.{expansion, fixed_prefixes, iri_of, is_fixed}
use Rattle.owl_reader.specs.declared.fault.Reason.TheVariants as reason
use Rattle.owl_reader.specs.declared.fault.TokenFault.{TokenFault}
use Rattle.owl_reader.specs.declared.fault.TokenFault.TheVariants as fault
use Rattle.owl_tokens.specs.declared.token.Token.{Token}
use Rattle.owl_tokens.specs.declared.token.Token.TheVariants as token
use Rattle.owl_tree.specs.declared.row.AtomSort.TheVariants as atom
use Rattle.owl_tree.specs.declared.tag.Tag.{Tag}
use Rattle.owl_tree.specs.Frames.{Frame, IsKeyless}
use Rattle.owl_tree.specs.Ontologies.{ontology_weight}
use Rattle.owl_tree.specs.Rows.{Row, Leaf, row_of}
use Rattle.owl_tree.specs.Trees.{Tree}
use Rattle.fss_terms.specs.Functional.{declaration_of}
use Rattle.fss_grammar.specs.Acts.{act_number}
use Rattle.fss_grammar.specs.Doing.{Acts, Does, prefixes_behind}
use Rattle.fss_grammar.specs.Making.{Comes, Maker, add_annotation, add_axiom, beginning}
use Rattle.fss_grammar.specs.Making.Kept.{item, prefix, string}
use Rattle.fss_grammar.specs.declared.acts.Act.{Act}
use Rattle.fss_grammar.specs.declared.acts.Act.TheVariants.{AddAnnotation, AddAxiom, Begin, DeclareIri, DeclareName, Hold, Shut, Typed}

-- 128 constructs are open already
abbrev pub IsFull : Maker → Type 0
IsFull m = deepest ≤ length m.frames

-- a number of more than 64 bits comes
abbrev pub ComesTooLarge : Option Token → Type 0
ComesTooLarge next = (digits : List ℕ) × (next ≡ Some (token.Int digits)) × (2 ^ 64 ≤ digits_value 10 digits)

-- Of the faults of a leaf the one is told that stands first here.
abbrev pub FailsLeaf : Row → Option Token → Maker → TokenFault → Type 0
FailsLeaf (Leaf atom.Number) next m f = ((f ≡ fault.TooDeep) × IsFull m) ⊎ ((f ≡ fault.NumberTooLarge) × (IsFull m → ⊥) × ComesTooLarge next)
FailsLeaf row next m f = (f ≡ fault.TooDeep) × IsFull m

-- the innermost construct is a HasKey without a property
abbrev pub IsKeylessInside : List Frame → Type 0
IsKeylessInside [] = ⊥
IsKeylessInside (f ∷ frames) = IsKeyless f

abbrev pub FailsShut : Maker → TokenFault → Type 0
FailsShut m f = (f ≡ fault.Defect reason.EmptyKey) × IsKeylessInside m.frames

-- no literal of the string that is kept has the datatype that comes
pub record FailsTyped (m : Maker) (next : Option Token) (f : TokenFault) : Type 0 where
  pub fault_is : f ≡ fault.Defect reason.BadLiteral
  pub tag : Tag
  pub form : List ℕ
  pub keeps : m.kept ≡ string tag form
  pub datatype : List ℕ
  pub comes : Comes (prefixes_behind m.document.declarations) next datatype
  pub none : (literal : LiteralParts) → DenotesLiteral form (Some datatype) None literal → ⊥

-- the name of the prefix was declared before
abbrev pub FailsName : Maker → Option Token → TokenFault → Type 0
FailsName m next f = (f ≡ fault.Defect reason.PrefixTwice) × (name : List ℕ) × (next ≡ Some (token.Name name [])) × IsSome (declaration_of m.document.declarations name)

-- the prefix is one of the four that are there beforehand, and the IRI is another one
abbrev pub FailsIri : Maker → Option Token → TokenFault → Type 0
FailsIri m next f =
    (f ≡ fault.Defect reason.PrefixFixed) × (name iri : List ℕ) × (m.kept ≡ prefix name) × (next ≡ Some (token.Iri iri)) × (is_fixed fixed_prefixes name ≡ true) × (iri_of fixed_prefixes name ≢ Some iri)

-- with the item that is kept the ontology has more than 2^24 nodes and leaves
abbrev pub FailsItem : (Tree → Maker → Maker) → Maker → TokenFault → Type 0
FailsItem add m f = (f ≡ fault.TooHeavy) × (t : Tree) × (m.kept ≡ item t) × (heaviest < ontology_weight (add t m).document.ontology)

-- An act fails so in front of this token.
abbrev pub Fails : Act → Option Token → Maker → TokenFault → Type 0
Fails (Begin t) next m f = FailsLeaf (row_of t) next m f
Fails Hold next m f = (f ≡ fault.TooDeep) × IsFull m
Fails Shut next m f = FailsShut m f
Fails Typed next m f = FailsTyped m next f
Fails DeclareName next m f = FailsName m next f
Fails DeclareIri next m f = FailsIri m next f
Fails AddAnnotation next m f = FailsItem add_annotation m f
Fails AddAxiom next m f = FailsItem add_axiom m f
Fails _ next m f = ⊥

-- The acts that come before are done, and then one fails.
abbrev pub FailsFirst : List ℕ → Option Token → Maker → TokenFault → Type 0
FailsFirst [] next m f = ⊥
FailsFirst (a ∷ acts) next m f =
    (act : Act) × (act_number act ≡ a) × (Fails act next m f ⊎ ((n : Maker) × Acts act next m n × ((g : TokenFault) → Fails act next m g → ⊥) × FailsFirst acts next n f))

-- The token that comes is a name whose prefix was not declared, and it is not the name that a declaration gives.
pub record ComesUnknown (acts : List ℕ) (next : Option Token) (m : Maker) : Type 0 where
  pub name : List ℕ
  pub local : List ℕ
  pub comes : next ≡ Some (token.Name name local)
  pub unknown : expansion (prefixes_behind m.document.declarations) name local ≡ None
  pub uses : acts ≡ act_number DeclareName ∷ [] → ⊥

-- What is told: an unknown prefix before all else, and else the first act that fails.
abbrev pub Told : List ℕ → Option Token → Maker → TokenFault → Type 0
Told acts next m f =
    (ComesUnknown acts next m × (f ≡ fault.Defect reason.UnknownPrefix)) ⊎ ((ComesUnknown acts next m → ⊥) × FailsFirst acts next m f)

-- Behind these events the acts can't be done in front of this token.
pub record Bars (events : List (Event Token)) (acts : List ℕ) (next : Option Token) (f : TokenFault) : Type 0 where
  pub maker : Maker
  pub does : Does events beginning maker
  pub told : Told acts next maker f
