-- What an assembler has in hand is what the maker of the grammar is.
use Rattle.std.specs.Prelude.{◌≡◌, ◌≢◌, ◌<◌, ◌≤◌, ℕ, List, ◌∷◌, length, IfSome, Option, None, Some, Result, Ok, Err}
use Rattle.grammar.specs.Derivations.{Event}
use Rattle.owl_arena.specs.Shared.{deepest}
use Rattle.owl_atom.specs.declared.prefixes.Prefix.{Prefix}
use Rattle.rdf_terms.specs.Literals.{DenotesLiteral, IsLiteral, LiteralParts}
use Rattle.owl_atom.specs.Prefixes.{expansion}
use Rattle.owl_characters.specs.Names.{IsPrefixName}
use Rattle.owl_doc.specs.Documents.{Document as Built}
use Rattle.owl_maker.specs.Constructs.{Constructs, Item, Work}
use Rattle.owl_maker.specs.Makings.{Follows, Making, annotations_of, axioms_of}
use Rattle.owl_reader.specs.declared.fault.Reason.TheVariants as reason
use Rattle.owl_reader.specs.declared.fault.TokenFault.{TokenFault}
use Rattle.owl_reader.specs.declared.fault.TokenFault.TheVariants as fault
use Rattle.owl_tokens.specs.Tokens.{IsToken}
use Rattle.owl_tokens.specs.declared.token.Token.{Token}
use Rattle.owl_tokens.specs.declared.token.Token.TheVariants as token
use Rattle.owl_tree.specs.Frames.{Frame, with_kid}
use Rattle.owl_tree.specs.Ontologies.{HoldEquivalent, Ontology, OntologyName}
use Rattle.owl_tree.specs.Rows.{Leaf, Node, Row}
use Rattle.owl_tree.specs.declared.tag.Tag.{Tag}
use Rattle.owl_tree.specs.Trees.{Tree}
use Rattle.fss_terms.specs.Functional.{AreDeclarable, IsTableOf, PrefixDeclaration, declaration_of}
use Rattle.fss_grammar.specs.Doing.{Acts, Does}
use Rattle.fss_grammar.specs.DoingLaws.{DoneSoFar}
use Rattle.fss_grammar.specs.Making.{Comes, Kept, Maker, MakesHeld, beginning}
use Rattle.fss_grammar.specs.Making.Kept.{iri, item, nothing, prefix, string}
use Rattle.fss_grammar.specs.Ready.{ComesName, IsReady, KeepsIri}
use Rattle.fss_grammar.specs.declared.acts.Act.{Act}
use Rattle.fss_acts.specs.declared.assembler.Assembler.{Assembler}
use Rattle.fss_acts.specs.declared.kept.Kept as held
use Rattle.fss_acts.specs.declared.kept.Kept.TheVariants as keeps
use Rattle.fss_defects.specs.Faults.{Fails}

-- what is kept; an item is in hand of the maker of trees
abbrev pub kept_of : Kept → held.Kept
kept_of nothing = keeps.Nothing
kept_of (string t form) = keeps.Text t form
kept_of (iri i) = keeps.Iri i
kept_of (prefix name) = keeps.Prefix name
kept_of (item t) = keeps.Nothing

-- what is in hand of the maker of trees
abbrev pub work_of : Kept → List Frame → Work
work_of nothing frames = Constructs frames
work_of (string t form) frames = Constructs frames
work_of (iri i) frames = Constructs frames
work_of (prefix name) frames = Constructs frames
work_of (item t) frames = Item t

-- There is room for what is kept, and a name that is kept can be declared.
abbrev pub IsFit : Kept → List Frame → List PrefixDeclaration → Type 0
IsFit nothing frames ds = Unit {0}
IsFit (string t form) frames ds = length frames < deepest
IsFit (iri i) frames ds = length frames < deepest
IsFit (prefix name) frames ds = IsPrefixName name × (declaration_of ds name ≡ None)
IsFit (item t) frames ds = Unit {0}

-- the IRI of the ontology, as long as there is no version
abbrev pub bare_iri : List ℕ → Option (List ℕ) → Option (List ℕ)
bare_iri i None = Some i
bare_iri i (Some version) = None

abbrev pub bare_name : Option OntologyName → Option (List ℕ)
bare_name None = None
bare_name (Some name) = bare_iri name.iri name.version

-- a document that is begun says this ontology
pub record IsBuiltAs (d : Built) (o : Ontology) : Type 0 where
  pub head : d.head ≡ o.head
  pub annotations : HoldEquivalent o.annotations (annotations_of d)
  pub axioms : HoldEquivalent o.axioms (axioms_of d)

pub record Assembles (a : Assembler) (m : Maker) : Type 0 where
  pub table : IsTableOf m.document.declarations a.prefixes
  pub declarable : AreDeclarable m.document.declarations
  pub kept : a.kept ≡ kept_of m.kept
  pub fit : IsFit m.kept m.frames m.document.declarations
  pub name : a.name ≡ bare_name m.document.ontology.head.name
  pub work : Follows a.maker (work_of m.kept m.frames)
  pub says : IsBuiltAs a.maker.document m.document.ontology

-- These events were done, and this was assembled.
pub record Did (events : List (Event Token)) (a : Assembler) : Type 0 where
  pub maker : Maker
  pub does : Does events beginning maker
  pub assembles : Assembles a maker

-- The same, up to the token that was taken last.
pub record Made (events : List (Event Token)) (a : Assembler) : Type 0 where
  pub maker : Maker
  pub done : DoneSoFar events maker
  pub assembles : Assembles a maker

-- ---- an act

-- the token that comes stands for an IRI
pub record Stands (prefixes : List Prefix) (next : Option Token) : Type 0 where
  pub iri : List ℕ
  pub comes : Comes prefixes next iri

-- a name comes whose prefix is not there
pub record IsUnknown (prefixes : List Prefix) (next : Option Token) : Type 0 where
  pub name : List ℕ
  pub local : List ℕ
  pub comes : next ≡ Some (token.Name name local)
  pub unknown : expansion prefixes name local ≡ None

-- what is known of the token that comes, and of an IRI that was made of it before
pub record IsComing (prefixes : List Prefix) (next : Option Token) (found : Option (List ℕ)) : Type 0 where
  pub token : IfSome next IsToken
  pub stands : ComesName next → Stands prefixes next
  pub made : IfSome found (λ i. Comes prefixes next i)

-- some maker that is so was assembled
pub record May (Ready : Maker → Type 0) (a : Assembler) : Type 0 where
  pub maker : Maker
  pub assembles : Assembles a maker
  pub ready : Ready maker

-- the act made this of a maker, and could not have failed
pub record Performed (act : Act) (next : Option Token) (m : Maker) (new : Assembler) : Type 0 where
  pub maker : Maker
  pub acts : Acts act next m maker
  pub assembles : Assembles new maker
  pub free : (f : TokenFault) → Fails act next m f → ⊥

abbrev pub AnswersAt : Act → Option Token → Maker → Result (Unit {0}) TokenFault → Assembler → Type 0
AnswersAt act next m (Ok done) new = Performed act next m new
AnswersAt act next m (Err f) new = f ≢ fault.Memory → Fails act next m f

-- Wherever the grammar has the act, it is done, or it fails so, or there is no memory.
abbrev pub Answers : Act → Option Token → Assembler → Result (Unit {0}) TokenFault → Assembler → Type 0
Answers act next old r new = (m : Maker) → Assembles old m → IsReady act next m → AnswersAt act next m r new

-- ---- a leaf

-- a leaf is put into the innermost construct of what a maker of trees has in hand
pub record PutsLeaf (t : Tree) (old new : Making) : Type 0 where
  pub added : (f : Frame) (frames : List Frame) → Follows old (Constructs (f ∷ frames)) → Follows new (Constructs (with_kid t f ∷ frames))
  pub room : (frames : List Frame) → Follows old (Constructs frames) → length frames < deepest
  pub says : (o : Ontology) → IsBuiltAs old.document o → IsBuiltAs new.document o

-- it would stand too deep
pub record LacksRoom (old : Making) (f : TokenFault) : Type 0 where
  pub told : f ≡ fault.TooDeep
  pub full : (frames : List Frame) → Follows old (Constructs frames) → deepest ≤ length frames

abbrev pub AnswersLeaf : Tree → Making → Result (Unit {0}) TokenFault → Making → Type 0
AnswersLeaf t old (Ok done) new = PutsLeaf t old new
AnswersLeaf t old (Err f) new = f ≢ fault.Memory → LacksRoom old f

-- ---- literals

-- the form is this literal
pub record IsLiteralOf (form : List ℕ) (datatype language : Option (List ℕ)) (literal : LiteralParts) : Type 0 where
  pub denotes : DenotesLiteral form datatype language literal
  pub only : (other : LiteralParts) → DenotesLiteral form datatype language other → other ≡ literal
  pub is_literal : IsLiteral literal

-- and it is none
pub record IsNoLiteral (form : List ℕ) (datatype language : Option (List ℕ)) (f : TokenFault) : Type 0 where
  pub told : f ≡ fault.Defect reason.BadLiteral
  pub none : (literal : LiteralParts) → DenotesLiteral form datatype language literal → ⊥

-- ---- more outcomes

-- a tag of constructs
abbrev pub IsNode : Row → Type 0
IsNode (Leaf sort) = ⊥
IsNode (Node front rest) = Unit {0}

-- the IRI that was kept is a leaf with this tag
pub record MadeHeld (t : Tag) (m : Maker) (new : Assembler) : Type 0 where
  pub maker : Maker
  pub made : MakesHeld m.kept t m maker
  pub assembles : Assembles new maker

abbrev pub AnswersHeldAt : Tag → Maker → Result (Unit {0}) TokenFault → Assembler → Type 0
AnswersHeldAt t m (Ok done) new = MadeHeld t m new
AnswersHeldAt t m (Err f) new = f ≢ fault.Memory → ⊥

abbrev pub AnswersHeld : Tag → Assembler → Result (Unit {0}) TokenFault → Assembler → Type 0
AnswersHeld t old r new = (m : Maker) → Assembles old m → KeepsIri m → AnswersHeldAt t m r new
