-- What is done along a derivation of a document: a maker puts the ontology together.
use Rattle.std.specs.Prelude.{◌≡◌, ℕ, List, [], ◌∷◌, ◌++◌, IsTrue, Option, None, Some}
use Rattle.grammar.specs.Derivations.{Event}
use Rattle.grammar.specs.Derivations.Event.{Do, Take}
use Rattle.owl_characters.specs.Iri.{IsIri}
use Rattle.owl_atom.specs.declared.prefixes.Prefix.{Prefix}
use Rattle.rdf_terms.specs.Literals.{DenotesLiteral, IsLiteral, LiteralParts}
use Rattle.owl_tokens.specs.declared.token.Token.{Token}
use Rattle.owl_tokens.specs.declared.token.Token.TheVariants as token
use Rattle.owl_tree.specs.declared.atom.Atom.{Atom}
use Rattle.owl_tree.specs.declared.atom.Atom.TheVariants.{Iri, Literal}
use Rattle.owl_tree.specs.declared.row.AtomSort.{AtomSort}
use Rattle.owl_tree.specs.declared.row.AtomSort.TheVariants as atom
use Rattle.owl_tree.specs.declared.tag.Tag.{Tag}
use Rattle.owl_tree.specs.declared.tag.Tag.TheVariants as tag
use Rattle.owl_tree.specs.Atoms.{IsAtom}
use Rattle.owl_tree.specs.Frames.{Frame, opened, tree_of, with_kid}
use Rattle.owl_tree.specs.Ontologies.{Head, Ontology, OntologyName}
use Rattle.owl_tree.specs.Rows.{Row, Leaf, Node, is_of_sort, row_of}
use Rattle.owl_tree.specs.Shape.{HasKeyProperty}
use Rattle.owl_tree.specs.Trees.{Tree, leaf}
use Rattle.fss_terms.specs.Functional.{PrefixDeclaration}
use Rattle.fss_terms.specs.Terms.{BeginsAtom, iri_of_token}
use Rattle.fss_grammar.specs.Acts.{act_number}
use Rattle.fss_grammar.specs.declared.acts.Act.{Act}
use Rattle.fss_grammar.specs.declared.acts.Act.TheVariants.{AddAnnotation, AddAxiom, Begin, DeclareIri, DeclareName, EndItem, HeldDatatype, HeldProperty, Hold, ImportIri, OntologyIri, Plain, Shut, Tagged, Typed, VersionIri}

-- What is kept until more comes: a string for a leaf with this tag, an IRI, the name of a prefix, or a tree that stands in no
-- construct.
pub data Kept : Type 0 where
  nothing : Kept
  string : Tag → List ℕ → Kept
  iri : List ℕ → Kept
  prefix : List ℕ → Kept
  item : Tree → Kept

-- the declarations of prefixes and the ontology, in the order in which they are written
pub record Document : Type 0 where
  pub declarations : List PrefixDeclaration
  pub ontology : Ontology

-- the open constructs, innermost first, and what was added
pub record Maker : Type 0 where
  pub kept : Kept
  pub frames : List Frame
  pub document : Document

abbrev pub no_ontology : Ontology
no_ontology = record { head = record { name = None; imports = [] }; annotations = []; axioms = [] }

abbrev pub beginning : Maker
beginning = record { kept = nothing; frames = []; document = record { declarations = []; ontology = no_ontology } }

-- a tree is the next kid of the innermost construct, or else it is kept
abbrev pub put_in : List Frame → Tree → Maker → Maker
put_in [] t m = record m { kept = item t }
put_in (f ∷ frames) t m = record m { kept = nothing; frames = with_kid t f ∷ frames }

abbrev pub put : Tree → Maker → Maker
put t m = put_in m.frames t m

-- ---- what is added to the document

abbrev pub with_ontology : Ontology → Maker → Maker
with_ontology o m = record m { kept = nothing; document = record m.document { ontology = o } }

abbrev pub with_head : Head → Maker → Maker
with_head h m = with_ontology (record m.document.ontology { head = h }) m

abbrev pub declare : PrefixDeclaration → Maker → Maker
declare d m = record m { kept = nothing; document = record m.document { declarations = m.document.declarations ++ d ∷ [] } }

abbrev pub name_ontology : OntologyName → Maker → Maker
name_ontology name m = with_head (record m.document.ontology.head { name = Some name }) m

abbrev pub import_iri : List ℕ → Maker → Maker
import_iri i m = with_head (record m.document.ontology.head { imports = m.document.ontology.head.imports ++ i ∷ [] }) m

abbrev pub add_annotation : Tree → Maker → Maker
add_annotation t m = with_ontology (record m.document.ontology { annotations = m.document.ontology.annotations ++ t ∷ [] }) m

abbrev pub add_axiom : Tree → Maker → Maker
add_axiom t m = with_ontology (record m.document.ontology { axioms = m.document.ontology.axioms ++ t ∷ [] }) m

-- ---- acts, each with the token that comes

-- the token that comes stands for this IRI
pub record Comes (prefixes : List Prefix) (next : Option Token) (i : List ℕ) : Type 0 where
  pub name : Token
  pub comes : next ≡ Some name
  pub stands : iri_of_token prefixes name ≡ Some i

-- the token that comes is what is written for an atom of this sort
pub record ComesAtom (prefixes : List Prefix) (next : Option Token) (sort : AtomSort) (a : Atom) : Type 0 where
  pub written : Token
  pub comes : next ≡ Some written
  pub sort_is : IsTrue (is_of_sort sort a)
  pub stands : BeginsAtom prefixes (written ∷ []) a []
  pub is_atom : IsAtom a

-- a leaf; of a literal the string comes first, and is kept
abbrev pub BeginsLeaf : List Prefix → Tag → AtomSort → Option Token → Maker → Maker → Type 0
BeginsLeaf prefixes t atom.Literal next m n = (form : List ℕ) × (next ≡ Some (token.Str form)) × (n ≡ record m { kept = string t form })
BeginsLeaf prefixes t sort next m n = (a : Atom) × ComesAtom prefixes next sort a × (n ≡ put (leaf t a) m)

abbrev pub BeginsConstruct : List Prefix → Tag → Row → Option Token → Maker → Maker → Type 0
BeginsConstruct prefixes t (Leaf sort) next m n = BeginsLeaf prefixes t sort next m n
BeginsConstruct prefixes t (Node front rest) next m n = n ≡ record m { frames = opened t m.frames }

-- the innermost construct ends; a HasKey has a property (section 9.5)
abbrev pub Shuts : List Frame → Maker → Maker → Type 0
Shuts [] m n = ⊥
Shuts (f ∷ frames) m n =
    (f.tag ≡ tag.HasKey → HasKeyProperty f.kids) × (n ≡ put (tree_of f) (record m { frames = frames }))

-- the string that was kept is a literal with this datatype or this language tag
abbrev pub MakesLiteral : Kept → Option (List ℕ) → Option (List ℕ) → Maker → Maker → Type 0
MakesLiteral (string t form) datatype language m n =
    (literal : LiteralParts) × DenotesLiteral form datatype language literal × IsLiteral literal × (n ≡ put (leaf t (Literal literal)) m)
MakesLiteral _ datatype language m n = ⊥

-- the IRI that was kept is a leaf with this tag
abbrev pub MakesHeld : Kept → Tag → Maker → Maker → Type 0
MakesHeld (iri i) t m n = n ≡ put (leaf t (Iri i)) m
MakesHeld _ t m n = ⊥

abbrev pub Declares : Kept → Option Token → Maker → Maker → Type 0
Declares (prefix name) next m n = (i : List ℕ) × (next ≡ Some (token.Iri i)) × (n ≡ declare (record { name = name; iri = i }) m)
Declares _ next m n = ⊥

abbrev pub Versions : Option OntologyName → List ℕ → Maker → Maker → Type 0
Versions None i m n = ⊥
Versions (Some name) i m n = n ≡ name_ontology (record { iri = name.iri; version = Some i }) m

abbrev pub Adds : Kept → (Tree → Maker → Maker) → Maker → Maker → Type 0
Adds (item t) add m n = n ≡ add t m
Adds _ add m n = ⊥

-- What an act makes of the maker, where this token comes behind it, and names stand for IRIs by these prefixes.
abbrev pub Performs : List Prefix → Act → Option Token → Maker → Maker → Type 0
Performs prefixes (Begin t) next m n = BeginsConstruct prefixes t (row_of t) next m n
Performs prefixes Shut next m n = Shuts m.frames m n
Performs prefixes Plain next m n = MakesLiteral m.kept None None m n
Performs prefixes Tagged next m n = (language : List ℕ) × (next ≡ Some (token.At language)) × MakesLiteral m.kept None (Some language) m n
Performs prefixes Typed next m n = (datatype : List ℕ) × Comes prefixes next datatype × MakesLiteral m.kept (Some datatype) None m n
Performs prefixes Hold next m n = (i : List ℕ) × Comes prefixes next i × IsIri i × (n ≡ record m { kept = iri i })
Performs prefixes HeldProperty next m n = MakesHeld m.kept tag.DataProperty m n
Performs prefixes HeldDatatype next m n = MakesHeld m.kept tag.Datatype m n
Performs prefixes DeclareName next m n = (name : List ℕ) × (next ≡ Some (token.Name name [])) × (n ≡ record m { kept = prefix name })
Performs prefixes DeclareIri next m n = Declares m.kept next m n
Performs prefixes OntologyIri next m n = (i : List ℕ) × Comes prefixes next i × IsIri i × (n ≡ name_ontology (record { iri = i; version = None }) m)
Performs prefixes VersionIri next m n = (i : List ℕ) × Comes prefixes next i × IsIri i × Versions m.document.ontology.head.name i m n
Performs prefixes ImportIri next m n = (i : List ℕ) × Comes prefixes next i × IsIri i × (n ≡ import_iri i m)
Performs prefixes AddAnnotation next m n = Adds m.kept add_annotation m n
Performs prefixes AddAxiom next m n = Adds m.kept add_axiom m n
Performs prefixes EndItem next m n = n ≡ m

-- ---- events

-- the token that is taken next
abbrev pub next_token : List (Event Token) → Option Token
next_token [] = None
next_token (Take x ∷ events) = Some x
next_token (Do a ∷ events) = next_token events

-- an act of this number is done, and then the rest
pub record DoneThen (prefixes : List Prefix) (a : ℕ) (next : Option Token) (m : Maker) (Then : Maker → Type 0) : Type 0 where
  pub act : Act
  pub number_is : act_number act ≡ a
  pub middle : Maker
  pub performs : Performs prefixes act next m middle
  pub later : Then middle

-- These events, in order, take the one maker to the other.
abbrev pub Runs : List Prefix → List (Event Token) → Maker → Maker → Type 0
Runs prefixes [] m n = m ≡ n
Runs prefixes (Take x ∷ events) m n = Runs prefixes events m n
Runs prefixes (Do a ∷ events) m n = DoneThen prefixes a (next_token events) m (λ middle. Runs prefixes events middle n)

-- These events make this ontology, and declare these prefixes before it.
abbrev pub Makes : List Prefix → List (Event Token) → List PrefixDeclaration → Ontology → Type 0
Makes prefixes events declarations o =
    Runs prefixes events beginning (record { kept = nothing; frames = []; document = record { declarations = declarations; ontology = o } })
