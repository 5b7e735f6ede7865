-- Documents as they stand under their names, and what they say.
use Rattle.std.specs.Prelude.{◌≡◌, ◌≢◌, ◌<◌, ◌≤◌, ◌+◌, ◌^◌, ◌⊎◌, ℕ, nat_eq, Option, Some, List, [], ◌∷◌, ◌++◌, codes, length, map, if◌then◌else◌}
use Rattle.std.specs.List.{ends_with}
use Rattle.owl_characters.specs.Limit.{most_bytes}
use Rattle.owl_atom.specs.Prefixes.{AreAscending, fixed_prefixes}
use Rattle.owl_atom.specs.declared.prefixes.Prefix.{Prefix}
use Rattle.owl_canon.specs.Limits.{ReadsCanonical}
use Rattle.owl_command.specs.Commands.{Source}
use Rattle.owl_doc.specs.Documents as doc
use Rattle.owl_doc.specs.Entities.{Declares}
use Rattle.owl_doc.specs.Heads.{head_of}
use Rattle.owl_kind.specs.Kinds.{Entity, IsDeclared}
use Rattle.owl_kind.specs.declared.kind.Kind.{Kind}
use Rattle.owl_kind.specs.declared.kind.Kind.TheVariants.{AnnotationProperty}
use Rattle.owl_reader.specs.declared.fault.ReadFault.{ReadFault}
use Rattle.owl_tree.specs.Ontologies.{Head, IsSameOntology, Ontology}
use Rattle.fss_defects.specs.FirstDefects as fss
use Rattle.man_grammar.specs.Documents as man
use Rattle.man_grammar.specs.Documents.{ReadsManchester}
use Rattle.man_raw.specs.Documents.{DocumentTree}
use Rattle.man_resolve.specs.Items as frames
use Rattle.man_resolve.specs.Items.{frame_entities}
use Rattle.fss_terms.specs.Functional.{ReadsFunctional}
use Rattle.rdf_graph.specs.declared.term.Term.{Term}
use Rattle.rdf_graph.specs.declared.triple.Triple.{Triple}
use Rattle.rdf_meaning.specs.Statements.{IsHeadOf, headers}
use Rattle.rdf_scans.specs.Outlines.{IsOutlineFault, declarations}
use Rattle.rdf_scans.specs.declared.fault.OutlineFault.{OutlineFault}
use Rattle.rdf_scans.specs.declared.fault.OutlineFault.TheVariants as outline
use Rattle.ttl_grammar.specs.Documents as ttl
use Rattle.ttl_grammar.specs.Documents.{ReadsTurtle}
use Rattle.ttl_read.specs.NameTables.{ArePlain}
use Rattle.owl_documents.specs.declared.document.Document.{Document}
use Rattle.owl_documents.specs.declared.document.Document.TheVariants as document
use Rattle.owl_documents.specs.declared.document.GraphDocument.{GraphDocument}
use Rattle.owl_documents.specs.declared.document.Syntax.{Syntax}
use Rattle.owl_documents.specs.declared.document.Syntax.TheVariants.{Functional, Turtle, Manchester, Canonical}
use Rattle.owl_documents.specs.declared.trouble.Refusal.{Refusal}
use Rattle.owl_documents.specs.declared.trouble.Refusal.TheVariants.{DocumentBytes, AllBytes, Unreadable, Headless, NotCanon}
use Rattle.owl_reader.specs.declared.fault.ReadFault.TheVariants as read

-- the bytes under each name, where there are any
abbrev pub Contents : Type 0
Contents = List ℕ → Option (List ℕ)

-- what a document says, and the prefixes that it has for it
pub record Said : Type 0 where
  pub prefixes : List Prefix
  pub ontology : Ontology

-- the same ontology, with the same prefixes
pub record IsSame (a b : Said) : Type 0 where
  pub prefixes : a.prefixes ≡ b.prefixes
  pub ontology : IsSameOntology a.ontology b.ontology

-- a graph, and the prefixes that it has for it, with the IRIs that are guessed to be annotation properties
pub record GraphRead : Type 0 where
  pub prefixes : List Prefix
  pub triples : List Triple
  pub head : Head
  pub guessed : List (List ℕ)

-- how what a document says is written, where it is known before the kinds of IRIs are
pub data Written : Type 0 where
  in_functional : Written
  in_bytes : Written

-- What is read of a document before the kinds of IRIs are known: what it says, a graph with the head that its header gives, or frames.
pub data Parsed : Type 0 where
  an_ontology : Written → Said → Parsed
  a_graph : GraphRead → Parsed
  the_frames : DocumentTree → Parsed

-- how the document's ontology is called, and what it imports
abbrev pub head_in : Parsed → Head
head_in (an_ontology written said) = said.ontology.head
head_in (a_graph read) = read.head
head_in (the_frames d) = frames.head_in d.head

-- what is guessed, as if it were declared
abbrev pub guessed_entities : List (List ℕ) → List Entity
guessed_entities guessed = map (λ iri. record { kind = AnnotationProperty; iri = iri }) guessed

-- what a graph declares, and what is guessed of it
abbrev pub graph_entities : GraphRead → List Entity
graph_entities read = declarations read.triples ++ guessed_entities read.guessed

-- the document declares the IRI as this kind
abbrev pub DeclaresAs : Parsed → Kind → List ℕ → Type 0
DeclaresAs (an_ontology written said) kind iri = Declares said.ontology kind iri
DeclaresAs (a_graph read) kind iri = IsDeclared (graph_entities read) kind iri
DeclaresAs (the_frames d) kind iri = IsDeclared (frame_entities d) kind iri

-- The suffix of the name tells the syntax.
abbrev pub syntax_of : List ℕ → Syntax
syntax_of name =
    if ends_with nat_eq name (codes ".ttl") then Turtle
    else (if ends_with nat_eq name (codes ".omn") then Manchester
    else (if ends_with nat_eq name (codes ".owc") then Canonical else Functional))

-- Against this base IRI, if any, the bytes are a document in Turtle with this graph and these prefixes, whose header gives this head.
pub record ReadsGraph (base : Option (List ℕ)) (bytes : List ℕ) (read : GraphRead) : Type 0 where
  pub reads : ReadsTurtle base bytes read.prefixes read.triples
  pub ascending : AreAscending read.prefixes
  pub plain : ArePlain read.prefixes
  pub header : Term
  pub one_header : headers read.triples ≡ header ∷ []
  pub is_head : IsHeadOf read.triples header read.head
  pub none_guessed : read.guessed ≡ []

-- The bytes are a document in Manchester Syntax, with these prefixes.
pub record ReadsFrames (bytes : List ℕ) (d : DocumentTree) : Type 0 where
  pub reads : ReadsManchester bytes d
  pub ascending : AreAscending d.prefixes

-- The bytes are the canonical bytes of the ontology, which has the prefixes that are declared beforehand.
pub record ReadsBytes (bytes : List ℕ) (said : Said) : Type 0 where
  pub reads : ReadsCanonical bytes said.ontology
  pub prefixes : said.prefixes ≡ fixed_prefixes

-- The bytes under this name are read as this, against a base IRI, if there is one. It changes nothing but what Turtle says.
abbrev pub Reads : Option (List ℕ) → List ℕ → List ℕ → Parsed → Type 0
Reads base name bytes (an_ontology in_functional said) = (syntax_of name ≡ Functional) × ReadsFunctional bytes said.prefixes said.ontology
Reads base name bytes (an_ontology in_bytes said) = (syntax_of name ≡ Canonical) × ReadsBytes bytes said
Reads base name bytes (a_graph read) = (syntax_of name ≡ Turtle) × ReadsGraph base bytes read
Reads base name bytes (the_frames d) = (syntax_of name ≡ Manchester) × ReadsFrames bytes d

-- What is wrong with the bytes under this name: the first defect by the grammar of their syntax, what is wrong with the header of the graph,
-- or that they are the canonical bytes of no ontology.
pub data IsDefect (base : Option (List ℕ)) (name bytes : List ℕ) : Refusal → Type 0 where
  of_functional : (fault : ReadFault) → syntax_of name ≡ Functional → fss.IsFirstDefect bytes fault → IsDefect base name bytes (Unreadable fault)
  of_turtle : (fault : ReadFault) → syntax_of name ≡ Turtle → ttl.IsFirstDefect base bytes fault → IsDefect base name bytes (Unreadable fault)
  of_manchester : (fault : ReadFault) → syntax_of name ≡ Manchester → man.IsFirstDefect bytes fault → IsDefect base name bytes (Unreadable fault)
  of_header : (fault : OutlineFault) (prefixes : List Prefix) (triples : List Triple) → syntax_of name ≡ Turtle → ReadsTurtle base bytes prefixes triples →
      fault ≢ outline.Memory → IsOutlineFault triples fault → IsDefect base name bytes (Headless fault)
  of_bytes : syntax_of name ≡ Canonical → ((o : Ontology) → ReadsCanonical bytes o → ⊥) → IsDefect base name bytes NotCanon

-- the most bytes of all documents together
abbrev pub most_bytes_of_all : ℕ
most_bytes_of_all = 2 ^ 28

-- A document may have so many bytes behind those of the documents before it.
pub record AreFew (before size : ℕ) : Type 0 where
  pub own : size ≤ most_bytes
  pub all : before + size ≤ most_bytes_of_all

-- Why a document is refused behind so many bytes of others. Of the two limits it is the one that is passed first, and its own
-- where one byte passes both.
pub data IsRefused (before : ℕ) (source : Source) (bytes : List ℕ) (refusal : Refusal) : Type 0 where
  own_limit : most_bytes < length bytes → before + most_bytes ≤ most_bytes_of_all → refusal ≡ DocumentBytes → IsRefused before source bytes refusal
  limit_of_all : most_bytes_of_all < before + length bytes → most_bytes_of_all < before + most_bytes → refusal ≡ AllBytes → IsRefused before source bytes refusal
  defective : AreFew before (length bytes) → IsDefect source.base source.name bytes refusal → IsRefused before source bytes refusal

-- There are these bytes under the name, and they are read as this.
pub record IsRead (contents : Contents) (before : ℕ) (source : Source) (bytes : List ℕ) (parsed : Parsed) : Type 0 where
  pub there : contents source.name ≡ Some bytes
  pub few : AreFew before (length bytes)
  pub reads : Reads source.base source.name bytes parsed

-- These documents are read as this, one by one, and have so many bytes with those before them.
abbrev pub AreReadFrom : Contents → ℕ → List Source → List Parsed → ℕ → Type 0
AreReadFrom contents before [] [] after = after ≡ before
AreReadFrom contents before (source ∷ sources) (parsed ∷ others) after =
    (bytes : List ℕ) × IsRead contents before source bytes parsed × AreReadFrom contents (before + length bytes) sources others after
AreReadFrom contents before sources documents after = ⊥

-- these documents are read as this
abbrev pub AreRead : Contents → List Source → List Parsed → Type 0
AreRead contents sources documents = (after : ℕ) × AreReadFrom contents 0 sources documents after

-- The document is one of these, each before it is read, and this holds behind their bytes.
abbrev pub FollowsRead : Contents → (ℕ → Type 0) → ℕ → List Source → Source → Type 0
FollowsRead contents Holds before [] source = ⊥
FollowsRead contents Holds before (first ∷ others) source =
    ((source ≡ first) × Holds before) ⊎ ((bytes : List ℕ) × (parsed : Parsed) × IsRead contents before first bytes parsed × FollowsRead contents Holds (before + length bytes) others source)

-- There are bytes under the name that are refused.
pub record IsRefusedAt (contents : Contents) (source : Source) (refusal : Refusal) (before : ℕ) : Type 0 where
  pub bytes : List ℕ
  pub there : contents source.name ≡ Some bytes
  pub refused : IsRefused before source bytes refusal

-- the first of these documents that is refused, and why
abbrev pub IsFirstRefused : Contents → List Source → Source → Refusal → Type 0
IsFirstRefused contents sources source refusal = FollowsRead contents (IsRefusedAt contents source refusal) 0 sources source

-- what a document that is read says
abbrev pub said_of : doc.Document → Said
said_of d = record { prefixes = d.prefixes; ontology = doc.ontology_of d }

abbrev pub graph_read_of : GraphDocument → GraphRead
graph_read_of d = record { prefixes = d.prefixes; triples = d.graph; head = head_of d.head; guessed = d.guessed.items }

-- what it is read as
abbrev pub parsed_of : Document → Parsed
parsed_of (document.Ontology d) = an_ontology in_functional (said_of d)
parsed_of (document.Canonical d) = an_ontology in_bytes (said_of d)
parsed_of (document.Graph d) = a_graph (graph_read_of d)
parsed_of (document.Frames d) = the_frames d

-- a refusal that is no want of memory
abbrev pub IsProperRefusal : Refusal → Type 0
IsProperRefusal DocumentBytes = Unit {0}
IsProperRefusal AllBytes = Unit {0}
IsProperRefusal (Unreadable fault) = fault ≢ read.Memory
IsProperRefusal (Headless fault) = fault ≢ outline.Memory
IsProperRefusal NotCanon = Unit {0}
