-- What a run may answer: a status, what is written, and a line.
use Rattle.std.specs.Prelude.{◌≡◌, ◌<◌, ◌≤◌, ℕ, List, [], ◌++◌, length, codes, nat_lt, if◌then◌else◌}
use Rattle.std.specs.Fmt.{decimal}
use Rattle.std.specs.Str.{encode_utf8_all}
use Rattle.owl_characters.specs.Limit.{most_bytes}
use Rattle.hex.specs.Hex.{encode_lower}
use Rattle.sha2.specs.Sha256.{sha256}
use Rattle.owl_canon.specs.Bytes.{canonical_bytes}
use Rattle.owl_tree.specs.Ontologies.{canonical_ontology}
use Rattle.owl_doc.specs.Counts.{axiom_count}
use Rattle.owl_reader.specs.declared.fault.ReadFault.{ReadFault}
use Rattle.owl_reader.specs.declared.fault.ReadFault.TheVariants as read
use Rattle.owl_reader.specs.declared.fault.Reason.{Reason}
use Rattle.owl_reader.specs.declared.fault.Reason.TheVariants.{BadUtf8, BadToken, NotHere, UnknownPrefix, PrefixTwice, PrefixFixed, BadLiteral, EmptyKey, BadIri, RelativeWithoutBase}
use Rattle.owl_writing.specs.Tables.{declared_prefixes}
use Rattle.fss_write.specs.Text.{text_of}
use Rattle.owl_command.specs.declared.status.Status.{Status}
use Rattle.owl_command.specs.declared.status.Status.TheVariants.{Done, No, Words, Document as NoDocument, Target, Limit, ReadFailed, WriteFailed, Memory}
use Rattle.owl_documents.specs.Documents.{Said}
use Rattle.owl_documents.specs.declared.trouble.Refusal.{Refusal}
use Rattle.owl_documents.specs.declared.trouble.Refusal.TheVariants.{DocumentBytes, AllBytes, Unreadable, Headless, NotCanon}
use Rattle.rdf_graph.specs.declared.term.Term.{Term}
use Rattle.rdf_graph.specs.declared.triple.Triple.{Triple}
use Rattle.man_resolve.specs.declared.fault.ResolveFault.{ResolveFault}
use Rattle.man_resolve.specs.declared.fault.ResolveFault.TheVariants as resolve
use Rattle.rdf_reverse.specs.declared.fault.ReverseFault.{ReverseFault}
use Rattle.rdf_reverse.specs.declared.fault.ReverseFault.TheVariants as reverse
use Rattle.rdf_scans.specs.declared.fault.OutlineFault.{OutlineFault}
use Rattle.rdf_scans.specs.declared.fault.OutlineFault.TheVariants as outline
use Rattle.ttl_write.specs.Text.{full_term, full_triple}
use Rattle.owl_messages.specs.Summary.{summary_text}

-- the status, the bytes on the output, which are a text or canonical bytes, and the line of the note
pub record Outcome : Type 0 where
  pub status : Status
  pub text : List ℕ
  pub line : List ℕ

-- a refusal writes its line and nothing else
abbrev pub refused : Status → List ℕ → Outcome
refused status line = record { status = status; text = []; line = line }

-- what a translation counts: how many axioms its text has, and how many are said in others
abbrev pub counts_line : ℕ → ℕ → List ℕ
counts_line axioms absorbed = codes "axioms " ++ (decimal axioms ++ (codes "; absorbed " ++ (decimal absorbed ++ codes "\n")))

-- what is told of that, for a document as it is, and for one that so many declarations were added to
abbrev pub translated : List ℕ → List ℕ
translated counts = codes "translated; " ++ counts

abbrev pub declared : ℕ → List ℕ → List ℕ
declared added counts = codes "declared; added " ++ (decimal added ++ (codes "; " ++ counts))

-- A success is told so, and a refusal as it is.
abbrev pub line_with : (List ℕ → List ℕ) → Status → List ℕ → List ℕ
line_with told_so Done line = told_so line
line_with told_so No line = line
line_with told_so Words line = line
line_with told_so NoDocument line = line
line_with told_so Target line = line
line_with told_so Limit line = line
line_with told_so ReadFailed line = line
line_with told_so WriteFailed line = line
line_with told_so Memory line = line

abbrev pub told_with : (List ℕ → List ℕ) → Outcome → Outcome
told_with told_so outcome = record { status = outcome.status; text = outcome.text; line = line_with told_so outcome.status outcome.line }

-- The form that Functional-Style Syntax has for what a document says, in its own prefixes and the declared ones. It can say all as
-- it is.
abbrev pub functional_form : Said → Said
functional_form said = record { prefixes = declared_prefixes said.prefixes; ontology = said.ontology }

-- A translation to Functional-Style Syntax writes the canonical form, and counts the axioms that it has. It absorbs none.
abbrev pub translation : Said → Outcome
translation said = record {
  status = Done;
  text = encode_utf8_all (text_of said.prefixes (canonical_ontology said.ontology));
  line = counts_line (axiom_count said.ontology) 0;
}

-- what is shown of a document
abbrev pub shown : Said → Outcome
shown said = record { status = Done; text = summary_text said.ontology; line = codes "shown\n" }

-- the canonical bytes of what a document says
abbrev pub canonical : Said → Outcome
canonical said = record { status = Done; text = canonical_bytes said.ontology; line = codes "canonical\n" }

-- the SHA-256 digest of these bytes, in a line of 64 hexadecimal digits
abbrev pub digested : Said → Outcome
digested said = record {
  status = Done;
  text = encode_utf8_all (encode_lower (sha256 (canonical_bytes said.ontology)) ++ codes "\n");
  line = codes "digested\n";
}

abbrev pub agreement : Outcome
agreement = record { status = Done; text = codes "same\n"; line = codes "same\n" }

abbrev pub difference : Outcome
difference = record { status = No; text = codes "different\n"; line = codes "different\n" }

-- the limit that a document passes, by its word
abbrev pub passed_limit : List ℕ → List ℕ → Outcome
passed_limit word name = refused Limit (codes "limit: " ++ (word ++ (codes ": " ++ (name ++ codes "\n"))))

abbrev pub too_long_output : Outcome
too_long_output = refused Limit (codes "limit: OutputBytes: output\n")

-- A text that is too long is not written.
pub data IsLimited (IsWanted : Outcome → Type 0) (outcome : Outcome) : Type 0 where
  fits : IsWanted outcome → length outcome.text ≤ most_bytes → IsLimited IsWanted outcome
  passes : (wanted : Outcome) → IsWanted wanted → most_bytes < length wanted.text → outcome ≡ too_long_output → IsLimited IsWanted outcome

-- an import that names no document
abbrev pub missing_import : List ℕ → List ℕ → Outcome
missing_import name iri = refused NoDocument (name ++ (codes ": MissingImport <" ++ (encode_utf8_all iri ++ codes ">\n")))

-- A text stands in a line of the note, unless it is too long to be a document: then this word does.
abbrev pub noted_as : List ℕ → List ℕ → List ℕ
noted_as word text = if nat_lt most_bytes (length text) then word else text

-- the fault of a graph, by its word, and what it is of: an IRI, a blank node, a node or a triple, with IRIs in full
abbrev pub about_iri : List ℕ → List ℕ → List ℕ
about_iri word iri = word ++ (codes " <" ++ (encode_utf8_all iri ++ codes ">"))

abbrev pub about_label : List ℕ → List ℕ → List ℕ
about_label word label = word ++ (codes " _:" ++ encode_utf8_all label)

abbrev pub about_node : List ℕ → Term → List ℕ
about_node word node = word ++ (codes " " ++ noted_as (codes "node") (encode_utf8_all (full_term node)))

abbrev pub about_triple : List ℕ → Triple → List ℕ
about_triple word triple = word ++ (codes " " ++ noted_as (codes "triple") (encode_utf8_all (full_triple triple)))

-- a graph, frames, or bytes, with this fault
abbrev pub refused_graph : List ℕ → List ℕ → Outcome
refused_graph name fault = refused NoDocument (name ++ (codes ": " ++ (fault ++ codes "\n")))

abbrev pub reason_word : Reason → List ℕ
reason_word BadUtf8 = codes "BadUtf8"
reason_word BadToken = codes "BadToken"
reason_word NotHere = codes "NotHere"
reason_word UnknownPrefix = codes "UnknownPrefix"
reason_word PrefixTwice = codes "PrefixTwice"
reason_word PrefixFixed = codes "PrefixFixed"
reason_word BadLiteral = codes "BadLiteral"
reason_word EmptyKey = codes "EmptyKey"
reason_word BadIri = codes "BadIri"
reason_word RelativeWithoutBase = codes "RelativeWithoutBase"

-- the item that is wrong, and what is wrong at which place
abbrev pub defect : List ℕ → ℕ → ℕ → Reason → Outcome
defect name item at reason =
    refused NoDocument (name ++ (codes ": item at " ++ (decimal item ++ (codes ": " ++ (reason_word reason ++ (codes " at " ++ (decimal at ++ codes "\n")))))))

-- How a document is refused that has this defect. Want of memory is no defect of a document.
abbrev pub defect_outcome : List ℕ → ReadFault → Outcome
defect_outcome name (read.Refused item at reason) = defect name item at reason
defect_outcome name read.TooLong = passed_limit (codes "DocumentBytes") name
defect_outcome name read.TooDeep = passed_limit (codes "Depth") name
defect_outcome name read.TooHeavy = passed_limit (codes "Weight") name
defect_outcome name read.NumberTooLarge = passed_limit (codes "Cardinality") name
defect_outcome name read.TooMany = passed_limit (codes "Triples") name
defect_outcome name read.Memory = refused Memory (codes "memory\n")

-- how a graph is refused that gives no head of an ontology
abbrev pub headless : List ℕ → OutlineFault → Outcome
headless name outline.NoHeader = refused_graph name (codes "NoHeader")
headless name outline.TwoHeaders = refused_graph name (codes "TwoHeaders")
headless name (outline.BadHeader node) = refused_graph name (about_node (codes "BadHeader") node)
headless name outline.Memory = refused Memory (codes "memory\n")

-- how the document under this name is refused
abbrev pub refusal_outcome : List ℕ → Refusal → Outcome
refusal_outcome name DocumentBytes = passed_limit (codes "DocumentBytes") name
refusal_outcome name AllBytes = passed_limit (codes "AllBytes") name
refusal_outcome name (Unreadable fault) = defect_outcome name fault
refusal_outcome name (Headless fault) = headless name fault
refusal_outcome name NotCanon = refused_graph name (codes "NotCanon")

-- How a graph is refused that says no ontology under the kinds that it is read under. Want of memory is no fault of a graph.
abbrev pub graph_outcome : List ℕ → ReverseFault → Outcome
graph_outcome name (reverse.TwoKinds iri) = refused_graph name (about_iri (codes "TwoKinds") iri)
graph_outcome name reverse.NoHeader = refused_graph name (codes "NoHeader")
graph_outcome name reverse.TwoHeaders = refused_graph name (codes "TwoHeaders")
graph_outcome name (reverse.BadHeader node) = refused_graph name (about_node (codes "BadHeader") node)
graph_outcome name (reverse.Mixed label) = refused_graph name (about_label (codes "Mixed") label)
graph_outcome name (reverse.BadList label) = refused_graph name (about_label (codes "BadList") label)
graph_outcome name (reverse.Cycle label) = refused_graph name (about_label (codes "Cycle") label)
graph_outcome name (reverse.BadNode label) = refused_graph name (about_label (codes "BadNode") label)
graph_outcome name (reverse.MainMissing label) = refused_graph name (about_label (codes "MainMissing") label)
graph_outcome name (reverse.Reserved triple) = refused_graph name (about_triple (codes "Reserved") triple)
graph_outcome name (reverse.Orphan label) = refused_graph name (about_label (codes "Orphan") label)
graph_outcome name (reverse.Untyped triple) = refused_graph name (about_triple (codes "Untyped") triple)
graph_outcome name reverse.NumberTooLarge = passed_limit (codes "Cardinality") name
graph_outcome name reverse.TooDeep = passed_limit (codes "Depth") name
graph_outcome name reverse.TooHeavy = passed_limit (codes "Weight") name
graph_outcome name reverse.Memory = refused Memory (codes "memory\n")

-- a fault at a byte
abbrev pub told_at : List ℕ → ℕ → List ℕ
told_at fault at = fault ++ (codes " at " ++ decimal at)

-- How a document is refused whose frames mean no ontology under the kinds that it is read under. Want of memory is no fault of a document.
abbrev pub frames_outcome : List ℕ → ResolveFault → Outcome
frames_outcome name (resolve.TwoKinds iri) = refused_graph name (about_iri (codes "TwoKinds") iri)
frames_outcome name (resolve.Untyped iri at) = refused_graph name (told_at (about_iri (codes "Untyped") iri) at)
frames_outcome name (resolve.WrongKind iri at) = refused_graph name (told_at (about_iri (codes "WrongKind") iri) at)
frames_outcome name (resolve.WrongForm at) = refused_graph name (told_at (codes "WrongForm") at)
frames_outcome name resolve.TooDeep = passed_limit (codes "Depth") name
frames_outcome name resolve.TooHeavy = passed_limit (codes "Weight") name
frames_outcome name resolve.Memory = refused Memory (codes "memory\n")

-- The normal form has more than 2^24 nodes and leaves.
abbrev pub too_heavy_output : Outcome
too_heavy_output = passed_limit (codes "Weight") (codes "output")

-- Its graph has more than 2^24 triples.
abbrev pub too_many_triples : Outcome
too_many_triples = passed_limit (codes "Triples") (codes "output")
