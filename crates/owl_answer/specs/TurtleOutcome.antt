-- What becomes of a main document that is translated to Turtle, under the kinds of its imports closure.
use Rattle.std.specs.Prelude.{◌≡◌, ◌<◌, ◌≤◌, ℕ, List, Option, length}
use Rattle.std.specs.Str.{encode_utf8_all}
use Rattle.owl_arena.specs.Shared.{heaviest}
use Rattle.owl_kind.specs.Kinds.{Entity, HasClash, IsFirstClash}
use Rattle.owl_tree.specs.Ontologies.{Ontology, canonical_ontology, ontology_weight}
use Rattle.owl_doc.specs.Counts.{axiom_count}
use Rattle.owl_doc.specs.Entities.{declared_in}
use Rattle.owl_writing.specs.Tables.{written_prefixes}
use Rattle.rdf_graph.specs.Graphs.{most_triples}
use Rattle.rdf_graph.specs.declared.term.Term.TheVariants.{Blank}
use Rattle.rdf_graph.specs.declared.triple.Triple.{Triple}
use Rattle.owl_doc.specs.Parts.{Part}
use Rattle.sayable_parts.specs.Reasons.{Objection}
use Rattle.rdf_sayable.specs.Sayable.{CanSayAll, IsFirstUnsayable}
use Rattle.rdf_normal.specs.NormalForms.{absorbed_count, normal_form}
use Rattle.rdf_mapping.specs.Graphs.{graph_of}
use Rattle.rdf_reverse.specs.Reverse.{AreShallow, IsSaid}
use Rattle.rdf_thin.specs.Thinned.{thinned}
use Rattle.rdf_scans.specs.Outlines.{declarations}
use Rattle.ttl_grammar.specs.Documents.{ReadsTurtle}
use Rattle.ttl_write.specs.Text.{turtle_text}
use Rattle.ttl_levels.specs.Nested.{IsNested}
use Rattle.ttl_nest.specs.NestedForm.{IsNestedText}
use Rattle.ttl_nested.specs.Renaming.{ReadsRenamed}
use Rattle.owl_atom.specs.declared.prefixes.Prefix.{Prefix}
use Rattle.owl_command.specs.declared.command.Layout.{Layout}
use Rattle.owl_command.specs.declared.command.Layout.TheVariants.{Flat, Nested}
use Rattle.owl_command.specs.declared.status.Status.TheVariants.{Done}
use Rattle.owl_documents.specs.Documents.{Said}
use Rattle.owl_answer.specs.Outcome.{IsSuccess}
use Rattle.owl_messages.specs.Refusals.{two_kinds, undeclared, unsayable}
use Rattle.owl_answer.specs.Typing.{AllAreWellTyped, DeclareSame, IsFirstUntyped}
use Rattle.owl_messages.specs.Outcome.{IsLimited, Outcome, counts_line, too_heavy_output, too_many_triples, translation}

-- the same document in canonical form, which equivalent ones have in common
abbrev pub canonical_said : Said → Said
canonical_said said = record { prefixes = said.prefixes; ontology = canonical_ontology said.ontology }

-- the normal form that a graph says, in the document's prefixes
abbrev pub turtle_form : Said → Said
turtle_form said = record { prefixes = said.prefixes; ontology = normal_form said.ontology }

-- the text of a graph: a line for each triple, or with brackets and collections
abbrev pub IsGraphText : Layout → List Prefix → List Triple → List ℕ → Type 0
IsGraphText Flat prefixes g text = text ≡ turtle_text prefixes g
IsGraphText Nested prefixes g text = IsNestedText prefixes g text

-- A translation writes the graph of the normal form, and counts the axioms that it has, and those that are absorbed.
pub record IsGraphTranslation (layout : Layout) (form : Said) (absorbed : ℕ) (outcome : Outcome) : Type 0 where
  pub text : List ℕ
  pub is : IsGraphText layout form.prefixes (graph_of form.ontology) text
  pub told : outcome ≡ record { status = Done; text = encode_utf8_all text; line = counts_line (axiom_count form.ontology) absorbed }

-- Against whatever base IRI, the bytes are read in Turtle to this graph, where nodes stand in brackets under other labels.
abbrev pub ReadsLaidOut : Layout → List ℕ → List Prefix → List Triple → Type 0
ReadsLaidOut Flat bytes prefixes g = (base : Option (List ℕ)) → ReadsTurtle base bytes prefixes g
ReadsLaidOut Nested bytes prefixes g = ReadsRenamed (λ label. IsNested g (Blank label)) bytes prefixes g

-- so they are read to the graph of this form, of which no tree is too deep
pub record ReadsGraph (layout : Layout) (text : List ℕ) (form : Said) : Type 0 where
  pub reads : ReadsLaidOut layout text (written_prefixes form.prefixes) (graph_of form.ontology)
  pub shallow : AreShallow form.ontology

-- no IRI has two kinds that no IRI may share
abbrev pub HasNoClash : List Entity → Type 0
HasNoClash kinds = (iri : List ℕ) → HasClash kinds iri → ⊥

-- The kinds have no clash, and under them all is well typed.
pub record IsTyped (kinds : List Entity) (o : Ontology) : Type 0 where
  pub no_clash : HasNoClash kinds
  pub typed : AllAreWellTyped kinds o

-- Against whatever base IRI, the bytes are read in Turtle to a graph that says this form, and no more, under these kinds and within the
-- limits. The form is well typed under them, and the graph declares what it declares.
pub record ReadsSaid (kinds : List Entity) (text : List ℕ) (form : Said) : Type 0 where
  pub graph : List Triple
  pub reads : (base : Option (List ℕ)) → ReadsTurtle base text (written_prefixes form.prefixes) graph
  pub declares : DeclareSame (declarations graph) (declared_in form.ontology)
  pub typed : IsTyped kinds form.ontology
  pub says : IsSaid (thinned graph) kinds form.ontology

-- All is well typed and can be said in a graph.
pub record IsReady (kinds : List Entity) (o : Ontology) : Type 0 where
  pub typed : IsTyped kinds o
  pub sayable : CanSayAll o

-- What becomes of a normal form, which a graph has to say.
pub data IsFormTold (layout : Layout) (form : Said) (absorbed : ℕ) (outcome : Outcome) : Type 0 where
  many : most_triples < length (graph_of form.ontology) → outcome ≡ too_many_triples → IsFormTold layout form absorbed outcome
  few : length (graph_of form.ontology) ≤ most_triples → IsLimited (IsGraphTranslation layout form absorbed) outcome → IsFormTold layout form absorbed outcome

-- What becomes of a document of which all can be said.
pub data IsGraphTold (layout : Layout) (main : Said) (outcome : Outcome) : Type 0 where
  heavy : heaviest < ontology_weight (normal_form main.ontology) → outcome ≡ too_heavy_output → IsGraphTold layout main outcome
  light : ontology_weight (normal_form main.ontology) ≤ heaviest → IsFormTold layout (turtle_form main) (absorbed_count main.ontology) outcome → IsGraphTold layout main outcome

-- How an ontology is refused that is not well typed: the first IRI with a clash, or the first part with an entity that is not declared.
pub data IsTypingRefusal (kinds : List Entity) (o : Ontology) (outcome : Outcome) : Type 0 where
  clashes : (iri : List ℕ) → IsFirstClash kinds iri → outcome ≡ two_kinds iri → IsTypingRefusal kinds o outcome
  untyped : HasNoClash kinds → (part : Part) (e : Entity) → IsFirstUntyped kinds o part e → outcome ≡ undeclared part e → IsTypingRefusal kinds o outcome

-- What becomes of a document that a graph says, where it is translated to Functional-Style Syntax.
pub data IsFunctionalTranslation (kinds : List Entity) (main : Said) (outcome : Outcome) : Type 0 where
  ill_typed : IsTypingRefusal kinds main.ontology outcome → IsFunctionalTranslation kinds main outcome
  well_typed : IsTyped kinds main.ontology → IsLimited (λ wanted. wanted ≡ translation main) outcome → IsFunctionalTranslation kinds main outcome

-- What becomes of a document in canonical form: the first condition that fails, or what becomes of its graph.
pub data IsTold (layout : Layout) (kinds : List Entity) (main : Said) (outcome : Outcome) : Type 0 where
  not_typed : IsTypingRefusal kinds main.ontology outcome → IsTold layout kinds main outcome
  unsaid : IsTyped kinds main.ontology → (part : Part) (why : Objection) → IsFirstUnsayable main.ontology part why → outcome ≡ unsayable part why → IsTold layout kinds main outcome
  ready : IsReady kinds main.ontology → IsGraphTold layout main outcome → IsTold layout kinds main outcome

-- What becomes of a document.
abbrev pub IsTurtleTranslation : Layout → List Entity → Said → Outcome → Type 0
IsTurtleTranslation layout kinds main outcome = IsTold layout kinds (canonical_said main) outcome

-- It is such an outcome, and the text of a success reads back to the graph of this form.
pub record IsToldBack (layout : Layout) (IsOne : Outcome → Type 0) (form : Said) (outcome : Outcome) : Type 0 where
  pub is : IsOne outcome
  pub back : IsSuccess outcome.status → ReadsGraph layout outcome.text form
