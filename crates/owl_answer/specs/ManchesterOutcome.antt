-- What becomes of a main document that is translated to Manchester Syntax, under the kinds of its imports closure.
use Rattle.std.specs.Prelude.{◌≡◌, ◌<◌, ◌≤◌, ℕ, List}
use Rattle.std.specs.Str.{encode_utf8_all}
use Rattle.owl_arena.specs.Shared.{heaviest}
use Rattle.owl_kind.specs.Kinds.{Entity}
use Rattle.owl_tree.specs.Ontologies.{Ontology, canonical_ontology, ontology_weight}
use Rattle.owl_doc.specs.Counts.{axiom_count}
use Rattle.owl_doc.specs.Parts.{Part}
use Rattle.sayable_parts.specs.Reasons.{Objection}
use Rattle.man_resolve.specs.Expressions.{knows}
use Rattle.man_sayable.specs.Sayable.{CanSayAll, IsFirstUnsayable}
use Rattle.man_text.specs.Blocks.{normal_form}
use Rattle.man_text.specs.Readable.{ReadsOntology}
use Rattle.man_text.specs.Text.{manchester_text}
use Rattle.owl_command.specs.declared.status.Status.TheVariants.{Done}
use Rattle.owl_documents.specs.Documents.{Said}
use Rattle.owl_answer.specs.TurtleOutcome.{IsTyped, IsTypingRefusal, canonical_said}
use Rattle.owl_messages.specs.Outcome.{IsLimited, Outcome, counts_line, too_heavy_output}
use Rattle.owl_messages.specs.Refusals.{unsayable}

-- the normal form that frames say, in the document's prefixes: with the declaration of each name that heads a frame
abbrev pub manchester_form : List Entity → Said → Said
manchester_form kinds said = record { prefixes = said.prefixes; ontology = canonical_ontology (normal_form (knows kinds) said.ontology) }

-- A translation writes the normal form, and counts the axioms that it has. It absorbs none.
abbrev pub manchester_translation : List Entity → Said → Outcome
manchester_translation kinds form = record {
  status = Done;
  text = encode_utf8_all (manchester_text (knows kinds) form.prefixes form.ontology);
  line = counts_line (axiom_count form.ontology) 0;
}

-- The form is well typed under these kinds. The bytes are read in Manchester Syntax to frames that mean it under all kinds by which it is well
-- typed: under these, and under what the frames declare, which may be more individuals.
pub record ReadsForm (kinds : List Entity) (text : List ℕ) (form : Said) : Type 0 where
  pub typed : IsTyped kinds form.ontology
  pub reads : (others : List Entity) → IsTyped others form.ontology → ReadsOntology text others form.prefixes form.ontology

-- All is well typed and can be said in frames.
pub record IsReadyForFrames (kinds : List Entity) (o : Ontology) : Type 0 where
  pub typed : IsTyped kinds o
  pub sayable : CanSayAll kinds o

-- What becomes of a document in canonical form: the first condition that fails, or the text of its normal form.
pub data IsToldInManchester (kinds : List Entity) (main : Said) (outcome : Outcome) : Type 0 where
  not_typed : IsTypingRefusal kinds main.ontology outcome → IsToldInManchester kinds main outcome
  unsaid : IsTyped kinds main.ontology → (part : Part) (why : Objection) → IsFirstUnsayable kinds main.ontology part why → outcome ≡ unsayable part why → IsToldInManchester kinds main outcome
  heavy : IsReadyForFrames kinds main.ontology → heaviest < ontology_weight (normal_form (knows kinds) main.ontology) → outcome ≡ too_heavy_output → IsToldInManchester kinds main outcome
  light : IsReadyForFrames kinds main.ontology → ontology_weight (normal_form (knows kinds) main.ontology) ≤ heaviest → IsLimited (λ wanted. wanted ≡ manchester_translation kinds (manchester_form kinds main)) outcome → IsToldInManchester kinds main outcome

-- What becomes of a document.
abbrev pub IsManchesterTranslation : List Entity → Said → Outcome → Type 0
IsManchesterTranslation kinds main outcome = IsToldInManchester kinds (canonical_said main) outcome
