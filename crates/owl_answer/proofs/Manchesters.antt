-- The translation to Manchester Syntax, step by step.
use Rattle.std.proofs.Common.{◌≡◌, ◌<◌, ◌≤◌, ◌∙◌, ℕ, List, ap, length, map, sym, subst}
use Rattle.std.specs.List.{AllByRecursion}
use Rattle.std.specs.Str.{encode_utf8_all}
use Rattle.owl_arena.specs.Shared.{heaviest}
use Rattle.owl_characters.specs.Limit.{most_bytes}
use Rattle.owl_command.specs.declared.status.Status.TheVariants.{Done}
use Rattle.owl_doc.specs.Counts.{axiom_count}
use Rattle.owl_doc.specs.Documents.{Document, ontology_of}
use Rattle.owl_doc.specs.Entities.{AreWellTyped, entities_of}
use Rattle.owl_doc.specs.Parts.{Part, of_axiom}
use Rattle.owl_documents.specs.Documents.{Said, said_of}
use Rattle.owl_kind.specs.Kinds.{Entity}
use Rattle.owl_tree.specs.Ontologies.{IsOntology, Ontology, canonical_ontology, ontology_weight}
use Rattle.owl_tree.specs.Trees.{kids_of}
use Rattle.owl_tree.proofs.OntologyLaws.{canonical_ontology_again}
use Rattle.man_normal.proofs.FormLaws.{form_can_be_written, form_is_typed}
use Rattle.man_resolve.specs.Expressions.{knows}
use Rattle.man_sayable.specs.Sayable.{IsFirstUnsayable}
use Rattle.man_text.specs.Blocks.{normal_form}
use Rattle.man_text.specs.Readable.{CanBeWritten, IsTypedUnder, ReadsOntology}
use Rattle.man_text.specs.Text.{manchester_text}
use Rattle.sayable_parts.specs.Reasons.{Objection}
use Rattle.owl_answer.specs.Answers.{IsInManchester}
use Rattle.owl_answer.specs.ManchesterOutcome.{IsReadyForFrames, IsToldInManchester, ReadsForm, heavy, light, manchester_form, manchester_translation, not_typed, unsaid}
use Rattle.owl_answer.specs.Outcome.{IsSuccess}
use Rattle.owl_answer.specs.TurtleOutcome.{IsTyped, IsTypingRefusal, canonical_said}
use Rattle.owl_answer.specs.Typing.{IsWellTyped}
use Rattle.owl_answer.proofs.Sayings.{axiom_parts, axioms_typed, notes_typed}
use Rattle.owl_answer.proofs.Turtles.{typing_fails, unread}
use Rattle.owl_messages.specs.Outcome.{IsLimited, Outcome, counts_line, fits, too_heavy_output}
use Rattle.owl_messages.specs.Refusals.{unsayable}

-- of an ontology in canonical form the parts are well typed exactly where the annotations and axioms are
module _ (kinds : List Entity) (o : Ontology) (canonical : canonical_ontology o ≡ o) where
  typed_under : IsTyped kinds o → IsTypedUnder kinds o
  typed_under t = record { no_clash = t.no_clash; annotations = notes_typed kinds o canonical t; axioms = axioms_typed kinds o canonical t }

  typed_parts : IsTypedUnder kinds o → IsTyped kinds o
  typed_parts t = record {
    no_clash = t.no_clash;
    typed = (
      subst (λ (p : Ontology). AreWellTyped kinds (entities_of (kids_of p.annotations))) (sym canonical) t.annotations,
      subst (λ (p : Ontology). AllByRecursion (IsWellTyped kinds) (map of_axiom p.axioms)) (sym canonical) (axiom_parts kinds o.axioms t.axioms),
    );
  }

-- the normal form of an ontology of which frames can say all
module _ (kinds : List Entity) (o : Ontology) (is : IsOntology o) (canonical : canonical_ontology o ≡ o) (ready : IsReadyForFrames kinds o) (p : Ontology) (form : p ≡ canonical_ontology (normal_form (knows kinds) o)) where
  pub form_written : CanBeWritten kinds p
  form_written = subst (CanBeWritten kinds) (sym form) (form_can_be_written kinds o is canonical ready.sayable)

  pub form_typed : IsTyped kinds p
  form_typed =
      let q = normal_form (knows kinds) o in
      subst (IsTyped kinds) (sym form) (typed_parts kinds (canonical_ontology q) (canonical_ontology_again q) (form_is_typed kinds o is canonical (typed_under kinds o canonical ready.typed)))

-- what is written of a form
module _ (kinds : List Entity) (form : Said) (text : List ℕ) (outcome : Outcome) (e : outcome ≡ record { status = Done; text = encode_utf8_all text; line = counts_line (axiom_count form.ontology) 0 }) where
  pub fits_told : text ≡ manchester_text (knows kinds) form.prefixes form.ontology → length (encode_utf8_all text) ≤ most_bytes → IsLimited (λ (wanted : Outcome). wanted ≡ manchester_translation kinds form) outcome
  fits_told t l =
      let line = counts_line (axiom_count form.ontology) 0 in
      fits (e ∙ ap (λ (characters : List ℕ). record { status = Done; text = encode_utf8_all characters; line = line }) t) (subst (λ (o : Outcome). length o.text ≤ most_bytes) (sym e) l)

  pub form_read : canonical_ontology form.ontology ≡ form.ontology → IsTyped kinds form.ontology → ((others : List Entity) → IsTypedUnder others form.ontology → ReadsOntology (encode_utf8_all text) others form.prefixes form.ontology) → ReadsForm kinds outcome.text form
  form_read canonical typed reads =
      subst (λ (o : Outcome). ReadsForm kinds o.text form) (sym e) (record { typed = typed; reads = λ others t. reads others (typed_under others form.ontology canonical t) })

-- a document in canonical form
module _ (kinds : List Entity) (main : Said) (canonical : canonical_ontology main.ontology ≡ main.ontology) (outcome : Outcome) where
  in_form : IsToldInManchester kinds main outcome → (IsSuccess outcome.status → ReadsForm kinds outcome.text (manchester_form kinds main)) → IsInManchester kinds main outcome
  in_form told back =
      let same : main ≡ canonical_said main = λ i. record { prefixes = main.prefixes; ontology = sym canonical i } in
      record {
        is = subst (λ (said : Said). IsToldInManchester kinds said outcome) same told;
        back = λ s. subst (λ (said : Said). ReadsForm kinds outcome.text (manchester_form kinds said)) same (back s);
      }

  pub not_typed_told : IsTypingRefusal kinds main.ontology outcome → IsInManchester kinds main outcome
  not_typed_told h = in_form (not_typed h) (λ s. absurd (typing_fails kinds main.ontology outcome h s))

  pub unsaid_told : IsTyped kinds main.ontology → (part : Part) (why : Objection) → IsFirstUnsayable kinds main.ontology part why → outcome ≡ unsayable part why → IsInManchester kinds main outcome
  unsaid_told typed part why h e = in_form (unsaid typed part why h e) (unread (unsayable part why) outcome e (λ s. s))

  module _ (ready : IsReadyForFrames kinds main.ontology) where
    pub heavy_told : heaviest < ontology_weight (normal_form (knows kinds) main.ontology) → outcome ≡ too_heavy_output → IsInManchester kinds main outcome
    heavy_told l e = in_form (heavy ready l e) (unread too_heavy_output outcome e (λ s. s))

    pub light_told : (form : Document) → ontology_of form ≡ canonical_ontology (normal_form (knows kinds) main.ontology) → form.prefixes ≡ main.prefixes → ontology_weight (normal_form (knows kinds) main.ontology) ≤ heaviest → IsLimited (λ (wanted : Outcome). wanted ≡ manchester_translation kinds (said_of form)) outcome → (IsSuccess outcome.status → ReadsForm kinds outcome.text (said_of form)) → IsInManchester kinds main outcome
    light_told form o p l told back =
        let same : said_of form ≡ manchester_form kinds main = λ i. record { prefixes = p i; ontology = o i } in
        in_form (light ready l (subst (λ (said : Said). IsLimited (λ wanted. wanted ≡ manchester_translation kinds said) outcome) same told))
        (λ s. subst (ReadsForm kinds outcome.text) same (back s))
