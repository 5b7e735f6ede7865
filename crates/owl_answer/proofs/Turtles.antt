-- The translation to Turtle, step by step.
use Rattle.std.proofs.Common.{◌≡◌, ◌<◌, ◌≤◌, ◌∙◌, ℕ, List, Option, length, refl, sym, subst}
use Rattle.std.specs.Str.{encode_utf8_all}
use Rattle.owl_characters.specs.Limit.{most_bytes}
use Rattle.man_write.proofs.DocumentLaws.{each_shallow}
use Rattle.owl_arena.specs.Held.{Held, trees_at}
use Rattle.owl_arena.specs.Shared.{AreShared, deepest, heaviest}
use Rattle.owl_atom.specs.declared.prefixes.Prefix.{Prefix}
use Rattle.owl_kind.specs.Kinds.{Entity}
use Rattle.owl_tree.specs.Ontologies.{Ontology, canonical_ontology, ontology_weight}
use Rattle.owl_tree.specs.Trees.{depth}
use Rattle.owl_doc.specs.Counts.{axiom_count}
use Rattle.owl_doc.specs.Documents.{Document, IsDocument, ontology_of}
use Rattle.owl_writing.specs.Tables.{written_prefixes}
use Rattle.owl_documents.specs.Documents.{Said, said_of}
use Rattle.rdf_graph.specs.Graphs.{IsGraph, most_triples}
use Rattle.rdf_graph.specs.declared.triple.Triple.{Triple}
use Rattle.owl_doc.specs.Parts.{Part}
use Rattle.sayable_parts.specs.Reasons.{Objection}
use Rattle.rdf_sayable.specs.Sayable.{CanSayAll, IsFirstUnsayable}
use Rattle.rdf_normal.specs.NormalForms.{absorbed_count, normal_form}
use Rattle.rdf_mapping.specs.Graphs.{graph_of}
use Rattle.rdf_reverse.specs.Reverse.{AreShallow}
use Rattle.rdf_states.proofs.EndLaws.{all_both}
use Rattle.owl_answer.specs.GraphTexts.{IsTooLong}
use Rattle.owl_command.specs.declared.command.Layout.{Layout}
use Rattle.owl_command.specs.declared.status.Status.TheVariants.{Done}
use Rattle.owl_answer.specs.Outcome.{IsSuccess}
use Rattle.owl_messages.specs.Refusals.{unsayable}
use Rattle.owl_answer.specs.TurtleOutcome.{IsFormTold, IsGraphText, IsGraphTold, IsGraphTranslation, IsToldBack, IsTold, IsTurtleTranslation, IsTyped, IsTypingRefusal, ReadsGraph, ReadsLaidOut, canonical_said, clashes, few, heavy, light, many, not_typed, ready, turtle_form, unsaid, untyped}
use Rattle.owl_messages.specs.Outcome.{IsLimited, Outcome, counts_line, fits, passes, too_heavy_output, too_long_output, too_many_triples}

-- a refusal is no success
pub typing_fails : (kinds : List Entity) (o : Ontology) (outcome : Outcome) → IsTypingRefusal kinds o outcome → IsSuccess outcome.status → ⊥
typing_fails kinds o outcome (clashes iri h e) s = subst (λ (x : Outcome). IsSuccess x.status) e s
typing_fails kinds o outcome (untyped apart part entity h e) s = subst (λ (x : Outcome). IsSuccess x.status) e s

-- what is refused isn't read back
pub unread : {R : Type 0} (wanted outcome : Outcome) → outcome ≡ wanted → (IsSuccess wanted.status → ⊥) → IsSuccess outcome.status → R
unread wanted outcome e quiet s = absurd (quiet (subst (λ (o : Outcome). IsSuccess o.status) e s))

pub long_told : (layout : Layout) (form : Said) (absorbed : ℕ) (prefixes : List Prefix) (graph : List Triple) (outcome : Outcome) → prefixes ≡ form.prefixes → graph ≡ graph_of form.ontology → IsTooLong layout prefixes graph → outcome ≡ too_long_output → IsToldBack layout (IsLimited (IsGraphTranslation layout form absorbed)) form outcome
long_told layout form absorbed prefixes graph outcome p g l e =
    let own : IsTooLong layout form.prefixes (graph_of form.ontology) = subst (λ (ps : List Prefix). IsTooLong layout ps (graph_of form.ontology)) p (subst (λ (triples : List Triple). IsTooLong layout prefixes triples) g l) in
    record {
      is = passes (record { status = Done; text = encode_utf8_all own.text; line = counts_line (axiom_count form.ontology) absorbed }) (record { text = own.text; is = own.is; told = refl }) own.long e;
      back = unread too_long_output outcome e (λ s. s);
    }

-- what an arena holds is not too deep
shallow_document : (form : Document) (arena : Held) → arena ≡ form.arena → AreShared arena.trees → IsDocument form → AreShallow (ontology_of form)
shallow_document form arena same shared is =
    let own = subst (λ (a : Held). AreShared a.trees) same shared in
    all_both (λ t. depth t ≤ deepest) (trees_at form.arena.trees form.notes) (trees_at form.arena.trees form.axioms)
    (each_shallow form.arena.trees form.notes own is.notes) (each_shallow form.arena.trees form.axioms own is.axioms)

pub fits_told : (layout : Layout) (form : Document) (arena : Held) (absorbed : ℕ) (prefixes : List Prefix) (graph : List Triple) (text : List ℕ) (outcome : Outcome) → arena ≡ form.arena → AreShared arena.trees → IsDocument form → prefixes ≡ form.prefixes → graph ≡ graph_of (ontology_of form) → IsGraphText layout prefixes graph text → length (encode_utf8_all text) ≤ most_bytes → ReadsLaidOut layout (encode_utf8_all text) (written_prefixes prefixes) graph → outcome ≡ record { status = Done; text = encode_utf8_all text; line = counts_line (axiom_count (ontology_of form)) absorbed } → IsToldBack layout (IsLimited (IsGraphTranslation layout (said_of form) absorbed)) (said_of form) outcome
fits_told layout form arena absorbed prefixes graph text outcome a shared is p g t l reads e =
    let whole = subst (λ (ps : List Prefix). IsGraphText layout ps (graph_of (ontology_of form)) text) p (subst (λ (triples : List Triple). IsGraphText layout prefixes triples text) g t) in
    let own_reads = subst (λ (ps : List Prefix). ReadsLaidOut layout (encode_utf8_all text) (written_prefixes ps) (graph_of (ontology_of form))) p
    (subst (λ (triples : List Triple). ReadsLaidOut layout (encode_utf8_all text) (written_prefixes prefixes) triples) g reads) in
    record {
      is = fits (record { text = text; is = whole; told = e }) (subst (λ (o : Outcome). length o.text ≤ most_bytes) (sym e) l);
      back = λ s. record {
        reads = subst (λ (o : Outcome). ReadsLaidOut layout o.text (written_prefixes form.prefixes) (graph_of (ontology_of form))) (sym e) own_reads;
        shallow = shallow_document form arena a shared is;
      };
    }

pub few_told : (layout : Layout) (form : Said) (absorbed : ℕ) (graph : List Triple) (outcome : Outcome) → graph ≡ graph_of form.ontology → IsGraph graph → IsToldBack layout (IsLimited (IsGraphTranslation layout form absorbed)) form outcome → IsToldBack layout (IsFormTold layout form absorbed) form outcome
few_told layout form absorbed graph outcome e g h = record { is = few (subst (λ (triples : List Triple). length triples ≤ most_triples) e g.few) h.is; back = h.back }

pub many_told : (layout : Layout) (form : Said) (absorbed : ℕ) (outcome : Outcome) → most_triples < length (graph_of form.ontology) → outcome ≡ too_many_triples → IsToldBack layout (IsFormTold layout form absorbed) form outcome
many_told layout form absorbed outcome l e = record { is = many l e; back = unread too_many_triples outcome e (λ s. s) }

pub heavy_told : (layout : Layout) (main : Said) (outcome : Outcome) → heaviest < ontology_weight (normal_form main.ontology) → outcome ≡ too_heavy_output → IsToldBack layout (IsGraphTold layout main) (turtle_form main) outcome
heavy_told layout main outcome l e = record { is = heavy l e; back = unread too_heavy_output outcome e (λ s. s) }

pub light_told : (layout : Layout) (main : Said) (form : Document) (absorbed : ℕ) (outcome : Outcome) → ontology_of form ≡ normal_form main.ontology → form.prefixes ≡ main.prefixes → absorbed ≡ absorbed_count main.ontology → ontology_weight (normal_form main.ontology) ≤ heaviest → IsToldBack layout (IsFormTold layout (said_of form) absorbed) (said_of form) outcome → IsToldBack layout (IsGraphTold layout main) (turtle_form main) outcome
light_told layout main form absorbed outcome o p a l h =
    let same : said_of form ≡ turtle_form main = λ i. record { prefixes = p i; ontology = o i } in
    record {
      is = light l (subst (λ (n : ℕ). IsFormTold layout (turtle_form main) n outcome) a (subst (λ (said : Said). IsFormTold layout said absorbed outcome) same h.is));
      back = λ s. subst (ReadsGraph layout outcome.text) same (h.back s);
    }

-- a document in canonical form
module _ (layout : Layout) (kinds : List Entity) (main : Said) (form : canonical_ontology main.ontology ≡ main.ontology) (outcome : Outcome) where
  in_form : IsToldBack layout (IsTold layout kinds main) (turtle_form main) outcome → IsToldBack layout (IsTurtleTranslation layout kinds main) (turtle_form (canonical_said main)) outcome
  in_form h = subst (λ (said : Said). IsToldBack layout (IsTold layout kinds said) (turtle_form said) outcome) (λ i. record { prefixes = main.prefixes; ontology = sym form i }) h

  pub not_typed_told : IsTypingRefusal kinds main.ontology outcome → IsToldBack layout (IsTurtleTranslation layout kinds main) (turtle_form (canonical_said main)) outcome
  not_typed_told h = in_form (record { is = not_typed h; back = λ s. absurd (typing_fails kinds main.ontology outcome h s) })

  pub unsaid_told : IsTyped kinds main.ontology → (part : Part) (why : Objection) → IsFirstUnsayable main.ontology part why → outcome ≡ unsayable part why → IsToldBack layout (IsTurtleTranslation layout kinds main) (turtle_form (canonical_said main)) outcome
  unsaid_told typed part why h e = in_form (record { is = unsaid typed part why h e; back = unread (unsayable part why) outcome e (λ s. s) })

  pub ready_told : IsTyped kinds main.ontology → CanSayAll main.ontology → IsToldBack layout (IsGraphTold layout main) (turtle_form main) outcome → IsToldBack layout (IsTurtleTranslation layout kinds main) (turtle_form (canonical_said main)) outcome
  ready_told t said h = in_form (record { is = ready (record { typed = t; sayable = said }) h.is; back = h.back })
