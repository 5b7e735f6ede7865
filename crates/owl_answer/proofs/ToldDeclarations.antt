-- What is told of a main document with the declarations that it needs.
use Rattle.std.proofs.Common.{◌≡◌, ℕ, List, length, inl, inr, refl, sym, ap, ◌∙◌, subst}
use Rattle.owl_command.specs.declared.command.Action.TheVariants.{Declare}
use Rattle.owl_command.specs.declared.command.Target.{Target}
use Rattle.owl_declare.proofs.NeedLaws.{needed_once}
use Rattle.owl_declare.specs.Needed.{AreNeeded, DeclaresWhole, IsTooHeavy, KnowsWhole, SharesKinds}
use Rattle.owl_declare.specs.declared.fault.DeclareFault.TheVariants.{TwoKinds}
use Rattle.owl_doc.specs.Documents.{Document, ontology_of}
use Rattle.owl_doc.specs.Entities.{AddsAll}
use Rattle.owl_documents.specs.Documents.{Parsed, Said, an_ontology, in_functional, said_of}
use Rattle.owl_kind.specs.Kinds.{Entity}
use Rattle.owl_tree.specs.Ontologies.{Ontology, canonical_ontology}
use Rattle.owl_messages.specs.Outcome.{Outcome, declared, told_with, too_heavy_output}
use Rattle.owl_messages.specs.Refusals.{two_kinds}
use Rattle.owl_answer.specs.Answers.{IsToldOfMain, IsToldWhole}
use Rattle.owl_answer.specs.WithNeeds.{AreKnown, declared_said}
use Rattle.owl_answer.specs.Outcome.{IsSuccess}
use Rattle.owl_answer.specs.Runs.{IsDeclaration, IsDeclaredText, IsTranslation, ReadsIn, clashes, declared_whole, heavy, normal_form}
use Rattle.owl_answer.specs.TurtleOutcome.{canonical_said}

-- what is known with what is needed
adds_needed : (kinds needs known : List Entity) (o : Ontology) → AreNeeded kinds o needs → KnowsWhole kinds o known → AddsAll kinds needs known
adds_needed kinds needs known o needed h kind iri =
    let e : Entity = record { kind = kind; iri = iri } in (
      (λ n. elim ((h kind iri).0 n) [ inl m ↦ inl m | inr m ↦ inr ((needed.each e).1 m) ]),
      (λ n. (h kind iri).1 (elim n [ inl m ↦ inl m | inr m ↦ inr ((needed.each e).0 m) ])),
    )

module _ (target : Target) (kinds : List Entity) (main : Document) (canon : canonical_ontology (ontology_of main) ≡ ontology_of main) (documents : List Parsed) (parsed : Parsed) where
  -- the document is in canonical form
  own : said_of main ≡ canonical_said (said_of main)
  own = λ i. record { prefixes = main.prefixes; ontology = sym canon i }

  refused : (outcome : Outcome) → IsDeclaration target kinds (said_of main) outcome → (IsSuccess outcome.status → ⊥) → IsToldOfMain (Declare target) documents parsed kinds (said_of main) outcome
  refused outcome h fails = record { is = subst (λ (s : Said). IsDeclaration target kinds s outcome) own h; back = λ s. absurd (fails s) }

  pub clash_told : (iri : List ℕ) (outcome : Outcome) → SharesKinds kinds (ontology_of main) (TwoKinds iri) → outcome ≡ two_kinds iri → IsToldOfMain (Declare target) documents parsed kinds (said_of main) outcome
  clash_told iri outcome h e = refused outcome (clashes h.0 h.1 iri h.2 e) (λ s. subst (λ (o : Outcome). IsSuccess o.status) e s)

  pub heavy_told : (outcome : Outcome) → IsTooHeavy kinds (ontology_of main) → outcome ≡ too_heavy_output → IsToldOfMain (Declare target) documents parsed kinds (said_of main) outcome
  heavy_told outcome h e = refused outcome (heavy h.needs h.needed h.apart.apart h.heavy e) (λ s. subst (λ (o : Outcome). IsSuccess o.status) e s)

  module _ (needs known : List Entity) (whole : Document) (added : ℕ) (outcome : Outcome) (needed : AreNeeded kinds (ontology_of main) needs) (count : added ≡ length needs)
      (d : DeclaresWhole kinds (ontology_of main) (ontology_of whole)) (prefixes : whole.prefixes ≡ main.prefixes) (knows : KnowsWhole kinds (ontology_of main) known)
      (h : IsToldWhole added target known (said_of whole) outcome) where
    whole_said : said_of whole ≡ declared_said d.needs (said_of main)
    whole_said = λ i. record { prefixes = prefixes i; ontology = d.is i }

    counted : added ≡ length d.needs
    counted = count ∙ ap length (needed_once kinds needs d.needs (ontology_of main) needed d.needed)

    known_too : AreKnown kinds (said_of main) d.needs known
    known_too = record { needed = d.needed; adds = adds_needed kinds d.needs known (ontology_of main) d.needed knows; ordered = h.ordered }

    is_declared : IsDeclaration target kinds (said_of main) outcome
    is_declared = declared_whole d.needs known known_too d.apart.apart d.light (record {
      wanted = h.wanted;
      is = subst (λ (s : Said). IsTranslation target (an_ontology in_functional s) known s h.wanted) whole_said h.translated.is;
      told = h.told ∙ ap (λ (n : ℕ). told_with (declared n) h.wanted) counted;
    })

    text_back : IsSuccess outcome.status → IsDeclaredText target kinds (said_of main) outcome.text
    text_back s = record {
      needs = d.needs;
      known = known;
      are = known_too;
      reads =
          let success : IsSuccess h.wanted.status = subst (λ (o : Outcome). IsSuccess o.status) h.told s in
          subst (λ (o : Outcome). ReadsIn target known o.text (normal_form target known (declared_said d.needs (said_of main)))) (sym h.told)
          (subst (λ (t : Said). ReadsIn target known h.wanted.text (normal_form target known t)) whole_said (h.translated.back success));
    }

    pub whole_told : IsToldOfMain (Declare target) documents parsed kinds (said_of main) outcome
    whole_told = record {
      is = subst (λ (s : Said). IsDeclaration target kinds s outcome) own is_declared;
      back = λ s. subst (λ (t : Said). IsDeclaredText target kinds t outcome.text) own (text_back s);
    }
