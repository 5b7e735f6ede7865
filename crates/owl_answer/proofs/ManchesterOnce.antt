-- What becomes of a document that is translated to Manchester Syntax is one.
use Rattle.std.proofs.Common.{◌≡◌, ◌<◌, ◌≤◌, ℕ, true, List, sym, ap, ◌∙◌, subst, arith}
use Rattle.std.specs.Cmp.{both_ways}
use Rattle.std.specs.Str.{encode_utf8_all}
use Rattle.owl_arena.specs.Shared.{heaviest}
use Rattle.owl_command.specs.declared.status.Status.TheVariants.{Done}
use Rattle.owl_doc.specs.Counts.{axiom_count}
use Rattle.owl_kind.specs.declared.kind.Kind.{Kind}
use Rattle.owl_kind.specs.Kinds.{Entity}
use Rattle.owl_tree.specs.Ontologies.{canonical_ontology, ontology_weight}
use Rattle.owl_documents.specs.Documents.{IsSame, Said}
use Rattle.man_resolve.specs.Expressions.{Knows, knows}
use Rattle.man_resolve.proofs.KnowingLaws.{knows_told, told_knows}
use Rattle.man_sayable.specs.Sayable.{part_objection}
use Rattle.man_sayable.proofs.SayableLaws.{not_all_said, unsayable_once}
use Rattle.man_text.specs.Blocks.{normal_form}
use Rattle.man_text.specs.Text.{manchester_text}
use Rattle.owl_answer.specs.ManchesterOutcome.{IsManchesterTranslation, IsReadyForFrames, IsToldInManchester, heavy, light, manchester_form, manchester_translation, not_typed, unsaid}
use Rattle.owl_answer.specs.TurtleOutcome.{canonical_said}
use Rattle.owl_answer.specs.Typing.{DeclareSame}
use Rattle.owl_answer.proofs.TurtleOnce.{refusal_alike, refusal_once, refusal_or_typed, same_said, typed_alike}
use Rattle.owl_answer.proofs.TypingLaws.{back, has_kind}
use Rattle.owl_answer.proofs.Wanting.{limited_once}
use Rattle.owl_messages.specs.Outcome.{IsLimited, Outcome, counts_line}
use Rattle.owl_messages.specs.Refusals.{unsayable}
use Rattle.sayable_parts.specs.Unsaid.{IsFirstUnsaid, SaysAll}

module _ (kinds : List Entity) (main : Said) where
  pub told_once : (a b : Outcome) → IsToldInManchester kinds main a → IsToldInManchester kinds main b → a ≡ b
  told_once a b (not_typed h) (not_typed k) = refusal_once kinds main.ontology a b h k
  told_once a b (not_typed h) (unsaid t part why k f) = absurd (refusal_or_typed kinds main.ontology a h t)
  told_once a b (not_typed h) (heavy r l f) = absurd (refusal_or_typed kinds main.ontology a h r.typed)
  told_once a b (not_typed h) (light r l w) = absurd (refusal_or_typed kinds main.ontology a h r.typed)
  told_once a b (unsaid t part why h e) (not_typed k) = absurd (refusal_or_typed kinds main.ontology b k t)
  told_once a b (unsaid t part why h e) (unsaid u other because k f) =
      let same = unsayable_once kinds main.ontology part other why because h k in
      e ∙ (λ i. unsayable (same.0 i) (same.1 i)) ∙ sym f
  told_once a b (unsaid t part why h e) (heavy r l f) = absurd (not_all_said kinds main.ontology part why h r.sayable)
  told_once a b (unsaid t part why h e) (light r l w) = absurd (not_all_said kinds main.ontology part why h r.sayable)
  told_once a b (heavy r l e) (not_typed k) = absurd (refusal_or_typed kinds main.ontology b k r.typed)
  told_once a b (heavy r l e) (unsaid t part why k f) = absurd (not_all_said kinds main.ontology part why k r.sayable)
  told_once a b (heavy r l e) (heavy s m f) = e ∙ sym f
  told_once a b (heavy r l e) (light s m w) = absurd (omega arith)
  told_once a b (light r l v) (not_typed k) = absurd (refusal_or_typed kinds main.ontology b k r.typed)
  told_once a b (light r l v) (unsaid t part why k f) = absurd (not_all_said kinds main.ontology part why k r.sayable)
  told_once a b (light r l v) (heavy s m f) = absurd (omega arith)
  told_once a b (light r l v) (light s m w) =
      let wanted = manchester_translation kinds (manchester_form kinds main) in
      limited_once (λ o. o ≡ wanted) (λ o. o ≡ wanted) (λ x y p q. p ∙ sym q) a b v w

pub manchester_once : (kinds : List Entity) (main : Said) (a b : Outcome) → IsManchesterTranslation kinds main a → IsManchesterTranslation kinds main b → a ≡ b
manchester_once kinds main a b h k = told_once kinds (canonical_said main) a b h k

-- where the same is declared, IRIs have the same kinds
known_there : (kinds others : List Entity) → DeclareSame kinds others → (k : Kind) (iri : List ℕ) → knows kinds k iri ≡ true → knows others k iri ≡ true
known_there kinds others same k iri e = told_knows others k iri (has_kind kinds others same k iri (knows_told kinds k iri e))

known_alike : (kinds others : List Entity) → DeclareSame kinds others → knows kinds ≡ knows others
known_alike kinds others same = λ i k iri. both_ways (knows kinds k iri) (knows others k iri) (known_there kinds others same k iri) (known_there others kinds (back kinds others same) k iri) i

module _ (kinds others : List Entity) (main : Said) (same : DeclareSame kinds others) where
  abbrev known : knows kinds ≡ knows others
  known = known_alike kinds others same

  ready_alike : IsReadyForFrames kinds main.ontology → IsReadyForFrames others main.ontology
  ready_alike r = record {
    typed = typed_alike kinds others main.ontology same r.typed;
    sayable = subst (λ (ks : Knows). SaysAll (part_objection ks) main.ontology) known r.sayable;
  }

  wanted_alike : manchester_translation kinds (manchester_form kinds main) ≡ manchester_translation others (manchester_form others main)
  wanted_alike = ap by_kinds known
    where
      by_kinds : Knows → Outcome
      by_kinds ks =
          let form = canonical_ontology (normal_form ks main.ontology) in
          record { status = Done; text = encode_utf8_all (manchester_text ks main.prefixes form); line = counts_line (axiom_count form) 0 }

  told_alike : (a : Outcome) → IsToldInManchester kinds main a → IsToldInManchester others main a
  told_alike a (not_typed h) = not_typed (refusal_alike kinds others main.ontology a same h)
  told_alike a (unsaid t part why h e) =
      unsaid (typed_alike kinds others main.ontology same t) part why (subst (λ (ks : Knows). IsFirstUnsaid (part_objection ks) main.ontology part why) known h) e
  told_alike a (heavy r l e) = heavy (ready_alike r) (subst (λ (ks : Knows). heaviest < ontology_weight (normal_form ks main.ontology)) known l) e
  told_alike a (light r l w) =
      light (ready_alike r) (subst (λ (ks : Knows). ontology_weight (normal_form ks main.ontology) ≤ heaviest) known l)
      (subst (λ (wanted : Outcome). IsLimited (λ o. o ≡ wanted) a) wanted_alike w)

pub manchester_alike : (kinds others : List Entity) (main other : Said) (a : Outcome) → DeclareSame kinds others → IsSame main other → IsManchesterTranslation kinds main a → IsManchesterTranslation others other a
manchester_alike kinds others main other a same s h =
    subst (λ (x : Said). IsToldInManchester others x a) (same_said main other s) (told_alike kinds others (canonical_said main) same a h)
