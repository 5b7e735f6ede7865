-- What parts break, rule by rule.
use Rattle.std.proofs.Common.{◌≡◌, ◌⊎◌, ◌↔◌, inl, inr, ℕ, Bool, true, false, List, refl, sym, ap, ◌∙◌, subst}
use Rattle.std.specs.Prelude.{IsTrue, slice_index_or}
use Rattle.dl_local.specs.LocalRules.{is_local, test_of}
use Rattle.dl_rules.specs.declared.rule.DlRule.{DlRule}
use Rattle.dl_rules.specs.declared.rule.DlRule.TheVariants.{Typing, Clash, ReservedName, Datatypes, DatatypeOrder, LexicalForms, DataRanges, TopDataProperty, SimpleProperties, Hierarchy, NamedIndividuals, Forest, OntologyIri}
use Rattle.dl_rules.specs.Definitions.{IsCyclic, definition_of}
use Rattle.dl_rules.specs.Hierarchy.{BreaksOrder}
use Rattle.dl_rules.specs.Properties.{chain_of}
use Rattle.dl_rules.specs.Rules.{Breaks, HasReservedName}
use Rattle.owl_breaches.specs.Sites.{Ontologies, axiom_closure}
use Rattle.owl_breaches.specs.Those.{HoldsOfSome}
use Rattle.owl_breaches.proofs.OneLaws.{never}
use Rattle.owl_doc.specs.Entities.{declaration}
use Rattle.owl_doc.specs.Parts.{of_axiom, of_header}
use Rattle.owl_kind.specs.Kinds.{Entity, SharesKinds}
use Rattle.owl_tree.specs.Ontologies.{Head, Ontology}
use Rattle.owl_tree.specs.Trees.{Tree}

-- a mark at a number says what it says there
pub mark_tells : (Q : Type 0) (marks : List Bool) (place id : ℕ) (r : Bool) → (slice_index_or marks id false ≡ true) ↔ Q → place ≡ id → r ≡ slice_index_or marks place false → IsTrue r ↔ Q
mark_tells Q marks place id r told is e =
    let same : r ≡ slice_index_or marks id false = e ∙ ap (λ (k : ℕ). slice_index_or marks k false) is in (
      λ h. told.0 (sym same ∙ h),
      λ q. same ∙ told.1 q,
    )

module _ (c : Ontologies) (o : Ontology) (t : Tree) (r : Bool) where
  -- an answer about the axiom, by the rule
  abbrev pub TellsOf : DlRule → Type 0
  TellsOf rule = IsTrue r ↔ Breaks c rule o (of_axiom t)

  pub by_clash : IsTrue r ↔ HoldsOfSome (λ (e : Entity). SharesKinds c.kinds e.iri) (declaration t) → TellsOf Clash
  unfolding Breaks
  by_clash h = h

  pub by_cycle : IsTrue r ↔ HoldsOfSome (IsCyclic (axiom_closure c)) (definition_of t) → TellsOf DatatypeOrder
  unfolding Breaks
  by_cycle h = h

  pub by_order : IsTrue r ↔ HoldsOfSome (BreaksOrder (axiom_closure c)) (chain_of t) → TellsOf Hierarchy
  unfolding Breaks
  by_order h = h

no_axiom : (c : Ontologies) (o : Ontology) (t : Tree) → Breaks c OntologyIri o (of_axiom t) → ⊥
unfolding Breaks
no_axiom c o t h = h.0

-- an axiom breaks none on the ontology's IRI
pub none_of_header : (c : Ontologies) (o : Ontology) (t : Tree) (rule : DlRule) → (rule ≡ Forest) ⊎ (rule ≡ OntologyIri) → (rule ≡ Forest → ⊥) → IsTrue false ↔ Breaks c rule o (of_axiom t)
none_of_header c o t rule (inl e) other = absurd (other e)
none_of_header c o t rule (inr e) other =
    subst (λ (r : DlRule). IsTrue false ↔ Breaks c r o (of_axiom t)) (sym e) (never (no_axiom c o t))

pub local_rule : (rule : DlRule) → (rule ≡ Clash → ⊥) → (rule ≡ DatatypeOrder → ⊥) → (rule ≡ Hierarchy → ⊥) → (rule ≡ Forest → ⊥) → (rule ≡ OntologyIri → ⊥) → is_local rule ≡ true
unfolding test_of
local_rule Clash a b d e f = absurd (a refl)
local_rule DatatypeOrder a b d e f = absurd (b refl)
local_rule Hierarchy a b d e f = absurd (d refl)
local_rule Forest a b d e f = absurd (e refl)
local_rule OntologyIri a b d e f = absurd (f refl)
local_rule _ a b d e f = refl

module _ (c : Ontologies) (o : Ontology) (ns : List Tree) where
  pub by_name : (name : Head) (r : Bool) → name ≡ o.head → IsTrue r ↔ HoldsOfSome HasReservedName name.name → IsTrue r ↔ Breaks c OntologyIri o (of_header ns)
  unfolding Breaks
  by_name name r is told =
      let named = subst (λ (h : Head). IsTrue r ↔ HoldsOfSome HasReservedName h.name) is told in (
        λ h. (tt, named.0 h),
        λ h. named.1 h.1,
      )

  quiet : (r : Bool) → r ≡ false → (P : Type 0) → (P → ⊥) → IsTrue r ↔ P
  quiet r e P none = subst (λ (b : Bool). IsTrue b ↔ P) (sym e) (never none)

  -- a header breaks no rule but by its annotations, or by its name
  pub by_notes : (rule : DlRule) (r : Bool) → (is_local rule ≡ true → IsTrue r ↔ Breaks c rule o (of_header ns)) → (is_local rule ≡ false → r ≡ false) → (rule ≡ OntologyIri → ⊥) → IsTrue r ↔ Breaks c rule o (of_header ns)
  unfolding Breaks test_of
  by_notes Clash r local other named = quiet r (other refl) ⊥ (λ h. h)
  by_notes DatatypeOrder r local other named = quiet r (other refl) ⊥ (λ h. h)
  by_notes Hierarchy r local other named = quiet r (other refl) ⊥ (λ h. h)
  by_notes Forest r local other named = quiet r (other refl) ⊥ (λ h. h)
  by_notes OntologyIri r local other named = absurd (named refl)
  by_notes Typing r local other named = local refl
  by_notes ReservedName r local other named = local refl
  by_notes Datatypes r local other named = local refl
  by_notes LexicalForms r local other named = local refl
  by_notes DataRanges r local other named = local refl
  by_notes TopDataProperty r local other named = local refl
  by_notes SimpleProperties r local other named = local refl
  by_notes NamedIndividuals r local other named = local refl
