-- The laws of what a syntax can say.
use Rattle.std.proofs.Common.{◌∙◌, ap, subst, sym}
use Rattle.std.specs.Prelude.{◌≡◌, ◌↔◌, List, Option, Some}
use Rattle.std.specs.List.{AllByRecursion}
use Rattle.std.proofs.lemmas.Option.{none-some, same_Some}
use Rattle.owl_doc.specs.Parts.{Part, parts_of}
use Rattle.owl_tree.specs.Ontologies.{IsSameOntology, Ontology}
use Rattle.sayable_parts.proofs.PartLaws.{first_once, no_first, same_parts}
use Rattle.sayable_parts.specs.Reasons.{Objection}
use Rattle.sayable_parts.specs.Unsaid.{IsFirstUnsaid, IsFirstUnsaidOf, Says, SaysAll}

module _ (objection : Part → Option Objection) where
  -- where something is to be said against a part, it can't be said
  pub not_said : (part : Part) (why : Objection) → objection part ≡ Some why → Says objection part → ⊥
  not_said part why e said = none-some why (sym said ∙ e)

  pub same_ontology_said : (o p : Ontology) → IsSameOntology o p → SaysAll objection o ↔ SaysAll objection p
  same_ontology_said o p h =
      let same = same_parts o p h in (
        subst (λ (parts : List Part). AllByRecursion (Says objection) parts) same,
        subst (λ (parts : List Part). AllByRecursion (Says objection) parts) (sym same),
      )

  pub same_ontology_first : (o p : Ontology) (part : Part) (why : Objection) → IsSameOntology o p → IsFirstUnsaid objection o part why → IsFirstUnsaid objection p part why
  same_ontology_first o p part why h first = subst (λ (parts : List Part). IsFirstUnsaidOf objection parts part why) (same_parts o p h) first

  -- there is one first objection at most, and none where all can be said
  pub unsaid_once : (o : Ontology) (part other : Part) (why because : Objection) → IsFirstUnsaid objection o part why → IsFirstUnsaid objection o other because → (part ≡ other) × (why ≡ because)
  unsaid_once o part other why because h k =
      let same = first_once (Says objection) (parts_of o) part other h.first k.first in
      (same, same_Some why because (sym h.told ∙ ap objection same ∙ k.told))

  pub not_all_said : (o : Ontology) (part : Part) (why : Objection) → IsFirstUnsaid objection o part why → SaysAll objection o → ⊥
  not_all_said o part why h said = no_first (Says objection) (parts_of o) part h.first said
