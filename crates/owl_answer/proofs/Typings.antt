-- The first part of a document that is not well typed.
use Rattle.std.proofs.Common.{List, Option, None, Some, IfSome, IsNone, refl, sym, subst}
use Rattle.std.specs.Prelude.{◌↔◌, ◌∷◌, Contains}
use Rattle.std.proofs.lemmas.Bool.{true≢false}
use Rattle.std.proofs.lemmas.List.Elements.{Contains-append_right}
use Rattle.owl_doc.specs.Documents.{Document, IsDocument, ontology_of}
use Rattle.owl_doc.specs.Entities.{AreWellTyped, IsFirstUndeclared}
use Rattle.owl_kind.specs.Kinds.{Entity, HasKind}
use Rattle.owl_list.proofs.AscendingLaws.{all_in, in_head}
use Rattle.owl_doc.specs.Parts.{Part, of_header, part_at, part_entities, parts_of}
use Rattle.sayable_parts.proofs.SearchLaws.{axiom_first, axioms_at, header_first, holds_of_all}
use Rattle.owl_answer.specs.declared.typing.Untyped.{Untyped}
use Rattle.owl_answer.specs.Typing.{AllAreWellTyped, FindsUntyped, IsFirstUntyped, IsWellTyped, entity_found}
use Rattle.owl_answer.proofs.TypingLaws.{not_all_typed}

-- where an entity is undeclared, not all are well typed
pub not_typed : (kinds es : List Entity) (e : Entity) → IsFirstUndeclared kinds es e → AreWellTyped kinds es → ⊥
not_typed kinds es e h all =
    let there : Contains es e = subst (λ (fs : List Entity). Contains fs e) (sym h.parts) (Contains-append_right h.before (e ∷ h.after) e (in_head e h.after)) in
    h.undeclared (all_in (λ (d : Entity). HasKind kinds d.kind d.iri) es e all there)

module _ (kinds : List Entity) (d : Document) (h : IsDocument d) where
  abbrev header : Part
  header = of_header (ontology_of d).annotations

  pub header_found : (e : Entity) → IsFirstUndeclared kinds (part_entities header) e → IsFirstUntyped kinds (ontology_of d) header e
  header_found e found = record { first = header_first (IsWellTyped kinds) d h (not_typed kinds (part_entities header) e found); entity = found }

  -- the header is well typed, and this is found among the axioms
  pub axioms_found : (found : Option Untyped) → IsWellTyped kinds header → FindsUntyped kinds d (axioms_at d.arena.trees d.axioms) found → FindsUntyped kinds d (parts_of (ontology_of d)) found
  axioms_found None typed rest = holds_of_all (IsWellTyped kinds) d h typed rest
  axioms_found (Some found) typed rest =
      (rest.0, record { first = axiom_first (IsWellTyped kinds) d h (part_at d found.item) typed rest.1.first; entity = rest.1.entity })

module _ (kinds : List Entity) (d : Document) where
  pub none_found : (found : Option Untyped) → FindsUntyped kinds d (parts_of (ontology_of d)) found → IsNone found ↔ AllAreWellTyped kinds (ontology_of d)
  none_found None h = (λ _. h, λ _. refl)
  none_found (Some found) h = (λ n. absurd (true≢false n), λ all. absurd (not_all_typed kinds (ontology_of d) (part_at d found.item) (entity_found found) h.1 all))

  pub some_found : (found : Option Untyped) → FindsUntyped kinds d (parts_of (ontology_of d)) found → IfSome found (λ found. IsFirstUntyped kinds (ontology_of d) (part_at d found.item) (entity_found found))
  some_found None h = tt
  some_found (Some found) h = h.1
