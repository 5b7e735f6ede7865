-- The first part of a document that a syntax can't say.
use Rattle.std.proofs.Common.{◌≡◌, ℕ, List, Option, None, Some, IfSome, IsNone, refl, sym, ap, ◌∙◌}
use Rattle.std.specs.Prelude.{◌↔◌}
use Rattle.std.proofs.lemmas.Bool.{true≢false}
use Rattle.owl_arena.specs.Held.{Held, trees_at}
use Rattle.owl_doc.specs.declared.item.Cant.{Cant}
use Rattle.owl_doc.specs.Documents.{Document, IsDocument, ontology_of}
use Rattle.owl_doc.specs.Parts.{Part, of_header, part_at, parts_of}
use Rattle.sayable_parts.specs.Reasons.{Objection, why_seen}
use Rattle.sayable_parts.specs.Unsaid.{FindsUnsaid, IsFirstUnsaid, Says, SaysAll}
use Rattle.sayable_parts.proofs.UnsaidLaws.{not_all_said, not_said}
use Rattle.sayable_parts.proofs.SearchLaws.{axiom_first, axioms_at, header_first, holds_of_all}

module _ (objection : Part → Option Objection) (d : Document) where
  abbrev header : Part
  header = of_header (ontology_of d).annotations

  -- what is to be said against the header, by the annotations of the document
  pub header_against : (arena : Held) (notes : List ℕ) (o : Option Objection) → arena ≡ d.arena → notes ≡ d.notes → o ≡ objection (of_header (trees_at arena.trees notes)) → o ≡ objection header
  header_against arena notes o e f h =
      h
      ∙ ap (λ (a : Held). objection (of_header (trees_at a.trees notes))) e
      ∙ ap (λ (ids : List ℕ). objection (of_header (trees_at d.arena.trees ids))) f

  -- something is to be said against the header
  pub header_found : (why : Objection) → IsDocument d → Some why ≡ objection header → IsFirstUnsaid objection (ontology_of d) header why
  header_found why h against = record { first = header_first (Says objection) d h (not_said objection header why (sym against)); told = sym against }

  -- the header can be said, and this is found among the axioms
  pub axioms_found : (found : Option Cant) → IsDocument d → None ≡ objection header → FindsUnsaid objection d (axioms_at d.arena.trees d.axioms) found → FindsUnsaid objection d (parts_of (ontology_of d)) found
  axioms_found None h said rest = holds_of_all (Says objection) d h (sym said) rest
  axioms_found (Some cant) h said rest =
      (rest.0, record { first = axiom_first (Says objection) d h (part_at d cant.item) (sym said) rest.1.first; told = rest.1.told })

  pub none_found : (found : Option Cant) → FindsUnsaid objection d (parts_of (ontology_of d)) found → IsNone found ↔ SaysAll objection (ontology_of d)
  none_found None h = (λ _. h, λ _. refl)
  none_found (Some cant) h = (λ n. absurd (true≢false n), λ said. absurd (not_all_said objection (ontology_of d) (part_at d cant.item) (why_seen cant.why) h.1 said))

  pub some_found : (found : Option Cant) → FindsUnsaid objection d (parts_of (ontology_of d)) found → IfSome found (λ cant. IsFirstUnsaid objection (ontology_of d) (part_at d cant.item) (why_seen cant.why))
  some_found None h = tt
  some_found (Some cant) h = h.1
