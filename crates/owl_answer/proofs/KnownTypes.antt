-- A document that has all that it needs declared is well typed.
use Rattle.std.proofs.Common.{◌≡◌, ◌++◌, ℕ, List, [], ◌∷◌, map, inl, inr, sym, ap, subst}
use Rattle.std.specs.Prelude.{Contains}
use Rattle.std.specs.List.{AllByRecursion}
use Rattle.std.proofs.lemmas.List.Elements.{Contains-append_cases, Contains-append_left, Contains-append_right}
use Rattle.owl_declare.proofs.FindingLaws.{entities_both}
use Rattle.owl_declare.proofs.NeedLaws.{in_trees, whole_typed}
use Rattle.owl_declare.specs.Needed.{named_in, with_needs}
use Rattle.owl_doc.specs.Entities.{AreWellTyped, entities, entities_of}
use Rattle.owl_doc.specs.Parts.{Part, of_axiom, of_header, part_entities, parts_of}
use Rattle.owl_documents.specs.Documents.{Said}
use Rattle.owl_kind.specs.Kinds.{Entity, HasKind}
use Rattle.owl_list.proofs.AscendingLaws.{all_from, all_in, all_map}
use Rattle.owl_tree.proofs.OntologyLaws.{canonical_list_again}
use Rattle.owl_tree.specs.Ontologies.{Ontology, canonical_list, canonical_ontology}
use Rattle.owl_tree.specs.Trees.{Tree, kids_of}
use Rattle.owl_answer.proofs.TypingLaws.{same_kinds_apart, same_kinds_typed}
use Rattle.owl_answer.specs.WithNeeds.{AreKnown, declared_said}
use Rattle.owl_answer.specs.TurtleOutcome.{HasNoClash, IsTyped}
use Rattle.owl_answer.specs.Typing.{AllAreWellTyped, DeclareSame, IsWellTyped}

module _ (kinds : List Entity) (main : Said) (canon : canonical_ontology main.ontology ≡ main.ontology) (needs known : List Entity) (h : AreKnown kinds main needs known)
    (apart : HasNoClash (kinds ++ needs)) where
  abbrev whole : Ontology
  whole = canonical_ontology (with_needs needs main.ontology)

  -- what is known, as one list
  same : DeclareSame (kinds ++ needs) known
  same kind iri =
      let e : Entity = record { kind = kind; iri = iri } in (
        (λ n. (h.adds kind iri).1 (Contains-append_cases kinds needs e n)),
        (λ n. elim ((h.adds kind iri).0 n) [ inl m ↦ Contains-append_left kinds needs e m | inr m ↦ Contains-append_right kinds needs e m ]),
      )

  each_has : (e : Entity) → Contains (named_in whole) e → HasKind (kinds ++ needs) e.kind e.iri
  each_has e m = all_in (λ (x : Entity). HasKind (kinds ++ needs) x.kind x.iri) (named_in whole) e (whole_typed kinds needs main.ontology canon h.needed) m

  header_typed : AreWellTyped (kinds ++ needs) (entities_of (kids_of whole.annotations))
  header_typed =
      all_from (λ (x : Entity). HasKind (kinds ++ needs) x.kind x.iri) (entities_of (kids_of whole.annotations))
      (λ e m.
      each_has e
      (subst (λ (es : List Entity). Contains es e) (sym (entities_both whole.annotations whole.axioms))
      (Contains-append_left (entities_of (kids_of whole.annotations)) (entities_of (kids_of whole.axioms)) e m)))

  axiom_typed : (t : Tree) → Contains whole.axioms t → AreWellTyped (kinds ++ needs) (entities t)
  axiom_typed t there =
      all_from (λ (x : Entity). HasKind (kinds ++ needs) x.kind x.iri) (entities t)
      (λ e m. each_has e (in_trees (whole.annotations ++ whole.axioms) e t (Contains-append_right whole.annotations whole.axioms t there) m))

  all_whole : AllAreWellTyped (kinds ++ needs) whole
  all_whole = (
    subst (λ (ts : List Tree). AreWellTyped (kinds ++ needs) (entities_of (kids_of ts))) (sym (canonical_list_again main.ontology.annotations)) header_typed,
    all_map of_axiom (IsWellTyped (kinds ++ needs)) (canonical_list whole.axioms)
        (subst (λ (ts : List Tree). AllByRecursion (λ (t : Tree). IsWellTyped (kinds ++ needs) (of_axiom t)) ts)
        (sym (canonical_list_again (with_needs needs main.ontology).axioms))
        (all_from (λ (t : Tree). IsWellTyped (kinds ++ needs) (of_axiom t)) whole.axioms axiom_typed)),
  )

  pub known_typed : IsTyped known (declared_said needs main).ontology
  known_typed = record {
    no_clash = same_kinds_apart (kinds ++ needs) known same apart;
    typed = same_kinds_typed (kinds ++ needs) known whole same all_whole;
  }
