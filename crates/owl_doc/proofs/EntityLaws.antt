-- The laws of what is declared.
use Rattle.std.proofs.Common.{inl, inr, ℕ, List, [], ◌∷◌, ◌++◌, subst, sym}
use Rattle.std.proofs.lemmas.List.Elements.{Contains-append_cases, Contains-append_left, Contains-append_right}
use Rattle.owl_kind.specs.declared.kind.Kind.{Kind}
use Rattle.owl_kind.specs.Kinds.{Entity, HasKind, IsDeclared}
use Rattle.owl_doc.specs.Entities.{AddsAll, AreKindsOf, AreWellTyped, Declares, declared_in}
use Rattle.owl_list.proofs.AscendingLaws.{all_later, in_cases, in_head, in_none}
use Rattle.owl_tree.specs.Ontologies.{Ontology}

-- no ontologies declare nothing
pub no_kinds : (kinds : List Entity) → ((kind : Kind) (iri : List ℕ) → IsDeclared kinds kind iri → ⊥) → AreKindsOf [] kinds
no_kinds kinds none kind iri = (λ h. absurd (none kind iri h), λ d. absurd (in_none d.0 d.1))

-- one ontology more
pub more_kinds : (os : List Ontology) (o : Ontology) (old new : List Entity) → AreKindsOf os old → AddsAll old (declared_in o) new → AreKindsOf (os ++ o ∷ []) new
more_kinds os o old new known adds kind iri =
    let before = known kind iri in
    let after = adds kind iri in (
      (λ h.
          elim (after.0 h) [
            | inl k ↦ let d = before.0 k in (d.0, Contains-append_left os (o ∷ []) d.0 d.1, d.2)
            | inr k ↦ (o, Contains-append_right os (o ∷ []) o (in_head o []), k)
          ]),
      (λ d.
          after.1
          (elim (Contains-append_cases os (o ∷ []) d.0 d.1) [
            | inl m ↦ inl (before.1 (d.0, m, d.2))
            | inr m ↦ elim (in_cases o [] d.0 m) [ inl e ↦ inr (subst (λ (p : Ontology). Declares p kind iri) (sym e) d.2) | inr n ↦ absurd (in_none d.0 n) ]
          ])),
    )

-- where the same is declared, the same is well typed
pub same_typing : (kinds others es : List Entity) → ((kind : Kind) (iri : List ℕ) → IsDeclared kinds kind iri → IsDeclared others kind iri) → AreWellTyped kinds es → AreWellTyped others es
same_typing kinds others es more typed =
    all_later (λ (e : Entity). HasKind kinds e.kind e.iri) (λ (e : Entity). HasKind others e.kind e.iri) (λ e h. elim h [ inl d ↦ inl (more e.kind e.iri d) | inr b ↦ inr b ]) es typed
