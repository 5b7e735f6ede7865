-- What is found, as a list and as kinds.
use Rattle.std.proofs.Common.{◌≡◌, ◌⊎◌, inl, inr, ℕ, List, [], ◌∷◌, ◌++◌, map, sym, ap, ◌∙◌, subst}
use Rattle.std.specs.Prelude.{◌↔◌, Contains}
use Rattle.std.proofs.lemmas.List.{map-append}
use Rattle.std.proofs.lemmas.List.Elements.{Contains-append_cases, Contains-append_left, Contains-append_right}
use Rattle.owl_kind.specs.declared.kind.Kind.{Kind}
use Rattle.owl_kind.specs.Kinds.{Entity, IsDeclared}
use Rattle.owl_kind.proofs.Found.{only}
use Rattle.owl_list.specs.Ascending.{HoldSame}
use Rattle.owl_list.proofs.AscendingLaws.{in_head, in_none}
use Rattle.owl_declare.specs.Needed.{entity_of}
use Rattle.owl_declare.specs.declared.need.Need.{Need}

abbrev pub entity : Kind → List ℕ → Entity
entity kind iri = record { kind = kind; iri = iri }

pub nothing : (needs : List Need) (met : List Entity) → needs ≡ [] → ((kind : Kind) (iri : List ℕ) → IsDeclared met kind iri → ⊥) → HoldSame (map entity_of needs) met
nothing needs met e none x =
    (λ h. absurd (in_none x (subst (λ (ns : List Need). Contains (map entity_of ns) x) e h)), λ h. absurd (none x.kind x.iri h))

pub kept : (old new : List Need) (met later : List Entity) → new ≡ old → later ≡ met → HoldSame (map entity_of old) met → HoldSame (map entity_of new) later
kept old new met later e f h =
    subst (λ (ns : List Need). HoldSame (map entity_of ns) later) (sym e) (subst (λ (es : List Entity). HoldSame (map entity_of old) es) (sym f) h)

-- what is declared besides
pub one_declared : (met later : List Entity) (kind : Kind) (iri copy : List ℕ) → copy ≡ iri →
    ((k : Kind) (i : List ℕ) → IsDeclared later k i ↔ (IsDeclared met k i ⊎ ((k ≡ kind) × (i ≡ copy)))) →
    (e : Entity) → Contains later e ↔ (Contains met e ⊎ (e ≡ entity kind iri))
one_declared met later kind iri copy same h e = (
  λ n. elim ((h e.kind e.iri).0 n) [ inl m ↦ inl m | inr p ↦ inr (λ j. entity (p.0 j) ((p.1 ∙ same) j)) ],
  λ n. (h e.kind e.iri).1 (elim n [ inl m ↦ inl m | inr p ↦ inr (ap (λ (x : Entity). x.kind) p, ap (λ (x : Entity). x.iri) p ∙ sym same) ]),
)

pub one_more : (old new : List Need) (met later : List Entity) (need : Need) → new ≡ old ++ need ∷ [] →
    ((e : Entity) → Contains later e ↔ (Contains met e ⊎ (e ≡ entity_of need))) → HoldSame (map entity_of old) met → HoldSame (map entity_of new) later
one_more old new met later need e more h x =
    let all : map entity_of new ≡ map entity_of old ++ entity_of need ∷ [] = ap (map entity_of) e ∙ map-append entity_of old (need ∷ []) in (
      (λ n.
          (more x).1
          (elim (Contains-append_cases (map entity_of old) (entity_of need ∷ []) x (subst (λ (es : List Entity). Contains es x) all n)) [
            | inl m ↦ inl ((h x).0 m)
            | inr m ↦ inr (sym (only (entity_of need) x m))
          ])),
      (λ n.
          subst (λ (es : List Entity). Contains es x) (sym all)
          (elim ((more x).0 n) [
            | inl m ↦ Contains-append_left (map entity_of old) (entity_of need ∷ []) x ((h x).1 m)
            | inr p ↦ Contains-append_right (map entity_of old) (entity_of need ∷ []) x (subst (λ (y : Entity). Contains (entity_of need ∷ []) y) (sym p) (in_head (entity_of need) []))
          ])),
    )
