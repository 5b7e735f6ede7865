-- What the documents at some places declare.
use Rattle.std.proofs.Common.{◌≡◌, ◌<◌, ◌+◌, inl, inr, ℕ, List, [], ◌∷◌, ◌++◌, None, Some, length, take, get_or, slice_get, refl, ap, sym, ◌∙◌, subst}
use Rattle.std.specs.Prelude.{◌↔◌, ◌⊎◌}
use Rattle.std.proofs.lemmas.List.{map-append, take_more}
use Rattle.std.proofs.lemmas.List.Elements.{Contains-append_cases, Contains-append_left, Contains-append_right}
use Rattle.std.proofs.lemmas.Option.{same_Some}
use Rattle.owl_kind.specs.declared.kind.Kind.{Kind}
use Rattle.owl_kind.specs.Kinds.{Entity, IsDeclared}
use Rattle.owl_kind.specs.Order.{AreOrdered}
use Rattle.owl_list.proofs.AscendingLaws.{in_cases, in_head, in_none}
use Rattle.owl_doc.specs.Entities.{AddsAll}
use Rattle.owl_documents.specs.Documents.{DeclaresAs, GraphRead, Parsed, a_graph, guessed_entities}
use Rattle.owl_kind.specs.declared.kind.Kind.TheVariants.{AnnotationProperty}
use Rattle.rdf_scans.proofs.Declaring.{adds_one}
use Rattle.rdf_scans.specs.Outlines.{declarations}
use Rattle.owl_close.specs.Imports.{AreReached}
use Rattle.owl_answer.specs.KindsAt.{AddsAt, AddsOf, AreClosureKinds, AreDeclaredAt, AreOwnKinds, DeclaresAt}
use Rattle.owl_answer.specs.Outcome.{heads_in}

-- nothing is declared yet
abbrev pub IsNothing : List Entity → Type 0
IsNothing kinds = (kind : Kind) (iri : List ℕ) → IsDeclared kinds kind iri → ⊥

pub own_from : (parsed : Parsed) (old new : List Entity) → IsNothing old → AddsOf parsed old new → AreOrdered new → AreOwnKinds parsed new
own_from parsed old new none adds ordered = record {
  declared = λ kind iri. (
    λ h. elim ((adds kind iri).0 h) [ inl k ↦ absurd (none kind iri k) | inr k ↦ k ],
    λ d. (adds kind iri).1 (inr d),
  );
  ordered = ordered;
}

-- what a graph declares, and what is guessed of it
adds_both : (a es b fs c : List Entity) → AddsAll a es b → AddsAll b fs c → AddsAll a (es ++ fs) c
adds_both a es b fs c h k kind iri =
    let e : Entity = record { kind = kind; iri = iri } in (
      (λ m.
          elim ((k kind iri).0 m) [
            | inl n ↦ elim ((h kind iri).0 n) [ inl o ↦ inl o | inr o ↦ inr (Contains-append_left es fs e o) ]
            | inr n ↦ inr (Contains-append_right es fs e n)
          ]),
      (λ s.
          elim s [
            | inl n ↦ (k kind iri).1 (inl ((h kind iri).1 (inl n)))
            | inr n ↦ elim (Contains-append_cases es fs e n) [ inl o ↦ (k kind iri).1 (inl ((h kind iri).1 (inr o))) | inr o ↦ (k kind iri).1 (inr o) ]
          ]),
    )

pub guesses_added : (read : GraphRead) (old between new : List Entity) → AddsAll old (declarations read.triples) between →
    AddsAll between (guessed_entities read.guessed) new → AddsOf (a_graph read) old new
guesses_added read old between new h k = adds_both old (declarations read.triples) between (guessed_entities read.guessed) new h k

pub no_guesses : (kinds : List Entity) → AddsAll kinds [] kinds
no_guesses kinds kind iri = (λ h. inl h, λ s. elim s [ inl h ↦ h | inr n ↦ absurd (in_none (record { kind = kind; iri = iri }) n) ])

-- one more of them
pub one_more_guess : (names : List (List ℕ)) (index : ℕ) (iri copy : List ℕ) (old kinds new : List Entity) → AddsAll old (guessed_entities (take index names)) kinds →
    index < length names → iri ≡ get_or names index iri → copy ≡ iri →
    ((k : Kind) (i : List ℕ) → IsDeclared new k i ↔ (IsDeclared kinds k i ⊎ ((k ≡ AnnotationProperty) × (i ≡ copy)))) →
    AddsAll old (guessed_entities (take (index + 1) names)) new
one_more_guess names index iri copy old kinds new h l e same adds =
    let more : take (index + 1) names ≡ take index names ++ iri ∷ [] = take_more names index iri l ∙ ap (λ (y : List ℕ). take index names ++ y ∷ []) (sym e) in
    let entities : guessed_entities (take (index + 1) names) ≡ guessed_entities (take index names) ++ guessed_entities (iri ∷ []) =
    ap guessed_entities more ∙ map-append _ (take index names) (iri ∷ []) in
    let one = adds_one kinds new (Some (record { kind = AnnotationProperty; iri = iri })) AnnotationProperty iri copy refl same adds in
    subst (λ (es : List Entity). AddsAll old es new) (sym entities) (adds_both old (guessed_entities (take index names)) kinds (guessed_entities (iri ∷ [])) new h one)

module _ (documents : List Parsed) where
  pub none_yet : (kinds : List Entity) → IsNothing kinds → AreDeclaredAt documents [] kinds
  none_yet kinds none kind iri = (λ h. absurd (none kind iri h), λ d. absurd (in_none d.place d.among))

  joined : (places : List ℕ) (place : ℕ) (old new : List Entity) → AreDeclaredAt documents places old → AddsAt documents place old new → AreDeclaredAt documents (places ++ place ∷ []) new
  joined places place old new known adds kind iri = (
    (λ h.
        elim ((adds kind iri).0 h) [
          | inl k ↦ let d = (known kind iri).0 k in record { place = d.place; among = Contains-append_left places (place ∷ []) d.place d.among; at = d.at }
          | inr k ↦ record { place = place; among = Contains-append_right places (place ∷ []) place (in_head place []); at = k }
        ]),
    (λ d.
        (adds kind iri).1
        (elim (Contains-append_cases places (place ∷ []) d.place d.among) [
          | inl m ↦ inl ((known kind iri).1 (record { place = d.place; among = m; at = d.at }))
          | inr m ↦ elim (in_cases place [] d.place m) [ inl e ↦ inr (subst (λ (p : ℕ). DeclaresAt documents p kind iri) (sym e) d.at) | inr n ↦ absurd (in_none d.place n) ]
        ])),
  )

  -- the next place
  pub next_place : (places : List ℕ) (index : ℕ) (old new : List Entity) → index < length places → AreDeclaredAt documents (take index places) old → AddsAt documents (get_or places index 0) old new → AreDeclaredAt documents (take (index + 1) places) new
  next_place places index old new l known adds =
      subst (λ (ps : List ℕ). AreDeclaredAt documents ps new) (sym (take_more places index 0 l)) (joined (take index places) (get_or places index 0) old new known adds)

  -- what stands at a place
  pub adds_found : (place : ℕ) (parsed : Parsed) (old new : List Entity) → slice_get documents place ≡ Some parsed → AddsOf parsed old new → AddsAt documents place old new
  adds_found place parsed old new there adds kind iri = (
    (λ h. elim ((adds kind iri).0 h) [ inl k ↦ inl k | inr k ↦ inr (record { parsed = parsed; there = there; declares = k }) ]),
    (λ s. (adds kind iri).1 (elim s [ inl k ↦ inl k | inr d ↦ inr (subst (λ (p : Parsed). DeclaresAs p kind iri) (same_Some d.parsed parsed (sym d.there ∙ there)) d.declares) ])),
  )

  pub adds_none : (place : ℕ) (kinds : List Entity) → slice_get documents place ≡ None → AddsAt documents place kinds kinds
  adds_none place kinds there kind iri =
      (λ h. inl h, λ s. elim s [ inl k ↦ k | inr d ↦ absurd (none_some d.parsed (sym there ∙ d.there)) ])
    where
      none_some : (parsed : Parsed) → None ≡ Some parsed → ⊥
      none_some parsed e = cc

  -- the places are those that the main document reaches
  pub closure_at : (places : List ℕ) (kinds : List Entity) → AreReached (heads_in documents) places → AreDeclaredAt documents places kinds → AreOrdered kinds → AreClosureKinds documents kinds
  closure_at places kinds r known ordered = record {
    declared = λ kind iri. (
      λ h. let d = (known kind iri).0 h in record { place = d.place; reached = (r.reached d.place).0 d.among; at = d.at },
      λ d. (known kind iri).1 (record { place = d.place; among = (r.reached d.place).1 d.reached; at = d.at }),
    );
    ordered = ordered;
  }
