-- What is declared by one triple more.
use Rattle.std.proofs.Common.{◌≡◌, ◌<◌, ◌+◌, OnErr, Result, Ok, Err, get_or, inl, inr, ◌⊎◌, ℕ, List, [], ◌∷◌, ◌++◌, Option, None, Some, drop, length, sym, ap, ◌∙◌, subst, take}
use Rattle.std.specs.Prelude.{◌↔◌, Contains}
use Rattle.std.specs.List.{cons_option}
use Rattle.std.proofs.lemmas.List.Elements.{Contains-append_cases, Contains-append_left, Contains-append_right, filter_map-append}
use Rattle.std.proofs.lemmas.List.{take-append-drop, take_more}
use Rattle.std.proofs.lemmas.Option.{none-some, same_Some}
use Rattle.owl_kind.specs.declared.kind.Kind.{Kind}
use Rattle.owl_kind.specs.Kinds.{Entity, IsDeclared}
use Rattle.owl_doc.specs.Entities.{AddsAll, AddsSome}
use Rattle.owl_list.proofs.AscendingLaws.{in_cases, in_head, in_none}
use Rattle.rdf_graph.specs.declared.triple.Triple.{Triple}
use Rattle.rdf_scans.specs.Outlines.{declaration, declarations}

abbrev entity : Kind → List ℕ → Entity
entity kind iri = record { kind = kind; iri = iri }

-- one entity
pub adds_one : (old new : List Entity) (o : Option Entity) (kind : Kind) (named copy : List ℕ) → Some (entity kind named) ≡ o → copy ≡ named → ((k : Kind) (i : List ℕ) → IsDeclared new k i ↔ (IsDeclared old k i ⊎ ((k ≡ kind) × (i ≡ copy)))) → AddsAll old (cons_option o []) new
adds_one old new None kind named copy s f h k i = absurd (none-some (entity kind named) (sym s))
adds_one old new (Some d) kind named copy s f h k i =
    let same : entity kind copy ≡ d = ap (entity kind) f ∙ same_Some (entity kind named) d s in (
      λ n.
          elim ((h k i).0 n) [
            | inl m ↦ inl m
            | inr p ↦ inr (subst (λ (x : Entity). Contains (d ∷ []) x) (sym same ∙ (λ j. entity (sym p.0 j) (sym p.1 j))) (in_head d []))
          ],
      λ n.
          (h k i).1
          (elim n [
            | inl m ↦ inl m
            | inr m ↦ elim (in_cases d [] (entity k i) m) [
              | inl p ↦ inr (ap (λ (x : Entity). x.kind) (sym (same ∙ p)), ap (λ (x : Entity). x.iri) (sym (same ∙ p)))
              | inr o ↦ absurd (in_none (entity k i) o)
            ]
          ]),
    )

-- some entities and more
adds_both : (a es b fs c : List Entity) → AddsAll a es b → AddsAll b fs c → AddsAll a (es ++ fs) c
adds_both a es b fs c h k kind iri =
    let first = h kind iri in
    let second = k kind iri in
    let e = entity kind iri in (
      (λ n.
          elim (second.0 n) [
            | inl m ↦ elim (first.0 m) [ inl o ↦ inl o | inr o ↦ inr (Contains-append_left es fs e o) ]
            | inr m ↦ inr (Contains-append_right es fs e m)
          ]),
      (λ n.
          elim n [
            | inl m ↦ second.1 (inl (first.1 (inl m)))
            | inr m ↦ elim (Contains-append_cases es fs e m) [ inl o ↦ second.1 (inl (first.1 (inr o))) | inr o ↦ second.1 (inr o) ]
          ]),
    )

adds_some : (a es b fs : List Entity) → AddsAll a es b → AddsSome a (es ++ fs) b
adds_some a es b fs h = record {
  kept = λ kind iri m. (h kind iri).1 (inl m);
  only = λ kind iri n. elim ((h kind iri).0 n) [ inl m ↦ inl m | inr m ↦ inr (Contains-append_left es fs (entity kind iri) m) ];
}

module _ (ts : List Triple) (index : ℕ) (old kinds : List Entity) where
  abbrev pub HasDeclared : Type 0
  HasDeclared = AddsAll old (declarations (take index ts)) kinds

  pub more_declared : HasDeclared → AddsSome old (declarations ts) kinds
  more_declared h =
      let all = sym (filter_map-append declaration (take index ts) (drop index ts)) ∙ ap declarations (take-append-drop index ts) in
      subst (λ (es : List Entity). AddsSome old es kinds) all (adds_some old (declarations (take index ts)) kinds (declarations (drop index ts)) h)

pub one_more_declared : (ts : List Triple) (index : ℕ) (t : Triple) (old kinds new : List Entity) → index < length ts → t ≡ get_or ts index t → HasDeclared ts index old kinds → AddsAll kinds (declarations (t ∷ [])) new → HasDeclared ts (index + 1) old new
one_more_declared ts index t old kinds new within is first next =
    let more : take (index + 1) ts ≡ take index ts ++ t ∷ [] = take_more ts index t within ∙ ap (λ u. take index ts ++ u ∷ []) (sym is) in
    subst (λ (es : List Entity). AddsAll old es new) (sym (ap declarations more ∙ filter_map-append declaration (take index ts) (t ∷ [])))
    (adds_both old (declarations (take index ts)) kinds (declarations (t ∷ [])) new first next)

pub on_err : {X E : Type 0} (P : Type 0) (r : Result X E) → P → OnErr r P
on_err P (Ok x) p = tt
on_err P (Err e) p = p
