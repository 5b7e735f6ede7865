-- Whether a node gives a head is decided, so a header that isn't bad has one.
use Rattle.std.specs.Prelude.{◌≡◌, false, ℕ, List, [], ◌∷◌, map, Option, None, Some}
use Rattle.std.proofs.Common.{inl, inr, refl, sym, ap, ◌∙◌, subst}
use Rattle.std.proofs.lemmas.Bool.{both_ways}
use Rattle.owl_tree.specs.Ontologies.{Head}
use Rattle.rdf_graph.specs.declared.term.Term.{Term}
use Rattle.rdf_graph.specs.declared.term.Term.TheVariants.{Iri, Blank, Literal}
use Rattle.rdf_graph.specs.declared.triple.Triple.{Triple}
use Rattle.rdf_meaning.proofs.ListLaws.{nothing_else, same_front}
use Rattle.rdf_meaning.specs.declared.word.Word.TheVariants as word
use Rattle.rdf_meaning.specs.Nodes.{chosen, is_iri}
use Rattle.rdf_meaning.proofs.NodeLaws.{same_iri_term}
use Rattle.rdf_meaning.specs.Statements.{IsHeadOf, unnamed, named, only}
use Rattle.rdf_faults.specs.DecidedLaws.{Decided, decided_both, decided_by}

-- all terms are IRIs
pub record AreIris (xs : List Term) : Type 0 where
  pub iris : List (List ℕ)
  pub are : xs ≡ map Iri iris

no_other : (x : Term) (xs : List Term) (iris : List (List ℕ)) → is_iri x ≡ false → x ∷ xs ≡ map Iri iris → ⊥
no_other x xs [] other e = nothing_else x xs (sym e)
no_other x xs (iri ∷ iris) other e = both_ways (is_iri x) other (ap is_iri (same_front x (Iri iri) xs (map Iri iris) e).0)

others_iris : (iri : List ℕ) (xs : List Term) (iris : List (List ℕ)) → Iri iri ∷ xs ≡ map Iri iris → AreIris xs
others_iris iri xs [] e = absurd (nothing_else (Iri iri) xs (sym e))
others_iris iri xs (i ∷ iris) e = record { iris = iris; are = (same_front (Iri iri) (Iri i) xs (map Iri iris) e).1 }

decided_iris : (xs : List Term) → Decided (AreIris xs)
decided_iris [] = inl (record { iris = []; are = refl })
decided_iris (Iri iri ∷ xs) =
    decided_by
    (λ a. record { iris = iri ∷ a.iris; are = ap (λ ys. Iri iri ∷ ys) a.are })
    (λ a. others_iris iri xs a.iris a.are)
    (decided_iris xs)
decided_iris (Blank label ∷ xs) = inr (λ a. no_other (Blank label) xs a.iris refl a.are)
decided_iris (Literal literal ∷ xs) = inr (λ a. no_other (Literal literal) xs a.iris refl a.are)

decided_none : (xs : List Term) → Decided (xs ≡ [])
decided_none [] = inl refl
decided_none (x ∷ xs) = inr (λ e. nothing_else x xs (sym e))

-- at most one version
record HasOnly (xs : List (List ℕ)) : Type 0 where
  pub version : Option (List ℕ)
  pub is : only xs version

decided_version : (xs : List (List ℕ)) → Decided (HasOnly xs)
decided_version [] = inl (record { version = None; is = tt })
decided_version (a ∷ []) = inl (record { version = Some a; is = refl })
decided_version (a ∷ b ∷ xs) = inr (λ o. o.is)

-- versions that are IRIs, and one at most
record HasVersion (xs : List Term) : Type 0 where
  pub versions : List (List ℕ)
  pub are : xs ≡ map Iri versions
  pub version : Option (List ℕ)
  pub is : only versions version

same_iris : (xs ys : List (List ℕ)) → map Iri xs ≡ map Iri ys → xs ≡ ys
same_iris [] [] e = refl
same_iris [] (y ∷ ys) e = cc
same_iris (x ∷ xs) [] e = cc
same_iris (x ∷ xs) (y ∷ ys) e =
    let parts = same_front (Iri x) (Iri y) (map Iri xs) (map Iri ys) e in
    let first = same_iri_term x y parts.0 in
    let rest = same_iris xs ys parts.1 in
    λ i. first i ∷ rest i

decided_has_version : (xs : List Term) → Decided (HasVersion xs)
decided_has_version xs =
    elim (decided_iris xs) [
      | inr n ↦ inr (λ v. n (record { iris = v.versions; are = v.are }))
      | inl a ↦
          decided_by
          (λ o. record { versions = a.iris; are = a.are; version = o.version; is = o.is })
          (λ v. record { version = v.version; is = subst (λ ys. only ys v.version) (same_iris v.versions a.iris (sym v.are ∙ a.are)) v.is })
          (decided_version a.iris)
    ]

-- a literal gives none
abbrev may_head : Term → Type 0
may_head (Iri iri) = Unit {0}
may_head (Blank label) = Unit {0}
may_head (Literal literal) = ⊥

pub record HasHead (g : List Triple) (x : Term) : Type 0 where
  pub head : Head
  pub is : IsHeadOf g x head

module _ (g : List Triple) where
  abbrev Unnamed : List ℕ → Type 0
  Unnamed label = (chosen g (Blank label) word.VersionIri ≡ []) × AreIris (chosen g (Blank label) word.Imports)

  abbrev Named : List ℕ → Type 0
  Named iri = HasVersion (chosen g (Iri iri) word.VersionIri) × AreIris (chosen g (Iri iri) word.Imports)

  unnamed_by : (label : List ℕ) → Unnamed label → HasHead g (Blank label)
  unnamed_by label u =
      record { head = record { name = None; imports = u.1.iris }; is = unnamed label u.1.iris u.0 u.1.are }

  unnamed_is : (label : List ℕ) (h : Head) → IsHeadOf g (Blank label) h → Unnamed label
  unnamed_is label _ (unnamed _ imports v e) = (v, record { iris = imports; are = e })

  named_by : (iri : List ℕ) → Named iri → HasHead g (Iri iri)
  named_by iri n =
      record {
        head = record { name = Some (record { iri = iri; version = n.0.version }); imports = n.1.iris };
        is = named iri n.0.version n.1.iris n.0.versions n.0.are n.0.is n.1.are;
      }

  named_is : (iri : List ℕ) (h : Head) → IsHeadOf g (Iri iri) h → Named iri
  named_is iri _ (named _ version imports versions e o f) =
      (record { versions = versions; are = e; version = version; is = o }, record { iris = imports; are = f })

  no_name : (x : Term) (h : Head) → IsHeadOf g x h → may_head x
  no_name _ _ (unnamed label imports v e) = tt
  no_name _ _ (named iri version imports versions e o f) = tt

  pub decided_head : (x : Term) → Decided (HasHead g x)
  decided_head (Iri iri) =
      decided_by (named_by iri) (λ h. named_is iri h.head h.is)
      (decided_both (decided_has_version (chosen g (Iri iri) word.VersionIri)) (decided_iris (chosen g (Iri iri) word.Imports)))
  decided_head (Blank label) =
      decided_by (unnamed_by label) (λ h. unnamed_is label h.head h.is)
      (decided_both (decided_none (chosen g (Blank label) word.VersionIri)) (decided_iris (chosen g (Blank label) word.Imports)))
  decided_head (Literal literal) = inr (λ h. no_name (Literal literal) h.head h.is)
