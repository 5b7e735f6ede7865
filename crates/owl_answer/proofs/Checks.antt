-- What a check tells is one, and the same of documents that are read as the same.
use Rattle.std.proofs.Common.{◌≡◌, ◌<◌, inl, inr, ℕ, Some, List, [], ◌∷◌, slice_get, length, refl, sym, ◌∙◌, subst, arith}
use Rattle.std.proofs.lemmas.List.{length-map}
use Rattle.std.proofs.lemmas.Option.{same_Some, slice_get_cases}
use Rattle.std.specs.List.{AllByRecursion, AllZip}
use Rattle.std.specs.Prelude.{Contains}
use Rattle.owl_breaches.specs.Sites.{Ontologies, Site, sites}
use Rattle.owl_breaches.proofs.ThoseLaws.{those_once}
use Rattle.owl_close.specs.Imports.{AreReached, Reaches}
use Rattle.owl_close.proofs.ImportsLaws.{reached_once}
use Rattle.owl_close.proofs.ReachingLaws.{reached_within}
use Rattle.owl_command.specs.declared.command.Profile.{Profile}
use Rattle.owl_documents.specs.Documents.{Parsed, head_in}
use Rattle.owl_kind.specs.Kinds.{Entity}
use Rattle.owl_list.proofs.AscendingLaws.{all_from, in_cases}
use Rattle.owl_messages.specs.Outcome.{Outcome}
use Rattle.owl_messages.specs.Verdicts.{verdict}
use Rattle.owl_tree.specs.Ontologies.{Ontology, canonical_ontology}
use Rattle.owl_tree.proofs.OntologyLaws.{canonical_ontology_again}
use Rattle.owl_profiles.specs.Profiles.{Breaks, ProfileRule}
use Rattle.owl_answer.specs.Checks.{AreBreaches, HasFormAt, IsChecked, IsImportClosure, rules_of}
use Rattle.owl_answer.specs.KindsAt.{AreClosureKinds}
use Rattle.owl_answer.specs.Outcome.{heads_in}
use Rattle.owl_answer.specs.UnderKinds.{SaysUnder}
use Rattle.owl_answer.proofs.Closures.{StandsAlike, closure_once}
use Rattle.owl_answer.proofs.Same.{says_once, says_same}
use Rattle.owl_answer.proofs.TurtleOnce.{same_form}
use Rattle.owl_answer.proofs.Wanting.{limited_once}

-- what stands at a place of documents
module _ (documents : List Parsed) (kinds : List Entity) where
  form_once : (place : ℕ) (o p : Ontology) → HasFormAt documents kinds place o → HasFormAt documents kinds place p → o ≡ p
  form_once place o p h k =
      let one : h.parsed ≡ k.parsed = same_Some h.parsed k.parsed (sym h.there ∙ k.there) in
      let says : SaysUnder kinds k.parsed h.said = subst (λ (x : Parsed). SaysUnder kinds x h.said) one h.says in
      sym h.form ∙ same_form h.said k.said (says_once kinds k.parsed h.said k.said says k.says) ∙ k.form

  forms_once : (places : List ℕ) (os ps : List Ontology) → AllZip (HasFormAt documents kinds) places os → AllZip (HasFormAt documents kinds) places ps → os ≡ ps
  forms_once [] [] [] h k = refl
  forms_once [] [] (p ∷ ps) h k = absurd k
  forms_once [] (o ∷ os) ps h k = absurd h
  forms_once (place ∷ places) [] ps h k = absurd h
  forms_once (place ∷ places) (o ∷ os) [] h k = absurd k
  forms_once (place ∷ places) (o ∷ os) (p ∷ ps) h k =
      λ i. form_once place o p h.0 k.0 i ∷ forms_once places os ps h.1 k.1 i

  -- what documents say stands in canonical form
  pub forms_canonical : (places : List ℕ) (os : List Ontology) → AllZip (HasFormAt documents kinds) places os → (o : Ontology) → Contains os o → canonical_ontology o ≡ o
  forms_canonical [] [] h o m = let l = m.1 in absurd (omega (arith, l))
  forms_canonical [] (p ∷ ps) h o m = absurd h
  forms_canonical (place ∷ places) [] h o m = absurd h
  forms_canonical (place ∷ places) (p ∷ ps) h o m =
      elim (in_cases p ps o m) as (λ _. canonical_ontology o ≡ o) [
        | inl is ↦ subst (λ (q : Ontology). canonical_ontology q ≡ q) (h.0.form ∙ is) (canonical_ontology_again h.0.said.ontology)
        | inr n ↦ forms_canonical places ps h.1 o n
      ]

  -- a document stands at each of the places
  pub form_at : (places : List ℕ) (os : List Ontology) → AllZip (HasFormAt documents kinds) places os → (place : ℕ) → Contains places place → (o : Ontology) × HasFormAt documents kinds place o
  form_at [] os h place m = let l = m.1 in absurd (omega (arith, l))
  form_at (p ∷ ps) [] h place m = absurd h
  form_at (p ∷ ps) (o ∷ os) h place m =
      elim (in_cases p ps place m) as (λ _. (o : Ontology) × HasFormAt documents kinds place o) [
        | inl is ↦ (o, subst (λ (q : ℕ). HasFormAt documents kinds q o) is h.0)
        | inr n ↦ form_at ps os h.1 place n
      ]

closure_is : (c d : Ontologies) → c.all ≡ d.all → c.kinds ≡ d.kinds → c ≡ d
closure_is c d e f = λ i. record { all = e i; kinds = f i }

-- the closure of documents is one
closures_once : (documents : List Parsed) (places others : List ℕ) (c d : Ontologies) → IsImportClosure documents places c → IsImportClosure documents others d → (places ≡ others) × (c ≡ d)
closures_once documents places others c d h k =
    let same : places ≡ others = reached_once (heads_in documents) places others h.reached k.reached in
    let kinds : c.kinds ≡ d.kinds = closure_once documents c.kinds d.kinds h.declared k.declared in
    let say : AllZip (HasFormAt documents d.kinds) others c.all =
    subst (λ (ps : List ℕ). AllZip (HasFormAt documents d.kinds) ps c.all) same
    (subst (λ (ks : List Entity). AllZip (HasFormAt documents ks) places c.all) kinds h.say) in
    (same, closure_is c d (forms_once documents d.kinds others c.all d.all say k.say) kinds)

verdict_is : (profile : Profile) (places others : List ℕ) (found theirs : List (Site ProfileRule)) → places ≡ others → found ≡ theirs → verdict profile places found ≡ verdict profile others theirs
verdict_is profile places others found theirs e f = λ i. verdict profile (e i) (f i)

pub checked_once : (profile : Profile) (documents : List Parsed) (a b : Outcome) → IsChecked profile documents a → IsChecked profile documents b → a ≡ b
checked_once profile documents a b h k =
    let one = closures_once documents h.places k.places h.closure k.closure h.is k.is in
    let are : AreBreaches profile k.closure h.breaches = subst (λ (c : Ontologies). AreBreaches profile c h.breaches) one.1 h.are in
    let found : h.breaches ≡ k.breaches = those_once (λ (s : Site ProfileRule). Breaks k.closure s.rule s.ontology s.part) (sites (rules_of profile) k.closure.all) h.breaches k.breaches are k.are in
    let same = verdict_is profile h.places k.places h.breaches k.breaches one.0 found in
    limited_once (λ o. o ≡ verdict profile h.places h.breaches) (λ o. o ≡ verdict profile k.places k.breaches) (λ x y e f. e ∙ same ∙ sym f) a b h.told k.told

-- Documents of which those that are reached are read as the same.
pub record ReachAlike (ds es : List Parsed) (kinds : List Entity) : Type 0 where
  pub declared : AreClosureKinds es kinds
  pub there : (place : ℕ) → Reaches (heads_in ds) place → Reaches (heads_in es) place
  pub back : (place : ℕ) → Reaches (heads_in es) place → Reaches (heads_in ds) place
  pub found : (place : ℕ) (p : Parsed) → Reaches (heads_in ds) place → slice_get ds place ≡ Some p → StandsAlike es place p

module _ (ds es : List Parsed) (kinds : List Entity) (alike : ReachAlike ds es kinds) where
  form_there : (place : ℕ) (o : Ontology) → Reaches (heads_in ds) place → HasFormAt ds kinds place o → HasFormAt es kinds place o
  form_there place o r h =
      let found = alike.found place h.parsed r h.there in
      let own = says_same kinds h.parsed found.other found.same h.said h.says in
      record { parsed = found.other; there = found.there; said = own.other; says = own.says; form = sym (same_form h.said own.other own.same) ∙ h.form }

  forms_there : (places : List ℕ) (os : List Ontology) → AllByRecursion (Reaches (heads_in ds)) places → AllZip (HasFormAt ds kinds) places os → AllZip (HasFormAt es kinds) places os
  forms_there [] [] r h = tt
  forms_there [] (o ∷ os) r h = absurd h
  forms_there (place ∷ places) [] r h = absurd h
  forms_there (place ∷ places) (o ∷ os) r h = (form_there place o r.0 h.0, forms_there places os r.1 h.1)

  reached_there : (places : List ℕ) → AreReached (heads_in ds) places → AreReached (heads_in es) places
  reached_there places r = record {
    ascending = r.ascending;
    reached = λ place. (λ m. alike.there place ((r.reached place).0 m), λ h. (r.reached place).1 (alike.back place h));
  }

closure_there : (ds es : List Parsed) (places : List ℕ) (c : Ontologies) → ReachAlike ds es c.kinds → IsImportClosure ds places c → IsImportClosure es places c
closure_there ds es places c alike h = record {
  reached = reached_there ds es c.kinds alike places h.reached;
  declared = alike.declared;
  say = forms_there ds es c.kinds alike places c.all (all_from (Reaches (heads_in ds)) places (λ place m. (h.reached.reached place).0 m)) h.say;
}

pub checked_there : (profile : Profile) (ds es : List Parsed) (outcome : Outcome) → (h : IsChecked profile ds outcome) → ReachAlike ds es h.closure.kinds → IsChecked profile es outcome
checked_there profile ds es outcome h alike = record {
  places = h.places;
  closure = h.closure;
  is = closure_there ds es h.places h.closure alike h.is;
  breaches = h.breaches;
  are = h.are;
  told = h.told;
}

-- a document stands at each place that is reached
pub reached_stands : (documents : List Parsed) → 0 < length documents → (place : ℕ) → Reaches (heads_in documents) place → (p : Parsed) × (slice_get documents place ≡ Some p)
reached_stands documents some place r =
    let many : length (heads_in documents) ≡ length documents = length-map documents head_in in
    let within = reached_within (heads_in documents) place (omega (arith, some, many)) r in
    elim (slice_get_cases documents place).1 as (λ _. (p : Parsed) × (slice_get documents place ≡ Some p)) [
      | inl h ↦ (h.0, h.2)
      | inr past ↦ let beyond = past.0 in absurd (omega (arith, within, beyond, many))
    ]
