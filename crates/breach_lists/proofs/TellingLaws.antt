-- What is told of rules is told of them as rules of another kind.
use Rattle.std.proofs.Common.{◌≡◌, ◌++◌, ℕ, suc, List, [], ◌∷◌, map, refl, ◌∙◌}
use Rattle.std.specs.Prelude.{◌↔◌}
use Rattle.std.specs.List.{AllZip}
use Rattle.std.proofs.lemmas.List.{map-append}
use Rattle.std.proofs.lemmas.Simd.{map-map}
use Rattle.owl_breaches.specs.Sites.{Site, site, sites, sites_from}
use Rattle.owl_breaches.specs.Those.{AreThose, none, passed, taken}
use Rattle.owl_doc.specs.declared.item.Breach.{Breach}
use Rattle.owl_doc.specs.declared.rule.Rule.{Rule as Name}
use Rattle.owl_doc.specs.Documents.{Document}
use Rattle.owl_doc.specs.Parts.{parts_of}
use Rattle.owl_tree.specs.Ontologies.{Ontology}
use Rattle.breach_lists.specs.Telling.{Tells}

module _ {Rule Other : Type 0} (into : Rule → Other) where
  abbrev pub site_as : Site Rule → Site Other
  site_as s = site (into s.rule) s.place s.ontology s.part

  sites_from_as : (rule : Rule) (place : ℕ) (os : List Ontology) → map site_as (sites_from rule place os) ≡ sites_from (into rule) place os
  sites_from_as rule place [] = refl
  sites_from_as rule place (o ∷ os) =
      map-append site_as (map (site rule place o) (parts_of o)) (sites_from rule (suc place) os)
      ∙ (λ i. map-map site_as (site rule place o) (parts_of o) i ++ sites_from_as rule (suc place) os i)

  pub sites_as : (rules : List Rule) (os : List Ontology) → map site_as (sites rules os) ≡ sites (map into rules) os
  sites_as [] os = refl
  sites_as (rule ∷ rules) os =
      map-append site_as (sites_from rule 0 os) (sites rules os)
      ∙ (λ i. sites_from_as rule 0 os i ++ sites_as rules os i)

  pub those_as : (Holds : Site Rule → Type 0) (HoldsSo : Site Other → Type 0) → ((s : Site Rule) → Holds s ↔ HoldsSo (site_as s)) → (xs ys : List (Site Rule)) →
      AreThose Holds xs ys → AreThose HoldsSo (map site_as xs) (map site_as ys)
  those_as Holds HoldsSo same xs ys none = none
  those_as Holds HoldsSo same xs ys (taken x xs' ys' h those) = taken (site_as x) (map site_as xs') (map site_as ys') ((same x).0 h) (those_as Holds HoldsSo same xs' ys' those)
  those_as Holds HoldsSo same xs ys (passed x xs' _ h those) = passed (site_as x) (map site_as xs') (map site_as ys) (λ so. h ((same x).1 so)) (those_as Holds HoldsSo same xs' ys those)

  pub tells_as : (name : Other → Name) (docs : List Document) (ss : List (Site Rule)) (bs : List Breach) → AllZip (Tells (λ rule. name (into rule)) docs) ss bs → AllZip (Tells name docs) (map site_as ss) bs
  tells_as name docs [] [] h = tt
  tells_as name docs [] (b ∷ bs) h = absurd h
  tells_as name docs (s ∷ ss) [] h = absurd h
  tells_as name docs (s ∷ ss) (b ∷ bs) h = (
    record { rule = h.0.rule; document = h.0.document; there = h.0.there; is = h.0.is; held = h.0.held; part = h.0.part },
    tells_as name docs ss bs h.1,
  )
