-- Laws of the places in which a rule may be broken.
use Rattle.std.proofs.Common.{inl, inr, ℕ, suc, List, [], ◌∷◌, map, sym, subst}
use Rattle.std.specs.Prelude.{Contains}
use Rattle.std.proofs.lemmas.List.Elements.{Contains-append_cases, Contains-append_left, Contains-append_right}
use Rattle.owl_breaches.specs.Sites.{Site, site, sites, sites_from}
use Rattle.owl_doc.specs.Parts.{Part, parts_of}
use Rattle.owl_kind.proofs.Found.{from_joined, joined_from}
use Rattle.owl_list.proofs.AscendingLaws.{from_map, in_cases, in_head, in_map, in_none, in_tail}
use Rattle.owl_tree.specs.Ontologies.{Ontology}

module _ {Rule : Type 0} where
  abbrev IsOf : List Ontology → Site Rule → Type 0
  IsOf os s = Contains os s.ontology × Contains (parts_of s.ontology) s.part

  -- a site has an ontology and a part of it
  pub from_sites : (rules : List Rule) (os : List Ontology) (s : Site Rule) → Contains (sites rules os) s → IsOf os s
  from_sites rules os s m = let f = from_joined (λ (rule : Rule). sites_from rule 0 os) rules s m in from_rule f.0 0 os f.2
    where
      from_rule : (rule : Rule) (place : ℕ) (os : List Ontology) → Contains (sites_from rule place os) s → IsOf os s
      from_rule rule place [] m = absurd (in_none s m)
      from_rule rule place (o ∷ os) m =
          elim (Contains-append_cases (map (site rule place o) (parts_of o)) (sites_from rule (suc place) os) s m) as (λ _. IsOf (o ∷ os) s) [
            | inl n ↦
                let v = from_map (site rule place o) (parts_of o) s n in
                subst (λ (w : Site Rule). IsOf (o ∷ os) w) v.value (in_head o os, v.inside)
            | inr n ↦ let rest = from_rule rule (suc place) os n in (in_tail o os s.ontology rest.0, rest.1)
          ]

  in_rule : (rule : Rule) (place : ℕ) (os : List Ontology) (o : Ontology) (part : Part) → Contains os o → Contains (parts_of o) part →
      (k : ℕ) × Contains (sites_from rule place os) (site rule k o part)
  in_rule rule place [] o part m n = absurd (in_none o m)
  in_rule rule place (first ∷ os) o part m n =
      elim (in_cases first os o m) as (λ _. (k : ℕ) × Contains (sites_from rule place (first ∷ os)) (site rule k o part)) [
        | inl same ↦ (
          place,
          subst (λ (p : Ontology). Contains (sites_from rule place (p ∷ os)) (site rule place o part)) (sym same)
              (Contains-append_left (map (site rule place o) (parts_of o)) (sites_from rule (suc place) os) (site rule place o part)
              (in_map (site rule place o) (parts_of o) part n)),
        )
        | inr later ↦
            let rest = in_rule rule (suc place) os o part later n in (
              rest.0,
              Contains-append_right (map (site rule place first) (parts_of first)) (sites_from rule (suc place) os)
                  (site rule rest.0 o part) rest.1,
            )
      ]

  -- and each part of each ontology stands at one
  pub in_sites : (rules : List Rule) (os : List Ontology) (rule : Rule) (o : Ontology) (part : Part) → Contains rules rule → Contains os o →
      Contains (parts_of o) part → (k : ℕ) × Contains (sites rules os) (site rule k o part)
  in_sites rules os rule o part r m n =
      let s = in_rule rule 0 os o part m n in
      (s.0, joined_from (λ (r : Rule). sites_from r 0 os) rules (site rule s.0 o part) rule r s.1)
