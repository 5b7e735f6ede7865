-- Laws of the rules of all profiles: which lists of breaches are joined, and where there are none.
use Rattle.std.proofs.Common.{◌≡◌, inl, inr, ℕ, suc, List, [], ◌∷◌, ◌++◌, map, sym, ap, subst}
use Rattle.std.specs.Prelude.{◌↔◌, Contains}
use Rattle.std.specs.List.{AllZip}
use Rattle.std.proofs.lemmas.List.Elements.{Contains-append_cases, Contains-append_left, Contains-append_right}
use Rattle.breach_lists.specs.Telling.{Tells}
use Rattle.breach_lists.proofs.AddingLaws.{rules_both}
use Rattle.breach_lists.proofs.TellingLaws.{site_as, sites_as, tells_as, those_as}
use Rattle.dl_rules.specs.declared.rule.DlRule.{DlRule}
use Rattle.dl_rules.specs.Rules.{AreDlBreaches, BreaksAt, dl_name, dl_rules}
use Rattle.owl_breaches.specs.Sites.{Ontologies, Site, site, sites, sites_from}
use Rattle.owl_breaches.specs.Those.{AreThose}
use Rattle.owl_breaches.proofs.OneLaws.{through}
use Rattle.owl_breaches.proofs.SiteLaws.{from_sites, in_sites}
use Rattle.owl_breaches.proofs.ThoseLaws.{holds_none, none_holds, those_both}
use Rattle.owl_doc.specs.declared.item.Breach.{Breach}
use Rattle.owl_doc.specs.Documents.{Document}
use Rattle.owl_doc.specs.Parts.{parts_of}
use Rattle.owl_kind.proofs.Found.{from_joined}
use Rattle.owl_list.proofs.AscendingLaws.{from_map, in_map, in_none}
use Rattle.owl_tree.specs.Ontologies.{Ontology}
use Rattle.owl_profiles.specs.declared.rules.AxiomRule.{AxiomRule}
use Rattle.owl_profiles.specs.declared.rules.Profile.{Profile}
use Rattle.owl_profiles.specs.Profiles.{Breaks, ProfileRule, name_of, of_dl, on_axioms}
use Rattle.owl_profiles.specs.Rules.{AreAxiomBreaches, BreaksIt, KeepsRules, axiom_name, axiom_rules}

-- a site has one of the rules
module _ {Rule : Type 0} where
  rule_from : (rule : Rule) (place : ℕ) (os : List Ontology) (s : Site Rule) → Contains (sites_from rule place os) s → rule ≡ s.rule
  rule_from rule place [] s m = absurd (in_none s m)
  rule_from rule place (o ∷ os) s m =
      elim (Contains-append_cases (map (site rule place o) (parts_of o)) (sites_from rule (suc place) os) s m) as (λ _. rule ≡ s.rule) [
        | inl n ↦ let v = from_map (site rule place o) (parts_of o) s n in ap (λ (t : Site Rule). t.rule) v.value
        | inr n ↦ rule_from rule (suc place) os s n
      ]

  pub rule_of_site : (rules : List Rule) (os : List Ontology) (s : Site Rule) → Contains (sites rules os) s → Contains rules s.rule
  rule_of_site rules os s m =
      let f = from_joined (λ (rule : Rule). sites_from rule 0 os) rules s m in
      subst (Contains rules) (rule_from f.0 0 os s f.2) f.1

-- none of two lists, one behind the other
none_both : {X : Type 0} (Holds : X → Type 0) (xs ys : List X) → (AreThose Holds xs [] × AreThose Holds ys []) ↔ AreThose Holds (xs ++ ys) []
none_both Holds xs ys = (
  λ h. those_both Holds xs [] ys [] h.0 h.1,
  λ h. (
    holds_none Holds xs (λ x m. none_holds Holds (xs ++ ys) h x (Contains-append_left xs ys x m)),
    holds_none Holds ys (λ y m. none_holds Holds (xs ++ ys) h y (Contains-append_right xs ys y m)),
  ),
)

module _ (c : Ontologies) where
  abbrev pub BreaksSo : Site ProfileRule → Type 0
  BreaksSo s = Breaks c s.rule s.ontology s.part

  abbrev BreaksIts : Site AxiomRule → Type 0
  BreaksIts s = BreaksIt c s.rule s.ontology s.part

  module _ {Rule : Type 0} (into : Rule → ProfileRule) (Holds : Site Rule → Type 0) (same : (s : Site Rule) → Holds s ↔ BreaksSo (site_as into s)) (rules : List Rule) where
    -- what breaks rules of one kind breaks rules of profiles
    as_rules : (found : List (Site Rule)) → AreThose Holds (sites rules c.all) found → AreThose BreaksSo (sites (map into rules) c.all) (map (site_as into) found)
    as_rules found those =
        subst (λ (ss : List (Site ProfileRule)). AreThose BreaksSo ss (map (site_as into) found)) (sites_as into rules c.all) (those_as into Holds BreaksSo same (sites rules c.all) found those)

    none_as : AreThose Holds (sites rules c.all) [] ↔ AreThose BreaksSo (sites (map into rules) c.all) []
    none_as = (
      as_rules [],
      λ h.
          let all : AreThose BreaksSo (map (site_as into) (sites rules c.all)) [] = subst (λ (ss : List (Site ProfileRule)). AreThose BreaksSo ss []) (sym (sites_as into rules c.all)) h in
          holds_none Holds (sites rules c.all) (λ s m b. none_holds BreaksSo (map (site_as into) (sites rules c.all)) all (site_as into s) (in_map (site_as into) (sites rules c.all) s m) ((same s).0 b)),
    )

  -- none breaks a rule of the profile on axioms exactly where all are kept
  kept_or_broken : (profile : Profile) → KeepsRules profile c ↔ AreAxiomBreaches profile c []
  kept_or_broken profile = (
    λ kept. holds_none BreaksIts (sites (axiom_rules profile) c.all)
        (λ s m b. let of = from_sites (axiom_rules profile) c.all s m in kept s.rule s.ontology s.part (rule_of_site (axiom_rules profile) c.all s m) of.0 of.1 b),
    λ none rule o part r m n b.
        let at = in_sites (axiom_rules profile) c.all rule o part r m n in
        none_holds BreaksIts (sites (axiom_rules profile) c.all) none (site rule at.0 o part) at.1 b,
  )

  abbrev own_same : (s : Site AxiomRule) → BreaksIts s ↔ BreaksSo (site_as on_axioms s)
  own_same s = ((λ h. h), (λ h. h))

  abbrev dl_same : (s : Site DlRule) → BreaksAt c s ↔ BreaksSo (site_as of_dl s)
  dl_same s = ((λ h. h), (λ h. h))

  pub dl_none : AreDlBreaches c [] ↔ AreThose BreaksSo (sites (map of_dl dl_rules) c.all) []
  dl_none = none_as of_dl (BreaksAt c) dl_same dl_rules

  pub own_none : (profile : Profile) → KeepsRules profile c ↔ AreThose BreaksSo (sites (map on_axioms (axiom_rules profile)) c.all) []
  own_none profile = through (kept_or_broken profile) (none_as on_axioms BreaksIts own_same (axiom_rules profile))

  -- no rules of two lists are broken exactly where none of either is
  pub none_of_both : (rules more : List ProfileRule) → (AreThose BreaksSo (sites rules c.all) [] × AreThose BreaksSo (sites more c.all) []) ↔ AreThose BreaksSo (sites (rules ++ more) c.all) []
  none_of_both rules more =
      subst (λ (ss : List (Site ProfileRule)). (AreThose BreaksSo (sites rules c.all) [] × AreThose BreaksSo (sites more c.all) []) ↔ AreThose BreaksSo ss [])
      (sym (rules_both c.all rules more)) (none_both BreaksSo (sites rules c.all) (sites more c.all))

  -- breaches of OWL 2 DL, and behind them those of a profile
  pub dl_breaches : (found : List (Site DlRule)) → AreDlBreaches c found → AreThose BreaksSo (sites (map of_dl dl_rules) c.all) (map (site_as of_dl) found)
  dl_breaches found those = as_rules of_dl (BreaksAt c) dl_same dl_rules found those

  pub own_breaches : (profile : Profile) (found : List (Site AxiomRule)) → AreAxiomBreaches profile c found → AreThose BreaksSo (sites (map on_axioms (axiom_rules profile)) c.all) (map (site_as on_axioms) found)
  own_breaches profile found those = as_rules on_axioms BreaksIts own_same (axiom_rules profile) found those

  pub breaches_both : (rules more : List ProfileRule) (found others : List (Site ProfileRule)) → AreThose BreaksSo (sites rules c.all) found → AreThose BreaksSo (sites more c.all) others →
      AreThose BreaksSo (sites (rules ++ more) c.all) (found ++ others)
  breaches_both rules more found others h k =
      subst (λ (ss : List (Site ProfileRule)). AreThose BreaksSo ss (found ++ others)) (sym (rules_both c.all rules more)) (those_both BreaksSo (sites rules c.all) found (sites more c.all) others h k)

-- what is told of them
module _ (docs : List Document) where
  pub dl_told : (ss : List (Site DlRule)) (bs : List Breach) → AllZip (Tells dl_name docs) ss bs → AllZip (Tells name_of docs) (map (site_as of_dl) ss) bs
  dl_told ss bs h = tells_as of_dl name_of docs ss bs h

  pub own_told : (ss : List (Site AxiomRule)) (bs : List Breach) → AllZip (Tells axiom_name docs) ss bs → AllZip (Tells name_of docs) (map (site_as on_axioms) ss) bs
  own_told ss bs h = tells_as on_axioms name_of docs ss bs h

  pub told_both : (ss us : List (Site ProfileRule)) (bs vs : List Breach) → AllZip (Tells name_of docs) ss bs → AllZip (Tells name_of docs) us vs → AllZip (Tells name_of docs) (ss ++ us) (bs ++ vs)
  told_both [] us [] vs h k = k
  told_both [] us (b ∷ bs) vs h k = absurd h
  told_both (s ∷ ss) us [] vs h k = absurd h
  told_both (s ∷ ss) us (b ∷ bs) vs h k = (h.0, told_both ss us bs vs h.1 k)
