-- What is told of a closure: the breaches of OWL 2 DL, and behind them those of what a profile asks besides.
use Rattle.std.proofs.Common.{◌≡◌, ◌++◌, Option, None, Some, List, map, refl, sym, subst, append-nil}
use Rattle.breach_lists.specs.Telling.{ontologies_of}
use Rattle.breach_lists.proofs.TellingLaws.{site_as}
use Rattle.dl_rules.specs.Rules.{dl_rules}
use Rattle.owl_breaches.specs.Sites.{Ontologies, Site, sites}
use Rattle.owl_breaches.specs.Those.{AreThose}
use Rattle.owl_command.specs.declared.command.Profile.{Profile}
use Rattle.owl_dl.specs.Listing as dl
use Rattle.owl_doc.specs.Closures.{ImportClosure}
use Rattle.owl_doc.specs.declared.item.Breach.{Breach}
use Rattle.owl_profiles.specs.declared.rules.Profile.{Profile as Further}
use Rattle.owl_profiles.specs.Listing as own
use Rattle.owl_profiles.specs.Profiles.{ProfileRule, of_dl, on_axioms}
use Rattle.owl_profiles.specs.Rules.{axiom_rules}
use Rattle.owl_profiles.proofs.ProfileLaws.{BreaksSo, breaches_both, dl_breaches, dl_told, own_breaches, own_told, told_both}
use Rattle.owl_answer.specs.Checking.{TellBreaches}
use Rattle.owl_answer.specs.Checks.{further_of, further_rules}

pub none_further : (o : Option Further) → ((profile : Further) → o ≡ Some profile → ⊥) → o ≡ None
none_further None none = refl
none_further (Some profile) none = absurd (none profile refl)

abbrev AreThoseOf : Ontologies → List ProfileRule → List (Site ProfileRule) → Type 0
AreThoseOf c rules found = AreThose (BreaksSo c) (sites rules c.all) found

module _ (profile : Profile) (closure : ImportClosure) (found : List Breach) (h : dl.TellBreaches closure found) where
  -- nothing is asked besides
  pub dl_alone : further_of profile ≡ None → TellBreaches profile closure found
  dl_alone e =
      let c = ontologies_of closure in
      let sites_dl = map (site_as of_dl) h.breaches in
      let rules : List ProfileRule = map of_dl dl_rules in
      record {
        breaches = sites_dl;
        are = subst (λ (o : Option Further). AreThoseOf c (rules ++ further_rules o) sites_dl) (sym e)
            (subst (λ (rs : List ProfileRule). AreThoseOf c rs sites_dl) (sym (append-nil rules)) (dl_breaches c h.breaches h.are));
        told = dl_told closure.documents h.breaches found h.told;
      }

  -- the profile asks more
  pub dl_and_further : (further : Further) (more : List Breach) → further_of profile ≡ Some further → own.TellBreaches further closure more → TellBreaches profile closure (found ++ more)
  dl_and_further further more e k =
      let c = ontologies_of closure in
      let sites_dl = map (site_as of_dl) h.breaches in
      let sites_own = map (site_as on_axioms) k.breaches in
      let rules : List ProfileRule = map of_dl dl_rules in
      record {
        breaches = sites_dl ++ sites_own;
        are = subst (λ (o : Option Further). AreThoseOf c (rules ++ further_rules o) (sites_dl ++ sites_own)) (sym e)
            (breaches_both c rules (map on_axioms (axiom_rules further)) sites_dl sites_own (dl_breaches c h.breaches h.are) (own_breaches c further k.breaches k.are));
        told = told_both closure.documents sites_dl sites_own found more (dl_told closure.documents h.breaches found h.told) (own_told closure.documents k.breaches more k.told);
      }
