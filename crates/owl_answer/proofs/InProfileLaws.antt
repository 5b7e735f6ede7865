-- A check answers yes exactly where the import closure is in the profile.
use Rattle.std.proofs.Common.{◌≡◌, ℕ, Bool, Option, None, Some, List, [], ◌∷◌, map, refl, sym, ap, ◌∙◌, subst, arith}
use Rattle.std.proofs.lemmas.Option.{same_Some}
use Rattle.std.specs.Prelude.{◌↔◌}
use Rattle.dl_rules.proofs.BreachLaws.{in_dl_unless_broken}
use Rattle.dl_rules.specs.Rules.{dl_rules}
use Rattle.owl_breaches.specs.Sites.{Ontologies, Site, sites}
use Rattle.owl_breaches.specs.Those.{AreThose, none}
use Rattle.owl_breaches.proofs.OneLaws.{through}
use Rattle.owl_close.specs.Imports.{main}
use Rattle.owl_command.specs.declared.command.Options.{Options}
use Rattle.owl_command.specs.Commands.{Request, of_main}
use Rattle.owl_command.specs.declared.command.Action.TheVariants.{Check}
use Rattle.owl_command.specs.declared.command.Profile.{Profile}
use Rattle.owl_command.specs.declared.status.Status.{Status}
use Rattle.owl_command.specs.declared.status.Status.TheVariants.{Done}
use Rattle.owl_documents.specs.Documents.{Contents, Parsed}
use Rattle.owl_kind.specs.Kinds.{Entity}
use Rattle.owl_messages.specs.Outcome.{IsLimited, Outcome, fits, passes}
use Rattle.owl_messages.specs.Verdicts.{verdict}
use Rattle.owl_profiles.specs.declared.rules.Profile.{Profile as Further}
use Rattle.owl_profiles.specs.Profiles.{ProfileRule, of_dl}
use Rattle.owl_profiles.proofs.ProfileLaws.{BreaksSo, dl_none, none_of_both, own_none}
use Rattle.owl_answer.specs.Checks.{AreBreaches, IsChecked, IsImportClosure, IsIn, KeepsFurther, further_of, further_rules}
use Rattle.owl_answer.specs.InProfile.{IsInProfile}
use Rattle.owl_answer.specs.Outcome.{IsSuccess, IsTheOutcome}
use Rattle.owl_answer.specs.Runs.{Becomes, all_read, all_say, misses_import, misses_none, not_read, says_nothing}
use Rattle.owl_answer.specs.UnderKinds.{AllSay, SaysAt, SaysUnder}
use Rattle.owl_answer.proofs.Checks.{form_at, forms_canonical}
use Rattle.owl_answer.proofs.Closures.{closure_once}
use Rattle.owl_answer.proofs.Lines.{refused_fails, unsaid_fails}
use Rattle.owl_answer.proofs.Same.{is_proper}

-- what a profile asks besides OWL 2 DL is kept exactly where none of its rules is broken
further_kept : (o : Option Further) (closure : Ontologies) → KeepsFurther o closure ↔ AreThose (BreaksSo closure) (sites (further_rules o) closure.all) []
further_kept None closure = ((λ h. none), (λ h. tt))
further_kept (Some profile) closure = own_none closure profile

-- nothing breaks a rule exactly where the closure is in the profile
within_or_broken : (profile : Profile) (documents : List Parsed) (places : List ℕ) (closure : Ontologies) → IsImportClosure documents places closure → IsIn profile closure ↔ AreBreaches profile closure []
within_or_broken profile documents places closure is =
    let dl = through (in_dl_unless_broken closure (forms_canonical documents closure.kinds places closure.all is.say)) (dl_none closure) in
    let more = further_kept (further_of profile) closure in
    through ((λ h. (dl.0 h.0, more.0 h.1)), (λ h. (dl.1 h.0, more.1 h.1))) (none_of_both closure (map of_dl dl_rules) (further_rules (further_of profile)))

done_succeeds : (status : Status) → status ≡ Done → IsSuccess status
done_succeeds status e = subst IsSuccess (sym e) tt

-- a verdict is yes where there are no breaches
none_found : (profile : Profile) (places : List ℕ) (found : List (Site ProfileRule)) → (verdict profile places found).status ≡ Done → found ≡ []
none_found profile places [] e = refl
none_found profile places (breach ∷ more) e = absurd (cc)

-- so it is what a check tells that ends with this status
checked_done : (profile : Profile) (documents : List Parsed) (outcome : Outcome) → (h : IsChecked profile documents outcome) → outcome.status ≡ Done → h.breaches ≡ []
checked_done profile documents outcome h e = of_verdict h.told
  where
    of_verdict : IsLimited (λ wanted. wanted ≡ verdict profile h.places h.breaches) outcome → h.breaches ≡ []
    of_verdict (fits is l) = none_found profile h.places h.breaches (sym (ap (λ (o : Outcome). o.status) is) ∙ e)
    of_verdict (passes wanted is l long) = let same = sym (ap (λ (o : Outcome). o.status) long) ∙ e in absurd (cc)

module _ (contents : Contents) (profile : Profile) (options : Options) (names : List (List ℕ)) where
  abbrev request : Request
  request = of_main (Check profile) options names

  yes_within : (outcome : Outcome) → Becomes contents request outcome → outcome.status ≡ Done → IsInProfile contents request profile
  yes_within outcome (not_read source refusal f e) done =
      absurd (refused_fails source.name refusal (subst (λ (o : Outcome). IsSuccess o.status) e (done_succeeds outcome.status done)))
  yes_within outcome (all_read documents read (misses_import asked place iri name m at e)) done =
      absurd (subst (λ (o : Outcome). IsSuccess o.status) e (done_succeeds outcome.status done))
  yes_within outcome (all_read documents read (misses_none imports guessed are (says_nothing place fault name u at e))) done =
      absurd (unsaid_fails name fault (is_proper u.unsaid.kinds u.unsaid.parsed fault u.unsaid.unsaid) (subst (λ (o : Outcome). IsSuccess o.status) e (done_succeeds outcome.status done)))
  yes_within outcome (all_read documents read (misses_none imports guessed are (all_say all w))) done =
      let none = checked_done profile guessed outcome w.holds done in
      record {
        documents = documents;
        read = read;
        imports = imports;
        guessed = guessed;
        are_guessed = are;
        places = w.holds.places;
        closure = w.holds.closure;
        is = w.holds.is;
        within = (within_or_broken profile guessed w.holds.places w.holds.closure w.holds.is).1 (subst (AreBreaches profile w.holds.closure) none w.holds.are);
      }

  module _ (h : IsInProfile contents request profile) where
    -- each document of the closure says something
    all_said : AllSay request h.guessed
    all_said place parsed kinds r =
        let form = form_at h.guessed h.closure.kinds h.places h.closure.all h.is.say place ((h.is.reached.reached place).1 r.under.0) in
        let same : form.1.parsed ≡ parsed = same_Some form.1.parsed parsed (sym form.1.there ∙ r.there) in
        let own : h.closure.kinds ≡ kinds = closure_once h.guessed h.closure.kinds kinds h.is.declared r.under.1 in
        let says : SaysUnder kinds parsed form.1.said =
        subst (λ (p : Parsed). SaysUnder kinds p form.1.said) same (subst (λ (ks : List Entity). SaysUnder ks form.1.parsed form.1.said) own form.1.says) in
        (form.1.said, says)

    checked_yes : IsChecked profile h.guessed (verdict profile h.places [])
    checked_yes = record {
      places = h.places;
      closure = h.closure;
      is = h.is;
      breaches = [];
      are = (within_or_broken profile h.guessed h.places h.closure h.is).0 h.within;
      told = fits refl (omega arith);
    }

    becomes_yes : Becomes contents request (verdict profile h.places [])
    becomes_yes =
        let form = form_at h.guessed h.closure.kinds h.places h.closure.all h.is.say 0 ((h.is.reached.reached 0).1 main) in
        let first : SaysAt request h.guessed 0 form.1.said =
        record { parsed = form.1.parsed; kinds = h.closure.kinds; read = record { there = form.1.there; under = (main, h.is.declared) }; says = form.1.says } in
        all_read h.documents h.read (misses_none h.imports h.guessed h.are_guessed (all_say all_said (record { said = form.1.said; main = first; holds = checked_yes })))

  pub yes_exactly_within : (outcome : Outcome) → IsTheOutcome (Becomes contents request) outcome → (outcome.status ≡ Done) ↔ IsInProfile contents request profile
  yes_exactly_within outcome one = (
    yes_within outcome one.is,
    λ h. ap (λ (o : Outcome). o.status) (one.only (verdict profile h.places []) (becomes_yes h)),
  )
