-- The list of what was added to nothing is whole, and what is known where rules are listed.
use Rattle.std.proofs.Common.{◌≡◌, List, [], map, sym, subst}
use Rattle.std.specs.Prelude.{Contains}
use Rattle.std.specs.List.{AllByRecursion, AllZip}
use Rattle.breach_lists.specs.Adding.{AddsSites}
use Rattle.breach_lists.specs.Telling.{Tells, ontologies_of}
use Rattle.owl_breaches.specs.Sites.{sites}
use Rattle.owl_doc.specs.Closures.{ImportClosure}
use Rattle.owl_doc.specs.declared.item.Breach.{Breach}
use Rattle.owl_doc.specs.Documents.{ontology_of}
use Rattle.owl_list.proofs.AscendingLaws.{all_from}
use Rattle.owl_pool.specs.Pooling.{ArePooled}
use Rattle.profile_sorts.specs.Sets.{AreSorts}
use Rattle.owl_profiles.specs.declared.facts.Facts.{Facts}
use Rattle.owl_profiles.specs.declared.rules.AxiomRule.{AxiomRule}
use Rattle.owl_profiles.specs.declared.rules.AxiomRule.TheVariants.{ChainRanges}
use Rattle.owl_profiles.specs.declared.rules.Profile.{Profile}
use Rattle.owl_profiles.specs.declared.rules.Profile.TheVariants.{El}
use Rattle.owl_profiles.specs.Facts.{AreFactsFor}
use Rattle.owl_profiles.specs.Lacking.{MarkLacking}
use Rattle.owl_profiles.specs.Listing.{TellBreaches}
use Rattle.owl_profiles.specs.Rules.{BreaksIt, axiom_name, axiom_rules}
use Rattle.owl_profiles.proofs.Judging.{asks_chains}

pub tells_all : (profile : Profile) (closure : ImportClosure) (found : List Breach) → AddsSites axiom_name (BreaksIt (ontologies_of closure)) closure.documents (sites (axiom_rules profile) (map ontology_of closure.documents)) [] found → TellBreaches profile closure found
tells_all profile closure found adds = record {
  breaches = adds.those;
  are = adds.are;
  told = subst (λ (bs : List Breach). AllZip (Tells axiom_name closure.documents) adds.those bs) (sym adds.grown) adds.told;
}

-- the rules of the profile ask for no more
pub known_for : (profile : Profile) (facts : Facts) (rules : List AxiomRule) → rules ≡ axiom_rules profile → ArePooled facts.arena.now.trees (map ontology_of facts.closure.now.documents) facts.pooled.now →
    AreSorts facts.arena.now.trees facts.sets.now → (profile ≡ El → MarkLacking facts.arena.now.trees facts.pooled.now facts.lacking.now) → AllByRecursion (λ rule. AreFactsFor rule facts) rules
known_for profile facts rules are pooled sets lacking =
    all_from (λ (rule : AxiomRule). AreFactsFor rule facts) rules (λ rule m. record {
      pooled = pooled;
      sets = sets;
      lacking = λ is.
          let among : Contains (axiom_rules profile) ChainRanges = subst (λ (r : AxiomRule). Contains (axiom_rules profile) r) is (subst (λ (rs : List AxiomRule). Contains rs rule) are m) in
          (lacking (asks_chains profile among)).told facts.closure.now pooled;
    })
