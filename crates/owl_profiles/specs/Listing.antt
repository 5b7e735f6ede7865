-- What is told of the rules that are broken.
use Rattle.std.specs.Prelude.{List}
use Rattle.std.specs.List.{AllZip}
use Rattle.breach_lists.specs.Telling.{Tells, ontologies_of}
use Rattle.owl_breaches.specs.Sites.{Site}
use Rattle.owl_doc.specs.Closures.{ImportClosure}
use Rattle.owl_doc.specs.declared.item.Breach.{Breach}
use Rattle.owl_profiles.specs.declared.rules.AxiomRule.{AxiomRule}
use Rattle.owl_profiles.specs.declared.rules.Profile.{Profile}
use Rattle.owl_profiles.specs.Rules.{AreAxiomBreaches, axiom_name}

-- They tell of each rule of the profile on axioms with each part that breaks it, in order.
pub record TellBreaches (profile : Profile) (closure : ImportClosure) (found : List Breach) : Type 0 where
  pub breaches : List (Site AxiomRule)
  pub are : AreAxiomBreaches profile (ontologies_of closure) breaches
  pub told : AllZip (Tells axiom_name closure.documents) breaches found
