-- What is told of the rules of a profile that are broken.
use Rattle.std.specs.Prelude.{List}
use Rattle.std.specs.List.{AllZip}
use Rattle.breach_lists.specs.Telling.{Tells, ontologies_of}
use Rattle.owl_breaches.specs.Sites.{Site}
use Rattle.owl_command.specs.declared.command.Profile.{Profile}
use Rattle.owl_doc.specs.Closures.{ImportClosure}
use Rattle.owl_doc.specs.declared.item.Breach.{Breach}
use Rattle.owl_profiles.specs.Profiles.{ProfileRule, name_of}
use Rattle.owl_answer.specs.Checks.{AreBreaches}

-- they tell of each rule of the profile with each part that breaks it, in order
pub record TellBreaches (profile : Profile) (closure : ImportClosure) (found : List Breach) : Type 0 where
  pub breaches : List (Site ProfileRule)
  pub are : AreBreaches profile (ontologies_of closure) breaches
  pub told : AllZip (Tells name_of closure.documents) breaches found
