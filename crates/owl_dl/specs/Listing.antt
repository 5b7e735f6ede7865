-- What is told of the rules that are broken.
use Rattle.std.specs.Prelude.{List}
use Rattle.std.specs.List.{AllZip}
use Rattle.dl_rules.specs.declared.rule.DlRule.{DlRule}
use Rattle.dl_rules.specs.Rules.{AreDlBreaches, dl_name}
use Rattle.owl_breaches.specs.Sites.{Site}
use Rattle.owl_doc.specs.Closures.{ImportClosure}
use Rattle.owl_doc.specs.declared.item.Breach.{Breach}
use Rattle.breach_lists.specs.Telling.{Tells, ontologies_of}

-- They tell of each rule with each part that breaks it, in order.
pub record TellBreaches (closure : ImportClosure) (found : List Breach) : Type 0 where
  pub breaches : List (Site DlRule)
  pub are : AreDlBreaches (ontologies_of closure) breaches
  pub told : AllZip (Tells dl_name closure.documents) breaches found
