-- The rules that are broken by single trees.
use Rattle.std.specs.Prelude.{Bool, Option, None, Some, is_some}
use Rattle.dl_rules.specs.declared.rule.DlRule.{DlRule}
use Rattle.dl_rules.specs.declared.rule.DlRule.TheVariants as rule
use Rattle.dl_local.specs.declared.faults.Local.{Local}
use Rattle.dl_local.specs.declared.faults.Local.TheVariants as local

-- what trees are tested for by the rule
unfoldable pub test_of : DlRule → Option Local
test_of rule.Typing = Some local.Undeclared
test_of rule.ReservedName = Some local.Misnamed
test_of rule.Datatypes = Some local.Datatype
test_of rule.LexicalForms = Some local.Form
test_of rule.DataRanges = Some local.Range
test_of rule.TopDataProperty = Some local.TopData
test_of rule.SimpleProperties = Some local.NotSimple
test_of rule.NamedIndividuals = Some local.Anonymous
test_of _ = None

abbrev pub is_local : DlRule → Bool
is_local r = is_some (test_of r)
