-- How a rule of a profile is called.
use Rattle.std.specs.Prelude.{ℕ, List, ◌++◌, codes, decimal}
use Rattle.owl_doc.specs.declared.rule.Rule.{Rule}
use Rattle.owl_doc.specs.declared.rule.Rule.TheVariants.{Dl, El, Ql, Rl}

abbrev pub rule_name : Rule → List ℕ
rule_name (Dl number) = codes "DL-" ++ decimal number
rule_name (El number) = codes "EL-" ++ decimal number
rule_name (Ql number) = codes "QL-" ++ decimal number
rule_name (Rl number) = codes "RL-" ++ decimal number
