-- The rules of all profiles: those of OWL 2 DL, and those of EL, QL and RL on axioms.
use Rattle.dl_rules.specs.declared.rule.DlRule.{DlRule}
use Rattle.dl_rules.specs.Rules.{Breaks as BreaksDl, dl_name}
use Rattle.owl_breaches.specs.Sites.{Ontologies}
use Rattle.owl_doc.specs.declared.rule.Rule.{Rule}
use Rattle.owl_doc.specs.Parts.{Part}
use Rattle.owl_tree.specs.Ontologies.{Ontology}
use Rattle.owl_profiles.specs.declared.rules.AxiomRule.{AxiomRule}
use Rattle.owl_profiles.specs.Rules.{BreaksIt, axiom_name}

pub data ProfileRule : Type 0 where
  of_dl : DlRule → ProfileRule
  on_axioms : AxiomRule → ProfileRule

abbrev pub name_of : ProfileRule → Rule
name_of (of_dl rule) = dl_name rule
name_of (on_axioms rule) = axiom_name rule

-- the part of this ontology breaks the rule
abbrev pub Breaks : Ontologies → ProfileRule → Ontology → Part → Type 0
Breaks c (of_dl rule) o part = BreaksDl c rule o part
Breaks c (on_axioms rule) o part = BreaksIt c rule o part
