use Rattle.grammar.specs.Derivations.{own_class}
use Rattle.fss_grammar.specs.Classes.{class_of}
use Rattle.fss_grammar.proofs.DeclaringLaws.{declarations_come_first, ontology_is_behind}
use Rattle.fss_grammar.proofs.laws.declarations_come_first.Goals as goal

pub returns : goal.returns
returns c = record { keyword = ontology_is_behind class_of; act = declarations_come_first own_class }
