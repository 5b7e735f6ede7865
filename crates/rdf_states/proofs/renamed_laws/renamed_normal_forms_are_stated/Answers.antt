use Rattle.rdf_states.proofs.RenamedStatesLaws.{form_labels, renamed_form_is_thin, renamed_form_says}
use Rattle.rdf_states.proofs.renamed_laws.renamed_normal_forms_are_stated.Goals as goal

pub returns-clause-labels : goal.returns-clause-labels
returns-clause-labels c = form_labels

pub returns-clause-says : goal.returns-clause-says
returns-clause-says c = renamed_form_says

pub returns-clause-thin : goal.returns-clause-thin
returns-clause-thin c = renamed_form_is_thin
