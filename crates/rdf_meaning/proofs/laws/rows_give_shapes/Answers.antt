use Rattle.rdf_meaning.proofs.ShapeLaws.{annotation_fits, axiom_fits, chain_fits, data_keys_fit, expression_fits, notes_fit, object_keys_fit}
use Rattle.rdf_meaning.proofs.laws.rows_give_shapes.Goals as goal

pub returns-clause-expression : goal.returns-clause-expression
returns-clause-expression c = expression_fits

pub returns-clause-axiom_kids : goal.returns-clause-axiom_kids
returns-clause-axiom_kids c = axiom_fits

pub returns-clause-chain : goal.returns-clause-chain
returns-clause-chain c = chain_fits

pub returns-clause-object_keys : goal.returns-clause-object_keys
returns-clause-object_keys c = object_keys_fit

pub returns-clause-data_keys : goal.returns-clause-data_keys
returns-clause-data_keys c = data_keys_fit

pub returns-clause-annotation : goal.returns-clause-annotation
returns-clause-annotation c = annotation_fits

pub returns-clause-annotations : goal.returns-clause-annotations
returns-clause-annotations c = notes_fit
