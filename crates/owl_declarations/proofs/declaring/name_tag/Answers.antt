use Rattle.std.proofs.Common.{ap, sym}
use Rattle.owl_declarations.specs.Declarations.{name_tag}
use Rattle.owl_declarations.proofs.declaring.name_tag.Goals as goal

pub returns-in-Class : goal.returns-in-Class
unfolding name_tag
returns-in-Class c = sym (ap name_tag c.in-Class.is)

pub returns-in-Datatype : goal.returns-in-Datatype
unfolding name_tag
returns-in-Datatype c = sym (ap name_tag c.in-Datatype.is)

pub returns-in-ObjectProperty : goal.returns-in-ObjectProperty
unfolding name_tag
returns-in-ObjectProperty c = sym (ap name_tag c.in-ObjectProperty.is)

pub returns-in-DataProperty : goal.returns-in-DataProperty
unfolding name_tag
returns-in-DataProperty c = sym (ap name_tag c.in-DataProperty.is)

pub returns-in-AnnotationProperty : goal.returns-in-AnnotationProperty
unfolding name_tag
returns-in-AnnotationProperty c = sym (ap name_tag c.in-AnnotationProperty.is)

pub returns-in-Individual : goal.returns-in-Individual
unfolding name_tag
returns-in-Individual c = sym (ap name_tag c.in-Individual.is)
