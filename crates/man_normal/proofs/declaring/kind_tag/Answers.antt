use Rattle.std.proofs.Common.{ap, sym}
use Rattle.man_text.specs.Blocks.{kind_tag}
use Rattle.man_normal.proofs.declaring.kind_tag.Goals as goal

pub returns-in-Class : goal.returns-in-Class
unfolding kind_tag
returns-in-Class c = sym (ap kind_tag c.in-Class.is)

pub returns-in-Datatype : goal.returns-in-Datatype
unfolding kind_tag
returns-in-Datatype c = sym (ap kind_tag c.in-Datatype.is)

pub returns-in-ObjectProperty : goal.returns-in-ObjectProperty
unfolding kind_tag
returns-in-ObjectProperty c = sym (ap kind_tag c.in-ObjectProperty.is)

pub returns-in-DataProperty : goal.returns-in-DataProperty
unfolding kind_tag
returns-in-DataProperty c = sym (ap kind_tag c.in-DataProperty.is)

pub returns-in-AnnotationProperty : goal.returns-in-AnnotationProperty
unfolding kind_tag
returns-in-AnnotationProperty c = sym (ap kind_tag c.in-AnnotationProperty.is)

pub returns-in-Individual : goal.returns-in-Individual
unfolding kind_tag
returns-in-Individual c = sym (ap kind_tag c.in-Individual.is)
