use Rattle.std.proofs.Common.{◌∙◌, ap, rules, sym}
use Rattle.owl_kind.specs.Kinds.{annotation_properties, is_built_in}
use Rattle.owl_kind.proofs.kind.built_in.Goals as goal

pub returns-in-Class : goal.returns-in-Class
unfolding is_built_in
returns-in-Class c = search rules

pub returns-then-in_map : goal.returns-then-in_map
unfolding is_built_in
returns-then-in_map c = search rules

pub returns-else-in_map : goal.returns-else-in_map
unfolding is_built_in
returns-else-in_map c = search rules

pub returns-in-ObjectProperty : goal.returns-in-ObjectProperty
unfolding is_built_in
returns-in-ObjectProperty c = search rules

pub returns-in-DataProperty : goal.returns-in-DataProperty
unfolding is_built_in
returns-in-DataProperty c = search rules

pub returns-in-AnnotationProperty : goal.returns-in-AnnotationProperty
unfolding is_built_in annotation_properties
returns-in-AnnotationProperty c =
    c.is_one_of-in-AnnotationProperty.ensures ∙ ap (λ kind. is_built_in kind c.args.iri.now) (sym c.in-AnnotationProperty.is)

pub returns-in-Individual : goal.returns-in-Individual
unfolding is_built_in
returns-in-Individual c = search rules
