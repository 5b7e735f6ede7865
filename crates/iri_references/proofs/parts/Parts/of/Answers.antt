use Rattle.std.proofs.Common.{◌∙◌, ap}
use Rattle.iri_references.specs.References.{authority_of, before, behind, parts_of, path_of, question_mark}
use Rattle.iri_references.proofs.parts.Parts.of.Goals as goal

pub returns : goal.returns
unfolding parts_of
returns c =
    let hierarchy = c.cut-2.ensures.before ∙ ap (before question_mark) c.cut.ensures.before in
    let authority = c.cut_authority.ensures.authority ∙ ap authority_of hierarchy in
    let path = c.cut_authority.ensures.path ∙ ap path_of hierarchy in
    let query = c.cut-2.ensures.behind ∙ ap (behind question_mark) c.cut.ensures.before in
    let fragment = c.cut.ensures.behind in
    cc
