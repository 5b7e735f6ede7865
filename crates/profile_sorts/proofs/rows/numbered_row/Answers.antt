use Rattle.std.proofs.Common.{sym, ◌∙◌, subst}
use Rattle.std.proofs.lemmas.Result.{IfOk-weaker}
use Rattle.owl_tree.specs.declared.tag.Tag.{Tag}
use Rattle.owl_tree.specs.OrderLaws.{same_number}
use Rattle.profile_sorts.specs.Rows.{IsRowOf}
use Rattle.profile_sorts.proofs.rows.numbered_row.Goals as goal

pub returns-in-Some : goal.returns-in-Some
returns-in-Some c =
    IfOk-weaker c.tag_row.result _ _
    (λ row of t is. subst (λ (u : Tag). IsRowOf u row.items) (same_number c.in-Some.tag t (c.in-Some.ensures.some ∙ sym is)) of)
    c.tag_row.ensures
