use Rattle.std.proofs.Common.{codes, false, true, sym, ◌∙◌}
use Rattle.std.proofs.lemmas.Str.Pattern.{ends_text}
use Rattle.owl_documents.proofs.Suffixes.{told}
use Rattle.owl_documents.proofs.reading.syntax_of.Goals as goal

pub returns-then-ends_with-3 : goal.returns-then-ends_with-3
returns-then-ends_with-3 c =
    told c.args.name.now false false true (sym (ends_text c.ends_with.result (codes ".ttl") c.args.name.now c.ends_with.ensures.cases) ∙ c.if-ends_with.false)
    (sym (ends_text c.ends_with-else-ends_with.result (codes ".omn") c.args.name.now c.ends_with-else-ends_with.ensures.cases) ∙ c.if-ends_with-2.false)
    (sym (ends_text c.ends_with-else-ends_with-2.result (codes ".owc") c.args.name.now c.ends_with-else-ends_with-2.ensures.cases) ∙ c.if-ends_with-3.true)

pub returns-else-ends_with-3 : goal.returns-else-ends_with-3
returns-else-ends_with-3 c =
    told c.args.name.now false false false (sym (ends_text c.ends_with.result (codes ".ttl") c.args.name.now c.ends_with.ensures.cases) ∙ c.if-ends_with.false)
    (sym (ends_text c.ends_with-else-ends_with.result (codes ".omn") c.args.name.now c.ends_with-else-ends_with.ensures.cases) ∙ c.if-ends_with-2.false)
    (sym (ends_text c.ends_with-else-ends_with-2.result (codes ".owc") c.args.name.now c.ends_with-else-ends_with-2.ensures.cases) ∙ c.if-ends_with-3.false)
