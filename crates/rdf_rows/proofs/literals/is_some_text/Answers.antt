use Rattle.std.proofs.Common.{not, ap, ◌∙◌}
use Rattle.rdf_rows.proofs.Digits.{same_emptiness}
use Rattle.rdf_rows.proofs.literals.is_some_text.Goals as goal

pub returns : goal.returns
returns c = ap not (c.is_empty.ensures ∙ same_emptiness c.args.text.now c.utf8.text)
