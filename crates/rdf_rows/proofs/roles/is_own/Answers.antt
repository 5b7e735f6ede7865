use Rattle.std.proofs.Common.{rules, None, Some, sym, ◌∙◌}
use Rattle.rdf_meaning.specs.Nodes.{words_of}
use Rattle.rdf_rows.proofs.Marks.{none_of, owned_by}
use Rattle.rdf_rows.proofs.roles.is_own.Goals as goal

pub returns-in-Some : goal.returns-in-Some
returns-in-Some c = c.is_own_word.ensures ∙ sym (owned_by c.args.triple.now (Some c.in-Some.word) c.in-Some.ensures c.args.role (search rules))

pub returns-in-None : goal.returns-in-None
returns-in-None c = sym (owned_by c.args.triple.now None c.in-None.ensures c.args.role (search rules) ∙ none_of (words_of c.args.role))
