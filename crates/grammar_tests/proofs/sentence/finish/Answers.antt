-- The end was refused.
use Rattle.std.proofs.Common.{◌≡◌, rules}
use Rattle.std.specs.Prelude.{IfErr}
use Rattle.grammar.specs.Parsing.{NeedsMore}
use Rattle.grammar.specs.declared.fault.ParseFault.TheVariants.{Unexpected}
use Rattle.grammar_tests.specs.ItemsTable.{items}
use Rattle.grammar_tests.proofs.Feeding.{wrong_end}
use Rattle.grammar_tests.proofs.sentence.finish.Goals as goal

pub returns-in_err-finish-clause-wrong : goal.returns-in_err-finish-clause-wrong
returns-in_err-finish-clause-wrong c = λ front fed.
    let needs = c.in_err-finish.ensures.refuses fed.open_yet in
    let told : IfErr c.from_residual.result (λ fault. fault ≡ Unexpected → NeedsMore items c.args.parser.now.expected) = search rules in
    wrong_end front _ c.args.parser.now c.from_residual.result fed told
