use Rattle.std.proofs.Common.{refl, arith, ap, ◌∙◌, []}
use Rattle.grammar.specs.Grammars.{has_rule}
use Rattle.owl_lexer.specs.Lexing.{Lexing}
use Rattle.owl_reader.proofs.Early.{none_held}
use Rattle.owl_reader.proofs.Reporting.{nothing_open, read_nothing}
use Rattle.owl_reader.proofs.reader.Reader.new.Goals as goal

pub invariant_of-result : goal.invariant_of-result
invariant_of-result g c = (
  λ none context. none_held g.S.Language.TokenLanguage.spells (g.S.Syntax.rules context).long_quotes c.new-3.result.begun (ap (λ (l : Lexing). l.begun.held) c.new-3.ensures),
  λ none. (
    c.requires.0,
    record {
      bytes = [];
      open_yet = nothing_open g.met.S.Grammar.Table.predictive g.met.S.Grammar.Table.productive (g.met.S.Syntax.has_document c.requires.0) c.args.syntax c.requires.1 c.new-3.result c.new-3.ensures c.document.result (c.document.ensures c.requires.0) c.in_ok-parser.parser c.in_ok-parser.ensures;
      fed = refl;
      few = omega arith;
    },
  ),
)

pub new-requires : goal.new-requires
new-requires g c =
    let context = c.requires.0 in
    ap (has_rule g.S.Grammar.Table.grammar) (c.document.ensures context) ∙ g.met.S.Syntax.has_document context

pub returns : goal.returns
returns g c = λ context made. read_nothing _ (nothing_open g.met.S.Grammar.Table.predictive g.met.S.Grammar.Table.productive (g.met.S.Syntax.has_document context) c.args.syntax made c.new-3.result c.new-3.ensures c.document.result (c.document.ensures context) c.in_ok-parser.parser c.in_ok-parser.ensures) refl refl
