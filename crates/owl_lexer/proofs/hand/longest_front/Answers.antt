-- All that is held is the longest, where it is a lexeme.
use Rattle.std.proofs.Common.{rules, sym, ◌∙◌}
use Rattle.owl_lexer.proofs.Hands.{front_is_all}
use Rattle.owl_lexer.proofs.hand.longest_front.Goals as goal

pub returns-in-Some : goal.returns-in-Some
returns-in-Some g c =
    front_is_all g.L.TokenLanguage.automaton g.L.TokenLanguage.value_of g.L.TokenLanguage.spells g.met.L.TokenLanguage.is_language c.args.hand.now c.in-Some.kind c.requires c.len.result (search rules) (sym c.kind.ensures ∙ c.in-Some.is)
