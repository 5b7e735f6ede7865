-- A token was taken, and something goes on from what is expected behind it.
use Rattle.grammar.proofs.ProductiveLaws.{productive}
use Rattle.grammar.proofs.Parsers.{feeds}
use Rattle.grammar.proofs.parser.Parser.feed.Goals as goal

pub returns-clause-takes : goal.returns-clause-takes
returns-clause-takes g c =
    feeds (productive g.T.Table.grammar g.met.T.Table.productive) c.args.self.now _ c.self.inside.refused c.args.class c.args.acts.now.items _ c.take.new.acts.items c.self.view_is c.in_default.is c.in_default-take.ensures.steps
