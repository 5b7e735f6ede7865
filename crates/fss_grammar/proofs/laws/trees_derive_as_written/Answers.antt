use Rattle.fss_grammar.proofs.DocumentLaws.{tree_derives, tree_is_written}
use Rattle.fss_grammar.proofs.laws.trees_derive_as_written.Goals as goal

pub returns : goal.returns
returns c = record { written = tree_is_written; derives = tree_derives }
