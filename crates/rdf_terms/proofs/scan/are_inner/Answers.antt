use Rattle.std.proofs.Common.{rules, subst, sym, IsTrue, ◌↔◌}
use Rattle.std.specs.Str.{chars}
use borrow.Author.Tests.{tests}
use Rattle.std.proofs.lemmas.Iterator.{YieldsList-from_chars}
use Rattle.std.proofs.lemmas.Iterator.Search.{all_from_yields_List}
use Rattle.owl_characters.specs.Iri.{AllAre}
use Rattle.owl_characters.specs.Names.{is_inner}
use Rattle.owl_characters.proofs.AllAreLaws.{all_are}
use Rattle.rdf_terms.proofs.scan.are_inner.Goals as goal

pub returns : goal.returns
returns c =
    let is = all_from_yields_List is_inner _ _ _ c.all.ensures.ran (YieldsList-from_chars c.args.text.now c.utf8.text c.chars.ensures.rest) (λ x b q k. search (rules, tests)) in
    subst (λ b. IsTrue b ↔ AllAre is_inner (chars c.args.text.now)) (sym is) (all_are is_inner (chars c.args.text.now))
