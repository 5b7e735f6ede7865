use Rattle.std.specs.Prelude.{List, ℕ}
use Rattle.std.proofs.Common.{rules, ◌∙◌, ap, sym}
use Rattle.std.proofs.lemmas.List.{take_all}
use Rattle.owl_tree.specs.OrderLaws.{only_equal_texts_tie}
use Rattle.owl_characters.specs.Order.{text_cmp}
use Rattle.owl_list.specs.Ascending.{ascending}
use Rattle.rdf_graph.specs.declared.triple.Triple.{Triple}
use Rattle.rdf_reverse.proofs.GuessingLaws.{found, guess_more, guess_none, guessed_thinned}
use Rattle.rdf_reverse.proofs.guesses.guess.Goals as goal

pub arrange-requires : goal.arrange-requires
arrange-requires c = only_equal_texts_tie

pub returns : goal.returns
returns c =
    let items = c.triples-triple-items in
    let all = take_all c.triples.triple-index items.result.now c.triples-test.false ∙ items.ensures.triples in
    c.arrange.ensures ∙ ap (ascending text_cmp) (c.triples.invariant ∙ ap (found c.args.kinds.now) all) ∙ sym (guessed_thinned c.args.kinds.now c.args.graph.now)
