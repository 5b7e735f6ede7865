use Rattle.std.proofs.Common.{◌≡◌, true, false, nat_eq, None, sym, ◌∙◌}
use Rattle.std.specs.Prelude.{codes}
use Rattle.std.specs.List.{find, starts_with}
use Rattle.std.specs.Str.{bytes_eq}
use Rattle.std.proofs.lemmas.Bool.{cond-false, cond-true}
use Rattle.std.proofs.lemmas.Str.Pattern.{starts_text}
use Rattle.rdf_meaning.specs.Words.{word_iri}
use Rattle.rdf_meaning.specs.WordIris.{word_in}
use Rattle.rdf_meaning.proofs.words.word_in.Goals as goal

pub returns-then-starts_with : goal.returns-then-starts_with
unfolding word_in
returns-then-starts_with c =
    let text = c.args.iri.now in
    let test = starts_with nat_eq text (codes "http://www.w3.org/") in
    let is : test ≡ true = sym (starts_text c.starts_with.result (codes "http://www.w3.org/") text c.starts_with.ensures.cases) ∙ c.if-starts_with.true in
    c.find_word.ensures ∙ sym (cond-true test (find (λ w. bytes_eq (word_iri w) text) c.args.words.now) None is)

pub returns-else-starts_with : goal.returns-else-starts_with
unfolding word_in
returns-else-starts_with c =
    let text = c.args.iri.now in
    let test = starts_with nat_eq text (codes "http://www.w3.org/") in
    let is : test ≡ false = sym (starts_text c.starts_with.result (codes "http://www.w3.org/") text c.starts_with.ensures.cases) ∙ c.if-starts_with.false in
    sym (cond-false test (find (λ w. bytes_eq (word_iri w) text) c.args.words.now) None is)
