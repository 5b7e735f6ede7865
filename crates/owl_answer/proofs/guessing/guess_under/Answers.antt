use Rattle.std.proofs.Common.{List, rules, ◌∙◌, map, subst, sym}
use Rattle.std.proofs.lemmas.List.{nil_from_length}
use Rattle.std.specs.Vec.Iter.{into_iter_items}
use Rattle.owl_answer.proofs.GuessedDocuments.{all_guessed, one_more_guessed}
use Rattle.owl_answer.proofs.guessing.guess_under.Goals as goal

pub loop-document-preserved : goal.loop-document-preserved
loop-document-preserved c = record {
  all = one_more_guessed c.args.kinds.now c.args.docs.items c.loop-document.guessed.items c.push.new.self.items (into_iter_items c.loop-document.document-iterator) _
      c.in-Some.document c.in_ok-guess_of.field-0 c.loop-document.invariant.all c.in-Some.ensures.steps.0 c.in_ok-guess_of.ensures (search rules);
  len = search rules;
}

pub returns : goal.returns
returns c =
    let none = nil_from_length (into_iter_items c.loop-document.document-iterator) (sym c.loop-document.invariant.len ∙ c.in-None.ensures.steps.0) in
    all_guessed c.args.kinds.now c.args.docs.items c.loop-document.guessed.items _ c.loop-document.invariant.all none
