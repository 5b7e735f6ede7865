use Rattle.std.proofs.Common.{◌≡◌, ◌<◌, ◌+◌, ◌∙◌, ◌∷◌, ◌++◌, [], ℕ, List, ap, get_or, length, subst, sym, take}
use Rattle.std.proofs.lemmas.Grind.{flat_map-append}
use Rattle.std.proofs.lemmas.List.{append-nil, take_all, take_more}
use Rattle.blank_labels.specs.FreshLabels.{fresh_name}
use Rattle.blank_labels.specs.LabelNumbers.{Counts, names_beside, no_numbers}
use Rattle.blank_labels.proofs.FreshLabelLaws.{counts_both, names_are_fresh}
use Rattle.ttl_grammar.specs.Labels.{labels_of, triple_labels}
use Rattle.ttl_grammar.specs.declared.node.NodeTriple.{NodeTriple}
use Rattle.ttl_read.proofs.labels.fresh_labels.Goals as goal

one_more : (ts : List NodeTriple) (i : ℕ) (t : NodeTriple) → i < length ts → t ≡ get_or ts i t → labels_of (take i ts) ++ triple_labels t ≡ labels_of (take (i + 1) ts)
one_more ts i t h is =
    ap (λ ls. labels_of (take i ts) ++ ls) (ap triple_labels is ∙ sym (append-nil (triple_labels (get_or ts i t))))
    ∙ sym (flat_map-append triple_labels (take i ts) (get_or ts i t ∷ []))
    ∙ ap labels_of (sym (take_more ts i t h))

pub loop-triple-preserved : goal.loop-triple-preserved
loop-triple-preserved c =
    subst (Counts no_numbers c.count_triple.new.numbers) (one_more c.args.triples.now c.loop-triple.triple-index c.triple-item.result c.loop-triple-test.true c.triple-item.is)
    (counts_both no_numbers _ _ _ _ c.loop-triple.invariant c.in_ok-count_triple.ensures)

pub returns : goal.returns
returns c =
    ap names_beside c.fresh_labels.ensures
    ∙ names_are_fresh c.loop-triple.numbers _ c.loop-triple.invariant
    ∙ ap (λ ts. fresh_name (labels_of ts)) (take_all c.loop-triple.triple-index c.args.triples.now c.loop-triple-test.false)
