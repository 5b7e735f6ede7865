use Rattle.std.proofs.Common.{◌≡◌, length, refl, ◌+◌, ◌++◌, ◌∷◌, [], arith, ap, sym, ◌∙◌, subst, get_or, set, take}
use Rattle.std.proofs.lemmas.List.{length-set, length-take-le}
use Rattle.rdf_rows.specs.Fits.{CountsWords}
use Rattle.rdf_rows.proofs.Counting.{counted_in, few, none_counted, number_within, one_counted, same_counts}
use Rattle.rdf_rows.proofs.Taken.{next_taken}
use Rattle.rdf_rows.proofs.fits.NodeWords.of.Goals as goal
use Rattle.rdf_rows.proofs.fits.NodeWords.of.Goals.{in-Some, in_default}

pub loop-triple-init : goal.loop-triple-init
loop-triple-init c = (none_counted, refl)

pub overflow_add-counts : goal.overflow_add-counts
overflow_add-counts c =
    let before = take c.loop-triple.triple-index c.args.triples.now in
    let count = ap (λ n. get_or c.loop-triple.counts n 0) c.place_of.ensures.number ∙ c.loop-triple.invariant.0.counts c.in-Some.word in
    let most = few c.in-Some.word before in
    let passed = length-take-le c.loop-triple.triple-index c.args.triples.now (omega arith) in
    omega arith

pub loop-triple-preserved : goal.loop-triple-preserved
loop-triple-preserved c =
    let t = c.triple-item.result in
    let old = c.loop-triple.counts in
    let before = take c.loop-triple.triple-index c.args.triples.now in
    let taken = next_taken c.args.triples.now c.loop-triple.triple-index t c.loop-triple-test.true c.triple-item.is in
    let is_at : CountsWords (counted_in c.match-carried_word.counts) (before ++ t ∷ []) × (length c.match-carried_word.counts ≡ 70) =
    elim c.match-carried_word.branch [
      | in-Some w ↦
          let new = w.counts-is ∙ ap (λ n. set old n (get_or old n 0 + 1)) w.place_of.ensures.number in
          let within = number_within w.in-Some.word in
          let many = c.loop-triple.invariant.1 in (
            subst (λ counts. CountsWords (counted_in counts) (before ++ t ∷ [])) (sym new)
                (one_counted old before t c.loop-triple.invariant.0 w.in-Some.word w.in-Some.ensures (omega arith)),
            ap length w.counts-is ∙ length-set old w.place_of.result _ ∙ many,
          )
      | in_default w ↦ (
        subst (λ counts. CountsWords (counted_in counts) (before ++ t ∷ [])) (sym w.counts-is)
            (same_counts old before t c.loop-triple.invariant.0 w.in_default.ensures),
        ap length w.counts-is ∙ c.loop-triple.invariant.1,
      )
    ]
    in
    (subst (λ ts. CountsWords (counted_in c.match-carried_word.counts) ts) (sym taken) is_at.0, is_at.1)
