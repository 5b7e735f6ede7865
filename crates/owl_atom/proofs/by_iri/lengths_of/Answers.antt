use Rattle.std.proofs.Common.{ℕ, List, arith, ◌<◌, ◌++◌, ◌∷◌, [], length, map, take, sym, ap, ◌∙◌}
use Rattle.std.proofs.lemmas.List.{map-append, take_more}
use Rattle.std.proofs.lemmas.Option.{get_or_from_slice_get}
use Rattle.owl_atom.specs.ByIri.{size_of}
use Rattle.owl_atom.proofs.by_iri.lengths_of.Goals as goal

pub loop-place-preserved : goal.loop-place-preserved
loop-place-preserved c =
    let before = take c.loop-place.place c.args.held.now in
    let prefix = c.at.result.now in
    let within : c.loop-place.place < length c.args.held.now = omega (arith, c.loop-place-test.true, c.len-place-end.ensures.len) in
    let one_more = take_more c.args.held.now c.loop-place.place prefix within ∙ ap (λ p. before ++ p ∷ []) (get_or_from_slice_get c.args.held.now c.loop-place.place prefix prefix c.at.ensures) in
    c.in_ok-push.ensures ∙ ap (λ ns. ns ++ length c.text.result.now ∷ []) c.loop-place.invariant
    ∙ ap (λ (bs : List ℕ). map size_of before ++ length bs ∷ []) c.text.ensures.bytes ∙ sym (ap (map size_of) one_more ∙ map-append size_of before (prefix ∷ []))
