use Rattle.std.proofs.Common.{◌≤◌, length, sym, ap, ◌∙◌, arith}
use Rattle.std.proofs.lemmas.List.{take_all}
use Rattle.std.proofs.lemmas.Str.{encodes-chars}
use Rattle.std.specs.List.{fold}
use Rattle.owl_tree.specs.Mixes.{mix_step}
use Rattle.owl_tree.proofs.atom.mix_text.Goals as goal

pub returns : goal.returns
returns c =
    let whole : length c.as_bytes-byte-items.result.now ≤ c.loop-byte.byte-index = omega arith in
    c.loop-byte.invariant ∙ ap (fold mix_step c.args.mix) (take_all _ _ whole ∙ c.as_bytes-byte-items.ensures.value ∙ sym (encodes-chars _ c.utf8.text))
