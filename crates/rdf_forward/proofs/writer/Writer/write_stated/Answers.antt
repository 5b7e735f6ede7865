use Rattle.std.proofs.Common.{rules, ◌≡◌, []}
use Rattle.std.proofs.lemmas.Result.{on_ok_weaker}
use Rattle.rdf_mapping.specs.Arenas.{kids_at}
use Rattle.rdf_mapping.specs.Drawing.{placed}
use Rattle.rdf_forward.proofs.Placing.{not_said, well_said}
use Rattle.rdf_forward.proofs.writer.Writer.write_stated.Goals as goal

pub returns-in_default-2 : goal.returns-in_default-2
returns-in_default-2 c =
    let none : placed c.in-Some-next_part-2.third.parts.now (kids_at c.args.below.now.arena.now.trees c.in-Some-next_part-2.third.kids.now) ≡ [] = search (rules, c.next_part-4.ensures.none) in
    not_said _ _ _ _ _ _ _ _ _ _ c.in-Some.ensures.some.placed c.in-Some-next_part.ensures.some.placed c.in-Some-next_part-2.ensures.some.placed none c.in_ok-predicate.ensures c.in_default-2.is

pub returns : goal.returns
returns c =
    let none : placed c.in-Some-next_part-2.third.parts.now (kids_at c.args.below.now.arena.now.trees c.in-Some-next_part-2.third.kids.now) ≡ [] = search (rules, c.next_part-4.ensures.none) in
    on_ok_weaker c.write_linked.result (λ stated. well_said _ _ _ _ _ _ _ _ _ _ _ _ c.in-Some.ensures.some.placed c.in-Some-next_part.ensures.some.placed c.in-Some-next_part-2.ensures.some.placed none c.in_ok-predicate.ensures c.in-Some-2.is stated) c.write_linked.ensures
