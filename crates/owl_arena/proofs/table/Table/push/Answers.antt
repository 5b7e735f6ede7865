use Rattle.std.proofs.Common.{◌≡◌, ◌+◌, ◌%◌, ℕ, List, [], ◌∷◌, ◌++◌, length, ap, ◌∙◌, rules, arith}
use Rattle.std.specs.Prelude.{slice_index, slice_set}
use Rattle.std.proofs.lemmas.List.{take_at}
use Rattle.owl_arena.proofs.Tables.{linked_pushed}
use Rattle.owl_arena.proofs.table.Table.push.Goals as goal

pub invariant_of-self-clause-linked : goal.invariant_of-self-clause-linked
invariant_of-self-clause-linked c =
    let pushed : c.push-2.new.self.items ≡ c.args.self.now.nexts.items ++ 0 ∷ [] = search rules in
    let put = λ (hs : List ℕ). slice_set hs (c.args.mix % length hs) (c.len-place.result + 1) in
    let put_behind = λ (hs ls : List ℕ). slice_set ls c.len-place.result (slice_index hs (c.args.mix % length hs)) in
    linked_pushed _ _ c.args.node _ _ _ _ c.len-place.result c.args.mix c.args.self.now.linked record {
      nodes_are = search rules;
      mix_is = c.requires.mix;
      place_is = search rules;
      long = omega arith;
      inside = omega arith;
      heads_are = take_at c.link.new.heads _ _ (omega arith) ∙ c.link.ensures.heads ∙ ap put c.deref_mut.ensures.value;
      nexts_are = take_at c.link.new.nexts _ _ (omega arith) ∙ c.link.ensures.nexts ∙ ap (put_behind c.deref_mut.result.now) (c.deref_mut-2.ensures.value ∙ pushed) ∙ ap (λ (hs : List ℕ). put_behind hs (c.args.self.now.nexts.items ++ 0 ∷ [])) c.deref_mut.ensures.value;
    }
