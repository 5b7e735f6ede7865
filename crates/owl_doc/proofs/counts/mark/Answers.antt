use Rattle.std.proofs.Common.{ℕ, ◌<◌, ◌⊎◌, List, Contains, length, subst, sym, arith, rules}
use Rattle.std.specs.Prelude.{◌↔◌}
use Rattle.std.proofs.lemmas.List.{take_all}
use Rattle.owl_list.proofs.AscendingLaws.{all_in}
use Rattle.owl_doc.specs.Marks.{IsMarked}
use Rattle.owl_doc.proofs.Marking.{one_more, set_marks}
use Rattle.owl_doc.proofs.counts.mark.Goals as goal

pub ids-preserved : goal.ids-preserved
ids-preserved c =
    let id = c.id-item.result in
    let within = all_in (λ id. id < length c.args.marks.now) c.args.ids.now id c.requires (c.ids.id-index, c.ids-test.true, sym c.id-item.is) in (
      search rules,
      λ place. one_more c.ids.marks _ c.args.ids.now c.ids.id-index c.place.result place c.ids-test.true (let e = c.place.ensures in let f = c.id-item.is in cc) (set_marks c.ids.marks c.place.result place (omega arith)) (IsMarked c.args.marks.now place) (c.ids.invariant.1 place),
    )

pub returns-clause-marked : goal.returns-clause-marked
returns-clause-marked c = λ place.
    subst (λ (xs : List ℕ). IsMarked c.ids.marks place ↔ (IsMarked c.args.marks.now place ⊎ Contains xs place)) (take_all c.ids.id-index c.args.ids.now c.ids-test.false) (c.ids.invariant.1 place)
