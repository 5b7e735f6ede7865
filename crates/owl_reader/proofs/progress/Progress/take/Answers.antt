use Rattle.std.proofs.Common.{sym, ap, ◌∙◌, Some, ℕ}
use Rattle.owl_reader.specs.Faults.{fault_at}
use Rattle.owl_reader.proofs.Taking.{fed_follows, may_take, refused, same_item, same_start, stands_more, stopped, was_fed}
use Rattle.owl_reader.proofs.progress.Progress.take.Goals as goal

pub returns-in-Err-clause-refuses : goal.returns-in-Err-clause-refuses
returns-in-Err-clause-refuses g c = λ other context steps s.
    refused s c.args.placed.at c.args.placed c.class_of.result (c.class_of.ensures context) c.in_ok-anew.anew (c.in_ok-anew.ensures context steps s _ (c.begins_item-begins.ensures context)) c.in-Err.fault c.refusal_of.result (c.in-Err.ensures.refuses s.open_yet) c.refusal_of.ensures other

pub take-requires : goal.take-requires
take-requires g c =
    let context = c.requires.stands.0 in
    (context, may_take c.requires.stands.1 c.requires.spelled.0 (was_fed c.in_default.ensures.takes c.args.placed.token (c.class_of.ensures context) c.clear.ensures.items c.deref-3.result.now c.deref-3.ensures.value))

pub returns-in-Err-take-clause-refuses : goal.returns-in-Err-take-clause-refuses
returns-in-Err-take-clause-refuses g c = λ other context steps s.
    let f = was_fed c.in_default.ensures.takes c.args.placed.token (c.class_of.ensures context) c.clear.ensures.items c.deref-3.result.now c.deref-3.ensures.value in
    let start = same_start (g.S.Syntax.rules context) c.args.self.now.last (Some c.args.placed.token) c.args.placed.at c.item_start-start.result c.deref-3.result.now c.deref.result.now c.begins_item-begins.result c.resumes_item.result c.item_start-start.ensures (c.begins_item-begins.ensures context) (c.resumes_item.ensures context) (c.deref.ensures.value ∙ sym c.deref-3.ensures.value) in
    stopped s c.args.placed.at (Some c.args.placed) c.deref-3.result.now c.in-Err-take.fault c.at.result (fed_follows s f) (λ real. c.in-Err-take.ensures.barred real context _ s.made_by (fed_follows s f)) (c.at.ensures ∙ ap (λ (n : ℕ). fault_at c.in-Err-take.fault n c.args.placed.at) start) other

pub returns-clause-takes : goal.returns-clause-takes
returns-clause-takes g c = λ context steps s.
    let f = was_fed c.in_default.ensures.takes c.args.placed.token (c.class_of.ensures context) c.clear.ensures.items c.deref-3.result.now c.deref-3.ensures.value in
    let start = same_start (g.S.Syntax.rules context) c.args.self.now.last (Some c.args.placed.token) c.args.placed.at c.item_start-start.result c.deref-3.result.now c.deref.result.now c.begins_item-begins.result c.resumes_item.result c.item_start-start.ensures (c.begins_item-begins.ensures context) (c.resumes_item.ensures context) (c.deref.ensures.value ∙ sym c.deref-3.ensures.value) in
    stands_more s c.args.placed c.deref-3.result.now f (c.in_default-take.ensures.takes context _ s.made_by (fed_follows s f)) (c.in_default-take.ensures.free context _ s.made_by (fed_follows s f)) _ (same_item (g.S.Syntax.rules context) c.args.self.now.last c.args.placed c.item_start-start.result c.deref-3.result.now c.deref-2.result.now c.ends_item-is_whole.result start (c.ends_item-is_whole.ensures context) (c.deref-2.ensures.value ∙ sym c.deref-3.ensures.value))
