use Rattle.std.proofs.Common.{sym, ap, ◌∙◌, ℕ, None}
use Rattle.owl_reader.specs.Faults.{fault_at}
use Rattle.owl_reader.proofs.Taking.{end_follows, ends_so, may_end, refused_end, same_start, stopped, was_ended}
use Rattle.owl_reader.proofs.progress.Progress.end.Goals as goal

pub returns-in-Err-clause-refuses : goal.returns-in-Err-clause-refuses
returns-in-Err-clause-refuses g c = λ other context steps s.
    refused_end s c.args.at c.in_ok-anew.anew (c.in_ok-anew.ensures context steps s _ (c.end_begins_item-begins.ensures context)) c.in-Err.fault c.refusal_of.result (c.in-Err.ensures.refuses s.open_yet) c.refusal_of.ensures other

pub take-requires : goal.take-requires
take-requires g c = (c.requires.stands.0, may_end c.requires.stands.1 (was_ended c.in_default.ensures.ends c.clear.ensures.items c.deref-2.result.now c.deref-2.ensures.value))

pub returns-in-Ok-clause-ends : goal.returns-in-Ok-clause-ends
returns-in-Ok-clause-ends g c = λ context steps s.
    let f = was_ended c.in_default.ensures.ends c.clear.ensures.items c.deref-2.result.now c.deref-2.ensures.value in
    ends_so c.deref-2.result.now s f (c.in-Ok.ensures.takes context _ s.made_by (end_follows s f)) (c.in-Ok.ensures.free context _ s.made_by (end_follows s f))

pub returns-in-Err-take-clause-refuses : goal.returns-in-Err-take-clause-refuses
returns-in-Err-take-clause-refuses g c = λ other context steps s.
    let start = same_start (g.S.Syntax.rules context) c.args.self.now.last None c.args.at c.item_start-start.result c.deref-2.result.now c.deref.result.now c.end_begins_item-begins.result c.resumes_item.result c.item_start-start.ensures (c.end_begins_item-begins.ensures context) (c.resumes_item.ensures context) (c.deref.ensures.value ∙ sym c.deref-2.ensures.value) in
    let f = was_ended c.in_default.ensures.ends c.clear.ensures.items c.deref-2.result.now c.deref-2.ensures.value in
    stopped s c.args.at None c.deref-2.result.now c.in-Err-take.fault c.at.result (end_follows s f) (λ real. c.in-Err-take.ensures.barred real context _ s.made_by (end_follows s f)) (c.at.ensures ∙ ap (λ (n : ℕ). fault_at c.in-Err-take.fault n c.args.at) start) other
