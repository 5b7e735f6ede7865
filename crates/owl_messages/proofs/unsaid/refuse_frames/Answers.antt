use Rattle.std.proofs.Common.{IfOk, ◌≡◌, sym, subst}
use Rattle.man_resolve.specs.declared.fault.ResolveFault.{ResolveFault}
use Rattle.owl_messages.specs.Answers.{outcome_of}
use Rattle.owl_messages.specs.Outcome.{frames_outcome}
use Rattle.owl_messages.proofs.unsaid.refuse_frames.Goals as goal

pub returns-in-WrongKind-clause-outcome : goal.returns-in-WrongKind-clause-outcome
returns-in-WrongKind-clause-outcome c =
    subst (λ (f : ResolveFault). IfOk c.refuse_name-in-WrongKind.result (λ answer. outcome_of answer ≡ frames_outcome c.args.name.now f))
    (sym c.in-WrongKind.is) c.refuse_name-in-WrongKind.ensures
