-- What is answered to what words ask for is what is answered to them.
use Rattle.std.proofs.Common.{◌≡◌, ℕ, List, codes, refl, sym, ◌∙◌, subst}
use Rattle.std.specs.Prelude.{◌↔◌}
use Rattle.owl_command.specs.Commands.{Asks, HasNoCommand, Request, of_main}
use Rattle.owl_command.specs.declared.command.Action.TheVariants.{Check}
use Rattle.owl_command.specs.declared.command.Options.{Options}
use Rattle.owl_command.specs.declared.command.Profile.{Profile}
use Rattle.owl_command.proofs.CommandsLaws.{asks_once}
use Rattle.owl_documents.specs.Documents.{Contents}
use Rattle.owl_answer.specs.InProfile.{IsInProfile}
use Rattle.owl_answer.specs.Outcome.{IsTheOutcome}
use Rattle.owl_answer.proofs.InProfileLaws.{yes_exactly_within}
use Rattle.owl_answer.specs.Runs.{Becomes, IsOutcome, no_command, of_request}
use Rattle.owl_command.specs.declared.status.Status.{Status}
use Rattle.owl_command.specs.declared.status.Status.TheVariants.{Done, Words}
use Rattle.owl_messages.specs.Outcome.{Outcome, refused}

module _ (words : List (List ℕ)) (contents : Contents) where
  asked_only : (request : Request) → Asks words request → (own other : Outcome) → ((o : Outcome) → Becomes contents request o → own ≡ o) → IsOutcome words contents other → own ≡ other
  asked_only request asks own other f (no_command n e) = absurd (n request asks)
  asked_only request asks own other f (of_request found k b) =
      f other (subst (λ (r : Request). Becomes contents r other) (asks_once words found request k asks) b)

  -- what is answered to a request is what is answered to the words
  pub outcome_the : (request : Request) → Asks words request → (outcome : Outcome) → IsTheOutcome (Becomes contents request) outcome → IsTheOutcome (IsOutcome words contents) outcome
  outcome_the request asks outcome t = record {
    is = of_request request asks t.is;
    only = λ other b. asked_only request asks outcome other t.only b;
  }

  no_command_only : HasNoCommand words → (other : Outcome) → IsOutcome words contents other → refused Words (codes "words\n") ≡ other
  no_command_only none other (no_command n e) = sym e
  no_command_only none other (of_request found k b) = absurd (none found k)

  pub no_command_the : HasNoCommand words → IsTheOutcome (IsOutcome words contents) (refused Words (codes "words\n"))
  no_command_the none = record { is = no_command none refl; only = λ other b. no_command_only none other b }

  -- a check ends with yes exactly where the closure is in the profile
  pub check_done : (request : Request) → Asks words request → (status : Status) → (outcome : Outcome) × IsTheOutcome (Becomes contents request) outcome × (status ≡ outcome.status) → (profile : Profile) (options : Options) (names : List (List ℕ)) → Asks words (of_main (Check profile) options names) → (status ≡ Done) ↔ IsInProfile contents (of_main (Check profile) options names) profile
  check_done request asks status told profile options names checks =
      let same : request ≡ of_main (Check profile) options names = asks_once words request (of_main (Check profile) options names) asks checks in
      let exactly = yes_exactly_within contents profile options names told.0 (subst (λ (r : Request). IsTheOutcome (Becomes contents r) told.0) same told.1) in
      (λ e. exactly.0 (sym told.2 ∙ e), λ h. told.2 ∙ exactly.1 h)
