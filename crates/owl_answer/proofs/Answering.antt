-- What is answered is what is asked.
use Rattle.std.proofs.Common.{◌≡◌, ◌≢◌, ℕ, IsTrue, Some, List, [], slice_get, refl, sym, ap, ◌∙◌, subst}
use Rattle.std.specs.List.{AllByRecursion}
use Rattle.owl_command.specs.Commands.{IsAmong, Request, Source, names_of, sources_of}
use Rattle.owl_command.proofs.SourceLaws.{name_at}
use Rattle.owl_documents.specs.Documents.{AreRead, Contents, IsFirstRefused, Parsed, IsProperRefusal}
use Rattle.owl_documents.specs.OneWay.{NeverBoth, ReadOneWay, RefusedOneWay}
use Rattle.owl_documents.specs.Reading.{IsStop, of_failure, of_no_memory, of_refusal}
use Rattle.owl_documents.specs.Shelves.{IsFaulty, IsFirstFaulty, Rises, Shelves}
use Rattle.owl_documents.specs.declared.trouble.Refusal.{Refusal}
use Rattle.owl_documents.specs.declared.trouble.Stop.{Stop}
use Rattle.owl_documents.specs.declared.trouble.Trouble.TheVariants.{ReadFailed, Memory}
use Rattle.owl_answer.specs.Runs.{Becomes, Concludes, all_read, not_read, of_read_fault}
use Rattle.owl_answer.specs.Answers.{IsAnswered, IsConclusion, IsFirstFaultyName}
use Rattle.owl_answer.proofs.Concluding.{concluded_once}
use Rattle.owl_answer.proofs.Lines.{at_among, concluded_told, refused_fails, refused_told}
use Rattle.owl_messages.specs.Answers.{trouble_outcome}
use Rattle.owl_messages.specs.Outcome.{Outcome, refusal_outcome}

module _ (read_way : ReadOneWay) (refused_way : RefusedOneWay) (never : NeverBoth) (request : Request) where
  read_only : (contents : Contents) (documents : List Parsed) (outcome other : Outcome) → AreRead contents (sources_of request) documents → Concludes request documents outcome → Becomes contents request other → outcome ≡ other
  read_only contents documents outcome other r c (not_read source refusal f e) =
      absurd (never contents (sources_of request) documents source refusal r f)
  read_only contents documents outcome other r c (all_read others s d) =
      concluded_once read_way refused_way never request documents others (read_way contents (sources_of request) documents others r s) outcome other c d

  refused_only : (contents : Contents) (source : Source) (refusal : Refusal) (other : Outcome) → IsFirstRefused contents (sources_of request) source refusal → Becomes contents request other → refusal_outcome source.name refusal ≡ other
  refused_only contents source refusal other f (not_read there another g e) =
      let one = refused_way contents (sources_of request) source there refusal another f g in
      ap (λ (x : Source). refusal_outcome x.name refusal) one.0 ∙ ap (refusal_outcome there.name) one.1 ∙ sym e
  refused_only contents source refusal other f (all_read documents r c) =
      absurd (never contents (sources_of request) documents source refusal r f)

  module _ (s : Shelves) where
    -- the documents are read
    pub answered_read : (documents : List Parsed) (outcome : Outcome) → (IsTrue s.tells → AreRead s.old (sources_of request) documents) → (IsTrue s.tells → AllByRecursion (λ name. s.new name ≡ Some []) (names_of request)) → IsConclusion request documents outcome → IsAnswered request s outcome
    answered_read documents outcome r ended c =
        let told = concluded_told request documents outcome c.concludes in
        record {
          judged = λ tells _. record { is = all_read documents (r tells) c.concludes; only = λ other b. read_only s.old documents outcome other (r tells) c.concludes b };
          back = λ tells h. record { documents = documents; read = r tells; back = c.back h };
          proper = told.proper;
          line = told.line (IsFaulty (Rises s) request);
          first = λ _. told.line (IsFirstFaultyName s.old (Rises s) request);
          ended = λ tells _. ended tells;
        }

    refused_answered : (source : Source) (refusal : Refusal) → IsAmong (names_of request) source.name → IsProperRefusal refusal → (IsTrue s.tells → IsFirstRefused s.old (sources_of request) source refusal) → IsAnswered request s (refusal_outcome source.name refusal)
    refused_answered source refusal among n f =
        let told = refused_told request source.name refusal among n in
        record {
          judged = λ tells _. record { is = not_read source refusal (f tells) refl; only = λ other b. refused_only s.old source refusal other (f tells) b };
          back = λ _ h. absurd (refused_fails source.name refusal h);
          proper = told.proper;
          line = told.line (IsFaulty (Rises s) request);
          first = λ _. told.line (IsFirstFaultyName s.old (Rises s) request);
          ended = λ _ h. absurd (refused_fails source.name refusal h);
        }

    failed_answered : (source : Source) → IsFaulty (Rises s) request source.name → (IsTrue s.tells → IsFirstFaulty s.old (Rises s) request source) → IsAnswered request s (trouble_outcome source.name ReadFailed)
    failed_answered source h f = record {
      judged = λ _ k. absurd k;
      back = λ _ k. absurd k;
      proper = record { found = tt; no_text = refl };
      line = of_read_fault source.name h refl refl;
      first = λ tells. of_read_fault source.name (source, refl, f tells) refl refl;
      ended = λ _ k. absurd k;
    }

    -- one of them is not
    pub answered_stop : (stop : Stop) (name : List ℕ) (outcome : Outcome) → IsStop request s stop → slice_get (names_of request) stop.document ≡ Some name → stop.trouble ≢ Memory → outcome ≡ trouble_outcome name stop.trouble → IsAnswered request s outcome
    answered_stop stop name outcome (of_refusal own at refusal e n f) there m told =
        let named = name_at request stop.document own at in
        let same : own.name ≡ name = cc in
        let is : outcome ≡ refusal_outcome own.name refusal = cc in
        subst (IsAnswered request s) (sym is) (refused_answered own refusal (at_among (names_of request) stop.document own.name named) n f)
    answered_stop stop name outcome (of_failure own at e h f) there m told =
        let named = name_at request stop.document own at in
        let same : own.name ≡ name = cc in
        let is : outcome ≡ trouble_outcome own.name ReadFailed = cc in
        subst (IsAnswered request s) (sym is) (failed_answered own h f)
    answered_stop stop name outcome (of_no_memory bound e) there m told = absurd (m e)
