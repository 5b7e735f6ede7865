-- What the line of a read fault tells.
use Rattle.std.proofs.Common.{◌≡◌, inl, inr, ℕ, List, refl, sym, ap, ◌∙◌, subst}
use Rattle.owl_reader.specs.declared.fault.ReadFault.TheVariants as read
use Rattle.owl_documents.specs.declared.trouble.Refusal.{Refusal}
use Rattle.owl_documents.specs.declared.trouble.Refusal.TheVariants.{DocumentBytes, AllBytes, Unreadable, Headless, NotCanon}
use Rattle.owl_command.specs.Commands.{Request, compares, of_main, tries}
use Rattle.owl_command.specs.declared.command.Action.TheVariants.{Translate, Check, Show, Declare, Canon, Digest}
use Rattle.owl_documents.specs.Documents.{IsProperRefusal}
use Rattle.rdf_scans.specs.declared.fault.OutlineFault.TheVariants as outline
use Rattle.owl_answer.specs.Outcome.{IsSettled}
use Rattle.owl_answer.specs.Runs.{IsIllTyped, IsRefusalLine, IsUnsayable, LineFor, SuccessLine, of_bytes, of_clash, of_declarations, of_saying, of_import, of_no_memory, of_output, of_part, of_read_fault, of_refusal, of_success, of_trial, of_triples, of_two_kinds, of_typing, of_undeclared, of_unsayable, of_weight, of_write_fault}
use Rattle.owl_command.specs.declared.status.Status.TheVariants.{ReadFailed}
use Rattle.owl_messages.proofs.UnsaidLaws.{IsRefusal, unsaid_is_refused}
use Rattle.owl_messages.specs.Outcome.{Outcome, refusal_outcome}
use Rattle.owl_messages.specs.Unsaid.{unsaid_outcome}

-- the line of a read fault names a document with its cause
no_success : (request : Request) (line : List ℕ) → SuccessLine request ReadFailed line → ⊥
no_success (of_main (Translate target) options names) line s = s
no_success (of_main (Check profile) options names) line s = s
no_success (of_main Show options names) line s = s
no_success (of_main (Declare target) options names) line s = s
no_success (of_main Canon options names) line s = s
no_success (of_main Digest options names) line s = s
no_success (compares first second) line s = s
no_success (tries size) line s = s

no_refusal : (name : List ℕ) (refusal : Refusal) → IsProperRefusal refusal → ReadFailed ≡ (refusal_outcome name refusal).status → ⊥
no_refusal name DocumentBytes n e = cc
no_refusal name AllBytes n e = cc
no_refusal name (Unreadable (read.Refused item at reason)) n e = cc
no_refusal name (Unreadable read.TooLong) n e = cc
no_refusal name (Unreadable read.TooDeep) n e = cc
no_refusal name (Unreadable read.TooHeavy) n e = cc
no_refusal name (Unreadable read.NumberTooLarge) n e = cc
no_refusal name (Unreadable read.TooMany) n e = cc
no_refusal name (Unreadable read.Memory) n e = n refl
no_refusal name (Headless outline.NoHeader) n e = cc
no_refusal name (Headless outline.TwoHeaders) n e = cc
no_refusal name (Headless (outline.BadHeader node)) n e = cc
no_refusal name (Headless outline.Memory) n e = n refl
no_refusal name NotCanon n e = cc

not_failed : (o : Outcome) → IsRefusal o → ReadFailed ≡ o.status → ⊥
not_failed o (inl f) e = let same = e ∙ ap (λ (x : Outcome). x.status) f in cc
not_failed o (inr f) e = let same = e ∙ ap (λ (x : Outcome). x.status) f in cc

no_refusal_line : (name : List ℕ) (line : List ℕ) → IsRefusalLine name ReadFailed line → ⊥
no_refusal_line name line (of_bytes refusal n e l) = no_refusal name refusal n e
no_refusal_line name line (of_import iri e l) = cc
no_refusal_line name line (of_saying fault n e l) = not_failed (unsaid_outcome name fault) (unsaid_is_refused name fault n) e

no_typing : (refusal : Outcome) → IsIllTyped refusal → ReadFailed ≡ refusal.status → ⊥
no_typing _ (of_two_kinds iri) e = cc
no_typing _ (of_undeclared part entity) e = cc

no_unsayable : (refusal : Outcome) → IsUnsayable refusal → ReadFailed ≡ refusal.status → ⊥
no_unsayable _ (of_part part why) e = cc
no_unsayable _ of_weight e = cc

pub fault_in : (request : Request) (IsCause : List ℕ → Type 0) (line : List ℕ) → LineFor request IsCause ReadFailed line → (name : List ℕ) × IsCause name
fault_in request IsCause line (of_success s) = absurd (no_success request line s)
fault_in request IsCause line (of_refusal name among r) = absurd (no_refusal_line name line r)
fault_in request IsCause line (of_clash asks iri e l) = absurd (cc)
fault_in request IsCause line (of_declarations asks e l) = absurd (cc)
fault_in request IsCause line (of_typing asks refusal h e l) = absurd (no_typing refusal h e)
fault_in request IsCause line (of_unsayable asks refusal h e l) = absurd (no_unsayable refusal h e)
fault_in request IsCause line (of_triples asks e l) = absurd (cc)
fault_in request IsCause line (of_output e l) = absurd (cc)
fault_in request IsCause line (of_trial size same outcome h settled e l) = absurd (subst IsSettled (sym e) settled)
fault_in request IsCause line (of_read_fault name h e l) = (name, h)
fault_in request IsCause line (of_write_fault e l) = absurd (cc)
fault_in request IsCause line (of_no_memory e l) = absurd (cc)
