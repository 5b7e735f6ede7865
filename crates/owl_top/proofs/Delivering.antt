-- What is told of an answer when it is delivered, and of the words that asked for it.
use Rattle.std.proofs.Common.{Result, Ok, Err, OnOk, OnErr, ◌≡◌, ◌≢◌, ◌<◌, ◌⊎◌, inl, inr, ℕ, IsTrue, Option, Some, List, [], ◌∷◌, ◌++◌, length, take, codes, refl, sym, ap, ◌∙◌, subst}
use Rattle.std.specs.List.{AllByRecursion}
use Rattle.std.proofs.lemmas.List.{append-nil}
use Rattle.std.proofs.Math.Seq.{take-length}
use Rattle.owl_command.specs.Commands.{Asks, HasNoCommand, IsAmong, Name, Request, names_of}
use Rattle.owl_documents.specs.Shelves.{IsFaulty, IsFrontTaken, IsTaken, Rises, Shelves}
use Rattle.owl_answer.specs.Outcome.{IsQuiet, IsSettled, IsSuccess, IsTheOutcome}
use Rattle.owl_answer.specs.Runs.{Becomes, IsFrontNoted, IsFrontOfNote, IsFrontWritten, IsLine, IsNoted, IsNotedAlone, IsOutcome, IsWritten, LineFor, of_asked, of_memory, of_words, of_write_fault}
use Rattle.owl_answer.specs.Answers.{HasNoText, IsAnswered, IsFirstFaultyName, IsFound, IsWrittenFor, delivered_line}
use Rattle.owl_command.specs.declared.status.Status.{Status}
use Rattle.owl_command.specs.declared.status.Status.TheVariants.{Done, No, Words, Document as NoDocument, Target, Limit, ReadFailed, WriteFailed, Memory}
use Rattle.owl_top.proofs.Causes.{fault_in}
use Rattle.owl_command.proofs.CommandsLaws.{asks_once}
use Rattle.owl_top.proofs.Requests.{no_command_the, outcome_the}
use Rattle.owl_messages.specs.Outcome.{Outcome, refused}

-- what was put is a front of what was to be put, also where it is all
pub front_of : {T E : Type 0} (r : Result T E) (before after line : List ℕ) → OnOk r (after ≡ before ++ line) → OnErr r ((n : ℕ) × (n < length line) × (after ≡ before ++ take n line)) → (n : ℕ) × (after ≡ before ++ take n line)
front_of (Ok x) before after line e f = (length line, e ∙ ap (λ (z : List ℕ). before ++ z) (sym (take-length line)))
front_of (Err x) before after line e f = (f.0, f.2)

-- what statuses tell of each other
success_found : (status : Status) → IsSuccess status → IsSettled status
success_found Done h = tt
success_found No h = tt
success_found Words h = absurd h
success_found NoDocument h = absurd h
success_found Target h = absurd h
success_found Limit h = absurd h
success_found ReadFailed h = absurd h
success_found WriteFailed h = absurd h
success_found Memory h = absurd h

quiet_text : (status : Status) (text : List ℕ) → HasNoText status text → IsQuiet status → text ≡ []
quiet_text Done text h q = absurd q
quiet_text No text h q = absurd q
quiet_text Words text h q = h
quiet_text NoDocument text h q = h
quiet_text Target text h q = h
quiet_text Limit text h q = h
quiet_text ReadFailed text h q = h
quiet_text WriteFailed text h q = h
quiet_text Memory text h q = h

text_success : (status : Status) (text : List ℕ) → HasNoText status text → text ≢ [] → IsSuccess status
text_success Done text h n = tt
text_success No text h n = tt
text_success Words text h n = absurd (n h)
text_success NoDocument text h n = absurd (n h)
text_success Target text h n = absurd (n h)
text_success Limit text h n = absurd (n h)
text_success ReadFailed text h n = absurd (n h)
text_success WriteFailed text h n = absurd (n h)
text_success Memory text h n = absurd (n h)

found_line : (outcome : Outcome) (status : Status) → IsFound status → delivered_line outcome status ≡ outcome.line
found_line outcome Done h = refl
found_line outcome No h = refl
found_line outcome Words h = absurd h
found_line outcome NoDocument h = refl
found_line outcome Target h = refl
found_line outcome Limit h = refl
found_line outcome ReadFailed h = refl
found_line outcome WriteFailed h = absurd h
found_line outcome Memory h = absurd h

module _ (request : Request) (s : Shelves) (outcome : Outcome) (answered : IsAnswered request s outcome) (result : Status) where
  line_is : result ≡ outcome.status → delivered_line outcome result ≡ outcome.line
  line_is e = ap (delivered_line outcome) e ∙ found_line outcome outcome.status answered.proper.found

  module _ (how : (result ≡ outcome.status) ⊎ (result ≡ WriteFailed)) where
    pub told_some : result ≢ Words
    told_some = λ e. elim how [ inl f ↦ subst IsFound (sym f ∙ e) answered.proper.found | inr f ↦ let g = sym f ∙ e in cc ]

    as_told : (P : Status → Type 0) → (P WriteFailed → ⊥) → P result → result ≡ outcome.status
    as_told P n p = elim how [ inl f ↦ f | inr f ↦ absurd (n (subst P f p)) ]

    pub told_outcome : IsTrue s.tells → IsSettled result → (o : Outcome) × IsTheOutcome (Becomes s.old request) o × (result ≡ o.status)
    told_outcome tells h =
        let e = as_told IsSettled (λ b. b) h in
        (outcome, answered.judged tells (subst IsSettled e h), e)

    pub told_written : (before after : List ℕ) → (result ≢ WriteFailed → after ≡ before ++ outcome.text) → IsTrue s.tells → IsSuccess result → IsWrittenFor request s.old result before after
    told_written before after w tells h =
        let e = as_told IsSuccess (λ b. b) h in
        let ok = subst IsSuccess e h in
        record {
          outcome = outcome;
          is = answered.judged tells (success_found outcome.status ok);
          told = e;
          written = w (λ f. subst IsSuccess f h);
          back = answered.back tells ok;
        }

    pub told_ended : IsTrue s.tells → IsSuccess result → AllByRecursion (λ name. s.new name ≡ Some []) (names_of request)
    told_ended tells h = answered.ended tells (subst IsSuccess (as_told IsSuccess (λ b. b) h) h)

    pub told_quiet : (before after : List ℕ) → (result ≢ WriteFailed → after ≡ before ++ outcome.text) → IsQuiet result → after ≡ before
    told_quiet before after w h =
        let e = as_told IsQuiet (λ b. b) h in
        let none = quiet_text outcome.status outcome.text answered.proper.no_text (subst IsQuiet e h) in
        w (λ f. subst IsQuiet f h) ∙ ap (λ (x : List ℕ). before ++ x) none ∙ append-nil before

    pub told_front : (before after : List ℕ) → outcome.text ≢ [] → (n : ℕ) × (after ≡ before ++ take n outcome.text) → IsTrue s.tells → IsFrontWritten (Becomes s.old request) before after
    told_front before after some front tells =
        let ok = text_success outcome.status outcome.text answered.proper.no_text some in
        record {
          outcome = outcome;
          is = answered.judged tells (success_found outcome.status ok);
          success = ok;
          count = front.0;
          written = front.1;
        }

    fault_line : (IsCause : List ℕ → Type 0) → LineFor request IsCause outcome.status outcome.line → result ≡ ReadFailed → (name : List ℕ) × IsCause name
    fault_line IsCause line e =
        let f = as_told (λ (x : Status). x ≡ ReadFailed) (λ (g : WriteFailed ≡ ReadFailed). cc) e in
        fault_in request IsCause outcome.line (subst (λ (x : Status). LineFor request IsCause x outcome.line) (sym f ∙ e) line)

    pub told_fault : result ≡ ReadFailed → (name : List ℕ) × IsFaulty (Rises s) request name
    told_fault e = fault_line (IsFaulty (Rises s) request) answered.line e

    pub told_first_fault : IsTrue s.tells → result ≡ ReadFailed → (name : List ℕ) × IsFirstFaultyName s.old (Rises s) request name
    told_first_fault tells e = fault_line (IsFirstFaultyName s.old (Rises s) request) (answered.first tells) e

    told_line : (IsCause : List ℕ → Type 0) → LineFor request IsCause outcome.status outcome.line → LineFor request IsCause result (delivered_line outcome result)
    told_line IsCause line =
        elim how [
          | inl f ↦ subst (λ (l : List ℕ). LineFor request IsCause result l) (sym (line_is f)) (subst (λ (x : Status). LineFor request IsCause x outcome.line) (sym f) line)
          | inr f ↦ of_write_fault f (ap (delivered_line outcome) f)
        ]

    pub told_note : (before after : List ℕ) → after ≡ before ++ delivered_line outcome result → IsTrue s.tells → IsNoted (LineFor request (IsFirstFaultyName s.old (Rises s) request) result) (Becomes s.old request) result before after
    told_note before after e tells = record {
      line = delivered_line outcome result;
      is = told_line (IsFirstFaultyName s.old (Rises s) request) (answered.first tells);
      noted = e;
      told = λ h. let f = as_told IsSettled (λ b. b) h in (outcome, answered.judged tells (subst IsSettled f h), f, line_is f);
    }

    pub told_note_alone : (before after : List ℕ) → after ≡ before ++ delivered_line outcome result → IsNotedAlone (LineFor request (IsFaulty (Rises s) request) result) before after
    told_note_alone before after e = record {
      line = delivered_line outcome result;
      is = told_line (IsFaulty (Rises s) request) answered.line;
      noted = e;
    }

    pub told_note_front : (before after : List ℕ) → (n : ℕ) × (after ≡ before ++ take n (delivered_line outcome result)) → IsTrue s.tells → IsFrontOfNote (LineFor request (IsFirstFaultyName s.old (Rises s) request) result) (Becomes s.old request) result before after
    told_note_front before after front tells = record {
      line = delivered_line outcome result;
      whole = told_note before (before ++ delivered_line outcome result) refl tells;
      count = front.0;
      noted = front.1;
    }

    pub told_note_front_alone : (before after : List ℕ) → (n : ℕ) × (after ≡ before ++ take n (delivered_line outcome result)) → IsFrontNoted (LineFor request (IsFaulty (Rises s) request) result) before after
    told_note_front_alone before after front = record {
      line = delivered_line outcome result;
      is = told_line (IsFaulty (Rises s) request) answered.line;
      count = front.0;
      noted = front.1;
    }

-- each of these names
all_among : (P : List ℕ → Type 0) (names : List (List ℕ)) (name : List ℕ) → AllByRecursion P names → IsAmong names name → P name
all_among P [] name all among = absurd among
all_among P (first ∷ others) name all (inl e) = subst P (sym e) all.0
all_among P (first ∷ others) name all (inr among) = all_among P others name all.1 among

-- What is told of a request is told of the words that make it.
module _ (words : List (List ℕ)) (request : Request) (asks : Asks words request) (contents : List ℕ → Option (List ℕ)) where
  pub asked_outcome : (result : Status) → (o : Outcome) × IsTheOutcome (Becomes contents request) o × (result ≡ o.status) → (o : Outcome) × IsTheOutcome (IsOutcome words contents) o × (result ≡ o.status)
  asked_outcome result h = (h.0, outcome_the words contents request asks h.0 h.1, h.2)

  pub asked_written : (result : Status) (before after : List ℕ) → IsWrittenFor request contents result before after → IsWritten words contents result before after
  asked_written result before after w = record {
    outcome = w.outcome;
    is = outcome_the words contents request asks w.outcome w.is;
    told = w.told;
    written = w.written;
    request = request;
    asks = asks;
    back = w.back;
  }

  pub asked_front : (before after : List ℕ) → IsFrontWritten (Becomes contents request) before after → IsFrontWritten (IsOutcome words contents) before after
  asked_front before after w = record {
    outcome = w.outcome;
    is = outcome_the words contents request asks w.outcome w.is;
    success = w.success;
    count = w.count;
    written = w.written;
  }

  among_asked : (name : List ℕ) → Name words name → IsAmong (names_of request) name
  among_asked name n =
      subst (λ (r : Request). IsAmong (names_of r) name) (asks_once words n.request request n.asks asks) n.among

  pub asked_ended : (new : List ℕ → Option (List ℕ)) → AllByRecursion (λ name. new name ≡ Some []) (names_of request) → (name : List ℕ) → Name words name → new name ≡ Some []
  asked_ended new all name n = all_among (λ (x : List ℕ). new x ≡ Some []) (names_of request) name all (among_asked name n)

  pub asked_others : (new : List ℕ → Option (List ℕ)) → IsTaken request contents new → (name : List ℕ) → (Name words name → ⊥) → new name ≡ contents name
  asked_others new taken name absent = taken.others name (λ among. absent (record { request = request; asks = asks; among = among }))

  pub asked_taken : (new : List ℕ → Option (List ℕ)) → IsTaken request contents new → (name : List ℕ) → Name words name → IsFrontTaken (contents name) (new name)
  asked_taken new taken name n = taken.taken name (among_asked name n)

  pub asked_fault : (Rises : List ℕ → Type 0) → (name : List ℕ) × IsFaulty Rises request name → (name : List ℕ) × Name words name × Rises name
  asked_fault Rises h = (h.0, record { request = request; asks = asks; among = h.1.0 }, h.1.1)

  pub asked_note : (IsCause : Request → List ℕ → Type 0) (result : Status) (before after : List ℕ) → IsNoted (LineFor request (IsCause request) result) (Becomes contents request) result before after → IsNoted (IsLine words IsCause result) (IsOutcome words contents) result before after
  asked_note IsCause result before after n = record {
    line = n.line;
    is = of_asked request asks n.is;
    noted = n.noted;
    told = λ h. let t = n.told h in (t.0, outcome_the words contents request asks t.0 t.1, t.2, t.3);
  }

  pub asked_note_alone : (IsCause : Request → List ℕ → Type 0) (result : Status) (before after : List ℕ) → IsNotedAlone (LineFor request (IsCause request) result) before after → IsNotedAlone (IsLine words IsCause result) before after
  asked_note_alone IsCause result before after n = record { line = n.line; is = of_asked request asks n.is; noted = n.noted }

  pub asked_note_front : (IsCause : Request → List ℕ → Type 0) (result : Status) (before after : List ℕ) → IsFrontOfNote (LineFor request (IsCause request) result) (Becomes contents request) result before after → IsFrontOfNote (IsLine words IsCause result) (IsOutcome words contents) result before after
  asked_note_front IsCause result before after n = record {
    line = n.line;
    whole = asked_note IsCause result before (before ++ n.line) n.whole;
    count = n.count;
    noted = n.noted;
  }

  pub asked_note_front_alone : (IsCause : Request → List ℕ → Type 0) (result : Status) (before after : List ℕ) → IsFrontNoted (LineFor request (IsCause request) result) before after → IsFrontNoted (IsLine words IsCause result) before after
  asked_note_front_alone IsCause result before after n = record { line = n.line; is = of_asked request asks n.is; count = n.count; noted = n.noted }

-- Where no device failed, all is settled, or memory ran out.
pub completes_by : (P : Type 0) (result : Status) → (IsSettled result → P) → (result ≡ ReadFailed → ⊥) → (result ≡ WriteFailed → ⊥) → P ⊎ (result ≡ Memory)
completes_by P Done f r w = inl (f tt)
completes_by P No f r w = inl (f tt)
completes_by P Words f r w = inl (f tt)
completes_by P NoDocument f r w = inl (f tt)
completes_by P Target f r w = inl (f tt)
completes_by P Limit f r w = inl (f tt)
completes_by P ReadFailed f r w = absurd (r refl)
completes_by P WriteFailed f r w = absurd (w refl)
completes_by P Memory f r w = inr refl

-- Where the words have no command, this is told.
module _ (words : List (List ℕ)) (contents : List ℕ → Option (List ℕ)) (IsCause : Request → List ℕ → Type 0) where
  pub no_command_note : HasNoCommand words → (before after : List ℕ) → after ≡ before ++ codes "words\n" → IsNoted (IsLine words IsCause Words) (IsOutcome words contents) Words before after
  no_command_note none before after e = record {
    line = codes "words\n";
    is = of_words none refl refl;
    noted = e;
    told = λ h. (refused Words (codes "words\n"), no_command_the words contents none, refl, refl);
  }

  pub no_command_front : HasNoCommand words → (before after : List ℕ) → (n : ℕ) × (after ≡ before ++ take n (codes "words\n")) → IsFrontOfNote (IsLine words IsCause Words) (IsOutcome words contents) Words before after
  no_command_front none before after front = record {
    line = codes "words\n";
    whole = no_command_note none before (before ++ codes "words\n") refl;
    count = front.0;
    noted = front.1;
  }

  pub memory_note : (before after : List ℕ) → after ≡ before ++ codes "memory\n" → IsNoted (IsLine words IsCause Memory) (IsOutcome words contents) Memory before after
  memory_note before after e = record { line = codes "memory\n"; is = of_memory refl refl; noted = e; told = λ h. absurd h }

  pub memory_front : (before after : List ℕ) → (n : ℕ) × (after ≡ before ++ take n (codes "memory\n")) → IsFrontOfNote (IsLine words IsCause Memory) (IsOutcome words contents) Memory before after
  memory_front before after front = record {
    line = codes "memory\n";
    whole = memory_note before (before ++ codes "memory\n") refl;
    count = front.0;
    noted = front.1;
  }
