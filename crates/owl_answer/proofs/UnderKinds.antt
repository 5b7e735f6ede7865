-- What is read of the documents of a closure, and of two documents, is what is concluded.
use Rattle.std.proofs.Common.{◌≡◌, ◌≢◌, ◌<◌, ◌≤◌, inl, inr, ℕ, zero, suc, Bool, Some, List, [], ◌∷◌, ◌++◌, Contains, length, slice_get, refl, sym, ◌∙◌, subst, arith}
use Rattle.std.proofs.lemmas.Bool.{cases_order}
use Rattle.std.proofs.lemmas.List.Elements.{Contains-append_right}
use Rattle.std.proofs.lemmas.Option.{slice_get_within}
use Rattle.std.specs.declared.cmp.Ordering.TheVariants.{Less}
use Rattle.std.specs.List.{AllByRecursion}
use Rattle.std.specs.Ordering.{nat_cmp}
use Rattle.owl_close.specs.Imports.{main}
use Rattle.owl_command.specs.declared.command.Options.{Options}
use Rattle.owl_command.specs.Commands.{AsksImports, IsAllowed, Request, compares, names_of, of_main, request_of, tries}
use Rattle.owl_command.specs.declared.command.Action.{Action}
use Rattle.owl_doc.specs.Documents.{Document}
use Rattle.owl_documents.specs.Documents.{Parsed, Said}
use Rattle.owl_kind.specs.Kinds.{Entity}
use Rattle.owl_list.specs.Ascending.{IsAscending}
use Rattle.owl_list.proofs.AscendingLaws.{all_in, head_below, in_cases, in_head, in_tail, tail_ascends}
use Rattle.owl_messages.specs.declared.unsaid.UnsaidFault.{UnsaidFault}
use Rattle.owl_messages.specs.declared.unsaid.UnsaidFault.TheVariants.{Memory}
use Rattle.owl_answer.specs.Answers.{IsAnswerBy, IsToldOf}
use Rattle.owl_answer.specs.Asked.{IsOfAction, IsOfTwo}
use Rattle.owl_answer.specs.KindsAt.{AreOwnKinds, IsClosure}
use Rattle.owl_answer.specs.Outcome.{IsComparison, IsSuccess}
use Rattle.owl_answer.specs.Reading.{AllSayAt, IsFirstFault, IsUnsaidAlone, SaysAlone, SaysSomeAt}
use Rattle.owl_answer.specs.Runs.{all_say, says_nothing}
use Rattle.owl_answer.specs.Trials.{IsTrialOutcome}
use Rattle.owl_answer.specs.UnderKinds.{AllSay, ComparesTwo, IsFirstUnsaid, IsReadUnder, IsUnsaidAt, SaysAt, SaysSome, SaysUnder}
use Rattle.owl_answer.specs.declared.asked.Asked.{Asked}
use Rattle.owl_answer.specs.declared.closure.Closure.{Closure}
use Rattle.owl_answer.specs.declared.reading.Unsaid.{Unsaid}
use Rattle.owl_answer.proofs.Agreement.{read_once, says_or_not}
use Rattle.owl_answer.proofs.Closures.{closure_once}
use Rattle.owl_answer.proofs.Lines.{unsaid_fails}
use Rattle.owl_answer.proofs.Readings.{all_some, less_is}
use Rattle.owl_answer.proofs.Same.{is_proper, never_says_both}
use Rattle.owl_messages.specs.Outcome.{IsLimited, Outcome}
use Rattle.owl_messages.specs.Unsaid.{unsaid_outcome}

both_less : (m n : ℕ) → m < n → n < m → ⊥
both_less m n l k = omega arith

same_less : (m n : ℕ) → m ≡ n → n < m → ⊥
same_less m n e l = omega arith

-- what is less than a place stands before it
earlier : (before after : List ℕ) (place other : ℕ) → IsAscending nat_cmp (before ++ place ∷ after) → Contains (before ++ place ∷ after) other → other < place → Contains before other
earlier [] after place other a m l =
    elim (in_cases place after other m) [
      | inl e ↦ absurd (same_less place other e l)
      | inr n ↦ absurd (both_less place other (less_is place other (all_in (λ y. nat_cmp place y ≡ Less) after other (head_below nat_cmp place after a) n)) l)
    ]
earlier (x ∷ before) after place other a m l =
    elim (in_cases x (before ++ place ∷ after) other m) [
      | inl e ↦ subst (λ (w : ℕ). Contains (x ∷ before) w) e (in_head x before)
      | inr n ↦ in_tail x before other (earlier before after place other (tail_ascends nat_cmp x (before ++ place ∷ after) a) n l)
    ]

-- a document that says nothing
unsaid_answer : (request : Request) (documents : List Parsed) (place : ℕ) (fault : UnsaidFault) (name : List ℕ) (outcome : Outcome) → IsFirstUnsaid request documents place fault → slice_get (names_of request) place ≡ Some name → outcome ≡ unsaid_outcome name fault → IsAnswerBy request documents outcome
unsaid_answer request documents place fault name outcome u at e = record {
  answers = says_nothing place fault name u at e;
  back = λ s. absurd (unsaid_fails name fault (is_proper u.unsaid.kinds u.unsaid.parsed fault u.unsaid.unsaid) (subst (λ (o : Outcome). IsSuccess o.status) e s));
}

-- the closure of a main document
module _ (action : Action) (options : Options) (names : List (List ℕ)) (documents : List Parsed) (closure : Closure) (c : IsClosure documents closure) where
  -- what is read is at one of its places, under its kinds
  among : (place : ℕ) (p : Parsed) (k : List Entity) → IsReadUnder (of_main action options names) documents place p k → Contains closure.places.items place
  among place p k r = (c.reached.reached place).1 r.under.0

  says_there : (place : ℕ) → SaysSomeAt documents closure.kinds place → (p : Parsed) (k : List Entity) → IsReadUnder (of_main action options names) documents place p k → SaysSome k p
  says_there place h p k r =
      subst (λ (l : List Entity). SaysSome l p) (closure_once documents closure.kinds k c.declared r.under.1) (h p r.there)

  never_there : (place : ℕ) → SaysSomeAt documents closure.kinds place → (fault : UnsaidFault) → IsUnsaidAt (of_main action options names) documents place fault → ⊥
  never_there place h fault u =
      let own = says_there place h u.parsed u.kinds u.read in
      never_says_both u.kinds u.parsed own.0 fault own.1 u.unsaid

  all_said : AllByRecursion (SaysSomeAt documents closure.kinds) closure.places.items → AllSay (of_main action options names) documents
  all_said all place p k r =
      says_there place (all_in (SaysSomeAt documents closure.kinds) closure.places.items place all (among place p k r)) p k r

  -- all of it says something
  told_answer : (held : List Document) → AllSayAt documents closure.kinds closure.places.items held → (outcome : Outcome) → IsToldOf action documents outcome → IsAnswerBy (of_main action options names) documents outcome
  told_answer held all outcome t =
      let first : SaysAt (of_main action options names) documents 0 t.main = record { parsed = t.parsed; kinds = t.kinds; read = record { there = t.there; under = (main, t.declared) }; says = t.says } in
      record {
        answers = all_say (all_said (all_some documents closure.kinds closure.places.items held all)) (record { said = t.main; main = first; holds = t.told.is });
        back = λ s. record { said = t.main; main = first; holds = t.told.back s };
      }

  -- one document does not
  module _ (unsaid : Unsaid) (h : IsFirstFault documents closure.kinds closure.places.items unsaid) (n : unsaid.fault ≢ Memory) where
    at_fault : Contains closure.places.items unsaid.document
    at_fault =
        subst (λ (xs : List ℕ). Contains xs unsaid.document) (sym h.split)
        (Contains-append_right h.before (unsaid.document ∷ h.after) unsaid.document (in_head unsaid.document h.after))

    none_earlier : (other : ℕ) → other < unsaid.document → (fault : UnsaidFault) → IsUnsaidAt (of_main action options names) documents other fault → ⊥
    none_earlier other l fault u =
        let ascends = subst (IsAscending nat_cmp) h.split c.reached.ascending in
        let there = subst (λ (xs : List ℕ). Contains xs other) h.split (among other u.parsed u.kinds u.read) in
        let before = earlier h.before h.after unsaid.document other ascends there l in
        never_there other (all_in (SaysSomeAt documents closure.kinds) h.before other h.say before) fault u

    fault_first : IsFirstUnsaid (of_main action options names) documents unsaid.document unsaid.fault
    fault_first = record {
      unsaid = record {
        parsed = h.fault.0;
        kinds = closure.kinds;
        read = record { there = h.fault.1; under = ((c.reached.reached unsaid.document).0 at_fault, c.declared) };
        unsaid = h.fault.2 n;
      };
      first = λ other theirs u. elim (cases_order other unsaid.document) [
        | inl e ↦ let same = e in omega arith
        | inr m ↦ elim m [ inl l ↦ absurd (none_earlier other l theirs u) | inr l ↦ omega arith ]
      ];
    }

-- what is asked for is an action
module _ (request : Request) (action : Action) (options : Options) (names : List (List ℕ)) (asks : request ≡ of_main action options names) (documents : List Parsed) (closure : Closure) (c : IsClosure documents closure) where
  pub action_told : (held : List Document) → AllSayAt documents closure.kinds closure.places.items held → (outcome : Outcome) → IsToldOf action documents outcome → IsAnswerBy request documents outcome
  action_told held all outcome told =
      subst (λ (r : Request). IsAnswerBy r documents outcome) (sym asks) (told_answer action options names documents closure c held all outcome told)

  pub action_unsaid : (unsaid : Unsaid) → IsFirstFault documents closure.kinds closure.places.items unsaid → unsaid.fault ≢ Memory → (name : List ℕ) → slice_get (names_of request) unsaid.document ≡ Some name → (outcome : Outcome) → outcome ≡ unsaid_outcome name unsaid.fault → IsAnswerBy request documents outcome
  action_unsaid unsaid h n name at outcome e =
      let first = subst (λ (r : Request). IsFirstUnsaid r documents unsaid.document unsaid.fault) (sym asks) (fault_first action options names documents closure c unsaid h n) in
      unsaid_answer request documents unsaid.document unsaid.fault name outcome first at e

-- documents that are asked for are there

main_named : (request : Request) (action : Action) (options : Options) (names : List (List ℕ)) → IsAllowed request → request ≡ of_main action options names → 0 < length (names_of request)
main_named (of_main a o ns) action options names h e = h.named.some
main_named (compares one other) action options names h e = h.some
main_named (tries size) action options names h e = absurd (cc)

pub imports_named : (request : Request) → IsAllowed request → AsksImports request → 0 < length (names_of request)
imports_named (of_main a o ns) h asked = h.named.some
imports_named (compares one other) h asked = h.some
imports_named (tries size) h asked = absurd asked

pub some_of_main : (asked : Asked) (action : Action) → IsOfAction asked action → 0 < length asked.docs.items
some_of_main asked action t =
    let named = main_named (request_of asked.command.now) action t.options t.names t.asked_for.allowed t.asks in
    subst (λ (n : ℕ). 0 < n) (sym t.asked_for.each) named

-- two documents
two_names : (request : Request) → ComparesTwo request → length (names_of request) ≡ 2
two_names (of_main action options names) alone = absurd alone
two_names (compares one other) alone = refl
two_names (tries size) alone = absurd alone

-- as many as names
pub are_two : (asked : Asked) → IsOfTwo asked → (length asked.docs.items ≡ 2) × (length (names_of (request_of asked.command.now)) ≡ 2)
are_two asked t =
    let names = two_names (request_of asked.command.now) t.of_two in
    (t.asked_for.each ∙ names, names)

own_read : (request : Request) → ComparesTwo request → (documents : List Parsed) (place : ℕ) (parsed : Parsed) (kinds : List Entity) → slice_get documents place ≡ Some parsed → AreOwnKinds parsed kinds → IsReadUnder request documents place parsed kinds
own_read (of_main action options names) two documents place parsed kinds there own = absurd two
own_read (compares one other) two documents place parsed kinds there own = record { there = there; under = own }
own_read (tries size) two documents place parsed kinds there own = absurd two

module _ (request : Request) (documents : List Parsed) where
  first_unsaid : (fault : UnsaidFault) → IsUnsaidAt request documents 0 fault → IsFirstUnsaid request documents 0 fault
  first_unsaid fault u = record { unsaid = u; first = λ other theirs v. omega arith }

  second_unsaid : (said : Said) → SaysAt request documents 0 said → (fault : UnsaidFault) → IsUnsaidAt request documents 1 fault → IsFirstUnsaid request documents 1 fault
  second_unsaid said h fault u = record { unsaid = u; first = behind }
    where
      behind : (other : ℕ) (theirs : UnsaidFault) → IsUnsaidAt request documents other theirs → 1 ≤ other
      behind zero theirs v = absurd (says_or_not request documents 0 said theirs h v)
      behind (suc n) theirs v = omega arith

  said_there : (place : ℕ) (said : Said) → SaysAt request documents place said → (p : Parsed) (k : List Entity) → IsReadUnder request documents place p k → SaysSome k p
  said_there place said h p k r =
      let one = read_once request documents place h.parsed p h.kinds k h.read r in
      (said, subst (λ (x : Parsed). SaysUnder k x said) one.parsed (subst (λ (l : List Entity). SaysUnder l h.parsed said) one.kinds h.says))

  both_say : length documents ≡ 2 → (a b : Said) → SaysAt request documents 0 a → SaysAt request documents 1 b → AllSay request documents
  both_say two a b h k zero p l r = said_there 0 a h p l r
  both_say two a b h k (suc zero) p l r = said_there 1 b k p l r
  both_say two a b h k (suc (suc n)) p l r =
      let within = slice_get_within documents (suc (suc n)) p r.there in
      absurd (omega arith)

compared_answer : (request : Request) → ComparesTwo request → (documents : List Parsed) → length documents ≡ 2 → (a b : Said) → SaysAt request documents 0 a → SaysAt request documents 1 b → (outcome : Outcome) → IsLimited (IsComparison a b) outcome → IsAnswerBy request documents outcome
compared_answer (of_main action options names) alone documents two a b h k outcome w = absurd alone
compared_answer (tries size) alone documents two a b h k outcome w = absurd alone
compared_answer (compares one other) alone documents two a b h k outcome w = record {
  answers = all_say (both_say (compares one other) documents two a b h k) (record { first = a; second = b; says_first = h; says_second = k; holds = w });
  back = λ s. tt;
}

-- two documents are compared
module _ (request : Request) (alone : ComparesTwo request) (documents : List Parsed) where
  pub alone_at : (place : ℕ) (parsed : Parsed) → slice_get documents place ≡ Some parsed → (said : Said) → SaysAlone parsed said → SaysAt request documents place said
  alone_at place parsed there said h =
      record { parsed = parsed; kinds = h.kinds; read = own_read request alone documents place parsed h.kinds there h.own; says = h.says }

  unsaid_at : (place : ℕ) (parsed : Parsed) → slice_get documents place ≡ Some parsed → (fault : UnsaidFault) → IsUnsaidAlone parsed fault → IsUnsaidAt request documents place fault
  unsaid_at place parsed there fault h =
      record { parsed = parsed; kinds = h.kinds; read = own_read request alone documents place parsed h.kinds there h.own; unsaid = h.unsaid }

  pub none_first : (parsed : Parsed) → slice_get documents 0 ≡ Some parsed → (fault : UnsaidFault) → IsUnsaidAlone parsed fault → (name : List ℕ) → slice_get (names_of request) 0 ≡ Some name → (outcome : Outcome) → outcome ≡ unsaid_outcome name fault → IsAnswerBy request documents outcome
  none_first parsed there fault h name at outcome e =
      unsaid_answer request documents 0 fault name outcome (first_unsaid request documents fault (unsaid_at 0 parsed there fault h)) at e

  module _ (first : Said) (says : SaysAt request documents 0 first) (parsed : Parsed) (there : slice_get documents 1 ≡ Some parsed) where
    pub none_second : (fault : UnsaidFault) → IsUnsaidAlone parsed fault → (name : List ℕ) → slice_get (names_of request) 1 ≡ Some name → (outcome : Outcome) → outcome ≡ unsaid_outcome name fault → IsAnswerBy request documents outcome
    none_second fault h name at outcome e =
        unsaid_answer request documents 1 fault name outcome (second_unsaid request documents first says fault (unsaid_at 1 parsed there fault h)) at e

    pub both_told : length documents ≡ 2 → (second : Said) → SaysAlone parsed second → (outcome : Outcome) → IsLimited (IsComparison first second) outcome → IsAnswerBy request documents outcome
    both_told two second h outcome w =
        compared_answer request alone documents two first second says (alone_at 1 parsed there second h) outcome w

-- a trial
pub trial_answer : (request : Request) (size : ℕ) → request ≡ tries size → (documents : List Parsed) → (outcome : Outcome) → IsTrialOutcome size outcome → IsAnswerBy request documents outcome
trial_answer request size e documents outcome h =
    subst (λ (r : Request). IsAnswerBy r documents outcome) (sym e) (record {
      answers = all_say (λ place parsed kinds r. absurd r.under) h;
      back = λ s. tt;
    })
