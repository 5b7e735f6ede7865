-- Acts along a derivation are ready in turn.
use Rattle.std.proofs.Common.{◌≡◌, ◌≢◌, ℕ, Option, None, Some, Result, Ok, Err, OnOk, IfErr, IfSome, List, [], ◌∷◌, ◌++◌, map, refl, sym, ap, ◌∙◌, subst}
use Rattle.std.proofs.lemmas.List.{append_assoc, append-nil, map-append}
use Rattle.std.specs.Option.{option_map}
use Rattle.grammar.specs.Derivations.{Derives, Event}
use Rattle.grammar.specs.Derivations.Event.{Do, Take}
use Rattle.grammar.specs.Lowering.{lower}
use Rattle.owl_lexer.specs.declared.placed.Placed.{Placed}
use Rattle.owl_reader.proofs.EventLaws.{EventsGoOn}
use Rattle.owl_reader.specs.Events.{MadeByEvents}
use Rattle.owl_reader.specs.Following.{ComesNext, MayFollow, MayTake}
use Rattle.owl_reader.specs.Steps.{events_of, token_in}
use Rattle.owl_reader.specs.declared.fault.TokenFault.{TokenFault}
use Rattle.owl_reader.specs.declared.fault.TokenFault.TheVariants as fault
use Rattle.owl_tokens.proofs.TokenLaws.{spelled_is_token}
use Rattle.owl_tokens.specs.Tokens.{IsToken, Spells}
use Rattle.owl_tokens.specs.declared.token.Token.{Token}
use Rattle.fss_grammar.specs.Classes.{class_of}
use Rattle.fss_grammar.specs.Doing.{Does, prefixes_behind}
use Rattle.fss_grammar.specs.DoingLaws.{ActInTurn, DoneSoFar, done_at_end, done_with_token}
use Rattle.fss_grammar.specs.ReadyActs.{next_class, document_comes}
use Rattle.fss_grammar.specs.Making.{Maker, beginning}
use Rattle.fss_grammar.proofs.OneWayLaws.{does_one_way}
use Rattle.fss_grammar.proofs.OutlineLaws.{resembles_act, resembles_beginning, resembles_token}
use Rattle.fss_grammar.specs.Outlines.{Resembles}
use Rattle.fss_grammar.proofs.ReadyLaws.{acts_are_ready}
use Rattle.fss_grammar.specs.Table.{functional}
use Rattle.fss_defects.specs.Rules.{functional_rules}
use Rattle.fss_defects.specs.Faults.{Bars, Told}
use Rattle.fss_acts.specs.Assembling.{Assembles, Did, Made, May}
use Rattle.fss_acts.specs.Turns.{AnswersToken, AreReady}
use Rattle.fss_acts.specs.declared.assembler.Assembler.{Assembler}

-- ---- what was done looks as its acts make it

does_resemble : (events before : List (Event Token)) (m n : Maker) → Resembles before m → Does events m n → Resembles (before ++ events) n
does_resemble [] before m n r h = subst (λ (k : Maker). Resembles (before ++ []) k) h (subst (λ (l : List (Event Token)). Resembles l m) (sym (append-nil before)) r)
does_resemble (Take x ∷ events) before m n r h =
    subst (λ (l : List (Event Token)). Resembles l n) (append_assoc before (Take x ∷ []) events)
    (does_resemble events (before ++ Take x ∷ []) m n (resembles_token x before m r) h)
does_resemble (Do a ∷ events) before m n r h =
    let here = subst (λ (k : ℕ). Resembles (before ++ Do k ∷ []) h.middle) h.number_is (resembles_act (prefixes_behind m.document.declarations) h.act _ before m h.middle r h.performs) in
    subst (λ (l : List (Event Token)). Resembles l n) (append_assoc before (Do a ∷ []) events)
    (does_resemble events (before ++ Do a ∷ []) h.middle n here h.later)

pub done_resembles : (events : List (Event Token)) (m : Maker) → Does events beginning m → Resembles events m
done_resembles events m h = does_resemble events [] beginning m resembles_beginning h

-- ---- acts in front of a token

comes_behind : (acts : List ℕ) (rest : List (Event ℕ)) → next_class (map Do acts ++ rest) ≡ next_class rest
comes_behind [] rest = refl
comes_behind (a ∷ acts) rest = comes_behind acts rest

lowered_more : (before : List (Event Token)) (a : ℕ) (rest : List (Event ℕ)) → map (lower class_of) (before ++ Do a ∷ []) ++ rest ≡ map (lower class_of) before ++ Do a ∷ rest
lowered_more before a rest = ap (λ (l : List (Event ℕ)). l ++ rest) (map-append (lower class_of) before (Do a ∷ [])) ∙ append_assoc (map (lower class_of) before) (Do a ∷ []) rest

ready_along : (acts : List ℕ) (before : List (Event Token)) (next : Option Token) (m : Maker) (classes : List ℕ) (rest : List (Event ℕ)) → Resembles before m → Derives functional document_comes classes (map (lower class_of) before ++ (map Do acts ++ rest)) → option_map class_of next ≡ next_class rest → AreReady acts next m
ready_along [] before next m classes rest r d e = tt
ready_along (a ∷ acts) before next m classes rest r d e =
    let it = acts_are_ready classes (map (lower class_of) before ++ Do a ∷ (map Do acts ++ rest)) d before a (map Do acts ++ rest) refl m r in (
      it.act,
      it.number_is,
      it.ready next (e ∙ sym (comes_behind acts rest)),
      λ n performed.
          ready_along acts (before ++ Do a ∷ []) next n classes rest
          (subst (λ (k : ℕ). Resembles (before ++ Do k ∷ []) n) it.number_is (resembles_act (prefixes_behind m.document.declarations) it.act next before m n r performed))
          (subst (Derives functional document_comes classes) (sym (lowered_more before a (map Do acts ++ rest))) d)
          e,
    )

comes_next : (rest : List (Event ℕ)) (class : Option ℕ) → ComesNext rest class → class ≡ next_class rest
comes_next [] class c = c
comes_next (Take c ∷ rest) class e = e
comes_next (Do a ∷ rest) class e = absurd e

pub ready_in_turn : (events : List (Event Token)) (acts : List ℕ) (next : Option Token) (m : Maker) → Does events beginning m → MayFollow functional functional_rules events acts next → AreReady acts next m
ready_in_turn events acts next m done follow = ready_along acts events next m follow.classes follow.rest (done_resembles events m done) follow.derives (comes_next follow.rest (option_map class_of next) follow.comes)

-- ---- what comes of them

token_spelled : (next : Option (Placed Token)) → IfSome next (λ p. (spelling : List ℕ) × Spells p.token spelling) → IfSome (token_in next) IsToken
token_spelled None h = tt
token_spelled (Some p) h = spelled_is_token p.token h.0 h.1

pub may_take : {old : Assembler} {acts : List ℕ} {next : Option (Placed Token)} → MayTake Spells functional functional_rules (MadeByEvents Made) old acts next → May (AreReady acts (token_in next)) old
may_take {acts = acts} {next = next} r = record {
  maker = r.made_by.maker;
  assembles = r.made_by.assembles;
  ready = ready_in_turn (events_of r.steps) acts (token_in next) r.made_by.maker r.made_by.done.does r.follow;
}

pub is_token : {old : Assembler} {acts : List ℕ} {next : Option (Placed Token)} → MayTake Spells functional functional_rules (MadeByEvents Made) old acts next → IfSome (token_in next) IsToken
is_token {next = next} r = token_spelled next r.spelled

goes_on : (events : List (Event Token)) (acts : List ℕ) (next : Option Token) (m n : Maker) (new : Assembler) → DoneSoFar events m → ActInTurn acts next m n → Assembles new n → EventsGoOn Made Did events acts next new
goes_on events acts None m n new done act assembles = record { maker = n; does = done_at_end events acts m n done act; assembles = assembles }
goes_on events acts (Some x) m n new done act assembles = record { maker = n; done = done_with_token events acts x m n done act; assembles = assembles }

pub takes : (old new : Assembler) (acts : List ℕ) (next : Option Token) (r : Result (Unit {0}) TokenFault) → AnswersToken acts next old r new → OnOk r ((events : List (Event Token)) → Made events old → MayFollow functional functional_rules events acts next → EventsGoOn Made Did events acts next new)
takes old new acts next (Err f) answers = tt
takes old new acts next (Ok x) answers = λ events made follow.
    let it = answers made.maker made.assembles (ready_in_turn events acts next made.maker made.done.does follow) in
    goes_on events acts next made.maker it.maker new made.done it.act it.assembles

pub free : (old new : Assembler) (acts : List ℕ) (next : Option Token) (r : Result (Unit {0}) TokenFault) → AnswersToken acts next old r new → OnOk r ((events : List (Event Token)) → Made events old → MayFollow functional functional_rules events acts next → (f : TokenFault) → Bars events acts next f → ⊥)
free old new acts next (Err f) answers = tt
free old new acts next (Ok x) answers = λ events made follow f bars.
    let it = answers made.maker made.assembles (ready_in_turn events acts next made.maker made.done.does follow) in
    it.free f (subst (λ (m : Maker). Told acts next m f) (does_one_way events beginning bars.maker made.maker bars.does made.done.does) bars.told)

pub barred : (old new : Assembler) (acts : List ℕ) (next : Option Token) (r : Result (Unit {0}) TokenFault) → AnswersToken acts next old r new → IfErr r (λ f. f ≢ fault.Memory → (events : List (Event Token)) → Made events old → MayFollow functional functional_rules events acts next → Bars events acts next f)
barred old new acts next (Ok x) answers = tt
barred old new acts next (Err f) answers = λ real events made follow. record {
  maker = made.maker;
  does = made.done.does;
  told = answers made.maker made.assembles (ready_in_turn events acts next made.maker made.done.does follow) real;
}
