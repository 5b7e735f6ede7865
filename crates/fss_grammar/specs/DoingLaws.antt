-- What is done token by token: events go in parts where a token is taken, and acts go one by one.
use Rattle.std.proofs.Common.{◌≡◌, ℕ, List, [], ◌∷◌, ◌++◌, map, None, Option, Some, append-nil, refl, sym, subst}
use Rattle.grammar.specs.Derivations.Event.{Do, Take}
use Rattle.owl_tokens.specs.declared.token.Token.{Token}
use Rattle.fss_grammar.specs.Acts.{act_number}
use Rattle.fss_grammar.specs.Doing.{Acts, Does, prefixes_behind}
use Rattle.fss_grammar.specs.Making.{DoneThen, Maker, Performs, beginning, next_token}
use Rattle.fss_grammar.specs.Meaning.{Events}
use Rattle.fss_grammar.specs.declared.acts.Act.{Act}

-- The last of the events, if there are any, is that a token is taken: what is done in front of the next token is not begun.
abbrev pub EndTaken : Events → Type 0
EndTaken [] = Unit {0}
EndTaken (Take x ∷ es) = EndTaken es
EndTaken (Do a ∷ []) = ⊥
EndTaken (Do a ∷ e ∷ es) = EndTaken (e ∷ es)

-- these acts, in order, make n of m, where this token comes behind them
abbrev pub ActInTurn : List ℕ → Option Token → Maker → Maker → Type 0
ActInTurn [] next m n = m ≡ n
ActInTurn (a ∷ acts) next m n =
    DoneThen (prefixes_behind m.document.declarations) a next m (λ middle. ActInTurn acts next middle n)

-- one thing makes something of m, and another makes n of it
pub record InSteps (First Second : Maker → Maker → Type 0) (m n : Maker) : Type 0 where
  pub middle : Maker
  pub front : First m middle
  pub back : Second middle n

-- ---- an act, and what is done behind it in two steps

first_done : (a : ℕ) (next later : Option Token) (m n : Maker) (Whole First Second : Maker → Maker → Type 0) → next ≡ later → ((k : Maker) → Whole k n → InSteps First Second k n) → DoneThen (prefixes_behind m.document.declarations) a next m (λ k. Whole k n) → InSteps (λ m l. DoneThen (prefixes_behind m.document.declarations) a later m (λ k. First k l)) Second m n
first_done a next later m n Whole First Second same parts it =
    let rest = parts it.middle it.later in
    record {
      middle = rest.middle;
      front =
          record {
            act = it.act;
            number_is = it.number_is;
            middle = it.middle;
            performs = subst (λ x. Performs (prefixes_behind m.document.declarations) it.act x m it.middle) same it.performs;
            later = rest.front;
          };
      back = rest.back;
    }

done_first : (a : ℕ) (next later : Option Token) (m l n : Maker) (Whole First : Maker → Maker → Type 0) → later ≡ next → ((k : Maker) → First k l → Whole k n) → DoneThen (prefixes_behind m.document.declarations) a later m (λ k. First k l) → DoneThen (prefixes_behind m.document.declarations) a next m (λ k. Whole k n)
done_first a next later m l n Whole First same join it = record {
  act = it.act;
  number_is = it.number_is;
  middle = it.middle;
  performs = subst (λ x. Performs (prefixes_behind m.document.declarations) it.act x m it.middle) same it.performs;
  later = join it.middle it.later;
}

-- ---- events, where a token is taken

next_within : (a : ℕ) (es fs : Events) → EndTaken (Do a ∷ es) → next_token (es ++ fs) ≡ next_token es
next_within a [] fs end = absurd end
next_within a (Take x ∷ es) fs end = refl
next_within a (Do b ∷ es) fs end = next_within b es fs end

behind_act : (a : ℕ) (es : Events) → EndTaken (Do a ∷ es) → EndTaken es
behind_act a [] end = tt
behind_act a (e ∷ es) end = end

pub does_in_steps : (es fs : Events) (m n : Maker) → EndTaken es → Does (es ++ fs) m n → InSteps (Does es) (Does fs) m n
does_in_steps [] fs m n end h = record { middle = m; front = refl; back = h }
does_in_steps (Take x ∷ es) fs m n end h =
    let it = does_in_steps es fs m n end h in
    record { middle = it.middle; front = it.front; back = it.back }
does_in_steps (Do a ∷ es) fs m n end h =
    let it = first_done a (next_token (es ++ fs)) (next_token es) m n (Does (es ++ fs)) (Does es) (Does fs) (next_within a es fs end)
    (λ k d. does_in_steps es fs k n (behind_act a es end) d) h in
    record { middle = it.middle; front = it.front; back = it.back }

pub does_from_steps : (es fs : Events) (m k n : Maker) → EndTaken es → Does es m k → Does fs k n → Does (es ++ fs) m n
does_from_steps [] fs m k n end h d = subst (λ l. Does fs l n) (sym h) d
does_from_steps (Take x ∷ es) fs m k n end h d = does_from_steps es fs m k n end h d
does_from_steps (Do a ∷ es) fs m k n end h d =
    done_first a (next_token (es ++ fs)) (next_token es) m k n (Does (es ++ fs)) (Does es)
    (sym (next_within a es fs end)) (λ l first. does_from_steps es fs l k n (behind_act a es end) first d) h

-- ---- acts, in front of a token or of the end

next_behind : (acts : List ℕ) (es : Events) → next_token (map Do acts ++ es) ≡ next_token es
next_behind [] es = refl
next_behind (a ∷ acts) es = next_behind acts es

pub acts_in_steps : (acts : List ℕ) (es : Events) (m n : Maker) → Does (map Do acts ++ es) m n → InSteps (ActInTurn acts (next_token es)) (Does es) m n
acts_in_steps [] es m n h = record { middle = m; front = refl; back = h }
acts_in_steps (a ∷ acts) es m n h =
    let it = first_done a (next_token (map Do acts ++ es)) (next_token es) m n (Does (map Do acts ++ es)) (ActInTurn acts (next_token es)) (Does es)
    (next_behind acts es) (λ k d. acts_in_steps acts es k n d) h in
    record { middle = it.middle; front = it.front; back = it.back }

pub acts_from_steps : (acts : List ℕ) (es : Events) (m k n : Maker) → ActInTurn acts (next_token es) m k → Does es k n → Does (map Do acts ++ es) m n
acts_from_steps [] es m k n h d = subst (λ l. Does es l n) (sym h) d
acts_from_steps (a ∷ acts) es m k n h d =
    done_first a (next_token (map Do acts ++ es)) (next_token es) m k n (Does (map Do acts ++ es)) (ActInTurn acts (next_token es))
    (sym (next_behind acts es)) (λ l first. acts_from_steps acts es l k n first d) h

-- acts go in two parts wherever one likes
pub acts_in_two : (first others : List ℕ) (next : Option Token) (m n : Maker) → ActInTurn (first ++ others) next m n → InSteps (ActInTurn first next) (ActInTurn others next) m n
acts_in_two [] others next m n h = record { middle = m; front = refl; back = h }
acts_in_two (a ∷ first) others next m n h =
    let it = first_done a next next m n (ActInTurn (first ++ others) next) (ActInTurn first next) (ActInTurn others next) refl
    (λ k d. acts_in_two first others next k n d) h in
    record { middle = it.middle; front = it.front; back = it.back }

pub acts_from_two : (first others : List ℕ) (next : Option Token) (m k n : Maker) → ActInTurn first next m k → ActInTurn others next k n → ActInTurn (first ++ others) next m n
acts_from_two [] others next m k n h d = subst (λ l. ActInTurn others next l n) (sym h) d
acts_from_two (a ∷ first) others next m k n h d =
    done_first a next next m k n (ActInTurn (first ++ others) next) (ActInTurn first next) refl
    (λ l front. acts_from_two first others next l k n front d) h

-- one act more
pub one_act_more : (acts : List ℕ) (act : Act) (next : Option Token) (m k n : Maker) → ActInTurn acts next m k → Acts act next k n → ActInTurn (acts ++ act_number act ∷ []) next m n
one_act_more acts act next m k n h d =
    acts_from_two acts (act_number act ∷ []) next m k n h (record { act = act; number_is = refl; middle = n; performs = d; later = refl })

-- ---- one token more

acts_end_taken : (acts : List ℕ) (x : Token) → EndTaken (map Do acts ++ Take x ∷ [])
acts_end_taken [] x = tt
acts_end_taken (a ∷ []) x = tt
acts_end_taken (a ∷ b ∷ acts) x = acts_end_taken (b ∷ acts) x

both_end_taken : (es : Events) (acts : List ℕ) (x : Token) → EndTaken es → EndTaken (es ++ (map Do acts ++ Take x ∷ []))
both_end_taken [] acts x end = acts_end_taken acts x
both_end_taken (Take y ∷ es) acts x end = both_end_taken es acts x end
both_end_taken (Do a ∷ []) acts x end = absurd end
both_end_taken (Do a ∷ e ∷ es) acts x end = both_end_taken (e ∷ es) acts x end

-- Events are done up to where a token is taken.
pub record DoneSoFar (events : Events) (m : Maker) : Type 0 where
  pub end : EndTaken events
  pub does : Does events beginning m

pub done_at_first : DoneSoFar [] beginning
done_at_first = record { end = tt; does = refl }

-- the acts in front of the next token are done, and it is taken
pub done_with_token : (events : Events) (acts : List ℕ) (x : Token) (m n : Maker) → DoneSoFar events m → ActInTurn acts (Some x) m n → DoneSoFar (events ++ (map Do acts ++ Take x ∷ [])) n
done_with_token events acts x m n it h = record {
  end = both_end_taken events acts x it.end;
  does = does_from_steps events (map Do acts ++ Take x ∷ []) beginning m n it.end it.does (acts_from_steps acts (Take x ∷ []) m n n h refl);
}

-- the acts in front of the end are done, and nothing else comes
pub done_at_end : (events : Events) (acts : List ℕ) (m n : Maker) → DoneSoFar events m → ActInTurn acts None m n → Does (events ++ map Do acts) beginning n
done_at_end events acts m n it h =
    does_from_steps events (map Do acts) beginning m n it.end it.does
    (subst (λ (l : Events). Does l m n) (append-nil (map Do acts)) (acts_from_steps acts [] m n n h refl))
