-- Acts in turn.
use Rattle.std.proofs.Common.{suc, ◌≡◌, ◌<◌, ◌≤◌, ◌-◌, ℕ, List, [], ◌∷◌, length, get_or, take, drop, Option, Result, Ok, Err, inl, inr, refl, sym, ap, ◌∙◌, subst, arith}
use Rattle.std.specs.Result.{IsErrAnd}
use Rattle.std.proofs.lemmas.List.{take_all}
use Rattle.owl_reader.specs.declared.fault.TokenFault.{TokenFault}
use Rattle.owl_tokens.specs.declared.token.Token.{Token}
use Rattle.fss_grammar.proofs.ActLaws.{same_act}
use Rattle.fss_grammar.specs.Acts.{act_number}
use Rattle.fss_grammar.specs.Doing.{Acts, prefixes_behind}
use Rattle.fss_grammar.specs.Making.{Maker}
use Rattle.fss_grammar.proofs.OneWayLaws.{acts_one_way}
use Rattle.fss_grammar.specs.Ready.{IsReady}
use Rattle.fss_grammar.specs.declared.acts.Act.{Act}
use Rattle.fss_acts.specs.declared.assembler.Assembler.{Assembler}
use Rattle.fss_acts.specs.Assembling.{Answers, AnswersAt, Assembles, IsComing, May, Performed}
use Rattle.fss_defects.specs.Faults.{Fails, FailsFirst}
use Rattle.fss_acts.specs.Turns.{AnswersAll, AnswersTurnsAt, AreReady, Taken}
use Rattle.fss_acts.proofs.Tables.{coming_still}

-- ---- lists of acts

pub first_of : (acts : List ℕ) → 1 ≤ length acts → acts ≡ get_or acts 0 0 ∷ take (length acts - 1) (drop 1 acts)
first_of [] h = absurd (omega arith)
first_of (a ∷ acts) h = ap (λ (l : List ℕ). a ∷ l) (sym (take_all (suc (length acts) - 1) acts (omega arith)))

pub shorter : (acts : List ℕ) (n : ℕ) → length acts ≡ n → 1 ≤ length acts → length (take (length acts - 1) (drop 1 acts)) < n
shorter acts n e h = let f = ap length (first_of acts h) in omega arith

pub only_one : (acts : List ℕ) → 1 ≤ length acts → length acts < 2 → acts ≡ get_or acts 0 0 ∷ []
only_one [] h k = absurd (omega arith)
only_one (a ∷ []) h k = refl
only_one (a ∷ b ∷ acts) h k = absurd (omega arith)

-- ---- one act, and then others

number_one : (a b : Act) (x : ℕ) → act_number a ≡ x → act_number b ≡ x → a ≡ b
number_one a b x e f = same_act a b (e ∙ sym f)

ready_first : (act : Act) (x : ℕ) (others : List ℕ) (next : Option Token) (m : Maker) → act_number act ≡ x → AreReady (x ∷ others) next m → IsReady act next m
ready_first act x others next m e h = subst (λ (b : Act). IsReady b next m) (number_one h.0 act x h.1 e) h.2

ready_others : (act : Act) (x : ℕ) (others : List ℕ) (next : Option Token) (m n : Maker) → act_number act ≡ x → AreReady (x ∷ others) next m → Acts act next m n → AreReady others next n
ready_others act x others next m n e h acts = h.3 n (subst (λ (b : Act). Acts b next m n) (number_one act h.0 x e h.1) acts)

fails_first : (act : Act) (x : ℕ) (others : List ℕ) (next : Option Token) (m n : Maker) (f : TokenFault) → act_number act ≡ x → Acts act next m n → ((g : TokenFault) → Fails act next m g → ⊥) → FailsFirst (x ∷ others) next m f → FailsFirst others next n f
fails_first act x others next m n f e acts free h =
    let same = number_one h.0 act x h.1 e in
    elim h.2 [
      | inl k ↦ absurd (free f (subst (λ (b : Act). Fails b next m f) same k))
      | inr k ↦ subst (λ (b : Maker). FailsFirst others next b f) (acts_one_way (prefixes_behind m.document.declarations) act next m k.0 n (subst (λ (b : Act). Acts b next m k.0) same k.1) acts) k.3
    ]

module _ (acts : List ℕ) (act : Act) (x : ℕ) (others : List ℕ) (next : Option Token) (cut : acts ≡ x ∷ others) (number : act_number act ≡ x) where
  pub may_first : (a : Assembler) → May (AreReady acts next) a → May (IsReady act next) a
  may_first a may = record {
    maker = may.maker;
    assembles = may.assembles;
    ready = ready_first act x others next may.maker number (subst (λ (l : List ℕ). AreReady l next may.maker) cut may.ready);
  }

  module _ (old new : Assembler) (done : Unit {0}) (r : Result (Unit {0}) TokenFault) (is : r ≡ Ok done) (one : Answers act next old r new) where
    performed : (m : Maker) → Assembles old m → IsReady act next m → Performed act next m new
    performed m h ready = subst (λ (q : Result (Unit {0}) TokenFault). AnswersAt act next m q new) is (one m h ready)

    pub may_others : (found : Option (List ℕ)) → May (AreReady acts next) old → IsComing old.prefixes next found → May (AreReady others next) new × IsComing new.prefixes next found
    may_others found may coming =
        let m = may.maker in
        let ready = subst (λ (l : List ℕ). AreReady l next m) cut may.ready in
        let p = performed m may.assembles (ready_first act x others next m number ready) in (
          record { maker = p.maker; assembles = p.assembles; ready = ready_others act x others next m p.maker number ready p.acts },
          coming_still old.prefixes new.prefixes act next m p.maker may.assembles.table p.assembles.table p.acts found coming,
        )

    then_others : (newer : Assembler) (s : Result (Unit {0}) TokenFault) (m : Maker) (p : Performed act next m new) → AnswersTurnsAt FailsFirst others next p.maker s newer → AnswersTurnsAt FailsFirst (x ∷ others) next m s newer
    then_others newer (Ok end) m p all = record {
      maker = all.maker;
      act = record { act = act; number_is = number; middle = p.maker; performs = p.acts; later = all.act };
      assembles = all.assembles;
      free = λ f h. all.free f (fails_first act x others next m p.maker f number p.acts p.free h);
    }
    then_others newer (Err f) m p all = λ ne. (act, number, inr (p.maker, p.acts, p.free, all ne))

    pub answers_both : (newer : Assembler) (s : Result (Unit {0}) TokenFault) → AnswersAll others next new s newer → AnswersAll acts next old s newer
    answers_both newer s all m h ready =
        let all_ready = subst (λ (l : List ℕ). AreReady l next m) cut ready in
        let p = performed m h (ready_first act x others next m number all_ready) in
        subst (λ (l : List ℕ). AnswersTurnsAt FailsFirst l next m s newer) (sym cut)
        (then_others newer s m p (all p.maker p.assembles (ready_others act x others next m p.maker number all_ready p.acts)))

  -- the first one fails
  pub fails_early : (old new : Assembler) (told : TokenFault) (r s : Result (Unit {0}) TokenFault) (Q : TokenFault → Type 0) → r ≡ Err told → Answers act next old r new → IsErrAnd s Q → ((f : TokenFault) → Q f → f ≡ told) → AnswersAll acts next old s new
  fails_early old new told r (Ok done) Q is one h k = absurd h
  fails_early old new told r (Err f) Q is one h k = λ m a ready ne.
      let all_ready = subst (λ (l : List ℕ). AreReady l next m) cut ready in
      let same = k f h in
      let fails : Fails act next m told = subst (λ (q : Result (Unit {0}) TokenFault). AnswersAt act next m q new) is (one m a (ready_first act x others next m number all_ready)) (λ e. ne (same ∙ e)) in
      subst (λ (l : List ℕ). FailsFirst l next m f) (sym cut) (act, number, inl (subst (λ (g : TokenFault). Fails act next m g) (sym same) fails))

-- the last one
pub answers_last : (acts : List ℕ) (act : Act) (x : ℕ) (next : Option Token) → acts ≡ x ∷ [] → act_number act ≡ x → (old new : Assembler) (r : Result (Unit {0}) TokenFault) → Answers act next old r new → AnswersAll acts next old r new
answers_last acts act x next cut number old new (Ok done) one = λ m h ready.
    let p = one m h (ready_first act x [] next m number (subst (λ (l : List ℕ). AreReady l next m) cut ready)) in
    subst (λ (l : List ℕ). Taken FailsFirst l next m new) (sym cut) record {
      maker = p.maker;
      act = record { act = act; number_is = number; middle = p.maker; performs = p.acts; later = refl };
      assembles = p.assembles;
      free = λ f h. fails_first act x [] next m p.maker f number p.acts p.free h;
    }
answers_last acts act x next cut number old new (Err f) one = λ m h ready ne.
    let k = one m h (ready_first act x [] next m number (subst (λ (l : List ℕ). AreReady l next m) cut ready)) ne in
    subst (λ (l : List ℕ). FailsFirst l next m f) (sym cut) (act, number, inl k)
