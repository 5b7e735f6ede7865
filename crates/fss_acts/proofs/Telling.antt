-- What is told of acts in front of a token.
use Rattle.std.proofs.Common.{◌≡◌, ◌≢◌, ℕ, List, [], ◌∷◌, Option, None, Some, Result, Ok, Err, inl, inr, refl, sym, ap, ◌∙◌}
use Rattle.std.specs.Result.{IsErrAnd}
use Rattle.owl_atom.specs.declared.prefixes.Prefix.{Prefix}
use Rattle.owl_reader.specs.declared.fault.Reason.TheVariants as reason
use Rattle.owl_reader.specs.declared.fault.TokenFault.{TokenFault}
use Rattle.owl_reader.specs.declared.fault.TokenFault.TheVariants as fault
use Rattle.owl_tokens.specs.declared.token.Token.{Token}
use Rattle.owl_tokens.specs.declared.token.Token.TheVariants as token
use Rattle.fss_terms.specs.Functional.{IsTableOf}
use Rattle.fss_terms.specs.Terms.{iri_of_token}
use Rattle.fss_grammar.specs.ActingLaws.{tables_agree}
use Rattle.fss_grammar.specs.Acts.{act_number}
use Rattle.fss_grammar.specs.Making.{Maker}
use Rattle.fss_grammar.specs.Ready.{IsReady}
use Rattle.fss_grammar.specs.Ready.ComesName.{short}
use Rattle.fss_grammar.specs.declared.acts.Act.TheVariants.{DeclareName}
use Rattle.fss_acts.specs.declared.assembler.Assembler.{Assembler}
use Rattle.fss_acts.specs.Assembling.{Answers, IsComing, IsUnknown, May}
use Rattle.fss_defects.specs.Faults.{ComesUnknown, FailsFirst, Told}
use Rattle.fss_acts.specs.Turns.{AnswersAll, AnswersToken, AnswersTurnsAt, AreReady}
use Rattle.fss_acts.proofs.Turning.{answers_last, may_first}

module _ (acts : List ℕ) (next : Option Token) (m : Maker) (p : List Prefix) (table : IsTableOf m.document.declarations p) where
  -- a prefix that the table lacks
  unknown : (acts ≡ act_number DeclareName ∷ [] → ⊥) → IsUnknown p next → ComesUnknown acts next m
  unknown other u = record {
    name = u.name;
    local = u.local;
    comes = u.comes;
    unknown = sym (tables_agree m.document.declarations p table (token.Name u.name u.local)) ∙ u.unknown;
    uses = other;
  }

  known : (found : Option (List ℕ)) → IsComing p next found → ComesUnknown acts next m → ⊥
  known found c u =
      let s = c.stands (short u.name u.local u.comes) in
      let same : s.comes.name ≡ token.Name u.name u.local = let e = sym s.comes.comes ∙ u.comes in cc in
      let here : Some s.iri ≡ None = sym s.comes.stands ∙ ap (iri_of_token p) same ∙ tables_agree m.document.declarations p table (token.Name u.name u.local) ∙ u.unknown in
      cc

tells : (acts : List ℕ) (next : Option Token) (m : Maker) (r : Result (Unit {0}) TokenFault) (new : Assembler) → (ComesUnknown acts next m → ⊥) → AnswersTurnsAt FailsFirst acts next m r new → AnswersTurnsAt Told acts next m r new
tells acts next m (Ok done) new known all = record {
  maker = all.maker;
  act = all.act;
  assembles = all.assembles;
  free = λ f h. elim h [ inl u ↦ known u.0 | inr k ↦ all.free f k.1 ];
}
tells acts next m (Err f) new known all = λ ne. inr (known, all ne)

pub tells_all : (acts : List ℕ) (next : Option Token) (old new : Assembler) (r : Result (Unit {0}) TokenFault) (found : Option (List ℕ)) → IsComing old.prefixes next found → AnswersAll acts next old r new → AnswersToken acts next old r new
tells_all acts next old new r found c all m h ready = tells acts next m r new (known acts next m old.prefixes h.table found c) (all m h ready)

pub tells_unknown : (acts : List ℕ) (next : Option Token) (old new : Assembler) (r : Result (Unit {0}) TokenFault) (told : TokenFault) (Q : TokenFault → Type 0) → (acts ≡ act_number DeclareName ∷ [] → ⊥) → (told ≢ fault.Memory → (told ≡ fault.Defect reason.UnknownPrefix) × IsUnknown old.prefixes next) → IsErrAnd r Q → ((f : TokenFault) → Q f → f ≡ told) → AnswersToken acts next old r new
tells_unknown acts next old new (Ok done) told Q other why h same m a ready = absurd h
tells_unknown acts next old new (Err f) told Q other why h same m a ready = λ ne.
    let is = same f h in
    let u = why (λ e. ne (is ∙ e)) in
    inl (unknown acts next m old.prefixes a.table other u.1, is ∙ u.0)

-- the name that a declaration gives
pub tells_name : (acts : List ℕ) (next : Option Token) (old new : Assembler) (r : Result (Unit {0}) TokenFault) → acts ≡ act_number DeclareName ∷ [] → Answers DeclareName next old r new → AnswersToken acts next old r new
tells_name acts next old new r cut one m h ready =
    tells acts next m r new (λ u. u.uses cut) (answers_last acts DeclareName (act_number DeclareName) next cut refl old new r one m h ready)

pub may_name : (acts : List ℕ) (next : Option Token) (a : Assembler) → acts ≡ act_number DeclareName ∷ [] → May (AreReady acts next) a → May (IsReady DeclareName next) a
may_name acts next a cut may = may_first acts DeclareName (act_number DeclareName) [] next cut refl a may
