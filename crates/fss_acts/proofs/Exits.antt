-- Where a call leaves early.
use Rattle.std.proofs.Common.{◌≡◌, ◌≢◌, ◌↔◌, Option, Result, Ok, Err, sym, subst}
use Rattle.std.specs.Prelude.{IsErrOf}
use Rattle.std.specs.Result.{IsErrAnd}
use Rattle.owl_reader.specs.declared.fault.TokenFault.{TokenFault}
use Rattle.owl_reader.specs.declared.fault.TokenFault.TheVariants as fault
use Rattle.owl_tokens.specs.declared.token.Token.{Token}
use Rattle.fss_grammar.specs.Making.{Maker}
use Rattle.fss_grammar.specs.declared.acts.Act.{Act}
use Rattle.fss_acts.specs.declared.assembler.Assembler.{Assembler}
use Rattle.fss_acts.specs.Assembling.{Answers, AnswersAt}
use Rattle.fss_defects.specs.Faults.{Fails}

pub leaves_early : (act : Act) (next : Option Token) (m : Maker) (r : Result (Unit {0}) TokenFault) (new : Assembler) (Q : TokenFault → Type 0) → IsErrAnd r Q → ((f : TokenFault) → Q f → f ≢ fault.Memory → Fails act next m f) → AnswersAt act next m r new
leaves_early act next m (Ok done) new Q h k = absurd h
leaves_early act next m (Err f) new Q h k = k f h

-- a call that went on has not refused
pub not_refused : {E P : Type 0} (r : Result (Unit {0}) E) (x : Unit {0}) (e : E) → r ≡ Ok x → IsErrOf r e ↔ P → P → ⊥
not_refused r x e is h p = let k = h.1 p in cc

-- an act that is another
pub answers_as : (act other : Act) (next : Option Token) (old new : Assembler) (r : Result (Unit {0}) TokenFault) → act ≡ other → Answers other next old r new → Answers act next old r new
answers_as act other next old new r e h = subst (λ (a : Act). Answers a next old r new) (sym e) h
