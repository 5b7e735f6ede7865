-- A reader was fed what it was fed, also where it refuses.
use Rattle.std.proofs.Common.{Result, Ok, Err, IfErr, OnOk, ◌≡◌, ◌≢◌, ℕ, Some, List, ◌++◌, subst, sym, ◌∙◌}
use Rattle.grammar.specs.Grammars.{Entry}
use Rattle.owl_reader.specs.Readings.{HasRead, Reading, Refuses}
use Rattle.owl_reader.specs.Steps.{Step}
use Rattle.owl_reader.specs.Syntaxes.{Rules}
use Rattle.owl_reader.specs.declared.fault.ReadFault.{ReadFault}
use Rattle.owl_reader.specs.declared.fault.ReadFault.TheVariants.{Memory}

pub fed : {T S C X : Type 0} {spells : T → List ℕ → Type 0} {g : List Entry} (rules : C → Rules T) (Made : C → List (Step T) → S → Type 0) (r : Result X ReadFault) (old new : Reading S) (piece : List ℕ) (context : C) (bytes : List ℕ) → OnOk r ((c : C) (fed : List ℕ) → HasRead spells g (rules c) (Made c) old fed → HasRead spells g (rules c) (Made c) new (fed ++ piece)) → IfErr r (λ fault. fault ≢ Memory → (c : C) (fed : List ℕ) → HasRead spells g (rules c) (Made c) old fed → Refuses spells g (rules c) (fed ++ piece) fault) → IfErr r (λ fault. new.refused ≡ Some fault) → HasRead spells g (rules context) (Made context) old bytes → HasRead spells g (rules context) (Made context) new (bytes ++ piece)
fed rules Made (Ok x) old new piece context bytes reads refuses keeps h = reads context bytes h
fed {spells = spells} {g = g} rules Made (Err fault) old new piece context bytes reads refuses keeps h = record {
  open_yet = λ none. absurd (cc);
  fed = λ none. absurd (cc);
  refuses = λ refusal is n.
      let same : fault ≡ refusal = cc in
      subst (Refuses spells g (rules context) (bytes ++ piece)) same (refuses (λ e. n (sym same ∙ e)) context bytes h);
}
