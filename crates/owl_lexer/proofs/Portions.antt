-- What is held of a piece that was taken.
use Rattle.std.proofs.Common.{◌≡◌, ℕ, ◌<◌, ◌≤◌, Option, None, Some, List, [], refl, sym, ap, subst, arith}
use Rattle.std.specs.Prelude.{Result, Ok, Err, IfOk, IsSome, OnOk}
use Rattle.owl_lexer.specs.Automata.{Automaton}
use Rattle.owl_lexer.specs.Languages.{IsLanguage, IsPrompt}
use Rattle.owl_lexer.specs.Lexing.{HoldsNoEnd, HoldsNone}
use Rattle.owl_lexer.specs.Sources.{bytes_of, IsOpenWith, bytes_with}
use Rattle.owl_lexer.specs.declared.again.Again.{Again}
use Rattle.owl_lexer.specs.declared.source.Source.{Source}
use Rattle.owl_lexer.proofs.Holds.{holds_no_end, holds_none}
use Rattle.owl_lexer.proofs.Moving.{open_alone, with_nothing}

pub none_held : {T : Type 0} → (a : Automaton) (value : ℕ → List ℕ → Option T) (spells : T → List ℕ → Type 0) → IsLanguage a value spells → (source : Source) (again : Again) → IsOpenWith a source again → again.chars.items ≡ [] → HoldsNone spells (bytes_with source again)
none_held a value spells l source again o e = subst (HoldsNone spells) (sym (ap bytes_of (with_nothing source again e))) (holds_none a value spells l source (open_alone a source again o e))

pub no_end_held : {T : Type 0} → (a : Automaton) (value : ℕ → List ℕ → Option T) (spells : T → List ℕ → Type 0) → IsLanguage a value spells → (words : List (List ℕ)) → IsPrompt a spells words → (source : Source) (again : Again) → IsOpenWith a source again → again.chars.items ≡ [] → HoldsNoEnd spells words (bytes_with source again)
no_end_held a value spells l words p source again o e = subst (HoldsNoEnd spells words) (sym (ap bytes_of (with_nothing source again e))) (holds_no_end a value spells l source (open_alone a source again o e) words p)

-- what is told of an answer

pub on_ok : {T E P : Type 0} (r : Result T E) (x : T) → r ≡ Ok x → P → OnOk r P
on_ok {P = P} r x e p = subst (λ (q : Result _ _). OnOk q P) (sym e) p

pub on_err : {T E : Type 0} (P : Type 0) (r : Result T E) (e : E) → r ≡ Err e → OnOk r P
on_err P r e is = subst (λ (q : Result _ _). OnOk q P) (sym is) tt

-- where there is one, what two clauses say of it
pub if_ok_both : {T E : Type 0} {P Q R : T → Type 0} (r : Result T E) → ((x : T) → P x → Q x → R x) → IfOk r P → IfOk r Q → IfOk r R
if_ok_both (Ok x) f p q = f x p q
if_ok_both (Err e) f p q = tt

-- a portion that no list is as long as doesn't end
pub none_left : (left : Option ℕ) (most n : ℕ) → n < most → (IsSome left → most ≤ n) → left ≡ None
none_left None most n lt more = refl
none_left (Some count) most n lt more = let le : most ≤ n = more refl in absurd (omega arith)
