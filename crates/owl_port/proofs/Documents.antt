-- Documents by name.
use Rattle.std.proofs.Common.{◌↔◌, Result, Ok, Err, IsErr, IfOk, OnOk, OnErr, IsTrue, take, ◌≡◌, ◌≢◌, ◌≤◌, ◌-◌, ◌^◌, ◌⊎◌, ℕ, List, [], ◌∷◌, ◌++◌, length, Option, None, Some, Bool, true, cond, refl, sym, ap, ◌∙◌, inl, inr, min}
use Rattle.std.specs.Prelude.{position, unwrap_or}
use Rattle.std.specs.Option.{option_or, option_map}
use Rattle.std.specs.Str.{bytes_eq}
use Rattle.std.proofs.lemmas.List.Folds.{find-append}
use Rattle.owl_port.proofs.ByNameLaws.{absent, carried, same_name, other_name}
use Rattle.owl_port.specs.Outside.{raised, before}
use Rattle.owl_port.specs.MemShelf.{Kept, document_in}

or_none : {X : Type 0} (o : Option X) → option_or o None ≡ o
or_none None = refl
or_none (Some x) = refl

pub added_one : {E : Type 0} (r : Result (Unit {0}) E) (documents after : List Kept) (name : List ℕ) (new : Kept) → position (λ d. bytes_eq d.name name) documents ≡ None → name ≡ new.name → OnOk r (after ≡ documents ++ new ∷ []) → OnOk r (document_in after new.name ≡ Some new)
added_one (Ok x) documents after name new e same h =
    ap (λ ds. document_in ds new.name) h
    ∙ find-append (λ (d : Kept). bytes_eq d.name new.name) documents (new ∷ [])
    ∙ ap (λ o. option_or o (document_in (new ∷ []) new.name)) (ap (document_in documents) (sym same) ∙ absent (λ (d : Kept). d.name) documents name e)
    ∙ ap (λ b. cond b (Some new) None) (same_name new.name new.name refl)
added_one (Err x) documents after name new e same h = tt

pub added_others : {E : Type 0} (r : Result (Unit {0}) E) (documents after : List Kept) (new : Kept) → OnOk r (after ≡ documents ++ new ∷ []) → OnErr r (after ≡ documents) → (other : List ℕ) → other ≢ new.name → document_in after other ≡ document_in documents other
added_others (Ok x) documents after new h k other ne =
    ap (λ ds. document_in ds other) h
    ∙ find-append (λ (d : Kept). bytes_eq d.name other) documents (new ∷ [])
    ∙ ap (λ b. option_or (document_in documents other) (cond b (Some new) None)) (other_name new.name other ne)
    ∙ or_none (document_in documents other)
added_others (Err x) documents after new h k other ne = ap (λ ds. document_in ds other) k

pub failed_of : {E : Type 0} (r : Result ℕ E) (fails : Bool) (x : Option Kept) (old : Kept) → x ≡ Some old → IsErr r ↔ IsTrue fails → IsErr r ↔ (IsTrue fails ⊎ (option_map (λ d. d.left) x ≡ None))
failed_of r fails None old e h = absurd (cc)
failed_of r fails (Some d) old e h = (λ k. inl (h.0 k), λ s. elim s [ inl k ↦ h.1 k | inr k ↦ absurd (cc) ])

pub bytes_of : {E : Type 0} (r : Result ℕ E) (into : List ℕ) (x y : Option Kept) (old new : Kept) → x ≡ Some old → y ≡ Some new → IfOk r (λ n. old.left ≡ take n into ++ new.left) → IfOk r (λ n. option_map (λ d. d.left) x ≡ before (take n into) (option_map (λ d. d.left) y))
bytes_of (Ok n) into x y old new e f h = ap (option_map (λ d. d.left)) e ∙ ap Some h ∙ ap (λ o. before (take n into) (option_map (λ d. d.left) o)) (sym f)
bytes_of (Err n) into x y old new e f h = tt

pub count_of : {E : Type 0} (r : Result ℕ E) (room : ℕ) (x : Option Kept) (old : Kept) → x ≡ Some old → IfOk r (λ n. n ≡ min room (length old.left)) → IfOk r (λ n. n ≡ min room (length (unwrap_or (option_map (λ d. d.left) x) [])))
count_of (Ok n) room x old e h = h ∙ ap (λ (o : Option Kept). min room (length (unwrap_or (option_map (λ d. d.left) o) []))) (sym e)
count_of (Err n) room x old e h = tt

pub left_of : {E : Type 0} (r : Result ℕ E) (x y : Option Kept) (old new : Kept) → x ≡ Some old → y ≡ Some new → OnErr r (new.left ≡ old.left) → OnErr r (option_map (λ d. d.left) y ≡ option_map (λ d. d.left) x)
left_of (Ok n) x y old new e f h = tt
left_of (Err n) x y old new e f h = ap (option_map (λ d. d.left)) f ∙ ap Some h ∙ ap (option_map (λ d. d.left)) (sym e)

pub quiet_of : {E : Type 0} (r : Result ℕ E) (x y : Option Kept) (old new : Kept) → x ≡ Some old → y ≡ Some new → OnOk r (new.faults ≡ old.faults) → OnOk r (unwrap_or (option_map (λ d. d.faults) y) (2 ^ 64 - 1) ≡ unwrap_or (option_map (λ d. d.faults) x) (2 ^ 64 - 1))
quiet_of (Ok n) x y old new e f h = ap (λ (o : Option Kept). unwrap_or (option_map (λ d. d.faults) o) (2 ^ 64 - 1)) f ∙ h ∙ ap (λ (o : Option Kept). unwrap_or (option_map (λ d. d.faults) o) (2 ^ 64 - 1)) (sym e)
quiet_of (Err n) x y old new e f h = tt

pub raised_of : {E : Type 0} (r : Result ℕ E) (x y : Option Kept) (old new : Kept) → x ≡ Some old → y ≡ Some new → OnErr r (new.faults ≡ raised old.faults) → OnErr r (unwrap_or (option_map (λ d. d.faults) y) (2 ^ 64 - 1) ≡ raised (unwrap_or (option_map (λ d. d.faults) x) (2 ^ 64 - 1)))
raised_of (Ok n) x y old new e f h = tt
raised_of (Err n) x y old new e f h = ap (λ (o : Option Kept). unwrap_or (option_map (λ d. d.faults) o) (2 ^ 64 - 1)) f ∙ h ∙ ap (λ (o : Option Kept). raised (unwrap_or (option_map (λ d. d.faults) o) (2 ^ 64 - 1))) (sym e)

pub grows_of : (x y : Option Kept) (old new : Kept) → x ≡ Some old → y ≡ Some new → old.faults ≤ new.faults → unwrap_or (option_map (λ d. d.faults) x) (2 ^ 64 - 1) ≤ unwrap_or (option_map (λ d. d.faults) y) (2 ^ 64 - 1)
grows_of x y old new e f h = carried (λ x y. unwrap_or (option_map (λ d. d.faults) x) (2 ^ 64 - 1) ≤ unwrap_or (option_map (λ d. d.faults) y) (2 ^ 64 - 1)) x y old new e f h

pub failed_where_absent : (fails : Bool) (x : Option Kept) → x ≡ None → (true ≡ true → IsTrue fails ⊎ (option_map (λ d. d.left) x ≡ None)) × (IsTrue fails ⊎ (option_map (λ d. d.left) x ≡ None) → true ≡ true)
failed_where_absent fails x e = (λ _. inr (ap (option_map (λ d. d.left)) e), λ _. refl)
