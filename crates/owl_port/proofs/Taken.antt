-- What is taken from the front of a list in two steps.
use Rattle.std.proofs.Common.{arith, ◌≡◌, ◌≤◌, ◌+◌, ◌-◌, ℕ, List, ◌++◌, length, take, drop, Option, None, Some, Bool, IsTrue, refl, sym, ap, ◌∙◌, subst, append_assoc}
use Rattle.std.proofs.Math.Seq.{take-add}
use Rattle.std.proofs.lemmas.List.{take_rest, take_all, take-append-le, take-append-drop, length-take-le, drop-drop}
use Rattle.owl_port.specs.Outside.{before}

-- first these bytes were taken, and then those
pub before-before : (first second : List ℕ) (rest : Option (List ℕ)) → before first (before second rest) ≡ before (first ++ second) rest
before-before first second None = refl
before-before first second (Some rest) = ap Some (sym (append_assoc first second rest))

pub before_then : (first second : List ℕ) (old middle new : Option (List ℕ)) → old ≡ before first middle → middle ≡ before second new → old ≡ before (first ++ second) new
before_then first second old middle new e f = e ∙ ap (before first) f ∙ before-before first second new

-- a front of the bytes was put, and then a front of the others
pub put_then : (put more : ℕ) (bytes old middle new : List ℕ) → middle ≡ old ++ take put bytes → new ≡ middle ++ take more (take (length bytes - put) (drop put bytes)) → new ≡ old ++ take (put + more) bytes
put_then put more bytes old middle new e f =
    f
    ∙ ap (λ x. middle ++ take more x) (take_rest bytes put)
    ∙ ap (λ x. x ++ take more (drop put bytes)) e
    ∙ append_assoc old (take put bytes) (take more (drop put bytes))
    ∙ ap (λ x. old ++ x) (sym (take-add put more bytes))

-- the outside tells now, if it told at first
pub along : (a b : Bool) → a ≡ b → IsTrue b → IsTrue a
along a b e t = subst IsTrue (sym e) t

-- the bytes that stood after the ones given were copied to the front of a buffer
pub given_then : (count given : ℕ) (bytes rest copied tail : List ℕ) → rest ≡ drop given bytes → copied ≡ take count rest → count ≤ length rest → drop given bytes ≡ take count (copied ++ tail) ++ drop (given + count) bytes
given_then count given bytes rest copied tail rest_is copied_is fits =
    let size : length copied ≡ count = ap length copied_is ∙ length-take-le count rest fits in
    let front : take count (copied ++ tail) ≡ copied =
    take-append-le count copied tail (omega arith) ∙ take_all count copied (omega arith) in
    let back : drop count rest ≡ drop (given + count) bytes = ap (drop count) rest_is ∙ drop-drop count given bytes in
    sym rest_is
    ∙ sym (take-append-drop count rest)
    ∙ ap (λ x. x ++ drop count rest) (sym (front ∙ copied_is))
    ∙ ap (λ x. take count (copied ++ tail) ++ x) back
