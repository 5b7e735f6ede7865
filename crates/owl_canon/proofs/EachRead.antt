-- What is read one after the other.
use Rattle.std.proofs.Common.{◌≡◌, ◌<◌, ◌≤◌, ◌+◌, ℕ, List, [], ◌∷◌, ◌++◌, length, refl, sym, ap, ◌∙◌, arith, length-append}
use Rattle.std.specs.Prelude.{flat_map}
use Rattle.std.specs.List.{AllByRecursion}
use Rattle.std.proofs.lemmas.List.{append_assoc, append-nil}
use Rattle.owl_canon.specs.Bytes.{counted, number_bytes}
use Rattle.owl_canon.specs.declared.fault.CanonFault.{CanonFault}
use Rattle.owl_canon.specs.declared.fault.CanonFault.TheVariants.{Memory}

pub count_first : {X : Type 0} (bytes : X → List ℕ) (xs : List X) (more : List ℕ) → counted bytes xs ++ more ≡ number_bytes (length xs) ++ (flat_map bytes xs ++ more)
count_first bytes xs more = append_assoc (number_bytes (length xs)) (flat_map bytes xs) more

module _ {X : Type 0} (Good : X → Type 0) (bytes : X → List ℕ) (count : ℕ) where
  -- of all of them these are not read yet
  pub record IsLeft (all got : List X) (rest more : List ℕ) : Type 0 where
    pub later : List X
    pub parts : all ≡ got ++ later
    pub bytes_left : rest ≡ flat_map bytes later ++ more
    pub good : AllByRecursion Good later
    pub so_many : length later + length got ≡ count

  -- so many are read of these bytes
  pub record HasRead (start : List ℕ) (got : List X) (rest : List ℕ) (i : ℕ) : Type 0 where
    pub so_many : length got ≡ i
    pub left : (all : List X) (more : List ℕ) → AllByRecursion Good all → length all ≡ count → start ≡ flat_map bytes all ++ more → IsLeft all got rest more

  pub nothing_read : (start : List ℕ) → HasRead start [] start 0
  nothing_read start = record {
    so_many = refl;
    left = λ all more g n e. record { later = all; parts = refl; bytes_left = e; good = g; so_many = omega arith };
  }

  -- one that is next
  record IsNext (all got : List X) (rest more : List ℕ) : Type 0 where
    next : X
    later : List X
    parts : all ≡ got ++ next ∷ later
    bytes_left : rest ≡ bytes next ++ (flat_map bytes later ++ more)
    good : Good next
    others : AllByRecursion Good later
    so_many : length later + length got + 1 ≡ count

  next_of : (all got : List X) (rest more : List ℕ) → length got < count → IsLeft all got rest more → IsNext all got rest more
  next_of all got rest more l h = by_cases h.later h.parts h.bytes_left h.good h.so_many
    where
      by_cases : (later : List X) → all ≡ got ++ later → rest ≡ flat_map bytes later ++ more → AllByRecursion Good later → length later + length got ≡ count → IsNext all got rest more
      by_cases [] e f g n = absurd (omega arith)
      by_cases (x ∷ xs) e f g n = record {
        next = x;
        later = xs;
        parts = e;
        bytes_left = f ∙ append_assoc (bytes x) (flat_map bytes xs) more;
        good = g.0;
        others = g.1;
        so_many = omega arith;
      }

  module _ (start : List ℕ) (got : List X) (rest : List ℕ) (i : ℕ) (h : HasRead start got rest i) where
    -- one more
    pub one_read : (x : X) (after : List ℕ) → i < count → ((y : X) (more : List ℕ) → Good y → rest ≡ bytes y ++ more → (x ≡ y) × (after ≡ more)) → HasRead start (got ++ x ∷ []) after (i + 1)
    one_read x after l found = record {
      so_many = length-append got (x ∷ []) ∙ ap (λ (n : ℕ). n + 1) h.so_many;
      left = λ all more g n e.
          let few = h.so_many in
          let k = next_of all got rest more (omega arith) (h.left all more g n e) in
          let this = found k.next (flat_map bytes k.later ++ more) k.good k.bytes_left in
          record {
            later = k.later;
            parts = k.parts ∙ ap (λ (y : X). got ++ y ∷ k.later) (sym this.0) ∙ sym (append_assoc got (x ∷ []) k.later);
            bytes_left = this.1;
            good = k.others;
            so_many = let m = length-append got (x ∷ []) in let o = k.so_many in omega arith;
          };
    }

    -- the next one is not read for want of memory
    pub one_not_read : (fault : CanonFault) → i < count → ((y : X) (more : List ℕ) → Good y → rest ≡ bytes y ++ more → fault ≡ Memory) →
        (all : List X) (more : List ℕ) → AllByRecursion Good all → length all ≡ count → start ≡ flat_map bytes all ++ more → fault ≡ Memory
    one_not_read fault l found all more g n e =
        let few = h.so_many in
        let k = next_of all got rest more (omega arith) (h.left all more g n e) in
        found k.next (flat_map bytes k.later ++ more) k.good k.bytes_left

    -- all of them
    pub all_read : count ≤ i → (all : List X) (more : List ℕ) → AllByRecursion Good all → length all ≡ count → start ≡ flat_map bytes all ++ more → (got ≡ all) × (rest ≡ more)
    all_read l all more g n e = let k = h.left all more g n e in by_cases k.later k.parts k.bytes_left k.so_many
      where
        by_cases : (later : List X) → all ≡ got ++ later → rest ≡ flat_map bytes later ++ more → length later + length got ≡ count → (got ≡ all) × (rest ≡ more)
        by_cases [] e f n = (sym (e ∙ append-nil got), f)
        by_cases (x ∷ xs) e f n = let m = h.so_many in absurd (omega arith)
