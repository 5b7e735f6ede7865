-- Tables in which some have a number.
use Rattle.std.specs.Prelude.{◌≡◌, ℕ, zero, suc, List, [], ◌∷◌, Option, Some, set, slice_get}
use Rattle.std.proofs.lemmas.Option.{same_Some}

-- what holds of each number that stands in the table, and of one that is put there, holds of each then
module _ {N : Type 0} where
  pub set_holds : (P : ℕ → N → Type 0) (ns : List (Option N)) (at : ℕ) (found : Option N) → ((node : ℕ) (n : N) → slice_get ns node ≡ Some (Some n) → P node n) →
      ((n : N) → found ≡ Some n → P at n) → (node : ℕ) (n : N) → slice_get (set ns at found) node ≡ Some (Some n) → P node n
  set_holds P [] at found old new node n e = old node n e
  set_holds P (x ∷ ns) zero found old new zero n e = new n (same_Some found (Some n) e)
  set_holds P (x ∷ ns) zero found old new (suc node) n e = old (suc node) n e
  set_holds P (x ∷ ns) (suc at) found old new zero n e = old zero n e
  set_holds P (x ∷ ns) (suc at) found old new (suc node) n e = set_holds (λ m i. P (suc m) i) ns at found (λ m i. old (suc m) i) new node n e
