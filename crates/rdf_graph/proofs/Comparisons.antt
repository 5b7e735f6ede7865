-- What comparisons tell.
use Rattle.std.proofs.Common.{◌≡◌, ◌<◌, ◌≤◌, ℕ, true, false, refl, sym, arith}
use Rattle.std.specs.declared.cmp.Ordering.{Ordering}
use Rattle.std.specs.declared.cmp.Ordering.TheVariants.{Less, Equal, Greater}
use Rattle.std.specs.Cmp.{ranked}
use Rattle.std.specs.Ordering.{is_le, is_lt, nat_cmp, ordering_index, ordering_reverse, ordering_then}

pub is_less : (o : Ordering) → is_lt o ≡ true → o ≡ Less
is_less Less h = refl
is_less Equal h = cc
is_less Greater h = cc

pub is_greater : (o : Ordering) → is_le o ≡ false → o ≡ Greater
is_greater Less h = cc
is_greater Equal h = cc
is_greater Greater h = refl

pub is_equal : (o : Ordering) → is_lt o ≡ false → is_le o ≡ true → o ≡ Equal
is_equal Less h k = cc
is_equal Equal h k = refl
is_equal Greater h k = cc

-- a test that an answer passes is passed by those below it
pub lt_below : (o p : Ordering) → ordering_index o ≤ ordering_index p → is_lt p ≡ true → is_lt o ≡ true
lt_below Less p h e = refl
lt_below Equal Less h e = absurd (omega arith)
lt_below Equal Equal h e = cc
lt_below Equal Greater h e = cc
lt_below Greater Less h e = absurd (omega arith)
lt_below Greater Equal h e = cc
lt_below Greater Greater h e = cc

pub le_below : (o p : Ordering) → ordering_index o ≤ ordering_index p → is_le p ≡ true → is_le o ≡ true
le_below Less p h e = refl
le_below Equal p h e = refl
le_below Greater Less h e = absurd (omega arith)
le_below Greater Equal h e = absurd (omega arith)
le_below Greater Greater h e = cc

-- what the second of two comparisons tells, where the first one ties
pub second_lt : (o p : Ordering) → o ≡ Equal → is_lt (ordering_then o p) ≡ is_lt p
second_lt Less p e = cc
second_lt Equal p e = refl
second_lt Greater p e = cc

-- what stands in front is not greater by the first of two comparisons
pub not_after : (o p : Ordering) → ordering_then o p ≡ Less → is_lt (ordering_reverse o) ≡ false
not_after Less p e = refl
not_after Equal p e = refl
not_after Greater p e = cc

-- what stands behind, and differs by the first of two comparisons, is greater by it
pub is_behind : (o p : Ordering) → is_lt (ordering_then o p) ≡ false → (o ≡ Equal → ⊥) → o ≡ Greater
is_behind Less p h differs = cc
is_behind Equal p h differs = absurd (differs refl)
is_behind Greater p h differs = refl

pub less_number : (a b : ℕ) → is_lt (nat_cmp a b) ≡ true → a < b
less_number a b h = ranked a b Less (sym (is_less (nat_cmp a b) h))
