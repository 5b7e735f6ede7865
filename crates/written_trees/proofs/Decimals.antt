-- The digits of a number are ASCII.
use Rattle.std.specs.Cmp.Derive.{both_true}
use Rattle.std.specs.Fmt.{decimal}
use Rattle.std.proofs.lemmas.Fmt.{decimal_by_steps}
use Rattle.std.proofs.Common.{Bool, ◌^◌, ◌%◌, ◌≡◌, ℕ, ◌+◌, ◌<◌, List, [], ◌∷◌, ◌++◌, true, arith}
use Rattle.std.specs.List.{list_all}
use Rattle.std.proofs.lemmas.Bool.Decides.{nat_tests}
use Rattle.std.specs.Cmp.{first_so, second_so}
use Rattle.owl_characters.specs.Iri.{is_ascii}

all_both : (test : ℕ → Bool) (xs ys : List ℕ) → list_all test xs ≡ true → list_all test ys ≡ true → list_all test (xs ++ ys) ≡ true
all_both test [] ys h k = k
all_both test (x ∷ xs) ys h k = both_true (first_so (test x) (list_all test xs) h) (all_both test xs ys (second_so (test x) (list_all test xs) h) k)

digit_ascii : (d : ℕ) → d < 10 → list_all is_ascii ((48 + d) ∷ []) ≡ true
digit_ascii d h = grind (arith, nat_tests)

pub decimal_ascii : (n : ℕ) → n < 2 ^ 64 → list_all is_ascii (decimal n) ≡ true
decimal_ascii = decimal_by_steps (λ n ds. list_all is_ascii ds ≡ true) (λ n h. digit_ascii n h) (λ n ds h k. all_both is_ascii ds ((48 + n % 10) ∷ []) k (digit_ascii (n % 10) (omega arith)))
