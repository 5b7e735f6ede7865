-- Laws of sets of numbers as bits.
use Rattle.std.proofs.Common.{◌≡◌, ◌<◌, ◌*◌, ◌%◌, ◌^◌, ◌↔◌, ◌⊎◌, inl, inr, ℕ, zero, suc, true, false, not, nat_eq, max, bit_or, sym, ap, ◌∙◌, subst, arith, w64}
use Rattle.std.specs.Int.{bit_at}
use Rattle.std.proofs.Math.Nat.{two-pow-succ}
use Rattle.std.proofs.lemmas.Bool.{cases_eq, cases_lt}
use Rattle.std.proofs.lemmas.Bool.Decides.{eqb_tells}
use Rattle.std.proofs.lemmas.Nat.Bits.{bit_at-lt, bit_at-zero, bit_at_above, bit_at_or, bit_at_set_other, bit_at_set_same, same_from_bits}

-- what is in one of two sets is in both together
pub in_either : (a b i : ℕ) → (bit_at (bit_or a b) i ≡ 1) ↔ ((bit_at a i ≡ 1) ⊎ (bit_at b i ≡ 1))
in_either a b i =
    let both : bit_at (bit_or a b) i ≡ max (bit_at a i) (bit_at b i) = bit_at_or a b i in
    let first : bit_at a i < 2 = bit_at-lt a i in
    let second : bit_at b i < 2 = bit_at-lt b i in (
      λ e. elim (cases_eq (bit_at a i) 1) [
        | inl is ↦ inl is
        | inr differs ↦ inr (omega arith)
      ],
      λ h. elim h [
        | inl is ↦ omega arith
        | inr is ↦ omega arith
      ],
    )

pub in_none : (i : ℕ) → bit_at 0 i ≡ 1 → ⊥
in_none i is = absurd (let none = bit_at-zero i in omega arith)

-- a set of one number
pub in_single : (number other : ℕ) → number < 64 → (bit_at (1 * 2 ^ number % 2 ^ 64) other ≡ 1) ↔ (other ≡ number)
in_single number other within =
    let set : ℕ = 1 * 2 ^ number % 2 ^ 64 in
    elim (cases_eq other number) as (λ _. (bit_at set other ≡ 1) ↔ (other ≡ number)) [
      | inl same ↦
          let here : bit_at set number ≡ 1 = elim ((in_either 0 set number).0 (bit_at_set_same w64 0 number within)) [
            | inl is ↦ absurd (in_none number is)
            | inr is ↦ is
          ] in
          (λ _. same, λ _. subst (λ (k : ℕ). bit_at set k ≡ 1) (sym same) here)
      | inr differs ↦ (
        λ is. absurd (in_none other (sym (bit_at_set_other w64 0 number within other differs) ∙ (in_either 0 set other).1 (inr is))),
        λ same. absurd (differs same),
      )
    ]

-- one set has a number that the other hasn't
pub record HasMore (a b : ℕ) : Type 0 where
  pub number : ℕ
  pub has : bit_at a number ≡ 1
  pub lacks : bit_at b number ≡ 1 → ⊥

-- up to a bound there is one, or all that the one set has is in the other
more_or_none : (a b bound : ℕ) → HasMore a b ⊎ ((i : ℕ) → i < bound → bit_at a i ≡ 1 → bit_at b i ≡ 1)
more_or_none a b zero = inr (λ i within. absurd (omega arith))
more_or_none a b (suc bound) = elim (more_or_none a b bound) [
  | inl more ↦ inl more
  | inr none ↦ elim (cases_eq (bit_at b bound) 1) [
    | inl is ↦ inr (λ i within has. elim (cases_eq i bound) [
      | inl e ↦ ap (bit_at b) e ∙ is
      | inr differs ↦ none i (omega arith) has
    ])
    | inr differs ↦ elim (cases_eq (bit_at a bound) 1) [
      | inl has ↦ inl (record { number = bound; has = has; lacks = differs })
      | inr hasnt ↦ inr (λ i within has. elim (cases_eq i bound) [
        | inl e ↦ absurd (hasnt (sym (ap (bit_at a) e) ∙ has))
        | inr other ↦ none i (omega arith) has
      ])
    ]
  ]
]

below_power : (n : ℕ) → n < 2 ^ n
below_power zero = omega arith
below_power (suc n) = (let before = below_power n in let twice = two-pow-succ n in omega arith)

-- where all that the one has is in the other, they are together the other
same_together : (a b : ℕ) → ((i : ℕ) → i < a → bit_at a i ≡ 1 → bit_at b i ≡ 1) → bit_or a b ≡ b
same_together a b all =
    same_from_bits (bit_or a b) b (λ i.
    let both : bit_at (bit_or a b) i ≡ max (bit_at a i) (bit_at b i) = bit_at_or a b i in
    let first : bit_at a i < 2 = bit_at-lt a i in
    let second : bit_at b i < 2 = bit_at-lt b i in
    elim (cases_lt i a) as (λ _. bit_at (bit_or a b) i ≡ bit_at b i) [
      | inl within ↦ elim (cases_eq (bit_at a i) 1) as (λ _. bit_at (bit_or a b) i ≡ bit_at b i) [
        | inl has ↦ let is = all i within has in omega arith
        | inr hasnt ↦ omega arith
      ]
      | inr past ↦ let none : bit_at a i ≡ 0 = bit_at_above a a i (below_power a) past in omega arith
    ])

-- the test whether one set has a number that the other hasn't
pub has_more : (a b : ℕ) → (not (nat_eq (bit_or a b) b) ≡ true) ↔ HasMore a b
has_more a b = elim (eqb_tells (bit_or a b) b) as (λ _. (not (nat_eq (bit_or a b) b) ≡ true) ↔ HasMore a b) [
  | inl same ↦ (
    λ e. absurd (let f : not (nat_eq (bit_or a b) b) ≡ false = ap not same.0 in cc),
    λ more. absurd (more.lacks (sym (ap (λ (n : ℕ). bit_at n more.number) same.1) ∙ (in_either a b more.number).1 (inl more.has))),
  )
  | inr differ ↦ (
    λ e. elim (more_or_none a b a) as (λ _. HasMore a b) [
      | inl more ↦ more
      | inr none ↦ absurd (differ.1 (same_together a b none))
    ],
    λ more. ap not differ.0,
  )
]
