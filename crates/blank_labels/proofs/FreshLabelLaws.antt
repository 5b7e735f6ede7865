-- Fresh labels are labels, they differ from one another, and from those beside which they were made.
use Rattle.std.proofs.Common.{◌≡◌, ◌≤◌, ◌<◌, ◌+◌, ◌*◌, ◌^◌, ℕ, suc, true, List, [], ◌∷◌, ◌++◌, length, get_or, inl, inr, refl, sym, ap, ◌∙◌, subst, arith}
use Rattle.std.specs.Prelude.{Contains, cond, max, not, nat_eq, nat_le, Option, None, Some}
use Rattle.std.specs.Char.{is_ascii_digit}
use Rattle.std.specs.Cmp.{nat_cmp_is}
use Rattle.std.specs.FinMap.{nat_cmp-IsAntisymmetric}
use Rattle.std.specs.Fmt.{decimal}
use Rattle.std.specs.List.{flat_map, list_all}
use Rattle.std.specs.Ordering.{nat_cmp}
use Rattle.std.specs.declared.cmp.Ordering.TheVariants.{Less, Equal, Greater}
use Rattle.std.specs.Str.Parse.{digits_value}
use Rattle.std.proofs.Math.Nat.{le-max_left, le-max_right}
use Rattle.std.proofs.lemmas.Bool.{and_from, cases_Bool, cases_order, cond_both, leb-true, leb-false, ne_eqb}
use Rattle.std.proofs.lemmas.Cmp.{nat_cmp_total}
use Rattle.std.proofs.lemmas.Fmt.{digits_decimal, digits_value-decimal, first_decimal, length-decimal-le}
use Rattle.std.proofs.lemmas.Grind.{flat_map-append}
use Rattle.std.proofs.lemmas.List.{append-nil, append_assoc}
use Rattle.std.proofs.lemmas.List.Elements.{Contains-append_cases, Contains-append_left, Contains-append_right}
use Rattle.std.proofs.lemmas.Str.Parse.{digits_value_short}
use Rattle.std.specs.declared.cmp.Ordering.{Ordering}
use Rattle.owl_list.specs.Ascending.{HoldSame, IsAscending, ascending, by_order, put}
use Rattle.owl_list.proofs.AscendingLaws.{all_in, ascending_ascends, ascending_holds, ascending_same, head_below, in_cases, in_head, in_none, in_tail, same_sym, tail_ascends}
use Rattle.owl_characters.specs.Names.{IsLabel}
use Rattle.blank_labels.specs.Labels.{label_number, labelled}
use Rattle.blank_labels.proofs.LabelLaws.{counted, decimal_digits, label_number_below, label_of_digits, numerals, same_labelled, value_back}
use Rattle.blank_labels.specs.FreshLabels.{are_far, far_number, far_numbers, far_ones, fresh_name, greatest_number, numbered_label, or_none, passing}
use Rattle.blank_labels.specs.LabelNumbers.{Counts, LabelNumbers, arranged, names_beside, no_numbers}

-- Numbers that pass over those that are taken.

pub above : (taken : List ℕ) (n : ℕ) → n ≤ passing taken n
above [] n = omega arith
above (t ∷ taken) n = cond_both (nat_le t n) (passing taken (suc n)) n (λ m. n ≤ m) (λ _. let up = above taken (suc n) in omega (arith, up)) (λ _. omega arith)

pub within : (taken : List ℕ) (n : ℕ) → passing taken n ≤ n + length taken
within [] n = omega arith
within (t ∷ taken) n = cond_both (nat_le t n) (passing taken (suc n)) n (λ m. m ≤ n + suc (length taken)) (λ _. let up = within taken (suc n) in omega (arith, up)) (λ _. omega arith)

pub rising : (taken : List ℕ) (m n : ℕ) → m < n → passing taken m < passing taken n
rising [] m n h = h
rising (t ∷ taken) m n h =
    cond_both (nat_le t m) (passing taken (suc m)) m (λ a. a < passing (t ∷ taken) n)
    (λ k. cond_both (nat_le t n) (passing taken (suc n)) n (λ b. passing taken (suc m) < b) (λ _. rising taken (suc m) (suc n) (omega (arith, h))) (λ l. absurd (omega (arith, h, leb-true t m k, leb-false t n l))))
    (λ k. let up = above (t ∷ taken) n in omega (arith, h, up))

pub same_passing : (taken : List ℕ) (m n : ℕ) → passing taken m ≡ passing taken n → m ≡ n
same_passing taken m n e =
    elim (cases_order m n) [
      | inl s ↦ s
      | inr o ↦
          elim o [
            | inl b ↦ let up = rising taken m n b in absurd (omega (arith, up, e))
            | inr a ↦ let up = rising taken n m a in absurd (omega (arith, up, e))
          ]
    ]

pub less_is : (x y : ℕ) → nat_cmp x y ≡ Less → x < y
less_is x y e =
    elim (cases_order x y) [
      | inl s ↦ let tie = nat_cmp_is x y Equal s in cc
      | inr o ↦ elim o [ inl b ↦ b | inr a ↦ let more = nat_cmp_is x y Greater a in cc ]
    ]

pub not_taken : (taken : List ℕ) (n : ℕ) → IsAscending nat_cmp taken → Contains taken (passing taken n) → ⊥
not_taken [] n a = λ m. in_none n m
not_taken (t ∷ taken) n a =
    cond_both (nat_le t n) (passing taken (suc n)) n (λ p. Contains (t ∷ taken) p → ⊥)
    (λ k m. elim (in_cases t taken (passing taken (suc n)) m) [
      | inl e ↦ let up = above taken (suc n) in omega (arith, up, e, leb-true t n k)
      | inr l ↦ not_taken taken (suc n) (tail_ascends nat_cmp t taken a) l
    ])
    (λ k m. elim (in_cases t taken n m) [
      | inl e ↦ omega (arith, e, leb-false t n k)
      | inr l ↦ omega (arith, leb-false t n k, less_is t n (all_in (λ y. nat_cmp t y ≡ Less) taken n (head_below nat_cmp t taken a) l))
    ])

-- Labels of far numbers.

-- a number of 19 digits is that of its label
nineteen : (n : ℕ) → 10 ^ 18 ≤ n → n < 10 ^ 19 → length (decimal n) ≡ 19
nineteen n long short =
    let wide : n < 2 ^ 64 = omega (arith, short) in
    let most = length-decimal-le 19 n (omega arith) short wide in
    let value = digits_value-decimal numerals n wide in
    elim (cases_Bool (nat_le (length (decimal n)) 18)) [
      | inl t ↦
          let less = digits_value_short numerals (decimal n) 18 (digits_decimal numerals n wide) (leb-true (length (decimal n)) 18 t) in
          absurd (omega (arith, less, value, long))
      | inr f ↦ omega (arith, most, leb-false (length (decimal n)) 18 f)
    ]

far_digits : (n : ℕ) → 10 ^ 18 ≤ n → n < 10 ^ 19 → are_far (decimal n) ≡ true
far_digits n long short =
    let wide : n < 2 ^ 64 = omega (arith, short) in
    let first = first_decimal n (omega (arith, long)) wide in
    and_from (nat_eq (length (decimal n)) 19) _ (ap (λ k. nat_eq k 19) (nineteen n long short))
    (and_from (not (nat_eq (get_or (decimal n) 0 0) 48)) (list_all is_ascii_digit (decimal n))
    (ap not (ne_eqb (get_or (decimal n) 0 0) 48 (λ e. omega (arith, first, e)))) (digits_decimal numerals n wide))

far : (n : ℕ) → 10 ^ 18 ≤ n → n < 10 ^ 19 → far_number (labelled n) ≡ Some (digits_value 10 (decimal n))
far n long short = ap (λ b. cond b (Some (digits_value 10 (decimal n))) None) (far_digits n long short)

in_greatest : (labels : List (List ℕ)) (label : List ℕ) → Contains labels label → label_number label ≤ greatest_number labels
in_greatest [] label m = absurd (in_none label m)
in_greatest (l ∷ labels) label m =
    elim (in_cases l labels label m) [
      | inl e ↦ subst (λ k. label_number k ≤ greatest_number (l ∷ labels)) e (le-max_left (label_number l) (greatest_number labels))
      | inr k ↦
          let below = in_greatest labels label k in
          let most = le-max_right (label_number l) (greatest_number labels) in
          omega (arith, below, most)
    ]

max_below : (a b c : ℕ) → a < c → b < c → max a b < c
max_below a b c h k = omega (arith, h, k)

greatest_below : (labels : List (List ℕ)) → greatest_number labels < 10 ^ 18
greatest_below [] = omega arith
greatest_below (l ∷ labels) = max_below (label_number l) (greatest_number labels) (10 ^ 18) (label_number_below l) (greatest_below labels)

put_by : (o : Ordering) (x y : ℕ) (ys rest : List ℕ) → length rest ≤ suc (length ys) → length (by_order o (x ∷ y ∷ ys) (y ∷ ys) (y ∷ rest)) ≤ suc (suc (length ys))
put_by Less x y ys rest h = omega arith
put_by Equal x y ys rest h = omega arith
put_by Greater x y ys rest h = omega (arith, h)

put_short : (x : ℕ) (ys : List ℕ) → length (put nat_cmp x ys) ≤ suc (length ys)
put_short x [] = omega arith
put_short x (y ∷ ys) = put_by (nat_cmp x y) x y ys (put nat_cmp x ys) (put_short x ys)

ascending_short : (xs : List ℕ) → length (ascending nat_cmp xs) ≤ length xs
ascending_short [] = omega arith
ascending_short (x ∷ xs) = omega (arith, put_short x (ascending nat_cmp xs), ascending_short xs)

-- the numbers of labels that are far

or_none_short : (o : Option ℕ) (ns : List ℕ) → length (or_none o ++ ns) ≤ suc (length ns)
or_none_short None ns = omega arith
or_none_short (Some n) ns = omega arith

ones_short : (labels : List (List ℕ)) → length (far_ones labels) ≤ length labels
ones_short [] = omega arith
ones_short (l ∷ labels) =
    let one : length (far_ones (l ∷ labels)) ≤ suc (length (far_ones labels)) = or_none_short (far_number l) (far_ones labels) in
    omega (arith, one, ones_short labels)

far_short : (labels : List (List ℕ)) → length (far_numbers labels) ≤ length labels
unfolding far_numbers
far_short labels = omega (arith, ascending_short (far_ones labels), ones_short labels)

far_ascend : (labels : List (List ℕ)) → IsAscending nat_cmp (far_numbers labels)
unfolding far_numbers
far_ascend labels = ascending_ascends nat_cmp nat_cmp_total (far_ones labels)

in_ones : (labels : List (List ℕ)) (label : List ℕ) (n : ℕ) → Contains labels label → far_number label ≡ Some n → Contains (far_ones labels) n
in_ones [] label n m h = absurd (in_none label m)
in_ones (l ∷ labels) label n m h =
    elim (in_cases l labels label m) [
      | inl e ↦
          Contains-append_left (or_none (far_number l)) (far_ones labels) n
          (subst (λ o. Contains (or_none o) n) (sym (ap far_number e ∙ h)) (in_head n []))
      | inr k ↦ Contains-append_right (or_none (far_number l)) (far_ones labels) n (in_ones labels label n k h)
    ]

in_far : (labels : List (List ℕ)) (label : List ℕ) (n : ℕ) → Contains labels label → far_number label ≡ Some n → Contains (far_numbers labels) n
unfolding far_numbers
in_far labels label n m h =
    (ascending_holds nat_cmp nat_cmp_total nat_cmp-IsAntisymmetric (far_ones labels) n).1 (in_ones labels label n m h)

-- The number of a fresh label.

abbrev number : List (List ℕ) → ℕ → ℕ
number labels n = passing (far_numbers labels) (greatest_number labels + 1 + n)

named : (labels : List (List ℕ)) (n : ℕ) → fresh_name labels n ≡ labelled (number labels n)
unfolding numbered_label
named labels n = refl

number_below : (labels : List (List ℕ)) (n : ℕ) → n + length labels < 9 * 10 ^ 18 → number labels n < 10 ^ 19
number_below labels n few =
    omega (arith, few, within (far_numbers labels) (greatest_number labels + 1 + n), far_short labels, greatest_below labels)

-- nodes with other numbers have other labels
pub fresh_apart : (labels : List (List ℕ)) (m n : ℕ) → m + length labels < 9 * 10 ^ 18 → n + length labels < 9 * 10 ^ 18 → fresh_name labels m ≡ fresh_name labels n → m ≡ n
fresh_apart labels m n a b e =
    let low = number_below labels m a in
    let high = number_below labels n b in
    let same = same_labelled (number labels m) (number labels n) (omega (arith, low)) (omega (arith, high)) (sym (named labels m) ∙ e ∙ named labels n) in
    let equal = same_passing (far_numbers labels) (greatest_number labels + 1 + m) (greatest_number labels + 1 + n) same in
    omega (arith, equal)

no_number : (labels : List (List ℕ)) (n p : ℕ) → p ≡ number labels n → p < 10 ^ 19 → Contains labels (labelled p) → ⊥
no_number labels n p is small m =
    let up = above (far_numbers labels) (greatest_number labels + 1 + n) in
    elim (cases_Bool (nat_le (10 ^ 18) p)) [
      | inl t ↦
          let long = leb-true (10 ^ 18) p t in
          let taken = in_far labels (labelled p) (digits_value 10 (decimal p)) m (far p long small) in
          not_taken (far_numbers labels) (greatest_number labels + 1 + n) (far_ascend labels)
          (subst (λ q. Contains (far_numbers labels) q) (value_back p (omega (arith, small)) ∙ is) taken)
      | inr f ↦
          let below = in_greatest labels (labelled p) m in
          let same = counted p (omega (arith, up, is)) (leb-false (10 ^ 18) p f) in
          omega (arith, up, is, below, same)
    ]

-- and none of the labels beside which they were made
pub fresh_new : (labels : List (List ℕ)) (n : ℕ) → n + length labels < 9 * 10 ^ 18 → Contains labels (fresh_name labels n) → ⊥
fresh_new labels n few m = no_number labels n (number labels n) refl (number_below labels n few) (subst (λ l. Contains labels l) (named labels n) m)

-- they are labels
pub fresh_is_label : (labels : List (List ℕ)) (n : ℕ) → n + length labels < 9 * 10 ^ 18 → IsLabel (fresh_name labels n)
fresh_is_label labels n few =
    let low = number_below labels n few in
    subst IsLabel (sym (named labels n)) (label_of_digits (decimal (number labels n)) (decimal_digits (number labels n) (omega (arith, low))))

-- What stands in one of the lists of the elements.
module _ {X Y : Type 0} (f : X → List Y) where
  pub in_flat : (xs : List X) (x : X) (y : Y) → Contains xs x → Contains (f x) y → Contains (flat_map f xs) y
  in_flat [] x y m n = absurd (in_none x m)
  in_flat (z ∷ zs) x y m n =
      elim (in_cases z zs x m) [
        | inl e ↦ Contains-append_left (f z) (flat_map f zs) y (subst (λ (w : X). Contains (f w) y) (sym e) n)
        | inr k ↦ Contains-append_right (f z) (flat_map f zs) y (in_flat zs x y k n)
      ]

  pub record IsOfOne (xs : List X) (y : Y) : Type 0 where
    pub element : X
    pub inside : Contains xs element
    pub stands : Contains (f element) y

  pub from_flat : (xs : List X) (y : Y) → Contains (flat_map f xs) y → IsOfOne xs y
  from_flat [] y m = absurd (in_none y m)
  from_flat (z ∷ zs) y m =
      elim (Contains-append_cases (f z) (flat_map f zs) y m) [
        | inl n ↦ record { element = z; inside = in_head z zs; stands = n }
        | inr n ↦ let it = from_flat zs y n in record { element = it.element; inside = in_tail z zs it.element it.inside; stands = it.stands }
      ]

  through_flat : (xs ys : List X) → HoldSame xs ys → (y : Y) → Contains (flat_map f xs) y → Contains (flat_map f ys) y
  through_flat xs ys h y m = let it = from_flat xs y m in in_flat ys it.element y ((h it.element).0 it.inside) it.stands

  pub same_flat : (xs ys : List X) → HoldSame xs ys → HoldSame (flat_map f xs) (flat_map f ys)
  same_flat xs ys h = λ y. (through_flat xs ys h y, through_flat ys xs (same_sym xs ys h) y)

-- They go by the set of the labels.

max_within : (a b c : ℕ) → a ≤ c → b ≤ c → max a b ≤ c
max_within a b c h k = omega (arith, h, k)

greatest_within : (labels others : List (List ℕ)) → ((label : List ℕ) → Contains labels label → Contains others label) → greatest_number labels ≤ greatest_number others
greatest_within [] others h = omega arith
greatest_within (l ∷ ls) others h =
    let first = in_greatest others l (h l (in_head l ls)) in
    let rest = greatest_within ls others (λ label m. h label (in_tail l ls label m)) in
    max_within (label_number l) (greatest_number ls) (greatest_number others) first rest

greatest_same : (ls ms : List (List ℕ)) → HoldSame ls ms → greatest_number ls ≡ greatest_number ms
greatest_same ls ms h = omega (arith, greatest_within ls ms (λ label m. (h label).0 m), greatest_within ms ls (λ label m. (h label).1 m))

far_same : (ls ms : List (List ℕ)) → HoldSame ls ms → far_numbers ls ≡ far_numbers ms
unfolding far_numbers
far_same ls ms h = ascending_same nat_cmp nat_cmp_total nat_cmp-IsAntisymmetric (far_ones ls) (far_ones ms) (same_flat (λ label. or_none (far_number label)) ls ms h)

pub fresh_same : (ls ms : List (List ℕ)) → HoldSame ls ms → fresh_name ls ≡ fresh_name ms
fresh_same ls ms h = λ i. λ n. numbered_label (greatest_same ls ms h i) (far_same ls ms h i) n

-- Labels that were counted.

greatest_of_both : (ls ms : List (List ℕ)) → greatest_number (ls ++ ms) ≡ max (greatest_number ls) (greatest_number ms)
greatest_of_both [] ms = grind arith
greatest_of_both (l ∷ ls) ms = let e = greatest_of_both ls ms in grind (arith, e)

max_three : (a b c d e : ℕ) → b ≡ max a d → c ≡ max b e → c ≡ max a (max d e)
max_three a b c d e h k = grind (arith, h, k)

pub counts_none : (w : LabelNumbers) → Counts w w []
counts_none w = record { greatest = grind arith; far = sym (append-nil w.far) }

pub counts_both : (old mid new : LabelNumbers) (ls ms : List (List ℕ)) → Counts old mid ls → Counts mid new ms → Counts old new (ls ++ ms)
counts_both old mid new ls ms x y = record {
  greatest = max_three old.greatest mid.greatest new.greatest (greatest_number ls) (greatest_number ms) x.greatest y.greatest ∙ ap (max old.greatest) (sym (greatest_of_both ls ms));
  far = y.far ∙ ap (λ (g : List ℕ). g ++ far_ones ms) x.far ∙ append_assoc old.far (far_ones ls) (far_ones ms)
      ∙ ap (λ (g : List ℕ). old.far ++ g) (sym (flat_map-append (λ label. or_none (far_number label)) ls ms));
}

-- beside all labels that were counted
pub names_are_fresh : (numbers : LabelNumbers) (labels : List (List ℕ)) → Counts no_numbers numbers labels → names_beside (arranged numbers) ≡ fresh_name labels
unfolding far_numbers
names_are_fresh numbers labels h =
    let greatest : numbers.greatest ≡ greatest_number labels = grind (arith, h.greatest) in
    λ i. λ n. numbered_label (greatest i) (ascending nat_cmp (h.far i)) n
