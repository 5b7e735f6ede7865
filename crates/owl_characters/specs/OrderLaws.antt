-- The laws of the comparisons of texts.
use Rattle.std.proofs.Common.{◌≡◌, ◌≢◌, ℕ, Bool, true, false, List, refl, sym, ap, ◌∙◌, subst}
use Rattle.std.specs.Str.{bytes_eq, encode_utf8_all}
use Rattle.std.specs.declared.cmp.Ordering.TheVariants.{Less, Equal, Greater}
use Rattle.std.specs.FinMap.{nat_cmp-IsAntisymmetric, slice_cmp-IsAntisymmetric}
use Rattle.std.specs.Ordering.{eq_by_cmp, nat_cmp, ordering_reverse}
use Rattle.std.specs.Cmp.{IsTotalOrder, unsigned_ties}
use Rattle.std.specs.Cmp.Lexicographic.{lists_ties}
use Rattle.std.proofs.lemmas.Bool.{false_from_ne_true}
use Rattle.std.proofs.lemmas.Cmp.{nat_list_cmp_total, on_total, tied_itself}
use Rattle.std.proofs.lemmas.Slice.Eq.{bytes_eq-Decides}
use Rattle.std.proofs.lemmas.Str.{encodes_same}
use Rattle.owl_characters.specs.Order.{text_cmp, text_eq}

-- two tests that decide the same are one
one_test : (a b : Bool) → (a ≡ true → b ≡ true) → (b ≡ true → a ≡ true) → a ≡ b
one_test true b h k = sym (h refl)
one_test false true h k = k refl
one_test false false h k = refl

-- the bytes of two texts are the same where their characters are
pub same_bytes : (a b : List ℕ) → bytes_eq (encode_utf8_all a) (encode_utf8_all b) ≡ text_eq a b
same_bytes a b =
    let bytes = bytes_eq-Decides (encode_utf8_all a) (encode_utf8_all b) in
    let characters = bytes_eq-Decides a b in
    one_test _ _ (λ h. characters.1 (encodes_same a b (bytes.0 h))) (λ h. bytes.1 (ap encode_utf8_all (characters.0 h)))

-- only equal texts tie
pub equal_ties : (a b : List ℕ) → text_eq a b ≡ eq_by_cmp text_cmp a b
equal_ties a b = sym (same_bytes a b) ∙ lists_ties nat_cmp unsigned_ties (encode_utf8_all a) (encode_utf8_all b)

-- the bytes of equal texts are the same
pub equal_bytes : (a b : List ℕ) → text_eq a b ≡ true → encode_utf8_all a ≡ encode_utf8_all b
equal_bytes a b h = ap encode_utf8_all ((bytes_eq-Decides a b).0 h)

pub texts_total : IsTotalOrder text_cmp
texts_total = on_total encode_utf8_all nat_list_cmp_total

-- texts that tie are the same
pub same_texts : (a b : List ℕ) → text_cmp a b ≡ Equal → a ≡ b
same_texts a b e = encodes_same a b (slice_cmp-IsAntisymmetric nat_cmp-IsAntisymmetric _ _ e)

-- a greater text, turned round
pub turned : (a b : List ℕ) → text_cmp a b ≡ Greater → text_cmp b a ≡ Less
turned a b e = texts_total.antisymm b a ∙ ap ordering_reverse e

pub equal : (a b : List ℕ) → a ≡ b → text_eq a b ≡ true
equal a b e = (bytes_eq-Decides a b).1 e

pub unequal : (a b : List ℕ) → a ≢ b → text_eq a b ≡ false
unequal a b ne = false_from_ne_true (text_eq a b) (λ t. ne ((bytes_eq-Decides a b).0 t))

less_differs : (a b : List ℕ) → text_cmp a b ≡ Less → a ≢ b
less_differs a b e same =
    let equal : text_cmp a b ≡ Equal = subst (λ n. text_cmp a n ≡ Equal) same (tied_itself texts_total a) in
    absurd (cc)

pub less_unequal : (a b : List ℕ) → text_cmp a b ≡ Less → text_eq a b ≡ false
less_unequal a b e = unequal a b (less_differs a b e)

pub greater_unequal : (a b : List ℕ) → text_cmp b a ≡ Less → text_eq a b ≡ false
greater_unequal a b e = unequal a b (λ same. less_differs b a e (sym same))
