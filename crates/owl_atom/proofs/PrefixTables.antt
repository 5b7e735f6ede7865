-- What a binary search for a name answers.
use Rattle.std.proofs.Common.{◌≡◌, ◌<◌, ◌≤◌, ℕ, zero, suc, List, [], ◌∷◌, length, Some, Result, Ok, Err, IfOk, IfErr, refl, subst, get_or, arith}
use Rattle.std.specs.Prelude.{slice_get}
use Rattle.std.specs.declared.cmp.Ordering.{Ordering}
use Rattle.std.specs.declared.cmp.Ordering.TheVariants.{Less, Equal, Greater}
use Rattle.std.specs.List.{HoldsAt}
use Rattle.std.specs.List.Sorted.{IsBinarySearchResult, IsSearchInRange, IsNonDecreasingBy}
use Rattle.std.specs.Ordering.{ordering_index}
use Rattle.std.proofs.lemmas.Option.{same_Some, slice_get-get_or}
use Rattle.owl_characters.specs.Order.{text_cmp}
use Rattle.owl_characters.specs.OrderLaws.{same_texts, turned, texts_total}
use Rattle.owl_atom.specs.declared.prefixes.Prefix.{Prefix}
use Rattle.owl_atom.specs.Prefixes.{AreAscending}
use Rattle.owl_atom.specs.Places.{IsPlaceOf, IsGapFor}
use Rattle.owl_atom.specs.PrefixLaws.{below_get}

-- of two places the earlier has the lesser name
pub ascends : (prefixes : List Prefix) (i j : ℕ) (a b : Prefix) → AreAscending prefixes → i < j → slice_get prefixes i ≡ Some a → slice_get prefixes j ≡ Some b → text_cmp a.name b.name ≡ Less
ascends [] i j a b up lt at_i at_j = absurd (cc)
ascends (x ∷ xs) zero zero a b up lt at_i at_j = absurd (omega arith)
ascends (x ∷ xs) zero (suc j) a b up lt at_i at_j = subst (λ (q : Prefix). text_cmp q.name b.name ≡ Less) (same_Some x a at_i) (below_get x.name xs j b up.0 at_j)
ascends (x ∷ xs) (suc i) zero a b up lt at_i at_j = absurd (omega arith)
ascends (x ∷ xs) (suc i) (suc j) a b up lt at_i at_j = ascends xs i j a b up.1 (omega arith) at_i at_j

at_most_two : (o : Ordering) → ordering_index o ≤ 2
at_most_two Less = omega arith
at_most_two Equal = omega arith
at_most_two Greater = omega arith

ranks_rise : (a b c : List ℕ) → text_cmp a b ≡ Less → (o : Ordering) → text_cmp b c ≡ o → ordering_index (text_cmp a c) ≤ ordering_index o
ranks_rise a b c e Less is = let less : text_cmp a c ≡ Less = texts_total.trans a b c e is in rw less (omega arith)
ranks_rise a b c e Equal is = let less : text_cmp a c ≡ Less = subst (λ n. text_cmp a n ≡ Less) (same_texts b c is) e in rw less (omega arith)
ranks_rise a b c e Greater is = at_most_two (text_cmp a c)

rising : (prefixes : List Prefix) (name : List ℕ) → AreAscending prefixes → IsNonDecreasingBy (λ y. ordering_index (text_cmp y.name name)) prefixes
rising [] name up i j d le lt = absurd (omega arith)
rising (x ∷ xs) name up zero zero d le lt = omega arith
rising (x ∷ xs) name up zero (suc j) d le lt =
    let less = below_get x.name xs j (get_or xs j d) up.0 (slice_get-get_or xs j d (omega arith)) in
    ranks_rise x.name (get_or xs j d).name name less _ refl
rising (x ∷ xs) name up (suc i) zero d le lt = absurd (omega arith)
rising (x ∷ xs) name up (suc i) (suc j) d le lt = rising xs name up.1 i j d (omega arith) (omega arith)

place : (prefixes : List Prefix) (name : List ℕ) (i : ℕ) → AreAscending prefixes → i < length prefixes → HoldsAt (λ y. text_cmp y.name name ≡ Equal) prefixes i → IsPlaceOf prefixes name i
place [] name i up lt h = absurd (omega arith)
place (x ∷ xs) name zero up lt h = same_texts x.name name (h x)
place (x ∷ xs) name (suc i) up lt h =
    let less = below_get x.name xs i (get_or xs i x) up.0 (slice_get-get_or xs i x (omega arith)) in
    (subst (λ n. text_cmp x.name n ≡ Less) (same_texts (get_or xs i x).name name (h x)) less, place xs name i up.1 (omega arith) h)

gap : (prefixes : List Prefix) (name : List ℕ) (i : ℕ) → i ≤ length prefixes → ((k : ℕ) (d : Prefix) → 0 ≤ k → k < i → text_cmp (get_or prefixes k d).name name ≡ Less) → ((k : ℕ) (d : Prefix) → i ≤ k → k < length prefixes → text_cmp (get_or prefixes k d).name name ≡ Greater) → IsGapFor prefixes name i
gap [] name zero le before behind = tt
gap [] name (suc i) le before behind = absurd (omega arith)
gap (x ∷ xs) name zero le before behind = turned x.name name (behind 0 x (omega arith) (omega arith))
gap (x ∷ xs) name (suc i) le before behind = (
  before 0 x (omega arith) (omega arith),
  gap xs name i (omega arith) (λ k d low lt. before (suc k) d (omega arith) (omega arith)) (λ k d low lt. behind (suc k) d (omega arith) (omega arith)),
)

pub searched_found : (prefixes : List Prefix) (name : List ℕ) (r : Result ℕ ℕ) → AreAscending prefixes → IsSearchInRange r (length prefixes) → IsBinarySearchResult (λ y. text_cmp y.name name) prefixes r → IfOk r (λ i. IsPlaceOf prefixes name i)
searched_found prefixes name (Ok i) up within h = place prefixes name i up within h
searched_found prefixes name (Err i) up within h = tt

pub searched_absent : (prefixes : List Prefix) (name : List ℕ) (r : Result ℕ ℕ) → AreAscending prefixes → IsSearchInRange r (length prefixes) → IsBinarySearchResult (λ y. text_cmp y.name name) prefixes r → IfErr r (λ i. IsGapFor prefixes name i)
searched_absent prefixes name (Ok i) up within h = tt
searched_absent prefixes name (Err i) up within h = let parts = h (rising prefixes name up) in gap prefixes name i within parts.0 parts.1
