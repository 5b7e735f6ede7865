-- Chains of places, and what is found in them.
use Rattle.std.proofs.Common.{◌≡◌, ◌<◌, ◌≤◌, ◌+◌, ◌%◌, ℕ, zero, suc, Bool, true, false, nat_eq, if◌then◌else◌, List, [], ◌∷◌, ◌++◌, length, get_or, set, inl, inr, refl, sym, ap, ◌∙◌, subst, arith, add-one, get_or-set_same, get_or-set_other, length-set}
use Rattle.std.specs.Prelude.{slice_index, slice_set}
use Rattle.std.proofs.lemmas.Bool.{cases_lt, eqb-true, eqb-false}
use Rattle.std.proofs.lemmas.List.{get_or_append_left}
use Rattle.owl_arena.specs.Chains.{AreLinked, bucket_at, falls_into, last_link}

chosen_le : (passes : Bool) (n m : ℕ) → m ≤ n → (if passes then suc n else m) ≤ suc n
chosen_le true n m h = omega arith
chosen_le false n m h = omega arith

pub last_link_le : (test : ℕ → Bool) (n : ℕ) → last_link test n ≤ n
last_link_le test zero = omega arith
last_link_le test (suc n) = chosen_le (test n) n (last_link test n) (last_link_le test n)

-- the place of the link passes
passes_by : (test : ℕ → Bool) (passes : Bool) (n k : ℕ) → test n ≡ passes → (if passes then suc n else last_link test n) ≡ suc k → (last_link test n ≡ suc k → test k ≡ true) → test k ≡ true
passes_by test true n k is e rest = subst (λ (m : ℕ). test m ≡ true) (omega arith) is
passes_by test false n k is e rest = rest e

pub last_passes : (test : ℕ → Bool) (n k : ℕ) → last_link test n ≡ suc k → test k ≡ true
last_passes test zero k e = absurd (omega arith)
last_passes test (suc n) k e = passes_by test (test n) n k refl e (last_passes test n k)

-- and those behind it do not
fails_by : (test : ℕ → Bool) (passes : Bool) (n k : ℕ) → test n ≡ passes → (if passes then suc n else last_link test n) ≤ k → k < suc n → (last_link test n ≤ k → k < n → test k ≡ false) → test k ≡ false
fails_by test true n k is h l rest = absurd (omega arith)
fails_by test false n k is h l rest = elim (cases_lt k n) [ inl m ↦ rest h m | inr m ↦ subst (λ (j : ℕ). test j ≡ false) (omega arith) is ]

pub later_fail : (test : ℕ → Bool) (n k : ℕ) → last_link test n ≤ k → k < n → test k ≡ false
later_fail test zero k h l = absurd (omega arith)
later_fail test (suc n) k h l = fails_by test (test n) n k refl h l (later_fail test n k)

same_links : (test other : ℕ → Bool) (n : ℕ) → ((k : ℕ) → k < n → test k ≡ other k) → last_link test n ≡ last_link other n
same_links test other zero h = refl
same_links test other (suc n) h =
    let here = h n (omega arith) in
    let rest = same_links test other n (λ k l. h k (omega arith)) in
    cc

-- a head after a place came to the front of its chain
head_by : (heads : List ℕ) (b c k : ℕ) (same : Bool) (before : ℕ) → nat_eq b c ≡ same → b < length heads → get_or heads c 0 ≡ before → get_or (set heads b (suc k)) c 0 ≡ (if same then suc k else before)
head_by heads b c k true before e inside h = subst (λ (n : ℕ). get_or (set heads b (suc k)) n 0 ≡ suc k) (eqb-true b c e) (get_or-set_same heads b (suc k) 0 inside)
head_by heads b c k false before e inside h = let other = eqb-false b c e in get_or-set_other heads b c (suc k) 0 (λ same. other (sym same)) ∙ h

next_by : (nexts : List ℕ) (i k link : ℕ) (f : ℕ → ℕ) → k < length nexts → ((j : ℕ) → j < k → get_or nexts j 0 ≡ f j) → link ≡ f k → i < suc k → get_or (set nexts k link) i 0 ≡ f i
next_by nexts i k link f inside h e l = elim (cases_lt i k) [
  | inl m ↦ get_or-set_other nexts k i link 0 (omega arith) ∙ h i m
  | inr m ↦ let same : k ≡ i = omega arith in subst (λ (j : ℕ). get_or (set nexts k link) j 0 ≡ f j) same (get_or-set_same nexts k link 0 inside ∙ e)
]

one_more : (heads nexts ms : List ℕ) (k n b : ℕ) → length heads ≡ n → bucket_at ms n k ≡ b → b < n → k < length nexts
    → ((c : ℕ) → c < n → get_or heads c 0 ≡ last_link (falls_into ms n c) k) → ((i : ℕ) → i < k → get_or nexts i 0 ≡ last_link (falls_into ms n (bucket_at ms n i)) i)
    → AreLinked (set heads b (suc k)) (set nexts k (get_or heads b 0)) ms (suc k)
one_more heads nexts ms k n b long is below inside hs ns =
    let same = length-set heads b (suc k) ∙ long in
    record {
      of_buckets = λ c h.
          let front = head_by heads b c k (nat_eq b c) _ refl (subst (λ (m : ℕ). b < m) (sym long) below) (hs c (subst (λ (m : ℕ). c < m) same h)) in
          front
          ∙ ap (λ (m : ℕ). if nat_eq m c then suc k else last_link (falls_into ms n c) k) (sym is)
          ∙ ap (λ (m : ℕ). last_link (falls_into ms m c) (suc k)) (sym same);
      of_places = λ i h.
          next_by nexts i k _ (λ j. last_link (falls_into ms n (bucket_at ms n j)) j) inside ns (hs b below ∙ ap (λ (c : ℕ). last_link (falls_into ms n c) k) (sym is)) h
          ∙ ap (λ (m : ℕ). last_link (falls_into ms m (bucket_at ms m i)) i) (sym same);
    }

-- what `link` makes
pub linked_more : (heads nexts hs ns ms : List ℕ) (k mix : ℕ) → AreLinked heads nexts ms k → mix ≡ get_or ms k 0 → mix % length heads < length heads → k < length nexts → hs ≡ slice_set heads (mix % length heads) (k + 1) → ns ≡ slice_set nexts k (slice_index heads (mix % length heads)) → AreLinked hs ns ms (k + 1)
linked_more heads nexts hs ns ms k mix linked is below inside e f =
    let b = mix % length heads in
    let more = one_more heads nexts ms k (length heads) b refl (ap (λ (m : ℕ). m % length heads) (sym is)) below inside linked.of_buckets linked.of_places in
    let heads_are : set heads b (suc k) ≡ hs = ap (set heads b) (sym (add-one k)) ∙ sym e in
    subst (λ (n : ℕ). AreLinked hs ns ms n) (sym (add-one k)) (subst (λ (ls : List ℕ). AreLinked ls ns ms (suc k)) heads_are (subst (λ (ls : List ℕ). AreLinked (set heads b (suc k)) ls ms (suc k)) (sym f) more))

-- one mix more behind the others changes no chain
pub linked_behind : (heads nexts ms : List ℕ) (m link : ℕ) → AreLinked heads nexts ms (length ms) → length nexts ≡ length ms → AreLinked heads (nexts ++ link ∷ []) (ms ++ m ∷ []) (length ms)
linked_behind heads nexts ms m link linked long =
    let n = length heads in
    let bucket : (k : ℕ) → k < length ms → bucket_at ms n k ≡ bucket_at (ms ++ m ∷ []) n k = λ k h. ap (λ (x : ℕ). x % n) (sym (get_or_append_left ms (m ∷ []) 0 k h)) in
    let links : (c i : ℕ) → i ≤ length ms → last_link (falls_into ms n c) i ≡ last_link (falls_into (ms ++ m ∷ []) n c) i = λ c i h. same_links _ _ i (λ k l. ap (λ (x : ℕ). nat_eq x c) (bucket k (omega arith))) in
    record {
      of_buckets = λ c h. linked.of_buckets c h ∙ links c (length ms) (omega arith);
      of_places = λ k h.
          get_or_append_left nexts (link ∷ []) 0 k (omega arith)
          ∙ linked.of_places k h
          ∙ ap (λ (b : ℕ). last_link (falls_into ms n b) k) (bucket k h)
          ∙ links (bucket_at (ms ++ m ∷ []) n k) k (omega arith);
    }
