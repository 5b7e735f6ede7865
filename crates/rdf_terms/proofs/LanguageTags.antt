-- Which texts are language tags.
use Rattle.std.proofs.Common.{◌≡◌, ◌≢◌, ℕ, suc, ◌<◌, lit<, None, Some, ◌↔◌, Bool, true, false, List, [], ◌∷◌, length, refl, sym, ap, ◌∙◌, inl, inr, subst, arith, get_or}
use Rattle.std.specs.Prelude.{◌||◌, ◌==◌, nat_le}
use denote.Ref.{Bor}
use Rattle.std.specs.Int.{is_in_range}
use Rattle.std.specs.Char.{is_ascii_alphabetic, is_ascii_alphanumeric}
use Rattle.std.specs.List.{AllByRecursion, after_first, list_all, onto_first, slice_split}
use Rattle.std.specs.Str.{IsAscii, IsUtf8, chars}
use Rattle.std.proofs.lemmas.Bool.{and_parts, and_from, cases_Bool, eqb-true, false≢true, leb-true, lt-ltb, ne_eqb, or_cases}
use Rattle.std.proofs.lemmas.List.Splits.{slice_split-cons_no, slice_split-cons_yes, slice_split_first}
use Rattle.std.proofs.lemmas.Str.Pattern.{IsSplitOnceResult, split_once_first, split_parts}
use Rattle.std.proofs.lemmas.Str.{chars-IsAscii, encodes-IsAscii, encodes-chars}
use Rattle.owl_characters.specs.Iri.{AllAre, is_ascii}
use Rattle.owl_characters.specs.Names.{AreSubtags, IsLanguageTag, IsRunOf, is_hyphen}
use Rattle.owl_characters.proofs.AllAreLaws.{AllAre-weaker, all_are}
use Rattle.owl_characters.proofs.LanguageTagLaws.{alphabetic_is_alphanumeric}
use Rattle.owl_characters.proofs.AsciiLaws.{ascii_text}
use Rattle.rdf_terms.specs.Characters.{is_run_of}

-- a run that is not empty
pub run_of_some : (test : ℕ → Bool) (xs : List ℕ) (b : Bool) → (length xs == 0) ≡ false → b ≡ list_all test xs → b ≡ is_run_of test xs
run_of_some test [] b some h = absurd (false≢true (sym some))
run_of_some test (x ∷ xs) b some h = h

-- the test of a run, and the fact
pub run_is : (test : ℕ → Bool) (xs : List ℕ) → (is_run_of test xs ≡ true) ↔ IsRunOf test xs
run_is test [] = (λ h. absurd (false≢true h), λ h. absurd h)
run_is test (x ∷ xs) = all_are test (x ∷ xs)

-- the tests of several runs
pub runs_are : (test : ℕ → Bool) (parts : List (List ℕ)) → (list_all (is_run_of test) parts ≡ true) ↔ AllByRecursion (IsRunOf test) parts
runs_are test [] = (λ _. tt, λ _. refl)
runs_are test (part ∷ parts) =
    let here = run_is test part in
    let rest = runs_are test parts in (
      λ h. let both = and_parts (is_run_of test part) (list_all (is_run_of test) parts) h in (here.0 both.0, rest.0 both.1),
      λ h. and_from (is_run_of test part) (list_all (is_run_of test) parts) (here.1 h.0) (rest.1 h.1),
    )

-- letters and digits are ASCII characters
below : (least most c : ℕ) → most < 128 → is_in_range least most c ≡ true → is_ascii c ≡ true
below least most c small h = let most_is = leb-true c most (and_parts (nat_le least c) (nat_le c most) h).1 in lt-ltb c 128 (omega arith)

alphanumeric_is_ascii : (c : ℕ) → is_ascii_alphanumeric c ≡ true → is_ascii c ≡ true
alphanumeric_is_ascii c h = elim (or_cases (is_in_range 48 57 c || is_in_range 65 90 c) (is_in_range 97 122 c) h) [
  | inl k ↦ elim (or_cases (is_in_range 48 57 c) (is_in_range 65 90 c) k) [ inl m ↦ below 48 57 c (lit< tt) m | inr m ↦ below 65 90 c (lit< tt) m ]
  | inr k ↦ below 97 122 c (lit< tt) k
]

run_passes : (test to : ℕ → Bool) → ((c : ℕ) → test c ≡ true → to c ≡ true) → (xs : List ℕ) → IsRunOf test xs → AllAre to xs
run_passes test to weaker [] h = absurd h
run_passes test to weaker (x ∷ xs) h = AllAre-weaker test to weaker (x ∷ xs) h

runs_pass : (to : ℕ → Bool) → ((c : ℕ) → is_ascii_alphanumeric c ≡ true → to c ≡ true) → (parts : List (List ℕ)) → AllByRecursion (IsRunOf is_ascii_alphanumeric) parts → AllByRecursion (AllAre to) parts
runs_pass to weaker [] h = tt
runs_pass to weaker (part ∷ parts) h = (run_passes is_ascii_alphanumeric to weaker part h.0, runs_pass to weaker parts h.1)

subtags_pass : (to : ℕ → Bool) → ((c : ℕ) → is_ascii_alphanumeric c ≡ true → to c ≡ true) → (parts : List (List ℕ)) → AreSubtags parts → AllByRecursion (AllAre to) parts
subtags_pass to weaker [] h = absurd h
subtags_pass to weaker (first ∷ others) h =
    (run_passes is_ascii_alphabetic to (λ c k. weaker c (alphabetic_is_alphanumeric c k)) first h.0, runs_pass to weaker others h.1)

-- what holds of all parts holds of the list, where it holds of the hyphen
onto_passes : (to : ℕ → Bool) (x : ℕ) (parts : List (List ℕ)) → AllByRecursion (AllAre to) (onto_first x parts) → (to x ≡ true) × AllByRecursion (AllAre to) parts
onto_passes to x [] h = (h.0.0, tt)
onto_passes to x (part ∷ parts) h = (h.0.0, (h.0.1, h.1))

parts_pass : (to : ℕ → Bool) → to 0x2D ≡ true → (xs : List ℕ) → AllByRecursion (AllAre to) (slice_split is_hyphen xs) → AllAre to xs
parts_pass to hyphen [] h = tt
parts_pass to hyphen (x ∷ xs) h =
    elim (cases_Bool (is_hyphen x)) [
      | inl e ↦
          let rest = subst (AllByRecursion (AllAre to)) (slice_split-cons_yes is_hyphen x xs e) h in
          (ap to (eqb-true x 0x2D e) ∙ hyphen, parts_pass to hyphen xs rest.1)
      | inr e ↦
          let both = onto_passes to x (slice_split is_hyphen xs) (subst (AllByRecursion (AllAre to)) (slice_split-cons_no is_hyphen x xs e) h) in
          (both.0, parts_pass to hyphen xs both.1)
    ]

-- a language tag is of letters, digits and hyphens
pub tag_passes : (to : ℕ → Bool) → to 0x2D ≡ true → ((c : ℕ) → is_ascii_alphanumeric c ≡ true → to c ≡ true) → (xs : List ℕ) → IsLanguageTag xs → AllAre to xs
tag_passes to hyphen weaker xs h = parts_pass to hyphen xs (subtags_pass to weaker (slice_split is_hyphen xs) h)

-- the bytes of a tag are its characters
tag_is_ascii : (xs : List ℕ) → IsLanguageTag xs → IsAscii xs
tag_is_ascii xs h = ascii_text xs ((all_are is_ascii xs).1 (tag_passes is_ascii refl alphanumeric_is_ascii xs h))

pub tag_of_bytes : (bs : List ℕ) → IsUtf8 bs → IsLanguageTag bs ↔ IsLanguageTag (chars bs)
tag_of_bytes bs u = (
  λ h. subst IsLanguageTag (sym (chars-IsAscii bs (tag_is_ascii bs h))) h,
  λ h. subst IsLanguageTag (sym (encodes-IsAscii (chars bs) (tag_is_ascii (chars bs) h)) ∙ encodes-chars bs u) h,
)

-- a text without a hyphen is one part
none_at : (xs : List ℕ) → ((i : ℕ) → i < length xs → get_or xs i 0 ≢ 0x2D) → slice_split is_hyphen xs ≡ xs ∷ []
none_at [] h = refl
none_at (x ∷ xs) h =
    slice_split-cons_no is_hyphen x xs (ne_eqb x 0x2D (h 0 (omega arith)))
    ∙ ap (onto_first x) (none_at xs (λ i l. h (suc i) (omega arith)))

pub one_part : (bs : List ℕ) → IsSplitOnceResult 0x2D bs None → IsRunOf is_ascii_alphabetic bs ↔ IsLanguageTag bs
one_part bs h =
    let parts = none_at bs (split_parts 0x2D bs None h (lit< tt)) in
    (λ k. subst AreSubtags (sym parts) (k, tt), λ k. (subst AreSubtags parts k).0)

pub first_part : (bs : List ℕ) (front back : Bor (List ℕ)) → IsSplitOnceResult 0x2D bs (Some (front, back)) → (IsRunOf is_ascii_alphabetic front.now × AllByRecursion (IsRunOf is_ascii_alphanumeric) (slice_split is_hyphen back.now)) ↔ IsLanguageTag bs
first_part bs front back h =
    let cut = split_once_first 0x2D bs (Some (front, back)) h (lit< tt) in
    let parts : slice_split is_hyphen bs ≡ front.now ∷ slice_split is_hyphen back.now = slice_split_first is_hyphen bs 0 cut.0 ∙ ap (λ x. x ∷ slice_split is_hyphen (after_first is_hyphen bs)) (sym cut.1) ∙ ap (λ x. front.now ∷ slice_split is_hyphen x) (sym cut.2) in
    (λ k. subst AreSubtags (sym parts) k, λ k. subst AreSubtags parts k)
