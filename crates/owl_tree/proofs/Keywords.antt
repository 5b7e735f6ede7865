-- The numbers and keywords of tags, and what tells tags apart.
use Rattle.std.proofs.Common.{◌≡◌, ℕ, ◌+◌, ◌-◌, ◌<◌, ◌≤◌, get_or, Bool, true, false, List, [], ◌∷◌, length, Option, Some, refl, sym, ap, subst, ◌∙◌, arith}
use Rattle.std.specs.List.{find, list_all, range_with_len}
use Rattle.std.proofs.lemmas.List.{get_or_past}
use Rattle.std.proofs.lemmas.List.Elements.{All-get_or}
use Rattle.std.proofs.lemmas.List.FromFn.{get_or-range_with_len, length-range_with_len}
use Rattle.std.proofs.lemmas.List.Sums.{AllPass-from_list_all}
use Rattle.std.proofs.Math.Logic.{⊎_elim}
use Rattle.std.proofs.Math.ListN.{get_or-map}
use Rattle.std.proofs.Math.Nat.{add_comm, lt_of_not-le}
use Rattle.std.proofs.lemmas.Bool.{cases_lt, leb-true}
use Rattle.std.specs.Str.{IsUtf8, bytes_eq, chars, encode_utf8_all}
use Rattle.std.specs.Prelude.{nat_le, ◌&&◌}
use Rattle.std.proofs.lemmas.Str.{encodes-chars}
use Rattle.owl_characters.proofs.AsciiLaws.{ascii_bytes, ascii_chars}
use Rattle.owl_characters.specs.Iri.{is_ascii}
use Rattle.owl_tree.specs.declared.tag.Tag.{Tag}
use Rattle.owl_tree.specs.declared.tag.Tag.TheVariants as tag
use Rattle.owl_tree.specs.Tags.{all_tags, is_axiom, keyword_of, number_of, tags_by_length, with_length}

is_ascii_keyword : (t : Tag) → list_all is_ascii (keyword_of t) ≡ true
unfolding keyword_of
is_ascii_keyword tag.Class = refl
is_ascii_keyword _ = refl

-- its characters are its bytes
pub own_characters : (t : Tag) (text : List ℕ) → text ≡ keyword_of t → chars text ≡ keyword_of t
own_characters t text e = ap chars e ∙ ascii_chars (keyword_of t) (is_ascii_keyword t)

abbrev pub tag_of_keyword : List ℕ → List Tag → Option Tag
tag_of_keyword word tags = find (λ t. bytes_eq (keyword_of t) word) tags

-- the tag that is found among those whose keywords are as long as a word
abbrev pub tag_named : List ℕ → Option Tag
tag_named word = tag_of_keyword word (with_length (length word))

is_found : (t : Tag) → tag_named (keyword_of t) ≡ Some t
unfolding tags_by_length keyword_of
is_found tag.Class = refl
is_found _ = refl

-- a text that is the keyword of a tag finds it
pub is_named : (t : Tag) (word : List ℕ) → IsUtf8 word → keyword_of t ≡ chars word → tag_named word ≡ Some t
is_named t word u e =
    let same : word ≡ keyword_of t = sym (encodes-chars word u) ∙ ap encode_utf8_all (sym e) ∙ ascii_bytes (keyword_of t) (is_ascii_keyword t) in
    ap tag_named same ∙ is_found t

-- no two tags have one keyword
pub same_keyword : (t u : Tag) → keyword_of t ≡ keyword_of u → t ≡ u
same_keyword t u e = let same = sym (is_found t) ∙ ap tag_named e ∙ is_found u in cc

abbrev are_no_tags : List Tag → Bool
are_no_tags [] = true
are_no_tags (t ∷ tags) = false

abbrev has_none : ℕ → Bool
has_none n = are_no_tags (with_length n)

are_none : (tags : List Tag) → are_no_tags tags ≡ true → [] ≡ tags
are_none [] e = refl
are_none (t ∷ tags) e = cc

none_within : (first count n : ℕ) → list_all has_none (range_with_len first count) ≡ true → first ≤ n → n < first + count → [] ≡ with_length n
none_within first count n test above below =
    let within : n - first < count = omega arith in
    let place : get_or (range_with_len first count) (n - first) 0 ≡ n = get_or-range_with_len first count (n - first) 0 within ∙ (omega arith) in
    are_none (with_length n) (
    ap has_none (sym place)
    ∙ All-get_or (λ m. has_none m ≡ true) (range_with_len first count) (n - first) 0 (subst (λ k. n - first < k) (sym (length-range_with_len first count)) within) (AllPass-from_list_all has_none (range_with_len first count) test))

-- keywords have 5 to 26 letters, 29 or 31
pub none_with_length : (n : ℕ) → (5 ≤ n → n ≤ 26 → ⊥) → (n ≡ 29 → ⊥) → (n ≡ 31 → ⊥) → [] ≡ with_length n
unfolding tags_by_length
none_with_length n middle one two =
    ⊎_elim
    (λ (short : n < 5). none_within 0 5 n refl (omega arith) short)
    (λ (above : 5 ≤ n). ⊎_elim
    (λ (below : n < 29). none_within 27 2 n refl (lt_of_not-le (λ (h : n ≤ 26). middle above h)) below)
    (λ (long : 29 ≤ n). ⊎_elim
    (λ (below : n < 32). none_within 30 1 n refl (omega arith) (omega arith))
    (λ (beyond : 32 ≤ n). sym (get_or_past tags_by_length n [] beyond))
    (cases_lt n 32))
    (cases_lt n 29))
    (cases_lt n 5)

-- the tag at a place has the number behind it
pub numbered : (t : Tag) (place : ℕ) → t ≡ get_or all_tags place t → place < 77 → number_of t ≡ place + 1
unfolding all_tags number_of
numbered t place e within =
    ap number_of e ∙ sym (get_or-map number_of all_tags place t) ∙ get_or-range_with_len 1 77 place (number_of t) within ∙ add_comm 1 place

pub one_at_least : (t : Tag) → 1 ≤ number_of t
unfolding number_of
one_at_least tag.Class = leb-true 1 1 refl
one_at_least tag.Datatype = leb-true 1 2 refl
one_at_least _ = leb-true 1 _ refl

pub axioms_numbered : (t : Tag) → is_axiom t ≡ (nat_le 41 (number_of t) && nat_le (number_of t) 77)
unfolding number_of
axioms_numbered tag.Class = refl
axioms_numbered _ = refl
