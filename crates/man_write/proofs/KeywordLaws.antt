-- A name is that of a keyword where a token with the name and a colon is a keyword.
use Rattle.std.proofs.Common.{◌≡◌, ℕ, Bool, true, false, inl, inr, if◌then◌else◌, Some, List, [], ◌∷◌, refl, sym, ◌∙◌}
use Rattle.std.specs.Prelude.{◌||◌, find, nat_le, unwrap_or}
use Rattle.std.specs.List.{list_all, list_any}
use Rattle.std.proofs.lemmas.Bool.{and_parts, both_ways, cases_Bool}
use Rattle.std.proofs.lemmas.Slice.Eq.{bytes_eq-Decides}
use Rattle.owl_characters.specs.Order.{text_eq}
use Rattle.owl_characters.specs.OrderLaws.{equal, unequal}
use Rattle.owl_tokens.specs.declared.token.Token.TheVariants as token
use Rattle.man_grammar.specs.Classes.{class_of, keyword_or}
use Rattle.man_grammar.specs.ClassNumbers.{class_number, colon_keywords, word_of}
use Rattle.man_grammar.specs.declared.class.Class.{Class}
use Rattle.man_grammar.specs.declared.class.Class.TheVariants as class
use Rattle.man_text.specs.Text.{is_keyword}

-- what is found has what all have, and what is given in place of it does not
found_by : {X : Type 0} (test has : X → Bool) (other : X) → has other ≡ false → (xs : List X) → list_all has xs ≡ true → has (unwrap_or (find test xs) other) ≡ list_any test xs
found_by test has other fails [] all = fails
found_by {X} test has other fails (x ∷ xs) all = by_test (test x) (found_by test has other fails xs (and_parts (has x) (list_all has xs) all).1) where
  by_test : (b : Bool) → has (unwrap_or (find test xs) other) ≡ list_any test xs → has (unwrap_or (if b then Some x else find test xs) other) ≡ b || list_any test xs
  by_test true rest = (and_parts (has x) (list_all has xs) all).0
  by_test false rest = rest

eq_turned : (a b : List ℕ) → text_eq a b ≡ text_eq b a
eq_turned a b = elim (cases_Bool (text_eq a b)) as (λ _. text_eq a b ≡ text_eq b a) [
  | inl t ↦ t ∙ sym (equal b a (sym ((bytes_eq-Decides a b).0 t)))
  | inr f ↦ f ∙ sym (unequal b a (λ same. absurd (both_ways (text_eq a b) f (equal a b (sym same)))))
]

-- the classes of keywords with a colon are the first
abbrev is_first : Class → Bool
is_first c = nat_le (class_number c) 30

all_first : list_all is_first colon_keywords ≡ true
all_first = refl

pub keyword_by_class : (name : List ℕ) → nat_le (class_of (token.Name name [])) 30 ≡ is_keyword name
unfolding class_of keyword_or is_keyword
keyword_by_class name =
    found_by (λ k. text_eq name (word_of k)) is_first class.Namespace refl colon_keywords all_first
    ∙ (λ i. list_any (λ k. eq_turned name (word_of k) i) colon_keywords)
