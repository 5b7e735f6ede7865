-- Rows of forms, by the numbers of sorts and tags.
use Rattle.std.proofs.Common.{◌≡◌, ◌<◌, ◌≤◌, ◌+◌, ◌-◌, ℕ, List, [], ◌∷◌, ◌++◌, Option, None, Some, length, inl, inr, refl, sym, ap, ◌∙◌, subst, arith}
use Rattle.std.specs.Prelude.{slice_get, unwrap_or}
use Rattle.std.specs.Option.{option_map}
use Rattle.std.proofs.lemmas.Bool.{cases_lt}
use Rattle.std.proofs.lemmas.List.{get_or_append_left, get_or_push, length-append}
use Rattle.std.proofs.lemmas.Option.{none-some, same_Some, slice_get-get_or, slice_get_within}
use Rattle.owl_tree.specs.declared.tag.Tag.{Tag}
use Rattle.owl_tree.specs.OrderLaws.{stands}
use Rattle.owl_tree.specs.Tags.{all_tags, number_of as tag_number}
use Rattle.profile_sorts.specs.declared.production.Form as lent
use Rattle.profile_sorts.specs.declared.sort.Sort.{Sort}
use Rattle.profile_sorts.specs.Productions.{Form, form_seen}
use Rattle.profile_sorts.specs.Rows.{AreRows, IsRowOf, row_at}
use Rattle.profile_sorts.specs.Sets.{number_of}
use Rattle.profile_sorts.specs.Sorts.{form_of}
use Rattle.profile_sorts.proofs.SetLaws.{few_sorts, one_sort}

-- one more element stands behind the others
module _ {X : Type 0} (xs : List X) (x : X) where
  stays : (k : ℕ) → k < length xs → slice_get (xs ++ x ∷ []) k ≡ slice_get xs k
  stays k inside =
      slice_get-get_or (xs ++ x ∷ []) k x (omega (arith, inside, length-append xs (x ∷ [])))
      ∙ ap (λ (y : X). Some y) (get_or_append_left xs (x ∷ []) x k inside)
      ∙ sym (slice_get-get_or xs k x inside)

  comes : slice_get (xs ++ x ∷ []) (length xs) ≡ Some x
  comes =
      slice_get-get_or (xs ++ x ∷ []) (length xs) x (omega (arith, length-append xs (x ∷ [])))
      ∙ ap (λ (y : X). Some y) (get_or_push xs x x (length xs) refl)

-- the first forms of a row
abbrev pub TellsBelow : ℕ → Tag → List lent.Form → Type 0
TellsBelow count t row = (s : Sort) → number_of s < count → option_map form_seen (slice_get row (number_of s)) ≡ Some (form_of s t)

pub form_more : (t : Tag) (row new : List lent.Form) (form : lent.Form) (sort : Sort) (count : ℕ) → length row ≡ count → number_of sort ≡ count → new ≡ row ++ form ∷ [] → form_seen form ≡ form_of sort t →
    TellsBelow count t row → TellsBelow (count + 1) t new
form_more t row new form sort count size numbered pushed is told s inside =
    subst (λ (fs : List lent.Form). option_map form_seen (slice_get fs (number_of s)) ≡ Some (form_of s t)) (sym pushed)
    (elim (cases_lt (number_of s) count) as (λ _. option_map form_seen (slice_get (row ++ form ∷ []) (number_of s)) ≡ Some (form_of s t)) [
      | inl before ↦ ap (option_map form_seen) (stays row form (number_of s) (omega (arith, size, before))) ∙ told s before
      | inr past ↦
          let same : s ≡ sort = one_sort s sort (omega (arith, numbered, inside, past)) in
          let last : number_of s ≡ length row = omega (arith, size, inside, past) in
          ap (λ (n : ℕ). option_map form_seen (slice_get (row ++ form ∷ []) n)) last
          ∙ ap (option_map form_seen) (comes row form) ∙ ap (λ (f : Form). Some f) is ∙ ap (λ (u : Sort). Some (form_of u t)) (sym same)
    ])

pub whole_row : (t : Tag) (row : List lent.Form) (count : ℕ) → 24 ≤ count → TellsBelow count t row → IsRowOf t row
whole_row t row count past told = record { told = λ s. told s (omega (arith, few_sorts s, past)) }

-- what a row has is read
read_form : (o : Option lent.Form) (d : lent.Form) (f : Form) → option_map form_seen o ≡ Some f → form_seen (unwrap_or o d) ≡ f
read_form None d f e = absurd (none-some f e)
read_form (Some form) d f e = same_Some (form_seen form) f e

pub form_read : (t : Tag) (row : List lent.Form) (sort : Sort) (d form : lent.Form) (n : ℕ) → n ≡ number_of sort → form ≡ unwrap_or (slice_get row n) d → IsRowOf t row → form_seen form ≡ form_of sort t
form_read t row sort d form n at is row_of =
    ap form_seen is ∙ read_form (slice_get row n) d (form_of sort t) (ap (λ (k : ℕ). option_map form_seen (slice_get row k)) at ∙ row_of.told sort)

-- the rows of the first tags
abbrev pub AreRowsBelow : ℕ → List (List lent.Form) → Type 0
AreRowsBelow count rows = (t : Tag) → tag_number t < count → IsRowOf t (row_at rows t)

pub row_more : (rows new : List (List lent.Form)) (row : List lent.Form) (count : ℕ) → length rows ≡ count → new ≡ rows ++ row ∷ [] → ((t : Tag) → tag_number t ≡ count → IsRowOf t row) → AreRowsBelow count rows → AreRowsBelow (count + 1) new
row_more rows new row count size pushed own told t inside =
    subst (λ (rs : List (List lent.Form)). IsRowOf t (row_at rs t)) (sym pushed)
    (elim (cases_lt (tag_number t) count) as (λ _. IsRowOf t (row_at (rows ++ row ∷ []) t)) [
      | inl before ↦ subst (IsRowOf t) (sym (get_or_append_left rows (row ∷ []) [] (tag_number t) (omega (arith, size, before)))) (told t before)
      | inr past ↦
          let last : length rows ≡ tag_number t = omega (arith, size, inside, past) in
          subst (IsRowOf t) (sym (get_or_push rows row [] (tag_number t) last)) (own t (omega (arith, inside, past)))
    ])

all_are : length all_tags ≡ 77
unfolding all_tags
all_are = refl

few_tags : (t : Tag) → tag_number t < 78
few_tags t = let l = slice_get_within all_tags (tag_number t - 1) t (stands t) in omega (arith, l, all_are)

pub all_rows : (rows : List (List lent.Form)) (count : ℕ) → 78 ≤ count → AreRowsBelow count rows → AreRows rows
all_rows rows count past told t = told t (omega (arith, few_tags t, past))
