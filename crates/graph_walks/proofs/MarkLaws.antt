-- Lists that grow by what they are to hold in each place, and marks.
use Rattle.std.proofs.Common.{◌≡◌, ◌<◌, ◌↔◌, inl, inr, ℕ, Bool, true, false, List, [], ◌∷◌, ◌++◌, length, get_or, map, sym, ap, ◌∙◌, subst, arith}
use Rattle.std.specs.Prelude.{Some, slice_get}
use Rattle.std.proofs.lemmas.Bool.{cases_lt}
use Rattle.std.proofs.lemmas.List.{get_or-map, get_or_append_left, get_or_push, length-append, length-map}
use Rattle.std.proofs.lemmas.Option.{get_or_from_slice_get, same_Some, slice_get-get_or, slice_get_within}
use Rattle.graph_walks.specs.Marks.{MarkEach, MarkNumbers}

-- what is so in each place of a list, and of one more element, is so of the list with it behind
pub pushed_at : {X : Type 0} (IsSo : ℕ → X → Type 0) (d : X) (xs : List X) (x : X) → ((k : ℕ) → k < length xs → IsSo k (get_or xs k d)) → IsSo (length xs) x → (k : ℕ) → k < length (xs ++ x ∷ []) → IsSo k (get_or (xs ++ x ∷ []) k d)
pushed_at {X} IsSo d xs x all one k within =
    elim (cases_lt k (length xs)) as (λ _. IsSo k (get_or (xs ++ x ∷ []) k d)) [
      | inl before ↦ subst (IsSo k) (sym (get_or_append_left xs (x ∷ []) d k before)) (all k before)
      | inr past ↦
          let last : length xs ≡ k = omega (arith, within, past, length-append xs (x ∷ [])) in
          subst (IsSo k) (sym (get_or_push xs x d k last)) (subst (λ n. IsSo n x) last one)
    ]

-- marks by place mark each element
pub marks_at : {X : Type 0} (IsSo : ℕ → X → Type 0) (d : X) (xs : List X) (marks : List Bool) → length marks ≡ length xs → ((k : ℕ) → k < length xs → (get_or marks k false ≡ true) ↔ IsSo k (get_or xs k d)) → MarkEach IsSo xs marks
marks_at {X} IsSo d xs marks size told = record {
  size = size;
  told = λ place x is.
      let within = slice_get_within xs place x is in
      let inside : place < length marks = subst (λ n. place < n) (sym size) within in
      let same : get_or xs place d ≡ x = get_or_from_slice_get xs place x d is in
      let mark : slice_get marks place ≡ Some (get_or marks place false) = slice_get-get_or marks place false inside in (
        λ h. subst (IsSo place) same ((told place within).0 (same_Some (get_or marks place false) true (sym mark ∙ h))),
        λ h. mark ∙ ap (λ (b : Bool). Some b) ((told place within).1 (subst (IsSo place) (sym same) h)),
      );
}

-- marks by a test
pub marks_by : {X : Type 0} (IsSo : ℕ → X → Type 0) (test : X → Bool) (d : X) (xs : List X) → ((k : ℕ) → k < length xs → (test (get_or xs k d) ≡ true) ↔ IsSo k (get_or xs k d)) → MarkEach IsSo xs (map test xs)
marks_by IsSo test d xs told =
    marks_at IsSo d xs (map test xs) (length-map xs test)
    (λ k within.
    let reads : get_or (map test xs) k false ≡ test (get_or xs k d) = get_or-map test xs k d false within in (
      λ h. (told k within).0 (sym reads ∙ h),
      λ h. reads ∙ (told k within).1 h,
    ))

-- marks of what is so mark what is so just then
pub same_marks : (count : ℕ) (These Those : ℕ → Type 0) (marks : List Bool) → ((k : ℕ) → These k ↔ Those k) → MarkNumbers count These marks → MarkNumbers count Those marks
same_marks count These Those marks same each = record {
  size = each.size;
  told = λ k within. (
    λ h. (same k).0 ((each.told k within).0 h),
    λ h. (each.told k within).1 ((same k).1 h),
  );
}
