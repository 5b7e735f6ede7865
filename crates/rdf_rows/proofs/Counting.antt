-- How often the triples of a node carry each word.
use Rattle.std.proofs.Common.{◌≡◌, ◌↔◌, ◌+◌, ◌<◌, ◌≤◌, ℕ, suc, Bool, true, false, cond, List, [], ◌∷◌, ◌++◌, get_or, length, map, set, None, Some, inl, inr, refl, ap, ◌∙◌, arith, get_or-set_other, get_or-set_same, nat_eq}
use Rattle.std.specs.List.{filter, list_all}
use Rattle.std.proofs.lemmas.Bool.{and_from, and_parts, cases_Bool, eq-eqb, eqb-false, eqb-true, leb-true}
use Rattle.std.proofs.lemmas.List.{get_or-replicate}
use Rattle.std.proofs.Math.ListN.{replicate}
use Rattle.rdf_graph.specs.declared.triple.Triple.{Triple}
use Rattle.rdf_meaning.specs.declared.word.Word.{Word}
use Rattle.rdf_meaning.specs.declared.word.Word.TheVariants as word
use Rattle.rdf_meaning.specs.Nodes.{carries, is_word}
use Rattle.rdf_meaning.proofs.ListLaws.{same_front}
use Rattle.rdf_meaning.proofs.WordLaws.{same_word}
use Rattle.rdf_meaning.specs.Words.{word_number}
use Rattle.rdf_rows.proofs.CarryingLaws.{told_by}
use Rattle.rdf_rows.specs.Chosen.{objects_with}
use Rattle.rdf_rows.specs.declared.fits.NodeWords.{NodeWords}
use Rattle.rdf_rows.specs.Fits.{CountsWords}

pub number_within : (w : Word) → word_number w < 70
unfolding word_number
number_within word.Class = leb-true 2 70 refl
number_within _ = leb-true _ 70 refl

module _ (w : Word) where
  at_end : (t : Triple) (b : Bool) → length (map (λ u. u.object) (cond b (t ∷ []) [])) ≡ 0 + cond b 1 0
  at_end t true = refl
  at_end t false = refl

  one_front : (u : Triple) (us vs : List Triple) (k : ℕ) (b : Bool) → length (map (λ t. t.object) us) ≡ length (map (λ t. t.object) vs) + k →
      length (map (λ t. t.object) (cond b (u ∷ us) us)) ≡ length (map (λ t. t.object) (cond b (u ∷ vs) vs)) + k
  one_front u us vs k true e = omega arith
  one_front u us vs k false e = e

  counted : (ts : List Triple) (t : Triple) → length (objects_with w (ts ++ t ∷ [])) ≡ length (objects_with w ts) + cond (carries w t) 1 0
  counted [] t = at_end t (carries w t)
  counted (u ∷ ts) t = one_front u (filter (carries w) (ts ++ t ∷ [])) (filter (carries w) ts) (cond (carries w t) 1 0) (carries w u) (counted ts t)

  one_more : (u : Triple) (us : List Triple) (n : ℕ) (b : Bool) → length (map (λ t. t.object) us) ≤ n →
      length (map (λ t. t.object) (cond b (u ∷ us) us)) ≤ suc n
  one_more u us n true h = omega arith
  one_more u us n false h = omega arith

  pub few : (ts : List Triple) → length (objects_with w ts) ≤ length ts
  few [] = omega arith
  few (u ∷ ts) = one_more u (filter (carries w) ts) (length ts) (carries w u) (few ts)

abbrev pub counted_in : List ℕ → NodeWords
counted_in counts = record { counts = counts }

module _ (counts : List ℕ) (ts : List Triple) (t : Triple) (all : CountsWords (counted_in counts) ts) where
  pub same_counts : ((w : Word) → (carries w t ≡ true) ↔ (None ≡ Some w)) → CountsWords (counted_in counts) (ts ++ t ∷ [])
  same_counts h = record {
    counts = λ v. let e = all.counts v in let last = counted v ts t ∙ ap (λ b. length (objects_with v ts) + cond b 1 0) (told_by t None h v) in omega arith;
  }

  pub one_counted : (w : Word) → ((v : Word) → (carries v t ≡ true) ↔ (Some w ≡ Some v)) → word_number w < length counts →
      CountsWords (counted_in (set counts (word_number w) (get_or counts (word_number w) 0 + 1))) (ts ++ t ∷ [])
  one_counted w h within = record {
    counts = λ v.
        let new = get_or counts (word_number w) 0 + 1 in
        let told = told_by t (Some w) h v in
        elim (cases_Bool (is_word v w)) [
          | inl is ↦
              let same : v ≡ w = same_word v w is in
              let e = all.counts v in
              let last = counted v ts t ∙ ap (λ b. length (objects_with v ts) + cond b 1 0) (told ∙ is) in
              let there : get_or (set counts (word_number w) new) (word_number w) 0 ≡ new = get_or-set_same counts (word_number w) new 0 within in
              let here = ap (λ u. get_or (set counts (word_number w) new) (word_number u) 0) same ∙ there in
              let old = ap (λ u. get_or counts (word_number u) 0) same in
              omega arith
          | inr other ↦
              let e = all.counts v in
              let last = counted v ts t ∙ ap (λ b. length (objects_with v ts) + cond b 1 0) (told ∙ other) in
              let kept = get_or-set_other counts (word_number w) (word_number v) new 0 (eqb-false (word_number v) (word_number w) other) in
              omega arith
        ];
  }

pub none_counted : CountsWords (counted_in (replicate 70 0)) []
none_counted = record { counts = λ w. get_or-replicate 70 (word_number w) 0 0 (number_within w) }

-- two functions that are the same on each element
pub same_maps : {X : Type 0} (f g : X → ℕ) (xs : List X) → (list_all (λ x. nat_eq (f x) (g x)) xs ≡ true) ↔ (map f xs ≡ map g xs)
same_maps f g [] = (λ h. refl, λ e. refl)
same_maps f g (x ∷ xs) =
    let rest = same_maps f g xs in (
      λ h.
          let parts = and_parts (nat_eq (f x) (g x)) (list_all (λ y. nat_eq (f y) (g y)) xs) h in
          let head = eqb-true (f x) (g x) parts.0 in
          let tail = rest.0 parts.1 in
          λ i. head i ∷ tail i,
      λ e.
          let both = same_front (f x) (g x) (map f xs) (map g xs) e in
          and_from (nat_eq (f x) (g x)) (list_all (λ y. nat_eq (f y) (g y)) xs) (eq-eqb (f x) (g x) both.0) (rest.1 both.1),
    )
