-- A list without what stands in one place.
use Rattle.std.proofs.Common.{◌≡◌, ◌<◌, ◌+◌, ◌-◌, ◌++◌, inl, inr, ℕ, suc, List, ◌∷◌, length, get_or, take, drop, refl, sym, ap, ◌∙◌, arith}
use Rattle.std.specs.Prelude.{Contains, Some, slice_get}
use Rattle.std.proofs.lemmas.Bool.{cases_lt}
use Rattle.std.proofs.lemmas.List.{get_or-drop, get_or-take, length-drop, length-take}
use Rattle.std.proofs.lemmas.List.Elements.{Contains-append_cases, Contains-append_left, Contains-append_right}
use Rattle.std.proofs.lemmas.Option.{get_or_from_slice_get, slice_get-get_or, slice_get_within}
use Rattle.graph_walks.specs.Rings.{without}

-- it stands in another place
pub record IsElsewhere {P : Type 0} (links : List (P × P)) (place : ℕ) (link : P × P) : Type 0 where
  pub other : ℕ
  pub differs : other ≡ place → ⊥
  pub is : slice_get links other ≡ Some link

-- it stands in some place
pub record IsSomewhere {P : Type 0} (links : List (P × P)) (link : P × P) : Type 0 where
  pub place : ℕ
  pub is : slice_get links place ≡ Some link

pub place_of : {P : Type 0} (links : List (P × P)) (link : P × P) → Contains links link → IsSomewhere links link
place_of {P} links link m = record {
  place = m.0;
  is = slice_get-get_or links m.0 link m.1 ∙ ap (λ (l : P × P). Some l) m.2;
}

pub in_place : {P : Type 0} (links : List (P × P)) (place : ℕ) (link : P × P) → slice_get links place ≡ Some link → Contains links link
in_place links place link is =
    (place, slice_get_within links place link is, get_or_from_slice_get links place link link is)

module _ {P : Type 0} (links : List (P × P)) (place : ℕ) (link : P × P) where
  pub from_without : Contains (without place links) link → IsElsewhere links place link
  from_without m = elim (Contains-append_cases (take place links) (drop (place + 1) links) link m) [
    | inl n ↦
        let before : n.0 < place = omega (arith, n.1, length-take place links) in
        let inside : n.0 < length links = omega (arith, n.1, length-take place links) in
        let reads : get_or links n.0 link ≡ link = sym (get_or-take place links n.0 link before) ∙ n.2 in
        record {
          other = n.0;
          differs = λ same. absurd (omega arith);
          is = slice_get-get_or links n.0 link inside ∙ ap (λ (l : P × P). Some l) reads;
        }
    | inr n ↦
        let inside : place + 1 + n.0 < length links = omega (arith, n.1, length-drop (place + 1) links) in
        let reads : get_or links (place + 1 + n.0) link ≡ link = sym (get_or-drop (place + 1) links n.0 link) ∙ n.2 in
        record {
          other = place + 1 + n.0;
          differs = λ same. absurd (omega arith);
          is = slice_get-get_or links (place + 1 + n.0) link inside ∙ ap (λ (l : P × P). Some l) reads;
        }
  ]

  pub in_without : (other : ℕ) → (other ≡ place → ⊥) → slice_get links other ≡ Some link → Contains (without place links) link
  in_without other differs is =
      let inside : other < length links = slice_get_within links other link is in
      let reads : get_or links other link ≡ link = get_or_from_slice_get links other link link is in
      elim (cases_lt other place) as (λ _. Contains (without place links) link) [
        | inl before ↦ Contains-append_left (take place links) (drop (place + 1) links) link (
          other,
          omega (arith, length-take place links),
          get_or-take place links other link before ∙ reads,
        )
        | inr past ↦
            let same : place + 1 + (other - (place + 1)) ≡ other = omega arith in
            Contains-append_right (take place links) (drop (place + 1) links) link (
              other - (place + 1),
              omega (arith, length-drop (place + 1) links),
              get_or-drop (place + 1) links (other - (place + 1)) link ∙ ap (λ k. get_or links k link) same ∙ reads,
            )
      ]

pub among_without : {P : Type 0} (links : List (P × P)) (place : ℕ) (x y : P) → Contains (without place links) (x, y) → Contains links (x, y)
among_without links place x y m = let e = from_without links place (x, y) m in in_place links e.other (x, y) e.is

-- without the first, and without one behind it
pub without_first : {P : Type 0} (link : P × P) (links : List (P × P)) → without 0 (link ∷ links) ≡ links
without_first link links = refl

pub without_later : {P : Type 0} (link : P × P) (links : List (P × P)) (place : ℕ) → without (suc place) (link ∷ links) ≡ link ∷ without place links
without_later {P} link links place =
    let next : suc place + 1 ≡ suc (place + 1) = omega arith in
    ap (λ (n : ℕ). link ∷ (take place links ++ drop n (link ∷ links))) next
