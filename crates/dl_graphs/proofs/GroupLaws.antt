-- Laws of marks of things that stand in groups.
use Rattle.std.proofs.Common.{◌≡◌, ◌↔◌, inl, inr, ℕ, zero, suc, pred, Bool, true, List, [], ◌∷◌, ◌++◌, length, map, take, drop, refl, sym, ap, subst}
use Rattle.std.specs.Prelude.{Some, slice_get}
use Rattle.std.specs.List.{flat_map, list_any}
use Rattle.std.proofs.lemmas.Bool.{or_cases, or_left, or_right}
use Rattle.std.proofs.lemmas.Option.{none-some, same_Some}
use Rattle.graph_walks.specs.Marks.{MarkEach}
use Rattle.owl_breaches.specs.Those.{HoldsOfOne}
use Rattle.owl_list.proofs.AscendingLaws.{from_map, in_cases, in_head, in_map, in_none, in_tail}
use Rattle.dl_graphs.specs.Groups.{group_marks}

-- marks of what is so mark what is so just then
pub marks_same : {X : Type 0} (These Those : ℕ → X → Type 0) (xs : List X) (marks : List Bool) → ((place : ℕ) (x : X) → slice_get xs place ≡ Some x → These place x ↔ Those place x) → MarkEach These xs marks → MarkEach Those xs marks
marks_same These Those xs marks same each = record {
  size = each.size;
  told = λ place x is. (
    λ h. (same place x is).0 ((each.told place x is).0 h),
    λ h. (each.told place x is).1 ((same place x is).1 h),
  );
}

-- it holds of one of some things exactly where it holds of what is made of one
pub one_of_made : {X Y : Type 0} (make : X → Y) (Holds : Y → Type 0) (xs : List X) → HoldsOfOne Holds (map make xs) ↔ HoldsOfOne (λ x. Holds (make x)) xs
one_of_made make Holds xs = (
  λ h. let v = from_map make xs h.one h.among in record { one = v.element; among = v.inside; holds = subst Holds (sym v.value) h.holds },
  λ h. record { one = make h.one; among = in_map make xs h.one h.among; holds = h.holds },
)

module _ {Y : Type 0} (IsSo : Y → Type 0) where
  abbrev Marks : List Y → List Bool → Type 0
  Marks ys marks = MarkEach (λ (place : ℕ) (y : Y). IsSo y) ys marks

  pub marks_none : Marks [] []
  marks_none = record { size = refl; told = λ place y is. absurd (none-some y is) }

  head_told : (y : Y) (ys : List Y) (b : Bool) (bs : List Bool) → Marks (y ∷ ys) (b ∷ bs) → (b ≡ true) ↔ IsSo y
  head_told y ys b bs h =
      let told = h.told 0 y refl in (
        λ e. told.0 (ap (λ (m : Bool). Some m) e),
        λ so. same_Some b true (told.1 so),
      )

  tail_marks : (y : Y) (ys : List Y) (b : Bool) (bs : List Bool) → Marks (y ∷ ys) (b ∷ bs) → Marks ys bs
  tail_marks y ys b bs h = record { size = ap pred h.size; told = λ place z is. h.told (suc place) z is }

  cons_told : (y : Y) (ys : List Y) (b : Bool) (bs : List Bool) → (b ≡ true) ↔ IsSo y → Marks ys bs → (place : ℕ) (z : Y) → slice_get (y ∷ ys) place ≡ Some z → (slice_get (b ∷ bs) place ≡ Some true) ↔ IsSo z
  cons_told y ys b bs own rest zero z is =
      let same : y ≡ z = same_Some y z is in (
        λ e. subst IsSo same (own.0 (same_Some b true e)),
        λ so. ap (λ (m : Bool). Some m) (own.1 (subst IsSo (sym same) so)),
      )
  cons_told y ys b bs own rest (suc place) z is = rest.told place z is

  pub cons_marks : (y : Y) (ys : List Y) (b : Bool) (bs : List Bool) → (b ≡ true) ↔ IsSo y → Marks ys bs → Marks (y ∷ ys) (b ∷ bs)
  cons_marks y ys b bs own rest = record { size = ap suc rest.size; told = cons_told y ys b bs own rest }

  front_marks : (ys zs : List Y) (bs : List Bool) → Marks (ys ++ zs) bs → Marks ys (take (length ys) bs)
  front_marks [] zs bs h = marks_none
  front_marks (y ∷ ys) zs [] h = let e = h.size in absurd (cc)
  front_marks (y ∷ ys) zs (b ∷ bs) h =
      cons_marks y ys b (take (length ys) bs) (head_told y (ys ++ zs) b bs h) (front_marks ys zs bs (tail_marks y (ys ++ zs) b bs h))

  marks_behind : (ys zs : List Y) (bs : List Bool) → Marks (ys ++ zs) bs → Marks zs (drop (length ys) bs)
  marks_behind [] zs bs h = h
  marks_behind (y ∷ ys) zs [] h = let e = h.size in absurd (cc)
  marks_behind (y ∷ ys) zs (b ∷ bs) h = marks_behind ys zs bs (tail_marks y (ys ++ zs) b bs h)

  one_later : (y : Y) (ys : List Y) → HoldsOfOne IsSo ys → HoldsOfOne IsSo (y ∷ ys)
  one_later y ys h = record { one = h.one; among = in_tail y ys h.one h.among; holds = h.holds }

  -- one of the marks is true exactly where it is so of one of those marked
  to_one : (ys : List Y) (bs : List Bool) → Marks ys bs → list_any (λ mark. mark) bs ≡ true → HoldsOfOne IsSo ys
  to_one [] [] h e = absurd (cc)
  to_one [] (b ∷ bs) h e = let s = h.size in absurd (cc)
  to_one (y ∷ ys) [] h e = absurd (cc)
  to_one (y ∷ ys) (b ∷ bs) h e =
      elim (or_cases b (list_any (λ mark. mark) bs) e) as (λ _. HoldsOfOne IsSo (y ∷ ys)) [
        | inl own ↦ record { one = y; among = in_head y ys; holds = (head_told y ys b bs h).0 own }
        | inr more ↦ one_later y ys (to_one ys bs (tail_marks y ys b bs h) more)
      ]

  from_one : (ys : List Y) (bs : List Bool) → Marks ys bs → HoldsOfOne IsSo ys → list_any (λ mark. mark) bs ≡ true
  from_one [] bs h one = absurd (in_none one.one one.among)
  from_one (y ∷ ys) [] h one = let s = h.size in absurd (cc)
  from_one (y ∷ ys) (b ∷ bs) h one =
      elim (in_cases y ys one.one one.among) as (λ _. list_any (λ mark. mark) (b ∷ bs) ≡ true) [
        | inl same ↦ or_left b (list_any (λ mark. mark) bs) ((head_told y ys b bs h).1 (subst IsSo (sym same) one.holds))
        | inr later ↦ or_right b (list_any (λ mark. mark) bs) (from_one ys bs (tail_marks y ys b bs h) (record { one = one.one; among = later; holds = one.holds }))
      ]

-- marks of all that the things give, one group for each thing, tell of which thing it is so of one that it gives
pub marks_of_groups : {X Y : Type 0} (give : X → List Y) (IsSo : Y → Type 0) (xs : List X) (marks : List Bool) → MarkEach (λ (place : ℕ) (y : Y). IsSo y) (flat_map give xs) marks →
    MarkEach (λ (place : ℕ) (x : X). HoldsOfOne IsSo (give x)) xs (group_marks (map (λ x. length (give x)) xs) marks)
marks_of_groups {X} give IsSo [] marks h = marks_none (λ (x : X). HoldsOfOne IsSo (give x))
marks_of_groups {X} give IsSo (x ∷ xs) marks h =
    let own = front_marks IsSo (give x) (flat_map give xs) marks h in
    let count : ℕ = length (give x) in
    cons_marks (λ (z : X). HoldsOfOne IsSo (give z)) x xs (list_any (λ mark. mark) (take count marks)) (group_marks (map (λ z. length (give z)) xs) (drop count marks))
    (to_one IsSo (give x) (take count marks) own, from_one IsSo (give x) (take count marks) own)
    (marks_of_groups give IsSo xs (drop count marks) (marks_behind IsSo (give x) (flat_map give xs) marks h))
