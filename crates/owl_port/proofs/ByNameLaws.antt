-- Items by name: the first item of a list whose name has these bytes.
use Rattle.std.proofs.Common.{subst, ◌≡◌, ◌≢◌, ◌<◌, ◌≤◌, ◌-◌, ◌^◌, ℕ, List, length, Option, None, Some, Bool, true, false, cond, refl, sym, ap, ◌∙◌, get_or, set, arith}
use Rattle.std.specs.Prelude.{position, find, nat_lt, unwrap_or}
use Rattle.std.specs.Option.{option_map}
use Rattle.std.specs.List.{position_or_len, slice_get}
use Rattle.std.specs.Str.{bytes_eq}
use Rattle.std.proofs.lemmas.Bool.{ltb-true, ltb-false}
use Rattle.std.proofs.lemmas.Option.{slice_get-get_or, slice_get_past}
use Rattle.std.proofs.lemmas.List.Folds.{find-set, find_past, find_at}
use Rattle.std.proofs.lemmas.List.Quantifiers.{position-Some}
use Rattle.std.proofs.lemmas.Slice.Eq.{bytes_eq-Decides}
use Rattle.owl_port.specs.Outside.{raised}

-- a test that chose a number chose it because it passed
chosen : (b : Bool) (n i : ℕ) → cond b (Some n) None ≡ Some i → (b ≡ true) × (n ≡ i)
chosen true n i e = (refl, cc)
chosen false n i e = (cc, cc)

not_chosen : (b : Bool) (n : ℕ) → cond b (Some n) None ≡ None → b ≡ false
not_chosen true n e = cc
not_chosen false n e = refl

place_is : {X : Type 0} (p : X → Bool) (xs : List X) (i : ℕ) → position p xs ≡ Some i → (i ≡ position_or_len p xs) × (i < length xs)
place_is p xs i e =
    let here = chosen (nat_lt (position_or_len p xs) (length xs)) (position_or_len p xs) i e in
    let below : position_or_len p xs < length xs = ltb-true _ _ here.0 in
    (sym here.1, omega arith)

-- another name passes no test for this one
pub other_name : (name other : List ℕ) → other ≢ name → bytes_eq name other ≡ false
other_name name other ne =
    let d = bytes_eq-Decides name other in
    elim (bytes_eq name other) as (λ b. (b ≡ true → name ≡ other) → b ≡ false) [ true ↦ λ h. absurd (ne (sym (h refl))) | false ↦ λ h. refl ] d.0

pub same_name : (name other : List ℕ) → name ≡ other → bytes_eq name other ≡ true
same_name name other e = (bytes_eq-Decides name other).1 e

-- whether an item has this name
abbrev pub has_name : {X : Type 0} → (X → List ℕ) → List ℕ → X → Bool
has_name name_of name x = bytes_eq (name_of x) name

-- the place that a function found in a view of the items
pub place_in : {X : Type 0} (name_of : X → List ℕ) (view xs : List X) (name : List ℕ) (r o : Option ℕ) → view ≡ xs → r ≡ position (has_name name_of name) view → r ≡ o → position (has_name name_of name) xs ≡ o
place_in name_of view xs name r o same e is = ap (position (has_name name_of name)) (sym same) ∙ sym e ∙ is

-- no place was found
pub absent : {X : Type 0} (name_of : X → List ℕ) (xs : List X) (name : List ℕ) → position (has_name name_of name) xs ≡ None → find (has_name name_of name) xs ≡ None
absent name_of xs name e =
    let p = has_name name_of name in
    let past : length xs ≤ position_or_len p xs = ltb-false _ _ (not_chosen (nat_lt (position_or_len p xs) (length xs)) _ e) in
    find_at p xs ∙ slice_get_past xs _ past

-- an item written at the place that was found
pub put_at : {X : Type 0} (name_of : X → List ℕ) (xs : List X) (name : List ℕ) (i : ℕ) (new : X) → position (has_name name_of name) xs ≡ Some i → name_of new ≡ name → find (has_name name_of name) (set xs i new) ≡ Some new
put_at name_of xs name i new e same =
    let place = place_is (has_name name_of name) xs i e in
    find-set (has_name name_of name) xs i new place.0 place.1 (same_name (name_of new) name same)

pub put_others : {X : Type 0} (name_of : X → List ℕ) (xs : List X) (name : List ℕ) (i : ℕ) (new : X) → position (has_name name_of name) xs ≡ Some i → name_of new ≡ name → (other : List ℕ) → other ≢ name → find (has_name name_of other) (set xs i new) ≡ find (has_name name_of other) xs
put_others name_of xs name i new e same other ne =
    let passes = (position-Some (has_name name_of name) xs i new e).1 in
    let named : name_of (get_or xs i new) ≡ name = (bytes_eq-Decides (name_of (get_or xs i new)) name).0 passes in
    find_past (has_name name_of other) xs i new new
    (ap (λ n. bytes_eq n other) named ∙ other_name name other ne)
    (ap (λ n. bytes_eq n other) same ∙ other_name name other ne)

-- the first item of a name was written over by one of the same name
pub record WrittenOver {X : Type 0} (name_of : X → List ℕ) (xs : List X) (name : List ℕ) (i : ℕ) (old new : X) : Type 0 where
  pub was : find (has_name name_of name) xs ≡ Some old
  pub becomes : find (has_name name_of name) (set xs i new) ≡ Some new
  pub others : (other : List ℕ) → other ≢ name → find (has_name name_of other) (set xs i new) ≡ find (has_name name_of other) xs

pub written_over : {X : Type 0} (name_of : X → List ℕ) (xs : List X) (name : List ℕ) (i : ℕ) (old new : X) → position (has_name name_of name) xs ≡ Some i → old ≡ get_or xs i old → name_of new ≡ name_of old → WrittenOver name_of xs name i old new
written_over name_of xs name i old new e here same =
    let p = has_name name_of name in
    let place = place_is p xs i e in
    let passes = (position-Some p xs i old e).1 in
    let new_named : name_of new ≡ name = same ∙ ap name_of here ∙ (bytes_eq-Decides (name_of (get_or xs i old)) name).0 passes in
    record {
      was = find_at p xs ∙ ap (slice_get xs) (sym place.0) ∙ slice_get-get_or xs i old place.1 ∙ ap Some (sym here);
      becomes = put_at name_of xs name i new e new_named;
      others = put_others name_of xs name i new e new_named;
    }

-- what is told of an item is told of the name, where the name had this item, and has this one then
pub carried : {X : Type 0} (P : Option X → Option X → Type 0) (x y : Option X) (old new : X) → x ≡ Some old → y ≡ Some new → P (Some old) (Some new) → P x y
carried P x y old new e f h = subst (λ (x : Option _). P x y) (sym e) (subst (λ (y : Option _). P (Some old) y) (sym f) h)

-- the count of a name that is not there stands at its last value, and stays there
pub raised_where_absent : {X : Type 0} (faults_of : X → ℕ) (x : Option X) → x ≡ None → unwrap_or (option_map faults_of x) (2 ^ 64 - 1) ≡ raised (unwrap_or (option_map faults_of x) (2 ^ 64 - 1))
raised_where_absent faults_of None e = refl
raised_where_absent faults_of (Some x) e = absurd (cc)
