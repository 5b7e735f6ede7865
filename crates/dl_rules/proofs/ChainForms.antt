-- What a chain needs below the property that it implies, and the forms in which it suits an order.
use Rattle.std.proofs.Common.{◌≡◌, ◌⊎◌, inl, inr, Bool, true, false, List, [], ◌∷◌, ◌++◌, refl, sym, ap, ◌∙◌, subst}
use Rattle.std.specs.Prelude.{◌||◌, Contains, Decides, Option, None, Some, unwrap_or}
use Rattle.std.specs.Option.{option_map}
use Rattle.std.proofs.lemmas.Bool.{and_from, and_parts, cases_Bool, cond-false, cond-true, false≢true, or_cases, or_left, or_right}
use Rattle.std.proofs.lemmas.List.Elements.{Contains-append_left}
use Rattle.std.proofs.lemmas.Option.{none-some, same_Some}
use Rattle.owl_list.proofs.AscendingLaws.{all_in, in_head, in_none, in_tail}
use Rattle.dl_rules.specs.Hierarchy.{AreBelow, Suits, all, begins, behind, ends, in_front_of, is_twice, needed, of_top, transitive}
use Rattle.dl_rules.specs.Properties.{Chain, Property, property_eq, top_property}
use Rattle.dl_rules.proofs.PropertyLaws.{property_tells}

option_is : {X : Type 0} (o : Option X) → (o ≡ None) ⊎ ((x : X) × (o ≡ Some x))
option_is None = inl refl
option_is (Some x) = inr (x, refl)

-- where the rest of a list ends so, the list does
front_of : {P : Type 0} (p q : P) (ps front : List P) (o : Option (List P)) → ((f : List P) → o ≡ Some f → ps ≡ f ++ q ∷ []) →
    option_map (λ (f : List P). p ∷ f) o ≡ Some front → p ∷ ps ≡ front ++ q ∷ []
front_of {P} p q ps front None step h = absurd (none-some front h)
front_of {P} p q ps front (Some f) step h =
    ap (λ (rs : List P). p ∷ rs) (step f refl) ∙ ap (λ (rs : List P). rs ++ q ∷ []) (same_Some (p ∷ f) front h)

-- what is needed of a chain, form by form
module _ {P : Type 0} (eq : P → P → Bool) where
  -- but for the first two forms
  abbrev left : P → List P → List P
  left q ps = unwrap_or (behind eq q ps) (unwrap_or (in_front_of eq q ps) ps)

  left_behind : (q : P) (ps rest : List P) → behind eq q ps ≡ Some rest → left q ps ≡ rest
  left_behind q ps rest h = ap (λ (o : Option (List P)). unwrap_or o (unwrap_or (in_front_of eq q ps) ps)) h

  left_in_front : (q : P) (ps front : List P) → behind eq q ps ≡ None → in_front_of eq q ps ≡ Some front → left q ps ≡ front
  left_in_front q ps front h k =
      ap (λ (o : Option (List P)). unwrap_or o (unwrap_or (in_front_of eq q ps) ps)) h ∙ ap (λ (o : Option (List P)). unwrap_or o ps) k

  left_all : (q : P) (ps : List P) → behind eq q ps ≡ None → in_front_of eq q ps ≡ None → left q ps ≡ ps
  left_all q ps h k = ap (λ (o : Option (List P)). unwrap_or o (unwrap_or (in_front_of eq q ps) ps)) h
      ∙ ap (λ (o : Option (List P)). unwrap_or o ps) k

  -- by these none is needed
  none_needed : (top : P) (chain : Chain P) → (eq chain.implied top || is_twice eq chain.implied chain.parts) ≡ true → needed eq top chain ≡ []
  none_needed top chain h = cond-true (eq chain.implied top || is_twice eq chain.implied chain.parts) [] (left chain.implied chain.parts) h

  needed_left : (top : P) (chain : Chain P) → (eq chain.implied top || is_twice eq chain.implied chain.parts) ≡ false →
      needed eq top chain ≡ left chain.implied chain.parts
  needed_left top chain h = cond-false (eq chain.implied top || is_twice eq chain.implied chain.parts) [] (left chain.implied chain.parts) h

-- what stands behind and in front of a property
module _ {P : Type 0} (eq : P → P → Bool) (tells : (p q : P) → Decides (eq p q) (p ≡ q)) where
  behind_it : (q p : P) (ps : List P) → eq p q ≡ true → behind eq q (p ∷ ps) ≡ Some ps
  behind_it q p ps h = cond-true (eq p q) (Some ps) None h

  behind_none : (q p : P) (ps : List P) → eq p q ≡ false → behind eq q (p ∷ ps) ≡ None
  behind_none q p ps h = cond-false (eq p q) (Some ps) None h

  nothing_in_front : (q p : P) → eq p q ≡ true → in_front_of eq q (p ∷ []) ≡ Some []
  nothing_in_front q p h = cond-true (eq p q) (Some []) None h

  not_there : (q p : P) → eq p q ≡ false → in_front_of eq q (p ∷ []) ≡ None
  not_there q p h = cond-false (eq p q) (Some []) None h

  same_is : (p : P) → eq p p ≡ true
  same_is p = (tells p p).1 refl

  behind_is : (q : P) (ps rest : List P) → behind eq q ps ≡ Some rest → ps ≡ q ∷ rest
  behind_is q [] rest h = absurd (none-some rest h)
  behind_is q (p ∷ ps) rest h =
      elim (cases_Bool (eq p q)) as (λ _. p ∷ ps ≡ q ∷ rest) [
        | inl yes_ ↦
            let tails : ps ≡ rest = same_Some ps rest (sym (behind_it q p ps yes_) ∙ h) in
            ap (λ (r : P). r ∷ ps) ((tells p q).0 yes_) ∙ ap (λ (rs : List P). q ∷ rs) tails
        | inr not_ ↦ absurd (none-some rest (sym (behind_none q p ps not_) ∙ h))
      ]

  in_front_is : (q : P) (ps front : List P) → in_front_of eq q ps ≡ Some front → ps ≡ front ++ q ∷ []
  in_front_is q [] front h = absurd (none-some front h)
  in_front_is q (p ∷ []) front h =
      elim (cases_Bool (eq p q)) as (λ _. p ∷ [] ≡ front ++ q ∷ []) [
        | inl yes_ ↦
            let empty : [] ≡ front = same_Some [] front (sym (nothing_in_front q p yes_) ∙ h) in
            ap (λ (r : P). r ∷ []) ((tells p q).0 yes_) ∙ ap (λ (rs : List P). rs ++ q ∷ []) empty
        | inr not_ ↦ absurd (none-some front (sym (not_there q p not_) ∙ h))
      ]
  in_front_is q (p ∷ r ∷ ps) front h = front_of p q (r ∷ ps) front (in_front_of eq q (r ∷ ps)) (in_front_is q (r ∷ ps)) h

  in_front_there : (q : P) (front : List P) → in_front_of eq q (front ++ q ∷ []) ≡ Some front
  in_front_there q [] = nothing_in_front q q (same_is q)
  in_front_there q (p ∷ []) = ap (λ (o : Option (List P)). option_map (λ (f : List P). p ∷ f) o) (in_front_there q [])
  in_front_there q (p ∷ r ∷ ps) = ap (λ (o : Option (List P)). option_map (λ (f : List P). p ∷ f) o) (in_front_there q (r ∷ ps))

  twice_is : (q : P) (ps : List P) → is_twice eq q ps ≡ true → ps ≡ q ∷ q ∷ []
  twice_is q [] h = absurd (false≢true h)
  twice_is q (p ∷ []) h = absurd (false≢true h)
  twice_is q (p ∷ r ∷ []) h =
      let both = and_parts (eq p q) (eq r q) h in
      ap (λ (x : P). x ∷ r ∷ []) ((tells p q).0 both.0) ∙ ap (λ (x : P). q ∷ x ∷ []) ((tells r q).0 both.1)
  twice_is q (p ∷ r ∷ x ∷ ps) h = absurd (false≢true h)

  left_among : (q : P) (ps : List P) (x : P) → Contains (left eq q ps) x → Contains ps x
  left_among q ps x m =
      elim (option_is (behind eq q ps)) as (λ _. Contains ps x) [
        | inr some ↦
            let n : Contains some.0 x = subst (λ (rs : List P). Contains rs x) (left_behind eq q ps some.0 some.1) m in
            subst (λ (rs : List P). Contains rs x) (sym (behind_is q ps some.0 some.1)) (in_tail q some.0 x n)
        | inl none_ ↦ elim (option_is (in_front_of eq q ps)) as (λ _. Contains ps x) [
          | inr some ↦
              let n : Contains some.0 x = subst (λ (rs : List P). Contains rs x) (left_in_front eq q ps some.0 none_ some.1) m in
              subst (λ (rs : List P). Contains rs x) (sym (in_front_is q ps some.0 some.1)) (Contains-append_left some.0 (q ∷ []) x n)
          | inl neither ↦ subst (λ (rs : List P). Contains rs x) (left_all eq q ps none_ neither) m
        ]
      ]

  left_of_begins : (q : P) (rest : List P) → left eq q (q ∷ rest) ≡ rest
  left_of_begins q rest = left_behind eq q (q ∷ rest) rest (behind_it q q rest (same_is q))

  -- of a chain that ends so, those in front, unless it begins so too
  left_of_ends : (q : P) (front : List P) (x : P) → Contains (left eq q (front ++ q ∷ [])) x → Contains front x ⊎ Contains front q
  left_of_ends q [] x m = absurd (in_none x (subst (λ (rs : List P). Contains rs x) (left_of_begins q []) m))
  left_of_ends q (f ∷ fs) x m =
      elim (cases_Bool (eq f q)) as (λ _. Contains (f ∷ fs) x ⊎ Contains (f ∷ fs) q) [
        | inl yes_ ↦ inr (subst (λ (p : P). Contains (f ∷ fs) p) ((tells f q).0 yes_) (in_head f fs))
        | inr not_ ↦ inl (subst (λ (rs : List P). Contains rs x)
            (left_in_front eq q (f ∷ fs ++ q ∷ []) (f ∷ fs) (behind_none q f (fs ++ q ∷ []) not_) (in_front_there q (f ∷ fs))) m)
      ]

  needed_among : (top : P) (chain : Chain P) (x : P) → Contains (needed eq top chain) x → Contains (left eq chain.implied chain.parts) x
  needed_among top chain x m =
      elim (cases_Bool (eq chain.implied top || is_twice eq chain.implied chain.parts)) as (λ _. Contains (left eq chain.implied chain.parts) x) [
        | inl yes_ ↦ absurd (in_none x (subst (λ (rs : List P). Contains rs x) (none_needed eq top chain yes_) m))
        | inr not_ ↦ subst (λ (rs : List P). Contains rs x) (needed_left eq top chain not_) m
      ]

-- a chain suits an order exactly where what it needs is below what it implies
module _ (order : List (Property × Property)) (chain : Chain Property) where
  -- what is needed is below: the chain suits
  pub suits : AreBelow order (needed property_eq top_property chain) chain.implied → Suits order chain
  suits h =
      let q : Property = chain.implied in
      let ps : List Property = chain.parts in
      elim (cases_Bool (property_eq q top_property || is_twice property_eq q ps)) as (λ _. Suits order chain) [
        | inl some ↦ elim (or_cases (property_eq q top_property) (is_twice property_eq q ps) some) as (λ _. Suits order chain) [
          | inl is_top ↦ of_top ((property_tells q top_property).0 is_top)
          | inr is_twice_ ↦ transitive (twice_is property_eq property_tells q ps is_twice_)
        ]
        | inr none_ ↦
            let below_left : AreBelow order (left property_eq q ps) q =
            subst (λ (rs : List Property). AreBelow order rs q) (needed_left property_eq top_property chain none_) h in
            elim (option_is (behind property_eq q ps)) as (λ _. Suits order chain) [
              | inr some ↦ begins some.0 (behind_is property_eq property_tells q ps some.0 some.1)
                  (subst (λ (rs : List Property). AreBelow order rs q) (left_behind property_eq q ps some.0 some.1) below_left)
              | inl no_begin ↦ elim (option_is (in_front_of property_eq q ps)) as (λ _. Suits order chain) [
                | inr some ↦ ends some.0 (in_front_is property_eq property_tells q ps some.0 some.1)
                    (subst (λ (rs : List Property). AreBelow order rs q) (left_in_front property_eq q ps some.0 no_begin some.1) below_left)
                | inl no_end ↦ all (subst (λ (rs : List Property). AreBelow order rs q) (left_all property_eq q ps no_begin no_end) below_left)
              ]
            ]
      ]

  -- the chain suits: what is needed is below
  pub suited : ((p : Property) → Contains order (p, p) → ⊥) → Suits order chain → (x : Property) →
      Contains (needed property_eq top_property chain) x → Contains order (x, chain.implied)
  suited irreflexive (of_top same) x m =
      let first : property_eq chain.implied top_property ≡ true = (property_tells chain.implied top_property).1 same in
      let either = or_left (property_eq chain.implied top_property) (is_twice property_eq chain.implied chain.parts) first in
      absurd (in_none x (subst (λ (rs : List Property). Contains rs x) (none_needed property_eq top_property chain either) m))
  suited irreflexive (transitive same) x m =
      let there : is_twice property_eq chain.implied (chain.implied ∷ chain.implied ∷ []) ≡ true =
      and_from (property_eq chain.implied chain.implied) (property_eq chain.implied chain.implied)
      (same_is property_eq property_tells chain.implied) (same_is property_eq property_tells chain.implied) in
      let second : is_twice property_eq chain.implied chain.parts ≡ true =
      subst (λ (ps : List Property). is_twice property_eq chain.implied ps ≡ true) (sym same) there in
      let either = or_right (property_eq chain.implied top_property) (is_twice property_eq chain.implied chain.parts) second in
      absurd (in_none x (subst (λ (rs : List Property). Contains rs x) (none_needed property_eq top_property chain either) m))
  suited irreflexive (all below_all) x m =
      all_in (λ (p : Property). Contains order (p, chain.implied)) chain.parts x below_all
      (left_among property_eq property_tells chain.implied chain.parts x (needed_among property_eq property_tells top_property chain x m))
  suited irreflexive (begins rest same below_rest) x m =
      let n : Contains (left property_eq chain.implied (chain.implied ∷ rest)) x =
      subst (λ (ps : List Property). Contains (left property_eq chain.implied ps) x) same
      (needed_among property_eq property_tells top_property chain x m) in
      all_in (λ (p : Property). Contains order (p, chain.implied)) rest x below_rest
      (subst (λ (rs : List Property). Contains rs x) (left_of_begins property_eq property_tells chain.implied rest) n)
  suited irreflexive (ends front same below_front) x m =
      let n : Contains (left property_eq chain.implied (front ++ chain.implied ∷ [])) x =
      subst (λ (ps : List Property). Contains (left property_eq chain.implied ps) x) same
      (needed_among property_eq property_tells top_property chain x m) in
      elim (left_of_ends property_eq property_tells chain.implied front x n) as (λ _. Contains order (x, chain.implied)) [
        | inl k ↦ all_in (λ (p : Property). Contains order (p, chain.implied)) front x below_front k
        | inr k ↦ absurd (irreflexive chain.implied (all_in (λ (p : Property). Contains order (p, chain.implied)) front chain.implied below_front k))
      ]
