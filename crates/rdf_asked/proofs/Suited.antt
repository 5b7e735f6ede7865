-- What a row of a node asks of its triple, by the rows and triples that a loop has passed.
use Rattle.std.specs.Prelude.{◌≡◌, ◌↔◌, ◌⊎◌, ◌<◌, ◌+◌, ℕ, Bool, true, false, IsTrue, List, [], ◌∷◌, ◌++◌, Contains, get_or, length, map, take}
use Rattle.std.specs.List.{AllByRecursion}
use Rattle.std.proofs.Common.{inl, inr, sym, ◌∙◌, subst}
use Rattle.std.proofs.lemmas.Bool.{both_ways}
use Rattle.std.proofs.lemmas.List.{take_more}
use Rattle.owl_list.proofs.AscendingLaws.{all_from, all_in, in_cases, in_head, in_map, in_none, in_tail}
use Rattle.owl_kind.specs.Kinds.{Entity}
use Rattle.rdf_graph.specs.declared.term.Term.{Term}
use Rattle.rdf_graph.specs.declared.triple.Triple.{Triple}
use Rattle.rdf_meaning.specs.declared.role.Role.{Role}
use Rattle.rdf_meaning.specs.declared.role.Role.TheVariants as role
use Rattle.rdf_meaning.specs.Denotation.{Fits, of_node}
use Rattle.rdf_meaning.specs.Nodes.{carries_some, of_subject, role_of}
use Rattle.rdf_meaning.proofs.NodeLaws.{from_subject, in_subject}
use Rattle.rdf_meaning.specs.Rows.{Row}
use Rattle.rdf_faults.specs.Asked.{IsAskedFor, suited, IsTypedAs, Suits, SuitsProperties, by_property, rows}
use Rattle.rdf_faults.specs.DecidedLaws.{HasSome}
use Rattle.rdf_rows.specs.Fits.{FitsRow}
use Rattle.rdf_rows.proofs.NodeTripleLaws.{fits_is}
use Rattle.rdf_asked.specs.Asking.{IsSuited, IsTold, SuitsProperty}
use Rattle.rdf_asked.proofs.ListedLaws.{all_more}

-- loops

module _ {X : Type 0} (P : X → Type 0) where
  pub each_passed : (xs : List X) (i : ℕ) (other : X) → i < length xs → AllByRecursion P (take i xs) → P (get_or xs i other) → AllByRecursion P (take (i + 1) xs)
  each_passed xs i other lt all p = subst (AllByRecursion P) (sym (take_more xs i other lt)) (all_more P (take i xs) (get_or xs i other ∷ []) all (p, tt))

  pub one_fails : (xs : List X) (i : ℕ) (x : X) → i < length xs → x ≡ get_or xs i x → (P x → ⊥) → IsTrue false ↔ AllByRecursion P xs
  one_fails xs i x lt e n = (λ h. cc, λ all. absurd (n (all_in P xs x all (i, lt, sym e))))

pub refused : {P : Type 0} (b : Bool) → IsTrue b ↔ P → b ≡ false → P → ⊥
refused b is f p = both_ways b f (is.1 p)

-- the triples of a node

pub properties_are : (g : List Triple) (k : List Entity) (row : Row) (x : Term) (answer : Bool) → IsTrue answer ↔ AllByRecursion (SuitsProperty g k row) (of_subject g x)
    → IsTrue answer ↔ SuitsProperties g k row x
properties_are g k row x answer is = (
  λ h t m e on. all_in (SuitsProperty g k row) (of_subject g x) t (is.0 h) (in_subject g x t m e) on,
  λ suits.
      is.1 (all_from (SuitsProperty g k row) (of_subject g x) (λ t m on.
      let from = from_subject g x t m in
      suits t from.0 from.1 on)),
)

pub row_fits : (g : List Triple) (x : Term) (row : Row) (r : Role) (b : Bool) → r ≡ role_of g x → IsTrue b ↔ FitsRow r (of_subject g x) row → IsTrue b ↔ Fits g (of_node x) row
row_fits g x row r b e is =
    let fits = fits_is g x row in
    let same = subst (λ q. IsTrue b ↔ FitsRow q (of_subject g x) row) e is in
    (λ h. fits.1 (same.0 h), λ f. same.1 (fits.0 f))

-- rows

some_of_map : {X Y : Type 0} (f : X → Y) (P : Y → Type 0) (xs : List X) → HasSome (λ x. P (f x)) xs → HasSome P (map f xs)
some_of_map f P xs s = record { element = f s.element; inside = in_map f xs s.element s.inside; holds = s.holds }

some_from_map : {X Y : Type 0} (f : X → Y) (P : Y → Type 0) (xs : List X) (y : Y) → Contains (map f xs) y → P y → HasSome (λ x. P (f x)) xs
some_from_map f P [] y m p = absurd (in_none y m)
some_from_map f P (x ∷ xs) y m p =
    elim (in_cases (f x) (map f xs) y m) [
      | inl e ↦ record { element = x; inside = in_head x xs; holds = subst P (sym e) p }
      | inr n ↦
          let s = some_from_map f P xs y n p in
          record { element = s.element; inside = in_tail x xs s.element s.inside; holds = s.holds }
    ]

pub in_right : {X : Type 0} (xs ys : List X) (x : X) → Contains ys x → Contains (xs ++ ys) x
in_right [] ys x m = m
in_right (y ∷ xs) ys x m = in_tail y (xs ++ ys) x (in_right xs ys x m)

in_either : {X : Type 0} (xs ys : List X) (x : X) → Contains (xs ++ ys) x → Contains xs x ⊎ Contains ys x
in_either [] ys x m = inr m
in_either (y ∷ xs) ys x m =
    elim (in_cases y (xs ++ ys) x m) [
      | inl e ↦ inl (subst (λ z. Contains (y ∷ xs) z) e (in_head y xs))
      | inr n ↦ elim (in_either xs ys x n) [ inl l ↦ inl (in_tail y xs x l) | inr r ↦ inr r ]
    ]

module _ {X Y : Type 0} (f : X → Y) (P : Y → Type 0) (xs ys : List X) (us vs : List Y) (left : map f xs ≡ us) (right : map f ys ≡ vs) where
  pub second_has : (b c : Bool) → b ≡ false → IsTrue b ↔ HasSome (λ x. P (f x)) xs → IsTrue c ↔ HasSome (λ x. P (f x)) ys → IsTrue c ↔ HasSome P (us ++ vs)
  second_has b c n is or = (
    λ h.
        let s = some_of_map f P ys (or.0 h) in
        record { element = s.element; inside = in_right us vs s.element (subst (λ ws. Contains ws s.element) right s.inside); holds = s.holds },
    λ s.
        elim (in_either us vs s.element s.inside) [
          | inl l ↦ absurd (both_ways b n (is.1 (some_from_map f P xs s.element (subst (λ ws. Contains ws s.element) (sym left) l) s.holds)))
          | inr r ↦ or.1 (some_from_map f P ys s.element (subst (λ ws. Contains ws s.element) (sym right) r) s.holds)
        ],
  )

-- roles

pub asked_by_role : (g : List Triple) (k : List Entity) (t : Triple) (r q : Role) (b : Bool) → q ≡ r
    → (q ≡ role.Property) ⊎ ((q ≡ role.Class) ⊎ ((q ≡ role.Range) ⊎ (q ≡ role.Main))) → IsTrue b ↔ IsAskedFor g k t → IsTrue b ↔ IsTypedAs g k r t
asked_by_role g k t r q b e (inl f) is = subst (λ p. IsTrue b ↔ IsTypedAs g k p t) (sym f ∙ e) is
asked_by_role g k t r q b e (inr (inl f)) is = subst (λ p. IsTrue b ↔ IsTypedAs g k p t) (sym f ∙ e) is
asked_by_role g k t r q b e (inr (inr (inl f))) is = subst (λ p. IsTrue b ↔ IsTypedAs g k p t) (sym f ∙ e) is
asked_by_role g k t r q b e (inr (inr (inr f))) is = subst (λ p. IsTrue b ↔ IsTypedAs g k p t) (sym f ∙ e) is

-- what is asked of a triple

module _ (g : List Triple) (k : List Entity) (t : Triple) where
  pub told_is : (row : Row) (b c : Bool) → b ≡ true → IsTrue b ↔ Fits g (of_node t.subject) row → IsTrue c ↔ SuitsProperties g k row t.subject → IsTrue c ↔ IsTold g k t row
  told_is row b c t fits properties = (λ h. record { fits = fits.0 t; properties = properties.0 h }, λ told. properties.1 told.properties)

  pub not_fit : (row : Row) (b : Bool) → b ≡ false → IsTrue b ↔ Fits g (of_node t.subject) row → IsTrue b ↔ IsTold g k t row
  not_fit row b n is = (λ h. absurd (both_ways b n h), λ told. is.1 told.fits)

  pub not_fit_alone : (row : Row) (b : Bool) → b ≡ false → IsTrue b ↔ Fits g (of_node t.subject) row → IsTrue b ↔ IsSuited g k t row
  not_fit_alone row b n is = (λ h. absurd (both_ways b n h), λ s. is.1 s.fits)

  pub suited_alone : (row : Row) (b c : Bool) → b ≡ true → IsTrue b ↔ Fits g (of_node t.subject) row → IsTrue c ↔ Suits g k row t → carries_some by_property t ≡ false → IsTrue c ↔ IsSuited g k t row
  suited_alone row b c f fits suits other =
      (λ h. record { fits = fits.0 f; suits = suits.0 h; properties = λ by. absurd (both_ways (carries_some by_property t) other by) }, λ s. suits.1 s.suits)

  asked_by_row : HasSome (IsSuited g k t) rows → IsAskedFor g k t
  asked_by_row s = suited s.element (record { among = s.inside; fits = s.holds.fits }) s.holds.suits s.holds.properties

  pub asked_for : (b : Bool) → b ≡ true → IsTrue b ↔ HasSome (IsSuited g k t) rows → IsTrue b ↔ IsAskedFor g k t
  asked_for b h is = (λ s. asked_by_row (is.0 s), λ a. h)
