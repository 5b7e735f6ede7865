-- The first triple of a graph that names what it may not.
use Rattle.std.specs.Prelude.{◌≡◌, ◌↔◌, ◌<◌, ◌+◌, ℕ, Bool, true, false, not, IsTrue, List, Contains, Some, get_or, length, slice_get}
use Rattle.std.proofs.Common.{refl, sym, ap, ◌∙◌, subst, arith}
use Rattle.std.proofs.lemmas.Bool.{both_ways}
use Rattle.std.proofs.lemmas.Option.{same_Some, slice_get-get_or}
use Rattle.owl_list.proofs.AscendingLaws.{all_in}
use Rattle.owl_kind.specs.Kinds.{Entity}
use Rattle.rdf_graph.specs.declared.triple.Triple.{Triple}
use Rattle.rdf_meaning.specs.Nodes.{is_structural}
use Rattle.rdf_faults.specs.Asked.{IsTyped}
use Rattle.rdf_faults.specs.Faults.{IsUntypedPart}
use Rattle.rdf_roles.proofs.FirstLaws.{HoldsNowhereBelow, holds_for_none, nowhere_below_next}
use Rattle.rdf_roles.specs.FaultPlaces.{IsFirstUntyped}

module _ (g : List Triple) (k : List Entity) where
  abbrev pub IsUntyped : Triple → Type 0
  IsUntyped t = IsTrue (is_structural g t) × (IsTyped g k t → ⊥)

  pub untyped_is : (t : Triple) (own typed : Bool) → own ≡ true → own ≡ is_structural g t → IsTrue typed ↔ IsTyped g k t → IsTrue (not typed) ↔ IsUntyped t
  untyped_is t own true h e is = (λ f. cc, λ u. absurd (u.1 (is.0 refl)))
  untyped_is t own false h e is = (λ f. (sym e ∙ h, λ p. let never : false ≡ true = is.1 p in cc), λ u. refl)

  module _ (items : List Triple) (are : items ≡ g) (place : ℕ) (item : Triple) (within : place < length items) (is : item ≡ get_or items place item) where
    stands : slice_get items place ≡ Some item
    stands = slice_get-get_or items place item within ∙ ap Some (sym is)

    pub goes_on : (IsUntypedPart g k item → ⊥) → HoldsNowhereBelow (IsUntypedPart g k) items place → HoldsNowhereBelow (IsUntypedPart g k) items (place + 1)
    goes_on typed none j h t at u =
        nowhere_below_next (IsUntypedPart g k) items place none (λ x here p. typed (subst (IsUntypedPart g k) (sym (same_Some item x (sym stands ∙ here))) p)) j (omega (arith, h)) t at u

    pub passes : (b : Bool) → IsTrue b ↔ IsUntyped item → b ≡ false → HoldsNowhereBelow (IsUntypedPart g k) items place → HoldsNowhereBelow (IsUntypedPart g k) items (place + 1)
    passes b untyped n = goes_on (λ p. both_ways b n (untyped.1 (p.structural, p.untyped)))

    pub is_first : (b : Bool) → IsTrue b ↔ IsUntyped item → b ≡ true → HoldsNowhereBelow (IsUntypedPart g k) items place → IsFirstUntyped g k place
    is_first b untyped y none =
        let found = untyped.0 y in
        record {
          triple = item;
          stands = subst (λ ts. slice_get ts place ≡ Some item) are stands;
          untyped = record { inside = subst (λ ts. Contains ts item) are (place, within, sym is); structural = found.0; untyped = found.1 };
          first = λ other t less at p. none other less t (subst (λ ts. slice_get ts other ≡ Some t) (sym are) at) p;
        }

  pub none_is : (items : List Triple) → items ≡ g → (n : ℕ) → length items ≡ n → HoldsNowhereBelow (IsUntypedPart g k) items n → (t : Triple) → IsUntypedPart g k t → ⊥
  none_is items are n e none t u =
      all_in (λ t. IsUntypedPart g k t → ⊥) items t (holds_for_none (IsUntypedPart g k) items n e none) (subst (λ ts. Contains ts t) (sym are) u.inside) u
