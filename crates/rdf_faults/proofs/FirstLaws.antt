-- There is at most one first, and it is there where there is any.
use Rattle.std.specs.Prelude.{◌≡◌, List, [], ◌∷◌, ◌++◌, Contains}
use Rattle.std.proofs.Common.{sym, ◌∙◌, subst}
use Rattle.owl_list.proofs.AscendingLaws.{all_in, in_head}
use Rattle.std.proofs.lemmas.List.Elements.{Contains-append_right}
use Rattle.rdf_meaning.proofs.ListLaws.{same_front}
use Rattle.rdf_faults.specs.Firsts.{HoldsForNone, IsFirst}

module _ {A : Type 0} (P : A → Type 0) where
  first_at : (front back others more : List A) (a b : A) → front ++ a ∷ back ≡ others ++ b ∷ more → HoldsForNone P front → HoldsForNone P others → P a → P b → a ≡ b
  first_at [] back [] more a b e n m h i = (same_front a b back more e).0
  first_at [] back (c ∷ others) more a b e n m h i = absurd (m.0 (subst P (same_front a c back (others ++ b ∷ more) e).0 h))
  first_at (c ∷ front) back [] more a b e n m h i = absurd (n.0 (subst P (sym (same_front c b (front ++ a ∷ back) more e).0) i))
  first_at (c ∷ front) back (d ∷ others) more a b e n m h i =
      first_at front back others more a b (same_front c d (front ++ a ∷ back) (others ++ b ∷ more) e).1 n.1 m.1 h i

  pub first_once : (all : List A) (a b : A) → IsFirst P all a → IsFirst P all b → a ≡ b
  first_once all a b f s =
      first_at f.before f.after s.before s.after a b (sym f.split ∙ s.split) f.none s.none f.holds s.holds

  pub first_is_one : (all : List A) (a : A) → IsFirst P all a → HoldsForNone P all → ⊥
  first_is_one all a f none =
      all_in (λ b. P b → ⊥) all a none
      (subst (λ bs. Contains bs a) (sym f.split) (Contains-append_right f.before (a ∷ f.after) a (in_head a f.after))) f.holds
