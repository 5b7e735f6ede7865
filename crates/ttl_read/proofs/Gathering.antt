-- A list from which some items are taken to the end of another one.
use Rattle.std.proofs.Common.{inl, inr, ◌≡◌, ◌∙◌, ◌++◌, ◌∷◌, [], List, ap, map, subst, sym}
use Rattle.std.specs.Prelude.{Contains}
use Rattle.std.proofs.lemmas.List.{append_assoc, append-nil, map-append}
use Rattle.std.proofs.lemmas.List.Elements.{Contains-append_cases, Contains-append_left, Contains-append_right, Contains-push, Contains-push_cases}
use Rattle.owl_list.specs.Ascending.{HoldSame}
use Rattle.owl_list.proofs.AscendingLaws.{in_cases, in_head, in_tail, same_trans}

module _ {X : Type 0} (g p q : List X) (x : X) where
  taken_from : (z : X) → Contains ((g ++ x ∷ []) ++ (p ++ q)) z → Contains (g ++ (p ++ x ∷ q)) z
  taken_from z m =
      elim (Contains-append_cases (g ++ x ∷ []) (p ++ q) z m) as (λ _. Contains (g ++ (p ++ x ∷ q)) z) [
        | inl n ↦ elim (Contains-push_cases g x z n) as (λ _. Contains (g ++ (p ++ x ∷ q)) z) [
          | inl k ↦ Contains-append_left g (p ++ x ∷ q) z k
          | inr e ↦ Contains-append_right g (p ++ x ∷ q) z (Contains-append_right p (x ∷ q) z (subst (Contains (x ∷ q)) e (in_head x q)))
        ]
        | inr n ↦ Contains-append_right g (p ++ x ∷ q) z (elim (Contains-append_cases p q z n) as (λ _. Contains (p ++ x ∷ q) z) [
          | inl k ↦ Contains-append_left p (x ∷ q) z k
          | inr k ↦ Contains-append_right p (x ∷ q) z (in_tail x q z k)
        ])
      ]

  taken_to : (z : X) → Contains (g ++ (p ++ x ∷ q)) z → Contains ((g ++ x ∷ []) ++ (p ++ q)) z
  taken_to z m =
      elim (Contains-append_cases g (p ++ x ∷ q) z m) as (λ _. Contains ((g ++ x ∷ []) ++ (p ++ q)) z) [
        | inl n ↦ Contains-append_left (g ++ x ∷ []) (p ++ q) z (Contains-append_left g (x ∷ []) z n)
        | inr n ↦ elim (Contains-append_cases p (x ∷ q) z n) as (λ _. Contains ((g ++ x ∷ []) ++ (p ++ q)) z) [
          | inl k ↦ Contains-append_right (g ++ x ∷ []) (p ++ q) z (Contains-append_left p q z k)
          | inr k ↦ elim (in_cases x q z k) as (λ _. Contains ((g ++ x ∷ []) ++ (p ++ q)) z) [
            | inl e ↦ Contains-append_left (g ++ x ∷ []) (p ++ q) z (subst (Contains (g ++ x ∷ [])) e (Contains-push g x))
            | inr i ↦ Contains-append_right (g ++ x ∷ []) (p ++ q) z (Contains-append_right p q z i)
          ]
        ]
      ]

  pub taken : HoldSame ((g ++ x ∷ []) ++ (p ++ q)) (g ++ (p ++ x ∷ q))
  taken = λ z. (taken_from z, taken_to z)

-- what was gathered, what was put aside and what is left are the same items, though one is gathered or put aside
module _ {X Y : Type 0} (f : Y → X) (all : List X) where
  pub gathers_one : (g new : List X) (others left rest : List Y) (t : Y) → HoldSame (g ++ (map f others ++ map f left)) all → left ≡ t ∷ rest → new ≡ g ++ f t ∷ [] → HoldSame (new ++ (map f others ++ map f rest)) all
  gathers_one g new others left rest t same is now =
      let whole : HoldSame (g ++ (map f others ++ map f (t ∷ rest))) all = subst (λ l. HoldSame (g ++ (map f others ++ map f l)) all) is same in
      subst (λ k. HoldSame (k ++ (map f others ++ map f rest)) all) (sym now) (same_trans _ _ _ (taken g (map f others) (map f rest) (f t)) whole)

  pub puts_aside : (g : List X) (others more left rest : List Y) (t : Y) → HoldSame (g ++ (map f others ++ map f left)) all → left ≡ t ∷ rest → more ≡ others ++ t ∷ [] → HoldSame (g ++ (map f more ++ map f rest)) all
  puts_aside g others more left rest t same is now =
      let moved : map f more ++ map f rest ≡ map f others ++ map f left = ap (λ l. map f l ++ map f rest) now ∙ ap (λ l. l ++ map f rest) (map-append f others (t ∷ [])) ∙ append_assoc (map f others) (f t ∷ []) (map f rest) ∙ ap (λ l. map f others ++ map f l) (sym is) in
      subst (λ l. HoldSame (g ++ l) all) (sym moved) same

  pub none_left : (g : List X) (others left : List Y) → HoldSame (g ++ (map f others ++ map f left)) all → left ≡ [] → HoldSame (g ++ map f others) all
  none_left g others left same is =
      let whole : map f others ++ map f left ≡ map f others = ap (λ l. map f others ++ map f l) is ∙ append-nil (map f others) in
      subst (λ l. HoldSame (g ++ l) all) whole same
