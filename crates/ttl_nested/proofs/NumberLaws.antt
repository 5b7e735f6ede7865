-- Numbers that stand for labels, by their places in a list.
use Rattle.std.proofs.Common.{◌≡◌, ◌<◌, ◌⊎◌, inl, inr, ℕ, suc, ◌+◌, Bool, true, false, if◌then◌else◌, Some, List, [], ◌∷◌, length, refl, sym, ap, ◌∙◌, subst, arith}
use Rattle.std.specs.Prelude.{Contains, slice_get}
use Rattle.std.proofs.lemmas.Bool.{both_ways, cases_Bool}
use Rattle.std.proofs.lemmas.Slice.Eq.{bytes_eq-Decides}
use Rattle.owl_characters.specs.Order.{text_eq}
use Rattle.owl_list.specs.Ascending.{AreApart}
use Rattle.owl_list.proofs.AscendingLaws.{in_cases, in_head, in_none, in_tail}
use Rattle.ttl_grammar.specs.declared.node.Node.{Node}
use Rattle.ttl_grammar.specs.declared.node.Node.TheVariants as node
use Rattle.ttl_nested.proofs.FormLaws.{AreNumbered}

-- from this number on, one for each label of the list; another label stands for itself
abbrev pub number_in : List (List ℕ) → ℕ → List ℕ → Node
number_in [] n label = node.Label label
number_in (l ∷ ls) n label = if text_eq l label then node.Unlabelled n else number_in ls (n + 1) label

-- the label stands at a place
pub record HasNumber (ls : List (List ℕ)) (n : ℕ) (label : List ℕ) : Type 0 where
  pub place : ℕ
  pub within : place < length ls
  pub at : slice_get ls place ≡ Some label
  pub is : number_in ls n label ≡ node.Unlabelled (n + place)

pub record HasNone (ls : List (List ℕ)) (n : ℕ) (label : List ℕ) : Type 0 where
  pub out : Contains ls label → ⊥
  pub is : number_in ls n label ≡ node.Label label

same_text : (a b : List ℕ) → text_eq a b ≡ true → a ≡ b
same_text a b h = (bytes_eq-Decides a b).0 h

text_itself : (a : List ℕ) → text_eq a a ≡ true
text_itself a = (bytes_eq-Decides a a).1 refl

pub numbered_or_not : (ls : List (List ℕ)) (n : ℕ) (label : List ℕ) → HasNumber ls n label ⊎ HasNone ls n label
numbered_or_not [] n label = inr (record { out = in_none label; is = refl })
numbered_or_not (l ∷ ls) n label = elim (cases_Bool (text_eq l label)) as (λ _. HasNumber (l ∷ ls) n label ⊎ HasNone (l ∷ ls) n label) [
  | inl t ↦ inl (record {
    place = 0;
    within = omega arith;
    at = ap Some (same_text l label t);
    is = ap (λ (b : Bool). if b then node.Unlabelled n else number_in ls (n + 1) label) t ∙ ap node.Unlabelled (omega arith);
  })
  | inr f ↦ elim (numbered_or_not ls (n + 1) label) as (λ _. HasNumber (l ∷ ls) n label ⊎ HasNone (l ∷ ls) n label) [
    | inl h ↦ inl (record {
      place = suc h.place;
      within = omega (arith, h.within);
      at = h.at;
      is = ap (λ (b : Bool). if b then node.Unlabelled n else number_in ls (n + 1) label) f ∙ h.is ∙ ap node.Unlabelled (omega arith);
    })
    | inr h ↦ inr (record {
      out = λ m. elim (in_cases l ls label m) [ inl e ↦ both_ways (text_eq l label) f (ap (λ (x : List ℕ). text_eq l x) (sym e) ∙ text_itself l) | inr k ↦ h.out k ];
      is = ap (λ (b : Bool). if b then node.Unlabelled n else number_in ls (n + 1) label) f ∙ h.is;
    })
  ]
]

-- each of the list has its number

agree : (f g : List ℕ → Node) (n : ℕ) (ls : List (List ℕ)) → ((label : List ℕ) → Contains ls label → f label ≡ g label) → AreNumbered g n ls → AreNumbered f n ls
agree f g n [] same h = tt
agree f g n (l ∷ ls) same h = (same l (in_head l ls) ∙ h.0, agree f g (n + 1) ls (λ label m. same label (in_tail l ls label m)) h.1)

pub are_numbered : (ls : List (List ℕ)) (n : ℕ) → AreApart ls → AreNumbered (number_in ls n) n ls
are_numbered [] n apart = tt
are_numbered (l ∷ ls) n apart = (
  ap (λ (b : Bool). if b then node.Unlabelled n else number_in ls (n + 1) l) (text_itself l),
  agree (number_in (l ∷ ls) n) (number_in ls (n + 1)) (n + 1) ls
      (λ label m. ap (λ (b : Bool). if b then node.Unlabelled n else number_in ls (n + 1) label)
      (elim (cases_Bool (text_eq l label)) as (λ _. text_eq l label ≡ false) [ inl t ↦ absurd (apart.0 (subst (Contains ls) (sym (same_text l label t)) m)) | inr f ↦ f ]))
      (are_numbered ls (n + 1) apart.1),
)
