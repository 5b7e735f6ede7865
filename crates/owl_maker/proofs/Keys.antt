-- What an outline tells of the kids.
use Rattle.std.proofs.Common.{◌≡◌, ◌⊎◌, inl, inr, refl, sym, ap, ◌∙◌, subst, true, false, Bool}
use Rattle.std.specs.Prelude.{◌&&◌, ◌||◌, List, [], ◌∷◌, ◌++◌, Contains}
use Rattle.std.proofs.lemmas.Bool.{and_parts, eqb-true, false≢true}
use Rattle.owl_list.proofs.AscendingLaws.{in_cases, in_head, in_none, in_tail}
use Rattle.owl_tree.specs.declared.tag.Tag.{Tag}
use Rattle.owl_tree.specs.declared.tag.Tag.TheVariants as tag
use Rattle.owl_tree.specs.OrderLaws.{same_number}
use Rattle.owl_tree.specs.Rows.{is_group}
use Rattle.owl_tree.specs.Shape.{HasKeyProperty}
use Rattle.owl_tree.specs.ShapeTests.{IsKeyGroup}
use Rattle.owl_tree.specs.Tags.{number_of}
use Rattle.owl_tree.specs.Trees.{Tree, kids_in, tag_of}
use Rattle.owl_maker.specs.Constructs.{has_any, has_key, is_key_group}
use Rattle.owl_tree.specs.Frames.{Frame, with_kid}
use Rattle.owl_maker.specs.Makings.{outline_of}
use Rattle.owl_maker.specs.Steps.{outline_with}

any_member : (ts : List Tree) → has_any ts ≡ true → (u : Tree) × Contains ts u
any_member [] e = absurd (false≢true e)
any_member (t ∷ ts) e = (t, in_head t ts)

member_any : (ts : List Tree) (u : Tree) → Contains ts u → has_any ts ≡ true
member_any [] u m = absurd (in_none u m)
member_any (t ∷ ts) u m = refl

or_cases : (a b : Bool) → (a || b) ≡ true → (a ≡ true) ⊎ (b ≡ true)
or_cases true b e = inl refl
or_cases false b e = inr e

or_left : (a b : Bool) → a ≡ true → (a || b) ≡ true
or_left true b e = refl
or_left false b e = absurd (false≢true e)

or_right : (a b : Bool) → b ≡ true → (a || b) ≡ true
or_right true b e = refl
or_right false b e = e

both_true : (a b : Bool) → a ≡ true → b ≡ true → (a && b) ≡ true
both_true true b e f = f
both_true false b e f = absurd (false≢true e)

or_more : (a b c : Bool) → (a || (b || c)) ≡ ((a || b) || c)
or_more true b c = refl
or_more false b c = refl

or_false : (a : Bool) → (a || false) ≡ a
or_false true = refl
or_false false = refl

group_is : (t : Tag) → is_group t ≡ true → (t ≡ tag.ObjectKeys) ⊎ (t ≡ tag.DataKeys)
group_is t e = elim (or_cases _ _ e) [
  | inl h ↦ inl (sym (same_number tag.ObjectKeys t (eqb-true _ _ h)))
  | inr h ↦ inr (sym (same_number tag.DataKeys t (eqb-true _ _ h)))
]

object_keys : is_group tag.ObjectKeys ≡ true
unfolding number_of
object_keys = refl

data_keys : is_group tag.DataKeys ≡ true
unfolding number_of
data_keys = refl

is_a_group : (t : Tag) → (t ≡ tag.ObjectKeys) ⊎ (t ≡ tag.DataKeys) → is_group t ≡ true
is_a_group t (inl e) = subst (λ (u : Tag). is_group u ≡ true) (sym e) object_keys
is_a_group t (inr e) = subst (λ (u : Tag). is_group u ≡ true) (sym e) data_keys

key_group : (t : Tree) → is_key_group t ≡ true → IsKeyGroup t
key_group t e =
    let b = and_parts (is_group (tag_of t)) (has_any (kids_in t)) e in
    let m = any_member (kids_in t) b.1 in
    record { is_group = group_is (tag_of t) b.0; property = m.0; member = m.1 }

group_key : (t : Tree) → IsKeyGroup t → is_key_group t ≡ true
group_key t k = both_true (is_group (tag_of t)) (has_any (kids_in t)) (is_a_group (tag_of t) k.is_group) (member_any (kids_in t) k.property k.member)

pub key_there : (ts : List Tree) → has_key ts ≡ true → HasKeyProperty ts
key_there [] e = absurd (false≢true e)
key_there (t ∷ ts) e = elim (or_cases (is_key_group t) (has_key ts) e) [
  | inl h ↦ let k = key_group t h in record { group = t; inside = in_head t ts; is_group = k.is_group; property = k.property; member = k.member }
  | inr h ↦ let k = key_there ts h in record { group = k.group; inside = in_tail t ts k.group k.inside; is_group = k.is_group; property = k.property; member = k.member }
]

pub key_told : (ts : List Tree) → HasKeyProperty ts → has_key ts ≡ true
key_told [] k = absurd (in_none k.group k.inside)
key_told (t ∷ ts) k = elim (in_cases t ts k.group k.inside) [
  | inl e ↦ or_left (is_key_group t) (has_key ts) (group_key t (subst IsKeyGroup (sym e) record { is_group = k.is_group; property = k.property; member = k.member }))
  | inr m ↦ or_right (is_key_group t) (has_key ts) (key_told ts record { group = k.group; inside = m; is_group = k.is_group; property = k.property; member = k.member })
]

any_pushed : (ts : List Tree) (t : Tree) → has_any (ts ++ t ∷ []) ≡ true
any_pushed [] t = refl
any_pushed (u ∷ us) t = refl

key_pushed : (ts : List Tree) (t : Tree) → has_key (ts ++ t ∷ []) ≡ (has_key ts || is_key_group t)
key_pushed [] t = or_false (is_key_group t)
key_pushed (u ∷ us) t = ap (λ (b : Bool). is_key_group u || b) (key_pushed us t) ∙ or_more (is_key_group u) (has_key us) (is_key_group t)

-- one more kid
pub outline_pushed : (f : Frame) (t : Tree) → outline_of (with_kid t f) ≡ outline_with (is_key_group t) (outline_of f)
outline_pushed f t = λ i. record { tag = f.tag; has_kids = any_pushed f.kids t i; has_key = key_pushed f.kids t i }
