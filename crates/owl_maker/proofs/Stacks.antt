-- Constructs that are kept in a list, the innermost last, and their numbers in an arena that grows.
use Rattle.std.proofs.Common.{◌≡◌, refl, sym, ap, ◌∙◌, subst, ◌<◌, ℕ, arith}
use Rattle.std.specs.Prelude.{List, [], ◌∷◌, ◌++◌, length, map, reverse, option_map, slice_get, Option, None, Some}
use Rattle.std.proofs.lemmas.List.{length-append, map-append, reverse-append}
use Rattle.std.proofs.lemmas.Option.{get_or_from_slice_get}
use Rattle.owl_arena.specs.Held.{AreHeld, tree_at, trees_at}
use Rattle.owl_arena.proofs.HeldLaws.{held_more, kids_stay, more_agrees}
use Rattle.owl_tree.specs.Trees.{Tree}
use Rattle.owl_maker.specs.declared.parts.Open as parts
use Rattle.owl_maker.specs.declared.parts.Outline.{Outline}
use Rattle.owl_maker.specs.Kept.{AreAllHeld, IsHeldIn, numbers_in, outlines_in}
use Rattle.owl_maker.specs.Steps.{forms_with, kids_with}

last_first : (stack : List parts.Open) (top : parts.Open) → reverse (stack ++ top ∷ []) ≡ top ∷ reverse stack
last_first stack top = reverse-append stack (top ∷ [])

pub outlines_last : (old rest : List parts.Open) (top : parts.Open) → old ≡ rest ++ top ∷ [] → outlines_in old ≡ top.outline ∷ outlines_in rest
outlines_last old rest top e = ap outlines_in e ∙ ap (λ (os : List parts.Open). map (λ (o : parts.Open). o.outline) os) (last_first rest top)

pub numbers_last : (old rest : List parts.Open) (top : parts.Open) → old ≡ rest ++ top ∷ [] → numbers_in old ≡ top.kids.items ∷ numbers_in rest
numbers_last old rest top e = ap numbers_in e ∙ ap (λ (os : List parts.Open). map (λ (o : parts.Open). o.kids.items) os) (last_first rest top)

-- all are there
pub held_before : (ts : List Tree) (old rest : List parts.Open) (top : parts.Open) → old ≡ rest ++ top ∷ [] → AreAllHeld ts (numbers_in old) → AreHeld ts top.kids.items × AreAllHeld ts (numbers_in rest)
held_before ts old rest top e h = subst (AreAllHeld ts) (numbers_last old rest top e) h

-- what was taken off is put back
pub put_back : (old now rest : List parts.Open) (top put : parts.Open) → old ≡ rest ++ top ∷ [] → now ≡ rest ++ put ∷ [] → put.outline ≡ top.outline → put.kids.items ≡ top.kids.items → (outlines_in now ≡ outlines_in old) × (numbers_in now ≡ numbers_in old)
put_back old now rest top put e f o k = (
  outlines_last now rest put f ∙ ap (λ (x : Outline). x ∷ outlines_in rest) o ∙ sym (outlines_last old rest top e),
  numbers_last now rest put f ∙ ap (λ (ids : List ℕ). ids ∷ numbers_in rest) k ∙ sym (numbers_last old rest top e),
)

-- an arena that grows
module _ (old more : List Tree) where
  grown_numbers : (idss : List (List ℕ)) → AreAllHeld old idss → map (trees_at (old ++ more)) idss ≡ map (trees_at old) idss
  grown_numbers [] h = refl
  grown_numbers (ids ∷ idss) h = let e = kids_stay old more ids h.0 in let f = grown_numbers idss h.1 in cc

  grown_held : (idss : List (List ℕ)) → AreAllHeld old idss → AreAllHeld (old ++ more) idss
  grown_held [] h = tt
  grown_held (ids ∷ idss) h = (held_more old more ids h.0, grown_held idss h.1)

  grown_item : (item : Option ℕ) → IsHeldIn old item → option_map (tree_at (old ++ more)) item ≡ option_map (tree_at old) item
  grown_item None h = refl
  grown_item (Some id) h = ap (λ (t : Tree). Some t) (more_agrees old more id h)

  grown_item_held : (item : Option ℕ) → IsHeldIn old item → IsHeldIn (old ++ more) item
  grown_item_held None h = tt
  grown_item_held (Some id) h = let e = length-append old more in let here : id < length old = h in omega (arith, e)

module _ (old new more : List Tree) (e : new ≡ old ++ more) where
  pub same_numbers : (idss : List (List ℕ)) → AreAllHeld old idss → map (trees_at new) idss ≡ map (trees_at old) idss
  same_numbers idss h = ap (λ (ts : List Tree). map (trees_at ts) idss) e ∙ grown_numbers old more idss h

  pub still_held : (idss : List (List ℕ)) → AreAllHeld old idss → AreAllHeld new idss
  still_held idss h = subst (λ (ts : List Tree). AreAllHeld ts idss) (sym e) (grown_held old more idss h)

  pub same_item : (item : Option ℕ) → IsHeldIn old item → option_map (tree_at new) item ≡ option_map (tree_at old) item
  same_item item h = ap (λ (ts : List Tree). option_map (tree_at ts) item) e ∙ grown_item old more item h

  pub item_still_held : (item : Option ℕ) → IsHeldIn old item → IsHeldIn new item
  item_still_held item h = subst (λ (ts : List Tree). IsHeldIn ts item) (sym e) (grown_item_held old more item h)

-- the tree that was made, behind the others
form_at : (ts : List Tree) (id : ℕ) (u : Tree) (idss : List (List ℕ)) → slice_get ts id ≡ Some u → map (trees_at ts) (kids_with (Some id) idss) ≡ forms_with u (map (trees_at ts) idss)
form_at ts id u [] e = refl
form_at ts id u (ids ∷ idss) e =
    let pushed = map-append (tree_at ts) ids (id ∷ []) in
    let is : tree_at ts id ≡ u = get_or_from_slice_get ts id u _ e in
    ap (λ (us : List Tree). us ∷ map (trees_at ts) idss) (pushed ∙ ap (λ (t : Tree). trees_at ts ids ++ t ∷ []) is)

pub made_form : (old new more : List Tree) (id : ℕ) (u : Tree) (idss : List (List ℕ)) → new ≡ old ++ more → slice_get new id ≡ Some u → AreAllHeld old idss → map (trees_at new) (kids_with (Some id) idss) ≡ forms_with u (map (trees_at old) idss)
made_form old new more id u idss e f h = form_at new id u idss f ∙ ap (forms_with u) (same_numbers old new more e idss h)
