-- Acts of a maker, by what they answer.
use Rattle.std.proofs.Common.{◌≡◌, refl, sym, ap, ◌∙◌, subst, true, false, Bool, ◌<◌, ℕ, arith, ◌↔◌}
use Rattle.std.specs.Prelude.{◌&&◌, List, ◌∷◌, ◌++◌, length, map, reverse, Option, None, Some, IfSome, IsNone, Result, Ok, Err, OnOk, slice_get}
use Rattle.std.proofs.lemmas.Bool.{false≢true}
use Rattle.std.proofs.lemmas.List.{length-map, length-reverse}
use Rattle.std.proofs.lemmas.Option.{slice_get_within}
use Rattle.owl_arena.specs.Held.{trees_at}
use Rattle.owl_arena.specs.Shared.{deepest}
use Rattle.owl_doc.specs.Documents.{Document}
use Rattle.owl_tree.specs.declared.atom.Atom.{Atom}
use Rattle.owl_tree.specs.declared.tag.Tag.{Tag}
use Rattle.owl_tree.specs.Rows.{is_group}
use Rattle.owl_tree.specs.Shape.{IsShaped}
use Rattle.owl_tree.specs.Trees.{Tree, leaf}
use Rattle.owl_maker.specs.declared.fault.MakeFault.{MakeFault}
use Rattle.owl_maker.specs.declared.parts.Open as parts
use Rattle.owl_maker.specs.declared.parts.Outline.{Outline}
use Rattle.owl_maker.specs.Constructs.{Constructs, is_key_group}
use Rattle.owl_tree.specs.Frames.{Frame, with_kid}
use Rattle.owl_maker.specs.Kept.{AreAllHeld, IsHeldIn, outlines_in}
use Rattle.owl_maker.specs.Makings.{Follows, Making, outline_of, with_document}
use Rattle.owl_maker.specs.Steps.{forms_with, kids_with, outlines_with}
use Rattle.owl_maker.proofs.Follow.{follows_leaf}
use Rattle.owl_maker.proofs.Stacks.{made_form}

pub outlines_long : (stack : List parts.Open) → length (outlines_in stack) ≡ length stack
outlines_long stack = length-map (reverse stack) (λ (o : parts.Open). o.outline) ∙ length-reverse stack

pub made_held : (ts : List Tree) (made : Option ℕ) (u : Tree) → IfSome made (λ id. slice_get ts id ≡ Some u) → IsHeldIn ts made
made_held ts None u h = tt
made_held ts (Some id) u h = slice_get_within ts id u h

made_kids : (made : Option ℕ) (heavy : Bool) (old new more : List Tree) (u : Tree) (idss : List (List ℕ)) → new ≡ old ++ more → IfSome made (λ id. slice_get new id ≡ Some u) → IsNone made ↔ (heavy ≡ true) → AreAllHeld old idss → heavy ≡ false → map (trees_at new) (kids_with made idss) ≡ forms_with u (map (trees_at old) idss)
made_kids None heavy old new more u idss e h n held light = absurd (false≢true (sym light ∙ n.0 refl))
made_kids (Some id) heavy old new more u idss e h n held light = made_form old new more id u idss e h held

pub leaf_kids : (r : Result (Unit {0}) MakeFault) (made : Option ℕ) (heavy : Bool) (old new more : List Tree) (u : Tree) (idss now : List (List ℕ)) → OnOk r (now ≡ kids_with made idss) → new ≡ old ++ more → IfSome made (λ id. slice_get new id ≡ Some u) → IsNone made ↔ (heavy ≡ true) → AreAllHeld old idss → OnOk r (heavy ≡ false → map (trees_at new) now ≡ forms_with u (map (trees_at old) idss))
leaf_kids (Ok x) made heavy old new more u idss now g e h n held = λ light. ap (λ (ids : List (List ℕ)). map (trees_at new) ids) g ∙ made_kids made heavy old new more u idss e h n held light
leaf_kids (Err x) made heavy old new more u idss now g e h n held = tt

and_false : (b : Bool) → (b && false) ≡ false
and_false true = refl
and_false false = refl

leaf_no_key : (t : Tag) (a : Atom) → is_key_group (leaf t a) ≡ false
leaf_no_key t a = and_false (is_group t)

pub leaf_added : (r : Result (Unit {0}) MakeFault) (value old new : Making) (t : Tag) (a : Atom) → old ≡ value → OnOk r (new.outlines ≡ outlines_with false old.outlines) → OnOk r (old.is_heavy ≡ false → new.kids ≡ forms_with (leaf t a) old.kids) → new.item ≡ old.item → new.is_heavy ≡ old.is_heavy → length old.outlines < deepest → IsShaped (leaf t a) → OnOk r ((f : Frame) (fs : List Frame) → Follows value (Constructs (f ∷ fs)) → Follows new (Constructs (with_kid (leaf t a) f ∷ fs)))
leaf_added (Err x) value old new t a e o k i b room s = tt
leaf_added (Ok x) value old new t a e o k i b room s = λ f fs h.
    let g : Follows old (Constructs (f ∷ fs)) = subst (λ (m : Making). Follows m (Constructs (f ∷ fs))) (sym e) h in
    let long = ap length g.outlines ∙ length-map (f ∷ fs) outline_of in
    follows_leaf old new (leaf t a) f fs o (leaf_no_key t a) k i b refl (omega (arith, long, room)) s g

-- what is open stays, and the document alone changes
pub in_hand_still : (old new : Document) (value : Making) (outlines outlines_now : List Outline) (kids kids_now : List (List Tree)) (item item_now : Option Tree) (heavy : Bool) → record { document = old; outlines = outlines; kids = kids; item = item; is_heavy = heavy } ≡ value → outlines_now ≡ outlines → kids_now ≡ kids → item_now ≡ item → record { document = new; outlines = outlines_now; kids = kids_now; item = item_now; is_heavy = heavy } ≡ with_document new value
in_hand_still old new value outlines outlines_now kids kids_now item item_now heavy e o k i =
    let now : Making = record { document = new; outlines = outlines_now; kids = kids_now; item = item_now; is_heavy = heavy } in
    let was : Making = record { document = old; outlines = outlines; kids = kids; item = item; is_heavy = heavy } in
    let same : now ≡ with_document new was = λ j. record { document = new; outlines = o j; kids = k j; item = i j; is_heavy = heavy } in
    same ∙ ap (with_document new) e
