-- What a maker follows behind each act.
use Rattle.std.proofs.Common.{◌≡◌, inl, inr, refl, sym, ap, ◌∙◌, subst, true, false, Bool, arith, ◌<◌, ◌≤◌, ◌+◌}
use Rattle.std.specs.Prelude.{◌&&◌, List, [], ◌∷◌, ◌++◌, length, map, max, Contains, Option, None}
use Rattle.std.proofs.lemmas.Bool.{false≢true}
use Rattle.std.proofs.lemmas.List.{map-append}
use Rattle.std.proofs.lemmas.List.Elements.{Contains-append_left, Contains-append_right}
use Rattle.owl_arena.specs.Shared.{deepest}
use Rattle.owl_list.proofs.AscendingLaws.{in_cases, in_head, in_map, in_none}
use Rattle.owl_tree.specs.declared.tag.Tag.TheVariants as tag
use Rattle.owl_tree.specs.Canonical.{arranged, canonical, canonicals}
use Rattle.owl_tree.proofs.CanonicalLaws.{arranged_holds, canonicals_kids_of}
use Rattle.owl_tree.specs.Rows.{is_group, row_of, set_start}
use Rattle.owl_tree.specs.Shape.{AreShaped, FitsRow, HasKeyProperty, IsShaped}
use Rattle.owl_tree.proofs.TreeLaws.{list_of_kids_of}
use Rattle.owl_tree.specs.Trees.{Tree, depth, kids_of, most_depth, sum_weight, weight}
use Rattle.owl_maker.specs.declared.parts.Outline.{Outline}
use Rattle.owl_maker.specs.Constructs.{AreSound, Constructs, Item, Work, has_any, is_key_group, shut_in}
use Rattle.owl_tree.specs.Frames.{FitsButKeys, Frame, tree_of, with_kid}
use Rattle.owl_maker.specs.Makings.{Follows, HasHeavy, HaveHeavy, HoldsForms, IsHeavy, Making, forms, outline_of}
use Rattle.owl_maker.specs.Steps.{forms_with, item_made, outlines_shut, outlines_with, rest_of}
use Rattle.owl_maker.specs.Kept.{IsShutLight, Seen}
use Rattle.owl_maker.proofs.Keys.{outline_pushed}

-- one more kid
depth_pushed : (ts : List Tree) (t : Tree) → most_depth (kids_of (ts ++ t ∷ [])) ≡ max (most_depth (kids_of ts)) (depth t)
depth_pushed [] t = omega arith
depth_pushed (u ∷ us) t = let h = depth_pushed us t in omega arith

shaped_pushed : (ts : List Tree) (t : Tree) → AreShaped (kids_of ts) → IsShaped t → AreShaped (kids_of (ts ++ t ∷ []))
shaped_pushed [] t h k = (k, tt)
shaped_pushed (u ∷ us) t h k = (h.0, shaped_pushed us t h.1 k)

pub sound_pushed : (f : Frame) (fs : List Frame) (t : Tree) → AreSound (f ∷ fs) → depth t + length (f ∷ fs) ≤ deepest → IsShaped t → AreSound (with_kid t f ∷ fs)
sound_pushed f fs t s d k = let e = depth_pushed f.kids t in let old = s.0 in (omega arith, shaped_pushed f.kids t s.1 k, s.2)

-- a construct that fits its row is a tree of the Structural Specification
pub shaped_whole : (f : Frame) → FitsButKeys f → (f.tag ≡ tag.HasKey → HasKeyProperty f.kids) → AreShaped (kids_of f.kids) → IsShaped (tree_of f)
shaped_whole f b k s = (subst (FitsRow f.tag) (sym (list_of_kids_of f.kids)) record { row = b.row; inverses = b.inverses; keys = k }, s)

-- a tree with a heavy kid is heavy
kid_weight : (ts : List Tree) (t : Tree) → Contains ts t → weight t ≤ sum_weight (kids_of ts)
kid_weight [] t m = absurd (in_none t m)
kid_weight (u ∷ us) t m = elim (in_cases u us t m) [
  | inl e ↦ let same = ap weight e in omega arith
  | inr n ↦ let rest = kid_weight us t n in omega arith
]

pub heavy_kid : (f : Frame) → HasHeavy f.kids → IsHeavy (tree_of f)
heavy_kid f h =
    let kids = canonicals (kids_of f.kids) in
    let start = set_start (row_of f.tag) in
    let form = canonical h.tree in
    let m : Contains kids form = subst (λ (us : List Tree). Contains us form) (sym (canonicals_kids_of f.kids)) (in_map canonical f.kids h.tree h.inside) in
    let w = kid_weight (arranged start kids) form ((arranged_holds start kids form).1 m) in
    let heavy = h.heavy.weight in
    record { weight = omega arith }

-- what is in hand, where it is the same
pub moved : (heavy new_heavy : Bool) (kids new_kids : List (List Tree)) (item new_item : Option Tree) (w : Work) → new_heavy ≡ heavy → new_kids ≡ kids → new_item ≡ item → HoldsForms heavy kids item w → HoldsForms new_heavy new_kids new_item w
moved heavy new_heavy kids new_kids item new_item w e f g h =
    subst (λ (b : Bool). HoldsForms b new_kids new_item w) (sym e)
    (subst (λ (ks : List (List Tree)). HoldsForms heavy ks new_item w) (sym f) (subst (λ (u : Option Tree). HoldsForms heavy kids u w) (sym g) h))

form_pushed : (f : Frame) (fs : List Frame) (u : Tree) → forms_with (canonical u) (forms (f ∷ fs)) ≡ forms (with_kid u f ∷ fs)
form_pushed f fs u = ap (λ (ks : List Tree). ks ∷ forms fs) (sym (map-append canonical f.kids (u ∷ [])))

heavy_pushed : (f : Frame) (fs : List Frame) (u : Tree) → HaveHeavy (f ∷ fs) → HaveHeavy (with_kid u f ∷ fs)
heavy_pushed f fs u (inl h) = inl record { tree = h.tree; inside = Contains-append_left f.kids (u ∷ []) h.tree h.inside; heavy = h.heavy }
heavy_pushed f fs u (inr h) = inr h

heavy_there : (f : Frame) (fs : List Frame) (u : Tree) → IsHeavy u → HaveHeavy (with_kid u f ∷ fs)
heavy_there f fs u h = inl record { tree = u; inside = Contains-append_right f.kids (u ∷ []) u (in_head u []); heavy = h }

outlines_pushed : (os : List Outline) (f : Frame) (fs : List Frame) (u : Tree) (is_key : Bool) → is_key ≡ is_key_group u → os ≡ map outline_of (f ∷ fs) → outlines_with is_key os ≡ map outline_of (with_kid u f ∷ fs)
outlines_pushed os f fs u is_key k e =
    (λ i. outlines_with (k i) (e i)) ∙ ap (λ (o : Outline). o ∷ map outline_of fs) (sym (outline_pushed f u))

forms_kid : (heavy : Bool) (kids new : List (List Tree)) (item : Option Tree) (u : Tree) (f : Frame) (fs : List Frame) → (heavy ≡ false → new ≡ forms_with (canonical u) kids) → HoldsForms heavy kids item (Constructs (f ∷ fs)) → HoldsForms heavy new item (Constructs (with_kid u f ∷ fs))
forms_kid false kids new item u f fs e h = (e refl ∙ ap (forms_with (canonical u)) h.0 ∙ form_pushed f fs u, h.1)
forms_kid true kids new item u f fs e h = heavy_pushed f fs u h

-- a leaf
pub follows_leaf : (old new : Making) (u : Tree) (f : Frame) (fs : List Frame) → new.outlines ≡ outlines_with false old.outlines → is_key_group u ≡ false → (old.is_heavy ≡ false → new.kids ≡ forms_with (canonical u) old.kids) → new.item ≡ old.item → new.is_heavy ≡ old.is_heavy → depth u ≡ 1 → length (f ∷ fs) < deepest → IsShaped u → Follows old (Constructs (f ∷ fs)) → Follows new (Constructs (with_kid u f ∷ fs))
follows_leaf old new u f fs e n k i b one room s h = record {
  outlines = e ∙ outlines_pushed old.outlines f fs u false (sym n) h.outlines;
  sound = sound_pushed f fs u h.sound (omega arith) s;
  forms = moved old.is_heavy new.is_heavy new.kids new.kids old.item new.item (Constructs (with_kid u f ∷ fs)) b refl i (forms_kid old.is_heavy old.kids new.kids old.item u f fs k h.forms);
}

abbrev pub seen_of : Making → Seen
seen_of m = record { kids = m.kids; item = m.item }

abbrev IsPlaced : Making → Making → Tree → Type 0
IsPlaced old new u = IsShutLight old.is_heavy (canonical u) (seen_of old) (seen_of new)

-- a construct that was shut
heavy_whole : (f : Frame) → HaveHeavy (f ∷ []) → IsHeavy (tree_of f)
heavy_whole f (inl h) = heavy_kid f h
heavy_whole f (inr h) = absurd h

heavy_around : (f g : Frame) (fs : List Frame) → HaveHeavy (f ∷ g ∷ fs) → HaveHeavy (with_kid (tree_of f) g ∷ fs)
heavy_around f g fs (inl h) = heavy_there g fs (tree_of f) (heavy_kid f h)
heavy_around f g fs (inr h) = heavy_pushed g fs (tree_of f) h

was_heavy : (heavy : Bool) (kids : List (List Tree)) (item : Option Tree) (fs : List Frame) (P : Type 0) → (HaveHeavy fs → P) → (heavy ≡ false → P) → HoldsForms heavy kids item (Constructs fs) → P
was_heavy true kids item fs P there light h = there h
was_heavy false kids item fs P there light h = light refl

pub light_forms : (heavy : Bool) (kids : List (List Tree)) (item : Option Tree) (fs : List Frame) → heavy ≡ false → HoldsForms heavy kids item (Constructs fs) → (kids ≡ forms fs) × (item ≡ None)
light_forms false kids item fs e h = h
light_forms true kids item fs e h = absurd (false≢true (sym e))

forms_item : (heavy : Bool) (old new : Making) (f : Frame) → new.is_heavy ≡ heavy → (heavy ≡ false → IsPlaced old new (tree_of f)) → (heavy ≡ true → old.is_heavy ≡ false → IsHeavy (tree_of f)) → HoldsForms old.is_heavy old.kids old.item (Constructs (f ∷ [])) → HoldsForms heavy new.kids new.item (Item (tree_of f))
forms_item true old new f e p q h = was_heavy old.is_heavy old.kids old.item (f ∷ []) (IsHeavy (tree_of f)) (heavy_whole f) (q refl) h
forms_item false old new f e p q h =
    let l = p refl in
    let was = light_forms old.is_heavy old.kids old.item (f ∷ []) l.was_light h in
    l.item ∙ ap (λ (ks : List (List Tree)). item_made (canonical (tree_of f)) old.item (rest_of ks)) was.0

forms_around : (heavy : Bool) (old new : Making) (f g : Frame) (fs : List Frame) → new.is_heavy ≡ heavy → (heavy ≡ false → IsPlaced old new (tree_of f)) → (heavy ≡ true → old.is_heavy ≡ false → IsHeavy (tree_of f)) → HoldsForms old.is_heavy old.kids old.item (Constructs (f ∷ g ∷ fs)) → HoldsForms heavy new.kids new.item (Constructs (with_kid (tree_of f) g ∷ fs))
forms_around true old new f g fs e p q h =
    was_heavy old.is_heavy old.kids old.item (f ∷ g ∷ fs) (HaveHeavy (with_kid (tree_of f) g ∷ fs)) (heavy_around f g fs) (λ l. heavy_there g fs (tree_of f) (q refl l)) h
forms_around false old new f g fs e p q h =
    let l = p refl in
    let was = light_forms old.is_heavy old.kids old.item (f ∷ g ∷ fs) l.was_light h in
    let form = canonical (tree_of f) in (
      l.kids ∙ ap (λ (ks : List (List Tree)). forms_with form (rest_of ks)) was.0 ∙ form_pushed g fs (tree_of f),
      l.item ∙ ap (λ (ks : List (List Tree)). item_made form old.item (rest_of ks)) was.0 ∙ was.1,
    )

shut_with : (old new : Making) (is_key : Bool) (f : Frame) (fs : List Frame) → new.outlines ≡ outlines_with is_key (rest_of old.outlines) → is_key ≡ is_key_group (tree_of f) → (new.is_heavy ≡ false → IsPlaced old new (tree_of f)) → (new.is_heavy ≡ true → old.is_heavy ≡ false → IsHeavy (tree_of f)) → IsShaped (tree_of f) → Follows old (Constructs (f ∷ fs)) → Follows new (shut_in f fs)
shut_with old new is_key f [] e k p q s h = record {
  outlines = e ∙ ap (λ (os : List Outline). outlines_with is_key (rest_of os)) h.outlines;
  sound = s;
  forms = forms_item new.is_heavy old new f refl p q h.forms;
}
shut_with old new is_key f (g ∷ fs) e k p q s h =
    let deep = h.sound.0 in
    record {
      outlines = e ∙ outlines_pushed (rest_of old.outlines) g fs (tree_of f) is_key k (ap (λ (os : List Outline). rest_of os) h.outlines);
      sound = sound_pushed g fs (tree_of f) h.sound.2 (omega arith) s;
      forms = forms_around new.is_heavy old new f g fs refl p q h.forms;
    }

-- the outline tells whether the construct is a group of keys with a member
group_told : (f : Frame) → (is_group f.tag && has_any f.kids) ≡ is_key_group (tree_of f)
group_told f = ap (λ (us : List Tree). is_group f.tag && has_any us) (sym (list_of_kids_of f.kids))

outlines_after : (os : List Outline) (f : Frame) (fs : List Frame) → os ≡ map outline_of (f ∷ fs) → outlines_shut os ≡ outlines_with (is_group f.tag && has_any f.kids) (rest_of os)
outlines_after os f fs e =
    ap outlines_shut e ∙ sym (ap (λ (us : List Outline). outlines_with (is_group f.tag && has_any f.kids) (rest_of us)) e)

pub follows_shut : (old new : Making) (top : Tree) (f : Frame) (fs : List Frame) → new.outlines ≡ outlines_shut old.outlines → (old.is_heavy ≡ false → canonical top ≡ canonical (tree_of f)) → (new.is_heavy ≡ false → IsShutLight old.is_heavy (canonical top) (seen_of old) (seen_of new)) → (new.is_heavy ≡ true → old.is_heavy ≡ false → IsHeavy top) → IsShaped (tree_of f) → Follows old (Constructs (f ∷ fs)) → Follows new (shut_in f fs)
follows_shut old new top f fs e same p q s h =
    shut_with old new (is_group f.tag && has_any f.kids) f fs (e ∙ outlines_after old.outlines f fs h.outlines) (group_told f)
    (λ light. let l = p light in subst (λ (form : Tree). IsShutLight old.is_heavy form (seen_of old) (seen_of new)) (same l.was_light) l)
    (λ heavy light. let w = (q heavy light).weight in let e = ap weight (same light) in record { weight = omega (arith, w, e) }) s h
