-- A construct that is shut.
use Rattle.std.proofs.Common.{◌≡◌, refl, sym, ap, ◌∙◌, subst, true, false, Bool, ℕ}
use Rattle.std.specs.Prelude.{◌&&◌, List, [], ◌∷◌, ◌++◌, map, reverse, option_map, Option, None, Some, IfSome, IsNone, Result, Ok, Err, OnOk, is_none, is_some, not, slice_get}
use Rattle.std.proofs.lemmas.Bool.{false≢true}
use Rattle.std.proofs.lemmas.List.{reverse-append}
use Rattle.std.proofs.lemmas.Option.{get_or_from_slice_get, slice_get_within}
use Rattle.owl_arena.specs.Held.{node_over, tree_at, trees_at}
use Rattle.owl_tree.specs.Canonical.{canonical}
use Rattle.owl_tree.specs.Rows.{is_group}
use Rattle.owl_tree.specs.Trees.{Tree}
use Rattle.owl_maker.specs.declared.fault.MakeFault.{MakeFault}
use Rattle.owl_maker.specs.declared.parts.Open as parts
use Rattle.owl_maker.specs.Kept.{AreAllHeld, IsHeldIn, IsShutLight, outlines_in, top_of}
use Rattle.owl_maker.specs.Makings.{IsHeavy}
use Rattle.owl_maker.specs.Steps.{forms_with, item_made, item_with, kids_with, outlines_shut, outlines_with, rest_of}
use Rattle.owl_maker.proofs.Stacks.{made_form, outlines_last, same_item}

-- the innermost is the last
pub top_is : (ts : List Tree) (old rest : List parts.Open) (top : parts.Open) → old ≡ rest ++ top ∷ [] → top_of ts (reverse old) ≡ node_over ts top.outline.tag top.kids.items
top_is ts old rest top e = ap (λ (os : List parts.Open). top_of ts (reverse os)) e ∙ ap (top_of ts) (reverse-append rest (top ∷ []))

pub outlines_after_shut : (r : Result (Unit {0}) MakeFault) (old rest new : List parts.Open) (top : parts.Open) (is_key : Bool) → old ≡ rest ++ top ∷ [] → is_key ≡ (is_group top.outline.tag && top.outline.has_kids) → OnOk r (outlines_in new ≡ outlines_with is_key (outlines_in rest)) → OnOk r (outlines_in new ≡ outlines_shut (outlines_in old))
outlines_after_shut (Err x) old rest new top is_key e k h = tt
outlines_after_shut (Ok x) old rest new top is_key e k h =
    h ∙ ap (λ (b : Bool). outlines_with b (outlines_in rest)) k ∙ sym (ap outlines_shut (outlines_last old rest top e))

pub held_made : (ts : List Tree) (made : Option ℕ) (was : Bool) (u : Tree) → IfSome made (λ id. (was ≡ false) × (slice_get ts id ≡ Some u)) → IsHeldIn ts made
held_made ts None was u h = tt
held_made ts (Some id) was u h = slice_get_within ts id u h.1

item_at : (old new more : List Tree) (id : ℕ) (form : Tree) (item : Option ℕ) (rest : List (List ℕ)) → new ≡ old ++ more → slice_get new id ≡ Some form → IsHeldIn old item → option_map (tree_at new) (item_with (Some id) item rest) ≡ item_made form (option_map (tree_at old) item) (map (trees_at old) rest)
item_at old new more id form item [] e f h = ap (λ (t : Tree). Some t) (get_or_from_slice_get new id form _ f)
item_at old new more id form item (ids ∷ idss) e f h = same_item old new more e item h

abbrev Placed : Bool → Tree → List Tree → List Tree → List (List ℕ) → List (List ℕ) → Option ℕ → Option ℕ → Type 0
Placed was form old new before now item now_item = IsShutLight was form record { kids = map (trees_at old) before; item = option_map (tree_at old) item } record { kids = map (trees_at new) now; item = option_map (tree_at new) now_item }

placed : (made : Option ℕ) (was heavy : Bool) (old new more : List Tree) (form : Tree) (before rest now : List (List ℕ)) (ids : List ℕ) (item now_item : Option ℕ) → before ≡ ids ∷ rest → now ≡ kids_with made rest → now_item ≡ item_with made item rest → new ≡ old ++ more → IfSome made (λ id. (was ≡ false) × (slice_get new id ≡ Some form)) → heavy ≡ is_none made → AreAllHeld old rest → IsHeldIn old item → heavy ≡ false → Placed was form old new before now item now_item
placed None was heavy old new more form before rest now ids item now_item b n i e f k held here light = absurd (false≢true (sym light ∙ k))
placed (Some id) was heavy old new more form before rest now ids item now_item b n i e f k held here light = record {
  was_light = f.0;
  kids = ap (λ (idss : List (List ℕ)). map (trees_at new) idss) n ∙ made_form old new more id form rest e f.1 held ∙ sym (ap (λ (idss : List (List ℕ)). forms_with form (rest_of (map (trees_at old) idss))) b);
  item = ap (λ (o : Option ℕ). option_map (tree_at new) o) i ∙ item_at old new more id form item rest e f.1 here ∙ sym (ap (λ (idss : List (List ℕ)). item_made form (option_map (tree_at old) item) (rest_of (map (trees_at old) idss))) b);
}

pub shut_light : (r : Result (Unit {0}) MakeFault) (made : Option ℕ) (was heavy : Bool) (old new more : List Tree) (form top : Tree) (before rest now : List (List ℕ)) (ids : List ℕ) (item now_item : Option ℕ) → top ≡ form → before ≡ ids ∷ rest → OnOk r (now ≡ kids_with made rest) → OnOk r (now_item ≡ item_with made item rest) → new ≡ old ++ more → IfSome made (λ id. (was ≡ false) × (slice_get new id ≡ Some (canonical form))) → heavy ≡ is_none made → AreAllHeld old rest → IsHeldIn old item → OnOk r (heavy ≡ false → Placed was (canonical top) old new before now item now_item)
shut_light (Err x) made was heavy old new more form top before rest now ids item now_item t b n i e f k held here = tt
shut_light (Ok x) made was heavy old new more form top before rest now ids item now_item t b n i e f k held here =
    λ light. subst (λ (u : Tree). Placed was (canonical u) old new before now item now_item) (sym t) (placed made was heavy old new more (canonical form) before rest now ids item now_item b n i e f k held here light)

heavy_by : (made : Option ℕ) (was heavy : Bool) (form : Tree) → heavy ≡ is_none made → (IsNone made → was ≡ false → IsHeavy form) → heavy ≡ true → was ≡ false → IsHeavy form
heavy_by None was heavy form k h e light = h refl light
heavy_by (Some id) was heavy form k h e light = absurd (false≢true (sym k ∙ e))

pub shut_heavy : (r : Result (Unit {0}) MakeFault) (made : Option ℕ) (was heavy : Bool) (form top : Tree) → top ≡ form → heavy ≡ is_none made → (IsNone made → was ≡ false → IsHeavy form) → OnOk r (heavy ≡ true → was ≡ false → IsHeavy top)
shut_heavy (Err x) made was heavy form top t k h = tt
shut_heavy (Ok x) made was heavy form top t k h = λ e light. subst IsHeavy (sym t) (heavy_by made was heavy form k h e light)

pub none_told : (b : Bool) (made : Option ℕ) → is_some made ≡ not b → b ≡ is_none made
none_told true made e = sym (ap not e)
none_told false made e = sym (ap not e)
