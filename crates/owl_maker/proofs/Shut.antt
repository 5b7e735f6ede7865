-- What shutting the innermost construct does to what is followed.
use Rattle.std.proofs.Common.{◌≡◌, ◌↔◌, refl, sym, ap, subst, true, false, ◌<◌, ◌≤◌, arith}
use Rattle.std.specs.Prelude.{List, ◌∷◌, length, reverse, Result, Ok, Err, OnOk, IfErr, IsErrOf}
use Rattle.owl_arena.specs.Shared.{deepest}
use Rattle.owl_tree.specs.Canonical.{canonical}
use Rattle.owl_tree.specs.Shape.{IsShaped}
use Rattle.owl_tree.specs.Trees.{depth}
use Rattle.owl_maker.specs.declared.fault.MakeFault.{MakeFault}
use Rattle.owl_maker.specs.declared.fault.MakeFault.TheVariants.{EmptyKey, Memory}
use Rattle.owl_maker.specs.declared.maker.Maker.TheInside as maker
use Rattle.owl_maker.specs.Constructs.{Constructs, shut_in}
use Rattle.owl_tree.specs.Frames.{FitsButKeys, Frame, IsKeyless, tree_of}
use Rattle.owl_maker.specs.Kept.{IsShutLight, making_of, outlines_in, top_at}
use Rattle.owl_maker.specs.Makings.{Follows, IsHeavy, Making}
use Rattle.owl_maker.specs.Steps.{is_keyless_in, outlines_shut}
use Rattle.owl_maker.proofs.Acts.{outlines_long}
use Rattle.owl_maker.proofs.Follow.{follows_shut, light_forms, seen_of, shaped_whole}
use Rattle.owl_maker.proofs.Tops.{depth_forms, has_property, keyless_told, over_forms, same_form, shaped_forms, top_written}

module _ (i : maker.Inside) (f : Frame) (fs : List Frame) (h : Follows (making_of i) (Constructs (f ∷ fs))) where
  pub inside : 0 < length i.stack.items
  inside = let e = ap length h.outlines in let long = outlines_long i.stack.items in omega (arith, e, long)

  top_form : i.is_heavy ≡ false → top_at i.builder i.stack.items ≡ over_forms f
  top_form light =
      let m = making_of i in
      top_written i.builder.arena.trees (reverse i.stack.items) f fs h.outlines (light_forms i.is_heavy m.kids m.item (f ∷ fs) light h.forms).0

  pub same_top : i.is_heavy ≡ false → canonical (top_at i.builder i.stack.items) ≡ canonical (tree_of f)
  same_top light = same_form f (top_at i.builder i.stack.items) (top_form light)

  pub whole_shaped : FitsButKeys f → is_keyless_in (outlines_in i.stack.items) ≡ false → IsShaped (tree_of f)
  whole_shaped b k = shaped_whole f b (has_property (outlines_in i.stack.items) f fs h.outlines k) h.sound.1

  pub top_shaped : FitsButKeys f → is_keyless_in (outlines_in i.stack.items) ≡ false → i.is_heavy ≡ false → IsShaped (top_at i.builder i.stack.items)
  top_shaped b k light = shaped_forms f (top_at i.builder i.stack.items) (top_form light) (whole_shaped b k)

  pub top_level : i.is_heavy ≡ false → depth (top_at i.builder i.stack.items) ≤ deepest
  top_level light = let same = depth_forms f (top_at i.builder i.stack.items) (top_form light) in let level = h.sound.0 in omega (arith, same, level)

  pub keyless_here : is_keyless_in (outlines_in i.stack.items) ≡ true → IsKeyless f
  keyless_here k = keyless_told (outlines_in i.stack.items) f fs h.outlines k

  pub not_keyless : is_keyless_in (outlines_in i.stack.items) ≡ false → IsKeyless f → ⊥
  not_keyless k e = e.none (has_property (outlines_in i.stack.items) f fs h.outlines k e.tag)

-- a maker has in hand what it keeps
pub follows_inside : (i : maker.Inside) (value : Making) (f : Frame) (fs : List Frame) → making_of i ≡ value → Follows value (Constructs (f ∷ fs)) → Follows (making_of i) (Constructs (f ∷ fs))
follows_inside i value f fs e h = subst (λ (m : Making). Follows m (Constructs (f ∷ fs))) (sym e) h

no_empty_key : (r : Result (Unit {0}) MakeFault) → IfErr r (λ fault. fault ≡ Memory) → IsErrOf r EmptyKey → ⊥
no_empty_key (Ok x) h e = cc
no_empty_key (Err x) h e = cc

pub no_key_missing : (r : Result (Unit {0}) MakeFault) (i : maker.Inside) (value : Making) → IfErr r (λ fault. fault ≡ Memory) → making_of i ≡ value → is_keyless_in (outlines_in i.stack.items) ≡ false → (f : Frame) (fs : List Frame) → Follows value (Constructs (f ∷ fs)) → IsErrOf r EmptyKey ↔ IsKeyless f
no_key_missing r i value m e k f fs h = (λ t. absurd (no_empty_key r m t), λ t. absurd (not_keyless i f fs (follows_inside i value f fs e h) k t))

pub key_missing : (i : maker.Inside) (value : Making) → making_of i ≡ value → is_keyless_in (outlines_in i.stack.items) ≡ true → (f : Frame) (fs : List Frame) → Follows value (Constructs (f ∷ fs)) → IsErrOf {T = Unit {0}} (Err EmptyKey) EmptyKey ↔ IsKeyless f
key_missing i value e k f fs h = (λ t. keyless_here i f fs (follows_inside i value f fs e h) k, λ t. refl)

pub shut_follows : (r : Result (Unit {0}) MakeFault) (i : maker.Inside) (value new : Making) → making_of i ≡ value → OnOk r (new.outlines ≡ outlines_shut (outlines_in i.stack.items)) → OnOk r (new.is_heavy ≡ false → IsShutLight i.is_heavy (canonical (top_at i.builder i.stack.items)) (seen_of (making_of i)) (seen_of new)) → OnOk r (new.is_heavy ≡ true → i.is_heavy ≡ false → IsHeavy (top_at i.builder i.stack.items)) → is_keyless_in (outlines_in i.stack.items) ≡ false → OnOk r ((f : Frame) (fs : List Frame) → FitsButKeys f → Follows value (Constructs (f ∷ fs)) → Follows new (shut_in f fs))
shut_follows (Err x) i value new e o p q k = tt
shut_follows (Ok x) i value new e o p q k = λ f fs b h.
    let g = follows_inside i value f fs e h in
    follows_shut (making_of i) new (top_at i.builder i.stack.items) f fs o (same_top i f fs g) p q (whole_shaped i f fs g b k) g
