-- The innermost construct, as it is kept and as it was written.
use Rattle.std.proofs.Common.{◌≡◌, refl, sym, ap, ◌∙◌, subst, true, false, Bool}
use Rattle.std.specs.Prelude.{◌&&◌, not, List, [], ◌∷◌, map}
use Rattle.std.proofs.lemmas.Bool.{eqb-true, false≢true}
use Rattle.owl_arena.specs.Held.{trees_at}
use Rattle.owl_tree.specs.declared.tag.Tag.{Tag}
use Rattle.owl_tree.specs.declared.tag.Tag.TheVariants as tag
use Rattle.owl_tree.specs.Canonical.{canonical}
use Rattle.owl_tree.proofs.CanonicalLaws.{canonical_depth, canonical_node}
use Rattle.owl_tree.specs.OrderLaws.{same_number}
use Rattle.owl_tree.specs.Rows.{is_tag}
use Rattle.owl_tree.specs.Shape.{HasKeyProperty, IsShaped}
use Rattle.owl_tree.proofs.ShapeLaws.{canonical_shape}
use Rattle.owl_tree.specs.Tags.{number_of}
use Rattle.owl_tree.specs.Trees.{Tree, depth, kids_of, node}
use Rattle.owl_maker.specs.declared.parts.Open as parts
use Rattle.owl_maker.specs.declared.parts.Outline.{Outline}
use Rattle.owl_maker.specs.Constructs.{has_key}
use Rattle.owl_tree.specs.Frames.{Frame, IsKeyless, tree_of}
use Rattle.owl_maker.specs.Kept.{top_of}
use Rattle.owl_maker.specs.Makings.{forms, outline_of}
use Rattle.owl_maker.specs.Steps.{is_keyless_in}
use Rattle.owl_maker.proofs.Keys.{key_there, key_told}

-- the construct with the canonical forms of its kids
abbrev pub over_forms : Frame → Tree
over_forms f = node f.tag (kids_of (map canonical f.kids))

pub top_written : (ts : List Tree) (os : List parts.Open) (f : Frame) (fs : List Frame) → map (λ (o : parts.Open). o.outline) os ≡ map outline_of (f ∷ fs) → map (trees_at ts) (map (λ (o : parts.Open). o.kids.items) os) ≡ forms (f ∷ fs) → top_of ts os ≡ over_forms f
top_written ts [] f fs e g = absurd cc
top_written ts (o ∷ os) f fs e g =
    let outline : o.outline ≡ outline_of f = cc in
    let kids : trees_at ts o.kids.items ≡ map canonical f.kids = cc in
    let same : o.outline.tag ≡ f.tag = ap (λ (l : Outline). l.tag) outline in
    λ i. node (same i) (kids_of (kids i))

pub same_form : (f : Frame) (top : Tree) → top ≡ over_forms f → canonical top ≡ canonical (tree_of f)
same_form f top e = ap canonical e ∙ canonical_node f.tag f.kids

pub shaped_forms : (f : Frame) (top : Tree) → top ≡ over_forms f → IsShaped (tree_of f) → IsShaped top
shaped_forms f top e s = (canonical_shape top).1 (subst IsShaped (sym (same_form f top e)) ((canonical_shape (tree_of f)).0 s))

pub depth_forms : (f : Frame) (top : Tree) → top ≡ over_forms f → depth top ≡ depth (tree_of f)
depth_forms f top e = sym (canonical_depth top) ∙ ap depth (same_form f top e) ∙ canonical_depth (tree_of f)

has_key_tag : is_tag tag.HasKey tag.HasKey ≡ true
unfolding number_of
has_key_tag = refl

both_parts : (a b : Bool) → (a && not b) ≡ true → (a ≡ true) × (b ≡ false)
both_parts true true e = absurd (false≢true e)
both_parts true false e = (refl, refl)
both_parts false b e = absurd (false≢true e)

not_both : (a b : Bool) → (a && not b) ≡ false → a ≡ true → b ≡ true
not_both true true e f = refl
not_both true false e f = absurd (false≢true (sym e))
not_both false b e f = absurd (false≢true f)

-- a HasKey without a property is told, and no other construct
pub keyless_told : (os : List Outline) (f : Frame) (fs : List Frame) → os ≡ map outline_of (f ∷ fs) → is_keyless_in os ≡ true → IsKeyless f
keyless_told os f fs e h =
    let b = both_parts (is_tag tag.HasKey f.tag) (has_key f.kids) (sym (ap is_keyless_in e) ∙ h) in
    record {
      tag = sym (same_number tag.HasKey f.tag (eqb-true _ _ b.0));
      none = λ k. false≢true (sym b.1 ∙ key_told f.kids k);
    }

pub has_property : (os : List Outline) (f : Frame) (fs : List Frame) → os ≡ map outline_of (f ∷ fs) → is_keyless_in os ≡ false → f.tag ≡ tag.HasKey → HasKeyProperty f.kids
has_property os f fs e h t =
    let is : is_tag tag.HasKey f.tag ≡ true = subst (λ (u : Tag). is_tag tag.HasKey u ≡ true) (sym t) has_key_tag in
    key_there f.kids (not_both (is_tag tag.HasKey f.tag) (has_key f.kids) (sym (ap is_keyless_in e) ∙ h) is)
