-- The kinds of frames that IRIs have.
use Rattle.std.proofs.Common.{◌≡◌, ◌∙◌, ℕ, true, false, List, Option, None, Some, refl, sym}
use Rattle.std.specs.List.{AllByRecursion}
use Rattle.std.proofs.lemmas.Bool.{true≢false}
use Rattle.owl_kind.specs.declared.kind.Kind.{Kind}
use Rattle.owl_kind.specs.declared.kind.Kind.TheVariants.{Class, Datatype, ObjectProperty, DataProperty, AnnotationProperty, Individual}
use Rattle.man_resolve.specs.Expressions.{Knows}
use Rattle.man_sayable.specs.FrameKinds.{frame_kind, frame_kinds}
use Rattle.man_sayable.proofs.Found.{found_passes, none_passes}

module _ (known : Knows) (iri : List ℕ) where
  pub frame_known : (k : Kind) → frame_kind known iri ≡ Some k → known k iri ≡ true
  frame_known k e = found_passes (λ k. known k iri) frame_kinds k e

  -- each kind is that of a frame
  each_kind : (k : Kind) → AllByRecursion (λ k. known k iri ≡ false) frame_kinds → known k iri ≡ false
  each_kind Class h = h.0
  each_kind Datatype h = h.1.0
  each_kind ObjectProperty h = h.1.1.0
  each_kind DataProperty h = h.1.1.1.0
  each_kind AnnotationProperty h = h.1.1.1.1.0
  each_kind Individual h = h.1.1.1.1.1.0

  pub frame_found : (k : Kind) → known k iri ≡ true → (other : Kind) × (frame_kind known iri ≡ Some other)
  frame_found k e = by (frame_kind known iri) refl
    where
      by : (o : Option Kind) → frame_kind known iri ≡ o → (other : Kind) × (frame_kind known iri ≡ Some other)
      by None f = absurd (true≢false (sym e ∙ each_kind k (none_passes (λ k. known k iri) frame_kinds f)))
      by (Some other) f = (other, f)
