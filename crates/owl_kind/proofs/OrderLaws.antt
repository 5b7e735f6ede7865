-- The laws of entities in order.
use Rattle.std.specs.Prelude.{◌≡◌, ◌↔◌, ℕ, List}
use Rattle.std.specs.declared.cmp.Ordering.{Ordering}
use Rattle.std.specs.declared.cmp.Ordering.TheVariants.{Less, Equal, Greater}
use Rattle.std.specs.Cmp.{IsTotalOrder}
use Rattle.std.specs.FinMap.{IsAntisymmetric, nat_cmp-IsAntisymmetric}
use Rattle.std.specs.Ordering.{nat_cmp, ordering_then}
use Rattle.std.proofs.lemmas.Cmp.{nat_cmp_total, on_total, then_total}
use Rattle.std.proofs.Common.{zero, suc, refl, sym, ap, ◌∙◌}
use Rattle.owl_characters.specs.Order.{text_cmp}
use Rattle.owl_characters.specs.OrderLaws.{same_texts, texts_total, turned}
use Rattle.owl_kind.specs.declared.kind.Kind.{Kind}
use Rattle.owl_kind.specs.declared.kind.Kind.TheVariants.{Class, Datatype, ObjectProperty, DataProperty, AnnotationProperty, Individual}
use Rattle.owl_kind.specs.Kinds.{Entity, IsDeclared, IsFirstClash}
use Rattle.owl_kind.specs.Order.{AreOrdered, entity_cmp, kind_number}
use Rattle.owl_list.proofs.AscendingLaws.{ascending_unique}

pub entities_total : IsTotalOrder entity_cmp
entities_total = then_total (on_total (λ e. e.iri) texts_total) (on_total (λ e. kind_number e.kind) nat_cmp_total)

-- both of two comparisons tie where they tie one after the other
both_tie : (o p : Ordering) → ordering_then o p ≡ Equal → (o ≡ Equal) × (p ≡ Equal)
both_tie Less p e = cc
both_tie Equal p e = (refl, e)
both_tie Greater p e = cc

kind_at : ℕ → Kind
kind_at zero = Class
kind_at (suc zero) = Datatype
kind_at (suc (suc zero)) = ObjectProperty
kind_at (suc (suc (suc zero))) = DataProperty
kind_at (suc (suc (suc (suc zero)))) = AnnotationProperty
kind_at n = Individual

numbered : (kind : Kind) → kind_at (kind_number kind) ≡ kind
unfolding kind_at
numbered Class = refl
numbered Datatype = refl
numbered ObjectProperty = refl
numbered DataProperty = refl
numbered AnnotationProperty = refl
numbered Individual = refl

pub only_equal_entities_tie : IsAntisymmetric entity_cmp
only_equal_entities_tie a b e =
    let tied = both_tie (text_cmp a.iri b.iri) (nat_cmp (kind_number a.kind) (kind_number b.kind)) e in
    let iri : a.iri ≡ b.iri = same_texts a.iri b.iri tied.0 in
    let kind : a.kind ≡ b.kind = sym (numbered a.kind) ∙ ap kind_at (nat_cmp-IsAntisymmetric (kind_number a.kind) (kind_number b.kind) tied.1) ∙ numbered b.kind in
    ap (λ k. record { kind = k; iri = a.iri }) kind ∙ ap (λ i. record { kind = b.kind; iri = i }) iri

-- at most one IRI is the first that has two kinds that no IRI may share
neither_before : (a b : List ℕ) (o : Ordering) → text_cmp a b ≡ o → (text_cmp a b ≡ Less → ⊥) → (text_cmp b a ≡ Less → ⊥) → a ≡ b
neither_before a b Less e h k = absurd (h e)
neither_before a b Equal e h k = same_texts a b e
neither_before a b Greater e h k = absurd (k (turned a b e))

pub clash_once : (kinds : List Entity) (iri other : List ℕ) → IsFirstClash kinds iri → IsFirstClash kinds other → iri ≡ other
clash_once kinds iri other h k = neither_before iri other (text_cmp iri other) refl (k.first iri h.clash) (h.first other k.clash)

-- of what is declared there is one list in order
pub one_order : (kinds others : List Entity) → AreOrdered kinds → AreOrdered others →
    ((kind : Kind) (iri : List ℕ) → IsDeclared kinds kind iri ↔ IsDeclared others kind iri) → kinds ≡ others
one_order kinds others a b h = ascending_unique entity_cmp entities_total kinds others a b (λ e. h e.kind e.iri)
