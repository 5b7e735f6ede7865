-- Heads that are equal, as they are kept.
use Rattle.std.proofs.Common.{◌≡◌, ℕ, List, Option, None, Some, refl, ap}
use Rattle.std.specs.Bool.{Decides}
use Rattle.std.specs.Option.{option_eq}
use Rattle.std.specs.Cmp.Lexicographic.{pointwise}
use Rattle.std.proofs.lemmas.Slice.Eq.{bytes_eq-Decides, slice_eq-Decides}
use Rattle.owl_doc.specs.declared.head.Head as held
use Rattle.owl_doc.specs.Heads.{StandsBeside, head_of, iri_in, name_of, version_in}
use Rattle.owl_characters.specs.Order.{text_eq}

pub optional_texts_same : (a b : Option (List ℕ)) → Decides (option_eq text_eq a b) (a ≡ b)
optional_texts_same None None = (λ h. refl, λ e. refl)
optional_texts_same None (Some b) = (λ h. cc, λ e. cc)
optional_texts_same (Some a) None = (λ h. cc, λ e. cc)
optional_texts_same (Some a) (Some b) = (λ h. ap Some ((bytes_eq-Decides a b).0 h), λ e. (bytes_eq-Decides a b).1 cc)

pub texts_same : (texts others : List (List ℕ)) → Decides (pointwise text_eq texts others) (texts ≡ others)
texts_same texts others = slice_eq-Decides bytes_eq-Decides texts others (pointwise text_eq texts others) refl

-- the parts of a name are known from it
names_same : (iri version other_iri other_version : Option (List ℕ)) → StandsBeside version iri → StandsBeside other_version other_iri → name_of iri version ≡ name_of other_iri other_version → (iri ≡ other_iri) × (version ≡ other_version)
names_same None None None None h k e = (refl, refl)
names_same None None None (Some w) h k e = absurd (cc (k refl))
names_same None (Some v) j w h k e = absurd (cc (h refl))
names_same None None (Some j) w h k e = absurd cc
names_same (Some i) v None w h k e = absurd cc
names_same (Some i) v (Some j) w h k e = (ap iri_in e, ap version_in e)

pub heads_same : (a b : held.Head) → StandsBeside a.version a.iri → StandsBeside b.version b.iri → head_of a ≡ head_of b → (a.iri ≡ b.iri) × (a.version ≡ b.version) × (a.imports.items ≡ b.imports.items)
heads_same a b h k e =
    let names = names_same a.iri a.version b.iri b.version h k (ap (λ head. head.name) e) in
    (names.0, names.1, ap (λ head. head.imports) e)

pub same_heads : (a b : held.Head) → a.iri ≡ b.iri → a.version ≡ b.version → a.imports.items ≡ b.imports.items → head_of a ≡ head_of b
same_heads a b e f g = cc
