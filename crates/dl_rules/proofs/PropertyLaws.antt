-- Laws of properties and links.
use Rattle.std.proofs.Common.{◌≡◌, ℕ, Bool, true, false, List, refl, ap, ◌∙◌}
use Rattle.std.specs.Prelude.{◌&&◌, Decides, not}
use Rattle.std.specs.Bool.{beq}
use Rattle.std.specs.Cmp.{booleans_Decides}
use Rattle.std.proofs.lemmas.Bool.{and_from, and_parts}
use Rattle.std.proofs.lemmas.Slice.Eq.{bytes_eq-Decides}
use Rattle.owl_characters.specs.Order.{text_eq}
use Rattle.dl_rules.specs.Properties.{Property, inverse, property_eq}
use Rattle.dl_rules.specs.Assertions.{Link, link_eq}

-- the tests tell which are equal
pub property_tells : (p q : Property) → Decides (property_eq p q) (p ≡ q)
property_tells p q = (
  λ h.
      let both = and_parts (text_eq p.iri q.iri) (beq p.inverted q.inverted) h in
      let names : p.iri ≡ q.iri = (bytes_eq-Decides p.iri q.iri).0 both.0 in
      let sides : p.inverted ≡ q.inverted = (booleans_Decides p.inverted q.inverted).0 both.1 in
      ap (λ (iri : List ℕ). record { iri = iri; inverted = p.inverted }) names ∙ ap (λ (b : Bool). record { iri = q.iri; inverted = b }) sides,
  λ same. and_from (text_eq p.iri q.iri) (beq p.inverted q.inverted)
      ((bytes_eq-Decides p.iri q.iri).1 (ap (λ (r : Property). r.iri) same))
      ((booleans_Decides p.inverted q.inverted).1 (ap (λ (r : Property). r.inverted) same)),
)

not_not : (b : Bool) → not (not b) ≡ b
not_not true = refl
not_not false = refl

pub inverse_again : (p : Property) → inverse (inverse p) ≡ p
inverse_again p = ap (λ (b : Bool). record { iri = p.iri; inverted = b }) (not_not p.inverted)

pub link_tells : (l m : Link) → Decides (link_eq l m) (l ≡ m)
link_tells l m = (
  λ h.
      let both = and_parts (property_eq l.property m.property && text_eq l.subject m.subject) (text_eq l.object m.object) h in
      let firsts = and_parts (property_eq l.property m.property) (text_eq l.subject m.subject) both.0 in
      ap (λ (p : Property). record { property = p; subject = l.subject; object = l.object }) ((property_tells l.property m.property).0 firsts.0)
      ∙ (ap (λ (s : List ℕ). record { property = m.property; subject = s; object = l.object }) ((bytes_eq-Decides l.subject m.subject).0 firsts.1)
      ∙ ap (λ (o : List ℕ). record { property = m.property; subject = m.subject; object = o }) ((bytes_eq-Decides l.object m.object).0 both.1)),
  λ same.
      and_from (property_eq l.property m.property && text_eq l.subject m.subject) (text_eq l.object m.object)
      (and_from (property_eq l.property m.property) (text_eq l.subject m.subject)
      ((property_tells l.property m.property).1 (ap (λ (k : Link). k.property) same))
      ((bytes_eq-Decides l.subject m.subject).1 (ap (λ (k : Link). k.subject) same)))
      ((bytes_eq-Decides l.object m.object).1 (ap (λ (k : Link). k.object) same)),
)
