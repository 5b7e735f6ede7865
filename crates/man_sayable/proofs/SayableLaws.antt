-- The laws of what can be said in Manchester Syntax.
use Rattle.std.proofs.Common.{◌≡◌, ◌∙◌, ap, refl, sym}
use Rattle.std.specs.Prelude.{◌↔◌, ◌&&◌, ℕ, Bool, true, false, List, [], ◌∷◌, map, Option, None, Some}
use Rattle.std.specs.List.{AllByRecursion}
use Rattle.std.specs.Option.{option_or}
use Rattle.std.proofs.lemmas.Bool.{true≢false}
use Rattle.std.proofs.lemmas.Option.{none-some}
use Rattle.owl_doc.specs.Parts.{Part, of_axiom}
use Rattle.owl_kind.specs.Kinds.{Entity}
use Rattle.owl_tree.specs.declared.atom.Atom.TheVariants as atom
use Rattle.owl_tree.specs.declared.tag.Tag.TheVariants as tag
use Rattle.owl_tree.specs.declared.row.Sort.{Sort}
use Rattle.owl_tree.specs.Ontologies.{IsSameOntology, Ontology}
use Rattle.owl_tree.specs.Rows.{ends_in}
use Rattle.owl_tree.specs.Tags.{number_of}
use Rattle.owl_tree.specs.Trees.{Tree, Kids, leaf, node, no_kids, kid, kids_in, list_of, tag_of}
use Rattle.man_raw.specs.declared.form.Facet.{Facet}
use Rattle.man_resolve.specs.Expressions.{Knows, knows}
use Rattle.man_resolve.specs.Places.{facet_iri}
use Rattle.sayable_parts.proofs.UnsaidLaws as parts
use Rattle.sayable_parts.proofs.UnsaidLaws.{unsaid_once}
use Rattle.sayable_parts.proofs.WalkLaws.{neither}
use Rattle.sayable_parts.specs.Reasons.{Objection, many_properties}
use Rattle.man_sayable.specs.declared.inside.Look.{Look}
use Rattle.man_sayable.specs.declared.inside.Look.TheVariants.{Properties, Facets}
use Rattle.man_sayable.specs.Facets.{facet_named}
use Rattle.man_sayable.specs.Subjects.{against, subject_objection, subject_of}
use Rattle.man_sayable.specs.Sayable.{CanSay, CanSayAll, IsClear, IsFirstUnsayable, IsUnopposed, are_many, axiom_objection, frame_objection, inner_objection, is_data_quantifier, kids_objection, own_objection, part_objection, wordless}
use Rattle.man_sayable.proofs.FacetLaws.{named_facet}

-- ---- the first part that can't be said

module _ (kinds : List Entity) where
  pub same_ontology_said : (o p : Ontology) → IsSameOntology o p → CanSayAll kinds o ↔ CanSayAll kinds p
  same_ontology_said = parts.same_ontology_said (part_objection (knows kinds))

  pub same_ontology_first : (o p : Ontology) (part : Part) (why : Objection) → IsSameOntology o p → IsFirstUnsayable kinds o part why → IsFirstUnsayable kinds p part why
  same_ontology_first = parts.same_ontology_first (part_objection (knows kinds))

  pub unsayable_once : (o : Ontology) (part other : Part) (why because : Objection) → IsFirstUnsayable kinds o part why → IsFirstUnsayable kinds o other because → (part ≡ other) × (why ≡ because)
  unsayable_once = unsaid_once (part_objection (knows kinds))

  pub not_all_said : (o : Ontology) (part : Part) (why : Objection) → IsFirstUnsayable kinds o part why → CanSayAll kinds o → ⊥
  not_all_said = parts.not_all_said (part_objection (knows kinds))

-- ---- what is known of an axiom that can be said

both : (a b : Option Objection) → a ≡ None → b ≡ None → option_or a b ≡ None
both a b e f = ap (λ (o : Option Objection). option_or o b) e ∙ f

pub said_unopposed : (known : Knows) (t : Tree) → axiom_objection known t ≡ None → IsUnopposed known t
said_unopposed known t e =
    let subject = subject_objection (subject_of (tag_of t)) (kids_in t) in
    let frame = frame_objection known (tag_of t) (kids_in t) in
    let first = neither subject (option_or (inner_objection Properties t) (option_or (inner_objection Facets t) frame)) e in
    let second = neither (inner_objection Properties t) (option_or (inner_objection Facets t) frame) first.1 in
    let third = neither (inner_objection Facets t) frame second.1 in
    record { subject = first.0; inside = record { properties = second.0; facets = third.0 }; frame = third.1 }

pub unopposed_said : (known : Knows) (t : Tree) → IsUnopposed known t → axiom_objection known t ≡ None
unopposed_said known t h =
    let frame = frame_objection known (tag_of t) (kids_in t) in
    let third = both (inner_objection Facets t) frame h.inside.facets h.frame in
    let second = both (inner_objection Properties t) (option_or (inner_objection Facets t) frame) h.inside.properties third in
    both (subject_objection (subject_of (tag_of t)) (kids_in t)) (option_or (inner_objection Properties t) (option_or (inner_objection Facets t) frame)) h.subject second

pub axiom_said : (kinds : List Entity) (t : Tree) → CanSay kinds (of_axiom t) ↔ IsUnopposed (knows kinds) t
axiom_said kinds t = (said_unopposed (knows kinds) t, unopposed_said (knows kinds) t)

-- ---- what stands inside

pub own_none : (look : Look) (t : Tree) → inner_objection look t ≡ None → own_objection look t ≡ None
own_none look (leaf t a) e = e
own_none look (node t ks) e = (neither (own_objection look (node t ks)) (kids_objection look ks) e).0

-- each of these kids is clear
kids_clear : (ks : Kids) → kids_objection Properties ks ≡ None → kids_objection Facets ks ≡ None → AllByRecursion IsClear (list_of ks)
kids_clear no_kids e f = tt
kids_clear (kid t ks) e f =
    let properties = neither (inner_objection Properties t) (kids_objection Properties ks) e in
    let facets = neither (inner_objection Facets t) (kids_objection Facets ks) f in
    (record { properties = properties.0; facets = facets.0 }, kids_clear ks properties.1 facets.1)

pub clear_kids : (t : Tree) → IsClear t → AllByRecursion IsClear (kids_in t)
clear_kids (leaf t a) h = tt
clear_kids (node t ks) h =
    kids_clear ks
    (neither (own_objection Properties (node t ks)) (kids_objection Properties ks) h.properties).1
    (neither (own_objection Facets (node t ks)) (kids_objection Facets ks) h.facets).1

pub not_against : (b : Bool) (why : Objection) → against b why ≡ None → b ≡ false
not_against true why e = absurd (none-some why (sym e))
not_against false why e = refl

pub second_fails : (a b : Bool) → (a && b) ≡ false → a ≡ true → b ≡ false
second_fails true b e h = e
second_fails false b e h = cc

-- a quantifier has one property
pub one_property : (t : Tree) → IsClear t → is_data_quantifier (tag_of t) ≡ true → are_many (kids_in t) ≡ false
one_property t h e =
    second_fails (is_data_quantifier (tag_of t)) (are_many (kids_in t)) (not_against (is_data_quantifier (tag_of t) && are_many (kids_in t)) many_properties (own_none Properties t h.properties)) e

-- so it has two kids, a property and a data range
pub record AreTwo (ts : List Tree) : Type 0 where
  pub first : Tree
  pub second : Tree
  pub are : ts ≡ first ∷ second ∷ []

pub two_kids : (sort last : Sort) (ts : List Tree) → are_many ts ≡ false → ends_in sort last (map tag_of ts) ≡ true → AreTwo ts
two_kids sort last [] e h = absurd (true≢false (sym h))
two_kids sort last (t ∷ []) e h = absurd (true≢false (sym h))
two_kids sort last (t ∷ u ∷ []) e h = record { first = t; second = u; are = refl }
two_kids sort last (t ∷ u ∷ v ∷ ts) e h = absurd (true≢false e)

-- a facet has a word
has_word : (iri : List ℕ) (o : Option Facet) → facet_named iri ≡ o → wordless iri o ≡ None → (f : Facet) × (facet_named iri ≡ Some f) × (facet_iri f ≡ iri)
has_word iri None e h = absurd (none-some _ (sym h))
has_word iri (Some f) e h = (f, e, named_facet iri f e)

pub facet_word : (iri : List ℕ) → IsClear (leaf tag.Facet (atom.Iri iri)) → (f : Facet) × (facet_named iri ≡ Some f) × (facet_iri f ≡ iri)
unfolding number_of
facet_word iri h = has_word iri (facet_named iri) refl h.facets
