-- A normal form declares what its source declares.
use Rattle.std.proofs.Common.{◌≡◌, inl, inr, ℕ, Bool, true, false, ◌&&◌, cond, not, List, [], ◌∷◌, map, Contains, Option, None, Some, refl, sym, ap, ◌∙◌, subst}
use Rattle.std.specs.Prelude.{◌↔◌, flat_map}
use Rattle.std.specs.List.{filter_map}
use Rattle.std.proofs.lemmas.List.Concat.{flat_map-cons}
use Rattle.std.proofs.lemmas.List.Elements.{Contains-append_cases, Contains-append_left, Contains-append_right}
use Rattle.std.proofs.lemmas.Option.{none-some}
use Rattle.owl_doc.specs.Entities.{Declares, declaration, declared_over}
use Rattle.owl_doc.specs.Heads.{iri_in}
use Rattle.owl_kind.specs.declared.kind.Kind.{Kind}
use Rattle.owl_kind.specs.Kinds.{Entity}
use Rattle.owl_list.proofs.AscendingLaws.{from_map, in_cases, in_head, in_map, in_none, in_tail}
use Rattle.owl_list.proofs.FilterLaws.{from_filter_map, in_filter_map}
use Rattle.owl_tree.specs.declared.atom.Atom.{Atom}
use Rattle.owl_tree.specs.declared.tag.Tag.{Tag}
use Rattle.owl_tree.specs.declared.tag.Tag.TheVariants as tag
use Rattle.owl_tree.specs.Canonical.{canonical}
use Rattle.owl_tree.specs.Ontologies.{Ontology, canonical_list}
use Rattle.owl_tree.specs.OrderLaws.{same_tag}
use Rattle.owl_tree.specs.Rows.{is_tag, row_of}
use Rattle.owl_tree.specs.Tags.{number_of}
use Rattle.owl_tree.specs.Trees.{Tree, Kids, leaf, node, no_kids, kid, kids_in, tag_of}
use Rattle.rdf_normal.proofs.NeedlessLaws.{from_filter, in_filter, not_false}
use Rattle.rdf_normal.specs.NormalForms.{assertion_of, bare, is_about, is_paired, is_same_iri, normal_form, over, pairs, pairs_in, spread, spread_axioms, subject_in, tidied, turned, turned_kids, unsettled_axioms}
use Rattle.rdf_normal.proofs.NormalFormLaws.{nothing_else, stays, holds}

-- Tags.

pub tag_told : (u t : Tag) → is_tag u t ≡ true → t ≡ u
tag_told u t e = sym ((same_tag u t).0 e)

itself : (u : Tag) → is_tag u u ≡ true
itself u = (same_tag u u).1 refl

tag_not : (u t : Tag) → is_tag u t ≡ false → t ≡ u → ⊥
tag_not u t e f = let same = itself u in let g = ap (is_tag u) f in cc

pub tidied_tag : (t : Tree) → tag_of (tidied t) ≡ tag_of t
tidied_tag (leaf t a) = refl
tidied_tag (node t ks) = refl

bare_tag : (t : Tree) → tag_of (bare t) ≡ tag_of t
bare_tag (leaf t a) = refl
bare_tag (node t no_kids) = refl
bare_tag (node t (kid n ks)) = refl

in_pairs : (t : Tag) (notes : Tree) (ts : List Tree) (x : Tree) → Contains (pairs t notes ts) x → tag_of x ≡ t
in_pairs t notes [] x m = absurd (in_none x m)
in_pairs t notes (a ∷ []) x m = absurd (in_none x m)
in_pairs t notes (a ∷ b ∷ ts) x m =
    elim (in_cases (over t (notes ∷ a ∷ b ∷ [])) (pairs t notes (b ∷ ts)) x m) [ inl e ↦ ap tag_of (sym e) | inr n ↦ in_pairs t notes (b ∷ ts) x n ]

in_pairs_in : (t : Tag) (ts : List Tree) (x : Tree) → Contains (pairs_in t ts) x → tag_of x ≡ t
in_pairs_in t [] x m = absurd (in_none x m)
in_pairs_in t (notes ∷ ts) x m = in_pairs t notes ts x m

assertion_tag : (t : Tree) (o : Option (List Tree)) → tag_of t ≡ tag.ObjectPropertyAssertion → tag_of (assertion_of t o) ≡ tag_of t
assertion_tag t None e = refl
assertion_tag t (Some ks) e = sym e

turned_by : (b : Bool) (t : Tree) → is_tag tag.ObjectPropertyAssertion (tag_of t) ≡ b → tag_of (assertion_of t (cond b (turned_kids (kids_in t)) None)) ≡ tag_of t
turned_by true t e = assertion_tag t (turned_kids (kids_in t)) (tag_told tag.ObjectPropertyAssertion (tag_of t) e)
turned_by false t e = refl

turned_tag : (t : Tree) → tag_of (turned t) ≡ tag_of t
turned_tag t = turned_by (is_tag tag.ObjectPropertyAssertion (tag_of t)) t refl

in_one : (t x : Tree) → Contains (t ∷ []) x → t ≡ x
in_one t x m = elim (in_cases t [] x m) [ inl e ↦ e | inr n ↦ absurd (in_none x n) ]

spread_by : (b : Bool) (t x : Tree) → Contains (cond b (pairs_in (tag_of t) (kids_in t)) (turned t ∷ [])) x → tag_of x ≡ tag_of t
spread_by true t x m = in_pairs_in (tag_of t) (kids_in t) x m
spread_by false t x m = ap tag_of (sym (in_one (turned t) x m)) ∙ turned_tag t

-- what an axiom becomes has its tag
pub spread_tag : (t x : Tree) → Contains (spread t) x → tag_of x ≡ tag_of t
spread_tag t x m = spread_by (is_paired t) t x m

-- Declarations.

other_over : (t : Tag) (ts : List Tree) → (t ≡ tag.Declaration → ⊥) → declared_over t ts ≡ None
other_over tag.Declaration ts h = absurd (h refl)
other_over _ ts h = refl

declares_by : (b : Bool) (t u : Tree) → is_tag tag.Declaration (tag_of t) ≡ b → tag_of u ≡ tag_of t → (tag_of t ≡ tag.Declaration → declaration u ≡ declaration t) → declaration u ≡ declaration t
declares_by true t u e f g = g (tag_told tag.Declaration (tag_of t) e)
declares_by false t u e f g =
    let no_declaration = tag_not tag.Declaration (tag_of t) e in
    other_over (tag_of u) (kids_in u) (λ h. no_declaration (sym f ∙ h)) ∙ sym (other_over (tag_of t) (kids_in t) no_declaration)

-- trees with one tag declare the same, if they do as declarations
declares : (t u : Tree) → tag_of u ≡ tag_of t → (tag_of t ≡ tag.Declaration → declaration u ≡ declaration t) → declaration u ≡ declaration t
declares t u f g = declares_by (is_tag tag.Declaration (tag_of t)) t u refl f g

canonical_kids : (ks : Kids) → declaration (canonical (node tag.Declaration ks)) ≡ declaration (node tag.Declaration ks)
unfolding row_of
canonical_kids no_kids = refl
canonical_kids (kid a no_kids) = refl
canonical_kids (kid a (kid (leaf u b) no_kids)) = refl
canonical_kids (kid a (kid (node u ls) no_kids)) = refl
canonical_kids (kid a (kid (leaf u b) (kid c ks))) = refl
canonical_kids (kid a (kid (node u ls) (kid c ks))) = refl

canonical_declares : (t : Tree) → declaration (canonical t) ≡ declaration t
canonical_declares (leaf u a) = refl
canonical_declares (node u ks) =
    declares (node u ks) (canonical (node u ks)) refl (λ e. subst (λ (v : Tag). declaration (canonical (node v ks)) ≡ declaration (node v ks)) (sym e) (canonical_kids ks))

tidied_kids : (ks : Kids) → declaration (tidied (node tag.Declaration ks)) ≡ declaration (node tag.Declaration ks)
unfolding row_of number_of
tidied_kids no_kids = refl
tidied_kids (kid a no_kids) = refl
tidied_kids (kid a (kid (leaf u b) no_kids)) = refl
tidied_kids (kid a (kid (node u ls) no_kids)) = refl
tidied_kids (kid a (kid (leaf u b) (kid c ks))) = refl
tidied_kids (kid a (kid (node u ls) (kid c ks))) = refl

tidied_declares : (t : Tree) → declaration (tidied t) ≡ declaration t
tidied_declares (leaf u a) = refl
tidied_declares (node u ks) =
    declares (node u ks) (tidied (node u ks)) refl (λ e. subst (λ (v : Tag). declaration (tidied (node v ks)) ≡ declaration (node v ks)) (sym e) (tidied_kids ks))

bare_kids : (n : Tree) (ks : Kids) → declaration (bare (node tag.Declaration (kid n ks))) ≡ declaration (node tag.Declaration (kid n ks))
bare_kids n no_kids = refl
bare_kids n (kid (leaf u b) no_kids) = refl
bare_kids n (kid (node u ls) no_kids) = refl
bare_kids n (kid (leaf u b) (kid c ks)) = refl
bare_kids n (kid (node u ls) (kid c ks)) = refl

bare_declares : (t : Tree) → declaration (bare t) ≡ declaration t
bare_declares (leaf u a) = refl
bare_declares (node u no_kids) = refl
bare_declares (node u (kid n ks)) =
    declares (node u (kid n ks)) (bare (node u (kid n ks))) refl
    (λ e. subst (λ (v : Tag). declaration (bare (node v (kid n ks))) ≡ declaration (node v (kid n ks))) (sym e) (bare_kids n ks))

tag_by : (b : Bool) (t : Tree) (e : Entity) → is_tag tag.Declaration (tag_of t) ≡ b → declaration t ≡ Some e → tag_of t ≡ tag.Declaration
tag_by true t e f g = tag_told tag.Declaration (tag_of t) f
tag_by false t e f g = absurd (none-some e (sym (other_over (tag_of t) (kids_in t) (tag_not tag.Declaration (tag_of t) f)) ∙ g))

is_declaration : (t : Tree) (e : Entity) → declaration t ≡ Some e → tag_of t ≡ tag.Declaration
is_declaration t e g = tag_by (is_tag tag.Declaration (tag_of t)) t e refl g

leaf_spread : (a : Atom) → spread (leaf tag.Declaration a) ≡ leaf tag.Declaration a ∷ []
unfolding number_of
leaf_spread a = refl

node_spread : (ks : Kids) → spread (node tag.Declaration ks) ≡ node tag.Declaration ks ∷ []
unfolding number_of
node_spread ks = refl

declaration_spread : (t : Tree) → tag_of t ≡ tag.Declaration → spread t ≡ t ∷ []
declaration_spread (leaf u a) e = subst (λ (v : Tag). spread (leaf v a) ≡ leaf v a ∷ []) (sym e) (leaf_spread a)
declaration_spread (node u ks) e = subst (λ (v : Tag). spread (node v ks) ≡ node v ks ∷ []) (sym e) (node_spread ks)

not_an_assertion : is_tag tag.AnnotationAssertion tag.Declaration ≡ false
unfolding number_of
not_an_assertion = refl

not_about : (name : Option (List ℕ)) (t : Tree) → tag_of t ≡ tag.Declaration → is_about name t ≡ false
not_about name t e = ap (λ (b : Bool). b && is_same_iri name (subject_in (kids_in t))) (ap (is_tag tag.AnnotationAssertion) e ∙ not_an_assertion)

-- Lists.

-- some tree declares the entity
pub record DeclaresIn (ts : List Tree) (e : Entity) : Type 0 where
  pub tree : Tree
  pub inside : Contains ts tree
  pub entity : declaration tree ≡ Some e

pub declared_by : (ts : List Tree) (e : Entity) → Contains (filter_map declaration ts) e → DeclaresIn ts e
declared_by ts e m = let d = from_filter_map declaration ts e m in record { tree = d.element; inside = d.inside; entity = d.gives }

pub declares_it : (ts : List Tree) (t : Tree) (e : Entity) → Contains ts t → declaration t ≡ Some e → Contains (filter_map declaration ts) e
declares_it = in_filter_map declaration

in_flat : (ts : List Tree) (t x : Tree) → Contains ts t → Contains (spread t) x → Contains (flat_map spread ts) x
in_flat [] t x m k = absurd (in_none t m)
in_flat (u ∷ ts) t x m k =
    subst (λ (xs : List Tree). Contains xs x) (sym (flat_map-cons spread u ts))
    (elim (in_cases u ts t m) [
      | inl e ↦ Contains-append_left (spread u) (flat_map spread ts) x (subst (λ (v : Tree). Contains (spread v) x) (sym e) k)
      | inr n ↦ Contains-append_right (spread u) (flat_map spread ts) x (in_flat ts t x n k)
    ])

-- it is one of what one of the trees becomes
record IsSpreadOf (ts : List Tree) (x : Tree) : Type 0 where
  tree : Tree
  inside : Contains ts tree
  part : Contains (spread tree) x

from_flat : (ts : List Tree) (x : Tree) → Contains (flat_map spread ts) x → IsSpreadOf ts x
from_flat [] x m = absurd (in_none x m)
from_flat (t ∷ ts) x m =
    elim (Contains-append_cases (spread t) (flat_map spread ts) x (subst (λ (xs : List Tree). Contains xs x) (flat_map-cons spread t ts) m)) [
      | inl k ↦ record { tree = t; inside = in_head t ts; part = k }
      | inr n ↦ let s = from_flat ts x n in record { tree = s.tree; inside = in_tail t ts s.tree s.inside; part = s.part }
    ]

pub form_declares : (ts : List Tree) (e : Entity) → DeclaresIn ts e → DeclaresIn (canonical_list ts) e
form_declares ts e d = record {
  tree = canonical d.tree;
  inside = (holds (map canonical ts) (canonical d.tree)).1 (in_map canonical ts d.tree d.inside);
  entity = canonical_declares d.tree ∙ d.entity;
}

pub declares_before : (ts : List Tree) (e : Entity) → DeclaresIn (canonical_list ts) e → DeclaresIn ts e
declares_before ts e d =
    let t = from_map canonical ts d.tree ((holds (map canonical ts) d.tree).0 d.inside) in
    record { tree = t.element; inside = t.inside; entity = sym (canonical_declares t.element) ∙ ap declaration t.value ∙ d.entity }

spread_declares : (ts : List Tree) (e : Entity) → DeclaresIn ts e → DeclaresIn (flat_map spread ts) e
spread_declares ts e d =
    let one = declaration_spread d.tree (is_declaration d.tree e d.entity) in
    record { tree = d.tree; inside = in_flat ts d.tree d.tree d.inside (subst (λ (xs : List Tree). Contains xs d.tree) (sym one) (in_head d.tree [])); entity = d.entity }

declares_unspread : (ts : List Tree) (e : Entity) → DeclaresIn (flat_map spread ts) e → DeclaresIn ts e
declares_unspread ts e d =
    let s = from_flat ts d.tree d.inside in
    let tag_is = sym (spread_tag s.tree d.tree s.part) ∙ is_declaration d.tree e d.entity in
    let same = in_one s.tree d.tree (subst (λ (xs : List Tree). Contains xs d.tree) (declaration_spread s.tree tag_is) s.part) in
    record { tree = s.tree; inside = s.inside; entity = ap declaration same ∙ d.entity }

axioms_declare : (o : Ontology) (e : Entity) → DeclaresIn o.axioms e → DeclaresIn (normal_form o).axioms e
axioms_declare o e d =
    let s = form_declares (flat_map spread (canonical_list o.axioms)) e (spread_declares (canonical_list o.axioms) e (form_declares o.axioms e d)) in
    let left = not_about (iri_in o.head.name) s.tree (is_declaration s.tree e s.entity) in
    let there = in_filter (λ t. not (is_about (iri_in o.head.name) t)) (spread_axioms o) s.tree s.inside (not_false (is_about (iri_in o.head.name) s.tree) left) in
    let entity = tidied_declares s.tree ∙ s.entity in
    elim (stays (unsettled_axioms o) s.tree there) [
      | inl m ↦ record { tree = tidied s.tree; inside = m; entity = entity }
      | inr k ↦ record { tree = k.other; inside = k.inside; entity = sym (bare_declares k.other) ∙ ap declaration k.same ∙ entity }
    ]

declared_before : (o : Ontology) (e : Entity) → DeclaresIn (normal_form o).axioms e → DeclaresIn o.axioms e
declared_before o e d =
    let t = nothing_else (unsettled_axioms o) d.tree d.inside in
    let p = from_filter (λ u. not (is_about (iri_in o.head.name) u)) (spread_axioms o) t.tree t.inside in
    let s : DeclaresIn (spread_axioms o) e = record { tree = t.tree; inside = p.0; entity = sym (tidied_declares t.tree) ∙ ap declaration t.same ∙ d.entity } in
    declares_before o.axioms e (declares_unspread (canonical_list o.axioms) e (declares_before (flat_map spread (canonical_list o.axioms)) e s))

-- a normal form declares all that the ontology declares, and nothing else
pub declares_same : (o : Ontology) (kind : Kind) (iri : List ℕ) → Declares (normal_form o) kind iri ↔ Declares o kind iri
declares_same o kind iri =
    let e : Entity = record { kind = kind; iri = iri } in (
      λ m. let d = declared_before o e (declared_by (normal_form o).axioms e m) in declares_it o.axioms d.tree e d.inside d.entity,
      λ m. let d = axioms_declare o e (declared_by o.axioms e m) in declares_it (normal_form o).axioms d.tree e d.inside d.entity,
    )
