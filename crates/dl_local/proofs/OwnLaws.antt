-- The faults of a leaf itself, and of a node itself.
use Rattle.std.proofs.Common.{◌≡◌, ◌<◌, ◌≤◌, ◌-◌, ℕ, Bool, true, false, ◌&&◌, List, [], ◌∷◌, drop, get_or, length, map, take, None, refl, sym, ap, ◌∙◌, subst, arith}
use Rattle.std.specs.Prelude.{◌↔◌, if◌then◌else◌, slice_index_or}
use Rattle.std.specs.List.{list_any}
use Rattle.std.specs.Option.{option_or}
use Rattle.std.proofs.lemmas.Bool.{false≢true}
use Rattle.std.proofs.lemmas.List.{take_all}
use Rattle.std.proofs.lemmas.Option.{none-some}
use Rattle.owl_arena.specs.Held.{AreHeld, tree_at, trees_at}
use Rattle.owl_breaches.specs.Sites.{Ontologies, axiom_closure}
use Rattle.owl_breaches.specs.Those.{HoldsOfOne, HoldsOfSome}
use Rattle.owl_doc.specs.Entities.{declared_kind}
use Rattle.owl_kind.specs.Kinds.{Entity}
use Rattle.owl_list.proofs.AscendingLaws.{all_later}
use Rattle.owl_tree.specs.declared.atom.Atom.{Atom}
use Rattle.owl_tree.specs.declared.tag.Tag.{Tag}
use Rattle.owl_tree.specs.declared.tag.Tag.TheVariants as tag
use Rattle.owl_tree.specs.Rows.{is_tag}
use Rattle.owl_tree.specs.Trees.{Tree, leaf, node, atom_in, kids_in, tag_of}
use Rattle.dl_rules.specs.Definitions.{IsMisusedDatatype, datatype_over}
use Rattle.dl_rules.specs.Local.{AsksSimple, HasAnonymousKid, HasMisusedDatatype, HasWrongForm, IsMisnamed, IsTopData, IsUndeclared, guarded_kind, is_off, restricts_wrongly}
use Rattle.dl_rules.specs.Logical.{iri_in}
use Rattle.dl_rules.specs.Properties.{IsSimple, Property, asks_simple, properties_in, property_in}
use Rattle.dl_local.specs.declared.faults.Local.TheVariants.{Undeclared, Misnamed, Datatype, Form, Range, TopData, NotSimple, Anonymous}
use Rattle.dl_local.specs.Faults.{AreCompositeMarks, AreOwnFaults}
use Rattle.dl_local.proofs.ByNumbers.{any_map}
use Rattle.owl_breaches.proofs.OneLaws.{never, one_of_filtered, one_of_none, through, told_any, told_as}

-- kinds that have to be declared, and those whose IRIs may not be reserved
pub guarded_other : (t : Tag) → (t ≡ tag.Datatype → ⊥) → guarded_kind t ≡ declared_kind t
unfolding guarded_kind
guarded_other tag.Datatype h = absurd (h refl)
guarded_other _ h = refl

no_range : (t : Tag) → restricts_wrongly t [] ≡ false
unfolding restricts_wrongly
no_range tag.DatatypeRestriction = refl
no_range _ = refl

no_datatype : (t : Tag) → datatype_over t None ≡ None
unfolding datatype_over
no_datatype tag.Datatype = refl
no_datatype _ = refl

none_asked : (Holds : Property → Type 0) (b : Bool) → HoldsOfOne Holds (if b then [] else []) → ⊥
none_asked Holds true h = one_of_none Holds h
none_asked Holds false h = one_of_none Holds h

none_named : (b : Bool) → (b && false) ≡ true → ⊥
none_named true e = false≢true e
none_named false e = false≢true e

module _ (c : Ontologies) where
  pub leaf_own : (kinds : List Entity) (t : Tag) (a : Atom) (undeclared misnamed misused form top : Bool) → c.kinds ≡ kinds → (undeclared ≡ true) ↔ IsUndeclared kinds (leaf t a) → (misnamed ≡ true) ↔ IsMisnamed (leaf t a) →
      (misused ≡ true) ↔ HasMisusedDatatype (axiom_closure c) (leaf t a) → (form ≡ true) ↔ HasWrongForm (leaf t a) → (top ≡ true) ↔ IsTopData (leaf t a) →
      AreOwnFaults c (leaf t a) (record { undeclared = undeclared; misnamed = misnamed; datatype = misused; form = form; range = false; top_data = top; not_simple = false; anonymous = false })
  leaf_own kinds t a u m d f p kinds_are undeclared misnamed misused form top Undeclared = subst (λ (ks : List Entity). (u ≡ true) ↔ IsUndeclared ks (leaf t a)) (sym kinds_are) undeclared
  leaf_own kinds t a u m d f p kinds_are undeclared misnamed misused form top Misnamed = misnamed
  leaf_own kinds t a u m d f p kinds_are undeclared misnamed misused form top Datatype = misused
  leaf_own kinds t a u m d f p kinds_are undeclared misnamed misused form top Form = form
  leaf_own kinds t a u m d f p kinds_are undeclared misnamed misused form top Range = never (λ h. false≢true (sym (no_range t) ∙ h))
  leaf_own kinds t a u m d f p kinds_are undeclared misnamed misused form top TopData = top
  leaf_own kinds t a u m d f p kinds_are undeclared misnamed misused form top NotSimple = never (none_asked (λ p. IsSimple (axiom_closure c) p → ⊥) (asks_simple t))
  leaf_own kinds t a u m d f p kinds_are undeclared misnamed misused form top Anonymous = never (none_named _)

  pub node_own : (t : Tree) (range simple anonymous : Bool) → None ≡ atom_in t → range ≡ restricts_wrongly (tag_of t) (kids_in t) → (simple ≡ true) ↔ AsksSimple (axiom_closure c) t → (anonymous ≡ true) ↔ HasAnonymousKid t →
      AreOwnFaults c t (record { undeclared = false; misnamed = false; datatype = false; form = false; range = range; top_data = false; not_simple = simple; anonymous = anonymous })
  node_own (leaf t a) r s n is range simple anonymous test = absurd (none-some a is)
  node_own (node t ks) r s n is range simple anonymous Undeclared = never (λ h. h)
  node_own (node t ks) r s n is range simple anonymous Misnamed = never (λ h. h)
  node_own (node t ks) r s n is range simple anonymous Datatype = never (λ h. subst (λ o. HoldsOfSome (IsMisusedDatatype (axiom_closure c)) (option_or o None)) (no_datatype t) h)
  node_own (node t ks) r s n is range simple anonymous Form = never (λ h. h)
  node_own (node t ks) r s n is range simple anonymous Range = told_as range (λ e. e, λ e. e)
  node_own (node t ks) r s n is range simple anonymous TopData = never (λ h. h)
  node_own (node t ks) r s n is range simple anonymous NotSimple = simple
  node_own (node t ks) r s n is range simple anonymous Anonymous = anonymous

  -- marks of those that are not simple tell of the properties that are asked for
  pub asks_told : (ts : List Tree) (marks : List Bool) (id : ℕ) (ids : List ℕ) (answer : Bool) → AreCompositeMarks c ts marks → AreHeld ts ids → trees_at ts ids ≡ kids_in (tree_at ts id) →
      asks_simple (tag_of (tree_at ts id)) ≡ true → answer ≡ list_any (λ kid. slice_index_or marks kid false) ids → (answer ≡ true) ↔ AsksSimple (axiom_closure c) (tree_at ts id)
  asks_told ts marks id ids answer each held kids asks e =
      let Not : Property → Type 0 = λ p. IsSimple (axiom_closure c) p → ⊥ in
      let any = through (told_any (λ t. HoldsOfSome Not (property_in t)) (λ kid. slice_index_or marks kid false) (tree_at ts) ids
      (all_later (λ k. k < length ts) (λ k. (slice_index_or marks k false ≡ true) ↔ HoldsOfSome Not (property_in (tree_at ts k))) each.told ids held))
      (one_of_filtered Not property_in (trees_at ts ids)) in
      subst (λ (b : Bool). (answer ≡ true) ↔ HoldsOfOne Not (if b then properties_in (kids_in (tree_at ts id)) else [])) (sym asks)
      (subst (λ (us : List Tree). (answer ≡ true) ↔ HoldsOfOne Not (properties_in us)) kids
      (told_as e any))

pub named_told : (ts us : List Tree) (ids : List ℕ) (asks answer : Bool) → trees_at ts ids ≡ us → asks ≡ true → answer ≡ list_any (λ id. is_tag tag.Anonymous (tag_of (tree_at ts id))) ids →
    answer ≡ (asks && list_any (λ t. is_tag tag.Anonymous (tag_of t)) us)
named_told ts us ids asks answer kids is e =
    e ∙ sym (any_map (λ t. is_tag tag.Anonymous (tag_of t)) (tree_at ts) ids)
    ∙ ap (list_any (λ t. is_tag tag.Anonymous (tag_of t))) kids ∙ ap (λ (b : Bool). b && list_any (λ t. is_tag tag.Anonymous (tag_of t)) us) (sym is)

-- restrictions by their kids
pub other_restriction : (t : Tag) (ts : List Tree) → (t ≡ tag.DatatypeRestriction → ⊥) → (t ≡ tag.DataSomeValuesFrom → ⊥) → (t ≡ tag.DataAllValuesFrom → ⊥) → false ≡ restricts_wrongly t ts
unfolding restricts_wrongly
other_restriction tag.DatatypeRestriction ts a b d = absurd (a refl)
other_restriction tag.DataSomeValuesFrom ts a b d = absurd (b refl)
other_restriction tag.DataAllValuesFrom ts a b d = absurd (d refl)
other_restriction _ ts a b d = refl

pub no_facets : (f : ℕ → Tree) (ids : List ℕ) → length ids ≡ 0 → false ≡ restricts_wrongly tag.DatatypeRestriction (map f ids)
unfolding restricts_wrongly
no_facets f [] h = refl
no_facets f (id ∷ ids) h = absurd (omega arith)

pub facets_behind : (f : ℕ → Tree) (ids : List ℕ) (id : ℕ) → 1 ≤ length ids → id ≡ get_or ids 0 id → is_off (iri_in (f id)) (map f (take (length ids - 1) (drop 1 ids))) ≡ restricts_wrongly tag.DatatypeRestriction (map f ids)
unfolding restricts_wrongly
facets_behind f [] id h e = absurd (omega arith)
facets_behind f (k ∷ ks) id h e =
    let all : take (length (k ∷ ks) - 1) ks ≡ ks = take_all (length (k ∷ ks) - 1) ks (omega arith) in
    ap (λ (n : ℕ). is_off (iri_in (f n)) (map f (take (length (k ∷ ks) - 1) ks))) e ∙ ap (λ (xs : List ℕ). is_off (iri_in (f k)) (map f xs)) all
