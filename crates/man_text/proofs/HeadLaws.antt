-- What heads the block of an axiom, and which trees are typed and how deep they are as they are written.
use Rattle.std.proofs.Common.{◌≡◌, ◌≤◌, ℕ, arith, true, Option, None, Some, IfSome, List, [], ◌∷◌, ◌++◌, refl, sym, ap, subst, inl, inr}
use Rattle.std.specs.Prelude.{Contains}
use Rattle.std.specs.List.{AllByRecursion, cons_option, flat_map}
use Rattle.std.specs.Option.{option_to_list}
use Rattle.std.proofs.lemmas.List.Elements.{Contains-append_cases, Contains-append_left}
use Rattle.man_raw.specs.declared.heading.Heading.{Heading}
use Rattle.man_raw.specs.declared.heading.Heading.TheVariants as heading
use Rattle.man_resolve.specs.declared.place.Place.{Place}
use Rattle.man_resolve.specs.declared.place.Place.TheVariants as place
use Rattle.man_resolve.specs.Expressions.{Knows}
use Rattle.man_resolve.specs.Items.{declaration_of}
use Rattle.man_resolve.specs.Places.{name_place}
use Rattle.owl_doc.specs.Entities.{entities, entities_of, entity_of, kind_of}
use Rattle.owl_doc.specs.Parts.{Leaf, leaves, leaves_of}
use Rattle.owl_kind.specs.declared.kind.Kind.{Kind}
use Rattle.owl_kind.specs.Kinds.{Entity}
use Rattle.owl_list.proofs.AscendingLaws.{in_cases, in_head, in_none}
use Rattle.owl_tree.specs.declared.atom.Atom.TheVariants as atom
use Rattle.owl_tree.specs.declared.tag.Tag.{Tag}
use Rattle.owl_tree.specs.declared.tag.Tag.TheVariants as tag
use Rattle.owl_tree.specs.Rows.{admits, row_of}
use Rattle.owl_tree.specs.Tags.{number_of}
use Rattle.owl_tree.specs.Trees.{Kids, Tree, depth, kid, kids_of, leaf, most_depth, no_kids, node}
use Rattle.written_trees.specs.Written.{doubled, written_form, written_forms}
use Rattle.man_text.specs.Blocks.{Block, block_with, declared_name, kind_tag, noted, subject_as}
use Rattle.man_text.proofs.AxiomLaws.{IsAbout, IsAxiomOver, bare_notes}
use Rattle.man_text.proofs.BlockLaws.{beside_block, beside_place, chain_block, entity_frame, entity_place, fact_block, key_block, kind_entity, list_block, property_list_block, typing_block, union_block, word_block, word_place}
use Rattle.man_text.proofs.ExpressionLaws.{IsIriAt, IsLabelAt, IsLeafAt, IsLiteralAt, IsNameAt}
use Rattle.man_text.proofs.TypedLaws.{AreTyped, all_both, typed_first, typed_rest}
use Rattle.man_text.proofs.WrittenAxiomLaws.{all_doubled}

-- ---- heads

-- what heads a block is nothing, or a leaf that stands where the name of its frame does
pub data HasHead : Option Tree → Type 0 where
  no_head : HasHead None
  a_head : (h : Heading) (p : Place) (s : Tree) → name_place h ≡ Some p → IsLeafAt p s → HasHead (Some s)

by_block : (b c : Block) → b ≡ c → HasHead c.subject → HasHead b.subject
by_block b c e h = subst (λ (d : Block). HasHead d.subject) (sym e) h

pub has_head : (looks : Knows) (t : Tag) (ts own : List Tree) → IsAxiomOver looks t ts own → HasHead (block_with looks t ts).subject
has_head looks _ _ _ (IsAxiomOver.declaration t h p iri is ok) = a_head h p _ (entity_place t h p is).1 (entity_frame t h p iri is ok)
has_head looks _ _ _ (IsAxiomOver.beside t h s p q notes subject body is above at stands) = by_block _ _ (beside_block looks t h s p q notes subject body is at) (a_head h p subject (beside_place t h s p q is) at)
has_head looks _ _ _ (IsAxiomOver.typing notes body subject above is at) = by_block _ _ (typing_block looks notes body subject) (a_head heading.Individual place.Individual subject refl at)
has_head looks _ _ _ (IsAxiomOver.chain notes a b ts subject above links at) = by_block _ _ (chain_block looks notes subject (a ∷ b ∷ ts)) (a_head heading.ObjectProperty place.ObjectName subject refl at)
has_head looks _ _ _ (IsAxiomOver.listed t h p notes a b ts is above members) = by_block _ _ (list_block looks t h p notes (a ∷ b ∷ ts) is) no_head
has_head looks _ _ _ (IsAxiomOver.union_of notes subject a b ts above at members) = by_block _ _ (union_block looks notes subject (a ∷ b ∷ ts)) (a_head heading.Class place.ClassName subject refl at)
has_head looks _ _ _ (IsAxiomOver.property_list s t h notes a b ts is above members) = by_block _ _ (property_list_block looks s t h notes (a ∷ b ∷ ts) is) no_head
has_head looks _ _ _ (IsAxiomOver.key notes subject os ds a ts above at first second some) = by_block _ _ (key_block looks notes subject os ds) (a_head heading.Class place.ClassName subject refl at)
has_head looks _ _ _ (IsAxiomOver.fact s t notes p subject value is above named at stands) = by_block _ _ (fact_block looks s t notes p subject value is) (a_head heading.Individual place.Individual subject refl at)
has_head looks _ _ _ (IsAxiomOver.word t h p notes subject is above at) = by_block _ _ (word_block looks t h p notes subject is) (a_head h p subject (word_place t h p is) at)
has_head looks _ _ _ (IsAxiomOver.assertion notes p _ v above property (IsAbout.about_label label ok) value) = a_head heading.Individual place.Individual _ refl (IsLeafAt.label_leaf place.Individual label IsLabelAt.individual_label ok)
has_head looks _ _ _ (IsAxiomOver.assertion notes p _ v above property (IsAbout.about_iri iri k ok found) value) =
    let entity = kind_entity k in
    let told = entity_place (kind_tag k) entity.0 entity.1 entity.2 in
    by_block _ _ (ap (λ (o : Option Kind). noted (subject_as o iri) notes p v) found) (a_head entity.0 entity.1 _ told.1 (entity_frame (kind_tag k) entity.0 entity.1 iri entity.2 ok))

-- no frame is of a value, an IRI of whatever kind, a literal or a number
no_value : (h : Heading) → name_place h ≡ Some place.Value → ⊥
no_value heading.Class e = absurd (cc)
no_value _ e = absurd (cc)

no_iri : (h : Heading) → name_place h ≡ Some place.Iri → ⊥
no_iri heading.Class e = absurd (cc)
no_iri _ e = absurd (cc)

no_literal : (h : Heading) → name_place h ≡ Some place.Literal → ⊥
no_literal heading.Class e = absurd (cc)
no_literal _ e = absurd (cc)

no_number : (h : Heading) → name_place h ≡ Some place.Number → ⊥
no_number heading.Class e = absurd (cc)
no_number _ e = absurd (cc)

-- a frame declares its name
name_declared : (h : Heading) (p : Place) (s : Tree) → name_place h ≡ Some p → IsLeafAt p s → declaration_of s ≡ declared_name s
unfolding admits number_of
name_declared h _ _ e (IsLeafAt.name_leaf _ _ _ iri IsNameAt.class is) = refl
name_declared h _ _ e (IsLeafAt.name_leaf _ _ _ iri IsNameAt.class_name is) = refl
name_declared h _ _ e (IsLeafAt.name_leaf _ _ _ iri IsNameAt.range is) = refl
name_declared h _ _ e (IsLeafAt.name_leaf _ _ _ iri IsNameAt.datatype is) = refl
name_declared h _ _ e (IsLeafAt.name_leaf _ _ _ iri IsNameAt.object is) = refl
name_declared h _ _ e (IsLeafAt.name_leaf _ _ _ iri IsNameAt.object_name is) = refl
name_declared h _ _ e (IsLeafAt.name_leaf _ _ _ iri IsNameAt.data_property is) = refl
name_declared h _ _ e (IsLeafAt.name_leaf _ _ _ iri IsNameAt.annotation_property is) = refl
name_declared h _ _ e (IsLeafAt.iri_leaf _ _ iri IsIriAt.named_individual is) = refl
name_declared h _ _ e (IsLeafAt.iri_leaf _ _ iri IsIriAt.value_iri is) = absurd (no_value h e)
name_declared h _ _ e (IsLeafAt.iri_leaf _ _ iri IsIriAt.plain_iri is) = absurd (no_iri h e)
name_declared h _ _ e (IsLeafAt.label_leaf _ label at is) = refl
name_declared h _ _ e (IsLeafAt.literal_leaf _ value IsLiteralAt.literal is) = absurd (no_literal h e)
name_declared h _ _ e (IsLeafAt.literal_leaf _ value IsLiteralAt.value_literal is) = absurd (no_value h e)
name_declared h _ _ e (IsLeafAt.number_leaf n few) = absurd (no_number h e)

abbrev pub heads_of : Option Tree → List Tree
heads_of o = flat_map declaration_of (option_to_list o)

pub heads_declared : (o : Option Tree) → HasHead o → heads_of o ≡ flat_map declared_name (option_to_list o)
heads_declared _ no_head = refl
heads_declared _ (a_head h p s e at) = ap (λ (ts : List Tree). ts ++ []) (name_declared h p s e at)

-- what heads a block is typed where its declaration is
module _ (ks : Knows) where
  leaf_typed : (h : Heading) (p : Place) (s : Tree) → name_place h ≡ Some p → IsLeafAt p s → ((u : Tree) → Contains (declaration_of s) u → AreTyped ks (entities u)) → AreTyped ks (entities s)
  unfolding number_of kind_of
  leaf_typed h _ _ e (IsLeafAt.name_leaf _ _ _ iri IsNameAt.class is) typed = typed_rest ks bare_notes (kids_of (leaf tag.Class (atom.Iri iri) ∷ [])) (typed _ (in_head _ []))
  leaf_typed h _ _ e (IsLeafAt.name_leaf _ _ _ iri IsNameAt.class_name is) typed = typed_rest ks bare_notes (kids_of (leaf tag.Class (atom.Iri iri) ∷ [])) (typed _ (in_head _ []))
  leaf_typed h _ _ e (IsLeafAt.name_leaf _ _ _ iri IsNameAt.range is) typed = typed_rest ks bare_notes (kids_of (leaf tag.Datatype (atom.Iri iri) ∷ [])) (typed _ (in_head _ []))
  leaf_typed h _ _ e (IsLeafAt.name_leaf _ _ _ iri IsNameAt.datatype is) typed = typed_rest ks bare_notes (kids_of (leaf tag.Datatype (atom.Iri iri) ∷ [])) (typed _ (in_head _ []))
  leaf_typed h _ _ e (IsLeafAt.name_leaf _ _ _ iri IsNameAt.object is) typed = typed_rest ks bare_notes (kids_of (leaf tag.ObjectProperty (atom.Iri iri) ∷ [])) (typed _ (in_head _ []))
  leaf_typed h _ _ e (IsLeafAt.name_leaf _ _ _ iri IsNameAt.object_name is) typed = typed_rest ks bare_notes (kids_of (leaf tag.ObjectProperty (atom.Iri iri) ∷ [])) (typed _ (in_head _ []))
  leaf_typed h _ _ e (IsLeafAt.name_leaf _ _ _ iri IsNameAt.data_property is) typed = typed_rest ks bare_notes (kids_of (leaf tag.DataProperty (atom.Iri iri) ∷ [])) (typed _ (in_head _ []))
  leaf_typed h _ _ e (IsLeafAt.name_leaf _ _ _ iri IsNameAt.annotation_property is) typed = typed_rest ks bare_notes (kids_of (leaf tag.AnnotationProperty (atom.Iri iri) ∷ [])) (typed _ (in_head _ []))
  leaf_typed h _ _ e (IsLeafAt.iri_leaf _ _ iri IsIriAt.named_individual is) typed = tt
  leaf_typed h _ _ e (IsLeafAt.iri_leaf _ _ iri IsIriAt.value_iri is) typed = tt
  leaf_typed h _ _ e (IsLeafAt.iri_leaf _ _ iri IsIriAt.plain_iri is) typed = tt
  leaf_typed h _ _ e (IsLeafAt.label_leaf _ label at is) typed = tt
  leaf_typed h _ _ e (IsLeafAt.literal_leaf _ value at is) typed = tt
  leaf_typed h _ _ e (IsLeafAt.number_leaf n few) typed = tt

  pub head_typed : (o : Option Tree) → HasHead o → ((u : Tree) → Contains (heads_of o) u → AreTyped ks (entities u)) → IfSome o (λ s. AreTyped ks (entities s))
  head_typed _ no_head typed = tt
  head_typed _ (a_head h p s e at) typed = leaf_typed h p s e at (λ u m. typed u (Contains-append_left (declaration_of s) [] u m))

  -- a leaf among the leaves of what is typed is typed
  mutual
    pub among_typed : (t : Tree) (l : Leaf) → AreTyped ks (entities t) → Contains (leaves t) l → AreTyped ks (cons_option (entity_of (kind_of l.tag) l.atom) [])
    among_typed (leaf t a) l typed m =
        elim (in_cases (record { tag = t; atom = a }) [] l m) [
          | inl e ↦ subst (λ (k : Leaf). AreTyped ks (cons_option (entity_of (kind_of k.tag) k.atom) [])) e typed
          | inr n ↦ absurd (in_none l n)
        ]
    among_typed (node t ts) l typed m = among_all ts l typed m

    among_all : (ts : Kids) (l : Leaf) → AreTyped ks (entities_of ts) → Contains (leaves_of ts) l → AreTyped ks (cons_option (entity_of (kind_of l.tag) l.atom) [])
    among_all no_kids l typed m = absurd (in_none l m)
    among_all (kid t ts) l typed m =
        elim (Contains-append_cases (leaves t) (leaves_of ts) l m) [
          | inl h ↦ among_typed t l (typed_first ks t ts typed) h
          | inr h ↦ among_all ts l (typed_rest ks t ts typed) h
        ]

  -- ---- as it is written

  abbrev EachTyped : List Tree → Type 0
  EachTyped ts = AllByRecursion (λ t. AreTyped ks (entities t)) ts

  kids_typed : (ts : List Tree) → EachTyped ts → AreTyped ks (entities_of (kids_of ts))
  kids_typed [] h = tt
  kids_typed (t ∷ ts) h = all_both (λ (e : Entity). ks e.kind e.iri ≡ true) (entities t) (entities_of (kids_of ts)) h.0 (kids_typed ts h.1)

  mutual
    pub typed_written : (t : Tree) → AreTyped ks (entities t) → AreTyped ks (entities (written_form t))
    typed_written (leaf t a) h = h
    typed_written (node t ts) h = kids_typed (doubled (row_of t) (written_forms ts)) (all_doubled (λ u. AreTyped ks (entities u)) (row_of t) (written_forms ts) (each_typed ts h))

    each_typed : (ts : Kids) → AreTyped ks (entities_of ts) → EachTyped (written_forms ts)
    each_typed no_kids h = tt
    each_typed (kid t ts) h = (typed_written t (typed_first ks t ts h), each_typed ts (typed_rest ks t ts h))

-- ---- depths

abbrev Within : ℕ → List Tree → Type 0
Within n ts = AllByRecursion (λ t. depth t ≤ n) ts

kids_within : (n : ℕ) (ts : List Tree) → Within n ts → most_depth (kids_of ts) ≤ n
kids_within n [] h = omega arith
kids_within n (t ∷ ts) h = let rest = kids_within n ts h.1 in let first = h.0 in omega arith

mutual
  pub depth_written : (t : Tree) → depth (written_form t) ≤ depth t
  depth_written (leaf t a) = omega arith
  depth_written (node t ks) =
      let kids = kids_within (most_depth ks) (doubled (row_of t) (written_forms ks)) (all_doubled (λ u. depth u ≤ most_depth ks) (row_of t) (written_forms ks) (each_within (most_depth ks) ks (omega arith))) in
      omega arith

  each_within : (n : ℕ) (ks : Kids) → most_depth ks ≤ n → Within n (written_forms ks)
  each_within n no_kids h = tt
  each_within n (kid t ks) h = (let own = depth_written t in omega arith, each_within n ks (omega arith))
