-- Declarations that are made in an arena.
use Rattle.std.proofs.Common.{◌≡◌, ◌<◌, ◌+◌, ℕ, true, List, [], ◌∷◌, ◌++◌, length, map, take, get_or, refl, sym, ap, ◌∙◌, subst}
use Rattle.std.proofs.lemmas.List.{append-nil, append_assoc, map-append}
use Rattle.owl_arena.specs.Held.{AreHeld, node_over, tree_at, trees_at}
use Rattle.owl_arena.specs.Shared.{AreShared}
use Rattle.owl_kind.specs.declared.kind.Kind.{Kind}
use Rattle.owl_kind.specs.declared.kind.Kind.TheVariants as kind
use Rattle.owl_tree.specs.Atoms.{IsAtom}
use Rattle.owl_tree.specs.Canonical.{canonical}
use Rattle.owl_tree.specs.declared.atom.Atom.TheVariants as atom
use Rattle.owl_tree.specs.declared.tag.Tag.{Tag}
use Rattle.owl_tree.specs.declared.tag.Tag.TheVariants as tag
use Rattle.owl_tree.specs.Rows.{row_of, takes}
use Rattle.owl_tree.specs.Shape.{IsShaped}
use Rattle.owl_tree.specs.Trees.{Tree, kids_of, leaf, no_kids, node}
use Rattle.rdf_normal.specs.Makings.{AreMade, IsMade}
use Rattle.rdf_normal.proofs.Extending.{are_made, are_made_at, canonical_at, made_after, made_at, made_more, one_further, tree_later}
use Rattle.owl_declarations.specs.Declarations.{declaration, name_tag}

-- ---- names

takes_iri : (k : Kind) → (iri : List ℕ) → takes (row_of (name_tag k)) (atom.Iri iri) ≡ true
unfolding name_tag row_of
takes_iri kind.Class iri = refl
takes_iri kind.Datatype iri = refl
takes_iri kind.ObjectProperty iri = refl
takes_iri kind.DataProperty iri = refl
takes_iri kind.AnnotationProperty iri = refl
takes_iri kind.Individual iri = refl

pub name_shaped : (t : Tag) (k : Kind) (iri : List ℕ) → t ≡ name_tag k → IsAtom (atom.Iri iri) → IsShaped (leaf t (atom.Iri iri))
name_shaped t k iri e h = subst (λ (u : Tag). IsShaped (leaf u (atom.Iri iri))) (sym e) (takes_iri k iri, h)

-- ---- declarations

-- the declaration of a name
abbrev declaring : Tree → Tree
declaring t = node tag.Declaration (kids_of (node tag.Notes no_kids ∷ t ∷ []))

no_notes : canonical (node tag.Notes no_kids) ≡ node tag.Notes no_kids
unfolding row_of
no_notes = refl

declaring_form : (t : Tree) → canonical (declaring t) ≡ declaring (canonical t)
unfolding row_of
declaring_form t = refl

module _ (ts us vs ws : List Tree) (kind : Kind) (iri : List ℕ) (name notes new : ℕ) (empty kids : List ℕ) where
  -- over the name, and over no annotations
  pub declaration_made : IsMade ts us name (leaf (name_tag kind) (atom.Iri iri)) → AreShared us → empty ≡ [] →
      IsMade us vs notes (canonical (node_over us tag.Notes empty)) → kids ≡ notes ∷ name ∷ [] →
      IsMade vs ws new (canonical (node_over vs tag.Declaration kids)) → IsMade ts ws new (declaration kind iri)
  declaration_made named shared none h e k =
      let first : tree_at vs notes ≡ node tag.Notes no_kids = h.tree ∙ ap (λ (ns : List ℕ). canonical (node_over us tag.Notes ns)) none ∙ no_notes in
      let second : tree_at vs name ≡ tree_at us name = tree_later us vs name h.extends named.held in
      let over : node_over vs tag.Declaration kids ≡ declaring (tree_at us name) =
      ap (node_over vs tag.Declaration) e ∙ ap (λ (t : Tree). node tag.Declaration (kids_of (t ∷ tree_at vs name ∷ []))) first ∙ ap declaring second in
      let form : canonical (node_over vs tag.Declaration kids) ≡ declaration kind iri =
      ap canonical over ∙ declaring_form (tree_at us name) ∙ ap declaring (canonical_at us name shared named.held) ∙ ap declaring named.tree in
      made_after ts us ws new _ named.extends (made_after us vs ws new _ h.extends (made_at vs ws new _ _ form k))

-- ---- all of them

-- none yet
pub none_declared : (ts : List Tree) (ids axioms : List ℕ) (kind : Kind) (iris : List (List ℕ)) → AreHeld ts axioms → ids ≡ axioms →
    AreMade ts ts ids (trees_at ts axioms ++ map (declaration kind) (take 0 iris))
none_declared ts ids axioms kind iris held e =
    subst (λ (ns : List ℕ). AreMade ts ts ns (trees_at ts axioms ++ [])) (sym e) (are_made_at ts ts axioms _ _ (sym (append-nil (trees_at ts axioms))) (are_made ts axioms held))

-- one more
pub one_declared : (ts us vs : List Tree) (ids axioms after : List ℕ) (kind : Kind) (iris : List (List ℕ)) (i new : ℕ) (iri copy : List ℕ) →
    AreMade ts us ids (trees_at ts axioms ++ map (declaration kind) (take i iris)) → i < length iris → iri ≡ get_or iris i iri → copy ≡ iri →
    IsMade us vs new (declaration kind copy) → after ≡ ids ++ new ∷ [] → AreMade ts vs after (trees_at ts axioms ++ map (declaration kind) (take (i + 1) iris))
one_declared ts us vs ids axioms after kind iris i new iri copy h l e same k more =
    let further : map (declaration kind) (take (i + 1) iris) ≡ map (declaration kind) (take i iris) ++ declaration kind iri ∷ [] =
    ap (map (declaration kind)) (one_further iris i iri l e) ∙ map-append (declaration kind) (take i iris) (iri ∷ []) in
    subst (λ (ns : List ℕ). AreMade ts vs ns (trees_at ts axioms ++ map (declaration kind) (take (i + 1) iris))) (sym more)
    (are_made_at ts vs (ids ++ new ∷ []) _ _
    (append_assoc (trees_at ts axioms) (map (declaration kind) (take i iris)) (declaration kind iri ∷ []) ∙ ap (λ (xs : List Tree). trees_at ts axioms ++ xs) (sym further))
    (made_more ts us vs ids _ new _ h (made_at us vs new _ _ (ap (declaration kind) same) k)))
