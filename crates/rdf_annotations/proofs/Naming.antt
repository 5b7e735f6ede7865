-- The leaves that an annotation names, where it names what it may.
use Rattle.std.specs.Prelude.{◌≡◌, Bool, true, false, cond, IsSome, List, ℕ, None, Some, is_some}
use Rattle.std.proofs.Common.{refl, sym, ap, ◌∙◌, true≢false}
use Rattle.owl_kind.specs.declared.kind.Kind.TheVariants as kind
use Rattle.owl_kind.specs.Kinds.{Entity}
use Rattle.owl_tree.specs.declared.atom.Atom.TheVariants as atom
use Rattle.owl_tree.specs.declared.row.Sort.TheVariants as sort
use Rattle.owl_tree.specs.declared.tag.Tag.TheVariants as tag
use Rattle.owl_tree.specs.Trees.{Tree, leaf}
use Rattle.rdf_graph.specs.declared.term.Term.TheVariants.{Iri, Blank}
use Rattle.rdf_graph.specs.declared.triple.Triple.{Triple}
use Rattle.rdf_meaning.specs.declared.role.Role.TheVariants as role
use Rattle.rdf_meaning.specs.Denotation.{iri_leaf, or_else, simple}
use Rattle.rdf_meaning.specs.Kinds.{has_kind}
use Rattle.rdf_meaning.specs.Nodes.{is_role, role_of}

where_some : (b : Bool) (t : Tree) → is_some (cond b (Some t) None) ≡ true → cond b (Some t) None ≡ Some t
where_some true t e = refl
where_some false t e = absurd (true≢false (sym e))

where_alone : (b : Bool) (t : Tree) → is_some (or_else (cond b (Some t) None) None) ≡ true → or_else (cond b (Some t) None) None ≡ Some t
where_alone true t e = refl
where_alone false t e = absurd (true≢false (sym e))

module _ (g : List Triple) (k : List Entity) where
  pub property_is : (iri copy : List ℕ) → IsSome (simple g k sort.AnnotationProperty (Iri iri)) → copy ≡ iri →
      simple g k sort.AnnotationProperty (Iri iri) ≡ Some (leaf tag.AnnotationProperty (atom.Iri copy))
  unfolding simple
  property_is iri copy some same =
      where_some (has_kind k kind.AnnotationProperty iri) (iri_leaf tag.AnnotationProperty iri) some ∙ ap (λ i. Some (iri_leaf tag.AnnotationProperty i)) (sym same)

  pub anonymous_is : (label copy : List ℕ) → IsSome (simple g k sort.AnnotationValue (Blank label)) → copy ≡ label →
      simple g k sort.AnnotationValue (Blank label) ≡ Some (leaf tag.Anonymous (atom.Label copy))
  unfolding simple
  anonymous_is label copy some same =
      where_alone (is_role role.Individual (role_of g (Blank label))) (leaf tag.Anonymous (atom.Label label)) some
      ∙ ap (λ (l : List ℕ). Some (leaf tag.Anonymous (atom.Label l))) (sym same)
