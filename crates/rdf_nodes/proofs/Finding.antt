-- That nothing is found where there is nothing, and the walk over a list.
use Rattle.std.specs.Prelude.{◌≡◌, ℕ, IsNone, List, Option, None, Some}
use Rattle.std.proofs.Common.{inl, inr, sym, ap, ◌∙◌}
use Rattle.std.proofs.lemmas.Bool.{cases_Bool, cond-false}
use Rattle.owl_kind.specs.declared.kind.Kind.{Kind}
use Rattle.owl_kind.specs.Kinds.{Entity, HasKind}
use Rattle.owl_tree.specs.declared.row.Sort.{Sort}
use Rattle.owl_tree.specs.declared.tag.Tag.{Tag}
use Rattle.rdf_graph.specs.declared.term.Term.{Term}
use Rattle.rdf_graph.specs.declared.term.Term.TheVariants.{Blank, Iri}
use Rattle.rdf_graph.specs.declared.triple.Triple.{Triple}
use Rattle.rdf_meaning.specs.Denotation.{iri_leaf, named, sort_of}
use Rattle.rdf_meaning.proofs.KindLaws.{has_kind_is}
use Rattle.rdf_meaning.specs.Kinds.{has_kind}
use Rattle.rdf_meaning.specs.Nodes.{role_of}
use Rattle.rdf_roles.specs.Tables.{HasNumber, IsTableOf, RoleTable}
use Rattle.rdf_roles.proofs.NodeLaws.{has_number}

pub named_none : (k : List Entity) (kind : Kind) (t : Tag) (x : Term) (iri : List ℕ) → x ≡ Iri iri → (HasKind k kind iri → ⊥) → named k kind t x ≡ None
named_none k kind t x iri is hasnt =
    elim (cases_Bool (has_kind k kind iri)) [
      | inl has ↦ absurd (hasnt ((has_kind_is k kind iri).0 has))
      | inr none ↦ ap (named k kind t) is ∙ cond-false (has_kind k kind iri) (Some (iri_leaf t iri)) None none
    ]

no_sort : (s : Sort) → None ≡ Some s → ⊥
no_sort s e = cc

-- a node of which a tree is denoted has a number
pub numbered : (g : List Triple) (roles : RoleTable) → IsTableOf g roles → (x : Term) (label : List ℕ) → x ≡ Blank label → (found : Option ℕ) → HasNumber roles.nodes label found →
    IsNone found → (s : Sort) → sort_of (role_of g x) ≡ Some s → ⊥
numbered g roles table x label is None none n s gives =
    has_number g roles.nodes table.nodes label (λ i. no_sort s (sym (ap sort_of (ap (role_of g) is ∙ i)) ∙ gives)) none
numbered g roles table x label is (Some number) has n s gives = cc
