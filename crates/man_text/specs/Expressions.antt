-- Which class expressions and data ranges are told by their words (Manchester Syntax, sections 2.3 and 2.4).
use Rattle.std.specs.Prelude.{◌≡◌, ℕ, List, true}
use Rattle.std.specs.List.{AllByRecursion}
use Rattle.man_resolve.specs.Expressions.{Knows}
use Rattle.man_sayable.specs.Sayable.{IsClear}
use Rattle.owl_doc.specs.Entities.{entities}
use Rattle.owl_kind.specs.declared.kind.Kind.TheVariants as kind
use Rattle.owl_kind.specs.Kinds.{Entity}
use Rattle.owl_tree.specs.Canonical.{canonical}
use Rattle.owl_tree.specs.declared.row.Sort.{Sort}
use Rattle.owl_tree.specs.Rows.{admits}
use Rattle.owl_tree.specs.Shape.{IsShaped}
use Rattle.owl_tree.specs.Trees.{Tree, tag_of}

-- no IRI is an object property and a data property
abbrev pub TellsPropertiesApart : Knows → Type 0
TellsPropertiesApart ks = (iri : List ℕ) → ks kind.ObjectProperty iri ≡ true → ks kind.DataProperty iri ≡ true → ⊥

-- An expression of the sort in canonical form, inside of which all can be said, and each name has the kind that it is taken for.
pub record IsExpression (ks : Knows) (s : Sort) (t : Tree) : Type 0 where
  pub admitted : admits s (tag_of t) ≡ true
  pub shaped : IsShaped t
  pub canonical : canonical t ≡ t
  pub clear : IsClear t
  pub typed : AllByRecursion (λ (e : Entity). ks e.kind e.iri ≡ true) (entities t)
