-- What nodes without faults are: the facts that the faults deny, and that each expression means something.
use Rattle.std.specs.Prelude.{◌≡◌, ℕ, true, List, Contains, is_some}
use Rattle.std.proofs.Common.{inl, inr, subst}
use Rattle.std.proofs.lemmas.Bool.{or_right}
use Rattle.owl_kind.specs.Kinds.{Entity}
use Rattle.owl_tree.specs.declared.row.Sort.{Sort}
use Rattle.rdf_graph.specs.declared.term.Term.{Term}
use Rattle.rdf_graph.specs.declared.term.Term.TheVariants.{Iri, Blank, Literal}
use Rattle.rdf_graph.specs.declared.triple.Triple.{Triple}
use Rattle.rdf_meaning.specs.declared.role.Role.TheVariants as role
use Rattle.rdf_meaning.specs.Denotation.{simple}
use Rattle.rdf_meaning.specs.Kinds.{HaveNoClash}
use Rattle.rdf_meaning.specs.Nodes.{is_structural, role_of}
use Rattle.rdf_meaning.specs.Statements.{IsCell}
use Rattle.rdf_faults.specs.Asked.{IsTyped, role_gives}
use Rattle.rdf_faults.proofs.DecidedFormLaws.{decided_formed}
use Rattle.rdf_faults.specs.DecidedLaws.{decided_role, stable}
use Rattle.rdf_faults.proofs.DecidedTypeLaws.{decided_typed}
use Rattle.rdf_faults.specs.Faults.{IsBadCell, IsBadNode, IsCyclic, IsUntypedPart}
use Rattle.rdf_faults.specs.Formed.{IsFormedAs}
use Rattle.rdf_faults.specs.Meant.{AnyTree, IsMeant, a_tree}
use Rattle.rdf_faults.proofs.MeantLaws.{all_are_trees}
use Rattle.rdf_faults.proofs.ReadLaws.{read}

module _ (g : List Triple) (bad_cell : (label : List ℕ) → IsBadCell g label → ⊥) (bad_node : (label : List ℕ) → IsBadNode g label → ⊥) where
  pub labels_formed : (label : List ℕ) → IsFormedAs g (role_of g (Blank label)) (Blank label)
  labels_formed label =
      stable (decided_formed g (role_of g (Blank label)) (Blank label)) (λ n.
      elim (decided_role (role_of g (Blank label)) role.List) [
        | inl l ↦ bad_cell label (record { cell = l; not_formed = n })
        | inr o ↦ bad_node label (record { no_cell = o; not_formed = n })
      ])

  pub all_formed : (x : Term) → IsFormedAs g (role_of g x) x
  all_formed (Iri iri) = tt
  all_formed (Blank label) = labels_formed label
  all_formed (Literal literal) = tt

  pub all_cells : (x : Term) → role_of g x ≡ role.List → IsCell g x
  all_cells x e = subst (λ r. IsFormedAs g r x) e (all_formed x)

  module _ (k : List Entity) (cyclic : (label : List ℕ) → IsCyclic g label → ⊥) (untyped : (t : Triple) → IsUntypedPart g k t → ⊥) where
    pub all_typed : (t : Triple) → Contains g t → is_structural g t ≡ true → IsTyped g k t
    all_typed t m s =
        stable (decided_typed g k cyclic all_cells (role_of g t.subject) t) (λ n.
        untyped t (record { inside = m; structural = s; untyped = n }))

    pub expression_meant : HaveNoClash k → (x : Term) (s : Sort) → role_gives (role_of g x) s ≡ true → IsMeant g k AnyTree x
    expression_meant no_clash x s gives =
        let r = read g k no_clash cyclic all_formed all_typed x in
        let t = r.tree s (or_right (is_some (simple g k s x)) (role_gives (role_of g x) s) gives) in
        a_tree x s t.0 t.1 (all_are_trees t.0)
