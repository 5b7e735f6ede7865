-- Nodes that are wrong are among those that are looked at.
use Rattle.std.specs.Prelude.{◌≡◌, ℕ, true, ◌&&◌, List, [], ◌∷◌, Contains, length, map, nat_le}
use Rattle.std.proofs.Common.{inl, inr, refl, sym, ◌∙◌, subst}
use Rattle.owl_list.proofs.AscendingLaws.{all_in, in_head, in_map}
use Rattle.owl_list.proofs.FilterLaws.{from_filter}
use Rattle.rdf_graph.specs.declared.term.Term.{Term}
use Rattle.rdf_graph.specs.declared.term.Term.TheVariants.{Blank}
use Rattle.rdf_graph.specs.declared.triple.Triple.{Triple}
use Rattle.rdf_meaning.specs.declared.role.Role.{Role}
use Rattle.rdf_meaning.specs.declared.role.Role.TheVariants as role
use Rattle.rdf_meaning.proofs.NodeLaws.{marked_subject, nodes_are, subjects_are}
use Rattle.rdf_meaning.specs.Nodes.{is_blank, is_role, nodes_of, role_of, roles_of, subjects_of}
use Rattle.rdf_meaning.specs.Statements.{InSteps, one_step, one_more}
use Rattle.rdf_faults.specs.Faults.{IsBadCell, IsBadNode, IsCyclic, IsMixed}
use Rattle.rdf_faults.specs.Firsts.{HoldsForNone}
use Rattle.rdf_faults.specs.Formed.{IsFormedAs}
use Rattle.rdf_roles.proofs.NodeLaws.{blank_nodes_are}
use Rattle.rdf_roles.specs.Tables.{blank_nodes}

module _ (g : List Triple) where
  -- a node that has a role is among those that are scanned
  pub with_role : (label : List ℕ) → (role_of g (Blank label) ≡ role.Individual → ⊥) → Contains (blank_nodes g) label
  unfolding nodes_of
  with_role label some =
      let kept = from_filter (λ y. is_blank y && is_role (role_of g (Blank label)) (role_of g y)) (subjects_of g) (Blank label) ((nodes_are g (role_of g (Blank label)) (Blank label) some).1 refl) in
      (blank_nodes_are g label).1 kept.inside

  as_subject : (label : List ℕ) (t : Triple) → Contains g t → t.subject ≡ Blank label → Contains (blank_nodes g) label
  as_subject label t m e =
      (blank_nodes_are g label).1 ((subjects_are g (Blank label)).1 (subst (Contains (map (λ u. u.subject) g)) e (in_map (λ u. u.subject) g t m)))

  some_role : (label : List ℕ) (rs : List Role) → roles_of g (Blank label) ≡ rs → nat_le 2 (length rs) ≡ true → Contains (blank_nodes g) label
  some_role label [] e n = cc
  some_role label (r ∷ rs) e n = (blank_nodes_are g label).1 (marked_subject g (Blank label) r (subst (λ xs. Contains xs r) (sym e) (in_head r rs)))

  pub last_step : {step : Term → Term → Type 0} (y x : Term) → InSteps step y x → (z : Term) × step z x
  last_step _ _ (one_step y x s) = (y, s)
  last_step _ _ (one_more y z x s more) = last_step z x more

  pub mixed_among : (label : List ℕ) → IsMixed g label → Contains (blank_nodes g) label
  mixed_among label m = some_role label (roles_of g (Blank label)) refl m

  pub cyclic_among : (label : List ℕ) → IsCyclic g label → Contains (blank_nodes g) label
  cyclic_among label (inl c) =
      let last = last_step (Blank label) (Blank label) c in
      as_subject label last.1.triple last.1.inside last.1.subject
  cyclic_among label (inr c) =
      let last = last_step (Blank label) (Blank label) c in
      with_role label (λ e. let both = sym last.1.under ∙ e in cc)

  pub none_of : (P : List ℕ → Type 0) → HoldsForNone P (blank_nodes g) → ((label : List ℕ) → P label → Contains (blank_nodes g) label) → (label : List ℕ) → P label → ⊥
  none_of P all among label p = all_in (λ l. P l → ⊥) (blank_nodes g) label all (among label p) p

  pub cell_among : (label : List ℕ) → IsBadCell g label → Contains (blank_nodes g) label
  cell_among label bad = with_role label (λ e. let both = sym bad.cell ∙ e in cc)

  pub node_among : (label : List ℕ) → IsBadNode g label → Contains (blank_nodes g) label
  node_among label bad = with_role label (λ e. bad.not_formed (subst (λ r. IsFormedAs g r (Blank label)) (sym e) tt))
