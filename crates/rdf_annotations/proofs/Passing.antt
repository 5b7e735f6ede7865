-- The sets of annotations of the nodes that were passed.
use Rattle.std.specs.Prelude.{◌≡◌, ◌<◌, ℕ, zero, suc, List, [], ◌∷◌, ◌++◌, Contains, Option, Some, length, slice_get, slice_set}
use Rattle.std.specs.Map.{keys_of}
use Rattle.std.proofs.Common.{arith, inl, inr, refl, sym, ap, ◌∙◌, subst}
use Rattle.std.proofs.lemmas.Bool.Decides.{eqb_tells}
use Rattle.std.proofs.lemmas.List.{length-map, length-set}
use Rattle.std.proofs.lemmas.List.Elements.{Contains-append_cases}
use Rattle.std.proofs.lemmas.List.Sorted.{Contains-permutation}
use Rattle.std.proofs.lemmas.Option.{same_Some, slice_get_within}
use Rattle.directed_graphs.proofs.CycleLaws.{in_range}
use Rattle.owl_kind.specs.Kinds.{Entity}
use Rattle.owl_list.proofs.AscendingLaws.{in_cases}
use Rattle.owl_tree.specs.Trees.{Tree}
use Rattle.rdf_graph.specs.declared.term.Term.TheVariants.{Blank}
use Rattle.rdf_graph.specs.declared.triple.Triple.{Triple}
use Rattle.rdf_meaning.specs.declared.role.Role.TheVariants as role
use Rattle.rdf_meaning.specs.Nodes.{role_of}
use Rattle.rdf_roles.specs.Tables.{IsTableOf, RoleTable, blank_nodes, with_role}
use Rattle.tree_stores.specs.Stores.{Keeps}
use Rattle.rdf_annotations.specs.Annotations.{AreSets, AreSetsSoFar, HasItsSet, IsSetOf}
use Rattle.rdf_annotations.proofs.Setting.{one_more_set_of, other_at}

stands_at : {N : Type 0} (of_nodes : List (Option N)) (number : ℕ) (n : N) → number < length of_nodes → slice_get (slice_set of_nodes number (Some n)) number ≡ Some (Some n)
stands_at [] number n h = absurd (omega (arith, h))
stands_at (o ∷ os) zero n h = refl
stands_at (o ∷ os) (suc number) n h = stands_at os number n (omega (arith, h))

module _ {N : Type 0} (Stands : Tree → N → Type 0) (g : List Triple) (k : List Entity) (roles : RoleTable) (passed : List ℕ) (of_nodes : List (Option N)) (empty : N) (h : AreSetsSoFar Stands g k roles passed of_nodes empty) where
  also : (number : ℕ) (of_all : List (Option N)) → ((other : ℕ) → HasItsSet g roles of_nodes other → HasItsSet g roles of_all other) → HasItsSet g roles of_all number → (other : ℕ) →
      Contains (passed ++ number ∷ []) other → HasItsSet g roles of_all other
  also number of_all keep its other m =
      elim (Contains-append_cases passed (number ∷ []) other m) [
        | inl n ↦ keep other (h.have other n)
        | inr n ↦ elim (in_cases number [] other n) [
          | inl e ↦ subst (HasItsSet g roles of_all) e its
          | inr none ↦ absurd (omega (arith, none.1))
        ]
      ]

  -- a node that is no reification is passed
  pub passed_by : (number : ℕ) (label : List ℕ) → slice_get (keys_of roles.nodes) number ≡ Some label → (role_of g (Blank label) ≡ role.Note → ⊥) →
      AreSetsSoFar Stands g k roles (passed ++ number ∷ []) of_nodes empty
  passed_by number label named no_note = record {
    some = h.some;
    places = h.places;
    have = also number of_nodes (λ other is. is) (λ l at note. absurd (no_note (subst (λ (y : List ℕ). role_of g (Blank y) ≡ role.Note) (same_Some l label (sym at ∙ named)) note)));
  }

  -- a reification is passed, and has its set
  pub passed_with : (New : Tree → N → Type 0) → Keeps Stands New → (number : ℕ) (label : List ℕ) (n : N) → number < length of_nodes → slice_get (keys_of roles.nodes) number ≡ Some label →
      IsSetOf New g k (Blank label) n → AreSetsSoFar New g k roles (passed ++ number ∷ []) (slice_set of_nodes number (Some n)) empty
  passed_with New kept number label n inside named is = record {
    some = one_more_set_of Stands New g k roles of_nodes empty number label n kept h.some named is;
    places = length-set of_nodes number (Some n) ∙ h.places;
    have =
        also number (slice_set of_nodes number (Some n))
        (λ other before l at note.
        elim (eqb_tells number other) [
          | inl e ↦ (n, ap (slice_get (slice_set of_nodes number (Some n))) (sym e.1) ∙ stands_at of_nodes number n inside)
          | inr d ↦ let old = before l at note in (old.0, other_at of_nodes number other n d.1 ∙ old.1)
        ])
        (λ l at note. (n, stands_at of_nodes number n inside));
  }

  -- all nodes were passed
  pub all_passed : IsTableOf g roles → passed ≡ roles.order → AreSets Stands g k roles of_nodes empty
  all_passed table all =
      let is = table.order in
      let as_many : length roles.nodes ≡ length is.edges = ap length table.nodes ∙ length-map (blank_nodes g) (with_role g) ∙ sym is.are.each in
      record {
        some = h.some;
        all = record {
          each = λ number label at note.
              let inside : number < length roles.nodes = subst (λ n. number < n) (length-map roles.nodes _) (slice_get_within (keys_of roles.nodes) number label at) in
              h.have number (subst (λ ns. Contains ns number) (sym all) (Contains-permutation _ roles.order number is.is_order.all (in_range (length is.edges) number (subst (λ n. number < n) as_many inside)))) label at note;
        };
      }
