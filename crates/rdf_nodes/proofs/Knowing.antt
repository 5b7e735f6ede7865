-- The tree of each expression is held, where each expression has a number.
use Rattle.std.specs.Prelude.{◌≡◌, ◌+◌, ◌<◌, ℕ, false, List, Contains, Option, None, Some, is_some, length, slice_get}
use Rattle.std.proofs.Common.{inl, inr, arith, refl, ap, sym, subst, ◌∙◌, true≢false}
use Rattle.std.proofs.lemmas.List.{length-map}
use Rattle.std.proofs.lemmas.Option.{none-some, same_Some, slice_get_within}
use Rattle.owl_kind.specs.Kinds.{Entity}
use Rattle.owl_tree.specs.declared.row.Sort.{Sort}
use Rattle.owl_tree.specs.Trees.{Tree}
use Rattle.rdf_graph.specs.declared.term.Term.TheVariants.{Blank}
use Rattle.rdf_graph.specs.declared.triple.Triple.{Triple}
use Rattle.rdf_meaning.specs.declared.role.Role.{Role}
use Rattle.rdf_meaning.specs.Kinds.{HaveNoClash}
use Rattle.rdf_meaning.specs.Nodes.{role_of}
use Rattle.rdf_roles.proofs.NodeLaws.{keys_are, no_role_of_others}
use Rattle.rdf_roles.specs.Tables.{IsTableOf, RoleTable, blank_nodes}
use Rattle.tree_stores.proofs.StoreLaws.{shallow_tree}
use Rattle.tree_stores.specs.Stores.{HasDepth, IsHeld}
use Rattle.rdf_nodes.proofs.ExpressionLaws.{own_same}
use Rattle.rdf_nodes.specs.Numbers.{AreAllHeld, AreKnown, AreNumbered, AreShallow, IsKnown, IsNumbered}
use Rattle.rdf_nodes.specs.Operands.{labels}
use Rattle.rdf_meaning.specs.Denotation.{sort_of, DenotesOwn}
use Rattle.rdf_nodes.proofs.Labelling.{below_next, look_up}

some_not : {A : Type 0} (o : Option A) (a : A) → o ≡ Some a → is_some o ≡ false → ⊥
some_not o a e none = true≢false (sym (ap is_some e) ∙ none)

module _ (g : List Triple) (roles : RoleTable) {N : Type 0} where
  -- a node that is no expression needs no number
  pub known_other : (ns : List (Option N)) (number : ℕ) (label : List ℕ) (r : Role) → slice_get (labels roles) number ≡ Some label → r ≡ role_of g (Blank label) → is_some (sort_of r) ≡ false →
      IsKnown g roles ns number
  known_other ns number label r at of none other s there gives =
      let same = same_Some label other (sym at ∙ there) in
      absurd (some_not (sort_of r) s (ap sort_of of ∙ ap (λ l. sort_of (role_of g (Blank l))) same ∙ gives) none)

  pub known_number : (ns : List (Option N)) (number : ℕ) (n : N) → slice_get ns number ≡ Some (Some n) → IsKnown g roles ns number
  known_number ns number n at label s there gives = record { number = n; at = at }

  -- the nodes below the number are known
  abbrev pub AreKnownBelow : List (Option N) → ℕ → Type 0
  AreKnownBelow ns number = (at : ℕ) → at < number → IsKnown g roles ns at

  pub none_below : (ns : List (Option N)) → AreKnownBelow ns 0
  none_below ns at h = absurd (omega (arith, h))

  pub one_more_known : (ns : List (Option N)) (number : ℕ) → AreKnownBelow ns number → IsKnown g roles ns number → AreKnownBelow ns (number + 1)
  one_more_known ns number before is at h =
      elim (below_next number at h) [
        | inl less ↦ before at less
        | inr same ↦ subst (IsKnown g roles ns) (sym same) is
      ]

  pub all_known : (ns : List (Option N)) (number : ℕ) → number ≡ length roles.nodes → AreKnownBelow ns number → AreKnown g roles ns
  all_known ns number e known = subst (AreKnownBelow ns) e known

no_sort_of : (g : List Triple) (label : List ℕ) (s : Sort) (r : Role) → role_of g (Blank label) ≡ r → sort_of r ≡ None → sort_of (role_of g (Blank label)) ≡ Some s → ⊥
no_sort_of g label s r is none gives = none-some s (sym none ∙ ap sort_of (sym is) ∙ gives)

module _ (g : List Triple) (k : List Entity) where
  numbered_held : (roles : RoleTable) {N : Type 0} (Stands : Tree → N → Type 0) (node : ℕ) (n : N) (label : List ℕ) (t : Tree) → HaveNoClash k → IsNumbered g k roles Stands node n →
      slice_get (labels roles) node ≡ Some label → DenotesOwn g k (Blank label) t → IsHeld Stands t
  numbered_held roles Stands node n label t clean i at own =
      let same = same_Some i.denoted.label label (sym i.denoted.at ∙ at) in
      let its = subst (λ l. DenotesOwn g k (Blank l) i.tree) same (record { sort = i.denoted.sort; gives = i.denoted.gives; denotes = i.denoted.denotes }) in
      record { number = n; stands = subst (λ u. Stands u n) (own_same g k clean (Blank label) i.tree t its own) i.held }

  pub all_held : (roles : RoleTable) {N : Type 0} (Stands : Tree → N → Type 0) (ns : List (Option N)) → IsTableOf g roles → AreNumbered g k roles Stands ns → AreKnown g roles ns → HaveNoClash k →
      AreAllHeld g k Stands
  all_held roles Stands ns is are known clean label t own =
      let all : labels roles ≡ blank_nodes g = keys_are g roles.nodes is.nodes in
      elim (look_up (labels roles) label) [
        | inl s ↦
            let within = slice_get_within (labels roles) s.place label s.at in
            let one = known s.place (subst (λ n. s.place < n) (length-map roles.nodes (λ e. e.0)) within) label own.sort s.at own.gives in
            numbered_held roles Stands s.place one.number label t clean (are s.place one.number one.at) s.at own
        | inr other ↦ absurd (no_sort_of g label own.sort _ (no_role_of_others g label (λ m. other (subst (λ ls. Contains ls label) (sym all) m))) refl own.gives)
      ]

  -- a tree that has a depth is not too deep
  pub all_shallow : AreAllHeld g k HasDepth → AreShallow g k
  all_shallow held f =
      let one = held f.0 f.1.0 f.1.1 in
      let few = shallow_tree f.1.0 one.number one.stands in
      let deep = f.1.2 in
      omega (arith, few, deep)
