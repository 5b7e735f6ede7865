-- The table of labels with numbers, as it is filled node by node.
use Rattle.std.specs.Prelude.{◌≡◌, ◌⊎◌, ◌+◌, ◌<◌, ℕ, suc, false, cond, List, [], ◌∷◌, Contains, IfSome, IsNone, Option, None, Some, is_some, length, nat_lt, slice_get}
use Rattle.std.proofs.Common.{inl, inr, arith, refl, ap, sym, subst, ◌∙◌, true≢false}
use Rattle.std.proofs.lemmas.Bool.{cases_Bool, cond-false, cond-true, ltb-false, ltb-true}
use Rattle.std.proofs.lemmas.List.{length-map}
use Rattle.std.proofs.lemmas.Option.{none-some, same_Some, slice_get_within}
use Rattle.std.proofs.lemmas.Slice.Eq.{bytes_eq-Decides}
use Rattle.owl_characters.specs.Order.{text_eq}
use Rattle.owl_kind.specs.Kinds.{Entity}
use Rattle.owl_list.proofs.AscendingLaws.{in_cases, in_none}
use Rattle.owl_tree.specs.Trees.{Tree}
use Rattle.rdf_graph.specs.declared.term.Term.TheVariants.{Blank}
use Rattle.rdf_graph.specs.declared.triple.Triple.{Triple}
use Rattle.rdf_meaning.specs.declared.role.Role.{Role}
use Rattle.rdf_meaning.specs.Nodes.{role_of}
use Rattle.rdf_roles.proofs.NodeLaws.{keys_are, no_role_of_others}
use Rattle.rdf_roles.specs.Tables.{IsTableOf, RoleTable, blank_nodes}
use Rattle.tree_stores.specs.Stores.{HasNumber}
use Rattle.rdf_nodes.specs.Nodes.{HoldNumbers, HoldNumbersUpTo, NumberTable, entry_of}
use Rattle.rdf_nodes.specs.Numbers.{AreNumbered, IsDenotedAs, IsNumbered}
use Rattle.rdf_nodes.specs.Operands.{labels}
use Rattle.rdf_meaning.specs.Denotation.{sort_of}

-- the label stands somewhere
pub record Stands (all : List (List ℕ)) (label : List ℕ) : Type 0 where
  pub place : ℕ
  pub at : slice_get all place ≡ Some label

pub look_up : (all : List (List ℕ)) (label : List ℕ) → Stands all label ⊎ (Contains all label → ⊥)
look_up [] label = inr (λ m. in_none label m)
look_up (other ∷ all) label =
    elim (cases_Bool (text_eq label other)) [
      | inl e ↦ inl (record { place = 0; at = ap Some (sym ((bytes_eq-Decides label other).0 e)) })
      | inr e ↦
          elim (look_up all label) [
            | inl s ↦ inl (record { place = suc s.place; at = s.at })
            | inr none ↦
                inr (λ m. elim (in_cases other all label m) [
                  | inl same ↦ absurd (true≢false (sym ((bytes_eq-Decides label other).1 (sym same)) ∙ e))
                  | inr k ↦ none k
                ])
          ]
    ]

pub below_next : (n m : ℕ) → m < n + 1 → (m < n) ⊎ (m ≡ n)
below_next n m h = elim (cases_Bool (nat_lt m n)) [ inl e ↦ inl (ltb-true m n e) | inr e ↦ inr (let least = ltb-false m n e in omega (arith, least, h)) ]

some_is : {A : Type 0} (o : Option A) (a : A) → o ≡ Some a → IsNone o → ⊥
some_is o a e none = true≢false (sym (ap is_some e) ∙ none)

none_given : {A : Type 0} (o : Option A) → o ≡ None → IsNone o
none_given o e = ap is_some e

pub none_is : {A : Type 0} (o : Option A) → is_some o ≡ false → o ≡ None
none_is None e = refl
none_is (Some a) e = absurd (true≢false e)

module _ (g : List Triple) (k : List Entity) (roles : RoleTable) (trees : List Tree) where
  pub nothing_held : HoldNumbersUpTo g k roles trees 0 []
  nothing_held = record { each = λ label. tt; none = λ node label h at e. absurd (omega (arith, h)) }

  none_more : (number : ℕ) (entries : NumberTable) (label : List ℕ) → slice_get (labels roles) number ≡ Some label → sort_of (role_of g (Blank label)) ≡ None →
      HoldNumbersUpTo g k roles trees number entries → HoldNumbersUpTo g k roles trees (number + 1) entries
  none_more number entries label at lacks h = record {
    each = h.each;
    none = λ node other less there e. elim (below_next number node less) [
      | inl before ↦ h.none node other before there e
      | inr is ↦
          let same = same_Some label other (sym at ∙ ap (slice_get (labels roles)) (sym is) ∙ there) in
          ap (λ l. sort_of (role_of g (Blank l))) (sym same) ∙ lacks
    ];
  }

  -- a node that is no expression gets no number
  pub none_put : (number : ℕ) (entries : NumberTable) (label : List ℕ) (r : Role) → slice_get (labels roles) number ≡ Some label → r ≡ role_of g (Blank label) → is_some (sort_of r) ≡ false →
      HoldNumbersUpTo g k roles trees number entries → HoldNumbersUpTo g k roles trees (number + 1) entries
  none_put number entries label r at of none h = none_more number entries label at (ap sort_of (sym of) ∙ none_is (sort_of r) none) h

  record IsPut (old new : NumberTable) (label : List ℕ) (id : ℕ) : Type 0 where
    put : (other : List ℕ) → entry_of new other ≡ cond (text_eq label other) (Some id) (entry_of old other)

  held_put : (old new : NumberTable) (label : List ℕ) (id : ℕ) → IsPut old new label id → IsDenotedAs g k (HasNumber trees) (Blank label) id →
      ((other : List ℕ) → IfSome (entry_of old other) (IsDenotedAs g k (HasNumber trees) (Blank other))) → (other : List ℕ) → IfSome (entry_of new other) (IsDenotedAs g k (HasNumber trees) (Blank other))
  held_put old new label id p d h other =
      elim (cases_Bool (text_eq label other)) [
        | inl e ↦
            let same = (bytes_eq-Decides label other).0 e in
            subst (λ l. IfSome (entry_of new other) (IsDenotedAs g k (HasNumber trees) (Blank l))) same
            (subst (λ o. IfSome o (IsDenotedAs g k (HasNumber trees) (Blank label))) (sym (p.put other ∙ cond-true (text_eq label other) (Some id) (entry_of old other) e)) d)
        | inr e ↦ subst (λ o. IfSome o (IsDenotedAs g k (HasNumber trees) (Blank other))) (sym (p.put other ∙ cond-false (text_eq label other) (Some id) (entry_of old other) e)) (h other)
      ]

  absent_before : (old new : NumberTable) (label : List ℕ) (id : ℕ) → IsPut old new label id → (other : List ℕ) → IsNone (entry_of new other) → IsNone (entry_of old other)
  absent_before old new label id p other none =
      elim (cases_Bool (text_eq label other)) [
        | inl e ↦ absurd (some_is (entry_of new other) id (p.put other ∙ cond-true (text_eq label other) (Some id) (entry_of old other) e) none)
        | inr e ↦ ap is_some (sym (p.put other ∙ cond-false (text_eq label other) (Some id) (entry_of old other) e)) ∙ none
      ]

  put_there : (old new : NumberTable) (label : List ℕ) (id : ℕ) → IsPut old new label id → IsNone (entry_of new label) → ⊥
  put_there old new label id p none =
      some_is (entry_of new label) id (p.put label ∙ cond-true (text_eq label label) (Some id) (entry_of old label) ((bytes_eq-Decides label label).1 refl)) none

  numbered_denoted : (node : ℕ) (label : List ℕ) (id : ℕ) → slice_get (labels roles) node ≡ Some label → IsNumbered g k roles (HasNumber trees) node id → IsDenotedAs g k (HasNumber trees) (Blank label) id
  numbered_denoted node label id at n =
      let same = same_Some n.denoted.label label (sym n.denoted.at ∙ at) in
      subst (λ l. IsDenotedAs g k (HasNumber trees) (Blank l) id) same
      (record { tree = n.tree; own = record { sort = n.denoted.sort; gives = n.denoted.gives; denotes = n.denoted.denotes }; held = n.held })

  -- an expression gets its number
  pub one_more_held : (ids : List (Option ℕ)) (number : ℕ) (old new : NumberTable) (label copied : List ℕ) (id : ℕ) → AreNumbered g k roles (HasNumber trees) ids → slice_get (labels roles) number ≡ Some label →
      slice_get ids number ≡ Some (Some id) → copied ≡ label → ((other : List ℕ) → entry_of new other ≡ cond (text_eq copied other) (Some id) (entry_of old other)) →
      HoldNumbersUpTo g k roles trees number old → HoldNumbersUpTo g k roles trees (number + 1) new
  one_more_held ids number old new label copied id are at found same put h =
      let p : IsPut old new label id = record { put = λ other. put other ∙ ap (λ l. cond (text_eq l other) (Some id) (entry_of old other)) same } in
      record {
        each = held_put old new label id p (numbered_denoted number label id at (are number id found)) h.each;
        none = λ node other less there e. elim (below_next number node less) [
          | inl before ↦ h.none node other before there (absent_before old new label id p other e)
          | inr is ↦
              let same = same_Some label other (sym at ∙ ap (slice_get (labels roles)) (sym is) ∙ there) in
              absurd (put_there old new label id p (subst (λ l. IsNone (entry_of new l)) (sym same) e))
        ];
      }

  role_given : (label : List ℕ) (r : Role) → role_of g (Blank label) ≡ r → sort_of r ≡ None → sort_of (role_of g (Blank label)) ≡ None
  role_given label r e none = ap sort_of e ∙ none

  no_sort : IsTableOf g roles → (entries : NumberTable) → HoldNumbersUpTo g k roles trees (length roles.nodes) entries → (label : List ℕ) → IsNone (entry_of entries label) →
      sort_of (role_of g (Blank label)) ≡ None
  no_sort is entries h label none =
      let all : labels roles ≡ blank_nodes g = keys_are g roles.nodes is.nodes in
      elim (look_up (labels roles) label) [
        | inl s ↦
            let within = slice_get_within (labels roles) s.place label s.at in
            h.none s.place label (subst (λ n. s.place < n) (length-map roles.nodes (λ e. e.0)) within) s.at none
        | inr other ↦ role_given label _ (no_role_of_others g label (λ m. other (subst (λ ls. Contains ls label) (sym all) m))) refl
      ]

  no_entry : (label : List ℕ) (found : Option ℕ) → IfSome found (IsDenotedAs g k (HasNumber trees) (Blank label)) → sort_of (role_of g (Blank label)) ≡ None → IsNone found
  no_entry label None d none = refl
  no_entry label (Some id) d none = absurd (none-some d.own.sort (sym none ∙ d.own.gives))

  pub all_numbers_held : IsTableOf g roles → (entries : NumberTable) (number : ℕ) → number ≡ length roles.nodes → HoldNumbersUpTo g k roles trees number entries → HoldNumbers g k trees entries
  all_numbers_held is entries number e h = record {
    each = h.each;
    none = λ label. (
      no_sort is entries (subst (λ n. HoldNumbersUpTo g k roles trees n entries) e h) label,
      no_entry label (entry_of entries label) (h.each label),
    );
  }
