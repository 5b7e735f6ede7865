-- What a step finds, and what is found behind steps that find nothing.
use Rattle.std.specs.Prelude.{IfErr, ◌≡◌, ◌++◌, ℕ, List, [], ◌∷◌}
use Rattle.std.specs.List.{AllByRecursion}
use Rattle.std.specs.declared.result.Result.{Result}
use Rattle.std.specs.declared.result.Result.TheVariants.{Ok, Err}
use Rattle.std.proofs.Common.{inl, inr, refl, sym, subst}
use Rattle.owl_kind.specs.Kinds.{Entity, IsFirstClash}
use Rattle.rdf_graph.specs.declared.term.Term.{Term}
use Rattle.rdf_graph.specs.declared.triple.Triple.{Triple}
use Rattle.rdf_meaning.specs.Kinds.{HaveNoClash}
use Rattle.rdf_meaning.specs.Statements.{headers}
use Rattle.rdf_faults.specs.Faults.{IsBadHeader, IsOfNothing, IsOrphan, IsReservedTriple, IsUntypedPart, IsUntypedStatement}
use Rattle.rdf_faults.proofs.FirstLaws.{first_is_one}
use Rattle.rdf_faults.specs.Firsts.{HoldsForNone, IsFirst}
use Rattle.rdf_roles.proofs.FirstLaws.{first_at}
use Rattle.rdf_roles.specs.Refusals.{AreNodesFormed, IsFirstNode, IsNodeFault}
use Rattle.rdf_roles.specs.FaultPlaces.{IsFirstUntyped}
use Rattle.rdf_roles.specs.Tables.{blank_nodes}
use Rattle.rdf_roles.specs.declared.fault.NodeFault.{NodeFault}
use Rattle.rdf_roles.specs.declared.fault.NodeFault.TheVariants as node
use Rattle.rdf_scans.specs.declared.fault.OutlineFault.{OutlineFault}
use Rattle.rdf_scans.specs.declared.fault.OutlineFault.TheVariants as outline
use Rattle.rdf_scans.specs.Outlines.{IsHeadAt, IsOutlineFault}
use Rattle.owl_doc.specs.declared.head.Head as held
use Rattle.std.specs.Result.{IsErrAnd}
use Rattle.rdf_reverse.specs.Clear.{AreScanned}
use Rattle.rdf_reverse.specs.declared.fault.ReverseFault.{ReverseFault}
use Rattle.rdf_reverse.specs.declared.fault.ReverseFault.TheVariants.{TwoKinds, Mixed, BadList, Cycle, BadNode, MainMissing, Reserved, Orphan, Untyped}
use Rattle.rdf_reverse.specs.Faults.{node_fault, outline_fault}
use Rattle.rdf_reverse.specs.Reverse.{Finds, FindsFirst, FindsNothing, IsFoundBy, IsReverseFault, no_header, two_headers, bad_header, Step, of_kinds, of_header, of_nodes, of_reifications, of_names, of_reach, of_parts, of_statements, limits, scanning, typing}
use Rattle.rdf_reverse.proofs.ReverseLaws.{none_or_one, one_or_two, same_header}

module _ (g : List Triple) (k : List Entity) where
  -- steps that find nothing
  abbrev pub FindNothing : List Step → Type 0
  FindNothing before = AllByRecursion (FindsNothing g k) before

  first_before : (some after : List Step) (f : ReverseFault) → FindsFirst g k some f → FindsFirst g k (some ++ after) f
  first_before [] after f h = absurd h
  first_before (step ∷ some) after f (inl h) = inl h
  first_before (step ∷ some) after f (inr h) = inr (h.0, first_before some after f h.1)

  first_behind : (before some : List Step) (f : ReverseFault) → FindNothing before → FindsFirst g k some f → FindsFirst g k (before ++ some) f
  first_behind [] some f n h = h
  first_behind (step ∷ before) some f n h = inr (n.0, first_behind before some f n.1 h)

  pub found_before : (some after : List Step) (f : ReverseFault) → IsFoundBy g k some f → IsFoundBy g k (some ++ after) f
  found_before some after f (inl m) = inl m
  found_before some after f (inr h) = inr (first_before some after f h)

  pub found_behind : (before some : List Step) (f : ReverseFault) → FindNothing before → IsFoundBy g k some f → IsFoundBy g k (before ++ some) f
  found_behind before some f n (inl m) = inl m
  found_behind before some f n (inr h) = inr (first_behind before some f n h)

  -- kinds

  pub no_kinds : HaveNoClash k → FindsNothing g k of_kinds
  no_kinds none f h = none h.0 h.2.clash

  pub kinds_found : (iri : List ℕ) → IsFirstClash k iri → Finds g k of_kinds (TwoKinds iri)
  kinds_found iri first = (iri, refl, first)

  -- the header

  pub header_found : (fault : OutlineFault) (f : ReverseFault) → f ≡ outline_fault fault → IsOutlineFault g fault → IsFoundBy g k (of_header ∷ []) f
  header_found outline.NoHeader f e h = subst (IsFoundBy g k (of_header ∷ [])) (sym e) (inr (inl (no_header h)))
  header_found outline.TwoHeaders f e h = subst (IsFoundBy g k (of_header ∷ [])) (sym e) (inr (inl (two_headers h)))
  header_found (outline.BadHeader x) f e h = subst (IsFoundBy g k (of_header ∷ [])) (sym e) (inr (inl (bad_header x h)))
  header_found outline.Memory f e h = inl e

  -- nodes

  pub node_found : (fault : NodeFault) (f : ReverseFault) → f ≡ node_fault fault → IsNodeFault g fault → IsFoundBy g k (of_nodes ∷ []) f
  node_found (node.Mixed l) f e h = subst (IsFoundBy g k (of_nodes ∷ [])) (sym e) (inr (inl h))
  node_found (node.BadList l) f e h = subst (IsFoundBy g k (of_nodes ∷ [])) (sym e) (inr (inl h))
  node_found (node.Cycle l) f e h = subst (IsFoundBy g k (of_nodes ∷ [])) (sym e) (inr (inl h))
  node_found (node.BadNode l) f e h = subst (IsFoundBy g k (of_nodes ∷ [])) (sym e) (inr (inl h))
  node_found node.Memory f e h = inl e

  pub no_nodes : AreNodesFormed g → FindsNothing g k of_nodes
  no_nodes formed (Mixed l) h = first_is_one _ (blank_nodes g) l h formed.one_role
  no_nodes formed (BadList l) h = first_is_one _ (blank_nodes g) l h.1 formed.cells
  no_nodes formed (Cycle l) h = first_is_one _ (blank_nodes g) l h.2 formed.no_cycle
  no_nodes formed (BadNode l) h = first_is_one _ (blank_nodes g) l h.3 formed.forms
  no_nodes formed _ h = absurd h

  module _ (header : Term) (one : headers g ≡ header ∷ []) where
    pub no_bad_header : (IsBadHeader g header → ⊥) → FindsNothing g k of_header
    no_bad_header good _ (no_header e) = none_or_one g header e one
    no_bad_header good _ (two_headers n) = one_or_two g header one n
    no_bad_header good _ (bad_header x b) = good (subst (IsBadHeader g) (same_header g x header b.one_header one) b)

    -- scans

    pub no_reification : HoldsForNone (IsOfNothing g k header) (blank_nodes g) → FindsNothing g k of_reifications
    no_reification none f h =
        first_is_one (IsOfNothing g k header) (blank_nodes g) h.2
        (subst (λ x. IsFirstNode g (IsOfNothing g k x) h.2) (same_header g h.0 header h.1 one) h.4) none

    pub no_name : HoldsForNone (IsReservedTriple g k header) g → FindsNothing g k of_names
    no_name none f h =
        first_is_one (IsReservedTriple g k header) g h.2
        (subst (λ x. IsFirst (IsReservedTriple g k x) g h.2) (same_header g h.0 header h.1 one) h.4) none

    pub no_reach : HoldsForNone (IsOrphan g k header) (blank_nodes g) → FindsNothing g k of_reach
    no_reach none f h =
        first_is_one (IsOrphan g k header) (blank_nodes g) h.2
        (subst (λ x. IsFirstNode g (IsOrphan g k x) h.2) (same_header g h.0 header h.1 one) h.4) none

    pub no_part : ((t : Triple) → IsUntypedPart g k t → ⊥) → FindsNothing g k of_parts
    no_part none f h = none h.0 h.2.holds

    pub no_statement : HoldsForNone (IsUntypedStatement g k header) g → FindsNothing g k of_statements
    no_statement none f h =
        first_is_one (IsUntypedStatement g k header) g h.2
        (subst (λ x. IsFirst (IsUntypedStatement g k x) g h.2) (same_header g h.0 header h.1 one) h.4) none

    pub nothing_scanned : AreScanned g k header → FindNothing scanning
    nothing_scanned are = (
      no_reification are.reifications,
      (no_name are.names, (no_reach are.reach, (no_part are.typed.parts, (no_statement are.typed.statements, tt)))),
    )

    pub reification_found : (label : List ℕ) → IsFirstNode g (IsOfNothing g k header) label → IsFoundBy g k scanning (MainMissing label)
    reification_found label first = inr (inl (header, one, label, refl, first))

    pub name_found : HoldsForNone (IsOfNothing g k header) (blank_nodes g) → (t : Triple) → IsFirst (IsReservedTriple g k header) g t →
        IsFoundBy g k scanning (Reserved t)
    name_found notes t first = inr (inr (no_reification notes, inl (header, one, t, refl, first)))

    pub orphan_found : HoldsForNone (IsOfNothing g k header) (blank_nodes g) → HoldsForNone (IsReservedTriple g k header) g → (label : List ℕ) →
        IsFirstNode g (IsOrphan g k header) label → IsFoundBy g k scanning (Orphan label)
    orphan_found notes names label first = inr (inr (no_reification notes, inr (no_name names, inl (header, one, label, refl, first))))

    pub type_found : HoldsForNone (IsOfNothing g k header) (blank_nodes g) → HoldsForNone (IsReservedTriple g k header) g →
        HoldsForNone (IsOrphan g k header) (blank_nodes g) → (f : ReverseFault) → IsFoundBy g k typing f → IsFoundBy g k scanning f
    type_found notes names reach f h =
        found_behind (of_reifications ∷ of_names ∷ of_reach ∷ []) typing f (no_reification notes, (no_name names, (no_reach reach, tt))) h

    pub types_found : {A : Type 0} (r : Result A ReverseFault) → HoldsForNone (IsOfNothing g k header) (blank_nodes g) → HoldsForNone (IsReservedTriple g k header) g →
        HoldsForNone (IsOrphan g k header) (blank_nodes g) → IfErr r (IsFoundBy g k typing) → IfErr r (IsFoundBy g k scanning)
    types_found (Ok a) notes names reach h = tt
    types_found (Err f) notes names reach h = type_found notes names reach f h

    pub part_found : (t : Triple) → IsFirst (IsUntypedPart g k) g t → IsFoundBy g k typing (Untyped t)
    part_found t first = inr (inl (t, refl, first))

    pub statement_found : ((t : Triple) → IsUntypedPart g k t → ⊥) → (t : Triple) → IsFirst (IsUntypedStatement g k header) g t →
        IsFoundBy g k typing (Untyped t)
    statement_found none t first = inr (inr (no_part none, inl (header, one, t, refl, first)))

    -- the first part, by its place
    pub part_at : (place : ℕ) (first : IsFirstUntyped g k place) → IsFirst (IsUntypedPart g k) g first.triple
    part_at place first = first_at (IsUntypedPart g k) g place first.triple (λ n less t at. first.first n t less at) first.stands first.untyped

-- a fault that is given by another
pub given_by : {A : Type 0} {Q R : ReverseFault → Type 0} (r : Result A ReverseFault) → IsErrAnd r Q → ((f : ReverseFault) → Q f → R f) → IfErr r R
given_by (Ok a) h w = tt
given_by (Err f) h w = w f h

pub err_more : {A : Type 0} {Q R : ReverseFault → Type 0} (r : Result A ReverseFault) → IfErr r Q → ((f : ReverseFault) → Q f → R f) → IfErr r R
err_more (Ok a) h w = tt
err_more (Err f) h w = w f h

-- a node that gives a head is no bad header
pub good_header : (g : List Triple) (x : Term) (head : held.Head) → IsHeadAt g x head → IsBadHeader g x → ⊥
good_header g x head is bad = bad.no_head _ is.is_head

module _ (g : List Triple) (k : List Entity) (apart : HaveNoClash k) where
  pub header_refused : (fault : OutlineFault) (f : ReverseFault) → f ≡ outline_fault fault → IsOutlineFault g fault → IsReverseFault g k f
  header_refused fault f e h =
      found_behind g k (of_kinds ∷ []) (of_header ∷ of_nodes ∷ (scanning ++ limits)) f (no_kinds g k apart, tt)
      (found_before g k (of_header ∷ []) (of_nodes ∷ (scanning ++ limits)) f (header_found g k fault f e h))

  module _ (header : Term) (one : headers g ≡ header ∷ []) (good : IsBadHeader g header → ⊥) where
    pub node_refused : (fault : NodeFault) (f : ReverseFault) → f ≡ node_fault fault → IsNodeFault g fault → IsReverseFault g k f
    node_refused fault f e h =
        found_behind g k (of_kinds ∷ of_header ∷ []) (of_nodes ∷ (scanning ++ limits)) f (no_kinds g k apart, (no_bad_header g k header one good, tt))
        (found_before g k (of_nodes ∷ []) (scanning ++ limits) f (node_found g k fault f e h))

    pub scan_refused : AreNodesFormed g → (f : ReverseFault) → IsFoundBy g k scanning f → IsReverseFault g k f
    scan_refused formed f h =
        found_behind g k (of_kinds ∷ of_header ∷ of_nodes ∷ []) (scanning ++ limits) f
        (no_kinds g k apart, (no_bad_header g k header one good, (no_nodes g k formed, tt))) (found_before g k scanning limits f h)

    pub limit_refused : AreNodesFormed g → AreScanned g k header → (f : ReverseFault) → IsFoundBy g k limits f → IsReverseFault g k f
    limit_refused formed scanned f h =
        found_behind g k (of_kinds ∷ of_header ∷ of_nodes ∷ scanning) limits f
        (no_kinds g k apart, (no_bad_header g k header one good, (no_nodes g k formed, nothing_scanned g k header one scanned))) h
