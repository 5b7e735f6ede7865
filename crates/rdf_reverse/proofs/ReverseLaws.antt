-- What a graph says within the limits is one ontology, why it says none is one fault, and never both.
use Rattle.std.specs.Prelude.{◌≡◌, ◌≤◌, ℕ, Bool, true, false, List, [], ◌∷◌, length}
use Rattle.std.proofs.Common.{inl, inr, refl, sym, ap, ◌∙◌, subst, arith}
use Rattle.std.proofs.lemmas.Bool.{cases_Bool}
use Rattle.rdf_faults.specs.Firsts.{IsFirst}
use Rattle.owl_kind.specs.Kinds.{Entity}
use Rattle.owl_kind.proofs.OrderLaws.{clash_once}
use Rattle.owl_tree.specs.Ontologies.{IsSameOntology, Ontology}
use Rattle.rdf_graph.specs.declared.term.Term.{Term}
use Rattle.rdf_graph.specs.declared.triple.Triple.{Triple}
use Rattle.rdf_meaning.proofs.ListLaws.{nothing_else, same_only}
use Rattle.rdf_meaning.proofs.StatementLaws.{one_ontology}
use Rattle.rdf_meaning.specs.Statements.{Says, headers}
use Rattle.rdf_faults.proofs.FaultLaws as no
use Rattle.rdf_faults.specs.Faults.{IsBadCell, IsBadNode, IsCyclic, IsMixed, IsOfNothing, IsOrphan, IsReservedTriple, IsUntypedPart, IsUntypedStatement}
use Rattle.rdf_faults.proofs.FirstLaws.{first_is_one, first_once}
use Rattle.rdf_roles.specs.Refusals.{IsFirstNode}
use Rattle.rdf_roles.specs.Tables.{blank_nodes}
use Rattle.rdf_reverse.specs.declared.fault.ReverseFault.{ReverseFault}
use Rattle.rdf_reverse.specs.declared.fault.ReverseFault.TheVariants.{TwoKinds, BadHeader, Mixed, BadList, Cycle, BadNode, MainMissing, Reserved, Orphan, Untyped}
use Rattle.rdf_reverse.specs.Reverse.{Finds, FindsFirst, FindsNothing, HasDeepTree, HasHeavyTree, IsFaultOfNode, IsHeaderFault, no_header, two_headers, bad_header, IsLimitFault, IsSaid, IsUnsaid, Step, of_kinds, of_header, of_nodes, of_reifications, of_names, of_reach, of_parts, of_statements, of_numbers, of_depths, of_weights, steps}

-- two of one list
two_of_none : 2 ≤ 0 → ⊥
two_of_none h = omega arith

two_of_one : 2 ≤ 1 → ⊥
two_of_one h = omega arith

module _ (g : List Triple) where
  none_or_two : headers g ≡ [] → 2 ≤ length (headers g) → ⊥
  none_or_two e n = two_of_none (subst (λ xs. 2 ≤ length xs) e n)

  pub none_or_one : (x : Term) → headers g ≡ [] → headers g ≡ x ∷ [] → ⊥
  none_or_one x e f = nothing_else x [] (sym e ∙ f)

  pub one_or_two : (x : Term) → headers g ≡ x ∷ [] → 2 ≤ length (headers g) → ⊥
  one_or_two x e n = two_of_one (subst (λ xs. 2 ≤ length xs) e n)

  pub same_header : (x y : Term) → headers g ≡ x ∷ [] → headers g ≡ y ∷ [] → x ≡ y
  same_header x y e f = same_only x y (sym e ∙ f)

  header_once : (e f : ReverseFault) → IsHeaderFault g e → IsHeaderFault g f → e ≡ f
  header_once _ _ (no_header a) (no_header b) = refl
  header_once _ _ (no_header a) (two_headers b) = absurd (none_or_two a b)
  header_once _ _ (no_header a) (bad_header x b) = absurd (none_or_one x a b.one_header)
  header_once _ _ (two_headers a) (no_header b) = absurd (none_or_two b a)
  header_once _ _ (two_headers a) (two_headers b) = refl
  header_once _ _ (two_headers a) (bad_header x b) = absurd (one_or_two x b.one_header a)
  header_once _ _ (bad_header x a) (no_header b) = absurd (none_or_one x b a.one_header)
  header_once _ _ (bad_header x a) (two_headers b) = absurd (one_or_two x a.one_header b)
  header_once _ _ (bad_header x a) (bad_header y b) = ap (λ z. BadHeader z) (same_header x y a.one_header b.one_header)

  abbrev first_of : (List ℕ → Type 0) → List ℕ → Type 0
  first_of P label = IsFirstNode g P label

  node_once : (e f : ReverseFault) → IsFaultOfNode g e → IsFaultOfNode g f → e ≡ f
  node_once (Mixed a) (Mixed b) h i = ap (λ l. Mixed l) (first_once (IsMixed g) (blank_nodes g) a b h i)
  node_once (Mixed a) (BadList b) h i = absurd (first_is_one (IsMixed g) (blank_nodes g) a h i.0)
  node_once (Mixed a) (Cycle b) h i = absurd (first_is_one (IsMixed g) (blank_nodes g) a h i.0)
  node_once (Mixed a) (BadNode b) h i = absurd (first_is_one (IsMixed g) (blank_nodes g) a h i.0)
  node_once (Mixed a) _ h i = absurd i
  node_once (BadList a) (Mixed b) h i = absurd (first_is_one (IsMixed g) (blank_nodes g) b i h.0)
  node_once (BadList a) (BadList b) h i = ap (λ l. BadList l) (first_once (IsBadCell g) (blank_nodes g) a b h.1 i.1)
  node_once (BadList a) (Cycle b) h i = absurd (first_is_one (IsBadCell g) (blank_nodes g) a h.1 i.1)
  node_once (BadList a) (BadNode b) h i = absurd (first_is_one (IsBadCell g) (blank_nodes g) a h.1 i.1)
  node_once (BadList a) _ h i = absurd i
  node_once (Cycle a) (Mixed b) h i = absurd (first_is_one (IsMixed g) (blank_nodes g) b i h.0)
  node_once (Cycle a) (BadList b) h i = absurd (first_is_one (IsBadCell g) (blank_nodes g) b i.1 h.1)
  node_once (Cycle a) (Cycle b) h i = ap (λ l. Cycle l) (first_once (IsCyclic g) (blank_nodes g) a b h.2 i.2)
  node_once (Cycle a) (BadNode b) h i = absurd (first_is_one (IsCyclic g) (blank_nodes g) a h.2 i.2)
  node_once (Cycle a) _ h i = absurd i
  node_once (BadNode a) (Mixed b) h i = absurd (first_is_one (IsMixed g) (blank_nodes g) b i h.0)
  node_once (BadNode a) (BadList b) h i = absurd (first_is_one (IsBadCell g) (blank_nodes g) b i.1 h.1)
  node_once (BadNode a) (Cycle b) h i = absurd (first_is_one (IsCyclic g) (blank_nodes g) b i.2 h.2)
  node_once (BadNode a) (BadNode b) h i = ap (λ l. BadNode l) (first_once (IsBadNode g) (blank_nodes g) a b h.3 i.3)
  node_once (BadNode a) _ h i = absurd i
  node_once _ _ h i = absurd h

module _ (g : List Triple) (k : List Entity) where
  -- a node, or a triple, that is the first of which something is wrong that the header tells
  node_at_once : (P : Term → List ℕ → Type 0) (make : List ℕ → ReverseFault) (e f : ReverseFault) →
      ((header : Term) × (headers g ≡ header ∷ []) × (label : List ℕ) × (e ≡ make label) × IsFirstNode g (P header) label) →
      ((header : Term) × (headers g ≡ header ∷ []) × (label : List ℕ) × (f ≡ make label) × IsFirstNode g (P header) label) → e ≡ f
  node_at_once P make e f a b =
      let same = same_header g a.0 b.0 a.1 b.1 in
      let first = subst (λ h. IsFirstNode g (P h) a.2) same a.4 in
      a.3 ∙ ap make (first_once (P b.0) (blank_nodes g) a.2 b.2 first b.4) ∙ sym b.3

  triple_at_once : (P : Term → Triple → Type 0) (make : Triple → ReverseFault) (e f : ReverseFault) →
      ((header : Term) × (headers g ≡ header ∷ []) × (t : Triple) × (e ≡ make t) × IsFirst (P header) g t) →
      ((header : Term) × (headers g ≡ header ∷ []) × (t : Triple) × (f ≡ make t) × IsFirst (P header) g t) → e ≡ f
  triple_at_once P make e f a b =
      let same = same_header g a.0 b.0 a.1 b.1 in
      let first = subst (λ h. IsFirst (P h) g a.2) same a.4 in
      a.3 ∙ ap make (first_once (P b.0) g a.2 b.2 first b.4) ∙ sym b.3

  -- a step finds one fault at most
  found_once : (step : Step) (e f : ReverseFault) → Finds g k step e → Finds g k step f → e ≡ f
  found_once of_kinds e f a b = a.1 ∙ ap (λ iri. TwoKinds iri) (clash_once k a.0 b.0 a.2 b.2) ∙ sym b.1
  found_once of_header e f a b = header_once g e f a b
  found_once of_nodes e f a b = node_once g e f a b
  found_once of_reifications e f a b = node_at_once (IsOfNothing g k) (λ label. MainMissing label) e f a b
  found_once of_names e f a b = triple_at_once (IsReservedTriple g k) (λ t. Reserved t) e f a b
  found_once of_reach e f a b = node_at_once (IsOrphan g k) (λ label. Orphan label) e f a b
  found_once of_parts e f a b = a.1 ∙ ap (λ t. Untyped t) (first_once (IsUntypedPart g k) g a.0 b.0 a.2 b.2) ∙ sym b.1
  found_once of_statements e f a b = triple_at_once (IsUntypedStatement g k) (λ t. Untyped t) e f a b
  found_once of_numbers e f a b = a.0 ∙ sym b.0
  found_once of_depths e f a b = a.2 ∙ sym b.2
  found_once of_weights e f a b = a.2 ∙ sym b.2

  first_found_once : (all : List Step) (e f : ReverseFault) → FindsFirst g k all e → FindsFirst g k all f → e ≡ f
  first_found_once [] e f a b = absurd a
  first_found_once (step ∷ more) e f (inl a) (inl b) = found_once step e f a b
  first_found_once (step ∷ more) e f (inl a) (inr b) = absurd (b.0 e a)
  first_found_once (step ∷ more) e f (inr a) (inl b) = absurd (a.0 f b)
  first_found_once (step ∷ more) e f (inr a) (inr b) = first_found_once more e f a.1 b.1

pub unsaid_one_way : (g : List Triple) (k : List Entity) (e f : ReverseFault) → IsUnsaid g k e → IsUnsaid g k f → e ≡ f
unsaid_one_way g k e f a b = first_found_once g k steps e f a b

pub said_one_way : (g : List Triple) (k : List Entity) (o p : Ontology) → IsSaid g k o → IsSaid g k p → IsSameOntology o p
said_one_way g k o p a b = one_ontology g k o p a.says b.says

-- the steps before those of the limits
abbrev is_limit : Step → Bool
is_limit of_numbers = true
is_limit of_depths = true
is_limit of_weights = true
is_limit _ = false

module _ (g : List Triple) (k : List Entity) (o : Ontology) (says : Says g k o) where
  at_header : (P : Term → Type 0) (x : Term) → headers g ≡ x ∷ [] → P x → P says.states.header
  at_header P x e p = subst P (same_header g x says.states.header e says.states.one_header) p

  no_node_fault : (f : ReverseFault) → IsFaultOfNode g f → ⊥
  no_node_fault (Mixed l) h = no.no_mixed g k o says l h.holds
  no_node_fault (BadList l) h = no.no_bad_cell g k o says l h.1.holds
  no_node_fault (Cycle l) h = no.no_cyclic g k o says l h.2.holds
  no_node_fault (BadNode l) h = no.no_bad_node g k o says l h.3.holds
  no_node_fault _ h = absurd h

  no_header_fault : (f : ReverseFault) → IsHeaderFault g f → ⊥
  no_header_fault _ (no_header e) = no.no_missing_header g k o says e
  no_header_fault _ (two_headers n) = no.no_second_header g k o says n
  no_header_fault _ (bad_header x b) = no.no_bad_header g k o says x b

  -- where an ontology is said, nothing is found but what passes a limit
  says_finds_nothing : (step : Step) → is_limit step ≡ false → FindsNothing g k step
  says_finds_nothing of_kinds l f h = says.states.no_clash h.0 h.2.clash
  says_finds_nothing of_header l f h = no_header_fault f h
  says_finds_nothing of_nodes l f h = no_node_fault f h
  says_finds_nothing of_reifications l f h = no.no_note_of_nothing g k o says h.2 (at_header (λ x. IsOfNothing g k x h.2) h.0 h.1 h.4.holds)
  says_finds_nothing of_names l f h = no.no_reservation g k o says h.2 (at_header (λ x. IsReservedTriple g k x h.2) h.0 h.1 h.4.holds)
  says_finds_nothing of_reach l f h = no.no_orphan g k o says h.2 (at_header (λ x. IsOrphan g k x h.2) h.0 h.1 h.4.holds)
  says_finds_nothing of_parts l f h = no.no_untyped_part g k o says h.0 h.2.holds
  says_finds_nothing of_statements l f h = no.no_untyped_statement g k o says h.2 (at_header (λ x. IsUntypedStatement g k x h.2) h.0 h.1 h.4.holds)
  says_finds_nothing of_numbers l f h = cc
  says_finds_nothing of_depths l f h = cc
  says_finds_nothing of_weights l f h = cc

  limit_found : (step : Step) (f : ReverseFault) → is_limit step ≡ true → Finds g k step f → IsLimitFault f
  limit_found of_numbers f l h = subst IsLimitFault (sym h.0) tt
  limit_found of_depths f l h = subst IsLimitFault (sym h.2) tt
  limit_found of_weights f l h = subst IsLimitFault (sym h.2) tt
  limit_found _ f l h = cc

  limit_first : (all : List Step) (f : ReverseFault) → FindsFirst g k all f → IsLimitFault f
  limit_first [] f h = absurd h
  limit_first (step ∷ more) f (inl h) =
      elim (cases_Bool (is_limit step)) [
        | inl l ↦ limit_found step f l h
        | inr l ↦ absurd (says_finds_nothing step l f h)
      ]
  limit_first (step ∷ more) f (inr h) = limit_first more f h.1

pub limits_alone : (g : List Triple) (k : List Entity) (o : Ontology) (f : ReverseFault) → Says g k o → IsUnsaid g k f → IsLimitFault f
limits_alone g k o f says h = limit_first g k o says steps f h

module _ (g : List Triple) (k : List Entity) (o : Ontology) (said : IsSaid g k o) where
  limits_find_nothing : (step : Step) → is_limit step ≡ true → FindsNothing g k step
  limits_find_nothing of_numbers l f h = said.small h.1
  limits_find_nothing of_depths l f h = said.shallow (at_header g k o said.says (HasDeepTree g k) h.0 h.1 h.3)
  limits_find_nothing of_weights l f h = said.light (at_header g k o said.says (HasHeavyTree g k) h.0 h.1 h.3)
  limits_find_nothing _ l f h = cc

  finds_nothing : (step : Step) → FindsNothing g k step
  finds_nothing step =
      elim (cases_Bool (is_limit step)) [
        | inl l ↦ limits_find_nothing step l
        | inr l ↦ says_finds_nothing g k o said.says step l
      ]

  finds_no_first : (all : List Step) (f : ReverseFault) → FindsFirst g k all f → ⊥
  finds_no_first [] f h = h
  finds_no_first (step ∷ more) f (inl h) = finds_nothing step f h
  finds_no_first (step ∷ more) f (inr h) = finds_no_first more f h.1

pub never_both : (g : List Triple) (k : List Entity) (o : Ontology) (f : ReverseFault) → IsSaid g k o → IsUnsaid g k f → ⊥
never_both g k o f said h = finds_no_first g k o said steps f h
