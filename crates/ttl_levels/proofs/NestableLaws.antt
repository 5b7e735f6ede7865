-- Which blank nodes are nestable.
use Rattle.std.specs.Prelude.{◌≡◌, ◌<◌, ◌≤◌, ◌&&◌, ℕ, Bool, true, false, nat_eq, List, [], ◌∷◌, Contains, length, Some, None, slice_get}
use Rattle.std.specs.List.{list_all}
use Rattle.std.proofs.Common.{refl, sym, ap, ◌∙◌, subst, arith}
use Rattle.std.proofs.lemmas.Bool.{both_ways, ne_eqb}
use Rattle.owl_list.proofs.AscendingLaws.{in_head, in_tail}
use Rattle.owl_list.proofs.FilterLaws.{from_filter}
use Rattle.rdf_graph.specs.declared.term.Term.{Term}
use Rattle.rdf_graph.specs.declared.term.Term.TheVariants.{Blank}
use Rattle.rdf_graph.specs.declared.triple.Triple.{Triple}
use Rattle.rdf_meaning.specs.declared.role.Role.{Role}
use Rattle.rdf_meaning.specs.declared.role.Role.TheVariants as role
use Rattle.rdf_meaning.specs.Nodes.{is_own, is_same, is_structural, of_subject, role_of}
use Rattle.rdf_roles.proofs.NodeLaws.{has_number}
use Rattle.rdf_roles.specs.Tables.{HasNumber, IsTableOf, RoleTable}
use Rattle.ttl_levels.specs.Nested.{is_nestable, is_part, named_by}
use Rattle.ttl_levels.specs.NestTables.{AreNamed, IsNamedSo, IsOnceAt}
use Rattle.ttl_levels.specs.declared.named.Named.{Named}
use Rattle.ttl_levels.specs.declared.named.Named.TheVariants.{Never, Once, More}
use Rattle.ttl_levels.proofs.NamedLaws.{node_number, number_within, same_is}

-- a part has a role
pub part_has_role : (r : Role) → is_part r ≡ true → r ≡ role.Individual → ⊥
part_has_role r part is = let never : is_part role.Individual ≡ true = subst (λ (q : Role). is_part q ≡ true) is part in both_ways false refl never

pub part_has_number : (g : List Triple) (table : RoleTable) (label : List ℕ) → IsTableOf g table → is_part (role_of g (Blank label)) ≡ true → HasNumber table.nodes label None → ⊥
part_has_number g table label is part none = has_number g table.nodes is.nodes label (part_has_role (role_of g (Blank label)) part) none

-- the own triples of a node are structural where they are those of its role

same_tests : {X : Type 0} (f h : X → Bool) (xs : List X) → ((x : X) → Contains xs x → f x ≡ h x) → list_all f xs ≡ list_all h xs
same_tests f h [] same = refl
same_tests f h (x ∷ xs) same = ap (λ (b : Bool). b && list_all f xs) (same x (in_head x xs)) ∙ ap (λ (b : Bool). h x && b) (same_tests f h xs (λ y m. same y (in_tail x xs y m)))

pub own_triples : (g : List Triple) (x : Term) → list_all (is_structural g) (of_subject g x) ≡ list_all (is_own (role_of g x)) (of_subject g x)
unfolding is_structural
own_triples g x = same_tests (is_structural g) (is_own (role_of g x)) (of_subject g x) (λ t m. ap (λ (y : Term). is_own (role_of g y) t) (same_is t.subject x (from_filter (λ (u : Triple). is_same u.subject x) g t m).passes))

pub nestable_is : (g : List Triple) (x : Term) → is_nestable g x ≡ (is_part (role_of g x) && (nat_eq (length (named_by g x)) 1 && list_all (is_own (role_of g x)) (of_subject g x)))
unfolding is_nestable
nestable_is g x = ap (λ (b : Bool). is_part (role_of g x) && (nat_eq (length (named_by g x)) 1 && b)) (own_triples g x)

-- whether a node is named once

never_once : (g : List Triple) (x : Term) → named_by g x ≡ [] → false ≡ nat_eq (length (named_by g x)) 1
never_once g x h = sym (ap (λ (ts : List Triple). nat_eq (length ts) 1) h)

one_is_once : (g : List Triple) (x : Term) (place : ℕ) → IsOnceAt g g x place → true ≡ nat_eq (length (named_by g x)) 1
one_is_once g x place h = sym (ap (λ (ts : List Triple). nat_eq (length ts) 1) h.only)

more_is_not_once : (n : ℕ) → 2 ≤ n → false ≡ nat_eq n 1
more_is_not_once n h = sym (ne_eqb n 1 (λ e. omega (arith, h, e)))

abbrev pub is_once : Named → Bool
is_once Never = false
is_once (Once place) = true
is_once More = false

pub once_is_told : (g : List Triple) (x : Term) (named : Named) → IsNamedSo g g x named → is_once named ≡ nat_eq (length (named_by g x)) 1
once_is_told g x Never h = never_once g x h
once_is_told g x (Once place) h = one_is_once g x place h
once_is_told g x More h = more_is_not_once (length (named_by g x)) h

pub told : (g : List Triple) (table : RoleTable) (names : List Named) (label : List ℕ) (number : ℕ) (named other : Named) → IsTableOf g table → AreNamed g g names → HasNumber table.nodes label (Some number)
    → slice_get names number ≡ Some named → named ≡ other → is_once other ≡ nat_eq (length (named_by g (Blank label))) 1
told g table names label number named other is are has at e =
    subst (λ (n : Named). is_once n ≡ nat_eq (length (named_by g (Blank label))) 1) e
    (once_is_told g (Blank label) named (are.each number label named (node_number g table label number is has) at))

pub is_within : (g : List Triple) (table : RoleTable) (names : List Named) (label : List ℕ) (number : ℕ) → IsTableOf g table → AreNamed g g names → HasNumber table.nodes label (Some number) → number < length names
is_within g table names label number is are has = subst (λ n. number < n) (sym are.size) (number_within g table label number is has)

pub nestable_by : (g : List Triple) (x : Term) (r : Role) (p o own : Bool) → r ≡ role_of g x → p ≡ is_part r → p ≡ true → o ≡ nat_eq (length (named_by g x)) 1 → o ≡ true → own ≡ list_all (is_own r) (of_subject g x) → own ≡ is_nestable g x
nestable_by g x r p o own is part true_part once only triples =
    let own_is : own ≡ list_all (is_own (role_of g x)) (of_subject g x) = triples ∙ ap (λ (q : Role). list_all (is_own q) (of_subject g x)) is in
    let part_is : is_part (role_of g x) ≡ true = ap is_part (sym is) ∙ sym part ∙ true_part in
    let once_is : nat_eq (length (named_by g x)) 1 ≡ true = sym once ∙ only in
    own_is
    ∙ ap (λ (b : Bool). b && list_all (is_own (role_of g x)) (of_subject g x)) (sym once_is)
    ∙ ap (λ (b : Bool). b && (nat_eq (length (named_by g x)) 1 && list_all (is_own (role_of g x)) (of_subject g x))) (sym part_is)
    ∙ sym (nestable_is g x)
