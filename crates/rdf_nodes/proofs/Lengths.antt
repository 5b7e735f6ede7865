-- A list has no more elements than the graph has triples, since each of its cells stands behind the next in the order.
use Rattle.std.specs.Prelude.{◌≡◌, ◌≤◌, ◌<◌, ℕ, suc, Bool, List, [], ◌∷◌, ◌++◌, Contains, Some, length, map, slice_get}
use Rattle.std.specs.declared.cmp.Ordering.{Ordering}
use Rattle.std.specs.declared.cmp.Ordering.TheVariants.{Less, Equal, Greater}
use Rattle.std.proofs.Common.{arith, inl, inr, sym, ap, append_assoc, append-nil, ◌∙◌, subst}
use Rattle.std.proofs.lemmas.List.{length-append, length-map}
use Rattle.std.proofs.lemmas.Option.{slice_get_within}
use Rattle.owl_list.specs.Ascending.{ascending, by_order, put}
use Rattle.owl_list.proofs.AscendingLaws.{in_cases, in_none}
use Rattle.rdf_graph.specs.declared.term.Term.{Term}
use Rattle.rdf_graph.specs.declared.term.Term.TheVariants.{Blank, Iri, Literal}
use Rattle.rdf_graph.specs.declared.triple.Triple.{Triple}
use Rattle.rdf_graph.specs.Terms.{term_cmp}
use Rattle.rdf_meaning.specs.declared.role.Role.TheVariants as role
use Rattle.rdf_meaning.specs.Statements.{IsDirectlyBelow}
use Rattle.rdf_faults.specs.Asked.{HasElements, no_element, element, IsListOf}
use Rattle.rdf_faults.proofs.BelowLaws.{rest_below}
use Rattle.rdf_asked.proofs.ListedLaws.{IsWalked}
use Rattle.rdf_roles.specs.Tables.{IsTableOf, RoleTable, blank_nodes, labels_in, with_role}
use Rattle.rdf_roles.proofs.WayLaws.{numbered_by_role}
use Rattle.rdf_nodes.specs.Numbers.{IsPassed}
use Rattle.rdf_roles.specs.OrderLaws.{is_in_order, length_of_order}
use Rattle.rdf_nodes.proofs.Below.{as_nodes, passed_below}

-- a graph has no more nodes than triples

few_by : {X : Type 0} (o : Ordering) (x y : X) (ys rest : List X) → length rest ≤ suc (length ys) → length (by_order o (x ∷ y ∷ ys) (y ∷ ys) (y ∷ rest)) ≤ suc (suc (length ys))
few_by Less x y ys rest h = omega arith
few_by Equal x y ys rest h = omega arith
few_by Greater x y ys rest h = omega (arith, h)

few_put : (x : Term) (ys : List Term) → length (put term_cmp x ys) ≤ suc (length ys)
few_put x [] = omega arith
few_put x (y ∷ ys) = few_by (term_cmp x y) x y ys (put term_cmp x ys) (few_put x ys)

few_ascending : (xs : List Term) → length (ascending term_cmp xs) ≤ length xs
few_ascending [] = omega arith
few_ascending (x ∷ xs) =
    let one = few_put x (ascending term_cmp xs) in
    let more = few_ascending xs in
    omega (arith, one, more)

few_labels : (xs : List Term) → length (labels_in xs) ≤ length xs
few_labels [] = omega arith
few_labels (Iri iri ∷ xs) = let more = few_labels xs in omega (arith, more)
few_labels (Blank label ∷ xs) = let more = few_labels xs in omega (arith, more)
few_labels (Literal literal ∷ xs) = let more = few_labels xs in omega (arith, more)

few_nodes : (g : List Triple) → length (blank_nodes g) ≤ length g
unfolding blank_nodes
few_nodes g =
    let terms = map (λ t. t.subject) g in
    let one = few_labels (ascending term_cmp terms) in
    let more = few_ascending terms in
    let all : length terms ≡ length g = length-map g (λ t. t.subject) in
    omega (arith, one, more, all)

-- a list of numbers up to one of them, and what stands behind it
record IsSplitAt (n : ℕ) (ns : List ℕ) : Type 0 where
  front : List ℕ
  behind : List ℕ
  split : ns ≡ front ++ n ∷ behind

split_at : (n : ℕ) (ns : List ℕ) → Contains ns n → IsSplitAt n ns
split_at n [] m = absurd (in_none n m)
split_at n (k ∷ ns) m =
    elim (in_cases k ns n m) [
      | inl e ↦ record { front = []; behind = ns; split = ap (λ j. j ∷ ns) e }
      | inr i ↦ let s = split_at n ns i in record { front = k ∷ s.front; behind = s.behind; split = ap (λ more. k ∷ more) s.split }
    ]

module _ (g : List Triple) (roles : RoleTable) (table : IsTableOf g roles) where
  short_list : (x : Term) (ys : List Term) → HasElements g x ys → (passed rest : List ℕ) → roles.order ≡ passed ++ rest → IsPassed g passed x → length ys ≤ length passed
  short_list _ _ (no_element x e) passed rest split p = omega arith
  short_list _ _ (element x first next more l f r h) passed rest split p =
      let n = numbered_by_role g x (λ e. let never : role.List ≡ role.Individual = sym l ∙ e in cc) in
      let s = split_at n.number passed (p n.number (record { label = n.label; is = n.is; at = n.at })) in
      let before : roles.order ≡ s.front ++ n.number ∷ (s.behind ++ rest) = split ∙ ap (λ ns. ns ++ rest) s.split ∙ append_assoc s.front (n.number ∷ s.behind) rest in
      let at = subst (λ ls. slice_get ls n.number ≡ Some n.label) (sym (as_nodes g roles table)) n.at in
      let below = subst (λ z. IsDirectlyBelow g next z) n.is (rest_below g x next l r) in
      let less : length more ≤ length s.front =
      short_list next more h s.front (n.number ∷ (s.behind ++ rest)) before (passed_below g roles table s.front n.number (s.behind ++ rest) before n.label at next (inl below)) in
      omega (arith, less, ap length s.split, length-append s.front (n.number ∷ s.behind))

  all_passed : (x : Term) → IsPassed g roles.order x
  all_passed x number is =
      let as_many : length (blank_nodes g) ≡ length roles.nodes = sym (ap length table.nodes ∙ length-map (blank_nodes g) (with_role g)) in
      is_in_order g roles table number (subst (λ n. number < n) as_many (slice_get_within (blank_nodes g) number is.label is.at))

  few_elements : (x : Term) (ys : List Term) → HasElements g x ys → length ys ≤ length g
  few_elements x ys h =
      let short = short_list x ys h roles.order [] (sym (append-nil roles.order)) (all_passed x) in
      let nodes = few_nodes g in
      let order = length_of_order g roles table in
      omega (arith, short, nodes, order)

  -- what was walked for longer is no list
  pub walk_too_long : {test : Term → Bool} {x : Term} {count : ℕ} {y : Term} → IsWalked g test x count y → length g < count → (least : ℕ) → IsListOf g test least x → ⊥
  walk_too_long {x = x} w long least l =
      let left = w.back l.elements l.has_elements in
      let few = few_elements x l.elements l.has_elements in
      omega (arith, few, long, ap length left.2, length-append w.before left.0, w.counted)
