-- Marking what axioms reach, from the end of an order in which each node stands behind all to which it leads.
use Rattle.std.specs.Prelude.{◌≡◌, ◌↔◌, ◌⊎◌, ◌<◌, ℕ, Bool, true, false, IsTrue, List, [], ◌∷◌, ◌++◌, Contains, Some, length, replicate, slice_get}
use Rattle.std.specs.List.{range_with_len}
use Rattle.std.proofs.Common.{inl, inr, refl, sym, ap, ◌∙◌, subst, arith}
use Rattle.std.proofs.lemmas.Bool.{both_ways}
use Rattle.std.proofs.lemmas.List.{get_or-replicate, length-replicate}
use Rattle.std.proofs.lemmas.List.Elements.{Contains-append_cases, Contains-append_left, Contains-append_right}
use Rattle.std.proofs.lemmas.List.Sorted.{Contains-permutation}
use Rattle.std.proofs.lemmas.Option.{same_Some, slice_get_within}
use Rattle.directed_graphs.specs.Cycles.{StandBehind, successors}
use Rattle.directed_graphs.proofs.CycleLaws.{in_range}
use Rattle.owl_list.proofs.AscendingLaws.{in_cases, in_head, in_none, in_tail}
use Rattle.rdf_graph.specs.declared.term.Term.{Term}
use Rattle.rdf_graph.specs.declared.term.Term.TheVariants.{Blank}
use Rattle.rdf_graph.specs.declared.triple.Triple.{Triple}
use Rattle.rdf_meaning.specs.declared.role.Role.{Role}
use Rattle.rdf_meaning.specs.declared.role.Role.TheVariants as role
use Rattle.rdf_meaning.specs.Nodes.{is_own, is_structural, of_subject, role_of}
use Rattle.rdf_meaning.proofs.NodeLaws.{from_subject, in_subject}
use Rattle.rdf_meaning.specs.Statements.{InSteps, IsDirectlyBelow, at_root, below_axiom, below_root, is_object, is_subject, main_triples, one_more, one_step}
use Rattle.rdf_roles.specs.OrderLaws.{is_node}
use Rattle.rdf_roles.specs.Tables.{AreEdges, IsNode, IsNodeOrder, blank_nodes}
use Rattle.rdf_roles.proofs.WayLaws.{numbered_by_role, structural_node}
use Rattle.rdf_scans.specs.declared.reading.Reading.{Reading}
use Rattle.rdf_scans.proofs.SortLaws.{main_is}
use Rattle.rdf_scans.specs.Sorts.{sort_in}
use Rattle.rdf_scans.specs.Reach.{AddsMarks, AreMarked, HasRole, IsBySome, IsEndOf, IsNext, IsNodeWithRole, IsObjectOf, IsReachedIn, IsRootIn, has_mark, reaches_on}
use Rattle.rdf_scans.proofs.Marking.{no_marks}
use Rattle.rdf_scans.proofs.Reserving.{main_sort}

-- from which nodes axioms reach what is below

on_by : (r : Role) (m : Bool) → IsTrue (reaches_on r m) → (r ≡ role.Main) ⊎ IsTrue m
on_by role.Main m h = inl refl
on_by role.Note m h = cc
on_by role.List m h = inr h
on_by role.Property m h = inr h
on_by role.Class m h = inr h
on_by role.Range m h = inr h
on_by role.Facet m h = inr h
on_by role.Header m h = inr h
on_by role.Individual m h = inr h

on_from : (r : Role) (m : Bool) → (r ≡ role.Note → ⊥) → (r ≡ role.Main) ⊎ IsTrue m → IsTrue (reaches_on r m)
on_from role.Main m n s = refl
on_from role.Note m n s = absurd (n refl)
on_from role.List m n s = elim s [ inl e ↦ cc | inr h ↦ h ]
on_from role.Property m n s = elim s [ inl e ↦ cc | inr h ↦ h ]
on_from role.Class m n s = elim s [ inl e ↦ cc | inr h ↦ h ]
on_from role.Range m n s = elim s [ inl e ↦ cc | inr h ↦ h ]
on_from role.Facet m n s = elim s [ inl e ↦ cc | inr h ↦ h ]
on_from role.Header m n s = elim s [ inl e ↦ cc | inr h ↦ h ]
on_from role.Individual m n s = elim s [ inl e ↦ cc | inr h ↦ h ]

no_note : (r : Role) (m : Bool) → IsTrue (reaches_on r m) → r ≡ role.Note → ⊥
no_note r m h e = let never : false ≡ true = sym (ap (λ q. reaches_on q m) e) ∙ h in cc

-- a node with something below it has a role
above_has_role : (g : List Triple) (y x : Term) → IsDirectlyBelow g y x → HasRole g x
above_has_role g y x s = subst (HasRole g) s.subject (structural_node g s.triple s.structural)

structural_is : (g : List Triple) (t : Triple) → is_structural g t ≡ is_own (role_of g t.subject) t
unfolding is_structural
structural_is g t = refl

-- straight below a node are the objects of its own triples
module _ (g : List Triple) (marks : List Bool) (number : ℕ) (label : List ℕ) (at : slice_get (blank_nodes g) number ≡ Some label) where
  own_is : (t : Triple) → t.subject ≡ Blank label → is_structural g t ≡ is_own (role_of g (Blank label)) t
  own_is t e = structural_is g t ∙ ap (λ x. is_own (role_of g x) t) e

  pub objects_next : (r : Role) (triples : List Triple) → r ≡ role_of g (Blank label) → triples ≡ of_subject g (Blank label)
      → IsTrue (reaches_on r (has_mark marks number)) → (next : ℕ) → IsBySome (IsObjectOf g r) triples next ↔ IsNext g marks number next
  objects_next r triples is about on next = (
    λ s.
        let of = from_subject g (Blank label) s.triple (subst (λ (ts : List Triple). Contains ts s.triple) about s.inside) in
        record {
          label = label;
          at = at;
          on = subst (λ q. IsTrue (reaches_on q (has_mark marks number))) is on;
          way = record {
            from = label;
            to = s.holds.1.node.label;
            from_at = at;
            to_at = s.holds.1.node.at;
            below = record {
              triple = s.triple;
              inside = of.0;
              subject = of.1;
              object = s.holds.1.node.is;
              structural = own_is s.triple of.1 ∙ ap (λ q. is_own q s.triple) (sym is) ∙ s.holds.0;
              no_note = λ e. no_note r (has_mark marks number) on (is ∙ e);
            };
          };
          has_role = λ e. s.holds.1.has_role (ap (role_of g) s.holds.1.node.is ∙ e);
        },
    λ n.
        let w = n.way in
        let b = subst (λ l. IsDirectlyBelow g (Blank w.to) (Blank l)) (same_Some w.from label (sym w.from_at ∙ at)) w.below in
        record {
          triple = b.triple;
          inside = subst (λ (ts : List Triple). Contains ts b.triple) (sym about) (in_subject g (Blank label) b.triple b.inside b.subject);
          holds = (
            ap (λ q. is_own q b.triple) is ∙ sym (own_is b.triple b.subject) ∙ b.structural,
            record { node = record { label = w.to; is = b.object; at = w.to_at }; has_role = λ e. n.has_role (ap (role_of g) (sym b.object) ∙ e) },
          );
        },
  )

  pub nothing_next : (r : Role) → r ≡ role_of g (Blank label) → reaches_on r (has_mark marks number) ≡ false → AddsMarks (IsNext g marks number) marks marks
  nothing_next r is off =
      no_marks (IsNext g marks number) marks
      (λ next h n. both_ways (reaches_on r (has_mark marks number)) off
      (ap (λ q. reaches_on q (has_mark marks number)) (is ∙ ap (λ l. role_of g (Blank l)) (same_Some label n.label (sym at ∙ n.at))) ∙ n.on))

-- one step down
module _ (reading : Reading) where
  abbrev graph : List Triple
  graph = reading.graph.now

  below_reached : (y x : Term) → IsReachedIn reading x → IsDirectlyBelow graph y x → IsReachedIn reading y
  below_reached y x (at_root _ r) s = below_root y x r (one_step y x s)
  below_reached y x (below_root _ z r steps) s = below_root y z r (one_more y x z s steps)
  below_reached y x (below_axiom _ z e steps) s = below_axiom y z e (one_more y x z s steps)

  -- roots are the ends of axioms
  record IsEnd (x : Term) : Type 0 where
    triple : Triple
    main : Contains (main_triples graph reading.kinds.now reading.header.now) triple
    end : (triple.subject ≡ x) ⊎ (triple.object ≡ x)

  root_end : (x : Term) → IsRootIn reading x → IsEnd x
  root_end _ (is_subject t m) = record { triple = t; main = m; end = inl refl }
  root_end _ (is_object t m) = record { triple = t; main = m; end = inr refl }

  same_node : (x : Term) (number : ℕ) (label : List ℕ) → slice_get (blank_nodes graph) number ≡ Some label → IsNode graph x number → x ≡ Blank label
  same_node x number label at node = node.is ∙ ap Blank (same_Some node.label label (sym node.at ∙ at))

  pub roots_marked : (before marks : List Bool) → before ≡ replicate (length (blank_nodes graph)) false → AddsMarks (IsBySome (IsEndOf reading) graph) before marks
      → AreMarked graph (IsRootIn reading) marks
  roots_marked before marks e adds =
      let size : length before ≡ length (blank_nodes graph) = ap length e ∙ length-replicate (length (blank_nodes graph)) false in
      record {
        each = adds.each ∙ size;
        told = λ number label at has_role.
            let inside = slice_get_within (blank_nodes graph) number label at in
            let with_role : (x : Term) → x ≡ Blank label → IsNodeWithRole graph x number = λ x e.
            record { node = record { label = label; is = e; at = at }; has_role = λ f. has_role (ap (role_of graph) (sym e) ∙ f) } in
            let told = adds.told number (subst (λ n. number < n) (sym size) inside) in (
              λ m. elim (told.0 m) [
                | inl old ↦
                    absurd (both_ways (has_mark before number)
                    (ap (λ ms. has_mark ms number) e ∙ get_or-replicate (length (blank_nodes graph)) number false false inside) old)
                | inr s ↦
                    let main = (main_is graph reading.kinds.now reading.header.now s.triple).1 (s.inside, (main_sort (sort_in reading s.triple)).0 s.holds.0) in
                    elim s.holds.1 [
                      | inl node ↦ subst (IsRootIn reading) (same_node s.triple.subject number label at node.node) (is_subject s.triple main)
                      | inr node ↦ subst (IsRootIn reading) (same_node s.triple.object number label at node.node) (is_object s.triple main)
                    ]
              ],
              λ r.
                  let end = root_end (Blank label) r in
                  let is = (main_is graph reading.kinds.now reading.header.now end.triple).0 end.main in
                  told.1 (inr (record {
                    triple = end.triple;
                    inside = is.0;
                    holds = (
                      (main_sort (sort_in reading end.triple)).1 is.1,
                      elim end.end [
                        | inl s ↦ inl (with_role end.triple.subject s)
                        | inr s ↦ inr (with_role end.triple.object s)
                      ],
                    );
                  })),
            );
      }

  -- while nodes are passed from the end of the order, others are left
  pub record AreReachedSoFar (marks : List Bool) (left : List ℕ) : Type 0 where
    pub each : length marks ≡ length (blank_nodes graph)
    pub reached : (number : ℕ) (label : List ℕ) → slice_get (blank_nodes graph) number ≡ Some label → HasRole graph (Blank label) → IsTrue (has_mark marks number) → IsReachedIn reading (Blank label)
    pub roots : (number : ℕ) (label : List ℕ) → slice_get (blank_nodes graph) number ≡ Some label → HasRole graph (Blank label) → IsRootIn reading (Blank label) → IsTrue (has_mark marks number)
    pub passed : (number : ℕ) → number < length (blank_nodes graph) → Contains left number ⊎ ((next : ℕ) → IsNext graph marks number next → IsTrue (has_mark marks next))
    pub within : (number : ℕ) → Contains left number → number < length (blank_nodes graph)
    pub edges : List (List ℕ)
    pub are : AreEdges graph edges
    pub behind : StandBehind edges [] left

  pub none_passed : (marks : List Bool) (order : List ℕ) → AreMarked graph (IsRootIn reading) marks → IsNodeOrder graph order → AreReachedSoFar marks order
  none_passed marks order marked is = record {
    each = marked.each;
    reached = λ number label at has_role m. at_root (Blank label) ((marked.told number label at has_role).0 m);
    roots = λ number label at has_role r. (marked.told number label at has_role).1 r;
    passed = λ number h. inl (Contains-permutation (range_with_len 0 (length is.edges)) order number is.is_order.all (in_range (length is.edges) number (subst (λ n. number < n) (sym is.are.each) h)));
    within = is_node graph order is;
    edges = is.edges;
    are = is.are;
    behind = is.is_order.behind;
  }

-- an order without its last
module _ (edges : List (List ℕ)) where
  front_behind : (done before more : List ℕ) → StandBehind edges done (before ++ more) → StandBehind edges done before
  front_behind done [] more s = tt
  front_behind done (n ∷ before) more s = (s.0, front_behind (n ∷ done) before more s.1)

  last_behind : (done before : List ℕ) (number next : ℕ) → StandBehind edges done (before ++ number ∷ []) → Contains (successors edges number) next → next < length edges
      → Contains done next ⊎ Contains before next
  last_behind done [] number next s m h = inl (s.0 next m h)
  last_behind done (n ∷ before) number next s m h =
      elim (last_behind (n ∷ done) before number next s.1 m h) [
        | inl k ↦ elim (in_cases n done next k) [
          | inl e ↦ inr (subst (λ j. Contains (n ∷ before) j) e (in_head n before))
          | inr d ↦ inl d
        ]
        | inr k ↦ inr (in_tail n before next k)
      ]

same_or_new : (b c : Bool) (P : Type 0) → IsTrue b ↔ (IsTrue c ⊎ P) → (b ≡ c) ⊎ P
same_or_new true c P f = elim (f.0 refl) [ inl e ↦ inl (sym e) | inr p ↦ inr p ]
same_or_new false true P f = let never : false ≡ true = f.1 (inl refl) in cc
same_or_new false false P f = inl refl

-- one node more is passed
module _ (reading : Reading) (marks new : List Bool) (left before : List ℕ) (number : ℕ) (p : AreReachedSoFar reading marks left) (split : left ≡ before ++ number ∷ []) (adds : AddsMarks (IsNext (graph reading) marks number) marks new) where
  abbrev g : List Triple
  g = graph reading

  order_behind : StandBehind p.edges [] (before ++ number ∷ [])
  order_behind = subst (StandBehind p.edges []) split p.behind

  told : (n : ℕ) (label : List ℕ) → slice_get (blank_nodes g) n ≡ Some label → IsTrue (has_mark new n) ↔ (IsTrue (has_mark marks n) ⊎ IsNext g marks number n)
  told n label at = adds.told n (subst (λ k. n < k) (sym p.each) (slice_get_within (blank_nodes g) n label at))

  next_before : (n : ℕ) → IsNext g marks number n → Contains before n
  next_before n is =
      let w = is.way in
      let within = subst (λ k. n < k) (sym p.are.each) (slice_get_within (blank_nodes g) n w.to w.to_at) in
      let edge = (p.are.leads number n).1 (record { from = w.from; to = w.to; from_at = w.from_at; to_at = w.to_at; leads = inl w.below }) in
      elim (last_behind p.edges [] before number n order_behind edge within) [ inl m ↦ absurd (in_none n m) | inr m ↦ m ]

  next_reached : (n : ℕ) (label : List ℕ) → slice_get (blank_nodes g) n ≡ Some label → IsNext g marks number n → IsReachedIn reading (Blank label)
  next_reached n label at is =
      let w = is.way in
      let same = same_Some w.from is.label (sym w.from_at ∙ is.at) in
      subst (λ l. IsReachedIn reading (Blank l)) (same_Some w.to label (sym w.to_at ∙ at))
      (elim (on_by (role_of g (Blank is.label)) (has_mark marks number) is.on) [
        | inl e ↦ below_axiom (Blank w.to) (Blank w.from) (ap (λ l. role_of g (Blank l)) same ∙ e) (one_step (Blank w.to) (Blank w.from) w.below)
        | inr m ↦ below_reached reading (Blank w.to) (Blank w.from) (p.reached number w.from w.from_at (above_has_role g (Blank w.to) (Blank w.from) w.below) m) w.below
      ])

  older : (n next : ℕ) → has_mark new n ≡ has_mark marks n → IsNext g new n next → IsNext g marks n next
  older n next e is = record { label = is.label; at = is.at; on = ap (reaches_on (role_of g (Blank is.label))) (sym e) ∙ is.on; way = is.way; has_role = is.has_role }

  still_marked : (n : ℕ) (label : List ℕ) → slice_get (blank_nodes g) n ≡ Some label → IsTrue (has_mark marks n) → IsTrue (has_mark new n)
  still_marked n label at m = (told n label at).1 (inl m)

  passed_or_left : (n : ℕ) → n < length (blank_nodes g) → Contains before n ⊎ ((next : ℕ) → IsNext g new n next → IsTrue (has_mark new next))
  passed_or_left n h =
      elim (same_or_new (has_mark new n) (has_mark marks n) (IsNext g marks number n) (adds.told n (subst (λ k. n < k) (sym p.each) h))) [
        | inr is ↦ inl (next_before n is)
        | inl e ↦ elim (p.passed n h) [
          | inr c ↦ inr (λ next is. still_marked next is.way.to is.way.to_at (c next (older n next e is)))
          | inl m ↦ elim (Contains-append_cases before (number ∷ []) n (subst (λ (ns : List ℕ). Contains ns n) split m)) [
            | inl b ↦ inl b
            | inr k ↦ elim (in_cases number [] n k) [
              | inl same ↦ inr (λ next is. (told next is.way.to is.way.to_at).1 (inr (subst (λ j. IsNext g marks j next) (sym same) (older n next e is))))
              | inr none ↦ absurd (in_none n none)
            ]
          ]
        ]
      ]

  pub one_passed : AreReachedSoFar reading new before
  one_passed = record {
    each = adds.each ∙ p.each;
    reached = λ n label at has_role m. elim ((told n label at).0 m) [ inl old ↦ p.reached n label at has_role old | inr is ↦ next_reached n label at is ];
    roots = λ n label at has_role r. still_marked n label at (p.roots n label at has_role r);
    passed = passed_or_left;
    within = λ n m. p.within n (subst (λ all. Contains all n) (sym split) (Contains-append_left before (number ∷ []) n m));
    edges = p.edges;
    are = p.are;
    behind = front_behind p.edges [] before (number ∷ []) order_behind;
  }

pub last_within : (reading : Reading) (marks : List Bool) (left before : List ℕ) (number : ℕ) → AreReachedSoFar reading marks left → left ≡ before ++ number ∷ [] → number < length (blank_nodes (graph reading))
last_within reading marks left before number p split =
    p.within number (subst (λ all. Contains all number) (sym split) (Contains-append_right before (number ∷ []) number (in_head number [])))

-- all nodes are passed
module _ (reading : Reading) (marks : List Bool) (p : AreReachedSoFar reading marks []) where
  abbrev IsMarked : Term → Type 0
  IsMarked x = (number : ℕ) → IsNodeWithRole (graph reading) x number → IsTrue (has_mark marks number)

  root_marked : (x : Term) → IsRootIn reading x → IsMarked x
  root_marked x r number is =
      p.roots number is.node.label is.node.at (λ e. is.has_role (ap (role_of (graph reading)) is.node.is ∙ e)) (subst (IsRootIn reading) is.node.is r)

  below_marked : (y x : Term) → IsDirectlyBelow (graph reading) y x → (role_of (graph reading) x ≡ role.Main) ⊎ IsMarked x → IsMarked y
  below_marked y x s from number is =
      let g = graph reading in
      let node = is.node in
      let has_role = above_has_role g y x s in
      let above = numbered_by_role g x has_role in
      let below = subst (λ z. IsDirectlyBelow g z (Blank above.label)) node.is (subst (λ z. IsDirectlyBelow g y z) above.is s) in
      let marked : (role_of g (Blank above.label) ≡ role.Main) ⊎ IsTrue (has_mark marks above.number) =
      elim from [
        | inl e ↦ inl (ap (role_of g) (sym above.is) ∙ e)
        | inr m ↦ inr (m above.number (record { node = record { label = above.label; is = above.is; at = above.at }; has_role = has_role }))
      ] in
      elim (p.passed above.number (slice_get_within (blank_nodes g) above.number above.label above.at)) [
        | inl m ↦ absurd (in_none above.number m)
        | inr c ↦ c number (record {
          label = above.label;
          at = above.at;
          on = on_from (role_of g (Blank above.label)) (has_mark marks above.number) below.no_note marked;
          way = record { from = above.label; to = node.label; from_at = above.at; to_at = node.at; below = below };
          has_role = λ e. is.has_role (ap (role_of g) node.is ∙ e);
        })
      ]

  steps_marked : (y x : Term) → InSteps (IsDirectlyBelow (graph reading)) y x → (role_of (graph reading) x ≡ role.Main) ⊎ IsMarked x → IsMarked y
  steps_marked y x (one_step _ _ s) from = below_marked y x s from
  steps_marked y x (one_more _ z _ s more) from = below_marked y z s (inr (steps_marked z x more from))

  reached_marked : (x : Term) → IsReachedIn reading x → IsMarked x
  reached_marked x (at_root _ r) = root_marked x r
  reached_marked x (below_root _ z r steps) = steps_marked x z steps (inr (root_marked z r))
  reached_marked x (below_axiom _ z e steps) = steps_marked x z steps (inl e)

  all_marked : AreMarked (graph reading) (IsReachedIn reading) marks
  all_marked = record {
    each = p.each;
    told = λ number label at has_role. (
      p.reached number label at has_role,
      λ r. reached_marked (Blank label) r number (record { node = record { label = label; is = refl; at = at }; has_role = has_role }),
    );
  }

pub all_passed : (reading : Reading) (marks : List Bool) (left : List ℕ) → length left ≡ 0 → AreReachedSoFar reading marks left → AreMarked (graph reading) (IsReachedIn reading) marks
all_passed reading marks [] e p = all_marked reading marks p
all_passed reading marks (number ∷ left) e p = absurd (omega arith)
