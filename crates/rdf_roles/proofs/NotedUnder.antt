-- Under which reifications one is noted.
use Rattle.std.specs.Prelude.{◌≡◌, ◌↔◌, ◌⊎◌, ◌<◌, ℕ, suc, Bool, true, not, ◌&&◌, IsTrue, List, [], ◌∷◌, ◌++◌, Contains, None, Some, length, slice_get, slice_index_or, zero}
use Rattle.std.specs.List.{list_any}
use Rattle.std.proofs.Common.{inl, inr, refl, sym, ap, ◌∙◌, subst, arith}
use Rattle.std.proofs.lemmas.Bool.{and_from, and_parts, or_left, or_right}
use Rattle.std.proofs.lemmas.List.{get_or-set_same, get_or-set_other, length-set}
use Rattle.std.proofs.lemmas.List.Elements.{Contains-append_left, Contains-push, Contains-push_cases}
use Rattle.std.proofs.lemmas.Option.{same_Some, slice_get_within}
use Rattle.std.proofs.lemmas.Bool.Decides.{eqb_tells}
use Rattle.std.specs.declared.vec.Vec.{Vec}
use Rattle.directed_graphs.specs.Cycles.{edges_of, successors}
use Rattle.directed_graphs.proofs.CycleLaws.{graph_size}
use Rattle.owl_list.proofs.AscendingLaws.{in_cases, in_head, in_none, in_tail}
use Rattle.rdf_graph.specs.declared.term.Term.{Term}
use Rattle.rdf_graph.specs.declared.term.Term.TheVariants.{Blank, Iri}
use Rattle.rdf_graph.specs.declared.triple.Triple.{Triple}
use Rattle.rdf_meaning.specs.declared.role.Role.TheVariants as role
use Rattle.rdf_meaning.specs.declared.word.Word.TheVariants as word
use Rattle.owl_list.proofs.FilterLaws.{from_filter, in_filter}
use Rattle.rdf_meaning.proofs.ListLaws.{some_passes}
use Rattle.rdf_meaning.specs.Nodes.{chosen, is_own, is_same, is_structural, of_subject, role_of}
use Rattle.rdf_meaning.proofs.NodeLaws.{from_subject, same_term}
use Rattle.rdf_meaning.specs.Statements.{IsDirectlyNotedUnder, notes_of, reifies}
use Rattle.rdf_rows.specs.Chosen.{objects_with}
use Rattle.rdf_roles.specs.Tables.{AreEdges, IsNode, IsNumber, LeadsBetween, blank_nodes}
use Rattle.rdf_roles.specs.Ways.{AddsUnders, AreWays, IsUnderIn, IsWayToNote, reifies_note, reifies_with, with_way}
use Rattle.rdf_roles.proofs.Down.{one_number}

pub same_or_not : (a b : ℕ) → (a ≡ b) ⊎ (a ≡ b → ⊥)
same_or_not a b = elim (eqb_tells a b) [ inl h ↦ inl h.1 | inr h ↦ inr h.1 ]

any_of : {X : Type 0} (test : X → Bool) (xs : List X) (x : X) → Contains xs x → test x ≡ true → list_any test xs ≡ true
any_of test [] x m h = absurd (in_none x m)
any_of test (y ∷ xs) x m h =
    elim (in_cases y xs x m) [
      | inl e ↦ or_left (test y) (list_any test xs) (ap test e ∙ h)
      | inr k ↦ or_right (test y) (list_any test xs) (any_of test xs x k h)
    ]

-- the triples of a reification tell which triples it reifies
reifies_is : (g note : List Triple) (s : Term) (t : Triple) → note ≡ of_subject g s → reifies g s t ≡ reifies_with note t
unfolding reifies chosen
reifies_is g note s t about = ap (λ ts. reifies_with ts t) (sym about)

own_is : (g : List Triple) (t : Triple) (r : Term) → t.subject ≡ r → role_of g r ≡ role.Note → is_structural g t ≡ is_own role.Note t
unfolding is_structural
own_is g t r e f = ap (λ q. is_own q t) (ap (role_of g) e ∙ f)

module _ (g note : List Triple) (s r : Term) (about : note ≡ of_subject g s) (is_note : role_of g s ≡ role.Note) where
  annotation : (under : role_of g r ≡ role.Note) (t : Triple) → Contains (of_subject g r) t → not (is_own role.Note t) ≡ true → Contains (notes_of g r) t
  unfolding notes_of
  annotation under t m h =
      in_filter (λ u. not (is_structural g u)) (of_subject g r) t m (ap not (own_is g t r (from_subject g r t m).1 under) ∙ h)

  of_note : (t : Triple) → Contains (notes_of g r) t → Contains (of_subject g r) t × (not (is_structural g t) ≡ true)
  unfolding notes_of
  of_note t m = let k = from_filter (λ u. not (is_structural g u)) (of_subject g r) t m in (k.inside, k.passes)

  to_noted : role_of g r ≡ role.Note → (triples : List Triple) → triples ≡ of_subject g r → list_any (reifies_note note) triples ≡ true → IsDirectlyNotedUnder g s r
  to_noted under triples are h =
      let p = some_passes (reifies_note note) triples h in
      let parts = and_parts (not (is_own role.Note p.element)) (reifies_with note p.element) p.passes in
      record {
        note = is_note;
        under = under;
        triple = p.element;
        annotation = annotation under p.element (subst (λ (ts : List Triple). Contains ts p.element) are p.inside) parts.0;
        reified = reifies_is g note s p.element about ∙ parts.1;
      }

  from_noted : (n : IsDirectlyNotedUnder g s r) (triples : List Triple) → triples ≡ of_subject g r → list_any (reifies_note note) triples ≡ true
  from_noted n triples are =
      let of = of_note n.triple n.annotation in
      any_of (reifies_note note) triples n.triple (subst (λ (ts : List Triple). Contains ts n.triple) (sym are) of.0)
      (and_from (not (is_own role.Note n.triple)) (reifies_with note n.triple) (ap not (sym (own_is g n.triple r (from_subject g r n.triple of.0).1 n.under)) ∙ of.1)
      (sym (reifies_is g note s n.triple about) ∙ n.reified))

  pub noted_is : (answer : Bool) → role_of g r ≡ role.Note → (triples : List Triple) → triples ≡ of_subject g r → answer ≡ list_any (reifies_note note) triples
      → IsTrue answer ↔ IsDirectlyNotedUnder g s r
  noted_is answer under triples are e = (λ h. to_noted under triples are (sym e ∙ h), λ n. e ∙ from_noted n triples are)

  -- the source of a reification that is noted under a node is the node
  pub under_is_source : IsDirectlyNotedUnder g s r → Contains (objects_with word.AnnotatedSource note) r
  under_is_source n =
      let of = from_subject g r n.triple (of_note n.triple n.annotation).0 in
      let source = list_any (is_same n.triple.subject) (objects_with word.AnnotatedSource note) in
      let property = list_any (is_same (Iri n.triple.predicate)) (objects_with word.AnnotatedProperty note) in
      let target = list_any (is_same n.triple.object) (objects_with word.AnnotatedTarget note) in
      let named = and_parts (source && property) target (sym (reifies_is g note s n.triple about) ∙ n.reified) in
      let p = some_passes (is_same n.triple.subject) (objects_with word.AnnotatedSource note) (and_parts source property named.0).0 in
      subst (λ (y : Term). Contains (objects_with word.AnnotatedSource note) y) (sym (same_term n.triple.subject p.element p.passes) ∙ of.1) p.inside

-- while sources are passed
pub record AreUndersLeft (g : List Triple) (s : Term) (number : ℕ) (old now : List (List ℕ)) (left all : List Term) : Type 0 where
  pub each : length now ≡ length old
  pub ways : (i j : ℕ) → (Contains (successors now i) j ⊎ ((j ≡ number) × IsUnderIn g s left i)) ↔ (Contains (successors old i) j ⊎ ((j ≡ number) × IsUnderIn g s all i))

pub unders_first : (g : List Triple) (s : Term) (number : ℕ) (old : List (List ℕ)) (all : List Term) → AreUndersLeft g s number old old all all
unders_first g s number old all = record { each = refl; ways = λ i j. (λ h. h, λ h. h) }

pub unders_last : (g : List Triple) (s : Term) (number : ℕ) (old now : List (List ℕ)) (left all : List Term) → left ≡ [] → AreUndersLeft g s number old now left all → AddsUnders g s number old now all
unders_last g s number old now left all e h = record {
  each = h.each;
  ways = λ i j. (
    λ m. (h.ways i j).0 (inl m),
    λ k. elim ((h.ways i j).1 k) [ inl m ↦ m | inr o ↦ absurd (in_none o.1.term (subst (λ (ts : List Term). Contains ts o.1.term) e o.1.inside)) ],
  );
}

under_cases : (g : List Triple) (s x : Term) (behind : List Term) (i : ℕ) → IsUnderIn g s (x ∷ behind) i → (IsNode g x i × IsDirectlyNotedUnder g s x) ⊎ IsUnderIn g s behind i
under_cases g s x behind i u =
    elim (in_cases x behind u.term u.inside) [
      | inl e ↦ inl (subst (λ (y : Term). IsNode g y i) (sym e) u.node, subst (IsDirectlyNotedUnder g s) (sym e) u.noted)
      | inr m ↦ inr (record { term = u.term; inside = m; node = u.node; noted = u.noted })
    ]

under_behind : (g : List Triple) (s x : Term) (behind : List Term) (i : ℕ) → IsUnderIn g s behind i → IsUnderIn g s (x ∷ behind) i
under_behind g s x behind i u = record { term = u.term; inside = in_tail x behind u.term u.inside; node = u.node; noted = u.noted }

-- a way more
more_ways : (ways : List (List ℕ)) (from to i j : ℕ) → from < length ways → Contains (successors (with_way ways from to) i) j → Contains (successors ways i) j ⊎ ((i ≡ from) × (to ≡ j))
more_ways ways from to i j within m =
    elim (same_or_not i from) [
      | inl e ↦
          elim (Contains-push_cases (successors ways from) to j
          (subst (λ (ns : List ℕ). Contains ns j) (ap (successors (with_way ways from to)) e ∙ get_or-set_same ways from (successors ways from ++ to ∷ []) [] within) m)) [
            | inl k ↦ inl (subst (λ n. Contains (successors ways n) j) (sym e) k)
            | inr k ↦ inr (e, k)
          ]
      | inr n ↦ inl (subst (λ (ns : List ℕ). Contains ns j) (get_or-set_other ways from i (successors ways from ++ to ∷ []) [] n) m)
    ]

old_ways : (ways : List (List ℕ)) (from to i j : ℕ) → from < length ways → Contains (successors ways i) j → Contains (successors (with_way ways from to) i) j
old_ways ways from to i j within m =
    elim (same_or_not i from) [
      | inl e ↦
          subst (λ (ns : List ℕ). Contains ns j) (sym (ap (successors (with_way ways from to)) e ∙ get_or-set_same ways from (successors ways from ++ to ∷ []) [] within))
          (Contains-append_left (successors ways from) (to ∷ []) j (subst (λ n. Contains (successors ways n) j) e m))
      | inr n ↦ subst (λ (ns : List ℕ). Contains ns j) (sym (get_or-set_other ways from i (successors ways from ++ to ∷ []) [] n)) m
    ]

new_way : (ways : List (List ℕ)) (from to : ℕ) → from < length ways → Contains (successors (with_way ways from to) from) to
new_way ways from to within =
    subst (λ (ns : List ℕ). Contains ns to) (sym (get_or-set_same ways from (successors ways from ++ to ∷ []) [] within)) (Contains-push (successors ways from) to)

module _ {g : List Triple} {s : Term} {number : ℕ} {old now : List (List ℕ)} {left behind all : List Term} {x : Term} (h : AreUndersLeft g s number old now left all) (e : left ≡ x ∷ behind) where
  here : AreUndersLeft g s number old now (x ∷ behind) all
  here = subst (λ (ts : List Term). AreUndersLeft g s number old now ts all) e h

  passes_none : ((i : ℕ) → IsNode g x i → IsDirectlyNotedUnder g s x → ⊥) → AreUndersLeft g s number old now behind all
  passes_none none = record {
    each = h.each;
    ways = λ i j. (
      λ k. (here.ways i j).0 (elim k [ inl m ↦ inl m | inr u ↦ inr (u.0, under_behind g s x behind i u.1) ]),
      λ k. elim ((here.ways i j).1 k) [
        | inl m ↦ inl m
        | inr u ↦ elim (under_cases g s x behind i u.1) [ inl n ↦ absurd (none i n.0 n.1) | inr b ↦ inr (u.0, b) ]
      ],
    );
  }

  pub under_not_noted : (IsDirectlyNotedUnder g s x → ⊥) → AreUndersLeft g s number old now behind all
  under_not_noted n = passes_none (λ i node noted. n noted)

  pub under_no_node : IsNumber g x None → AreUndersLeft g s number old now behind all
  under_no_node n = passes_none (λ i node noted. n i node)

  pub under_found : (from : ℕ) → IsNode g x from → IsDirectlyNotedUnder g s x → from < length now → AreUndersLeft g s number old (with_way now from number) behind all
  under_found from node noted within = record {
    each = length-set now from (successors now from ++ number ∷ []) ∙ h.each;
    ways = λ i j. (
      λ k. elim k [
        | inl m ↦ elim (more_ways now from number i j within m) [
          | inl o ↦ (here.ways i j).0 (inl o)
          | inr n ↦ (here.ways i j).0 (inr (sym n.1, record { term = x; inside = in_head x behind; node = subst (IsNode g x) (sym n.0) node; noted = noted }))
        ]
        | inr u ↦ (here.ways i j).0 (inr (u.0, under_behind g s x behind i u.1))
      ],
      λ k. elim ((here.ways i j).1 k) [
        | inl m ↦ inl (old_ways now from number i j within m)
        | inr u ↦ elim (under_cases g s x behind i u.1) [
          | inl n ↦
              inl (subst (λ a. Contains (successors (with_way now from number) a) j) (one_number g x from i node n.0)
              (subst (λ b. Contains (successors (with_way now from number) from) b) (sym u.0) (new_way now from number within)))
          | inr b ↦ inr (u.0, b)
        ]
      ],
    );
  }

-- from node to node

less_of : (j count : ℕ) → j < suc count → (j ≡ count → ⊥) → j < count
less_of j count h n = omega (arith, n)

below_next : (j count : ℕ) → j < suc count → (j < count) ⊎ (j ≡ count)
below_next j count h = elim (same_or_not j count) [ inl e ↦ inr e | inr n ↦ inl (less_of j count h n) ]

module _ (g : List Triple) (count : ℕ) (old : List (List ℕ)) (are : AreWays g count old) where
  passes_node : ((i : ℕ) → IsWayToNote g i count → ⊥) → AreWays g (suc count) old
  passes_node none = record {
    each = are.each;
    leads = λ i j. (
      λ m. elim ((are.leads i j).0 m) [ inl d ↦ inl d | inr n ↦ inr (omega (arith, n.0), n.1) ],
      λ w. elim w [
        | inl d ↦ (are.leads i j).1 (inl d)
        | inr n ↦ elim (below_next j count n.0) [
          | inl h ↦ (are.leads i j).1 (inr (h, n.1))
          | inr e ↦ absurd (none i (subst (IsWayToNote g i) e n.1))
        ]
      ],
    );
  }

  pub no_node_is_noted : slice_get (blank_nodes g) count ≡ None → AreWays g (suc count) old
  no_node_is_noted e = passes_node (λ i w. let none : Some w.to ≡ None = sym w.to_at ∙ e in cc)

  pub other_is_not_noted : (label : List ℕ) → slice_get (blank_nodes g) count ≡ Some label → (role_of g (Blank label) ≡ role.Note → ⊥) → AreWays g (suc count) old
  other_is_not_noted label at n =
      passes_node (λ i w. n (ap (λ l. role_of g (Blank l)) (same_Some label w.to (sym at ∙ w.to_at)) ∙ w.noted.note))

  pub note_is_noted : (label : List ℕ) → slice_get (blank_nodes g) count ≡ Some label → role_of g (Blank label) ≡ role.Note → (note : List Triple) → note ≡ of_subject g (Blank label)
      → (new : List (List ℕ)) → AddsUnders g (Blank label) count old new (objects_with word.AnnotatedSource note) → AreWays g (suc count) new
  note_is_noted label at is_note note about new adds = record {
    each = adds.each ∙ are.each;
    leads = λ i j. (
      λ m. elim ((adds.ways i j).0 m) [
        | inl o ↦ elim ((are.leads i j).0 o) [ inl d ↦ inl d | inr n ↦ inr (omega (arith, n.0), n.1) ]
        | inr u ↦ inr (
          omega (arith, u.0),
          record {
            from = u.1.node.label;
            to = label;
            from_at = u.1.node.at;
            to_at = ap (slice_get (blank_nodes g)) u.0 ∙ at;
            noted = subst (IsDirectlyNotedUnder g (Blank label)) u.1.node.is u.1.noted;
          },
        )
      ],
      λ w. elim w [
        | inl d ↦ (adds.ways i j).1 (inl ((are.leads i j).1 (inl d)))
        | inr n ↦ elim (below_next j count n.0) [
          | inl h ↦ (adds.ways i j).1 (inl ((are.leads i j).1 (inr (h, n.1))))
          | inr e ↦
              let noted = subst (λ l. IsDirectlyNotedUnder g (Blank l) (Blank n.1.from))
              (same_Some n.1.to label (sym n.1.to_at ∙ ap (slice_get (blank_nodes g)) e ∙ at)) n.1.noted in
              (adds.ways i j).1 (inr (
                e,
                record {
                  term = Blank n.1.from;
                  inside = under_is_source g note (Blank label) (Blank n.1.from) about is_note noted;
                  node = record { label = n.1.from; is = refl; at = n.1.from_at };
                  noted = noted;
                },
              ))
        ]
      ],
    );
  }

pub all_ways : (g : List Triple) (count : ℕ) (ways : List (List ℕ)) → count ≡ length (blank_nodes g) → AreWays g count ways → AreEdges g ways
all_ways g count ways e are = record {
  each = are.each;
  leads = λ i j. (
    λ m. elim ((are.leads i j).0 m) [
      | inl d ↦ record { from = d.from; to = d.to; from_at = d.from_at; to_at = d.to_at; leads = inl d.below }
      | inr n ↦ record { from = n.1.from; to = n.1.to; from_at = n.1.from_at; to_at = n.1.to_at; leads = inr n.1.noted }
    ],
    λ b. by i j b b.leads,
  );
}
  where
    by : (i j : ℕ) (b : LeadsBetween g i j) → (Rattle.rdf_meaning.specs.Statements.IsDirectlyBelow g (Blank b.to) (Blank b.from)) ⊎ IsDirectlyNotedUnder g (Blank b.to) (Blank b.from)
        → Contains (successors ways i) j
    by i j b (inl d) = (are.leads i j).1 (inl (record { from = b.from; to = b.to; from_at = b.from_at; to_at = b.to_at; below = d }))
    by i j b (inr n) =
        (are.leads i j).1 (inr (
          subst (λ c. j < c) (sym e) (slice_get_within (blank_nodes g) j b.to b.to_at),
          record { from = b.from; to = b.to; from_at = b.from_at; to_at = b.to_at; noted = n },
        ))

pub same_size : {Z : Type 0} (new old : List (Vec ℕ Z)) (from to : ℕ) → edges_of new ≡ with_way (edges_of old) from to → length new ≡ length old
same_size new old from to e =
    sym (graph_size new) ∙ ap length e ∙ length-set (edges_of old) from (successors (edges_of old) from ++ to ∷ []) ∙ graph_size old

-- the ways of a node as they are lent
pub lent_ways : {Z : Type 0} (all : List (Vec ℕ Z)) (from : ℕ) (nexts : Vec ℕ Z) → from < length all → nexts ≡ slice_index_or all from nexts
    → nexts.items ≡ successors (edges_of all) from
lent_ways [] from nexts h e = absurd (omega arith)
lent_ways (first ∷ all) zero nexts h e = ap (λ nodes. nodes.items) e
lent_ways (first ∷ all) (suc from) nexts h e = lent_ways all from nexts (omega arith) e
