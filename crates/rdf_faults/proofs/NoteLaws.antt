-- In a graph that says an ontology each annotation triple says an annotation.
use Rattle.std.specs.Prelude.{◌≡◌, ◌≤◌, ◌⊎◌, ℕ, zero, suc, Bool, true, false, not, ◌&&◌, ◌||◌, List, [], ◌∷◌, Contains, IsTrue, is_some, length}
use Rattle.std.proofs.Common.{inl, inr, refl, sym, ap, ◌∙◌, subst, arith}
use Rattle.std.proofs.lemmas.Bool.{and_from, and_parts, not-true, or_cases}
use Rattle.owl_list.proofs.AscendingLaws.{in_cases, in_head, in_none, in_tail}
use Rattle.owl_kind.specs.Kinds.{Entity}
use Rattle.owl_tree.specs.Ontologies.{Ontology}
use Rattle.owl_tree.specs.Trees.{Tree}
use Rattle.rdf_graph.specs.declared.term.Term.{Term}
use Rattle.rdf_graph.specs.declared.triple.Triple.{Triple}
use Rattle.owl_list.proofs.FilterLaws.{in_filter}
use Rattle.rdf_meaning.proofs.ListLaws.{no_less, one_at_least}
use Rattle.rdf_meaning.specs.declared.role.Role.TheVariants as role
use Rattle.rdf_meaning.specs.Nodes.{is_role, is_same, is_structural, nodes_of, of_subject, role_of}
use Rattle.rdf_meaning.proofs.NodeLaws.{in_subject, nodes_are, own_term, same_term}
use Rattle.rdf_meaning.proofs.RowLaws.{same_role}
use Rattle.rdf_meaning.proofs.AxiomLaws.{triples_have_notes}
use Rattle.rdf_meaning.proofs.StatementLaws.{variants_are}
use Rattle.rdf_meaning.specs.Statements.{Annotates, AreSets, no_set, set, HasNote, InSteps, one_step, one_more, IsDirectlyNotedUnder, an_axiom, an_annotation, Says, Variants, header_notes, is_annotation_triple, noters, notes, notes_of, reifies}
use Rattle.rdf_faults.specs.Asked.{IsTypedNote}
use Rattle.rdf_faults.proofs.MeantLaws.{node_axiom, triple_axiom}

-- which triple is an annotation

first_of_four : (a b c d : Bool) → a && b && c && d ≡ true → a ≡ true
first_of_four true b c d h = refl
first_of_four false b c d h = cc

-- the triple is one of the header, of a node that stands for an axiom, or of a reification
pub data IsAnnotationOf (g : List Triple) (header : Term) (t : Triple) : Type 0 where
  of_header : t.subject ≡ header → IsAnnotationOf g header t
  of_axiom : role_of g t.subject ≡ role.Main → is_structural g t ≡ false → IsAnnotationOf g header t
  of_note : role_of g t.subject ≡ role.Note → is_structural g t ≡ false → IsAnnotationOf g header t

pub annotation_of : (g : List Triple) (k : List Entity) (header : Term) (t : Triple) → is_annotation_triple g k header t ≡ true → IsAnnotationOf g header t
unfolding is_annotation_triple
annotation_of g k header t h =
    let r = role_of g t.subject in
    elim (or_cases _ ((is_role role.Main r || is_role role.Note r) && not (is_structural g t)) h) [
      | inl head ↦ of_header (same_term t.subject header (first_of_four (is_same t.subject header) _ _ _ head))
      | inr other ↦
          let parts = and_parts (is_role role.Main r || is_role role.Note r) (not (is_structural g t)) other in
          elim (or_cases (is_role role.Main r) (is_role role.Note r) parts.0) [
            | inl m ↦ of_axiom (sym (same_role role.Main r m)) (not-true _ parts.1)
            | inr n ↦ of_note (sym (same_role role.Note r n)) (not-true _ parts.1)
          ]
    ]

pub in_notes_of : (g : List Triple) (t : Triple) → Contains g t → is_structural g t ≡ false → Contains (notes_of g t.subject) t
unfolding notes_of
in_notes_of g t m n = in_filter (λ u. not (is_structural g u)) (of_subject g t.subject) t (in_subject g t.subject t m refl) (ap not n)

-- and of its sets one is of each reification of it with annotations

abbrev has_some : List Triple → Bool
has_some [] = false
has_some (u ∷ us) = true

some_there : (us : List Triple) (u : Triple) → Contains us u → has_some us ≡ true
some_there [] u m = absurd (in_none u m)
some_there (v ∷ us) u m = refl

pub in_noters : (g : List Triple) (s : Term) (t u : Triple) → role_of g s ≡ role.Note → reifies g s t ≡ true → Contains (notes_of g s) u → Contains (noters g t) s
unfolding noters
in_noters g s t u e r m =
    in_filter _ (nodes_of g role.Note) s ((nodes_are g role.Note s (λ f. cc)).1 e)
    (and_from (reifies g s t) _ r (some_there (notes_of g s) u m))

module _ (g : List Triple) (k : List Entity) where
  -- the annotations of a term, whose set is one of these
  pub record HasSet (sets : List Tree) (s : Term) : Type 0 where
    pub trees : List Tree
    pub annotates : Annotates g k (notes_of g s) trees
    pub among : Contains sets (notes trees)

  each_set : (rs : List Term) (sets : List Tree) → AreSets g k rs sets → (s : Term) → Contains rs s → HasSet sets s
  each_set _ _ (no_set) s m = absurd (in_none s m)
  each_set _ _ (set r rs ts sets a h) s m =
      elim (in_cases r rs s m) [
        | inl e ↦ subst (HasSet (notes ts ∷ sets)) e (record { trees = ts; annotates = a; among = in_head (notes ts) sets })
        | inr n ↦
            let own = each_set rs sets h s n in
            record { trees = own.trees; annotates = own.annotates; among = in_tail (notes ts) sets (notes own.trees) own.among }
      ]

  pub set_of : (t : Triple) (sets : List Tree) → Variants g k t sets → (s : Term) → Contains (noters g t) s → HasSet sets s
  set_of t sets h s m =
      elim (variants_are g k t sets h) [
        | inl bare ↦ absurd (in_none s (subst (λ rs. Contains rs s) bare.0 m))
        | inr n ↦ each_set (n.by ∷ n.more) sets n.are_sets s (subst (λ rs. Contains rs s) n.noters m)
      ]

  -- the annotations of a reification say something where what it reifies does
  reified_says : (s : Term) (t u : Triple) (sets : List Tree) → role_of g s ≡ role.Note → reifies g s t ≡ true → Variants g k t sets → Contains (notes_of g s) u → HasNote g k u
  reified_says s t u sets e r h m =
      let own = set_of t sets h s (in_noters g s t u e r m) in
      (triples_have_notes g k (notes_of g s)).0 (own.trees, own.annotates) u m

-- a list without one of its elements
pub record IsWithout {A : Type 0} (xs : List A) (x : A) : Type 0 where
  pub rest : List A
  pub longer : length xs ≡ suc (length rest)
  pub others : (y : A) → Contains xs y → (x ≡ y) ⊎ Contains rest y

pub without : {A : Type 0} (xs : List A) (x : A) → Contains xs x → IsWithout xs x
without [] x m = absurd (in_none x m)
without (y ∷ xs) x m =
    elim (in_cases y xs x m) [
      | inl e ↦
          record { rest = xs; longer = refl; others = λ z n. elim (in_cases y xs z n) [ inl f ↦ inl (sym e ∙ f) | inr l ↦ inr l ] }
      | inr n ↦
          let w = without xs x n in
          record {
            rest = y ∷ w.rest;
            longer = ap suc w.longer;
            others = λ z l.
                elim (in_cases y xs z l) [
                  | inl f ↦ inr (subst (λ v. Contains (y ∷ w.rest) v) f (in_head y w.rest))
                  | inr i ↦ elim (w.others z i) [ inl f ↦ inl f | inr j ↦ inr (in_tail y w.rest z j) ]
                ];
          }
    ]

pub one_further : (step : Term → Term → Type 0) (y x z : Term) → InSteps step y x → step x z → InSteps step y z
one_further step _ _ z (one_step y x s) last = one_more y x z s (one_step x z last)
one_further step _ _ z (one_more y w x s h) last = one_more y w z s (one_further step w x z h last)

-- in a graph that says an ontology

module _ (g : List Triple) (k : List Entity) (o : Ontology) (h : Says g k o) where
  header_note : (t : Triple) → Contains g t → t.subject ≡ h.states.header → is_annotation_triple g k h.states.header t ≡ true → HasNote g k t
  unfolding header_notes
  header_note t m e a =
      (triples_have_notes g k (header_notes g k h.states.header)).0 (h.states.notes_in, h.states.are_notes) t
      (in_filter (λ u. is_same u.subject h.states.header && is_annotation_triple g k h.states.header u) g t m
      (and_from (is_same t.subject h.states.header) _ (ap (λ y. is_same y h.states.header) e ∙ own_term h.states.header) a))

  main_note : (t : Triple) → Contains g t → role_of g t.subject ≡ role.Main → is_structural g t ≡ false → HasNote g k t
  main_note t m e n =
      let is = node_axiom g k o h t.subject e in
      (triples_have_notes g k (notes_of g t.subject)).0 (is.annotations, is.annotates) t (in_notes_of g t m n)

  -- each reification is in the list, or on the way up to this one
  abbrev IsLeft : List Term → Term → Type 0
  IsLeft left s = (v : Term) → Contains (nodes_of g role.Note) v → Contains left v ⊎ InSteps (IsDirectlyNotedUnder g) v s

  in_left : (left : List Term) (s : Term) → role_of g s ≡ role.Note → IsLeft left s → Contains left s
  in_left left s e seen =
      elim (seen s ((nodes_are g role.Note s (λ f. cc)).1 e)) [ inl m ↦ m | inr c ↦ absurd (h.whole.no_cycle_of_notes s c) ]

  -- Up from a reification the list gets shorter, since none is met twice.
  fewer : (left : List Term) (s p : Term) (w : IsWithout left s) → IsLeft left s → IsDirectlyNotedUnder g s p → IsLeft w.rest p
  fewer left s p w seen up v m =
      elim (seen v m) [
        | inl n ↦
            elim (w.others v n) [
              | inl e ↦ inr (subst (λ y. InSteps (IsDirectlyNotedUnder g) y p) e (one_step s p up))
              | inr i ↦ inl i
            ]
        | inr c ↦ inr (one_further (IsDirectlyNotedUnder g) v s p c up)
      ]

  notes_above : (Q : Term → Type 0) → ((s : Term) → role_of g s ≡ role.Note → ((p : Term) → role_of g p ≡ role.Note → IsDirectlyNotedUnder g s p → Q p) → Q s) → (n : ℕ) (left : List Term) → length left ≡ n → (s : Term) → role_of g s ≡ role.Note → IsLeft left s → Q s
  notes_above Q closed zero left c s e seen = absurd (no_less (subst (λ n. 1 ≤ n) c (one_at_least left s (in_left left s e seen))))
  notes_above Q closed (suc n) left c s e seen =
      let w = without left s (in_left left s e seen) in
      let count : length w.rest ≡ n = omega (arith, c, w.longer) in
      closed s e (λ p f up. notes_above Q closed n w.rest count p f (fewer left s p w seen up))

  -- what is true of a reification where it is true of those under which it is noted is true of each
  pub by_notes_above : (Q : Term → Type 0) → ((s : Term) → role_of g s ≡ role.Note → ((p : Term) → role_of g p ≡ role.Note → IsDirectlyNotedUnder g s p → Q p) → Q s) → (s : Term) → role_of g s ≡ role.Note → Q s
  by_notes_above Q closed s e =
      notes_above Q closed (length (nodes_of g role.Note)) (nodes_of g role.Note) refl s e (λ v i. inl i)

  -- where the annotations that it reifies say something, so do its own
  note_from : (s : Term) → role_of g s ≡ role.Note → ((p : Term) → role_of g p ≡ role.Note → IsDirectlyNotedUnder g s p → (t : Triple) → Contains (notes_of g p) t → HasNote g k t) → (u : Triple) → Contains (notes_of g s) u → HasNote g k u
  note_from s e above u m =
      elim (h.whole.reifications s ((nodes_are g role.Note s (λ f. cc)).1 e)) [
        | an_axiom t n r ↦ let is = triple_axiom g k o h t n in reified_says g k s t u is.sets e r is.variants m
        | an_annotation t n a r ↦
            let is : HasNote g k t =
            elim (annotation_of g k h.states.header t a) [
              | of_header f ↦ header_note t n f a
              | of_axiom f no_part ↦ main_note t n f no_part
              | of_note f no_part ↦
                  let own = in_notes_of g t n no_part in
                  above t.subject f (record { note = e; under = f; triple = t; annotation = own; reified = r }) t own
            ] in
            reified_says g k s t u is.sets e r is.variants m
      ]

  note_says : (s : Term) → role_of g s ≡ role.Note → (u : Triple) → Contains (notes_of g s) u → HasNote g k u
  note_says = by_notes_above (λ s. (u : Triple) → Contains (notes_of g s) u → HasNote g k u) note_from

  pub note_said : (t : Triple) → Contains g t → IsTrue (is_annotation_triple g k h.states.header t) → HasNote g k t
  note_said t m a =
      elim (annotation_of g k h.states.header t a) [
        | of_header f ↦ header_note t m f a
        | of_axiom f n ↦ main_note t m f n
        | of_note f n ↦ note_says t.subject f t (in_notes_of g t m n)
      ]

  pub note_typed : (t : Triple) → Contains g t → IsTrue (is_annotation_triple g k h.states.header t) → IsTypedNote g k t
  note_typed t m a =
      let is = note_said t m a in
      record { property = ap is_some is.is_property; value = ap is_some is.is_value }
