-- The lists of a graph whose cells are well formed and that has no cycle.
use Rattle.std.specs.Prelude.{◌≡◌, ◌↔◌, ◌⊎◌, ◌≤◌, ◌<◌, ◌+◌, ℕ, zero, suc, Bool, false, IsTrue, List, [], ◌∷◌, ◌++◌, Contains, IfSome, IsNone, Option, None, Some, length, map, option_map, slice_get}
use Rattle.std.specs.List.{AllByRecursion}
use Rattle.std.proofs.Common.{inl, inr, refl, sym, ap, ◌∙◌, subst, arith}
use Rattle.std.proofs.lemmas.Bool.{both_ways}
use Rattle.std.proofs.lemmas.List.{append-nil, length-append, length-map}
use Rattle.std.proofs.lemmas.Option.{same_Some}
use Rattle.owl_list.proofs.AscendingLaws.{in_map}
use Rattle.rdf_graph.specs.declared.term.Term.{Term}
use Rattle.rdf_graph.specs.declared.term.Term.TheVariants.{Iri, Blank, Literal}
use Rattle.rdf_graph.specs.declared.triple.Triple.{Triple}
use Rattle.rdf_meaning.proofs.ListLaws.{same_only}
use Rattle.rdf_meaning.proofs.DenotationLaws.{no_nil}
use Rattle.rdf_meaning.specs.declared.role.Role.TheVariants as role
use Rattle.rdf_meaning.specs.declared.word.Word.TheVariants as word
use Rattle.rdf_meaning.specs.Nodes.{chosen, nil_iri, of_subject, role_of}
use Rattle.rdf_meaning.specs.Statements.{InSteps, one_step, one_more, IsCell, IsDirectlyBelow}
use Rattle.rdf_faults.specs.Asked.{HasElements, no_element, element, IsListOf}
use Rattle.rdf_faults.proofs.BelowLaws.{elements_are, rest_below}
use Rattle.rdf_faults.specs.DecidedLaws.{stable}
use Rattle.rdf_faults.proofs.DecidedFormLaws.{decided_formed}
use Rattle.rdf_faults.specs.Faults.{IsBadCell, IsCyclic}
use Rattle.rdf_faults.specs.Firsts.{HoldsForNone}
use Rattle.rdf_faults.specs.Formed.{IsFormedAs}
use Rattle.rdf_faults.proofs.NoteLaws.{IsWithout, without}
use Rattle.rdf_faults.proofs.WayDownLaws.{none_below}
use Rattle.rdf_rows.specs.Chosen.{the_cell}
use Rattle.rdf_rows.proofs.NodeTripleLaws.{cell_is, chosen_is}
use Rattle.rdf_roles.specs.Refusals.{AreNodesFormed}
use Rattle.rdf_roles.specs.Tables.{blank_nodes}
use Rattle.rdf_roles.proofs.WayLaws.{numbered_by_role, structural_node}

holds_for_none_at : {X : Type 0} (P : X → Type 0) (all : List X) (n : ℕ) (x : X) → HoldsForNone P all → slice_get all n ≡ Some x → P x → ⊥
holds_for_none_at P [] n x none e p = cc
holds_for_none_at P (y ∷ all) zero x none e p = none.0 (subst P (sym (same_Some y x e)) p)
holds_for_none_at P (y ∷ all) (suc n) x none e p = holds_for_none_at P all n x none.1 e p

blank_label : (a b : List ℕ) → Blank a ≡ Blank b → a ≡ b
blank_label a b e = cc

-- how far a list has been walked
pub record IsWalked (g : List Triple) (test : Term → Bool) (x : Term) (count : ℕ) (y : Term) : Type 0 where
  pub before : List Term
  pub counted : length before ≡ count
  pub each : AllByRecursion (λ z. IsTrue (test z)) before
  pub onward : (more : List Term) → HasElements g y more → HasElements g x (before ++ more)
  pub back : (ys : List Term) → HasElements g x ys → (more : List Term) × HasElements g y more × (ys ≡ before ++ more)

pub all_more : {X : Type 0} (P : X → Type 0) (xs ys : List X) → AllByRecursion P xs → AllByRecursion P ys → AllByRecursion P (xs ++ ys)
all_more P [] ys f h = h
all_more P (x ∷ xs) ys f h = (f.0, all_more P xs ys f.1 h)

pub all_behind : {X : Type 0} (P : X → Type 0) (xs ys : List X) → AllByRecursion P (xs ++ ys) → AllByRecursion P ys
all_behind P [] ys h = h
all_behind P (x ∷ xs) ys h = all_behind P xs ys h.1

joined : {X : Type 0} (xs : List X) (x : X) (ys : List X) → (xs ++ x ∷ []) ++ ys ≡ xs ++ x ∷ ys
joined [] x ys = refl
joined (z ∷ xs) x ys = ap (λ more. z ∷ more) (joined xs x ys)

module _ {g : List Triple} {test : Term → Bool} {x : Term} {count : ℕ} {y : Term} (w : IsWalked g test x count y) where
  -- what is left at a cell begins with its first
  at_cell : (first rest : Term) → role_of g y ≡ role.List → chosen g y word.First ≡ first ∷ [] → chosen g y word.Rest ≡ rest ∷ [] → (ys : List Term) → HasElements g x ys
      → (more : List Term) × HasElements g rest more × (ys ≡ w.before ++ first ∷ more)
  at_cell first rest e f r ys h =
      let left = w.back ys h in
      elim (elements_are g y left.0 left.1) [
        | inl empty ↦ absurd (no_nil g y empty.0 e)
        | inr c ↦
            let same = same_only c.first first (sym c.one_first ∙ f) in
            let behind = same_only c.rest rest (sym c.one_rest ∙ r) in
            (c.more, subst (λ z. HasElements g z c.more) behind c.has_elements, left.2 ∙ ap (λ more. w.before ++ more) (c.joined ∙ ap (λ z. z ∷ c.more) same))
      ]

  pub walk_goes_on : (first rest : Term) (next : ℕ) → role_of g y ≡ role.List → chosen g y word.First ≡ first ∷ [] → chosen g y word.Rest ≡ rest ∷ [] → IsTrue (test first)
      → next ≡ count + 1 → IsWalked g test x next rest
  walk_goes_on first rest next e f r t n = record {
    before = w.before ++ first ∷ [];
    counted = omega (arith, length-append w.before (first ∷ []), w.counted, n);
    each = all_more (λ z. IsTrue (test z)) w.before (first ∷ []) w.each (t, tt);
    onward = λ more h. subst (HasElements g x) (sym (joined w.before first more)) (w.onward (first ∷ more) (element y first rest more e f r h));
    back = λ ys h. let left = at_cell first rest e f r ys h in (left.0, left.1, left.2 ∙ sym (joined w.before first left.0));
  }

  pub walk_fails : (first rest : Term) (least : ℕ) → role_of g y ≡ role.List → chosen g y word.First ≡ first ∷ [] → chosen g y word.Rest ≡ rest ∷ [] → test first ≡ false
      → IsTrue false ↔ IsListOf g test least x
  walk_fails first rest least e f r t = (
    λ h. cc,
    λ l.
        let left = at_cell first rest e f r l.elements l.has_elements in
        absurd (both_ways (test first) t (all_behind (λ z. IsTrue (test z)) w.before (first ∷ left.0) (subst (AllByRecursion (λ z. IsTrue (test z))) left.2 l.each)).0),
  )

  -- at what is no cell the list ends, if it is one
  at_end : (role_of g y ≡ role.List → ⊥) → (ys : List Term) → HasElements g x ys → (y ≡ Iri nil_iri) × (ys ≡ w.before)
  at_end n ys h =
      let left = w.back ys h in
      elim (elements_are g y left.0 left.1) [
        | inl empty ↦ (empty.0, left.2 ∙ ap (λ more. w.before ++ more) empty.1 ∙ append-nil w.before)
        | inr c ↦ absurd (n c.list)
      ]

  pub walk_ends : (least : ℕ) (is_nil : Bool) → least ≤ count → (role_of g y ≡ role.List → ⊥) → IsTrue is_nil ↔ (y ≡ Iri nil_iri) → IsTrue is_nil ↔ IsListOf g test least x
  walk_ends least is_nil enough n nil = (
    λ h. record {
      elements = w.before;
      has_elements = subst (HasElements g x) (append-nil w.before) (w.onward [] (no_element y (nil.0 h)));
      many = subst (λ n. least ≤ n) (sym w.counted) enough;
      each = w.each;
    },
    λ l. nil.1 (at_end n l.elements l.has_elements).0,
  )

module _ (g : List Triple) (formed : AreNodesFormed g) where
  -- what is so of no node in the table is so of no node with a role
  no_node : (P : List ℕ → Type 0) → HoldsForNone P (blank_nodes g) → (label : List ℕ) → (role_of g (Blank label) ≡ role.Individual → ⊥) → P label → ⊥
  no_node P none label some p =
      let n = numbered_by_role g (Blank label) some in
      holds_for_none_at P (blank_nodes g) n.number n.label none n.at (subst P (blank_label label n.label n.is) p)

  first_step : (step : Term → Term → Type 0) (y x : Term) → InSteps step y x → (z : Term) × step z x
  first_step step _ _ (one_step y x s) = (y, s)
  first_step step _ _ (one_more y z x s h) = first_step step z x h

  pub acyclic : (label : List ℕ) → IsCyclic g label → ⊥
  acyclic label (inl h) =
      let b = (first_step (IsDirectlyBelow g) (Blank label) (Blank label) h).1 in
      no_node (IsCyclic g) formed.no_cycle label (λ e. structural_node g b.triple b.structural (ap (role_of g) b.subject ∙ e)) (inl h)
  acyclic label (inr h) =
      let n = (first_step _ (Blank label) (Blank label) h).1 in
      no_node (IsCyclic g) formed.no_cycle label (λ e. let same : role.Note ≡ role.Individual = sym n.under ∙ e in cc) (inr h)

  pub cells : (x : Term) → role_of g x ≡ role.List → IsCell g x
  cells (Blank label) e =
      stable (decided_formed g role.List (Blank label)) (λ n.
      no_node (IsBadCell g) formed.cells label (λ i. let same : role.List ≡ role.Individual = sym e ∙ i in cc)
      (record { cell = e; not_formed = λ f. n (subst (λ r. IsFormedAs g r (Blank label)) e f) }))
  cells (Iri iri) e = cc
  cells (Literal literal) e = cc

  abbrev IsNext : Term → Term → Type 0
  IsNext = IsDirectlyBelow g

  -- each node is in the list, or on the way down to this one
  abbrev IsLeft : List Term → Term → Type 0
  IsLeft left x = (v : Term) → Contains (map (λ t. t.subject) g) v → Contains left v ⊎ InSteps IsNext x v

  in_left : (left : List Term) (x y : Term) → IsNext y x → IsLeft left x → Contains left x
  in_left left x y b seen =
      elim (seen x (subst (λ z. Contains (map (λ t. t.subject) g) z) b.subject (in_map (λ t. t.subject) g b.triple b.inside))) [
        | inl n ↦ n
        | inr c ↦ absurd (none_below g acyclic x c)
      ]

  fewer : (left : List Term) (x y : Term) (w : IsWithout left x) → IsLeft left x → IsNext y x → IsLeft w.rest y
  fewer left x y w seen down v m =
      elim (seen v m) [
        | inl n ↦ elim (w.others v n) [ inl e ↦ inr (subst (InSteps IsNext y) e (one_step y x down)) | inr i ↦ inl i ]
        | inr c ↦ inr (one_more y x v down c)
      ]

  few_left : (x : Term) (ys : List Term) → HasElements g x ys → (left : List Term) → IsLeft left x → length ys ≤ length left
  few_left _ _ (no_element x e) left seen = omega arith
  few_left _ _ (element x first rest more l f r h) left seen =
      let b = rest_below g x rest l r in
      let w = without left x (in_left left x rest b seen) in
      let less : length more ≤ length w.rest = few_left rest more h w.rest (fewer left x rest w seen b) in
      omega (arith, less, w.longer)

  -- a list has no more elements than the graph has triples
  pub few_elements : (x : Term) (ys : List Term) → HasElements g x ys → length ys ≤ length g
  few_elements x ys h =
      let less : length ys ≤ length (map (λ t. t.subject) g) = few_left x ys h (map (λ t. t.subject) g) (λ v m. inl m) in
      subst (λ n. length ys ≤ n) (length-map g (λ t. t.subject)) less

  -- in a walk there are as many more elements as are left
  few_more : {test : Term → Bool} {x : Term} {count : ℕ} {y : Term} → IsWalked g test x count y → (more : List Term) → HasElements g y more → count + length more ≤ length g
  few_more {x = x} w more h =
      let few : length (w.before ++ more) ≤ length g = few_elements x (w.before ++ more) (w.onward more h) in
      omega (arith, few, length-append w.before more, w.counted)

  -- so after more steps than the graph has triples what was walked is no list
  pub walk_is_long : {test : Term → Bool} {x : Term} {count : ℕ} {y : Term} → IsWalked g test x count y → length g < count → (least : ℕ) → IsTrue false ↔ IsListOf g test least x
  walk_is_long w long least = (
    λ h. cc,
    λ l.
        let left = w.back l.elements l.has_elements in
        let few = few_more w left.0 left.1 in
        absurd (omega (arith, few, long)),
  )

module _ (g : List Triple) (x : Term) (triples : List Triple) (about : triples ≡ of_subject g x) {B : Type 0} (now : B → Term × Term) where
  pub cell_told : (o : Option B) → option_map now o ≡ the_cell triples → role_of g x ≡ role.List
      → IfSome o (λ c. (role_of g x ≡ role.List) × (chosen g x word.First ≡ (now c).0 ∷ []) × (chosen g x word.Rest ≡ (now c).1 ∷ []))
  cell_told None e l = tt
  cell_told (Some c) e l =
      let one = (cell_is (of_subject g x) (now c).0 (now c).1).0 (sym (e ∙ ap the_cell about)) in
      (l, chosen_is g x word.First ∙ one.0, chosen_is g x word.Rest ∙ one.1)

  no_pair : (cell : Term × Term) → None ≡ Some cell → ⊥
  no_pair cell e = cc

  no_cell : None ≡ the_cell triples → IsCell g x → ⊥
  no_cell e k =
      let one = (cell_is (of_subject g x) k.first k.rest).1 (sym (chosen_is g x word.First) ∙ k.one_first, sym (chosen_is g x word.Rest) ∙ k.one_rest) in
      no_pair (k.first, k.rest) (e ∙ ap the_cell about ∙ one)

  some_is_some : (c : B) → IsNone (Some c) → ⊥
  some_is_some c n = cc

  pub no_cell_told : (o : Option B) → option_map now o ≡ the_cell triples → AreNodesFormed g → IsNone o → role_of g x ≡ role.List → ⊥
  no_cell_told None e formed n l = no_cell e (cells g formed x l)
  no_cell_told (Some c) e formed n l = absurd (some_is_some c n)

-- a term has the elements of one list at most
pub same_elements : (g : List Triple) (x : Term) (ys zs : List Term) → HasElements g x ys → HasElements g x zs → ys ≡ zs
same_elements g _ _ zs (no_element x e) k =
    elim (elements_are g x zs k) [
      | inl empty ↦ sym empty.1
      | inr c ↦ absurd (no_nil g x e c.list)
    ]
same_elements g _ _ zs (element x first rest more l f r h) k =
    elim (elements_are g x zs k) [
      | inl empty ↦ absurd (no_nil g x empty.0 l)
      | inr c ↦
          let same = same_only first c.first (sym f ∙ c.one_first) in
          let behind = same_only rest c.rest (sym r ∙ c.one_rest) in
          let more_same = same_elements g rest more c.more h (subst (λ z. HasElements g z c.more) (sym behind) c.has_elements) in
          ap (λ z. z ∷ more) same ∙ ap (λ m. c.first ∷ m) more_same ∙ sym c.joined
    ]
