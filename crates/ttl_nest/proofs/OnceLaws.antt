-- Each nested node is written once.
use Rattle.std.specs.Prelude.{◌≡◌, ◌≤◌, ◌+◌, ℕ, Bool, true, false, cond, nat_le, List, [], ◌∷◌, ◌++◌, Contains, length}
use Rattle.std.specs.List.{filter}
use Rattle.std.proofs.Common.{inl, inr, refl, sym, ap, ◌∙◌, subst, arith}
use Rattle.std.proofs.lemmas.Bool.{both_ways, cases_Bool, leb-false, leb-true}
use Rattle.owl_list.specs.Ascending.{AreApart}
use Rattle.owl_list.proofs.AscendingLaws.{in_cases, in_head, in_none, in_tail}
use Rattle.rdf_graph.specs.declared.term.Term.{Term}
use Rattle.rdf_graph.specs.declared.term.Term.TheVariants.{Blank}
use Rattle.rdf_graph.specs.declared.triple.Triple.{Triple}
use Rattle.rdf_meaning.specs.Nodes.{is_same, of_subject}
use Rattle.rdf_roles.proofs.NodeLaws.{same_label}
use Rattle.ttl_levels.proofs.LevelLaws.{level_once}
use Rattle.ttl_levels.proofs.NamedLaws.{differs, same_is, same_itself}
use Rattle.ttl_levels.proofs.NestLaws.{nestable_node, one_namer}
use Rattle.ttl_levels.specs.Nested.{HasLevel, IsNestableCell, IsNested, IsNestedBy, is_nestable, most_levels, named_by}
use Rattle.ttl_levels.specs.Nested.HasLevel.{at_top, below}
use Rattle.ttl_nested.specs.Forms.{Cells, Form, Line, Pairs}
use Rattle.ttl_nested.specs.Forms.Form.{plain, round, square}
use Rattle.ttl_nested.specs.Forms.Cells.{cell, no_cells}
use Rattle.ttl_nested.specs.Forms.Pairs.{no_pairs, pair}
use Rattle.ttl_nested.proofs.FormLaws.{cells_labels, form_labels, lines_labels, pairs_labels}
use Rattle.ttl_nest.proofs.FormLaws.{cell_triples, nested_nestable, nil_not_nested}
use Rattle.ttl_nest.specs.NestedForm.{AreCellsFrom, AreLinesFor, ArePairsOf, IsFormOf, IsNestedCell}
use Rattle.ttl_nest.specs.NestedForm.AreLinesFor.{inside, no_lines, one_line}

abbrev one : Bool → ℕ
one b = cond b 1 0

-- how often the term's label stands there
abbrev pub times : List (List ℕ) → Term → ℕ
times [] x = 0
times (l ∷ ls) x = one (is_same x (Blank l)) + times ls x

-- of how many triples it is the object
abbrev names : List Triple → Term → ℕ
names [] y = 0
names (t ∷ ts) y = one (is_same t.object y) + names ts y

times_both : (ls ms : List (List ℕ)) (x : Term) → times (ls ++ ms) x ≡ times ls x + times ms x
times_both [] ms x = omega arith
times_both (l ∷ ls) ms x = omega (arith, times_both ls ms x)

times_none : (ls : List (List ℕ)) (x : Term) → ((label : List ℕ) → Contains ls label → x ≡ Blank label → ⊥) → times ls x ≡ 0
times_none [] x none = refl
times_none (l ∷ ls) x none =
    let here : one (is_same x (Blank l)) ≡ 0 = ap one (differs x (Blank l) (none l (in_head l ls))) in
    omega (arith, here, times_none ls x (λ label m. none label (in_tail l ls label m)))

pub times_some : (ls : List (List ℕ)) (label : List ℕ) → Contains ls label → 1 ≤ times ls (Blank label)
times_some [] label m = absurd (in_none label m)
times_some (l ∷ ls) label m = elim (in_cases l ls label m) as (λ _. 1 ≤ times (l ∷ ls) (Blank label)) [
  | inl e ↦ let here : one (is_same (Blank label) (Blank l)) ≡ 1 = ap one (subst (λ (x : List ℕ). is_same (Blank label) (Blank x) ≡ true) (sym e) (same_itself (Blank label))) in omega (arith, here)
  | inr k ↦ omega (arith, times_some ls label k)
]

pub stands_somewhere : (ls : List (List ℕ)) (label : List ℕ) → 1 ≤ times ls (Blank label) → Contains ls label
stands_somewhere [] label h = absurd (omega (arith, h))
stands_somewhere (l ∷ ls) label h = elim (cases_Bool (is_same (Blank label) (Blank l))) as (λ _. Contains (l ∷ ls) label) [
  | inl t ↦ subst (Contains (l ∷ ls)) (sym (same_label label l (same_is (Blank label) (Blank l) t))) (in_head l ls)
  | inr f ↦ let none : one (is_same (Blank label) (Blank l)) ≡ 0 = ap one f in in_tail l ls label (stands_somewhere ls label (omega (arith, h, none)))
]

pub apart_by_times : (ls : List (List ℕ)) → ((label : List ℕ) → Contains ls label → times ls (Blank label) ≡ 1) → AreApart ls
apart_by_times [] once = tt
apart_by_times (l ∷ ls) once =
    let here : one (is_same (Blank l) (Blank l)) ≡ 1 = ap one (same_itself (Blank l)) in (
      λ m. absurd (omega (arith, here, once l (in_head l ls), times_some ls l m)),
      apart_by_times ls (λ label m. omega (arith, once label (in_tail l ls label m), times_some ls label m)),
    )

names_length : (ts : List Triple) (y : Term) → names ts y ≡ length (filter (λ t. is_same t.object y) ts)
names_length [] y = refl
names_length (t ∷ ts) y = counted (is_same t.object y) (names ts y) (filter (λ u. is_same u.object y) ts) (names_length ts y)
  where
    counted : (b : Bool) (n : ℕ) (us : List Triple) → n ≡ length us → one b + n ≡ length (cond b (t ∷ us) us)
    counted true n us e = omega (arith, e)
    counted false n us e = omega (arith, e)

names_none : (ts : List Triple) (y : Term) → ((t : Triple) → Contains ts t → t.object ≡ y → ⊥) → names ts y ≡ 0
names_none [] y none = refl
names_none (t ∷ ts) y none =
    let here : one (is_same t.object y) ≡ 0 = ap one (differs t.object y (none t (in_head t ts))) in
    omega (arith, here, names_none ts y (λ u m. none u (in_tail t ts u m)))

-- two filters, either first

filter_yes : (f : Triple → Bool) (t : Triple) (ts : List Triple) → f t ≡ true → filter f (t ∷ ts) ≡ t ∷ filter f ts
filter_yes f t ts e = ap (λ (b : Bool). cond b (t ∷ filter f ts) (filter f ts)) e

filter_no : (f : Triple → Bool) (t : Triple) (ts : List Triple) → f t ≡ false → filter f (t ∷ ts) ≡ filter f ts
filter_no f t ts e = ap (λ (b : Bool). cond b (t ∷ filter f ts) (filter f ts)) e

either_first : (f h : Triple → Bool) (ts : List Triple) → filter f (filter h ts) ≡ filter h (filter f ts)
either_first f h [] = refl
either_first f h (t ∷ ts) = by_tests (either_first f h ts)
  where
    by_tests : filter f (filter h ts) ≡ filter h (filter f ts) → filter f (filter h (t ∷ ts)) ≡ filter h (filter f (t ∷ ts))
    by_tests more = elim (cases_Bool (h t)) as (λ _. filter f (filter h (t ∷ ts)) ≡ filter h (filter f (t ∷ ts))) [
      | inl a ↦ elim (cases_Bool (f t)) as (λ _. filter f (filter h (t ∷ ts)) ≡ filter h (filter f (t ∷ ts))) [
        | inl b ↦
            ap (filter f) (filter_yes h t ts a) ∙ filter_yes f t (filter h ts) b ∙ ap (λ (us : List Triple). t ∷ us) more
            ∙ sym (filter_yes h t (filter f ts) a) ∙ ap (filter h) (sym (filter_yes f t ts b))
        | inr b ↦ ap (filter f) (filter_yes h t ts a) ∙ filter_no f t (filter h ts) b ∙ more ∙ ap (filter h) (sym (filter_no f t ts b))
      ]
      | inr a ↦ elim (cases_Bool (f t)) as (λ _. filter f (filter h (t ∷ ts)) ≡ filter h (filter f (t ∷ ts))) [
        | inl b ↦ ap (filter f) (filter_no h t ts a) ∙ more ∙ sym (filter_no h t (filter f ts) a) ∙ ap (filter h) (sym (filter_yes f t ts b))
        | inr b ↦ ap (filter f) (filter_no h t ts a) ∙ more ∙ ap (filter h) (sym (filter_no f t ts b))
      ]
    ]

flipped : (x y : Term) → is_same x y ≡ is_same y x
flipped x y = elim (cases_Bool (is_same x y)) as (λ _. is_same x y ≡ is_same y x) [
  | inl t ↦ t ∙ sym (subst (λ (z : Term). is_same z x ≡ true) (same_is x y t) (same_itself x))
  | inr f ↦ f ∙ sym (differs y x (λ e. both_ways (is_same x y) f (subst (λ (z : Term). is_same x z ≡ true) (sym e) (same_itself x))))
]

-- a nested node, and the triple of which it is the object
module _ (g : List Triple) (y : Term) (u : Triple) (nested_y : IsNested g y) (by : IsNestedBy g y u) where
  only : named_by g y ≡ u ∷ []
  only =
      let node = nestable_node g y by.nestable in
      node.only ∙ ap (λ (t : Triple). t ∷ []) (one_namer g y node.triple u by.nestable node.inside node.object by.inside by.object)

  names_own : (x : Term) → names (of_subject g x) y ≡ one (is_same u.subject x)
  names_own x =
      names_length (of_subject g x) y
      ∙ ap length (either_first (λ t. is_same t.object y) (λ t. is_same t.subject x) g)
      ∙ ap (λ (ts : List Triple). length (filter (λ t. is_same t.subject x) ts)) only
      ∙ counted (is_same u.subject x)
    where
      counted : (b : Bool) → length (cond b (u ∷ []) []) ≡ one b
      counted true = refl
      counted false = refl

  names_all : names g y ≡ 1
  names_all = names_length g y ∙ ap length only

  names_of_cell : (x first rest : Term) → IsNestableCell g x first rest → one (is_same first y) + one (is_same rest y) ≡ one (is_same u.subject x)
  names_of_cell x first rest c =
      let all : names (cell_triples x first rest) y ≡ one (is_same u.subject x) = ap (λ (ts : List Triple). names ts y) (sym c.triples) ∙ names_own x in
      omega (arith, all)

  root : (x : Term) (label : List ℕ) → x ≡ Blank label → one (is_same y (Blank label)) ≡ one (is_same x y)
  root x label e = ap (λ (z : Term). one (is_same y z)) (sym e) ∙ ap one (flipped y x)

  holder : (x : Term) (label : List ℕ) → x ≡ Blank label → one (is_same u.subject (Blank label)) ≡ one (is_same u.subject x)
  holder x label e = ap (λ (z : Term). one (is_same u.subject z)) (sym e)

  not_y : (x : Term) → (IsNested g x → ⊥) → one (is_same x y) ≡ 0
  not_y x not = ap one (differs x y (λ e. not (subst (IsNested g) (sym e) nested_y)))

  -- a cell with its element and those behind
  cell_times : (x : Term) (label : List ℕ) (first rest : Term) (es cs : List (List ℕ)) → IsNestedCell g x label first rest → times es y ≡ one (is_same first y) + times es u.subject → times cs y ≡ one (is_same rest y) + times cs u.subject
      → times (label ∷ (es ++ cs)) y ≡ one (is_same x y) + times (label ∷ (es ++ cs)) u.subject
  cell_times x label first rest es cs c e f =
      omega (arith, root x label c.is, holder x label c.is, names_of_cell x first rest c.cell, times_both es cs y, times_both es cs u.subject, e, f)

  mutual
    form_times : (form : Form) (x : Term) → IsFormOf g x form → times (form_labels form) y ≡ one (is_same x y) + times (form_labels form) u.subject
    form_times (plain term) x h = omega (arith, not_y x h.1)
    form_times (round label element cells) x h = cell_times x label h.0 h.1 (form_labels element) (cells_labels cells) h.2 (form_times element h.0 h.3) (cells_times cells h.1 h.4)
    form_times (square label pairs) x h = omega (arith, root x label h.0.is, holder x label h.0.is, names_own x, pairs_times pairs (of_subject g x) h.1)

    cells_times : (cells : Cells) (x : Term) → AreCellsFrom g x cells → times (cells_labels cells) y ≡ one (is_same x y) + times (cells_labels cells) u.subject
    cells_times no_cells x h = omega (arith, not_y x (nil_not_nested g x h))
    cells_times (cell label element cells) x h = cell_times x label h.0 h.1 (form_labels element) (cells_labels cells) h.2 (form_times element h.0 h.3) (cells_times cells h.1 h.4)

    pairs_times : (pairs : Pairs) (ts : List Triple) → ArePairsOf g ts pairs → times (pairs_labels pairs) y ≡ names ts y + times (pairs_labels pairs) u.subject
    pairs_times no_pairs [] h = refl
    pairs_times no_pairs (t ∷ ts) h = absurd h
    pairs_times (pair predicate object more) [] h = absurd h
    pairs_times (pair predicate object more) (t ∷ ts) h =
        omega (arith, times_both (form_labels object) (pairs_labels more) y, times_both (form_labels object) (pairs_labels more) u.subject, form_times object t.object h.1, pairs_times more ts h.2)

  -- those of the triples that have a line
  abbrev topped : {ts : List Triple} {lines : List Line} → AreLinesFor g ts lines → List Triple
  topped no_lines = []
  topped (inside t ts lines nested more) = topped more
  topped (one_line t ts line lines is more) = t ∷ topped more

  lines_times : (ts : List Triple) (lines : List Line) (h : AreLinesFor g ts lines) → times (lines_labels lines) y ≡ names (topped h) y + times (lines_labels lines) u.subject
  lines_times _ _ no_lines = refl
  lines_times _ _ (inside t ts lines nested more) = lines_times ts lines more
  lines_times _ _ (one_line t ts line lines is more) =
      omega (arith, times_both (form_labels line.object) (lines_labels lines) y, times_both (form_labels line.object) (lines_labels lines) u.subject, form_times line.object t.object is.object, lines_times ts lines more)

  its_namer : (t : Triple) → Contains g t → t.object ≡ y → t ≡ u
  its_namer t m e = one_namer g y t u by.nestable m e by.inside by.object

  -- below a nested node
  none_on_lines : IsNested g u.subject → (ts : List Triple) (lines : List Line) (h : AreLinesFor g ts lines) → ((t : Triple) → Contains ts t → Contains g t) → names (topped h) y ≡ 0
  none_on_lines over _ _ no_lines within = refl
  none_on_lines over _ _ (inside t ts lines nested more) within = none_on_lines over ts lines more (λ v m. within v (in_tail t ts v m))
  none_on_lines over _ _ (one_line t ts line lines is more) within =
      let here : one (is_same t.object y) ≡ 0 = ap one (differs t.object y (λ e. is.not_nested (subst (λ (v : Triple). IsNested g v.subject) (sym (its_namer t (within t (in_head t ts)) e)) over))) in
      omega (arith, here, none_on_lines over ts lines more (λ v m. within v (in_tail t ts v m)))

  -- below another one
  all_on_lines : (IsNested g u.subject → ⊥) → (ts : List Triple) (lines : List Line) (h : AreLinesFor g ts lines) → ((t : Triple) → Contains ts t → Contains g t) → names (topped h) y ≡ names ts y
  all_on_lines over _ _ no_lines within = refl
  all_on_lines over _ _ (inside t ts lines nested more) within =
      let here : one (is_same t.object y) ≡ 0 = ap one (differs t.object y (λ e. over (subst (λ (v : Triple). IsNested g v.subject) (its_namer t (within t (in_head t ts)) e) nested))) in
      omega (arith, here, all_on_lines over ts lines more (λ v m. within v (in_tail t ts v m)))
  all_on_lines over _ _ (one_line t ts line lines is more) within = omega (arith, all_on_lines over ts lines more (λ v m. within v (in_tail t ts v m)))

  module _ (lines : List Line) (h : AreLinesFor g g lines) where
    pub once_under : IsNested g u.subject → times (lines_labels lines) u.subject ≡ 1 → times (lines_labels lines) y ≡ 1
    once_under over e = omega (arith, lines_times g lines h, none_on_lines over g lines h (λ t m. m), e)

    pub once_on_top : (IsNested g u.subject → ⊥) → ((label : List ℕ) → Contains (lines_labels lines) label → IsNested g (Blank label)) → times (lines_labels lines) y ≡ 1
    once_on_top over all =
        let none = times_none (lines_labels lines) u.subject (λ label m e. over (subst (IsNested g) (sym e) (all label m))) in
        omega (arith, lines_times g lines h, all_on_lines over g lines h (λ t m. m), names_all, none)

-- each nested node is written once
pub each_once : (g : List Triple) (lines : List Line) → AreLinesFor g g lines → ((label : List ℕ) → Contains (lines_labels lines) label → IsNested g (Blank label)) → (y : Term) (n : ℕ) → HasLevel g y n → IsNested g y
    → times (lines_labels lines) y ≡ 1
each_once g lines h all y _ (at_top _ t by top) nested = once_on_top g y t nested by lines h (λ over. both_ways (is_nestable g t.subject) top (nested_nestable g t.subject over)) all
each_once g lines h all y _ (below _ t n m by above next) nested =
    elim (cases_Bool (nat_le n most_levels)) as (λ _. times (lines_labels lines) y ≡ 1) [
      | inl low ↦
          let over : IsNested g t.subject = record { level = n; has = above; few = leb-true n most_levels low } in
          once_under g y t nested by lines h over (each_once g lines h all t.subject n above over)
      | inr high ↦
          once_on_top g y t nested by lines h
          (λ over. let same = level_once g t.subject over.level n over.has above in absurd (omega (arith, same, over.few, leb-false n most_levels high))) all
    ]
