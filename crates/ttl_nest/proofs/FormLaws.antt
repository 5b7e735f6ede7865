-- How terms are written, by what they are.
use Rattle.std.specs.Prelude.{◌≡◌, ◌<◌, ◌≤◌, ◌+◌, ℕ, zero, suc, true, List, [], ◌∷◌, Contains}
use Rattle.std.specs.List.{AllByRecursion}
use Rattle.std.specs.Str.{bytes_eq}
use Rattle.std.proofs.Common.{inl, inr, refl, sym, ap, ◌∙◌, subst, arith}
use Rattle.std.proofs.lemmas.Bool.{both_ways}
use Rattle.std.proofs.lemmas.Slice.Eq.{bytes_eq-Decides}
use Rattle.owl_list.proofs.AscendingLaws.{all_from, in_head, in_tail}
use Rattle.rdf_graph.specs.declared.term.Term.{Term}
use Rattle.rdf_graph.specs.declared.term.Term.TheVariants.{Iri, Blank}
use Rattle.rdf_graph.specs.declared.triple.Triple.{Triple}
use Rattle.rdf_meaning.specs.Nodes.{nil_iri, of_subject}
use Rattle.ttl_levels.specs.Nested.{HasCells, HasLevel, IsInside, IsNestableCell, IsNested, IsNextLevel, IsRound, first_iri, is_nestable, most_levels, rest_iri}
use Rattle.ttl_levels.specs.Nested.HasLevel.{at_top, below}
use Rattle.ttl_levels.proofs.LevelLaws.{level_nestable, level_once, nested_once}
use Rattle.ttl_levels.proofs.NestLaws.{nestable_number, own_triple, round_is_nestable}
use Rattle.ttl_nested.specs.Forms.{Cells, Form, Pairs}
use Rattle.ttl_nested.specs.Forms.Form.{plain, round, square}
use Rattle.ttl_nested.specs.Forms.Cells.{cell, no_cells}
use Rattle.ttl_nest.specs.NestedForm.{AreCellsFrom, ArePairsOf, IsFormOf}
use Rattle.ttl_nest.specs.Sources.{AreShallowCells, IsShallow}

-- an IRI is not nestable

pub iri_not_nestable : (g : List Triple) (x : Term) (iri : List ℕ) → x ≡ Iri iri → is_nestable g x ≡ true → ⊥
iri_not_nestable g x iri e h = let n = nestable_number g x h in not_both (sym e ∙ n.is)
  where
    not_both : {a b : List ℕ} → Iri a ≡ Blank b → ⊥
    not_both e = absurd (cc)

pub nested_nestable : (g : List Triple) (x : Term) → IsNested g x → is_nestable g x ≡ true
nested_nestable g x nested = level_nestable g x nested.level nested.has

pub nil_not_nested : (g : List Triple) (x : Term) → x ≡ Iri nil_iri → IsNested g x → ⊥
nil_not_nested g x e nested = iri_not_nestable g x nil_iri e (nested_nestable g x nested)

-- cells

abbrev pub cell_triples : Term → Term → Term → List Triple
cell_triples x first rest = record { subject = x; predicate = first_iri; object = first } ∷ record { subject = x; predicate = rest_iri; object = rest } ∷ []

pub two_are : (a b c d : Triple) → a ∷ b ∷ [] ≡ c ∷ d ∷ [] → (a ≡ c) × (b ≡ d)
two_are a b c d e = (cc, cc)

same_parts : (x a b c d : Term) → cell_triples x a b ≡ cell_triples x c d → (a ≡ c) × (b ≡ d)
same_parts x a b c d e =
    let same =
    two_are (record { subject = x; predicate = first_iri; object = a }) (record { subject = x; predicate = rest_iri; object = b })
    (record { subject = x; predicate = first_iri; object = c }) (record { subject = x; predicate = rest_iri; object = d }) e in
    (ap (λ (t : Triple). t.object) same.0, ap (λ (t : Triple). t.object) same.1)

pub same_cell : (g : List Triple) (x a b c d : Term) → IsNestableCell g x a b → IsNestableCell g x c d → (a ≡ c) × (b ≡ d)
same_cell g x a b c d h k = same_parts x a b c d (sym h.triples ∙ k.triples)

abbrev pub cells_are : (g : List Triple) (x : Term) (cells : Cells) → AreCellsFrom g x cells → (n : ℕ) × HasCells g n x
cells_are g x no_cells h = (0, h)
cells_are g x (cell label element cells) h = let more = cells_are g h.1 cells h.4 in (suc more.0, (h.0, h.1, h.2.cell, more.1))

pub round_form : (g : List Triple) (x : Term) (label : List ℕ) (element : Form) (cells : Cells) → IsFormOf g x (round label element cells) → IsRound g x
round_form g x label element cells h = let more = cells_are g h.1 cells h.4 in (more.0, (h.0, h.1, h.2.cell, more.1))

-- the form of a term, by what it is

pub record IsPlain (g : List Triple) (x : Term) (form : Form) : Type 0 where
  pub is : form ≡ plain x

pub plain_form : (g : List Triple) (x : Term) (form : Form) → (IsNested g x → ⊥) → IsFormOf g x form → form ≡ plain x
plain_form g x (plain term) not h = ap plain (sym h.0)
plain_form g x (round label element cells) not h = absurd (not h.2.nested)
plain_form g x (square label pairs) not h = absurd (not h.0.nested)

pub record IsSquare (g : List Triple) (x : Term) (form : Form) : Type 0 where
  pub label : List ℕ
  pub pairs : Pairs
  pub is : form ≡ square label pairs
  pub are : ArePairsOf g (of_subject g x) pairs

pub square_form : (g : List Triple) (x : Term) (form : Form) → IsNested g x → (IsRound g x → ⊥) → IsFormOf g x form → IsSquare g x form
square_form g x (plain term) nested not h = absurd (h.1 nested)
square_form g x (round label element cells) nested not h = absurd (not (round_form g x label element cells h))
square_form g x (square label pairs) nested not h = record { label = label; pairs = pairs; is = refl; are = h.1 }

pub record IsRoundForm (g : List Triple) (x : Term) (form : Form) : Type 0 where
  pub label : List ℕ
  pub element : Form
  pub cells : Cells
  pub is : form ≡ round label element cells
  pub are : AreCellsFrom g x (cell label element cells)

pub round_form_is : (g : List Triple) (x : Term) (form : Form) → IsNested g x → IsRound g x → IsFormOf g x form → IsRoundForm g x form
round_form_is g x (plain term) nested r h = absurd (h.1 nested)
round_form_is g x (round label element cells) nested r h = record { label = label; element = element; cells = cells; is = refl; are = h }
round_form_is g x (square label pairs) nested r h = absurd (h.0.not_round r)

-- levels that are left

pub level_some : (g : List Triple) (x : Term) (n : ℕ) → HasLevel g x n → 1 ≤ n
level_some g x _ (at_top _ t by top) = omega arith
level_some g x _ (below _ t n m by above next) = step n m (level_some g t.subject n above) next
  where
    step : (n m : ℕ) → 1 ≤ n → IsNextLevel g t n m → 1 ≤ m
    step n m some (inl deep) = omega (arith, deep.1)
    step n m some (inr (inl stays)) = omega (arith, some, stays.2)
    step n m some (inr (inr deeper)) = omega (arith, deeper.2)

pub shallow_at_top : (g : List Triple) (x : Term) → IsShallow g x most_levels
shallow_at_top g x n has few = omega (arith, level_some g x n has)

not_first : first_iri ≡ rest_iri → ⊥
not_first e = both_ways (bytes_eq first_iri rest_iri) refl ((bytes_eq-Decides first_iri rest_iri).1 e)

-- the level below a nested node
level_below : (g : List Triple) (t : Triple) (m : ℕ) → IsNested g t.subject → Contains g t → HasLevel g t.object m → (n : ℕ) × HasLevel g t.subject n × (n ≤ most_levels) × IsNextLevel g t n m
level_below g t m nested inside has = by_level t.object m refl has
  where
    by_level : (x : Term) (m : ℕ) → t.object ≡ x → HasLevel g x m → (n : ℕ) × HasLevel g t.subject n × (n ≤ most_levels) × IsNextLevel g t n m
    by_level x _ e (at_top _ u by top) =
        let same = nested_once g x u t by (record { nestable = by.nestable; inside = inside; object = e }) in
        absurd (both_ways (is_nestable g u.subject) top (subst (λ (v : Triple). is_nestable g v.subject ≡ true) (sym same) (nested_nestable g t.subject nested)))
    by_level x _ e (below _ u n m by above next) =
        let same = nested_once g x u t by (record { nestable = by.nestable; inside = inside; object = e }) in
        let has_n = subst (λ (v : Triple). HasLevel g v.subject n) same above in
        (n, has_n, omega (arith, nested.few, level_once g t.subject n nested.level has_n nested.has), subst (λ (v : Triple). IsNextLevel g v n m) same next)

pub shallow_below : (g : List Triple) (t : Triple) (depth : ℕ) → Contains g t → IsNested g t.subject → (IsInside g t → ⊥) → IsShallow g t.subject (suc depth) → IsShallow g t.object depth
shallow_below g t depth inside nested not shallow m has few =
    let over = level_below g t m nested inside has in
    step over.0 (shallow over.0 over.1 over.2) over.2 over.3
  where
    step : (n : ℕ) → most_levels < n + suc depth → n ≤ most_levels → IsNextLevel g t n m → most_levels < m + depth
    step n left low (inl deep) = absurd (omega (arith, low, deep.0))
    step n left low (inr (inl stays)) = absurd (not stays.1)
    step n left low (inr (inr deeper)) = omega (arith, left, deeper.2)

pub shallow_inside : (g : List Triple) (t : Triple) (depth : ℕ) → Contains g t → IsNested g t.subject → IsInside g t → IsShallow g t.subject depth → IsShallow g t.object depth
shallow_inside g t depth inside nested is shallow m has few =
    let over = level_below g t m nested inside has in
    step over.0 (shallow over.0 over.1 over.2) over.2 over.3
  where
    step : (n : ℕ) → most_levels < n + depth → n ≤ most_levels → IsNextLevel g t n m → most_levels < m + depth
    step n left low (inl deep) = absurd (omega (arith, low, deep.0))
    step n left low (inr (inl stays)) = omega (arith, left, stays.2)
    step n left low (inr (inr deeper)) = absurd (deeper.1 is)

-- the rest of a nested round node is nested
pub nested_inside : (g : List Triple) (t : Triple) → Contains g t → IsNested g t.subject → IsInside g t → IsNested g t.object
nested_inside g t inside nested is = record {
  level = nested.level;
  has =
      below t.object t nested.level nested.level (record { nestable = round_is_nestable g t.object is.rest; inside = inside; object = refl }) nested.has
      (inr (inl (nested.few, is, refl)));
  few = nested.few;
}

-- the triples of a cell

pub first_of_cell : (g : List Triple) (x first rest : Term) → IsNestableCell g x first rest → Contains g (record { subject = x; predicate = first_iri; object = first })
first_of_cell g x first rest c =
    let t : Triple = record { subject = x; predicate = first_iri; object = first } in
    let u : Triple = record { subject = x; predicate = rest_iri; object = rest } in
    (own_triple g x t (subst (λ (ts : List Triple). Contains ts t) (sym c.triples) (in_head t (u ∷ [])))).0

pub rest_of_cell : (g : List Triple) (x first rest : Term) → IsNestableCell g x first rest → Contains g (record { subject = x; predicate = rest_iri; object = rest })
rest_of_cell g x first rest c =
    let t : Triple = record { subject = x; predicate = first_iri; object = first } in
    let u : Triple = record { subject = x; predicate = rest_iri; object = rest } in
    (own_triple g x u (subst (λ (ts : List Triple). Contains ts u) (sym c.triples) (in_tail t (u ∷ []) u (in_head u [])))).0

module _ (g : List Triple) (x first rest : Term) (c : IsNestableCell g x first rest) (nested : IsNested g x) (depth : ℕ) where
  pub element_shallow : IsShallow g x (suc depth) → IsShallow g first depth
  element_shallow = shallow_below g (record { subject = x; predicate = first_iri; object = first }) depth (first_of_cell g x first rest c) nested (λ i. not_first i.predicate)

  inside_of : (n m : ℕ) → HasCells g (suc n) rest → IsInside g (record { subject = x; predicate = rest_iri; object = rest })
  inside_of n m cells = record { cell = (suc n, (first, rest, c, cells)); predicate = refl; rest = (n, cells) }

  pub rest_shallow : (n : ℕ) → HasCells g n rest → IsShallow g x (suc depth) → AreShallowCells g rest n depth
  rest_shallow zero cells shallow = tt
  rest_shallow (suc n) cells shallow =
      let inside = rest_of_cell g x first rest c in
      let is = inside_of n 0 cells in (
        nested_inside g (record { subject = x; predicate = rest_iri; object = rest }) inside nested is,
        shallow_inside g (record { subject = x; predicate = rest_iri; object = rest }) (suc depth) inside nested is shallow,
      )

  pub rest_nested : (n : ℕ) → HasCells g (suc n) rest → IsNested g rest
  rest_nested n cells = nested_inside g (record { subject = x; predicate = rest_iri; object = rest }) (rest_of_cell g x first rest c) nested (inside_of n 0 cells)

-- the own triples of a nested node that is not round
pub kids_shallow : (g : List Triple) (x : Term) (depth : ℕ) → IsNested g x → (IsRound g x → ⊥) → IsShallow g x (suc depth) → AllByRecursion (λ t. IsShallow g t.object depth) (of_subject g x)
kids_shallow g x depth nested not shallow =
    all_from (λ t. IsShallow g t.object depth) (of_subject g x) (λ t m.
    let own = own_triple g x t m in
    shallow_below g t depth own.0 (subst (IsNested g) (sym own.1) nested) (λ i. not (subst (IsRound g) own.1 i.cell)) (subst (λ (y : Term). IsShallow g y (suc depth)) (sym own.1) shallow))
