-- The triples of the expressions of all axioms are different ones, and all in the graph.
use Rattle.std.proofs.Common.{◌≡◌, ◌≤◌, ◌<◌, ◌+◌, ◌*◌, ◌^◌, ℕ, List, [], ◌∷◌, ◌++◌, length, inl, inr, refl, subst, arith}
use Rattle.std.specs.Prelude.{Contains, map}
use Rattle.std.specs.Cmp.{Equal-is}
use Rattle.std.specs.List.{AllByRecursion, filter}
use Rattle.std.specs.Ordering.{eq_by_cmp}
use Rattle.std.proofs.lemmas.Cmp.{tied_itself}
use Rattle.std.proofs.lemmas.List.{length-append, length-map}
use Rattle.std.proofs.lemmas.List.Elements.{Contains-append_cases, Contains-append_left, Contains-append_right}
use Rattle.std.proofs.lemmas.List.Sums.{sum_by-cons}
use Rattle.owl_list.specs.Ascending.{AreApart}
use Rattle.owl_list.proofs.AscendingLaws.{all_from, all_map, ascending_holds, from_map, in_none}
use Rattle.owl_list.proofs.FilterLaws.{in_filter}
use Rattle.owl_tree.specs.Ontologies.{Ontology}
use Rattle.owl_tree.specs.Order.{tree_cmp}
use Rattle.owl_tree.specs.OrderLaws.{only_equal_trees_tie, trees_total}
use Rattle.owl_tree.specs.Trees.{Tree}
use Rattle.rdf_graph.proofs.GraphLaws.{set_holds}
use Rattle.rdf_graph.specs.declared.triple.Triple.{Triple}
use Rattle.rdf_mapping.specs.Drawing.{Statement, linked, linked_back, looped, standing, unsaid}
use Rattle.rdf_mapping.specs.FormLaws.{apart, subjects, wider}
use Rattle.rdf_mapping.specs.Forms.{Form, made, nodes, triples}
use Rattle.rdf_mapping.specs.Frames.{AreNamedApart, Lies}
use Rattle.rdf_mapping.specs.GraphEntries.{made_nodes}
use Rattle.rdf_mapping.specs.GroupFrames.{group_nodes}
use Rattle.rdf_mapping.specs.Graphs.{Group, axiom_notes, bare, bare_axioms, graph_of, group_of, group_triples, groups_of, head_triples, header_nodes, header_term, labels_of, made_triples, notes_from, statement_nodes, statement_triples}
use Rattle.rdf_mapping.specs.Notes.{Notes, note_nodes, note_triples}
use Rattle.rdf_mapping.proofs.WholeFrameLaws.{fresh_named_apart}
use Rattle.blank_labels.specs.FreshLabels.{fresh_name}
use Rattle.rdf_counts.specs.Counts.{drawn, groups_drawn, statement_drawn}
use Rattle.rdf_counts.proofs.Apart.{both_apart, many, triples_apart}
use Rattle.rdf_counts.proofs.Keyed.{IsKeyed, IsStatementKeyed, statement_keyed}
use Rattle.rdf_counts.proofs.Within.{within_length}

-- an axiom without annotations that is written with some set of annotations
record IsCounted (g : Group) : Type 0 where
  keyed : IsStatementKeyed g.statement
  some : 0 < length g.sets

none_counted : {X : Type 0} (xs : List X) (x : X) → Contains xs x → 0 < length xs
none_counted [] x m = absurd (in_none x m)
none_counted (y ∷ xs) x m = omega arith

bare_counted : (axioms : List Tree) (a : Tree) → Contains axioms a → IsCounted (group_of axioms (bare a))
bare_counted axioms a m =
    let test : Tree → _ = λ (c : Tree). eq_by_cmp tree_cmp (bare c) (bare a) in
    let kept = in_filter (λ c. eq_by_cmp tree_cmp (bare c) (bare a)) axioms a m ((Equal-is (tree_cmp (bare a) (bare a))).1 (tied_itself trees_total (bare a))) in
    let long = length-map (filter (λ c. eq_by_cmp tree_cmp (bare c) (bare a)) axioms) axiom_notes in
    let some = none_counted (filter (λ c. eq_by_cmp tree_cmp (bare c) (bare a)) axioms) a kept in
    record { keyed = statement_keyed (bare a); some = omega (arith, long, some) }

all_counted : (axioms : List Tree) → AllByRecursion IsCounted (groups_of axioms)
all_counted axioms =
    all_map (group_of axioms) IsCounted (bare_axioms axioms)
    (all_from (λ b. IsCounted (group_of axioms b)) (bare_axioms axioms) (λ b m.
    let v = from_map bare axioms b ((ascending_holds tree_cmp trees_total only_equal_trees_tie (map bare axioms) b).0 m) in
    subst (λ (c : Tree). IsCounted (group_of axioms c)) v.value (bare_counted axioms v.element v.inside)))

module _ (name : ℕ → List ℕ) where
  -- the triples of what an axiom is made of, once
  abbrev expressions : Statement → ℕ → List Triple
  expressions (linked f p g) n = triples name f n ++ triples name g (n + nodes f)
  expressions (linked_back f p g) n = triples name f n ++ triples name g (n + nodes f)
  expressions (looped p f) n = triples name f n
  expressions (standing arcs) n = triples name (made arcs) n
  expressions unsaid n = []

  two_many : (f g : Form) (n m : ℕ) → length (triples name f n ++ triples name g m) ≡ drawn f + drawn g
  two_many f g n m =
      let both = length-append (triples name f n) (triples name g m) in
      let first = many name f n in
      let second = many name g m in
      omega (arith, both, first, second)

  expressions_many : (s : Statement) (n : ℕ) → length (expressions s n) ≡ statement_drawn s
  expressions_many (linked f p g) n = two_many f g n (n + nodes f)
  expressions_many (linked_back f p g) n = two_many f g n (n + nodes f)
  expressions_many (looped p f) n = many name f n
  expressions_many (standing arcs) n = many name (made arcs) n
  expressions_many unsaid n = refl

  expressions_there : (s : Statement) (sets : List Notes) (n : ℕ) → 0 < length sets → (t : Triple) → Contains (expressions s n) t → Contains (statement_triples name s sets n) t
  expressions_there (linked f p g) sets n some t m = Contains-append_left (triples name f n ++ triples name g (n + nodes f)) _ t m
  expressions_there (linked_back f p g) sets n some t m = Contains-append_left (triples name f n ++ triples name g (n + nodes f)) _ t m
  expressions_there (looped p f) sets n some t m = Contains-append_left (triples name f n) _ t m
  expressions_there (standing arcs) [] n some t m = absurd (omega (arith, some))
  expressions_there (standing arcs) (ns ∷ sets) n some t m = Contains-append_left (triples name (made arcs) n) _ t m
  expressions_there unsaid sets n some t m = absurd (in_none t m)

  two_lie : (f g : Form) (n high : ℕ) → n + (nodes f + nodes g) ≤ high → (t : Triple) → Contains (triples name f n ++ triples name g (n + nodes f)) t → Lies name n high t.subject
  two_lie f g n high h t m =
      elim (Contains-append_cases (triples name f n) (triples name g (n + nodes f)) t m) [
        | inl a ↦ wider name n (n + nodes f) n high t.subject (omega arith) (omega (arith, h)) (subjects name f n t a)
        | inr b ↦ wider name (n + nodes f) (n + nodes f + nodes g) n high t.subject (omega arith) (omega (arith, h)) (subjects name g (n + nodes f) t b)
      ]

  expressions_lie : (s : Statement) (sets : List Notes) (n : ℕ) → 0 < length sets → (t : Triple) → Contains (expressions s n) t → Lies name n (n + statement_nodes s sets) t.subject
  expressions_lie (linked f p g) sets n some t m = two_lie f g n (n + statement_nodes (linked f p g) sets) (omega arith) t m
  expressions_lie (linked_back f p g) sets n some t m = two_lie f g n (n + statement_nodes (linked_back f p g) sets) (omega arith) t m
  expressions_lie (looped p f) sets n some t m = wider name n (n + nodes f) n (n + statement_nodes (looped p f) sets) t.subject (omega arith) (omega arith) (subjects name f n t m)
  expressions_lie (standing arcs) [] n some t m = absurd (omega (arith, some))
  expressions_lie (standing arcs) (ns ∷ sets) n some t m = wider name n (n + nodes (made arcs)) n (n + statement_nodes (standing arcs) (ns ∷ sets)) t.subject (omega arith) (omega arith) (subjects name (made arcs) n t m)
  expressions_lie unsaid sets n some t m = absurd (in_none t m)

  abbrev all_expressions : List Group → ℕ → List Triple
  all_expressions [] n = []
  all_expressions (g ∷ gs) n = expressions g.statement n ++ all_expressions gs (n + statement_nodes g.statement g.sets)

  all_many : (gs : List Group) (n : ℕ) → length (all_expressions gs n) ≡ groups_drawn gs
  all_many [] n = refl
  all_many (g ∷ gs) n =
      let next = n + statement_nodes g.statement g.sets in
      let both = length-append (expressions g.statement n) (all_expressions gs next) in
      let first = expressions_many g.statement n in
      let rest = all_many gs next in
      let sum = sum_by-cons (λ (h : Group). statement_drawn h.statement) g gs in
      omega (arith, both, first, rest, sum)

  all_there : (gs : List Group) (n : ℕ) → AllByRecursion IsCounted gs → (t : Triple) → Contains (all_expressions gs n) t → Contains (group_triples name gs n) t
  all_there [] n c t m = m
  all_there (g ∷ gs) n c t m =
      let next = n + statement_nodes g.statement g.sets in
      let own = statement_triples name g.statement g.sets n in
      elim (Contains-append_cases (expressions g.statement n) (all_expressions gs next) t m) [
        | inl a ↦ Contains-append_left own (group_triples name gs next) t (expressions_there g.statement g.sets n c.0.some t a)
        | inr b ↦ Contains-append_right own (group_triples name gs next) t (all_there gs next c.1 t b)
      ]

  all_lie : (gs : List Group) (n : ℕ) → AllByRecursion IsCounted gs → (t : Triple) → Contains (all_expressions gs n) t → Lies name n (n + group_nodes gs) t.subject
  all_lie [] n c t m = absurd (in_none t m)
  all_lie (g ∷ gs) n c t m =
      let next = n + statement_nodes g.statement g.sets in
      let high = n + group_nodes (g ∷ gs) in
      elim (Contains-append_cases (expressions g.statement n) (all_expressions gs next) t m) [
        | inl a ↦ wider name n next n high t.subject (omega arith) (omega arith) (expressions_lie g.statement g.sets n c.0.some t a)
        | inr b ↦ wider name next (next + group_nodes gs) n high t.subject (omega arith) (omega arith) (all_lie gs next c.1 t b)
      ]

  module _ (most : ℕ) (differ : AreNamedApart name most) where
    two_apart : (f g : Form) (n : ℕ) → IsKeyed f → IsKeyed g → n + (nodes f + nodes g) ≤ most → AreApart (triples name f n ++ triples name g (n + nodes f))
    two_apart f g n k l few =
        both_apart (triples name f n) (triples name g (n + nodes f)) (triples_apart name most differ f n k (omega (arith, few))) (triples_apart name most differ g (n + nodes f) l (omega (arith, few)))
        (λ t a b. apart name most differ n (n + nodes f) (n + nodes f) (n + nodes f + nodes g) t.subject (subjects name f n t a) (subjects name g (n + nodes f) t b) (omega arith) (omega (arith, few)))

    expressions_apart : (s : Statement) (sets : List Notes) (n : ℕ) → 0 < length sets → IsStatementKeyed s → n + statement_nodes s sets ≤ most → AreApart (expressions s n)
    expressions_apart (linked f p g) sets n some k few = two_apart f g n k.0 k.1 (omega (arith, few))
    expressions_apart (linked_back f p g) sets n some k few = two_apart f g n k.0 k.1 (omega (arith, few))
    expressions_apart (looped p f) sets n some k few = triples_apart name most differ f n k (omega (arith, few))
    expressions_apart (standing arcs) [] n some k few = absurd (omega (arith, some))
    expressions_apart (standing arcs) (ns ∷ sets) n some k few = triples_apart name most differ (made arcs) n k (omega (arith, few))
    expressions_apart unsaid sets n some k few = tt

    all_apart : (gs : List Group) (n : ℕ) → AllByRecursion IsCounted gs → n + group_nodes gs ≤ most → AreApart (all_expressions gs n)
    all_apart [] n c few = tt
    all_apart (g ∷ gs) n c few =
        let next = n + statement_nodes g.statement g.sets in
        both_apart (expressions g.statement n) (all_expressions gs next) (expressions_apart g.statement g.sets n c.0.some c.0.keyed (omega (arith, few))) (all_apart gs next c.1 (omega (arith, few)))
        (λ t a b. apart name most differ n next next (next + group_nodes gs) t.subject (expressions_lie g.statement g.sets n c.0.some t a) (all_lie gs next c.1 t b) (omega arith) (omega (arith, few)))

-- A graph has as many triples as its expressions.
pub graph_has : (o : Ontology) → made_nodes o + length (labels_of o) ≤ 9 * 10 ^ 18 → groups_drawn (groups_of o.axioms) ≤ length (graph_of o)
unfolding graph_of
graph_has o few =
    let name = fresh_name (labels_of o) in
    let gs = groups_of o.axioms in
    let start = header_nodes o.head.name + note_nodes (notes_from o.annotations) in
    let x = header_term name o.head.name in
    let own = all_expressions name gs start in
    let differ = fresh_named_apart (labels_of o) (made_nodes o) few in
    let there : (t : Triple) → Contains own t → Contains (made_triples name o) t =
    λ t m. Contains-append_right (head_triples x o.head) _ t (Contains-append_right (note_triples name x (notes_from o.annotations) (header_nodes o.head.name)) (group_triples name gs start) t (all_there name gs start (all_counted o.axioms) t m)) in
    let counted = within_length own (graph_of o) (all_apart name (made_nodes o) differ gs start (all_counted o.axioms) (omega arith)) (λ t m. (set_holds (made_triples name o) t).1 (there t m)) in
    let long = all_many name gs start in
    omega (arith, counted, long)
