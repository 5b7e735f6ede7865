-- A graph has one nested form.
use Rattle.std.specs.Prelude.{◌≡◌, ◌⊎◌, ℕ, List, [], ◌∷◌}
use Rattle.std.proofs.Common.{inl, inr, refl, sym, ap, ◌∙◌, subst}
use Rattle.owl_atom.specs.declared.prefixes.Prefix.{Prefix}
use Rattle.rdf_graph.specs.declared.term.Term.{Term}
use Rattle.rdf_graph.specs.declared.term.Term.TheVariants.{Blank}
use Rattle.rdf_graph.specs.declared.triple.Triple.{Triple}
use Rattle.rdf_meaning.specs.Nodes.{of_subject}
use Rattle.rdf_roles.proofs.NodeLaws.{same_label}
use Rattle.ttl_levels.specs.Nested.{IsNested}
use Rattle.ttl_nested.specs.Forms.{Cells, Form, Line, Pairs}
use Rattle.ttl_nested.specs.Forms.Form.{plain, round, square}
use Rattle.ttl_nested.specs.Forms.Cells.{cell, no_cells}
use Rattle.ttl_nested.specs.Forms.Pairs.{no_pairs, pair}
use Rattle.ttl_nested.specs.NestedText.{nested_text}
use Rattle.ttl_nest.proofs.FormLaws.{nil_not_nested, round_form, same_cell}
use Rattle.ttl_nest.proofs.LineWritingLaws.{AreInverted, inverted}
use Rattle.ttl_nest.specs.NestedForm.{AreCellsFrom, AreLinesFor, ArePairsOf, IsFormOf, IsNestedCell, IsNestedText, IsLineOf}
use Rattle.ttl_nest.specs.NestedForm.AreLinesFor.{inside, no_lines, one_line}

one_label : (x : Term) (a b : List ℕ) → x ≡ Blank a → x ≡ Blank b → a ≡ b
one_label x a b e f = same_label a b (sym e ∙ f)

module _ (g : List Triple) where
  -- the parts of a cell
  one_cell : (x : Term) (a b : List ℕ) (first rest other more : Term) → IsNestedCell g x a first rest → IsNestedCell g x b other more → (a ≡ b) × (other ≡ first) × (more ≡ rest)
  one_cell x a b first rest other more c d = let same = same_cell g x other more first rest d.cell c.cell in (one_label x a b c.is d.is, same.0, same.1)

  mutual
    form_once : (form : Form) (other : Form) (x : Term) → IsFormOf g x form → IsFormOf g x other → form ≡ other
    form_once (plain term) (plain same) x h k = ap plain (sym h.0 ∙ k.0)
    form_once (plain term) (round label element cells) x h k = absurd (h.1 k.2.nested)
    form_once (plain term) (square label pairs) x h k = absurd (h.1 k.0.nested)
    form_once (round label element cells) (plain term) x h k = absurd (k.1 h.2.nested)
    form_once (round label element cells) (round other same more) x h k =
        let one = one_cell x label other h.0 h.1 k.0 k.1 h.2 k.2 in
        let elements = form_once element same h.0 h.3 (subst (λ (y : Term). IsFormOf g y same) one.1 k.3) in
        let behind = cells_once cells more h.1 h.4 (subst (λ (y : Term). AreCellsFrom g y more) one.2 k.4) in
        ap (λ (l : List ℕ). round l element cells) one.0 ∙ ap (λ (f : Form). round other f cells) elements ∙ ap (λ (cs : Cells). round other same cs) behind
    form_once (round label element cells) (square other pairs) x h k = absurd (k.0.not_round (round_form g x label element cells h))
    form_once (square label pairs) (plain term) x h k = absurd (k.1 h.0.nested)
    form_once (square label pairs) (round other element cells) x h k = absurd (h.0.not_round (round_form g x other element cells k))
    form_once (square label pairs) (square other more) x h k =
        ap (λ (l : List ℕ). square l pairs) (one_label x label other h.0.is k.0.is) ∙ ap (λ (ps : Pairs). square other ps) (pairs_once pairs more (of_subject g x) h.1 k.1)

    cells_once : (cells : Cells) (other : Cells) (x : Term) → AreCellsFrom g x cells → AreCellsFrom g x other → cells ≡ other
    cells_once no_cells no_cells x h k = refl
    cells_once no_cells (cell label element cells) x h k = absurd (nil_not_nested g x h k.2.nested)
    cells_once (cell label element cells) no_cells x h k = absurd (nil_not_nested g x k h.2.nested)
    cells_once (cell label element cells) (cell other same more) x h k =
        let one = one_cell x label other h.0 h.1 k.0 k.1 h.2 k.2 in
        let elements = form_once element same h.0 h.3 (subst (λ (y : Term). IsFormOf g y same) one.1 k.3) in
        let behind = cells_once cells more h.1 h.4 (subst (λ (y : Term). AreCellsFrom g y more) one.2 k.4) in
        ap (λ (l : List ℕ). cell l element cells) one.0 ∙ ap (λ (f : Form). cell other f cells) elements ∙ ap (λ (cs : Cells). cell other same cs) behind

    pairs_once : (pairs : Pairs) (other : Pairs) (ts : List Triple) → ArePairsOf g ts pairs → ArePairsOf g ts other → pairs ≡ other
    pairs_once no_pairs no_pairs ts h k = refl
    pairs_once no_pairs (pair predicate object more) [] h k = absurd k
    pairs_once no_pairs (pair predicate object more) (t ∷ ts) h k = absurd h
    pairs_once (pair predicate object more) no_pairs [] h k = absurd h
    pairs_once (pair predicate object more) no_pairs (t ∷ ts) h k = absurd k
    pairs_once (pair predicate object more) (pair other same rest) [] h k = absurd h
    pairs_once (pair predicate object more) (pair other same rest) (t ∷ ts) h k =
        ap (λ (p : List ℕ). pair p object more) (sym h.0 ∙ k.0) ∙ ap (λ (f : Form). pair other f more) (form_once object same t.object h.1 k.1)
        ∙ ap (λ (ps : Pairs). pair other same ps) (pairs_once more rest ts h.2 k.2)

  line_once : (t : Triple) (line other : Line) → IsLineOf g t line → IsLineOf g t other → line ≡ other
  line_once t line other h k =
      ap (λ (x : Term). record { subject = x; predicate = line.predicate; object = line.object }) (sym h.subject ∙ k.subject)
      ∙ ap (λ (p : List ℕ). record { subject = other.subject; predicate = p; object = line.object }) (sym h.predicate ∙ k.predicate)
      ∙ ap (λ (f : Form). record { subject = other.subject; predicate = other.predicate; object = f }) (form_once line.object other.object t.object h.object k.object)

  lines_once : (ts : List Triple) (lines others : List Line) → AreLinesFor g ts lines → AreLinesFor g ts others → lines ≡ others
  lines_once _ _ others no_lines k = sym (inverted g [] others k)
  lines_once _ _ others (inside t ts lines nested more) k = elim (inverted g (t ∷ ts) others k) as (λ _. lines ≡ others) [
    | inl i ↦ lines_once ts lines others more i.1
    | inr o ↦ absurd (o.3.not_nested nested)
  ]
  lines_once _ _ others (one_line t ts line lines is more) k = elim (inverted g (t ∷ ts) others k) as (λ _. line ∷ lines ≡ others) [
    | inl i ↦ absurd (is.not_nested i.0)
    | inr o ↦ ap (λ (l : Line). l ∷ lines) (line_once t line o.0 is o.3) ∙ ap (λ (ls : List Line). o.0 ∷ ls) (lines_once ts lines o.1 more o.4) ∙ sym o.2
  ]

pub graphs_have_one_form : (g : List Triple) (lines others : List Line) → AreLinesFor g g lines → AreLinesFor g g others → lines ≡ others
graphs_have_one_form g = lines_once g g

pub one_text : (prefixes : List Prefix) (g : List Triple) (text other : List ℕ) → IsNestedText prefixes g text → IsNestedText prefixes g other → text ≡ other
one_text prefixes g text other h k = h.text_is ∙ ap (nested_text prefixes) (graphs_have_one_form g h.lines k.lines h.form k.form) ∙ sym k.text_is
