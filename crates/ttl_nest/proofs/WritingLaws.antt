-- What stands in a draft between the parts of a text.
use Rattle.std.specs.Prelude.{◌≡◌, ◌<◌, ◌≤◌, ℕ, zero, suc, List, [], ◌∷◌, ◌++◌, codes, get_or, length}
use Rattle.std.specs.List.{AllByRecursion}
use Rattle.std.proofs.Common.{refl, sym, ap, ◌∙◌, subst, arith}
use Rattle.std.proofs.lemmas.List.{append_assoc, append-nil}
use Rattle.owl_atom.specs.declared.prefixes.Prefix.{Prefix}
use Rattle.owl_writing.proofs.DraftLaws.{joined3, longer_behind, longer_by}
use Rattle.owl_writing.specs.Limits.{IsTooLong}
use Rattle.owl_writing.specs.Terms.{iri_text}
use Rattle.rdf_graph.specs.declared.term.Term.{Term}
use Rattle.rdf_graph.specs.declared.term.Term.TheVariants.{Iri}
use Rattle.rdf_graph.specs.declared.triple.Triple.{Triple}
use Rattle.rdf_meaning.specs.Nodes.{nil_iri, of_subject}
use Rattle.ttl_levels.specs.Nested.{HasCells, IsNestableCell, IsNested, IsRound, first_iri, rest_iri}
use Rattle.ttl_nested.specs.Forms.{Cells, Form, Pairs}
use Rattle.ttl_nested.specs.Forms.Cells.{cell, no_cells}
use Rattle.ttl_nested.specs.Forms.Pairs.{no_pairs, pair}
use Rattle.ttl_nested.specs.NestedText.{cells_text, form_text, pairs_text, separator}
use Rattle.ttl_write.specs.Text.{term_text}
use Rattle.ttl_nest.specs.NestedForm.{AreCellsFrom, ArePairsOf, IsFormOf}
use Rattle.ttl_nest.specs.Sources.{AreShallowCells, IsShallow}
use Rattle.ttl_nest.proofs.FormLaws.{element_shallow, nil_not_nested, plain_form, rest_shallow, round_form_is, same_cell, square_form, two_are}

-- what is left stands behind what was written
pub left_is : (start whole now part rest : List ℕ) → start ++ whole ≡ now ++ (part ++ rest) → start ++ whole ≡ (now ++ part) ++ rest
left_is start whole now part rest e = e ∙ sym (append_assoc now part rest)

pub left_long : (start whole now part rest : List ℕ) → start ++ whole ≡ now ++ (part ++ rest) → IsTooLong (now ++ part) → IsTooLong (start ++ whole)
left_long start whole now part rest e h = subst IsTooLong (sym e) (longer_by now part rest h)

module _ (g : List Triple) (prefixes : List Prefix) where
  -- cells

  pub record AreCellsLeft (start : List ℕ) (x : Term) (now : List ℕ) (at : Term) (left depth : ℕ) : Type 0 where
    pub cells : HasCells g left at
    pub shallow : AreShallowCells g at left depth
    pub text : (cells : Cells) → AreCellsFrom g x cells → (rest : Cells) × AreCellsFrom g at rest × (start ++ cells_text prefixes cells ≡ now ++ cells_text prefixes rest)

  pub cells_begin : (start : List ℕ) (x : Term) (count depth : ℕ) → HasCells g count x → AreShallowCells g x count depth → AreCellsLeft start x start x count depth
  cells_begin start x count depth cells shallow = record { cells = cells; shallow = shallow; text = λ cells from. (cells, from, refl) }

  -- the triples of the cell that comes next
  pub record IsNextCell (at : Term) (first rest : Term) (left depth : ℕ) : Type 0 where
    pub behind : ℕ
    pub left_is : left ≡ suc behind
    pub cell : IsNestableCell g at first rest
    pub nested : IsNested g at
    pub cells : HasCells g behind rest
    pub element_is_shallow : IsShallow g first depth
    pub cells_are_shallow : AreShallowCells g rest behind depth

  pub next_cell : (at : Term) (left depth : ℕ) → (left ≡ 0 → ⊥) → HasCells g left at → AreShallowCells g at left depth → (t u : Triple) → of_subject g at ≡ t ∷ u ∷ [] → IsNextCell at t.object u.object left depth
  next_cell at zero depth some cells shallow t u e = absurd (some refl)
  next_cell at (suc n) depth some cells shallow t u e =
      let same = two_are (record { subject = at; predicate = first_iri; object = cells.0 }) (record { subject = at; predicate = rest_iri; object = cells.1 }) t u (sym cells.2.triples ∙ e) in
      let first = ap (λ (v : Triple). v.object) same.0 in
      let rest = ap (λ (v : Triple). v.object) same.1 in
      let c = subst (λ (y : Term). IsNestableCell g at t.object y) rest (subst (λ (y : Term). IsNestableCell g at y cells.1) first cells.2) in
      let behind = subst (HasCells g n) rest cells.3 in
      record {
        behind = n;
        left_is = refl;
        cell = c;
        nested = shallow.0;
        cells = behind;
        element_is_shallow = element_shallow g at t.object u.object c shallow.0 depth shallow.1;
        cells_are_shallow = rest_shallow g at t.object u.object c shallow.0 depth n behind shallow.1;
      }

  pub two_triples : (at : Term) (left : ℕ) → (left ≡ 0 → ⊥) → HasCells g left at → (t : Triple) × (u : Triple) × (of_subject g at ≡ t ∷ u ∷ [])
  two_triples at zero some cells = absurd (some refl)
  two_triples at (suc n) some cells = (record { subject = at; predicate = first_iri; object = cells.0 }, record { subject = at; predicate = rest_iri; object = cells.1 }, cells.2.triples)

  module _ (start : List ℕ) (x : Term) (now : List ℕ) (at first rest : Term) (left depth : ℕ) (w : AreCellsLeft start x now at left depth) (next : IsNextCell at first rest left depth) where
    record IsCellAhead (cells : Cells) : Type 0 where
      element : Form
      more : Cells
      form : IsFormOf g first element
      from : AreCellsFrom g rest more
      whole : start ++ cells_text prefixes cells ≡ now ++ ((form_text prefixes element ++ codes " ") ++ cells_text prefixes more)

    ahead : (cells left_cells : Cells) → AreCellsFrom g at left_cells → start ++ cells_text prefixes cells ≡ now ++ cells_text prefixes left_cells → IsCellAhead cells
    ahead cells no_cells from e = absurd (nil_not_nested g at from next.nested)
    ahead cells (cell label element more) from e =
        let same = same_cell g at from.0 from.1 first rest from.2.cell next.cell in
        record {
          element = element;
          more = more;
          form = subst (λ (y : Term). IsFormOf g y element) same.0 from.3;
          from = subst (λ (y : Term). AreCellsFrom g y more) same.1 from.4;
          whole = e ∙ ap (λ (cs : List ℕ). now ++ cs) (sym (append_assoc (form_text prefixes element) (codes " ") (cells_text prefixes more)));
        }

    pub cells_next : (new : List ℕ) → ((form : Form) → IsFormOf g first form → new ≡ now ++ (form_text prefixes form ++ codes " ")) → AreCellsLeft start x new rest next.behind depth
    cells_next new added = record {
      cells = next.cells;
      shallow = next.cells_are_shallow;
      text = λ cells from.
          let was = w.text cells from in
          let a = ahead cells was.0 was.1 was.2 in (
            a.more,
            a.from,
            left_is start (cells_text prefixes cells) now (form_text prefixes a.element ++ codes " ") (cells_text prefixes a.more) a.whole
                ∙ ap (λ (cs : List ℕ). cs ++ cells_text prefixes a.more) (sym (added a.element a.form)),
          );
    }

    pub cells_long : ((form : Form) → IsFormOf g first form → IsTooLong (now ++ (form_text prefixes form ++ codes " "))) → (cells : Cells) → AreCellsFrom g x cells → IsTooLong (start ++ cells_text prefixes cells)
    cells_long long cells from =
        let was = w.text cells from in
        let a = ahead cells was.0 was.1 was.2 in
        left_long start (cells_text prefixes cells) now (form_text prefixes a.element ++ codes " ") (cells_text prefixes a.more) a.whole (long a.element a.form)

  no_more_cells : (at : Term) (now whole : List ℕ) (cells : Cells) → at ≡ Iri nil_iri → AreCellsFrom g at cells → whole ≡ now ++ cells_text prefixes cells → now ≡ whole
  no_more_cells at now whole no_cells nil from e = sym (e ∙ append-nil now)
  no_more_cells at now whole (cell label element more) nil from e = absurd (nil_not_nested g at nil from.2.nested)

  pub cells_end : (start : List ℕ) (x : Term) (now : List ℕ) (at : Term) (left depth : ℕ) → left ≡ 0 → AreCellsLeft start x now at left depth → (cells : Cells) → AreCellsFrom g x cells → now ≡ start ++ cells_text prefixes cells
  cells_end start x now at zero depth none w cells from = let was = w.text cells from in no_more_cells at now (start ++ cells_text prefixes cells) was.0 w.cells was.1 was.2
  cells_end start x now at (suc n) depth none w cells from = absurd (omega (arith, none))

  -- pairs

  pub record ArePairsLeft (start : List ℕ) (triples : List Triple) (now : List ℕ) (rest : List Triple) (depth : ℕ) : Type 0 where
    pub shallow : AllByRecursion (λ t. IsShallow g t.object depth) rest
    pub text : (pairs : Pairs) → ArePairsOf g triples pairs → (more : Pairs) × ArePairsOf g rest more × (start ++ pairs_text prefixes pairs ≡ now ++ pairs_text prefixes more)

  pub pairs_begin : (start : List ℕ) (triples : List Triple) (depth : ℕ) → AllByRecursion (λ t. IsShallow g t.object depth) triples → ArePairsLeft start triples start triples depth
  pairs_begin start triples depth shallow = record { shallow = shallow; text = λ pairs are. (pairs, are, refl) }

  abbrev pub pair_text : List ℕ → Form → Pairs → List ℕ
  pair_text predicate object more = iri_text prefixes predicate ++ (codes " " ++ ((form_text prefixes object ++ codes " ") ++ separator more))

  pair_parts : (predicate : List ℕ) (object : Form) (more : Pairs) → pairs_text prefixes (pair predicate object more) ≡ pair_text predicate object more ++ pairs_text prefixes more
  pair_parts predicate object more =
      let o = form_text prefixes object in
      sym (append_assoc (iri_text prefixes predicate) (32 ∷ ((o ++ codes " ") ++ separator more)) (pairs_text prefixes more)
      ∙ ap (λ (cs : List ℕ). iri_text prefixes predicate ++ 32 ∷ cs)
      (append_assoc (o ++ codes " ") (separator more) (pairs_text prefixes more) ∙ append_assoc o (codes " ") (separator more ++ pairs_text prefixes more)))

  module _ (start : List ℕ) (triples : List Triple) (now : List ℕ) (rest : List Triple) (depth : ℕ) (w : ArePairsLeft start triples now rest depth) (t : Triple) (behind : List Triple) (ahead_is : rest ≡ t ∷ behind) where
    pub pair_shallow : IsShallow g t.object depth
    pair_shallow = (subst (AllByRecursion (λ t. IsShallow g t.object depth)) ahead_is w.shallow).0

    record IsPairAhead (pairs : Pairs) : Type 0 where
      object : Form
      more : Pairs
      form : IsFormOf g t.object object
      are : ArePairsOf g behind more
      whole : start ++ pairs_text prefixes pairs ≡ now ++ (pair_text t.predicate object more ++ pairs_text prefixes more)

    pair_ahead : (pairs left : Pairs) → ArePairsOf g (t ∷ behind) left → start ++ pairs_text prefixes pairs ≡ now ++ pairs_text prefixes left → IsPairAhead pairs
    pair_ahead pairs no_pairs are e = absurd are
    pair_ahead pairs (pair predicate object more) are e = record {
      object = object;
      more = more;
      form = are.1;
      are = are.2;
      whole = e ∙ ap (λ (cs : List ℕ). now ++ cs) (pair_parts predicate object more ∙ ap (λ (p : List ℕ). pair_text p object more ++ pairs_text prefixes more) (sym are.0));
    }

    found : (pairs : Pairs) → ArePairsOf g triples pairs → IsPairAhead pairs
    found pairs are = let was = w.text pairs are in pair_ahead pairs was.0 (subst (λ (ts : List Triple). ArePairsOf g ts was.0) ahead_is was.1) was.2

    pub pairs_next : (new : List ℕ) → ((object : Form) (more : Pairs) → IsFormOf g t.object object → ArePairsOf g behind more → new ≡ now ++ pair_text t.predicate object more) → ArePairsLeft start triples new behind depth
    pairs_next new added = record {
      shallow = (subst (AllByRecursion (λ t. IsShallow g t.object depth)) ahead_is w.shallow).1;
      text = λ pairs are.
          let a = found pairs are in (
            a.more,
            a.are,
            left_is start (pairs_text prefixes pairs) now (pair_text t.predicate a.object a.more) (pairs_text prefixes a.more) a.whole
                ∙ ap (λ (cs : List ℕ). cs ++ pairs_text prefixes a.more) (sym (added a.object a.more a.form a.are)),
          );
    }

    pub pairs_long : ((object : Form) (more : Pairs) → IsFormOf g t.object object → ArePairsOf g behind more → IsTooLong (now ++ pair_text t.predicate object more)) → (pairs : Pairs) → ArePairsOf g triples pairs
        → IsTooLong (start ++ pairs_text prefixes pairs)
    pairs_long long pairs are =
        let a = found pairs are in
        left_long start (pairs_text prefixes pairs) now (pair_text t.predicate a.object a.more) (pairs_text prefixes a.more) a.whole (long a.object a.more a.form a.are)

  no_more_pairs : (now whole : List ℕ) (pairs : Pairs) → ArePairsOf g [] pairs → whole ≡ now ++ pairs_text prefixes pairs → now ≡ whole
  no_more_pairs now whole no_pairs are e = sym (e ∙ append-nil now)
  no_more_pairs now whole (pair predicate object more) are e = absurd are

  pub pairs_end : (start : List ℕ) (triples : List Triple) (now : List ℕ) (rest : List Triple) (depth : ℕ) → length rest ≡ 0 → ArePairsLeft start triples now rest depth → (pairs : Pairs) → ArePairsOf g triples pairs
      → now ≡ start ++ pairs_text prefixes pairs
  pairs_end start triples now [] depth none w pairs are = let was = w.text pairs are in no_more_pairs now (start ++ pairs_text prefixes pairs) was.0 was.1 was.2
  pairs_end start triples now (t ∷ rest) depth none w pairs are = absurd (omega (arith, none))

-- parts of a text, one behind another

-- what stands between two signs
module _ (old text opening inner closing : List ℕ) (parts : text ≡ opening ++ (inner ++ closing)) where
  pub open_long : IsTooLong (old ++ opening) → IsTooLong (old ++ text)
  open_long h = subst (λ (t : List ℕ). IsTooLong (old ++ t)) (sym parts) (longer_by old opening (inner ++ closing) h)

  module _ (d : List ℕ) (opened : d ≡ old ++ opening) where
    pub inner_long : IsTooLong (d ++ inner) → IsTooLong (old ++ text)
    inner_long h = subst (λ (t : List ℕ). IsTooLong (old ++ t)) (sym parts) (longer_behind old opening (inner ++ closing) d opened (longer_by d inner closing h))

    module _ (e : List ℕ) (filled : e ≡ d ++ inner) where
      pub close_long : IsTooLong (e ++ closing) → IsTooLong (old ++ text)
      close_long h = subst (λ (t : List ℕ). IsTooLong (old ++ t)) (sym parts) (longer_behind old opening (inner ++ closing) d opened (longer_behind d inner closing e filled h))

      pub enclosed : (f : List ℕ) → f ≡ e ++ closing → f ≡ old ++ text
      enclosed f closed = joined3 old opening inner closing d e f opened filled closed ∙ ap (λ (t : List ℕ). old ++ t) (sym parts)

module _ (g : List Triple) (prefixes : List Prefix) (x : Term) (old : List ℕ) where
  abbrev IsLong : Form → Type 0
  IsLong form = IsTooLong (old ++ form_text prefixes form)

  abbrev IsDone : List ℕ → Form → Type 0
  IsDone new form = new ≡ old ++ form_text prefixes form

  -- in brackets
  module _ (nested : IsNested g x) (not : IsRound g x → ⊥) (triples : List Triple) (are : triples ≡ of_subject g x) where
    square_is : (form : Form) → IsFormOf g x form → (pairs : Pairs) × ArePairsOf g triples pairs × (form_text prefixes form ≡ codes "[ " ++ (pairs_text prefixes pairs ++ codes "]"))
    square_is form h =
        let s = square_form g x form nested not h in
        (s.pairs, subst (λ (ts : List Triple). ArePairsOf g ts s.pairs) (sym are) s.are, ap (form_text prefixes) s.is)

    pub square_open_long : IsTooLong (old ++ codes "[ ") → (form : Form) → IsFormOf g x form → IsLong form
    square_open_long h form f = let s = square_is form f in open_long old (form_text prefixes form) (codes "[ ") (pairs_text prefixes s.0) (codes "]") s.2 h

    module _ (d : List ℕ) (opened : d ≡ old ++ codes "[ ") where
      pub square_inner_long : ((pairs : Pairs) → ArePairsOf g triples pairs → IsTooLong (d ++ pairs_text prefixes pairs)) → (form : Form) → IsFormOf g x form → IsLong form
      square_inner_long h form f = let s = square_is form f in inner_long old (form_text prefixes form) (codes "[ ") (pairs_text prefixes s.0) (codes "]") s.2 d opened (h s.0 s.1)

      module _ (e : List ℕ) (filled : (pairs : Pairs) → ArePairsOf g triples pairs → e ≡ d ++ pairs_text prefixes pairs) where
        pub square_close_long : IsTooLong (e ++ codes "]") → (form : Form) → IsFormOf g x form → IsLong form
        square_close_long h form f = let s = square_is form f in close_long old (form_text prefixes form) (codes "[ ") (pairs_text prefixes s.0) (codes "]") s.2 d opened e (filled s.0 s.1) h

        pub square_done : (new : List ℕ) → new ≡ e ++ codes "]" → (form : Form) → IsFormOf g x form → IsDone new form
        square_done new closed form f = let s = square_is form f in enclosed old (form_text prefixes form) (codes "[ ") (pairs_text prefixes s.0) (codes "]") s.2 d opened e (filled s.0 s.1) new closed

  -- as a collection
  module _ (nested : IsNested g x) (round_is : IsRound g x) where
    collection_is : (form : Form) → IsFormOf g x form → (cells : Cells) × AreCellsFrom g x cells × (form_text prefixes form ≡ codes "( " ++ (cells_text prefixes cells ++ codes ")"))
    collection_is form h =
        let r = round_form_is g x form nested round_is h in (
          cell r.label r.element r.cells,
          r.are,
          ap (form_text prefixes) r.is
              ∙ ap (λ (cs : List ℕ). codes "( " ++ cs)
              (sym (append_assoc (form_text prefixes r.element) (32 ∷ cells_text prefixes r.cells) (codes ")"))),
        )

    pub round_open_long : IsTooLong (old ++ codes "( ") → (form : Form) → IsFormOf g x form → IsLong form
    round_open_long h form f = let s = collection_is form f in open_long old (form_text prefixes form) (codes "( ") (cells_text prefixes s.0) (codes ")") s.2 h

    module _ (d : List ℕ) (opened : d ≡ old ++ codes "( ") where
      pub round_inner_long : ((cells : Cells) → AreCellsFrom g x cells → IsTooLong (d ++ cells_text prefixes cells)) → (form : Form) → IsFormOf g x form → IsLong form
      round_inner_long h form f = let s = collection_is form f in inner_long old (form_text prefixes form) (codes "( ") (cells_text prefixes s.0) (codes ")") s.2 d opened (h s.0 s.1)

      module _ (e : List ℕ) (filled : (cells : Cells) → AreCellsFrom g x cells → e ≡ d ++ cells_text prefixes cells) where
        pub round_close_long : IsTooLong (e ++ codes ")") → (form : Form) → IsFormOf g x form → IsLong form
        round_close_long h form f = let s = collection_is form f in close_long old (form_text prefixes form) (codes "( ") (cells_text prefixes s.0) (codes ")") s.2 d opened e (filled s.0 s.1) h

        pub round_done : (new : List ℕ) → new ≡ e ++ codes ")" → (form : Form) → IsFormOf g x form → IsDone new form
        round_done new closed form f = let s = collection_is form f in enclosed old (form_text prefixes form) (codes "( ") (cells_text prefixes s.0) (codes ")") s.2 d opened e (filled s.0 s.1) new closed

  -- by its term
  pub plain_done : (IsNested g x → ⊥) → (new : List ℕ) → new ≡ old ++ term_text prefixes x → (form : Form) → IsFormOf g x form → IsDone new form
  plain_done not new is form f = is ∙ ap (λ (t : Form). old ++ form_text prefixes t) (sym (plain_form g x form not f))

  pub plain_long : (IsNested g x → ⊥) → IsTooLong (old ++ term_text prefixes x) → (form : Form) → IsFormOf g x form → IsLong form
  plain_long not h form f = subst (λ (t : Form). IsTooLong (old ++ form_text prefixes t)) (sym (plain_form g x form not f)) h

-- the predicate and the object of a triple, and what stands behind them
module _ (old p element end : List ℕ) where
  pub predicate_long : IsTooLong (old ++ p) → IsTooLong (old ++ (p ++ (codes " " ++ (element ++ end))))
  predicate_long h = longer_by old p (codes " " ++ (element ++ end)) h

  module _ (a : List ℕ) (first : a ≡ old ++ p) where
    pub space_long : IsTooLong (a ++ codes " ") → IsTooLong (old ++ (p ++ (codes " " ++ (element ++ end))))
    space_long h = longer_behind old p (codes " " ++ (element ++ end)) a first (longer_by a (codes " ") (element ++ end) h)

    module _ (b : List ℕ) (second : b ≡ a ++ codes " ") where
      pub element_long : IsTooLong (b ++ element) → IsTooLong (old ++ (p ++ (codes " " ++ (element ++ end))))
      element_long h = longer_behind old p (codes " " ++ (element ++ end)) a first (longer_behind a (codes " ") (element ++ end) b second (longer_by b element end h))

      module _ (c : List ℕ) (third : c ≡ b ++ element) where
        pub end_long : IsTooLong (c ++ end) → IsTooLong (old ++ (p ++ (codes " " ++ (element ++ end))))
        end_long h = longer_behind old p (codes " " ++ (element ++ end)) a first (longer_behind a (codes " ") (element ++ end) b second (longer_behind b element end c third h))

        pub joined4 : (new : List ℕ) → new ≡ c ++ end → new ≡ old ++ (p ++ (codes " " ++ (element ++ end)))
        joined4 new last = joined3 a (codes " ") element end b c new second third last ∙ ap (λ (t : List ℕ). t ++ (codes " " ++ (element ++ end))) first ∙ append_assoc old p (codes " " ++ (element ++ end))

-- the two items of a list
pub only_two : (ts : List Triple) (t u : Triple) → length ts < 3 → 2 ≤ length ts → t ≡ get_or ts 0 t → u ≡ get_or ts 1 u → ts ≡ t ∷ u ∷ []
only_two [] t u few some first second = absurd (omega (arith, some))
only_two (a ∷ []) t u few some first second = absurd (omega (arith, some))
only_two (a ∷ b ∷ []) t u few some first second = ap (λ (v : Triple). v ∷ b ∷ []) (sym first) ∙ ap (λ (v : Triple). t ∷ v ∷ []) (sym second)
only_two (a ∷ b ∷ d ∷ ts) t u few some first second = absurd (omega (arith, few))
