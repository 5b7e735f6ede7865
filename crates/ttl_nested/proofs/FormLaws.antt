-- The triples that are written as lines, with the labels of all blank nodes, in the order in which a reader states them; and that
-- a reader states these, where numbers stand for the labels that are not written.
use Rattle.std.proofs.Common.{◌≡◌, ℕ, ◌+◌, List, [], ◌∷◌, ◌++◌, length, map, refl, sym, ap, ◌∙◌, subst, arith}
use Rattle.std.proofs.lemmas.List.{append_assoc, append-nil, length-append, map-append}
use Rattle.rdf_graph.specs.declared.term.Term.{Term}
use Rattle.rdf_graph.specs.declared.term.Term.TheVariants.{Iri, Blank, Literal}
use Rattle.rdf_graph.specs.declared.triple.Triple.{Triple}
use Rattle.ttl_grammar.specs.States.{first_iri, nil_iri, rest_iri}
use Rattle.ttl_grammar.specs.declared.node.Node.{Node}
use Rattle.ttl_grammar.specs.declared.node.Node.TheVariants as node
use Rattle.ttl_grammar.specs.declared.node.NodeTriple.{NodeTriple}
use Rattle.ttl_grammar.specs.declared.node.Object.{Object}
use Rattle.ttl_grammar.specs.declared.node.Object.TheVariants as object
use Rattle.ttl_nested.specs.Forms.{Cells, Form, Line, Pairs}
use Rattle.ttl_nested.specs.Forms.Form.{plain, round, square}
use Rattle.ttl_nested.specs.Forms.Cells.{cell, no_cells}
use Rattle.ttl_nested.specs.Forms.Pairs.{no_pairs, pair}
use Rattle.ttl_nested.proofs.ReadingLaws.{Made, appeared, behind_cells, behind_form, behind_lines, behind_pairs, node_of, object_at, with_stated}
use Rattle.ttl_write.proofs.TermLaws.{object_of}

abbrev pub triple_of : Term → List ℕ → Term → Triple
triple_of s p o = record { subject = s; predicate = p; object = o }

-- the term that is written
abbrev pub form_term : Form → Term
form_term (plain term) = term
form_term (round label element cells) = Blank label
form_term (square label pairs) = Blank label

-- the labels that are not written, in the order in which their nodes begin

abbrev mutual
  pub form_labels : Form → List (List ℕ)
  form_labels (plain term) = []
  form_labels (round label element cells) = label ∷ (form_labels element ++ cells_labels cells)
  form_labels (square label pairs) = label ∷ pairs_labels pairs

  pub cells_labels : Cells → List (List ℕ)
  cells_labels no_cells = []
  cells_labels (cell label element cells) = label ∷ (form_labels element ++ cells_labels cells)

  pub pairs_labels : Pairs → List (List ℕ)
  pairs_labels no_pairs = []
  pairs_labels (pair predicate object more) = form_labels object ++ pairs_labels more

abbrev pub lines_labels : List Line → List (List ℕ)
lines_labels [] = []
lines_labels (line ∷ lines) = form_labels line.object ++ lines_labels lines

-- the triples

abbrev mutual
  pub form_triples : Form → List Triple
  form_triples (plain term) = []
  form_triples (round label element cells) = form_triples element ++ triple_of (Blank label) first_iri (form_term element) ∷ cells_triples label cells
  form_triples (square label pairs) = pairs_triples label pairs

  pub cells_triples : List ℕ → Cells → List Triple
  cells_triples last no_cells = triple_of (Blank last) rest_iri (Iri nil_iri) ∷ []
  cells_triples last (cell label element cells) =
      triple_of (Blank last) rest_iri (Blank label) ∷ (form_triples element ++ triple_of (Blank label) first_iri (form_term element) ∷ cells_triples label cells)

  pub pairs_triples : List ℕ → Pairs → List Triple
  pairs_triples label no_pairs = []
  pairs_triples label (pair predicate object more) = form_triples object ++ triple_of (Blank label) predicate (form_term object) ∷ pairs_triples label more

abbrev pub lines_triples : List Line → List Triple
lines_triples [] = []
lines_triples (line ∷ lines) = form_triples line.object ++ triple_of line.subject line.predicate (form_term line.object) ∷ lines_triples lines

-- what stands for terms, where these stand for labels

abbrev pub term_node : (List ℕ → Node) → Term → Node
term_node node_for (Iri iri) = node.Iri iri
term_node node_for (Blank label) = node_for label
term_node node_for (Literal literal) = node.Iri []

abbrev pub term_object : (List ℕ → Node) → Term → Object
term_object node_for (Iri iri) = object.Node (node.Iri iri)
term_object node_for (Blank label) = object.Node (node_for label)
term_object node_for (Literal literal) = object.Literal literal

abbrev pub node_triple : (List ℕ → Node) → Triple → NodeTriple
node_triple node_for t = record { subject = term_node node_for t.subject; predicate = t.predicate; object = term_object node_for t.object }

module _ (node_for : List ℕ → Node) where
  -- numbers from this one on stand for the labels
  abbrev pub AreNumbered : ℕ → List (List ℕ) → Type 0
  AreNumbered n [] = Unit {0}
  AreNumbered n (label ∷ labels) = (node_for label ≡ node.Unlabelled n) × AreNumbered (n + 1) labels

  -- labels that are written stand for themselves
  abbrev mutual
    pub IsKept : Form → Type 0
    IsKept (plain term) = object_of term ≡ term_object node_for term
    IsKept (round label element cells) = IsKept element × AreCellsKept cells
    IsKept (square label pairs) = ArePairsKept pairs

    pub AreCellsKept : Cells → Type 0
    AreCellsKept no_cells = Unit {0}
    AreCellsKept (cell label element cells) = IsKept element × AreCellsKept cells

    pub ArePairsKept : Pairs → Type 0
    ArePairsKept no_pairs = Unit {0}
    ArePairsKept (pair predicate object more) = IsKept object × ArePairsKept more

  abbrev pub AreLinesKept : List Line → Type 0
  AreLinesKept [] = Unit {0}
  AreLinesKept (line ∷ lines) = (node_of line.subject ≡ term_node node_for line.subject) × IsKept line.object × AreLinesKept lines

  -- so many numbers were taken, and these triples stated
  record Adds (old new : Made) (labels : List (List ℕ)) (triples : List Triple) : Type 0 where
    next : new.next ≡ old.next + length labels
    stated : new.triples ≡ old.triples ++ map (node_triple node_for) triples

  adds_none : (made : Made) → Adds made made [] []
  adds_none made = record { next = omega arith; stated = sym (append-nil made.triples) }

  adds_both : (a b c : Made) (ls ms : List (List ℕ)) (ts us : List Triple) → Adds a b ls ts → Adds b c ms us → Adds a c (ls ++ ms) (ts ++ us)
  adds_both a b c ls ms ts us h k = record {
    next = omega (arith, h.next, k.next, length-append ls ms);
    stated =
        k.stated
        ∙ ap (λ (all : List NodeTriple). all ++ map (node_triple node_for) us) h.stated
        ∙ append_assoc a.triples (map (node_triple node_for) ts) (map (node_triple node_for) us)
        ∙ ap (λ (all : List NodeTriple). a.triples ++ all) (sym (map-append (node_triple node_for) ts us));
  }

  adds_label : (made : Made) (label : List ℕ) → Adds made (appeared made) (label ∷ []) []
  adds_label made label = record { next = refl; stated = sym (append-nil made.triples) }

  adds_stated : (made : Made) (s : Node) (p : List ℕ) (o : Object) (subject object : Term) → s ≡ term_node node_for subject → o ≡ term_object node_for object
      → Adds made (with_stated s p o made) [] (triple_of subject p object ∷ [])
  adds_stated made s p o subject object e f = record {
    next = omega arith;
    stated = ap (λ (n : Node). made.triples ++ record { subject = n; predicate = p; object = o } ∷ []) e
        ∙ ap (λ (x : Object). made.triples ++ record { subject = term_node node_for subject; predicate = p; object = x } ∷ []) f;
  }

  numbered_front : (n : ℕ) (ls ms : List (List ℕ)) → AreNumbered n (ls ++ ms) → AreNumbered n ls
  numbered_front n [] ms h = tt
  numbered_front n (l ∷ ls) ms h = (h.0, numbered_front (n + 1) ls ms h.1)

  numbered_behind : (n m : ℕ) (ls ms : List (List ℕ)) → m ≡ n + length ls → AreNumbered n (ls ++ ms) → AreNumbered m ms
  numbered_behind n m [] ms e h = subst (λ (k : ℕ). AreNumbered k ms) (omega (arith, e)) h
  numbered_behind n m (l ∷ ls) ms e h = numbered_behind (n + 1) m ls ms (omega (arith, e)) h.1

  object_is : (form : Form) (n : ℕ) → IsKept form → AreNumbered n (form_labels form) → object_at form n ≡ term_object node_for (form_term form)
  object_is (plain term) n kept h = kept
  object_is (round label element cells) n kept h = ap object.Node (sym h.0)
  object_is (square label pairs) n kept h = ap object.Node (sym h.0)

  mutual
    form_adds : (form : Form) (made : Made) → IsKept form → AreNumbered made.next (form_labels form) → Adds made (behind_form form made) (form_labels form) (form_triples form)
    form_adds (plain term) made kept h = adds_none made
    form_adds (round label element cells) made kept h =
        let new = node.Unlabelled made.next in
        let named = appeared made in
        let element_h = numbered_front named.next (form_labels element) (cells_labels cells) h.1 in
        let element_adds = form_adds element named kept.0 element_h in
        let inner = behind_form element named in
        let o = object_at element named.next in
        let first = adds_stated inner new first_iri o (Blank label) (form_term element) (sym h.0) (object_is element named.next kept.0 element_h) in
        let others = cells_add label new cells (with_stated new first_iri o inner) (sym h.0) kept.1 (numbered_behind named.next inner.next (form_labels element) (cells_labels cells) element_adds.next h.1) in
        let stated = with_stated new first_iri o inner in
        let last = behind_cells new cells stated in
        adds_both made named last (label ∷ []) (form_labels element ++ cells_labels cells) [] (form_triples element ++ triple_of (Blank label) first_iri (form_term element) ∷ cells_triples label cells)
        (adds_label made label)
        (adds_both named inner last (form_labels element) (cells_labels cells) (form_triples element) (triple_of (Blank label) first_iri (form_term element) ∷ cells_triples label cells) element_adds
        (adds_both inner stated last [] (cells_labels cells) (triple_of (Blank label) first_iri (form_term element) ∷ []) (cells_triples label cells) first others))
    form_adds (square label pairs) made kept h =
        let new = node.Unlabelled made.next in
        adds_both made (appeared made) (behind_pairs new pairs (appeared made)) (label ∷ []) (pairs_labels pairs) [] (pairs_triples label pairs) (adds_label made label)
        (pairs_add label new pairs (appeared made) (sym h.0) kept h.1)

    cells_add : (last : List ℕ) (s : Node) (cells : Cells) (made : Made) → s ≡ node_for last → AreCellsKept cells → AreNumbered made.next (cells_labels cells) → Adds made (behind_cells s cells made) (cells_labels cells) (cells_triples last cells)
    cells_add last s no_cells made is kept h = adds_stated made s rest_iri (object.Node (node.Iri nil_iri)) (Blank last) (Iri nil_iri) is refl
    cells_add last s (cell label element cells) made is kept h =
        let new = node.Unlabelled made.next in
        let linked = with_stated s rest_iri (object.Node new) made in
        let named = appeared linked in
        let element_h = numbered_front named.next (form_labels element) (cells_labels cells) h.1 in
        let element_adds = form_adds element named kept.0 element_h in
        let inner = behind_form element named in
        let o = object_at element named.next in
        let stated = with_stated new first_iri o inner in
        let behind = behind_cells new cells stated in
        let first = adds_stated inner new first_iri o (Blank label) (form_term element) (sym h.0) (object_is element named.next kept.0 element_h) in
        let others = cells_add label new cells stated (sym h.0) kept.1 (numbered_behind named.next inner.next (form_labels element) (cells_labels cells) element_adds.next h.1) in
        let first_triple = triple_of (Blank label) first_iri (form_term element) in
        adds_both made linked behind [] (label ∷ (form_labels element ++ cells_labels cells)) (triple_of (Blank last) rest_iri (Blank label) ∷ []) (form_triples element ++ first_triple ∷ cells_triples label cells)
        (adds_stated made s rest_iri (object.Node new) (Blank last) (Blank label) is (ap object.Node (sym h.0)))
        (adds_both linked named behind (label ∷ []) (form_labels element ++ cells_labels cells) [] (form_triples element ++ first_triple ∷ cells_triples label cells) (adds_label linked label)
        (adds_both named inner behind (form_labels element) (cells_labels cells) (form_triples element) (first_triple ∷ cells_triples label cells) element_adds
        (adds_both inner stated behind [] (cells_labels cells) (first_triple ∷ []) (cells_triples label cells) first others)))

    pairs_add : (label : List ℕ) (s : Node) (pairs : Pairs) (made : Made) → s ≡ node_for label → ArePairsKept pairs → AreNumbered made.next (pairs_labels pairs) → Adds made (behind_pairs s pairs made) (pairs_labels pairs) (pairs_triples label pairs)
    pairs_add label s no_pairs made is kept h = adds_none made
    pairs_add label s (pair predicate object more) made is kept h =
        let object_h = numbered_front made.next (form_labels object) (pairs_labels more) h in
        let object_adds = form_adds object made kept.0 object_h in
        let inner = behind_form object made in
        let o = object_at object made.next in
        let stated = with_stated s predicate o inner in
        let behind = behind_pairs s more stated in
        let one = triple_of (Blank label) predicate (form_term object) in
        let first = adds_stated inner s predicate o (Blank label) (form_term object) is (object_is object made.next kept.0 object_h) in
        let others = pairs_add label s more stated is kept.1 (numbered_behind made.next inner.next (form_labels object) (pairs_labels more) object_adds.next h) in
        adds_both made inner behind (form_labels object) (pairs_labels more) (form_triples object) (one ∷ pairs_triples label more) object_adds
        (adds_both inner stated behind [] (pairs_labels more) (one ∷ []) (pairs_triples label more) first others)

  lines_add : (lines : List Line) (made : Made) → AreLinesKept lines → AreNumbered made.next (lines_labels lines) → Adds made (behind_lines lines made) (lines_labels lines) (lines_triples lines)
  lines_add [] made kept h = adds_none made
  lines_add (line ∷ lines) made kept h =
      let object_h = numbered_front made.next (form_labels line.object) (lines_labels lines) h in
      let object_adds = form_adds line.object made kept.1 object_h in
      let inner = behind_form line.object made in
      let o = object_at line.object made.next in
      let s = node_of line.subject in
      let stated = with_stated s line.predicate o inner in
      let behind = behind_lines lines stated in
      let one = triple_of line.subject line.predicate (form_term line.object) in
      let first = adds_stated inner s line.predicate o line.subject (form_term line.object) kept.0 (object_is line.object made.next kept.1 object_h) in
      let others = lines_add lines stated kept.2 (numbered_behind made.next inner.next (form_labels line.object) (lines_labels lines) object_adds.next h) in
      adds_both made inner behind (form_labels line.object) (lines_labels lines) (form_triples line.object) (one ∷ lines_triples lines) object_adds
      (adds_both inner stated behind [] (lines_labels lines) (one ∷ []) (lines_triples lines) first others)

  -- the triples that are stated of lines, from the first number on
  pub lines_state : (lines : List Line) → AreLinesKept lines → AreNumbered 0 (lines_labels lines) → (behind_lines lines (record { next = 0; triples = [] })).triples ≡ map (node_triple node_for) (lines_triples lines)
  lines_state lines kept h = (lines_add lines (record { next = 0; triples = [] }) kept h).stated
