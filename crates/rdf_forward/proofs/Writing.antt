-- What is written one behind the other.
use Rattle.std.proofs.Common.{◌≡◌, ◌<◌, ℕ, suc, ◌+◌, Bool, true, false, List, [], ◌∷◌, ◌++◌, length, Some, refl, sym, ap, ◌∙◌, subst, arith}
use Rattle.std.specs.Prelude.{◌||◌, not, nat_eq, nat_le}
use Rattle.std.proofs.lemmas.Bool.{ne_eqb}
use Rattle.std.proofs.lemmas.List.{append-nil, append_assoc}
use Rattle.owl_arena.specs.Held.{tree_at}
use Rattle.owl_tree.specs.declared.atom.Atom.TheVariants as atom
use Rattle.owl_tree.specs.Trees.{Tree, leaf, node, atom_in}
use Rattle.rdf_graph.specs.declared.term.Term.{Term}
use Rattle.rdf_graph.specs.declared.triple.Triple.{Triple}
use Rattle.rdf_meaning.specs.declared.word.Word.{Word}
use Rattle.rdf_meaning.specs.declared.row.Place.{Place}
use Rattle.rdf_meaning.specs.declared.row.Place.TheVariants.{At, Subject, Predicate, Object}
use Rattle.rdf_forward.specs.declared.writer.Writer.{Writer}
use Rattle.rdf_mapping.specs.Forms.{Form, Arcs, arc, arc_nodes, arc_triples, blank, first_iri, link, list_form, made, no_arcs, nodes, rest_iri, term_of, triples, twice}
use Rattle.rdf_mapping.specs.Drawing.{Placed, arc_iri, arcs_of, facet_arcs, form_of, kid_of, listed, placed_at}
use Rattle.rdf_mapping.specs.Arenas.{forms_at, kids_at}
use Rattle.rdf_forward.specs.Walks.{Leads, Writes, WritesArcs, WritesForm, is_none, names, rest_term, second_cell}
use Rattle.rdf_forward.proofs.Cells.{cell_leads, same_names, writes_nothing}

-- What depends on names and the next number is as if it were told beforehand.
pub followed : (a b c : Writer) (m n k at : ℕ) (ts vs : List Triple) (g : (ℕ → List ℕ) → ℕ → List Triple) → Writes a b m ts → Writes b c n (g (names b) b.next) → at ≡ a.next + m → k ≡ m + n → vs ≡ ts ++ g (names a) at → Writes a c k vs
followed a b c m n k at ts vs g x y there count all = record {
  labels = y.labels ∙ x.labels;
  counted = omega (arith, x.counted, y.counted, count);
  added = y.added
      ∙ ap (λ (us : List Triple). b.gather ++ us) (ap (λ (name : ℕ → List ℕ). g name b.next) (same_names a b x.labels) ∙ ap (g (names a)) (x.counted ∙ sym there))
      ∙ ap (λ (us : List Triple). us ++ g (names a) at) x.added
      ∙ append_assoc a.gather ts (g (names a) at) ∙ ap (λ (us : List Triple). a.gather ++ us) (sym all);
}

pub writes_no_arcs : (w : Writer) (x : Term) (arcs : Arcs) → arcs ≡ no_arcs → WritesArcs w w x arcs
writes_no_arcs w x arcs e = subst (WritesArcs w w x) (sym e) (writes_nothing w)

arcs_after : (old mid new : Writer) (x : ℕ) (arcs : Arcs) → Writes old mid 0 [] → WritesArcs mid new (blank (names mid) x) arcs → WritesArcs old new (blank (names old) x) arcs
arcs_after old mid new x arcs a b =
    followed old mid new 0 (arc_nodes arcs) (arc_nodes arcs) old.next [] (arc_triples (names old) (blank (names old) x) arcs old.next)
    (λ (m : ℕ → List ℕ) (k : ℕ). arc_triples m (blank m x) arcs k) a b (omega arith) (omega arith) refl

-- the arc of a part, and those of the parts behind it
pub arcs_both : (old mid new : Writer) (x : ℕ) (place : Place) (f : Form) (ps : List Placed) → WritesArcs old mid (blank (names old) x) (arcs_of (placed_at place f ∷ [])) → WritesArcs mid new (blank (names mid) x) (arcs_of ps) → WritesArcs old new (blank (names old) x) (arcs_of (placed_at place f ∷ ps))
arcs_both old mid new x (At w) f ps a b =
    let name = names old in
    let one = link (blank name x) (arc_iri w) (term_of name f old.next) in
    followed old mid new (nodes f + 0) (arc_nodes (arcs_of ps)) (nodes f + arc_nodes (arcs_of ps)) (old.next + nodes f) (one ∷ (triples name f old.next ++ []))
    (one ∷ (triples name f old.next ++ arc_triples name (blank name x) (arcs_of ps) (old.next + nodes f)))
    (λ (m : ℕ → List ℕ) (k : ℕ). arc_triples m (blank m x) (arcs_of ps) k) a b (omega arith) (omega arith)
    (ap (λ (ts : List Triple). one ∷ (ts ++ arc_triples name (blank name x) (arcs_of ps) (old.next + nodes f))) (sym (append-nil (triples name f old.next))))
arcs_both old mid new x Subject f ps a b = arcs_after old mid new x (arcs_of ps) a b
arcs_both old mid new x Predicate f ps a b = arcs_after old mid new x (arcs_of ps) a b
arcs_both old mid new x Object f ps a b = arcs_after old mid new x (arcs_of ps) a b

-- one arc: its triple, and then what it leads to
pub arc_written : (old mid new : Writer) (x : Term) (p : List ℕ) (f : Form) → Writes old mid 0 (link x p (term_of (names old) f old.next) ∷ []) → WritesForm mid new f → WritesArcs old new x (arc p f no_arcs)
arc_written old mid new x p f first tree =
    let name = names old in
    let one = link x p (term_of name f old.next) in
    followed old mid new 0 (nodes f) (nodes f + 0) old.next (one ∷ []) (one ∷ (triples name f old.next ++ [])) (λ (m : ℕ → List ℕ) (k : ℕ). triples m f k) first tree (omega arith) (omega arith)
    (ap (λ (ts : List Triple). one ∷ ts) (append-nil (triples name f old.next)))

-- one part of a node, which has an arc
pub part_written : (old mid new : Writer) (x : ℕ) (place : Place) (w : Word) (f : Form) → place ≡ At w → Writes old mid 0 (link (blank (names old) x) (arc_iri w) (term_of (names old) f old.next) ∷ []) → WritesForm mid new f → WritesArcs old new (blank (names old) x) (arcs_of (placed_at place f ∷ []))
part_written old mid new x place w f e first tree =
    subst (λ (p : Place). WritesArcs old new (blank (names old) x) (arcs_of (placed_at p f ∷ []))) (sym e) (arc_written old mid new (blank (names old) x) (arc_iri w) f first tree)

-- a node, and then its arcs
pub made_written : (old mid new : Writer) (x : ℕ) (f : Form) (arcs : Arcs) → x ≡ old.next → Writes old mid 1 [] → WritesArcs mid new (blank (names mid) x) arcs → f ≡ made arcs → WritesForm old new f
made_written old mid new x f arcs n a b e =
    subst (WritesForm old new) (sym e)
    (followed old mid new 1 (arc_nodes arcs) (suc (arc_nodes arcs)) (suc old.next) [] (arc_triples (names old) (blank (names old) old.next) arcs (suc old.next))
    (λ (m : ℕ → List ℕ) (k : ℕ). arc_triples m (blank m x) arcs k) a b (omega arith) (omega arith)
    (ap (λ (k : ℕ). arc_triples (names old) (blank (names old) k) arcs (suc old.next)) (sym n)))

-- a node without arcs
pub node_alone : (old new : Writer) (f : Form) → f ≡ made no_arcs → Writes old new 1 [] → WritesForm old new f
node_alone old new f e x = subst (WritesForm old new) (sym e) x

iri_arc : (t u : Tree) (iri : List ℕ) → atom_in t ≡ Some (atom.Iri iri) → facet_arcs (kid_of t ∷ kid_of u ∷ []) ≡ arc iri (form_of u) no_arcs
iri_arc (leaf t (atom.Iri i)) u iri h = let e : i ≡ iri = cc in ap (λ (j : List ℕ). arc j (form_of u) no_arcs) e
iri_arc (leaf t (atom.Label i)) u iri h = cc
iri_arc (leaf t (atom.Literal i)) u iri h = cc
iri_arc (leaf t (atom.Number i)) u iri h = cc
iri_arc (node t ks) u iri h = cc

-- a facet leads to its value
pub facet_written : (trees : List Tree) (old mid new : Writer) (x : Term) (facet value : ℕ) (ids : List ℕ) (iri : List ℕ) → ids ≡ facet ∷ value ∷ [] → atom_in (tree_at trees facet) ≡ Some (atom.Iri iri) → Writes old mid 0 (link x iri (term_of (names old) (form_of (tree_at trees value)) old.next) ∷ []) → WritesForm mid new (form_of (tree_at trees value)) → WritesArcs old new x (facet_arcs (kids_at trees ids))
facet_written trees old mid new x facet value ids iri e h first tree =
    let f = form_of (tree_at trees value) in
    subst (λ (is : List ℕ). WritesArcs old new x (facet_arcs (kids_at trees is))) (sym e)
    (subst (WritesArcs old new x) (sym (iri_arc (tree_at trees facet) (tree_at trees value) iri h)) (arc_written old mid new x iri f first tree))

-- a list that has its one element twice
pub twice_written : (old w1 w2 w3 w4 : Writer) (cell element : ℕ) (f : Form) → cell ≡ old.next → element ≡ w1.next → Writes old w1 1 [] → Writes w1 w2 0 (link (blank (names w1) cell) first_iri (term_of (names w1) f element) ∷ []) → WritesForm w2 w3 f → Writes w3 w4 1 (second_cell (names w3) cell w3.next (term_of (names w3) f element)) → WritesForm old w4 (twice f)
twice_written old w1 w2 w3 w4 cell element f c el fresh first tree again =
    let name = names old in
    let n = old.next in
    let at : element ≡ suc n = omega (arith, el, fresh.counted) in
    let one = link (blank name cell) first_iri (term_of name f element) in
    let x1 : Writes old w2 1 (one ∷ []) =
    followed old w1 w2 1 0 1 (suc n) [] (one ∷ []) (λ (m : ℕ → List ℕ) (k : ℕ). link (blank m cell) first_iri (term_of m f element) ∷ []) fresh first (omega arith) (omega arith) refl in
    let x2 : Writes old w3 (suc (nodes f)) (one ∷ triples name f (suc n)) =
    followed old w2 w3 1 (nodes f) (suc (nodes f)) (suc n) (one ∷ []) (one ∷ triples name f (suc n)) (λ (m : ℕ → List ℕ) (k : ℕ). triples m f k) x1 tree (omega arith) (omega arith) refl in
    let x3 : Writes old w4 (suc (nodes f + 1)) ((one ∷ triples name f (suc n)) ++ second_cell name cell (suc n + nodes f) (term_of name f element)) =
    followed old w3 w4 (suc (nodes f)) 1 (suc (nodes f + 1)) (suc n + nodes f) (one ∷ triples name f (suc n)) _ (λ (m : ℕ → List ℕ) (k : ℕ). second_cell m cell k (term_of m f element)) x2 again (omega arith) (omega arith) refl in
    subst (λ (j : ℕ). Writes old w4 (suc (nodes f + 1)) ((link (blank name n) first_iri (term_of name f j) ∷ triples name f (suc n)) ++ second_cell name n (suc n + nodes f) (term_of name f j))) at
    (subst (λ (j : ℕ). Writes old w4 (suc (nodes f + 1)) ((link (blank name j) first_iri (term_of name f element) ∷ triples name f (suc n)) ++ second_cell name j (suc n + nodes f) (term_of name f element))) c x3)

-- a list that ends behind these elements
pub ended : (old new : Writer) (fs : List Form) → Leads old new false fs → WritesForm old new (list_form fs)
ended old new fs leads =
    subst (λ (gs : List Form). WritesForm old new (list_form gs)) (append-nil fs) (leads [] new refl (writes_nothing new))

goes_where : (trees : List Tree) (ids : List ℕ) → is_none (forms_at trees ids) ≡ not (not (nat_eq (length ids) 0))
goes_where trees [] = refl
goes_where trees (i ∷ ids) = ap (λ (b : Bool). not (not b)) (sym (ne_eqb (suc (length ids)) 0 (λ e. absurd (omega (arith, e)))))

-- a list, and what it goes on with
pub joined_lists : (trees : List Tree) (old mid new : Writer) (goes_on : Bool) (objects others : List ℕ) → goes_on ≡ not (nat_eq (length others) 0) → Leads old mid goes_on (forms_at trees objects) → Leads mid new false (forms_at trees others) → WritesForm old new (list_form (forms_at trees objects ++ forms_at trees others))
joined_lists trees old mid new goes_on objects others e first second = first (forms_at trees others) new (goes_where trees others ∙ ap not (sym e)) (ended mid new _ second)

-- lists that are not written twice
pub listed_one : (trees : List Tree) (least id : ℕ) (ids : List ℕ) → ids ≡ id ∷ [] → nat_le 2 least ≡ false → listed least (forms_at trees ids) ≡ list_form (forms_at trees ids)
listed_one trees least id ids e h =
    let one : listed least (forms_at trees (id ∷ [])) ≡ list_form (forms_at trees (id ∷ [])) = rw h refl in
    subst (λ (is : List ℕ). listed least (forms_at trees is) ≡ list_form (forms_at trees is)) (sym e) one

pub listed_other : (trees : List Tree) (least : ℕ) (ids : List ℕ) → (length ids ≡ 1 → ⊥) → listed least (forms_at trees ids) ≡ list_form (forms_at trees ids)
listed_other trees least [] h = refl
listed_other trees least (i ∷ []) h = absurd (h refl)
listed_other trees least (i ∷ j ∷ ids) h = refl

-- whether a list goes on behind a cell
pub goes_anyway : (x g b : Bool) → g ≡ true → x ≡ g → x ≡ (g || b)
goes_anyway x true b e h = h
goes_anyway x false b e h = absurd (cc)

pub goes_if_more : (x g b : Bool) → g ≡ false → x ≡ b → x ≡ (g || b)
goes_if_more x true b e h = absurd (cc)
goes_if_more x false b e h = h

-- a cell, whose number was told
pub cell_written : (old w1 w2 w3 w4 : Writer) (f : Form) (goes_on : Bool) (cell : ℕ) → cell ≡ old.next → Writes old w1 1 [] → Writes w1 w2 0 (link (blank (names w1) cell) first_iri (term_of (names w1) f w1.next) ∷ []) → WritesForm w2 w3 f → Writes w3 w4 0 (link (blank (names w3) cell) rest_iri (rest_term (names w3) goes_on w3.next) ∷ []) → Leads old w4 goes_on (f ∷ [])
cell_written old w1 w2 w3 w4 f goes_on cell c fresh first tree rest =
    cell_leads old w1 w2 w3 w4 f goes_on fresh
    (subst (λ (n : ℕ). Writes w1 w2 0 (link (blank (names w1) n) first_iri (term_of (names w1) f w1.next) ∷ [])) c first) tree
    (subst (λ (n : ℕ). Writes w3 w4 0 (link (blank (names w3) n) rest_iri (rest_term (names w3) goes_on w3.next) ∷ [])) c rest)

pub below_two : (n : ℕ) → n < 2 → nat_le 2 n ≡ false
below_two n h = grind arith
