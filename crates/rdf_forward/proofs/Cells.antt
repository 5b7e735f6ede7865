-- Lists, cell by cell.
use Rattle.std.proofs.Common.{◌≡◌, ℕ, suc, ◌+◌, Bool, true, false, List, [], ◌∷◌, ◌++◌, refl, sym, ap, ◌∙◌, arith}
use Rattle.std.specs.Prelude.{◌||◌, nat_eq, not, length}
use Rattle.std.proofs.lemmas.Bool.{ne_eqb}
use Rattle.std.proofs.lemmas.List.{append-nil, append_assoc}
use Rattle.owl_tree.specs.Trees.{Tree}
use Rattle.rdf_graph.specs.declared.triple.Triple.{Triple}
use Rattle.rdf_forward.specs.declared.writer.Writer.{Writer}
use Rattle.blank_labels.specs.LabelNumbers.{names_beside}
use Rattle.rdf_mapping.specs.Forms.{Form, blank, first_iri, link, list_form, nodes, rest_iri, term_of, triples}
use Rattle.rdf_mapping.specs.Arenas.{forms_at}
use Rattle.rdf_forward.specs.Walks.{Leads, Writes, WritesForm, is_none, names, rest_term}

pub same_names : (old new : Writer) → new.labels ≡ old.labels → names new ≡ names old
same_names old new e = ap names_beside e

pub writes_nothing : (w : Writer) → Writes w w 0 []
writes_nothing w = record { labels = refl; counted = omega arith; added = sym (append-nil w.gather) }

rest_is : (name : ℕ → List ℕ) (goes_on : Bool) (others : List Form) (n : ℕ) → is_none others ≡ not goes_on → rest_term name goes_on n ≡ term_of name (list_form others) n
rest_is name true [] n e = absurd (cc)
rest_is name true (f ∷ fs) n e = refl
rest_is name false [] n e = refl
rest_is name false (f ∷ fs) n e = absurd (cc)

joined : (g ts us : List Triple) (x y : Triple) → (((g ++ x ∷ []) ++ ts) ++ y ∷ []) ++ us ≡ g ++ (x ∷ (ts ++ (y ∷ (us ++ []))))
joined [] ts us x y = ap (λ (l : List Triple). x ∷ l) (append_assoc ts (y ∷ []) us ∙ ap (λ (u : List Triple). ts ++ (y ∷ u)) (sym (append-nil us)))
joined (z ∷ g) ts us x y = ap (λ (l : List Triple). z ∷ l) (joined g ts us x y)

pub cell_leads : (old w1 w2 w3 w4 : Writer) (f : Form) (goes_on : Bool) → Writes old w1 1 [] → Writes w1 w2 0 (link (blank (names w1) old.next) first_iri (term_of (names w1) f w1.next) ∷ []) → WritesForm w2 w3 f → Writes w3 w4 0 (link (blank (names w3) old.next) rest_iri (rest_term (names w3) goes_on w3.next) ∷ []) → Leads old w4 goes_on (f ∷ [])
cell_leads old w1 w2 w3 w4 f goes_on fresh first tree rest others last h behind =
    let name = names old in
    let n = old.next in
    let m1 : names w1 ≡ name = same_names old w1 fresh.labels in
    let m2 : names w2 ≡ name = same_names w1 w2 first.labels ∙ m1 in
    let m3 : names w3 ≡ name = same_names w2 w3 tree.labels ∙ m2 in
    let m4 : names w4 ≡ name = same_names w3 w4 rest.labels ∙ m3 in
    let n1 : w1.next ≡ suc n = omega (arith, fresh.counted) in
    let n2 : w2.next ≡ suc n = omega (arith, fresh.counted, first.counted) in
    let n3 : w3.next ≡ suc n + nodes f = omega (arith, fresh.counted, first.counted, tree.counted) in
    let n4 : w4.next ≡ suc n + nodes f = omega (arith, fresh.counted, first.counted, tree.counted, rest.counted) in
    let g1 : w1.gather ≡ old.gather = fresh.added ∙ append-nil old.gather in
    let g2 : w2.gather ≡ old.gather ++ link (blank name n) first_iri (term_of name f (suc n)) ∷ [] =
    first.added ∙ ap (λ (g : List Triple). g ++ link (blank (names w1) n) first_iri (term_of (names w1) f w1.next) ∷ []) g1
    ∙ ap (λ (m : ℕ → List ℕ). old.gather ++ link (blank m n) first_iri (term_of m f w1.next) ∷ []) m1
    ∙ ap (λ (k : ℕ). old.gather ++ link (blank name n) first_iri (term_of name f k) ∷ []) n1 in
    let g3 : w3.gather ≡ w2.gather ++ triples name f (suc n) =
    tree.added ∙ ap (λ (m : ℕ → List ℕ). w2.gather ++ triples m f w2.next) m2 ∙ ap (λ (k : ℕ). w2.gather ++ triples name f k) n2 in
    let g4 : w4.gather ≡ w3.gather ++ link (blank name n) rest_iri (term_of name (list_form others) (suc n + nodes f)) ∷ [] =
    rest.added ∙ ap (λ (m : ℕ → List ℕ). w3.gather ++ link (blank m n) rest_iri (rest_term m goes_on w3.next) ∷ []) m3
    ∙ ap (λ (k : ℕ). w3.gather ++ link (blank name n) rest_iri (rest_term name goes_on k) ∷ []) n3
    ∙ ap (λ t. w3.gather ++ link (blank name n) rest_iri t ∷ []) (rest_is name goes_on others (suc n + nodes f) h) in
    let g5 : last.gather ≡ w4.gather ++ triples name (list_form others) (suc n + nodes f) =
    behind.added ∙ ap (λ (m : ℕ → List ℕ). w4.gather ++ triples m (list_form others) w4.next) m4
    ∙ ap (λ (k : ℕ). w4.gather ++ triples name (list_form others) k) n4 in
    record {
      labels = behind.labels ∙ rest.labels ∙ tree.labels ∙ first.labels ∙ fresh.labels;
      counted = omega (arith, behind.counted, n4);
      added = g5
          ∙ ap (λ (g : List Triple). g ++ triples name (list_form others) (suc n + nodes f)) (g4 ∙ ap (λ (g : List Triple). g ++ link (blank name n) rest_iri (term_of name (list_form others) (suc n + nodes f)) ∷ []) (g3 ∙ ap (λ (g : List Triple). g ++ triples name f (suc n)) g2))
          ∙ joined old.gather (triples name f (suc n)) (triples name (list_form others) (suc n + nodes f)) (link (blank name n) first_iri (term_of name f (suc n))) (link (blank name n) rest_iri (term_of name (list_form others) (suc n + nodes f)));
    }

-- The cells so far lead on to those that are left.
pub record LeadsOn (trees : List Tree) (start now : Writer) (goes_on : Bool) (ids left : List ℕ) : Type 0 where
  pub on : (others : List Form) (last : Writer) → is_none others ≡ not goes_on → WritesForm now last (list_form (forms_at trees left ++ others)) → WritesForm start last (list_form (forms_at trees ids ++ others))

no_suc : (n : ℕ) → nat_eq (suc n) 0 ≡ false
no_suc n = ne_eqb (suc n) 0 (λ e. absurd (omega (arith, e)))

-- with one more cell, which goes on where others are left or the list does
behind_some : (trees : List Tree) (left : List ℕ) (others : List Form) (goes_on : Bool) → is_none others ≡ not goes_on → is_none (forms_at trees left ++ others) ≡ not (goes_on || not (nat_eq (length left) 0))
behind_some trees [] others true h = h
behind_some trees [] others false h = h
behind_some trees (i ∷ left) others true h = refl
behind_some trees (i ∷ left) others false h = ap not (sym (ap not (no_suc (length left))))

pub leads_next : (trees : List Tree) (start now new : Writer) (goes_on more : Bool) (ids left : List ℕ) (id : ℕ) → more ≡ (goes_on || not (nat_eq (length left) 0)) → Leads now new more (forms_at trees (id ∷ [])) → LeadsOn trees start now goes_on ids (id ∷ left) → LeadsOn trees start new goes_on ids left
leads_next trees start now new goes_on more ids left id e cell l = record {
  on = λ others last h behind. l.on others last h (cell (forms_at trees left ++ others) last (behind_some trees left others goes_on h ∙ ap not (sym e)) behind);
}

pub leads_end : (trees : List Tree) (start now : Writer) (goes_on : Bool) (ids : List ℕ) → LeadsOn trees start now goes_on ids [] → Leads start now goes_on (forms_at trees ids)
leads_end trees start now goes_on ids l others last h behind = l.on others last h behind
