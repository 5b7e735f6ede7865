-- Axioms, one behind the other.
use Rattle.std.proofs.Common.{◌≡◌, ℕ, suc, ◌+◌, true, false, List, [], ◌∷◌, ◌++◌, refl, sym, ap, ◌∙◌, subst, arith}
use Rattle.std.proofs.lemmas.List.{append_assoc}
use Rattle.owl_arena.specs.Held.{tree_at, trees_at}
use Rattle.owl_tree.specs.Trees.{Tree, leaf, node, no_kids, kid, kids_in}
use Rattle.rdf_graph.specs.declared.term.Term.{Term}
use Rattle.rdf_graph.specs.declared.term.Term.TheVariants.{Iri, Blank, Literal}
use Rattle.rdf_graph.specs.declared.triple.Triple.{Triple}
use Rattle.rdf_meaning.specs.declared.row.Place.{Place}
use Rattle.rdf_meaning.specs.declared.row.Place.TheVariants.{At, Object, Predicate, Subject}
use Rattle.rdf_meaning.specs.declared.word.Word.TheVariants as word
use Rattle.rdf_forward.specs.declared.ends.Holder.TheVariants as holder
use Rattle.rdf_forward.specs.declared.ends.End.{End}
use Rattle.rdf_forward.specs.declared.ends.Link.{Link}
use Rattle.rdf_forward.specs.declared.ends.Name.{Name}
use Rattle.rdf_forward.specs.declared.writer.Writer.{Writer}
use Rattle.rdf_mapping.specs.Forms.{Form, Arcs, arc_nodes, arc_triples, blank, link, made, nodes, term_of, triples}
use Rattle.rdf_mapping.specs.Drawing.{between, linked, linked_back, looped, standing}
use Rattle.rdf_mapping.specs.Notes.{Notes, note_nodes, note_triples, notes_of, reified, reified_nodes}
use Rattle.rdf_mapping.specs.Graphs.{axiom_notes, main_triple, set_nodes, set_triples, standing_nodes, standing_triples}
use Rattle.rdf_forward.specs.NoteWalks.{WritesNotes, notes_at}
use Rattle.rdf_forward.specs.AxiomWalks.{AreEnds, WritesEnds, WritesMain, WritesSets, WritesStatement, is_end, link_at, main_triples, sets_at}
use Rattle.rdf_forward.specs.Walks.{Writes, WritesArcs, WritesForm, end_term, link_triple, name_iri, names}
use Rattle.rdf_forward.proofs.Annotations.{notes_by_kids}
use Rattle.rdf_forward.proofs.Cells.{writes_nothing}
use Rattle.rdf_forward.proofs.Writing.{followed}

-- the annotations of an axiom, by its first kid

first_notes : (t n : Tree) (ks : List Tree) → n ∷ ks ≡ kids_in t → notes_of n ≡ axiom_notes t
first_notes (leaf g a) n ks e = cc
first_notes (node g no_kids) n ks e = cc
first_notes (node g (kid m ms)) n ks e = let first : n ≡ m = cc in ap notes_of first

pub axiom_notes_first : (trees : List Tree) (id n : ℕ) (ids inside others : List ℕ) → ids ≡ n ∷ others → trees_at trees ids ≡ kids_in (tree_at trees id) → trees_at trees inside ≡ kids_in (tree_at trees n) → notes_at trees inside ≡ axiom_notes (tree_at trees id)
axiom_notes_first trees id n ids inside others e f g =
    sym (notes_by_kids trees n inside g) ∙ first_notes (tree_at trees id) (tree_at trees n) (trees_at trees others) (sym (ap (trees_at trees) e) ∙ f)

-- the sets, one behind the other

pub record SetsOn (trees : List Tree) (t : Link) (start now : Writer) (ids left : List ℕ) : Type 0 where
  pub on : (last : Writer) → WritesSets now last t (sets_at trees left) → WritesSets start last t (sets_at trees ids)

pub sets_next : (trees : List Tree) (t : Link) (start now new : Writer) (ids left : List ℕ) (id : ℕ) (ns : Notes) → ns ≡ axiom_notes (tree_at trees id) → Writes now new (reified_nodes ns) (reified (names now) word.Axiom (link_triple (names now) t) ns now.next) → SetsOn trees t start now ids (id ∷ left) → SetsOn trees t start new ids left
sets_next trees t start now new ids left id ns e one l =
    let ms = axiom_notes (tree_at trees id) in
    let this = link_triple (names now) t in
    let first : Writes now new (reified_nodes ms) (reified (names now) word.Axiom this ms now.next) = subst (λ (n : Notes). Writes now new (reified_nodes n) (reified (names now) word.Axiom this n now.next)) e one in
    record { on = λ last behind. l.on last (followed now new last (reified_nodes ms) (set_nodes (sets_at trees left)) (set_nodes (sets_at trees (id ∷ left))) (now.next + reified_nodes ms) (reified (names now) word.Axiom this ms now.next) (set_triples (names now) this (sets_at trees (id ∷ left)) now.next) (λ (m : ℕ → List ℕ) (k : ℕ). set_triples m (link_triple m t) (sets_at trees left) k) first behind refl refl refl) }

pub sets_end : (trees : List Tree) (t : Link) (start now : Writer) (ids : List ℕ) → SetsOn trees t start now ids [] → WritesSets start now t (sets_at trees ids)
sets_end trees t start now ids l = l.on now (writes_nothing now)

-- the nodes of axioms, one behind the other

pub record StandingOn (trees : List Tree) (arcs : Arcs) (start now : Writer) (ids left : List ℕ) : Type 0 where
  pub on : (last : Writer) → WritesStatement now last (standing arcs) (sets_at trees left) → WritesStatement start last (standing arcs) (sets_at trees ids)

-- one node with its arcs and its annotations
pub node_noted : (now w1 w2 new : Writer) (x : ℕ) (arcs : Arcs) (ns : Notes) → x ≡ now.next → Writes now w1 1 [] → WritesArcs w1 w2 (blank (names w1) x) arcs → WritesNotes w2 new (holder.Node x) ns → Writes now new (suc (arc_nodes arcs) + note_nodes ns) (triples (names now) (made arcs) now.next ++ note_triples (names now) (blank (names now) now.next) ns (now.next + suc (arc_nodes arcs)))
node_noted now w1 w2 new x arcs ns e fresh first notes =
    let name = names now in
    let n = now.next in
    let one : Writes now w2 (suc (arc_nodes arcs)) (arc_triples name (blank name n) arcs (suc n)) =
    followed now w1 w2 1 (arc_nodes arcs) (suc (arc_nodes arcs)) (suc n) [] (arc_triples name (blank name n) arcs (suc n)) (λ (m : ℕ → List ℕ) (k : ℕ). arc_triples m (blank m x) arcs k) fresh first (omega arith) (omega arith)
    (ap (λ (k : ℕ). arc_triples name (blank name k) arcs (suc n)) (sym e)) in
    followed now w2 new (suc (arc_nodes arcs)) (note_nodes ns) (suc (arc_nodes arcs) + note_nodes ns) (n + suc (arc_nodes arcs)) (arc_triples name (blank name n) arcs (suc n))
    (arc_triples name (blank name n) arcs (suc n) ++ note_triples name (blank name n) ns (n + suc (arc_nodes arcs)))
    (λ (m : ℕ → List ℕ) (k : ℕ). note_triples m (blank m x) ns k) one notes refl refl
    (ap (λ (k : ℕ). arc_triples name (blank name n) arcs (suc n) ++ note_triples name (blank name k) ns (n + suc (arc_nodes arcs))) (sym e))

pub standing_next : (trees : List Tree) (arcs : Arcs) (start now new : Writer) (ids left : List ℕ) (id : ℕ) (ns : Notes) → ns ≡ axiom_notes (tree_at trees id) → Writes now new (suc (arc_nodes arcs) + note_nodes ns) (triples (names now) (made arcs) now.next ++ note_triples (names now) (blank (names now) now.next) ns (now.next + suc (arc_nodes arcs))) → StandingOn trees arcs start now ids (id ∷ left) → StandingOn trees arcs start new ids left
standing_next trees arcs start now new ids left id ns e one l =
    let name = names now in
    let n = now.next in
    let ms = axiom_notes (tree_at trees id) in
    let k = suc (arc_nodes arcs) + note_nodes ms in
    let front = triples name (made arcs) n ++ note_triples name (blank name n) ms (n + suc (arc_nodes arcs)) in
    let first : Writes now new k front = subst (λ (m : Notes). Writes now new (suc (arc_nodes arcs) + note_nodes m) (triples name (made arcs) n ++ note_triples name (blank name n) m (n + suc (arc_nodes arcs)))) e one in
    record {
      on = λ last behind. l.on last (followed now new last k (standing_nodes arcs (sets_at trees left)) (standing_nodes arcs (sets_at trees (id ∷ left))) (n + k) front (standing_triples name arcs (sets_at trees (id ∷ left)) n) (λ (m : ℕ → List ℕ) (j : ℕ). standing_triples m arcs (sets_at trees left) j) first behind refl refl
          (sym (append_assoc (triples name (made arcs) n) (note_triples name (blank name n) ms (n + suc (arc_nodes arcs))) (standing_triples name arcs (sets_at trees left) (n + k)))));
    }

pub standing_end : (trees : List Tree) (arcs : Arcs) (start now : Writer) (ids : List ℕ) → StandingOn trees arcs start now ids [] → WritesStatement start now (standing arcs) (sets_at trees ids)
standing_end trees arcs start now ids l = l.on now (writes_nothing now)

-- the triple, and what reifies it

main_front : (name : ℕ → List ℕ) (s : Term) (p : List ℕ) (o : Term) (sets : List Triple) → main_triple name s p o sets ≡ main_triple name s p o [] ++ sets
main_front name (Iri s) p o sets = refl
main_front name (Blank s) p o sets = refl
main_front name (Literal s) p o sets = refl

pub main_written : (old mid new : Writer) (l : Link) (sets : List Notes) → Writes old mid 0 (main_triples (names old) l []) → WritesSets mid new l sets → WritesMain old new l sets
main_written old mid new l sets x y =
    let name = names old in
    let behind = set_triples name (link_triple name l) sets old.next in
    record {
      writes = followed old mid new 0 (set_nodes sets) (set_nodes sets) old.next (main_triples name l []) (main_triples name l behind) (λ (m : ℕ → List ℕ) (k : ℕ). set_triples m (link_triple m l) sets k) x y (omega arith) (omega arith)
          (main_front name (end_term name l.subject) (name_iri l.predicate) (end_term name l.object) behind);
    }

-- the ends, and then the triple

-- a triple between these terms, and what reifies it
abbrev between_terms : (ℕ → List ℕ) → List ℕ → List Notes → ℕ → Term → Term → List Triple
between_terms name p sets n s o = main_triple name s p o (set_triples name (link s p o) sets n)

after_ends : (old mid new : Writer) (f g : Form) (l : Link) (sets : List Notes) → WritesEnds old mid f g → WritesMain mid new l sets → Writes old new (nodes f + nodes g + set_nodes sets) ((triples (names old) f old.next ++ triples (names old) g (old.next + nodes f)) ++ between_terms (names old) (name_iri l.predicate) sets (old.next + (nodes f + nodes g)) (end_term (names old) l.subject) (end_term (names old) l.object))
after_ends old mid new f g l sets x y =
    followed old mid new (nodes f + nodes g) (set_nodes sets) (nodes f + nodes g + set_nodes sets) (old.next + (nodes f + nodes g)) (triples (names old) f old.next ++ triples (names old) g (old.next + nodes f)) _
    (λ (m : ℕ → List ℕ) (k : ℕ). between_terms m (name_iri l.predicate) sets k (end_term m l.subject) (end_term m l.object)) x y.writes refl refl refl

linked_written : (old mid new : Writer) (f g : Form) (l : Link) (sets : List Notes) → AreEnds old f g l.subject l.object → WritesEnds old mid f g → WritesMain mid new l sets → WritesStatement old new (linked f (name_iri l.predicate) g) sets
linked_written old mid new f g l sets ends x y =
    let name = names old in
    let ts = triples name f old.next ++ triples name g (old.next + nodes f) in
    let said = between_terms name (name_iri l.predicate) sets (old.next + (nodes f + nodes g)) in
    let k = nodes f + nodes g + set_nodes sets in
    subst (λ (t : Term). Writes old new k (ts ++ said t (term_of name g (old.next + nodes f)))) ends.first
    (subst (λ (t : Term). Writes old new k (ts ++ said (end_term name l.subject) t)) ends.second (after_ends old mid new f g l sets x y))

linked_back_written : (old mid new : Writer) (f g : Form) (l : Link) (sets : List Notes) → AreEnds old f g l.object l.subject → WritesEnds old mid f g → WritesMain mid new l sets → WritesStatement old new (linked_back f (name_iri l.predicate) g) sets
linked_back_written old mid new f g l sets ends x y =
    let name = names old in
    let ts = triples name f old.next ++ triples name g (old.next + nodes f) in
    let said = between_terms name (name_iri l.predicate) sets (old.next + (nodes f + nodes g)) in
    let k = nodes f + nodes g + set_nodes sets in
    subst (λ (t : Term). Writes old new k (ts ++ said (term_of name g (old.next + nodes f)) t)) ends.first
    (subst (λ (t : Term). Writes old new k (ts ++ said t (end_term name l.object))) ends.second (after_ends old mid new f g l sets x y))

pub looped_written : (old mid new : Writer) (f : Form) (e : End) (p : Name) (l : Link) (sets : List Notes) → end_term (names old) e ≡ term_of (names old) f old.next → l ≡ link_at Subject e p e → WritesForm old mid f → WritesMain mid new l sets → WritesStatement old new (looped (name_iri p) f) sets
looped_written old mid new f e p l sets is at_both x main =
    let name = names old in
    let ts = triples name f old.next in
    let at = old.next + nodes f in
    let k = nodes f + set_nodes sets in
    let y = subst (λ (m : Link). WritesMain mid new m sets) at_both main in
    subst (λ (u : Term). Writes old new k (ts ++ between_terms name (name_iri p) sets at u u)) is
    (followed old mid new (nodes f) (set_nodes sets) k at ts _ (λ (m : ℕ → List ℕ) (j : ℕ). between_terms m (name_iri p) sets j (end_term m e) (end_term m e)) x y.writes refl refl refl)

-- the same by where the first end stands
by_place : (old mid new : Writer) (place : Place) (f g : Form) (near far : End) (p : Name) (sets : List Notes) → is_end place ≡ true → AreEnds old f g near far → WritesEnds old mid f g → WritesMain mid new (link_at place near p far) sets → WritesStatement old new (between place f (name_iri p) g) sets
by_place old mid new Subject f g near far p sets e ends x y = linked_written old mid new f g (link_at Subject near p far) sets ends x y
by_place old mid new Object f g near far p sets e ends x y = linked_back_written old mid new f g (link_at Object near p far) sets ends x y
by_place old mid new Predicate f g near far p sets e ends x y = absurd (cc)
by_place old mid new (At w) f g near far p sets e ends x y = absurd (cc)

pub at_place : (old mid new : Writer) (place : Place) (f g : Form) (near far : End) (p : Name) (l : Link) (sets : List Notes) → is_end place ≡ true → AreEnds old f g near far → WritesEnds old mid f g → l ≡ link_at place near p far → WritesMain mid new l sets → WritesStatement old new (between place f (name_iri p) g) sets
at_place old mid new place f g near far p l sets e ends x is y = by_place old mid new place f g near far p sets e ends x (subst (λ (m : Link). WritesMain mid new m sets) is y)

pub at_no_place : (w : Writer) (place : Place) (f g : Form) (p : List ℕ) (sets : List Notes) → is_end place ≡ false → WritesStatement w w (between place f p g) sets
at_no_place w Subject f g p sets e = absurd (cc)
at_no_place w Object f g p sets e = absurd (cc)
at_no_place w Predicate f g p sets e = writes_nothing w
at_no_place w (At x) f g p sets e = writes_nothing w
