-- The header of an ontology.
use Rattle.std.proofs.Common.{rules, ◌≡◌, ℕ, List, [], ◌∷◌, ◌++◌, Option, Some, None, refl, sym, ap, ◌∙◌, subst, arith}
use Rattle.std.specs.Prelude.{IsSome}
use Rattle.owl_arena.specs.Held.{Held, trees_at}
use Rattle.owl_doc.specs.Documents.{Document, ontology_of}
use Rattle.owl_doc.specs.Heads.{StandsBeside, head_of, name_of}
use Rattle.owl_doc.specs.declared.head.Head as kept
use Rattle.owl_tree.specs.Ontologies.{Head, OntologyName}
use Rattle.owl_tree.specs.Trees.{Tree}
use Rattle.rdf_graph.specs.declared.term.Term.{Term}
use Rattle.rdf_graph.specs.declared.term.Term.TheVariants.{Iri}
use Rattle.rdf_meaning.specs.declared.word.Word.TheVariants as word
use Rattle.rdf_meaning.specs.Words.{word_iri}
use Rattle.rdf_meaning.specs.Nodes.{type_iri}
use Rattle.rdf_forward.specs.declared.ends.Holder.{Holder}
use Rattle.rdf_forward.specs.declared.writer.Writer.{Writer}
use Rattle.rdf_mapping.specs.Forms.{link}
use Rattle.rdf_mapping.specs.Notes.{Notes, annotation_in, note_nodes, note_triples}
use Rattle.rdf_mapping.specs.Graphs.{head_triples, header_nodes, header_term, import_triples, notes_from, version_of, version_triples}
use Rattle.rdf_forward.specs.NoteWalks.{WritesNotes, notes_among, notes_at}
use Rattle.rdf_forward.specs.HeaderWalks.{WritesBelow, WritesHeader}
use Rattle.rdf_forward.specs.Walks.{Writes, holder_term, names}
use Rattle.rdf_forward.proofs.Cells.{writes_nothing}
use Rattle.rdf_forward.proofs.Writing.{followed}

from_among : (ts : List Tree) → notes_from ts ≡ notes_among ts
from_among [] = refl
from_among (t ∷ ts) = ap (annotation_in t) (from_among ts)

none_is_none : (o : Option (List ℕ)) → o ≡ None → IsSome o → ⊥
none_is_none o e h = search (rules, e, h)

some_is : (v : List ℕ) → IsSome (Some v)
some_is v = search rules

version_is : (iri version : Option (List ℕ)) → StandsBeside version iri → version_of (name_of iri version) ≡ version
version_is None None h = refl
version_is None (Some v) h = absurd (none_is_none None refl (h (some_is v)))
version_is (Some i) version h = refl

pub record ImportsOn (h : Holder) (start now : Writer) (iris left : List (List ℕ)) : Type 0 where
  pub on : (last : Writer) → Writes now last 0 (import_triples (holder_term (names now) h) left) → Writes start last 0 (import_triples (holder_term (names start) h) iris)

pub imports_next : (h : Holder) (start now new : Writer) (iris left : List (List ℕ)) (iri : List ℕ) → Writes now new 0 (link (holder_term (names now) h) (word_iri word.Imports) (Iri iri) ∷ []) → ImportsOn h start now iris (iri ∷ left) → ImportsOn h start new iris left
imports_next h start now new iris left iri one l = record {
  on = λ last behind. l.on last (followed now new last 0 0 0 now.next (link (holder_term (names now) h) (word_iri word.Imports) (Iri iri) ∷ []) (import_triples (holder_term (names now) h) (iri ∷ left)) (λ (m : ℕ → List ℕ) (k : ℕ). import_triples (holder_term m h) left) one behind (omega arith) (omega arith) refl);
}

pub imports_end : (h : Holder) (start now : Writer) (iris : List (List ℕ)) → ImportsOn h start now iris [] → Writes start now 0 (import_triples (holder_term (names start) h) iris)
imports_end h start now iris l = l.on now (writes_nothing now)

-- the ontology, its version, its imports and its annotations
pub ontology_written : (old w1 w2 w3 new : Writer) (h : Holder) (d : Document) (k k2 : kept.Head) (a : Held) (ns : List ℕ) (is : List (List ℕ)) → is ≡ k2.imports.items → head_of k ≡ d.head → head_of k2 ≡ d.head → StandsBeside k.version k.iri → a ≡ d.arena → ns ≡ d.notes → Writes old w1 0 (link (holder_term (names old) h) type_iri (Iri (word_iri word.Ontology)) ∷ []) → Writes w1 w2 0 (version_triples (holder_term (names w1) h) k.version) → Writes w2 w3 0 (import_triples (holder_term (names w2) h) is) → WritesNotes w3 new h (notes_at a.trees ns) → WritesBelow old new (holder_term (names old) h) (ontology_of d)
ontology_written old w1 w2 w3 new h d k k2 a ns is es e e2 beside f g first version imports notes =
    let x = holder_term (names old) h in
    let n = old.next in
    let one = link x type_iri (Iri (word_iri word.Ontology)) in
    let ms = notes_at a.trees ns in
    let s1 : Writes old w2 0 (one ∷ version_triples x k.version) =
    followed old w1 w2 0 0 0 n (one ∷ []) (one ∷ version_triples x k.version) (λ (m : ℕ → List ℕ) (j : ℕ). version_triples (holder_term m h) k.version) first version (omega arith) (omega arith) refl in
    let s2 : Writes old w3 0 (one ∷ (version_triples x k.version ++ import_triples x is)) =
    followed old w2 w3 0 0 0 n (one ∷ version_triples x k.version) _ (λ (m : ℕ → List ℕ) (j : ℕ). import_triples (holder_term m h) is) s1 imports (omega arith) (omega arith) refl in
    let s3 : Writes old new (note_nodes ms) ((one ∷ (version_triples x k.version ++ import_triples x is)) ++ note_triples (names old) x ms n) =
    followed old w3 new 0 (note_nodes ms) (note_nodes ms) n (one ∷ (version_triples x k.version ++ import_triples x is)) _ (λ (m : ℕ → List ℕ) (j : ℕ). note_triples m (holder_term m h) ms j) s2 notes (omega arith) (omega arith) refl in
    let v : k.version ≡ version_of d.head.name = sym (version_is k.iri k.version beside) ∙ ap (λ (t : Head). version_of t.name) e in
    let i : is ≡ d.head.imports = es ∙ ap (λ (t : Head). t.imports) e2 in
    let held : trees_at a.trees ns ≡ trees_at d.arena.trees d.notes = cc in
    let all : ms ≡ notes_from (trees_at d.arena.trees d.notes) = ap notes_among held ∙ sym (from_among (trees_at d.arena.trees d.notes)) in
    subst (λ (o : Option (List ℕ)). Writes old new (note_nodes (notes_from (trees_at d.arena.trees d.notes))) ((one ∷ (version_triples x o ++ import_triples x d.head.imports)) ++ note_triples (names old) x (notes_from (trees_at d.arena.trees d.notes)) n)) v
    (subst (λ (js : List (List ℕ)). Writes old new (note_nodes (notes_from (trees_at d.arena.trees d.notes))) ((one ∷ (version_triples x k.version ++ import_triples x js)) ++ note_triples (names old) x (notes_from (trees_at d.arena.trees d.notes)) n)) i
    (subst (λ (q : Notes). Writes old new (note_nodes q) ((one ∷ (version_triples x k.version ++ import_triples x is)) ++ note_triples (names old) x q n)) all s3))

-- an ontology with an IRI
pub named_written : (old new : Writer) (d : Document) (k : kept.Head) (iri : List ℕ) (y : Term) → head_of k ≡ d.head → k.iri ≡ Some iri → old.next ≡ 0 → y ≡ Iri iri → WritesBelow old new y (ontology_of d) → WritesHeader old new (ontology_of d)
named_written old new d k iri t e is zero_next term x =
    let name : d.head.name ≡ Some (record { iri = iri; version = k.version }) = ap (λ (t : Head). t.name) (sym e) ∙ ap (λ (i : Option (List ℕ)). name_of i k.version) is in
    let ns = notes_from (trees_at d.arena.trees d.notes) in
    let y : Writes old new (note_nodes ns) (head_triples (Iri iri) d.head ++ note_triples (names old) (Iri iri) ns 0) =
    subst (λ (n : ℕ). Writes old new (note_nodes ns) (head_triples (Iri iri) d.head ++ note_triples (names old) (Iri iri) ns n)) zero_next
    (subst (λ (t : Term). Writes old new (note_nodes ns) (head_triples t d.head ++ note_triples (names old) t ns old.next)) term x) in
    record {
      labels = y.labels;
      counted = omega (arith, y.counted, ap header_nodes name);
      added = y.added
          ∙ ap (λ (o : Option OntologyName). old.gather ++ (head_triples (header_term (names old) o) d.head ++ note_triples (names old) (header_term (names old) o) ns (header_nodes o))) (sym name);
    }

-- an ontology without one has the first node
