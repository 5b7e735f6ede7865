-- Annotations, one behind the other.
use Rattle.std.proofs.Common.{◌≡◌, ℕ, suc, ◌+◌, Bool, true, false, List, [], ◌∷◌, ◌++◌, Some, refl, sym, ap, ◌∙◌, subst, arith}
use Rattle.std.proofs.lemmas.List.{append-nil}
use Rattle.owl_arena.specs.Held.{tree_at, trees_at}
use Rattle.owl_tree.specs.declared.atom.Atom.{Atom}
use Rattle.owl_tree.specs.declared.atom.Atom.TheVariants as atom
use Rattle.owl_tree.specs.declared.tag.Tag.{Tag}
use Rattle.owl_tree.specs.Trees.{Tree, Kids, leaf, node, no_kids, kid, atom_in, kids_in, list_of}
use Rattle.rdf_graph.specs.declared.term.Term.{Term}
use Rattle.rdf_graph.specs.declared.triple.Triple.{Triple}
use Rattle.rdf_meaning.specs.declared.word.Word.{Word}
use Rattle.rdf_meaning.specs.declared.word.Word.TheVariants as word
use Rattle.rdf_forward.specs.declared.ends.Holder.{Holder}
use Rattle.rdf_forward.specs.declared.ends.Holder.TheVariants as holder
use Rattle.rdf_forward.specs.declared.writer.Writer.{Writer}
use Rattle.rdf_mapping.specs.Forms.{blank, link}
use Rattle.rdf_mapping.specs.Drawing.{atom_term}
use Rattle.rdf_mapping.specs.Notes.{Notes, annotation_in, no_notes, note, note_nodes, note_triples, notes_in, notes_of, reified, reified_nodes, reifying, where_some}
use Rattle.rdf_forward.specs.NoteWalks.{IsNoNote, WritesNotes, are_some, notes_among, notes_at}
use Rattle.rdf_forward.specs.Walks.{Writes, holder_term, names}
use Rattle.rdf_forward.proofs.Cells.{writes_nothing}
use Rattle.rdf_forward.proofs.Writing.{followed}

-- A tree is an annotation or none.
data View (t : Tree) : Type 0 where
  nothing : IsNoNote t → View t
  one : (p : List ℕ) (v : Term) (inside : Notes) → ((more : Notes) → annotation_in t more ≡ note p v inside more) → View t

view : (t : Tree) → View t
view (node t (kid ns (kid (leaf tp (atom.Iri p)) (kid (leaf tv v) no_kids)))) = one p (atom_term v) (notes_of ns) (λ more. refl)
view _ = nothing (λ more. refl)

-- what the first annotation takes, and what the others do

one_takes : (x y m : ℕ) → x + m ≡ x + 0 + m
one_takes x y m = omega arith

nodes_view : (t : Tree) → View t → (more : Notes) → note_nodes (annotation_in t more) ≡ note_nodes (annotation_in t no_notes) + note_nodes more
nodes_view t (nothing none) more = omega (arith, ap note_nodes (none more), ap note_nodes (none no_notes))
nodes_view t (one p v inside is) more =
    ap note_nodes (is more) ∙ one_takes (where_some inside 0 (suc (note_nodes inside))) 0 (note_nodes more)
    ∙ ap (λ (k : ℕ). k + note_nodes more) (sym (ap note_nodes (is no_notes)))

triples_view : (name : ℕ → List ℕ) (x : Term) (t : Tree) → View t → (more : Notes) (n : ℕ) → note_triples name x (annotation_in t more) n ≡ note_triples name x (annotation_in t no_notes) n ++ note_triples name x more (n + note_nodes (annotation_in t no_notes))
triples_view name x t (nothing none) more n =
    let zero_nodes : n + note_nodes (annotation_in t no_notes) ≡ n = omega (arith, ap note_nodes (none no_notes)) in
    ap (λ (ns : Notes). note_triples name x ns n) (none more)
    ∙ ap (λ (k : ℕ). note_triples name x more k) (sym zero_nodes)
    ∙ ap (λ (ns : Notes). note_triples name x ns n ++ note_triples name x more (n + note_nodes (annotation_in t no_notes))) (sym (none no_notes))
triples_view name x t (one p v inside is) more n =
    let count = where_some inside 0 (suc (note_nodes inside)) in
    let first = where_some inside [] (reifying word.Annotation (blank name n) (link x p v) ++ note_triples name (blank name n) inside (suc n)) in
    let k : n + count ≡ n + note_nodes (annotation_in t no_notes) = omega (arith, ap note_nodes (is no_notes)) in
    let whole : note_triples name x (annotation_in t no_notes) n ≡ link x p v ∷ (first ++ []) = ap (λ (ns : Notes). note_triples name x ns n) (is no_notes) in
    ap (λ (ns : Notes). note_triples name x ns n) (is more)
    ∙ ap (λ (j : ℕ). link x p v ∷ (first ++ note_triples name x more j)) k
    ∙ ap (λ (ts : List Triple). link x p v ∷ (ts ++ note_triples name x more (n + note_nodes (annotation_in t no_notes)))) (sym (append-nil first))
    ∙ ap (λ (ts : List Triple). ts ++ note_triples name x more (n + note_nodes (annotation_in t no_notes))) (sym whole)

-- an annotation, and the others
pub notes_both : (old mid new : Writer) (h : Holder) (t : Tree) (more : Notes) → WritesNotes old mid h (annotation_in t no_notes) → WritesNotes mid new h more → WritesNotes old new h (annotation_in t more)
notes_both old mid new h t more x y =
    let k = note_nodes (annotation_in t no_notes) in
    followed old mid new k (note_nodes more) (note_nodes (annotation_in t more)) (old.next + k) (note_triples (names old) (holder_term (names old) h) (annotation_in t no_notes) old.next)
    (note_triples (names old) (holder_term (names old) h) (annotation_in t more) old.next)
    (λ (m : ℕ → List ℕ) (n : ℕ). note_triples m (holder_term m h) more n) x y refl (nodes_view t (view t) more) (triples_view (names old) (holder_term (names old) h) t (view t) more old.next)

pub record NotesOn (trees : List Tree) (h : Holder) (start now : Writer) (ids left : List ℕ) : Type 0 where
  pub on : (last : Writer) → WritesNotes now last h (notes_at trees left) → WritesNotes start last h (notes_at trees ids)

pub notes_at_first : (trees : List Tree) (h : Holder) (w : Writer) (ids : List ℕ) → NotesOn trees h w w ids ids
notes_at_first trees h w ids = record { on = λ last behind. behind }

pub notes_next : (trees : List Tree) (h : Holder) (start now new : Writer) (ids left : List ℕ) (id : ℕ) → WritesNotes now new h (annotation_in (tree_at trees id) no_notes) → NotesOn trees h start now ids (id ∷ left) → NotesOn trees h start new ids left
notes_next trees h start now new ids left id first l = record { on = λ last behind. l.on last (notes_both now new last h (tree_at trees id) (notes_at trees left) first behind) }

pub notes_end : (trees : List Tree) (h : Holder) (start now : Writer) (ids : List ℕ) → NotesOn trees h start now ids [] → WritesNotes start now h (notes_at trees ids)
notes_end trees h start now ids l = l.on now (writes_nothing now)

-- the annotations below a tree, by the numbers of its kids
among_kids : (ks : Kids) → notes_in ks ≡ notes_among (list_of ks)
among_kids no_kids = refl
among_kids (kid t ks) = ap (annotation_in t) (among_kids ks)

notes_among_kids : (t : Tree) → notes_of t ≡ notes_among (kids_in t)
notes_among_kids (leaf t a) = refl
notes_among_kids (node t ks) = among_kids ks

pub notes_by_kids : (trees : List Tree) (id : ℕ) (ids : List ℕ) → trees_at trees ids ≡ kids_in (tree_at trees id) → notes_of (tree_at trees id) ≡ notes_at trees ids
notes_by_kids trees id ids e = notes_among_kids (tree_at trees id) ∙ ap notes_among (sym e)

-- The annotation that a tree is, by its kids.

three : (g : Tag) (a b c : Tree) (iri : List ℕ) (v : Atom) → atom_in b ≡ Some (atom.Iri iri) → atom_in c ≡ Some v → (more : Notes) → annotation_in (node g (kid a (kid b (kid c no_kids)))) more ≡ note iri (atom_term v) (notes_of a) more
three g a (leaf tb (atom.Iri i)) (leaf tc x) iri v e f more = let i_is : i ≡ iri = cc in let x_is : x ≡ v = cc in ap (λ (j : List ℕ). note j (atom_term x) (notes_of a) more) i_is ∙ ap (λ (y : Atom). note iri (atom_term y) (notes_of a) more) x_is
three g a (leaf tb (atom.Iri i)) (node tc ks) iri v e f more = cc
three g a (leaf tb (atom.Label i)) c iri v e f more = cc
three g a (leaf tb (atom.Literal i)) c iri v e f more = cc
three g a (leaf tb (atom.Number i)) c iri v e f more = cc
three g a (node tb ks) c iri v e f more = cc

note_with : (t a b c : Tree) (iri : List ℕ) (v : Atom) → kids_in t ≡ a ∷ b ∷ c ∷ [] → atom_in b ≡ Some (atom.Iri iri) → atom_in c ≡ Some v → (more : Notes) → annotation_in t more ≡ note iri (atom_term v) (notes_of a) more
note_with (leaf g x) a b c iri v h e f more = cc
note_with (node g no_kids) a b c iri v h e f more = cc
note_with (node g (kid x no_kids)) a b c iri v h e f more = cc
note_with (node g (kid x (kid y no_kids))) a b c iri v h e f more = cc
note_with (node g (kid x (kid y (kid z (kid w ks))))) a b c iri v h e f more = cc
note_with (node g (kid x (kid y (kid z no_kids)))) a b c iri v h e f more =
    let x_is : x ≡ a = cc in let y_is : y ≡ b = cc in let z_is : z ≡ c = cc in
    three g x y z iri v (ap atom_in y_is ∙ e) (ap atom_in z_is ∙ f) more ∙ ap (λ (u : Tree). note iri (atom_term v) (notes_of u) more) x_is

pub is_note : (trees : List Tree) (id : ℕ) (ids : List ℕ) (n p v : ℕ) (iri : List ℕ) (a : Atom) → ids ≡ n ∷ p ∷ v ∷ [] → trees_at trees ids ≡ kids_in (tree_at trees id) → atom_in (tree_at trees p) ≡ Some (atom.Iri iri) → atom_in (tree_at trees v) ≡ Some a → (more : Notes) → annotation_in (tree_at trees id) more ≡ note iri (atom_term a) (notes_of (tree_at trees n)) more
is_note trees id ids n p v iri a three_ids e f g = note_with (tree_at trees id) (tree_at trees n) (tree_at trees p) (tree_at trees v) iri a (sym e ∙ ap (trees_at trees) three_ids) f g

-- Whether there are some.

where_is : {A : Type 0} (ns : Notes) (none some : A) → are_some ns ≡ true → where_some ns none some ≡ some
where_is {A} no_notes none some h = absurd (cc)
where_is {A} (note p v inside more) none some h = refl

where_not : {A : Type 0} (ns : Notes) (none some : A) → are_some ns ≡ false → where_some ns none some ≡ none
where_not {A} no_notes none some h = refl
where_not {A} (note p v inside more) none some h = absurd (cc)

-- What is written.

pub note_alone : (old new : Writer) (h : Holder) (t : Tree) (p : List ℕ) (v : Term) (inside : Notes) → annotation_in t no_notes ≡ note p v inside no_notes → are_some inside ≡ false → Writes old new 0 (link (holder_term (names old) h) p v ∷ []) → WritesNotes old new h (annotation_in t no_notes)
note_alone old new h t p v inside is none x =
    let name = names old in
    let y = holder_term name h in
    let count : where_some inside 0 (suc (note_nodes inside)) ≡ 0 = where_not inside 0 (suc (note_nodes inside)) none in
    let first = where_not inside [] (reifying word.Annotation (blank name old.next) (link y p v) ++ note_triples name (blank name old.next) inside (suc old.next)) none in
    subst (WritesNotes old new h) (sym is)
    (record { labels = x.labels; counted = omega (arith, x.counted, count); added = x.added ∙ ap (λ (ts : List Triple). old.gather ++ (link y p v ∷ (ts ++ []))) (sym first) })

-- a node that reifies a triple, and its annotations
pub reified_with : (old mid new : Writer) (w : Word) (t : Triple) (x : ℕ) (ns : Notes) → x ≡ old.next → Writes old mid 1 (reifying w (blank (names old) old.next) t) → WritesNotes mid new (holder.Node x) ns → Writes old new (suc (note_nodes ns)) (reifying w (blank (names old) old.next) t ++ note_triples (names old) (blank (names old) old.next) ns (suc old.next))
reified_with old mid new w t x ns e a b =
    let name = names old in
    followed old mid new 1 (note_nodes ns) (suc (note_nodes ns)) (suc old.next) (reifying w (blank name old.next) t) (reifying w (blank name old.next) t ++ note_triples name (blank name old.next) ns (suc old.next))
    (λ (m : ℕ → List ℕ) (k : ℕ). note_triples m (blank m x) ns k) a b (omega arith) (omega arith)
    (ap (λ (k : ℕ). reifying w (blank name old.next) t ++ note_triples name (blank name k) ns (suc old.next)) (sym e))

pub note_reified : (old mid m2 new : Writer) (h : Holder) (t : Tree) (p : List ℕ) (v : Term) (inside : Notes) (x : ℕ) → annotation_in t no_notes ≡ note p v inside no_notes → are_some inside ≡ true → Writes old mid 0 (link (holder_term (names old) h) p v ∷ []) → x ≡ mid.next → Writes mid m2 1 (reifying word.Annotation (blank (names mid) mid.next) (link (holder_term (names mid) h) p v)) → WritesNotes m2 new (holder.Node x) inside → WritesNotes old new h (annotation_in t no_notes)
note_reified old mid m2 new h t p v inside x is some first e again others =
    let name = names old in
    let y = holder_term name h in
    let n = old.next in
    let rest = reifying word.Annotation (blank name n) (link y p v) ++ note_triples name (blank name n) inside (suc n) in
    let count : where_some inside 0 (suc (note_nodes inside)) ≡ suc (note_nodes inside) = where_is inside 0 (suc (note_nodes inside)) some in
    let body = where_is inside [] rest some in
    let behind = reified_with mid m2 new word.Annotation (link (holder_term (names mid) h) p v) x inside e again others in
    subst (WritesNotes old new h) (sym is)
    (followed old mid new 0 (suc (note_nodes inside)) (where_some inside 0 (suc (note_nodes inside)) + 0) n (link y p v ∷ []) (link y p v ∷ (where_some inside [] rest ++ []))
    (λ (m : ℕ → List ℕ) (k : ℕ). reifying word.Annotation (blank m k) (link (holder_term m h) p v) ++ note_triples m (blank m k) inside (suc k)) first behind (omega arith) (omega (arith, count))
    (ap (λ (ts : List Triple). link y p v ∷ ts) (append-nil (where_some inside [] rest) ∙ body)))

pub axiom_reified : (old mid new : Writer) (t : Triple) (x : ℕ) (ns : Notes) → are_some ns ≡ true → x ≡ old.next → Writes old mid 1 (reifying word.Axiom (blank (names old) old.next) t) → WritesNotes mid new (holder.Node x) ns → Writes old new (reified_nodes ns) (reified (names old) word.Axiom t ns old.next)
axiom_reified old mid new t x ns some e a b =
    let y = reified_with old mid new word.Axiom t x ns e a b in
    record { labels = y.labels; counted = omega (arith, y.counted, where_is ns 0 (suc (note_nodes ns)) some); added = y.added ∙ ap (λ (ts : List Triple). old.gather ++ ts) (sym (where_is ns [] _ some)) }

pub axiom_plain : (w : Writer) (t : Triple) (ns : Notes) → are_some ns ≡ false → Writes w w (reified_nodes ns) (reified (names w) word.Axiom t ns w.next)
axiom_plain w t ns none = record { labels = refl; counted = omega (arith, where_not ns 0 (suc (note_nodes ns)) none); added = sym (append-nil w.gather) ∙ ap (λ (ts : List Triple). w.gather ++ ts) (sym (where_not ns [] _ none)) }

pub some_told : (trees : List Tree) (id : ℕ) (ids : List ℕ) (b x : Bool) → trees_at trees ids ≡ kids_in (tree_at trees id) → b ≡ are_some (notes_at trees ids) → b ≡ x → are_some (notes_of (tree_at trees id)) ≡ x
some_told trees id ids b x e f g = ap are_some (notes_by_kids trees id ids e) ∙ sym f ∙ g

pub written_as : (old new : Writer) (h : Holder) (ns ms : Notes) → ms ≡ ns → WritesNotes old new h ns → WritesNotes old new h ms
written_as old new h ns ms e x = subst (WritesNotes old new h) (sym e) x
