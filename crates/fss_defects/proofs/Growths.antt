-- What acts add to a document stays in it.
use Rattle.std.proofs.Common.{◌≡◌, List, [], ◌∷◌, ◌++◌, None, Option, Some, append-nil, refl, sym, ap, ◌∙◌, subst, ℕ}
use Rattle.owl_atom.specs.declared.prefixes.Prefix.{Prefix}
use Rattle.owl_tokens.specs.declared.token.Token.{Token}
use Rattle.owl_tree.specs.declared.row.AtomSort.{AtomSort}
use Rattle.owl_tree.specs.declared.row.AtomSort.TheVariants as atom
use Rattle.owl_tree.specs.declared.tag.Tag.{Tag}
use Rattle.owl_tree.specs.declared.tag.Tag.TheVariants as tag
use Rattle.owl_tree.specs.Frames.{Frame}
use Rattle.owl_tree.specs.Ontologies.{OntologyName}
use Rattle.owl_tree.specs.Rows.{Leaf, Node, Row, row_of}
use Rattle.owl_tree.specs.Trees.{Tree}
use Rattle.fss_grammar.specs.Making.{Adds, BeginsConstruct, BeginsLeaf, Declares, Document, Kept, Maker, MakesHeld, MakesLiteral, Performs, Shuts, Versions, add_annotation, add_axiom, import_iri, name_ontology, put_in}
use Rattle.fss_grammar.specs.Making.Kept.{iri, item, prefix, string}
use Rattle.fss_grammar.specs.declared.acts.Act.{Act}
use Rattle.fss_grammar.specs.declared.acts.Act.TheVariants.{AddAnnotation, AddAxiom, Begin, DeclareIri, DeclareName, EndItem, HeldDatatype, HeldProperty, Hold, ImportIri, OntologyIri, Plain, Shut, Tagged, Typed, VersionIri}

-- the second list is the first one, and perhaps more behind it
abbrev pub Extends : {X : Type 0} → List X → List X → Type 0
Extends {X} xs ys = (more : List X) × (ys ≡ xs ++ more)

extends_itself : {X : Type 0} (xs : List X) → Extends xs xs
extends_itself xs = ([], sym (append-nil xs))

pub record Grows (d e : Document) : Type 0 where
  pub declarations : Extends d.declarations e.declarations
  pub annotations : Extends d.ontology.annotations e.ontology.annotations
  pub axioms : Extends d.ontology.axioms e.ontology.axioms

stays : (d : Document) → Grows d d
stays d = record {
  declarations = extends_itself d.declarations;
  annotations = extends_itself d.ontology.annotations;
  axioms = extends_itself d.ontology.axioms;
}

grows_as : (m n k : Maker) → Grows m.document k.document → n ≡ k → Grows m.document n.document
grows_as m n k h e = subst (λ l. Grows m.document l.document) (sym e) h

pub put_stays : (frames : List Frame) (t : Tree) (m : Maker) → (put_in frames t m).document ≡ m.document
put_stays [] t m = refl
put_stays (f ∷ frames) t m = refl

put_grows : (frames : List Frame) (t : Tree) (m n : Maker) → n ≡ put_in frames t m → Grows m.document n.document
put_grows frames t m n e = subst (Grows m.document) (sym (put_stays frames t m) ∙ ap (λ (l : Maker). l.document) (sym e)) (stays m.document)

leaf_grows : (p : List Prefix) (t : Tag) (sort : AtomSort) (next : Option Token) (m n : Maker) → BeginsLeaf p t sort next m n → Grows m.document n.document
leaf_grows p t atom.Literal next m n h = grows_as m n _ (stays m.document) h.2
leaf_grows p t atom.Iri next m n h = put_grows m.frames _ m n h.2
leaf_grows p t atom.Label next m n h = put_grows m.frames _ m n h.2
leaf_grows p t atom.Number next m n h = put_grows m.frames _ m n h.2

begins_grows : (p : List Prefix) (t : Tag) (row : Row) (next : Option Token) (m n : Maker) → BeginsConstruct p t row next m n → Grows m.document n.document
begins_grows p t (Leaf sort) next m n h = leaf_grows p t sort next m n h
begins_grows p t (Node front rest) next m n h = grows_as m n _ (stays m.document) h

shuts_grows : (frames : List Frame) (m n : Maker) → Shuts frames m n → Grows m.document n.document
shuts_grows [] m n h = absurd h
shuts_grows (f ∷ frames) m n h = put_grows frames _ (record m { frames = frames }) n h.1

literal_grows : (kept : Kept) (datatype language : Option (List ℕ)) (m n : Maker) → MakesLiteral kept datatype language m n → Grows m.document n.document
literal_grows (string t form) datatype language m n h = put_grows m.frames _ m n h.3
literal_grows _ datatype language m n h = absurd h

held_grows : (kept : Kept) (t : Tag) (m n : Maker) → MakesHeld kept t m n → Grows m.document n.document
held_grows (iri i) t m n h = put_grows m.frames _ m n h
held_grows _ t m n h = absurd h

same_items : (m k : Maker) → m.document.declarations ≡ k.document.declarations → m.document.ontology.annotations ≡ k.document.ontology.annotations → m.document.ontology.axioms ≡ k.document.ontology.axioms → Grows m.document k.document
same_items m k d a x = record {
  declarations = subst (Extends m.document.declarations) d (extends_itself m.document.declarations);
  annotations = subst (Extends m.document.ontology.annotations) a (extends_itself m.document.ontology.annotations);
  axioms = subst (Extends m.document.ontology.axioms) x (extends_itself m.document.ontology.axioms);
}

declares_grows : (kept : Kept) (next : Option Token) (m n : Maker) → Declares kept next m n → Grows m.document n.document
declares_grows (prefix name) next m n h =
    grows_as m n _
    (record { declarations = (record { name = name; iri = h.0 } ∷ [], refl); annotations = extends_itself _; axioms = extends_itself _ }) h.2
declares_grows _ next m n h = absurd h

versions_grows : (name : Option OntologyName) (i : List ℕ) (m n : Maker) → Versions name i m n → Grows m.document n.document
versions_grows None i m n h = absurd h
versions_grows (Some name) i m n h =
    let k = name_ontology (record { iri = name.iri; version = Some i }) m in
    grows_as m n k (same_items m k refl refl refl) h

annotation_grows : (kept : Kept) (m n : Maker) → Adds kept add_annotation m n → Grows m.document n.document
annotation_grows (item t) m n h =
    grows_as m n _ (record { declarations = extends_itself _; annotations = (t ∷ [], refl); axioms = extends_itself _ }) h
annotation_grows _ m n h = absurd h

axiom_grows : (kept : Kept) (m n : Maker) → Adds kept add_axiom m n → Grows m.document n.document
axiom_grows (item t) m n h =
    grows_as m n _ (record { declarations = extends_itself _; annotations = extends_itself _; axioms = (t ∷ [], refl) }) h
axiom_grows _ m n h = absurd h

pub acts_grow : (p : List Prefix) (act : Act) (next : Option Token) (m n : Maker) → Performs p act next m n → Grows m.document n.document
acts_grow p (Begin t) next m n h = begins_grows p t (row_of t) next m n h
acts_grow p Shut next m n h = shuts_grows m.frames m n h
acts_grow p Plain next m n h = literal_grows m.kept None None m n h
acts_grow p Tagged next m n h = literal_grows m.kept None (Some h.0) m n h.2
acts_grow p Typed next m n h = literal_grows m.kept (Some h.0) None m n h.2
acts_grow p Hold next m n h = grows_as m n _ (stays m.document) h.3
acts_grow p HeldProperty next m n h = held_grows m.kept tag.DataProperty m n h
acts_grow p HeldDatatype next m n h = held_grows m.kept tag.Datatype m n h
acts_grow p DeclareName next m n h = grows_as m n _ (stays m.document) h.2
acts_grow p DeclareIri next m n h = declares_grows m.kept next m n h
acts_grow p OntologyIri next m n h =
    let k = name_ontology (record { iri = h.0; version = None }) m in
    grows_as m n k (same_items m k refl refl refl) h.3
acts_grow p VersionIri next m n h = versions_grows m.document.ontology.head.name h.0 m n h.3
acts_grow p ImportIri next m n h = grows_as m n (import_iri h.0 m) (same_items m (import_iri h.0 m) refl refl refl) h.3
acts_grow p AddAnnotation next m n h = annotation_grows m.kept m n h
acts_grow p AddAxiom next m n h = axiom_grows m.kept m n h
acts_grow p EndItem next m n h = grows_as m n _ (stays m.document) h
