-- The lines of a document, one after the other, are its text.
use Rattle.std.proofs.Common.{◌≡◌, ◌≤◌, ℕ, codes, List, [], ◌∷◌, ◌++◌, map, Option, None, Some, refl, sym, ap, ◌∙◌}
use Rattle.std.specs.List.{AllByRecursion, flat_map}
use Rattle.std.proofs.lemmas.List.{append_assoc}
use Rattle.std.proofs.lemmas.Simd.{map-map}
use Rattle.man_grammar.specs.declared.class.Class.TheVariants as class
use Rattle.man_raw.specs.declared.form.Form.TheVariants as form
use Rattle.man_raw.specs.Documents.{HeadTree}
use Rattle.man_raw.specs.Raws.{RawTree, trees_of}
use Rattle.man_read_back.proofs.OntologyBackLaws.{IsWithinLimits}
use Rattle.man_resolve.specs.Expressions.{Knows}
use Rattle.man_text.specs.Blocks.{block_of, document_of, head_tree, item_of, notes_of}
use Rattle.man_text.specs.Text.{behind, document_text, head_lines, import_lines, iri_behind, item_text, items_text, manchester_prefixes, manchester_text, notes_lines, prefix_lines, text}
use Rattle.man_text.specs.Undecided.{undecided}
use Rattle.man_text.specs.Words.{Words, colon, words_of}
use Rattle.owl_arena.specs.Held.{AreHeld, tree_at, trees_at}
use Rattle.owl_arena.specs.Shared.{AreShared, deepest}
use Rattle.owl_arena.proofs.HeldLaws.{entry_at}
use Rattle.owl_atom.specs.declared.prefixes.Prefix.{Prefix}
use Rattle.owl_doc.specs.Documents.{Document, IsDocument, ontology_of}
use Rattle.owl_tree.specs.Trees.{Tree, depth}
use Rattle.owl_writing.specs.Terms.{full_iri}
use Rattle.written_trees.specs.Written.{written_form}
use Rattle.man_write.specs.Parts.{joined_from, said, said_at}
use Rattle.man_write.specs.Plans.{annotations_text, block_of_text, document_lines, header_text, import_text, iri_spaced, prefix_text}
use Rattle.man_write.proofs.BlockLaws.{item_more}
use Rattle.man_write.proofs.PieceLaws.{all_joined, alone}

-- what stands in front of a text and of more
in_front : (front xs ys rest : List ℕ) → xs ≡ ys ++ rest → front ++ xs ≡ (front ++ ys) ++ rest
in_front front xs ys rest e = ap (λ (x : List ℕ). front ++ x) e ∙ sym (append_assoc front ys rest)

prefixes_go : (ps : List Prefix) (rest : List ℕ) → prefix_lines ps rest ≡ flat_map prefix_text ps ++ rest
prefixes_go [] rest = refl
prefixes_go (p ∷ ps) rest = line ∙ in_front (prefix_text p) (prefix_lines ps rest) (flat_map prefix_text ps) rest (prefixes_go ps rest) where
  more : List ℕ
  more = prefix_lines ps rest

  iri : full_iri p.iri ++ (codes "\n" ++ more) ≡ (full_iri p.iri ++ codes "\n") ++ more
  iri = in_front (full_iri p.iri) (codes "\n" ++ more) (codes "\n") more refl

  name : p.name ++ (codes ": " ++ (full_iri p.iri ++ (codes "\n" ++ more))) ≡ (p.name ++ (codes ": " ++ (full_iri p.iri ++ codes "\n"))) ++ more
  name = in_front p.name (codes ": " ++ (full_iri p.iri ++ (codes "\n" ++ more))) (codes ": " ++ (full_iri p.iri ++ codes "\n")) more (ap (λ (x : List ℕ). codes ": " ++ x) iri)

  line : prefix_lines (p ∷ ps) rest ≡ prefix_text p ++ more
  line = in_front (colon class.Prefix) (codes " " ++ (p.name ++ (codes ": " ++ (full_iri p.iri ++ (codes "\n" ++ more))))) (codes " " ++ (p.name ++ (codes ": " ++ (full_iri p.iri ++ codes "\n")))) more (ap (λ (x : List ℕ). codes " " ++ x) name)

imports_go : (iris : List (List ℕ)) (rest : List ℕ) → import_lines iris rest ≡ flat_map import_text iris ++ rest
imports_go [] rest = refl
imports_go (iri ∷ iris) rest = line ∙ in_front (import_text iri) (import_lines iris rest) (flat_map import_text iris) rest (imports_go iris rest) where
  more : List ℕ
  more = import_lines iris rest

  line : import_lines (iri ∷ iris) rest ≡ import_text iri ++ more
  line = in_front (colon class.Import) (codes " " ++ (full_iri iri ++ (codes "\n" ++ more))) (codes " " ++ (full_iri iri ++ codes "\n")) more (ap (λ (x : List ℕ). codes " " ++ x) (in_front (full_iri iri) (codes "\n" ++ more) (codes "\n") more refl))

iri_goes : (iri : Option (List ℕ)) (rest : List ℕ) → iri_behind iri rest ≡ iri_spaced iri ++ rest
iri_goes None rest = refl
iri_goes (Some iri) rest = refl

head_goes : (h : HeadTree) (rest : List ℕ) → head_lines h rest ≡ header_text h.iri h.version ++ (flat_map import_text h.imports ++ rest)
head_goes h rest =
    let imports = flat_map import_text h.imports ++ rest in
    let behind_version = codes "\n" ++ import_lines h.imports rest in
    let version = iri_goes h.version behind_version ∙ in_front (iri_spaced h.version) behind_version (codes "\n") imports (ap (λ (x : List ℕ). codes "\n" ++ x) (imports_go h.imports rest)) in
    let iri = iri_goes h.iri (iri_behind h.version behind_version) ∙ in_front (iri_spaced h.iri) (iri_behind h.version behind_version) (iri_spaced h.version ++ codes "\n") imports version in
    in_front (colon class.Ontology) (iri_behind h.iri (iri_behind h.version behind_version)) (iri_spaced h.iri ++ (iri_spaced h.version ++ codes "\n")) imports iri

notes_go : (p : List Prefix) (trees : List Tree) (ids : List ℕ) (rest : List ℕ) → notes_lines p (notes_of (trees_at trees ids)) rest ≡ annotations_text p trees ids ++ rest
notes_go p trees [] rest = refl
notes_go p trees (id ∷ ids) rest = in_front w.front (text p first (behind p w.first w.others (trees_of others) (codes "\n" ++ rest))) (joined_from w 0 (map (said_at p trees) (id ∷ ids)) ++ codes "\n") rest joined where
  w : Words
  w = words_of form.Notes

  form_said : Tree → RawTree
  form_said u = undecided (written_form u)

  first : RawTree
  first = form_said (tree_at trees id)

  others : List RawTree
  others = map form_said (trees_at trees ids)

  same : map (alone p) (first ∷ others) ≡ map (said_at p trees) (id ∷ ids)
  same = map-map (alone p) form_said (trees_at trees (id ∷ ids)) ∙ map-map (λ (u : Tree). said p (written_form u)) (tree_at trees) (id ∷ ids)

  joined : text p first (behind p w.first w.others (trees_of others) (codes "\n" ++ rest)) ≡ (joined_from w 0 (map (said_at p trees) (id ∷ ids)) ++ codes "\n") ++ rest
  joined =
      all_joined p w first others (codes "\n" ++ rest)
      ∙ ap (λ (xs : List (List ℕ)). joined_from w 0 xs ++ (codes "\n" ++ rest)) same
      ∙ sym (append_assoc (joined_from w 0 (map (said_at p trees) (id ∷ ids))) (codes "\n") rest)

items_go : (ks : Knows) (p : List Prefix) (ts : List Tree) → items_text p (map (λ t. item_of (block_of ks t)) ts) [] ≡ flat_map (block_of_text ks p) ts
items_go ks p [] = refl
items_go ks p (t ∷ ts) =
    let item = item_of (block_of ks t) in
    ap (item_text p item) (items_go ks p ts) ∙ item_more p item [] (flat_map (block_of_text ks p) ts)

pub lines_are : (ks : Knows) (p : List Prefix) (d : Document) → document_lines ks p d ≡ document_text (document_of ks p (ontology_of d))
lines_are ks p d =
    let o = ontology_of d in
    let items = items_text p (map (λ t. item_of (block_of ks t)) o.axioms) [] in
    let notes = notes_lines p (notes_of o.annotations) items in
    sym
    (prefixes_go p (head_lines (head_tree o.head) notes)
    ∙ ap (λ (x : List ℕ). flat_map prefix_text p ++ x)
    (head_goes (head_tree o.head) notes
    ∙ ap (λ (x : List ℕ). header_text (head_tree o.head).iri (head_tree o.head).version ++ (flat_map import_text o.head.imports ++ x))
    (notes_go p d.arena.trees d.notes items ∙ ap (λ (x : List ℕ). annotations_text p d.arena.trees d.notes ++ x) (items_go ks p o.axioms))))

-- what was added to nothing under the table that is written is the text
pub text_made : (ks : Knows) (d : Document) (table : List Prefix) (old now text : List ℕ) → text ≡ now → now ≡ old ++ document_lines ks table d → old ≡ [] → table ≡ manchester_prefixes d.prefixes → text ≡ manchester_text ks d.prefixes (ontology_of d)
text_made ks d table old now text e f g h =
    e ∙ f
    ∙ ap (λ (front : List ℕ). front ++ document_lines ks table d) g
    ∙ lines_are ks table d
    ∙ ap (λ (ps : List Prefix). document_text (document_of ks ps (ontology_of d))) h

-- ---- what is known of every document is what its text asks for

pub each_shallow : (ts : List Tree) (ids : List ℕ) → AreShared ts → AreHeld ts ids → AllByRecursion (λ t. depth t ≤ deepest) (trees_at ts ids)
each_shallow ts [] shared held = tt
each_shallow ts (id ∷ ids) shared held = ((entry_at ts id shared held.0).depth, each_shallow ts ids shared held.1)

pub within_limits : (d : Document) → AreShared d.arena.trees → IsDocument d → IsWithinLimits (ontology_of d)
within_limits d shared is = record {
  is_ontology = is.ontology;
  canonical = is.canonical;
  shallow_annotations = each_shallow d.arena.trees d.notes shared is.notes;
  shallow_axioms = each_shallow d.arena.trees d.axioms shared is.axioms;
}
