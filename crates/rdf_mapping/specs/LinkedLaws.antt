-- An axiom that is a triple between two forms is the axiom, where what is drawn at its ends is kept.
use Rattle.std.proofs.Common.{◌≡◌, ◌≤◌, ◌+◌, ℕ, true, List, [], ◌∷◌, refl, sym, ◌∙◌, subst, arith}
use Rattle.std.specs.Prelude.{Contains, Some}
use Rattle.std.specs.List.{list_any}
use Rattle.owl_kind.specs.Kinds.{Entity}
use Rattle.owl_tree.specs.declared.row.Sort.{Sort}
use Rattle.owl_tree.specs.declared.tag.Tag.{Tag}
use Rattle.owl_tree.specs.Trees.{Tree, node, kid, no_kids}
use Rattle.rdf_graph.specs.declared.term.Term.TheVariants.{Iri}
use Rattle.rdf_graph.specs.declared.triple.Triple.{Triple}
use Rattle.rdf_meaning.specs.declared.row.Part.{Part}
use Rattle.rdf_meaning.specs.declared.row.Place.TheVariants.{Subject, Object}
use Rattle.rdf_meaning.specs.declared.row.Site.TheVariants.{LinkedBy, TypedBy}
use Rattle.rdf_meaning.specs.declared.row.Want.TheVariants.{One}
use Rattle.rdf_meaning.specs.declared.word.Word.{Word}
use Rattle.rdf_meaning.specs.Denotation.{Holds, axiom_predicates, axiom_types, of_triple, no_parts, part}
use Rattle.rdf_meaning.specs.Nodes.{is_word, type_iri}
use Rattle.rdf_meaning.specs.Rows.{Row, axiom_rows}
use Rattle.rdf_meaning.specs.Statements.{IsAxiomWith}
use Rattle.rdf_meaning.specs.Words.{word_iri}
use Rattle.rdf_mapping.specs.Forms.{plain, link, nodes, term_of}
use Rattle.rdf_mapping.specs.Drawing.{form_of, kid_of, linked, placed, row_for, statement_of, tags_of}
use Rattle.rdf_mapping.specs.GroupFrames.{KeepsLinked}
use Rattle.rdf_mapping.specs.Notes.{Notes}
use Rattle.rdf_mapping.specs.SiteLaws.{linked_site, typed_site}
use Rattle.rdf_mapping.specs.Written.{IsDrawn, written}

-- the parts of a triple that links two trees
abbrev pub two_parts : Sort → Sort → List Part
two_parts s u = record { place = Subject; want = One s } ∷ record { place = Object; want = One u } ∷ []

pub linked_drawn : (name : ℕ → List ℕ) (most : ℕ) (g : List Triple) (k : List Entity) (r : Row) (w : Word) (s u : Sort) → Contains axiom_rows r → r.site ≡ LinkedBy w → list_any (is_word w) axiom_predicates ≡ true → r.parts ≡ two_parts s u → (a b : Tree) → IsDrawn name most g k s a → IsDrawn name most g k u b → (sets : List Notes) (n : ℕ) → n + (nodes (form_of a) + nodes (form_of b)) ≤ most → KeepsLinked name g (link (term_of name (form_of a) n) (word_iri w) (term_of name (form_of b) (n + nodes (form_of a)))) (form_of a) (form_of b) sets n → IsAxiomWith g k (of_triple (link (term_of name (form_of a) n) (word_iri w) (term_of name (form_of b) (n + nodes (form_of a))))) r.tag (written a ∷ written b ∷ [])
linked_drawn name most g k r w s u among site said parts a b left right sets n few kept =
    let m = n + nodes (form_of a) in
    let x = term_of name (form_of a) n in
    let y = term_of name (form_of b) m in
    let t = link x (word_iri w) y in
    let held : Holds g k (of_triple t) (two_parts s u) (written a ∷ written b ∷ []) =
    part (of_triple t) (record { place = Subject; want = One s }) (record { place = Object; want = One u } ∷ []) x (written a ∷ []) (written b ∷ []) refl
    (left n (omega (arith, few)) kept.first)
    (part (of_triple t) (record { place = Object; want = One u }) [] y (written b ∷ []) [] refl (right m (omega (arith, few)) kept.second) (no_parts (of_triple t))) in
    record {
      row = r;
      among = among;
      tag = refl;
      fits = site ∙ sym (linked_site w said x y);
      parts = subst (λ ps. Holds g k (of_triple t) ps (written a ∷ written b ∷ [])) (sym parts) held;
    }

-- the part of a triple that gives a tree a type
abbrev pub one_part : Sort → List Part
one_part s = record { place = Subject; want = One s } ∷ []

pub typed_drawn : (name : ℕ → List ℕ) (most : ℕ) (g : List Triple) (k : List Entity) (r : Row) (w : Word) (s : Sort) → Contains axiom_rows r → r.site ≡ TypedBy w → list_any (is_word w) axiom_types ≡ true → r.parts ≡ one_part s → (a : Tree) → IsDrawn name most g k s a → (sets : List Notes) (n : ℕ) → n + nodes (form_of a) ≤ most → KeepsLinked name g (link (term_of name (form_of a) n) type_iri (Iri (word_iri w))) (form_of a) (plain (Iri (word_iri w))) sets n → IsAxiomWith g k (of_triple (link (term_of name (form_of a) n) type_iri (Iri (word_iri w)))) r.tag (written a ∷ [])
typed_drawn name most g k r w s among site said parts a drawn sets n few kept =
    let x = term_of name (form_of a) n in
    let t = link x type_iri (Iri (word_iri w)) in
    let held : Holds g k (of_triple t) (one_part s) (written a ∷ []) =
    part (of_triple t) (record { place = Subject; want = One s }) [] x (written a ∷ []) [] refl (drawn n few kept.first) (no_parts (of_triple t)) in
    record {
      row = r;
      among = among;
      tag = refl;
      fits = site ∙ sym (typed_site w said x);
      parts = subst (λ ps. Holds g k (of_triple t) ps (written a ∷ [])) (sym parts) held;
    }

-- How such an axiom is drawn.

pub linked_statement : (t : Tag) (ns a b : Tree) (r : Row) (w : Word) (s u : Sort) → row_for axiom_rows t (tags_of (kid_of a ∷ kid_of b ∷ [])) ≡ Some r → r.site ≡ LinkedBy w → r.parts ≡ two_parts s u → statement_of (node t (kid ns (kid a (kid b no_kids)))) ≡ linked (form_of a) (word_iri w) (form_of b)
unfolding placed
linked_statement t ns a b r w s u h site parts = rw (h, site, parts) refl
