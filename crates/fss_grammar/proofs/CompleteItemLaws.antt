-- What is written for the items of a document leads along the rules for them.
use Rattle.std.proofs.Common.{◌≡◌, ℕ, true, false, List, [], ◌∷◌, ◌++◌, codes, flat_map, map, Option, Some, None, IfSome, refl, sym, ◌∙◌, subst, append_assoc, true≢false}
use Rattle.std.specs.List.{AllByRecursion}
use Rattle.grammar.specs.Pages.{IsIn}
use Rattle.grammar.specs.Pages.IsIn.{first, later}
use Rattle.grammar.specs.Pages.Named.{action, part, token as word}
use Rattle.owl_characters.specs.Iri.{IsIri}
use Rattle.owl_atom.specs.declared.prefixes.Prefix.{Prefix}
use Rattle.owl_tokens.specs.declared.token.Token.{Token}
use Rattle.owl_tokens.specs.declared.token.Token.TheVariants as token
use Rattle.owl_tokens.specs.declared.token.Sign.TheVariants as sign
use Rattle.owl_tree.specs.declared.atom.Atom.{Atom}
use Rattle.owl_tree.specs.declared.tag.Tag.{Tag}
use Rattle.owl_tree.specs.declared.tag.Tag.TheVariants as tag
use Rattle.owl_tree.specs.Ontologies.{OntologyName}
use Rattle.owl_tree.specs.Rows.{Row, Leaf, Node, row_of, takes}
use Rattle.owl_tree.specs.Tags.{is_axiom}
use Rattle.owl_tree.specs.Trees.{Tree, Kids, leaf, list_of, node, tag_of}
use Rattle.fss_terms.specs.Functional.{IsWrittenAnnotation, IsWrittenAxiom, PrefixDeclaration, declaration_tokens, import_terms, item_terms, name_terms, version_terms}
use Rattle.fss_terms.specs.Spelling.{IsWritten}
use Rattle.fss_terms.specs.Terms.{AreTerms}
use Rattle.fss_terms.specs.declared.term.Term.{Term}
use Rattle.fss_grammar.specs.Classes.{Class}
use Rattle.fss_grammar.specs.Classes.Class.{alone, closing, equals, opening}
use Rattle.fss_grammar.proofs.ClassLaws.{class_is, head_classes}
use Rattle.fss_grammar.proofs.CompleteTreeLaws.{kids_go, node_leads, node_row}
use Rattle.fss_grammar.proofs.Going.{Goes, goes_act, goes_before, goes_nowhere, goes_rule, goes_then, goes_token}
use Rattle.fss_grammar.proofs.GoingLaws.{closed_passes, goes_close, goes_last_name, goes_name, goes_open}
use Rattle.fss_grammar.specs.Making.{Document, Maker, Performs}
use Rattle.fss_grammar.specs.Making.Kept.{item, prefix}
use Rattle.fss_grammar.specs.Meaning.{IsNamed, all_added, annotating, asserting, between, declaring, importing, naming, naming_if}
use Rattle.fss_grammar.specs.Page.{Names, Rule, alternatives, closing_symbols, is_leaf, item_symbols}
use Rattle.fss_grammar.specs.Page.Rule.{annotations, axiom_item, axioms, header, imports, iri_part, prefixes, version}
use Rattle.fss_grammar.proofs.PageRows.{IsPlaced, each_tag, to_filter, to_map}
use Rattle.fss_grammar.proofs.SoundItemLaws.{annotation_is_no_leaf, axiom_is_no_leaf}
use Rattle.fss_grammar.proofs.SpellingLaws.{spelling-append}
use Rattle.fss_grammar.specs.declared.acts.Act.{Act}
use Rattle.fss_grammar.specs.declared.acts.Act.TheVariants.{AddAnnotation, AddAxiom, DeclareIri, DeclareName, EndItem, ImportIri, OntologyIri, VersionIri}

-- ---- items one after another

-- The tokens lead along the symbols, which changes the document so, and behind them the terms are written.
pub record Changes (p : List Prefix) (names : Names → Names) (change : Document → Document) (xs : List Token) (more : List Term) : Type 0 where
  pub rest : List Token
  pub later : AreTerms p rest more
  pub goes : (after : Names) (d : Document) → Goes p (names after) after xs rest (between d) (between (change d))

changes_none : (p : List Prefix) (xs : List Token) (more : List Term) → AreTerms p xs more → Changes p (λ after. after) (λ d. d) xs more
changes_none p xs more h = record { rest = xs; later = h; goes = λ after d. goes_nowhere p after xs (between d) }

pub changes_both : (p : List Prefix) (a b : Names → Names) (f g : Document → Document) (xs : List Token) (mid more : List Term) → Changes p a f xs mid → ((rest : List Token) → AreTerms p rest mid → Changes p b g rest more) → Changes p (λ after. a (b after)) (λ d. g (f d)) xs more
changes_both p a b f g xs mid more front back =
    let it = back front.rest front.later in
    record { rest = it.rest; later = it.later; goes = λ after d. goes_then (front.goes (b after) d) (it.goes after (f d)) }

changes_rule : (p : List Prefix) (r : Rule) (names : Names → Names) (change : Document → Document) (xs : List Token) (more : List Term) → IsPlaced r → IsIn (names []) (alternatives r) → Changes p names change xs more → Changes p (λ after. part r ∷ after) change xs more
changes_rule p r names change xs more placed i it = record {
  rest = it.rest;
  later = it.later;
  goes = λ after d. goes_rule p r (names []) after xs it.rest (between d) (between (change d)) placed i (it.goes [] d);
}

-- ---- annotations and axioms

-- the act adds a tree that is kept
abbrev Adds : List Prefix → Act → (Tree → Document → Document) → Type 0
Adds p act add =
    (next : Option Token) (t : Tree) (d : Document) → Performs p act next (record { kept = item t; frames = []; document = d }) (between (add t d))

node_changes : (p : List Prefix) (act : Act) (add : Tree → Document → Document) (t : Tag) (ks : Kids) (xs : List Token) (more : List Term) → Adds p act add → IsWritten (node t ks) → AreTerms p xs (item_terms (node t ks) ++ more) → Changes p (item_symbols act t (row_of t)) (add (node t ks)) xs more
node_changes p act add t ks xs more adds written h =
    let tree = node t ks in
    let row_fits = written.shaped.0 in
    let row = node_row (row_of t) (map tag_of (list_of ks)) row_fits.row in
    let kids = kids_go p ks t written.shaped.1 written.members.2 in
    let it = node_leads p row.front row.rest t ks xs more row.row_is written.shaped written.members kids (subst (AreTerms p xs) (sym (spelling-append tree t [] more)) h) in
    let shut = closed_passes p t it.left more it.later in
    subst (λ r. Changes p (item_symbols act t r) (add tree) xs more) (sym row.row_is) record {
      rest = shut.rest;
      later = shut.later;
      goes =
          λ after d.
          let kept : Maker = record { kept = item tree; frames = []; document = d } in
          let symbols = closing_symbols t after in
          goes_then (it.goes (action act ∷ action EndItem ∷ symbols) [] d)
          (goes_then (goes_act p act (action EndItem ∷ symbols) it.left kept (between (add tree d)) (λ next. adds next tree d))
          (goes_then (goes_act p EndItem symbols it.left (between (add tree d)) (between (add tree d)) (λ next. refl)) (shut.goes after (between (add tree d)))));
    }

leaf_takes : (row : Row) (a : Atom) → takes row a ≡ true → is_leaf row ≡ true
leaf_takes (Leaf c) a h = refl
leaf_takes (Node front rest) a h = absurd (true≢false (sym h))

item_changes : (p : List Prefix) (act : Act) (add : Tree → Document → Document) (t : Tree) (xs : List Token) (more : List Term) → Adds p act add → is_leaf (row_of (tag_of t)) ≡ false → IsWritten t → AreTerms p xs (item_terms t ++ more) → Changes p (item_symbols act (tag_of t) (row_of (tag_of t))) (add t) xs more
item_changes p act add (leaf t a) xs more adds e written h = absurd (true≢false (sym (leaf_takes (row_of t) a written.shaped.0) ∙ e))
item_changes p act add (node t ks) xs more adds e written h = node_changes p act add t ks xs more adds written h

annotation_changes : (p : List Prefix) (t : Tree) (xs : List Token) (more : List Term) → IsWrittenAnnotation t → AreTerms p xs (item_terms t ++ more) → Changes p (item_symbols AddAnnotation tag.Annotation (row_of tag.Annotation)) (annotating t) xs more
annotation_changes p t xs more written h =
    subst (λ u. Changes p (item_symbols AddAnnotation u (row_of u)) (annotating t) xs more) written.tag
    (item_changes p AddAnnotation annotating t xs more (λ next t d. refl) (subst (λ u. is_leaf (row_of u) ≡ false) (sym written.tag) annotation_is_no_leaf) written.written h)

pub annotations_change : (p : List Prefix) (ts : List Tree) (xs : List Token) (more : List Term) → AllByRecursion IsWrittenAnnotation ts → AreTerms p xs (flat_map item_terms ts ++ more) → Changes p (λ after. part annotations ∷ after) (all_added annotating ts) xs more
annotations_change p [] xs more written h = changes_rule p annotations (λ after. after) (λ d. d) xs more refl first (changes_none p xs more h)
annotations_change p (t ∷ ts) xs more written h =
    changes_rule p annotations (λ after. item_symbols AddAnnotation tag.Annotation (row_of tag.Annotation) (part annotations ∷ after)) (all_added annotating (t ∷ ts)) xs more refl (later first)
    (changes_both p (item_symbols AddAnnotation tag.Annotation (row_of tag.Annotation)) (λ after. part annotations ∷ after) (annotating t) (all_added annotating ts) xs (flat_map item_terms ts ++ more) more
    (annotation_changes p t xs (flat_map item_terms ts ++ more) written.0 (subst (AreTerms p xs) (append_assoc (item_terms t) (flat_map item_terms ts) more) h))
    (λ rest g. annotations_change p ts rest more written.1 g))

axiom_changes : (p : List Prefix) (t : Tree) (xs : List Token) (more : List Term) → IsWrittenAxiom t → AreTerms p xs (item_terms t ++ more) → Changes p (λ after. part axiom_item ∷ after) (asserting t) xs more
axiom_changes p t xs more written h =
    let u = tag_of t in
    let it = item_changes p AddAxiom asserting t xs more (λ next t d. refl) (axiom_is_no_leaf u written.tag) written.written h in
    let i = to_map (λ t. item_symbols AddAxiom t (row_of t) []) (to_filter is_axiom (each_tag u) written.tag) in
    changes_rule p axiom_item (item_symbols AddAxiom u (row_of u)) (asserting t) xs more refl i it

pub axioms_change : (p : List Prefix) (ts : List Tree) (xs : List Token) (more : List Term) → AllByRecursion IsWrittenAxiom ts → AreTerms p xs (flat_map item_terms ts ++ more) → Changes p (λ after. part axioms ∷ after) (all_added asserting ts) xs more
axioms_change p [] xs more written h = changes_rule p axioms (λ after. after) (λ d. d) xs more refl first (changes_none p xs more h)
axioms_change p (t ∷ ts) xs more written h =
    changes_rule p axioms (λ after. part axiom_item ∷ part axioms ∷ after) (all_added asserting (t ∷ ts)) xs more refl (later first)
    (changes_both p (λ after. part axiom_item ∷ after) (λ after. part axioms ∷ after) (asserting t) (all_added asserting ts) xs (flat_map item_terms ts ++ more) more
    (axiom_changes p t xs (flat_map item_terms ts ++ more) written.0 (subst (AreTerms p xs) (append_assoc (item_terms t) (flat_map item_terms ts) more) h))
    (λ rest g. axioms_change p ts rest more written.1 g))

-- ---- imports

abbrev import_symbols : Names → Names
import_symbols after = word Class.imports ∷ word opening ∷ action ImportIri ∷ part iri_part ∷ action EndItem ∷ word closing ∷ after

goes_import : (p : List Prefix) (after : Names) (xs us : List Token) (m : Maker) → xs ≡ token.Word (codes "Import") ∷ us → Goes p (word Class.imports ∷ after) after xs us m m
goes_import p after xs us m e =
    subst (λ l. Goes p (word Class.imports ∷ after) after l us m m) (sym e) (goes_token p Class.imports after (token.Word (codes "Import")) us m head_classes.2)

import_changes : (p : List Prefix) (i : List ℕ) (xs : List Token) (more : List Term) → IsIri i → AreTerms p xs (import_terms i ++ more) → Changes p import_symbols (importing i) xs more
import_changes p i xs more is h =
    let bracket = h.2 in
    let name = bracket.2 in
    let x = name.1 in
    let close = name.2 in
    record {
      rest = close.0;
      later = close.2;
      goes =
          λ after d.
          let m = between d in
          let n = between (importing i d) in
          let last = action EndItem ∷ word closing ∷ after in
          let named : Goes p (action ImportIri ∷ part iri_part ∷ last) last bracket.0 name.0 m n =
          subst (λ l. Goes p (action ImportIri ∷ part iri_part ∷ last) last l name.0 m n) (sym x.1)
          (goes_name p ImportIri last x.0 i name.0 m n x.2 (i, record { name = x.0; comes = refl; stands = x.2 }, is, refl)) in
          goes_then (goes_import p (word opening ∷ action ImportIri ∷ part iri_part ∷ last) xs h.0 m h.1)
          (goes_then (goes_open p (action ImportIri ∷ part iri_part ∷ last) h.0 bracket.0 m bracket.1)
          (goes_then named
          (goes_then (goes_act p EndItem (word closing ∷ after) name.0 n n (λ next. refl)) (goes_close p after name.0 close.0 n close.1))));
    }

pub imports_change : (p : List Prefix) (is : List (List ℕ)) (xs : List Token) (more : List Term) → AllByRecursion IsIri is → AreTerms p xs (flat_map import_terms is ++ more) → Changes p (λ after. part imports ∷ after) (all_added importing is) xs more
imports_change p [] xs more are h = changes_rule p imports (λ after. after) (λ d. d) xs more refl first (changes_none p xs more h)
imports_change p (i ∷ is) xs more are h =
    changes_rule p imports (λ after. import_symbols (part imports ∷ after)) (all_added importing (i ∷ is)) xs more refl (later first)
    (changes_both p import_symbols (λ after. part imports ∷ after) (importing i) (all_added importing is) xs (flat_map import_terms is ++ more) more
    (import_changes p i xs (flat_map import_terms is ++ more) are.0 h) (λ rest g. imports_change p is rest more are.1 g))

-- ---- the name of the ontology

-- the version behind the IRI of the ontology
pub record Versioned (p : List Prefix) (i : List ℕ) (v : Option (List ℕ)) (xs : List Token) (more : List Term) : Type 0 where
  pub rest : List Token
  pub later : AreTerms p rest more
  pub goes : (after : Names) (d : Document) → Goes p (part version ∷ after) after xs rest (between (naming (record { iri = i; version = None }) d)) (between (naming (record { iri = i; version = v }) d))

version_goes : (p : List Prefix) (i : List ℕ) (v : Option (List ℕ)) (xs : List Token) (more : List Term) → IfSome v IsIri → AreTerms p xs (version_terms v ++ more) → Versioned p i v xs more
version_goes p i None xs more is h = record {
  rest = xs;
  later = h;
  goes =
      λ after d.
      let m = between (naming (record { iri = i; version = None }) d) in
      goes_rule p version [] after xs xs m m refl first (goes_nowhere p [] xs m);
}
version_goes p i (Some v) xs more is h =
    let x = h.1 in
    record {
      rest = h.0;
      later = h.2;
      goes =
          λ after d.
          let m = between (naming (record { iri = i; version = None }) d) in
          let n = between (naming (record { iri = i; version = Some v }) d) in
          goes_rule p version (action VersionIri ∷ action EndItem ∷ part iri_part ∷ []) after xs h.0 m n refl (later first)
          (subst (λ l. Goes p (action VersionIri ∷ action EndItem ∷ part iri_part ∷ []) [] l h.0 m n) (sym x.1)
          (goes_last_name p VersionIri [] x.0 v h.0 m n x.2 (v, record { name = x.0; comes = refl; stands = x.2 }, is, refl)));
    }

pub header_changes : (p : List Prefix) (name : Option OntologyName) (xs : List Token) (more : List Term) → IsNamed name → AreTerms p xs (name_terms name ++ more) → Changes p (λ after. part header ∷ after) (naming_if name) xs more
header_changes p None xs more is h = changes_rule p header (λ after. after) (λ d. d) xs more refl first (changes_none p xs more h)
header_changes p (Some name) xs more is h =
    let i = name.iri in
    let x = h.1 in
    let it = version_goes p i name.version h.0 more is.version h.2 in
    record {
      rest = it.rest;
      later = it.later;
      goes =
          λ after d.
          let m = between d in
          let named = between (naming (record { iri = i; version = None }) d) in
          let n = between (naming name d) in
          goes_rule p header (action OntologyIri ∷ action EndItem ∷ part iri_part ∷ part version ∷ []) after xs it.rest m n refl (later first)
          (goes_then
          (subst (λ l. Goes p (action OntologyIri ∷ action EndItem ∷ part iri_part ∷ part version ∷ []) (part version ∷ []) l h.0 m named) (sym x.1)
          (goes_last_name p OntologyIri (part version ∷ []) x.0 i h.0 m named x.2 (i, record { name = x.0; comes = refl; stands = x.2 }, is.iri, refl)))
          (it.goes [] d));
    }

-- ---- declarations of prefixes

declaration_goes : (p : List Prefix) (declaration : PrefixDeclaration) (after : Names) (us : List Token) (d : Document) → Goes p (word Class.prefix ∷ word opening ∷ action DeclareName ∷ word alone ∷ word equals ∷ action DeclareIri ∷ word Class.iri ∷ action EndItem ∷ word closing ∷ after) after (declaration_tokens declaration ++ us) us (between d) (between (declaring declaration d))
unfolding goes_token
declaration_goes p declaration after us d =
    let m = between d in
    let kept : Maker = record { kept = prefix declaration.name; frames = []; document = d } in
    let n = between (declaring declaration d) in
    let c = token.Name declaration.name [] in
    let e = token.Iri declaration.iri in
    let f = token.Sign sign.Close in
    let last = action EndItem ∷ word closing ∷ after in
    let declare = word equals ∷ action DeclareIri ∷ word Class.iri ∷ last in
    let behind = e ∷ f ∷ us in
    goes_then (goes_token p Class.prefix (word opening ∷ action DeclareName ∷ word alone ∷ declare) (token.Word (codes "Prefix")) (token.Sign sign.Open ∷ c ∷ token.Sign sign.Equals ∷ behind) m head_classes.0)
    (goes_then (goes_open p (action DeclareName ∷ word alone ∷ declare) (token.Sign sign.Open ∷ c ∷ token.Sign sign.Equals ∷ behind) (c ∷ token.Sign sign.Equals ∷ behind) m refl)
    (goes_then (goes_before p DeclareName (word alone ∷ declare) declare c (c ∷ token.Sign sign.Equals ∷ behind) (token.Sign sign.Equals ∷ behind) m kept kept (goes_token p alone declare c (token.Sign sign.Equals ∷ behind) kept (class_is c)) (λ gs. refl) (declaration.name, refl, refl))
    (goes_then (goes_token p equals (action DeclareIri ∷ word Class.iri ∷ last) (token.Sign sign.Equals) behind kept (class_is (token.Sign sign.Equals)))
    (goes_then (goes_before p DeclareIri (word Class.iri ∷ last) last e behind (f ∷ us) kept n n (goes_token p Class.iri last e (f ∷ us) n (class_is e)) (λ gs. refl) (declaration.iri, refl, refl))
    (goes_then (goes_act p EndItem (word closing ∷ after) (f ∷ us) n n (λ next. refl)) (goes_close p after (f ∷ us) us n refl))))))

pub prefixes_go : (p : List Prefix) (ds : List PrefixDeclaration) (after : Names) (us : List Token) (d : Document) → Goes p (part prefixes ∷ after) after (flat_map declaration_tokens ds ++ us) us (between d) (between (all_added declaring ds d))
prefixes_go p [] after us d = goes_rule p prefixes [] after us us (between d) (between d) refl first (goes_nowhere p [] us (between d))
prefixes_go p (declaration ∷ ds) after us d =
    let behind = flat_map declaration_tokens ds ++ us in
    let symbols = word Class.prefix ∷ word opening ∷ action DeclareName ∷ word alone ∷ word equals ∷ action DeclareIri ∷ word Class.iri ∷ action EndItem ∷ word closing ∷ part prefixes ∷ [] in
    goes_rule p prefixes symbols after (declaration_tokens declaration ++ behind) us (between d) (between (all_added declaring (declaration ∷ ds) d)) refl (later first)
    (goes_then (declaration_goes p declaration (part prefixes ∷ []) behind d) (prefixes_go p ds [] us (declaring declaration d)))
