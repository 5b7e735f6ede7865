-- The text of a document reads back to the same ontology, under the same prefixes.
use Rattle.std.proofs.Common.{◌≡◌, ◌≤◌, ℕ, Bool, true, false, List, [], ◌∷◌, ◌++◌, map, codes, Option, Some, None, Contains, refl, sym, ap, ◌∙◌, subst, length}
use Rattle.std.specs.Prelude.{flat_map, if◌then◌else◌, IfSome}
use Rattle.std.specs.declared.cmp.Ordering.{Ordering}
use Rattle.std.specs.declared.cmp.Ordering.TheVariants.{Less, Equal, Greater}
use Rattle.std.specs.List.{AllByRecursion}
use Rattle.std.specs.Str.{all_scalars, encode_utf8_all}
use Rattle.std.proofs.lemmas.List.{append_assoc, append-nil}
use Rattle.owl_list.specs.Ascending.{by_order}
use Rattle.owl_list.proofs.AscendingLaws.{all_from, ascending_holds, from_map, hold_same, in_map}
use Rattle.owl_characters.specs.Iri.{IsIri}
use Rattle.owl_characters.specs.Names.{IsPrefixName}
use Rattle.owl_characters.specs.Order.{text_cmp}
use Rattle.owl_lexer.specs.Splitting.{Splits, SplitsFrom}
use Rattle.owl_tokens.specs.Tokens.{Spells}
use Rattle.owl_characters.specs.Utf8.{behind_mark, mark_size}
use Rattle.owl_lexer.specs.declared.placed.Placed.{Placed}
use Rattle.owl_tokens.specs.declared.token.Sign.TheVariants as sign
use Rattle.owl_tokens.specs.declared.token.Token.{Token}
use Rattle.owl_tokens.specs.declared.token.Token.TheVariants as token
use Rattle.owl_tokens.proofs.StopLaws.{longest_closed}
use Rattle.owl_characters.specs.Limit.{most_bytes}
use Rattle.owl_characters.proofs.Utf8Laws.{no_bytes}
use Rattle.owl_atom.specs.declared.prefixes.Prefix.{Prefix}
use Rattle.owl_atom.specs.Prefixes.{IsTable}
use Rattle.rdf_terms.specs.Vocabulary.{xsd}
use Rattle.owl_tree.specs.declared.tag.Tag.{Tag}
use Rattle.owl_tree.specs.declared.tag.Tag.TheVariants as tag
use Rattle.owl_tree.specs.Canonical.{canonical}
use Rattle.owl_tree.proofs.CanonicalLaws.{canonical_again}
use Rattle.owl_tree.specs.Equivalence.{IsEquivalent}
use Rattle.owl_tree.specs.Ontologies.{HoldEquivalent, IsAnnotation, IsAxiom, IsHead, IsName, IsOntology, IsSameOntology, Ontology, OntologyName, canonical_list, canonical_ontology}
use Rattle.owl_tree.specs.Order.{tree_cmp}
use Rattle.owl_tree.specs.OrderLaws.{only_equal_trees_tie, trees_total}
use Rattle.owl_tree.specs.Rows.{is_tag, is_bare, is_group}
use Rattle.owl_tree.specs.Shape.{IsShaped}
use Rattle.owl_tree.specs.Tags.{is_axiom, keyword_of}
use Rattle.owl_tree.specs.Trees.{Tree, Kids, leaf, node, no_kids, kid, depth, tag_of}
use Rattle.owl_arena.specs.Held.{AreHeld, trees_at}
use Rattle.owl_arena.proofs.HeldLaws.{entry_at}
use Rattle.owl_arena.specs.Shared.{AreShared, deepest}
use Rattle.owl_doc.specs.Documents.{Document, IsDocument, ontology_of}
use Rattle.fss_terms.specs.Functional.{IsWithinLimits, ReadsFunctional, IsWrittenAnnotation, IsWrittenAxiom, IsWrittenOntology, PrefixDeclaration, SpellsFunctional, body_terms, declaration_tokens, import_terms, iri_term, item_terms, name_terms, ontology_terms, version_terms}
use Rattle.fss_terms.specs.Spelling.{closed, opened, spelling, spellings}
use Rattle.fss_terms.specs.Terms.{AreTerms, tokens_of}
use Rattle.fss_terms.specs.declared.term.Term.{Term}
use Rattle.fss_terms.specs.declared.term.Term.TheVariants as term
use Rattle.owl_writing.specs.Tables.{declared_prefixes, with_prefix, written_prefixes, HaveIris}
use Rattle.owl_writing.specs.Terms.{full_iri}
use Rattle.fss_write.specs.Text.{header_line, import_line, item_line, written_text, name_text, parts, prefix_line, text_of, version_text}
use Rattle.written_trees.specs.Written.{written_form}
use Rattle.owl_writing.proofs.WrittenTableLaws.{AreKnown, are_known, written_iris, written_table}
use Rattle.fss_write.proofs.DeclaredTables.{are_declarable, declaration, declared_table}
use Rattle.owl_writing.proofs.CutLaws.{Cuts, cuts_space, cuts_token}
use Rattle.fss_write.proofs.Pieces.{SaysTerms, says_close, says_line, says_none, says_opening, says_space}
use Rattle.fss_write.proofs.Stops.{token_longest}
use Rattle.written_trees.proofs.WrittenLaws.{equivalent_written, is_written, written_equivalent, written_tag}
use Rattle.owl_writing.proofs.PlainLocalLaws.{spells_nothing}
use Rattle.fss_write.proofs.WrittenTerms.{allows_end, import_word, ontology_word, prefix_word, say_tree}

-- what stands behind a tree stands behind its terms

leaf_append : (b : Bool) (t : Tag) (held : Term) (more rest : List Term) → (if b then term.Keyword (keyword_of t) ∷ term.Opening ∷ held ∷ term.Closing ∷ (more ++ rest) else held ∷ (more ++ rest)) ≡ (if b then term.Keyword (keyword_of t) ∷ term.Opening ∷ held ∷ term.Closing ∷ more else held ∷ more) ++ rest
leaf_append true t held more rest = refl
leaf_append false t held more rest = refl

closed_append : (t : Tag) (more rest : List Term) → closed t (more ++ rest) ≡ closed t more ++ rest
closed_append t more rest = by_test (is_bare t)
  where
    by_test : (b : Bool) → (if b then more ++ rest else term.Closing ∷ (more ++ rest)) ≡ (if b then more else term.Closing ∷ more) ++ rest
    by_test true = refl
    by_test false = refl

opened_append : (t : Tag) (more rest : List Term) → opened t (more ++ rest) ≡ opened t more ++ rest
opened_append t more rest = by_tests (is_bare t) (is_group t)
  where
    by_tests : (b g : Bool) → (if b then more ++ rest else (if g then term.Opening ∷ (more ++ rest) else term.Keyword (keyword_of t) ∷ term.Opening ∷ (more ++ rest))) ≡ (if b then more else (if g then term.Opening ∷ more else term.Keyword (keyword_of t) ∷ term.Opening ∷ more)) ++ rest
    by_tests true g = refl
    by_tests false true = refl
    by_tests false false = refl

mutual
  spelling_append : (within : Tag) (t : Tree) (more rest : List Term) → spelling within t (more ++ rest) ≡ spelling within t more ++ rest
  spelling_append within (leaf t a) more rest = leaf_append (is_tag tag.Declaration within) t (term.Atom a) more rest
  spelling_append within (node t ks) more rest =
      ap (λ (x : List Term). opened t (spellings t ks x)) (closed_append t more rest)
      ∙ ap (opened t) (spellings_append t ks (closed t more) rest)
      ∙ opened_append t (spellings t ks (closed t more)) rest

  spellings_append : (within : Tag) (ks : Kids) (more rest : List Term) → spellings within ks (more ++ rest) ≡ spellings within ks more ++ rest
  spellings_append within no_kids more rest = refl
  spellings_append within (kid t ks) more rest = ap (spelling within t) (spellings_append within ks more rest) ∙ spelling_append within t (spellings within ks more) rest

-- the lines of an ontology

module _ (written read : List Prefix) (known : AreKnown written read) where
  says_item : (t : Tree) (cs : List ℕ) (more : List Term) → IsShaped (written_form t) → SaysTerms read cs more → SaysTerms read (item_line written t ++ cs) (item_terms (written_form t) ++ more)
  says_item t cs more h k =
      let form = written_form t in
      let whole = say_tree written read known (tag_of form) form h (10 ∷ cs) more (allows_end (parts written (tag_of form) form) (10 ∷ cs) refl) (says_line read cs more k) in
      subst (λ (x : List ℕ). SaysTerms read x (item_terms form ++ more)) (sym (append_assoc (written_text written t) (10 ∷ []) cs))
      (subst (λ (x : List Term). SaysTerms read (written_text written t ++ (10 ∷ cs)) x) (spelling_append (tag_of form) form [] more) whole)

  says_items : (ts : List Tree) (cs : List ℕ) (more : List Term) → AllByRecursion (λ t. IsShaped (written_form t)) ts → SaysTerms read cs more → SaysTerms read (flat_map (item_line written) ts ++ cs) (flat_map item_terms (map written_form ts) ++ more)
  says_items [] cs more h k = k
  says_items (t ∷ ts) cs more h k =
      let whole = says_item t (flat_map (item_line written) ts ++ cs) (flat_map item_terms (map written_form ts) ++ more) h.0 (says_items ts cs more h.1 k) in
      subst (λ (x : List ℕ). SaysTerms read x (flat_map item_terms (map written_form (t ∷ ts)) ++ more)) (sym (append_assoc (item_line written t) (flat_map (item_line written) ts) cs))
      (subst (λ (x : List Term). SaysTerms read (item_line written t ++ (flat_map (item_line written) ts ++ cs)) x) (sym (append_assoc (item_terms (written_form t)) (flat_map item_terms (map written_form ts)) more)) whole)

says_full : (read : List Prefix) (iri cs : List ℕ) (more : List Term) → IsIri iri → SaysTerms read cs more → SaysTerms read (full_iri iri ++ cs) (iri_term iri ∷ more)
says_full read iri cs more h k =
    cuts_token Spells (λ tokens. AreTerms read tokens (iri_term iri ∷ more)) (λ tokens. AreTerms read tokens more) (token.Iri iri) (full_iri iri) cs (h, refl)
    (longest_closed (token.Iri iri) (full_iri iri) cs (h, refl) refl) (λ ts m. (ts, (token.Iri iri, refl, refl), m)) k

says_import : (read : List Prefix) (iri cs : List ℕ) (more : List Term) → IsIri iri → SaysTerms read cs more → SaysTerms read (import_line iri ++ cs) (import_terms iri ++ more)
says_import read iri cs more h k =
    let inner = says_full read iri (41 ∷ 10 ∷ cs) (term.Closing ∷ more) h (says_close read (10 ∷ cs) more (says_line read cs more k)) in
    let whole = says_opening read (codes "Import") (full_iri iri ++ (41 ∷ 10 ∷ cs)) (iri_term iri ∷ term.Closing ∷ more) import_word inner in
    subst (λ (x : List ℕ). SaysTerms read (codes "Import(" ++ x) (import_terms iri ++ more)) (sym (append_assoc (full_iri iri) (codes ")\n") cs)) whole

says_imports : (read : List Prefix) (iris : List (List ℕ)) (cs : List ℕ) (more : List Term) → AllByRecursion IsIri iris → SaysTerms read cs more → SaysTerms read (flat_map import_line iris ++ cs) (flat_map import_terms iris ++ more)
says_imports read [] cs more h k = k
says_imports read (iri ∷ iris) cs more h k =
    let whole = says_import read iri (flat_map import_line iris ++ cs) (flat_map import_terms iris ++ more) h.0 (says_imports read iris cs more h.1 k) in
    subst (λ (x : List ℕ). SaysTerms read x (import_terms iri ++ (flat_map import_terms iris ++ more))) (sym (append_assoc (import_line iri) (flat_map import_line iris) cs)) whole

says_version : (read : List Prefix) (version : Option (List ℕ)) (cs : List ℕ) (more : List Term) → IfSome version IsIri → SaysTerms read cs more → SaysTerms read (version_text version ++ cs) (version_terms version ++ more)
says_version read None cs more h k = k
says_version read (Some iri) cs more h k = says_space read (full_iri iri ++ cs) (iri_term iri ∷ more) (says_full read iri cs more h k)

says_name : (read : List Prefix) (name : Option OntologyName) (cs : List ℕ) (more : List Term) → IfSome name IsName → SaysTerms read cs more → SaysTerms read (name_text name ++ cs) (name_terms name ++ more)
says_name read None cs more h k = k
says_name read (Some name) cs more h k =
    subst (λ (x : List ℕ). SaysTerms read x (name_terms (Some name) ++ more)) (sym (append_assoc (full_iri name.iri) (version_text name.version) cs))
    (says_full read name.iri (version_text name.version ++ cs) (version_terms name.version ++ more) h.iri (says_version read name.version cs more h.version k))

says_header : (read : List Prefix) (name : Option OntologyName) (cs : List ℕ) (more : List Term) → IfSome name IsName → SaysTerms read cs more → SaysTerms read (header_line name ++ cs) (term.Keyword (codes "Ontology") ∷ term.Opening ∷ (name_terms name ++ more))
says_header read name cs more h k =
    let whole = says_opening read (codes "Ontology") (name_text name ++ (10 ∷ cs)) (name_terms name ++ more) ontology_word (says_name read name (10 ∷ cs) more h (says_line read cs more k)) in
    subst (λ (x : List ℕ). SaysTerms read (codes "Ontology(" ++ x) (term.Keyword (codes "Ontology") ∷ term.Opening ∷ (name_terms name ++ more))) (sym (append_assoc (name_text name) (codes "\n") cs)) whole

-- the ontology as it is written
abbrev pub written_ontology : Ontology → Ontology
written_ontology o = record { head = o.head; annotations = map written_form o.annotations; axioms = map written_form o.axioms }

abbrev AreShapedForms : List Tree → Type 0
AreShapedForms ts = AllByRecursion (λ t. IsShaped (written_form t)) ts

-- the lines behind the prefixes
abbrev ontology_lines : List Prefix → Ontology → List ℕ
ontology_lines written o =
    header_line o.head.name ++ (flat_map import_line o.head.imports ++ (flat_map (item_line written) o.annotations ++ (flat_map (item_line written) o.axioms ++ codes ")\n")))

says_ontology : (written read : List Prefix) → AreKnown written read → (o : Ontology) → IsHead o.head → AreShapedForms o.annotations → AreShapedForms o.axioms → SaysTerms read (ontology_lines written o) (ontology_terms (written_ontology o))
says_ontology written read known o head annotations axioms =
    let last = says_close read (10 ∷ []) [] (says_line read [] [] (says_none read)) in
    says_header read o.head.name _ (body_terms (written_ontology o)) head.name
    (says_imports read o.head.imports _ _ head.imports
    (says_items written read known o.annotations _ _ annotations
    (says_items written read known o.axioms (codes ")\n") (term.Closing ∷ []) axioms last)))

-- the lines of the prefixes, and what stands behind them

abbrev Declares : List Prefix → List PrefixDeclaration → List Term → List Token → Type 0
Declares read ds terms tokens = (body : List Token) × (tokens ≡ flat_map declaration_tokens ds ++ body) × AreTerms read body terms

declares_one : (read : List Prefix) (p : Prefix) (ds : List PrefixDeclaration) (terms : List Term) (cs : List ℕ) → IsPrefixName p.name → IsIri p.iri
    → Cuts Spells cs (Declares read ds terms) → Cuts Spells (prefix_line p ++ cs) (Declares read (declaration p ∷ ds) terms)
declares_one read p ds terms cs name iri k =
    let fact : List Token → Type 0 = Declares read (declaration p ∷ ds) terms in
    let close = λ (tokens : List Token). fact (token.Word (codes "Prefix") ∷ token.Sign sign.Open ∷ token.Name p.name [] ∷ token.Sign sign.Equals ∷ token.Iri p.iri ∷ tokens) in
    let ending =
    cuts_token Spells close (Declares read ds terms) (token.Sign sign.Close) (codes ")") (10 ∷ cs) refl (longest_closed (token.Sign sign.Close) (codes ")") (10 ∷ cs) refl refl)
    (λ ts m. (m.0, ap (λ (x : List Token). declaration_tokens (declaration p) ++ x) m.1, m.2)) (cuts_space Spells (Declares read ds terms) 10 cs refl k) in
    let full = λ (tokens : List Token). fact (token.Word (codes "Prefix") ∷ token.Sign sign.Open ∷ token.Name p.name [] ∷ token.Sign sign.Equals ∷ tokens) in
    let with_iri = cuts_token Spells full close (token.Iri p.iri) (full_iri p.iri) (41 ∷ 10 ∷ cs) (iri, refl) (longest_closed (token.Iri p.iri) (full_iri p.iri) (41 ∷ 10 ∷ cs) (iri, refl) refl) (λ ts m. m) ending in
    let named = λ (tokens : List Token). fact (token.Word (codes "Prefix") ∷ token.Sign sign.Open ∷ token.Name p.name [] ∷ tokens) in
    let with_equals = cuts_token Spells named full (token.Sign sign.Equals) (codes "=") (full_iri p.iri ++ (41 ∷ 10 ∷ cs)) refl (longest_closed (token.Sign sign.Equals) (codes "=") (full_iri p.iri ++ (41 ∷ 10 ∷ cs)) refl refl) (λ ts m. m) with_iri in
    let begun = λ (tokens : List Token). fact (token.Word (codes "Prefix") ∷ token.Sign sign.Open ∷ tokens) in
    let after = 61 ∷ (full_iri p.iri ++ (41 ∷ 10 ∷ cs)) in
    let with_name = cuts_token Spells begun named (token.Name p.name []) (p.name ++ (58 ∷ [])) after ([], name, spells_nothing, refl) (token_longest (token.Name p.name []) (p.name ++ (58 ∷ [])) after ([], name, spells_nothing, refl) refl) (λ ts m. m) with_equals in
    let word = λ (tokens : List Token). fact (token.Word (codes "Prefix") ∷ tokens) in
    let inside = (p.name ++ (58 ∷ [])) ++ after in
    let with_open = cuts_token Spells word begun (token.Sign sign.Open) (codes "(") inside refl (longest_closed (token.Sign sign.Open) (codes "(") inside refl refl) (λ ts m. m) with_name in
    let whole = cuts_token Spells fact word (token.Word (codes "Prefix")) (codes "Prefix") (40 ∷ inside) (prefix_word, refl) (token_longest (token.Word (codes "Prefix")) (codes "Prefix") (40 ∷ inside) (prefix_word, refl) refl) (λ ts m. m) with_open in
    let same : (p.name ++ (codes ":=" ++ (full_iri p.iri ++ codes ")\n"))) ++ cs ≡ inside =
    append_assoc p.name (codes ":=" ++ (full_iri p.iri ++ codes ")\n")) cs
    ∙ ap (λ (x : List ℕ). p.name ++ (codes ":=" ++ x)) (append_assoc (full_iri p.iri) (codes ")\n") cs)
    ∙ sym (append_assoc p.name (58 ∷ []) after) in
    subst (λ (x : List ℕ). Cuts Spells (codes "Prefix(" ++ x) fact) (sym same) whole

declares_all : (read : List Prefix) (ps : List Prefix) (terms : List Term) (cs : List ℕ) → AllByRecursion (λ p. IsPrefixName p.name) ps → HaveIris ps → SaysTerms read cs terms → Cuts Spells (flat_map prefix_line ps ++ cs) (Declares read (map declaration ps) terms)
declares_all read [] terms cs names iris k = λ place. let others = k place in (others.0, others.1, (tokens_of others.0, refl, others.2))
declares_all read (p ∷ ps) terms cs names iris k =
    subst (λ (x : List ℕ). Cuts Spells x (Declares read (map declaration (p ∷ ps)) terms)) (sym (append_assoc (prefix_line p) (flat_map prefix_line ps) cs))
    (declares_one read p (map declaration ps) terms (flat_map prefix_line ps ++ cs) names.0 iris.0 (declares_all read ps terms cs names.1 iris.1 k))

-- what is written of an ontology in canonical form may be written, and is the same ontology

each_canonical : (ts : List Tree) → canonical_list ts ≡ ts → AllByRecursion (λ t. canonical t ≡ t) ts
each_canonical ts e = all_from (λ t. canonical t ≡ t) ts (λ t m.
    let inside = subst (λ (us : List Tree). Contains us t) (sym e) m in
    let form = from_map canonical ts t ((ascending_holds tree_cmp trees_total only_equal_trees_tie (map canonical ts) t).0 inside) in
    ap canonical (sym form.value) ∙ canonical_again form.element ∙ form.value)

annotations_written : (ts : List Tree) → AllByRecursion IsAnnotation ts → AllByRecursion (λ t. canonical t ≡ t) ts → AllByRecursion IsWrittenAnnotation (map written_form ts)
annotations_written [] h e = tt
annotations_written (t ∷ ts) h e = (record { tag = written_tag t ∙ h.0.tag; written = is_written t h.0.shaped e.0 }, annotations_written ts h.1 e.1)

axioms_written : (ts : List Tree) → AllByRecursion IsAxiom ts → AllByRecursion (λ t. canonical t ≡ t) ts → AllByRecursion IsWrittenAxiom (map written_form ts)
axioms_written [] h e = tt
axioms_written (t ∷ ts) h e = (record { tag = ap is_axiom (written_tag t) ∙ h.0.tag; written = is_written t h.0.shaped e.0 }, axioms_written ts h.1 e.1)

annotation_forms : (ts : List Tree) → AllByRecursion IsWrittenAnnotation (map written_form ts) → AreShapedForms ts
annotation_forms [] h = tt
annotation_forms (t ∷ ts) h = (h.0.written.shaped, annotation_forms ts h.1)

axiom_forms : (ts : List Tree) → AllByRecursion IsWrittenAxiom (map written_form ts) → AreShapedForms ts
axiom_forms [] h = tt
axiom_forms (t ∷ ts) h = (h.0.written.shaped, axiom_forms ts h.1)

hold_written : (ts : List Tree) → HoldEquivalent (map written_form ts) ts
hold_written ts = record {
  there = λ t m.
      let form = from_map written_form ts t m in
      (form.element, form.inside, subst (λ (u : Tree). IsEquivalent u form.element) form.value (written_equivalent form.element));
  back = λ t m. (written_form t, in_map written_form ts t m, equivalent_written t);
}

pub written_same : (o : Ontology) → IsSameOntology (written_ontology o) o
written_same o = record {
  head = record { name = refl; imports = hold_same o.head.imports };
  annotations = hold_written o.annotations;
  axioms = hold_written o.axioms;
}

pub ontology_is_written : (o : Ontology) → IsOntology o → canonical_ontology o ≡ o → IsWrittenOntology (written_ontology o)
ontology_is_written o h e = record {
  head = h.head;
  annotations = annotations_written o.annotations h.annotations (each_canonical o.annotations (ap (λ (q : Ontology). q.annotations) e));
  axioms = axioms_written o.axioms h.axioms (each_canonical o.axioms (ap (λ (q : Ontology). q.axioms) e));
}

-- the text begins with a prefix, and so with no byte order mark

abbrev IsUnmarked : List ℕ → Type 0
IsUnmarked cs = (behind_mark cs ≡ cs) × (mark_size cs ≡ 0)

unmarked_by : (name iri : List ℕ) (p : Prefix) (ps : List Prefix) (o : Ordering) (rest : List ℕ)
    → IsUnmarked (flat_map prefix_line (by_order o (record { name = name; iri = iri; fixed = false; declared = false } ∷ p ∷ ps) (record p { iri = iri } ∷ ps) (p ∷ with_prefix name iri ps)) ++ rest)
unmarked_by name iri p ps Less rest = (refl, refl)
unmarked_by name iri p ps Equal rest = (refl, refl)
unmarked_by name iri p ps Greater rest = (refl, refl)

unmarked : (name iri : List ℕ) (ps : List Prefix) (rest : List ℕ) → IsUnmarked (flat_map prefix_line (with_prefix name iri ps) ++ rest)
unmarked name iri [] rest = (refl, refl)
unmarked name iri (p ∷ ps) rest = unmarked_by name iri p ps (text_cmp name p.name) rest

-- the text is cut into tokens that are prefixes and then the ontology, or an equivalent one
pub record SpellsText (prefixes : List Prefix) (o : Ontology) : Type 0 where
  pub placed : List (Placed Token)
  pub splits : Splits Spells (encode_utf8_all (text_of prefixes o)) placed None
  pub spells : SpellsFunctional (declared_prefixes prefixes) o (tokens_of placed)

splits_text : (cs : List ℕ) (placed : List (Placed Token)) → IsUnmarked cs → all_scalars cs ≡ true → SplitsFrom Spells 0 cs [] placed None → Splits Spells (encode_utf8_all cs) placed None
splits_text cs placed unmarked scalars splits = record {
  characters = cs;
  tail = [];
  decodes = record { parts = sym (append-nil (encode_utf8_all cs)); scalars = scalars; stops = no_bytes };
  splits =
      subst (λ (n : ℕ). SplitsFrom Spells n (behind_mark cs) [] placed None) (sym unmarked.1)
      (subst (λ (x : List ℕ). SplitsFrom Spells 0 x [] placed None) (sym unmarked.0) splits);
}

-- where what is written is a table of IRIs
pub written_reads_back : (prefixes : List Prefix) (o : Ontology) → IsTable prefixes → HaveIris (written_prefixes prefixes) → IsOntology o → canonical_ontology o ≡ o → all_scalars (text_of prefixes o) ≡ true → SpellsText prefixes o
written_reads_back prefixes o table iris h e scalars =
    let written = written_prefixes prefixes in
    let read = declared_prefixes prefixes in
    let is = ontology_is_written o h e in
    let ontology = says_ontology written read (are_known prefixes table) o h.head (annotation_forms o.annotations is.annotations) (axiom_forms o.axioms is.axioms) in
    let cut = declares_all read written (ontology_terms (written_ontology o)) (ontology_lines written o) (written_table prefixes table).names iris ontology 0 in
    record {
      placed = cut.0;
      splits = splits_text (text_of prefixes o) cut.0 (unmarked (codes "xsd") (xsd []) _ (ontology_lines written o)) scalars cut.1;
      spells = record {
        declarations = map declaration written;
        body = cut.2.0;
        written = written_ontology o;
        parts = cut.2.1;
        declarable = are_declarable prefixes table iris;
        table = declared_table prefixes table;
        terms = cut.2.2;
        is_written = is;
        same = written_same o;
      };
    }

pub text_reads_back : (prefixes : List Prefix) (o : Ontology) → IsTable prefixes → HaveIris prefixes → IsOntology o → canonical_ontology o ≡ o → all_scalars (text_of prefixes o) ≡ true → SpellsText prefixes o
text_reads_back prefixes o table iris h e scalars = written_reads_back prefixes o table (written_iris prefixes iris) h e scalars

-- documents

each_depth : (ts : List Tree) (ids : List ℕ) → AreShared ts → AreHeld ts ids → AllByRecursion (λ t. depth t ≤ deepest) (trees_at ts ids)
each_depth ts [] shared held = tt
each_depth ts (id ∷ ids) shared held = ((entry_at ts id shared held.0).depth, each_depth ts ids shared held.1)

within_limits : (d : Document) → IsDocument d → AreShared d.arena.trees → IsWithinLimits (ontology_of d)
within_limits d h shared = record {
  annotations = each_depth d.arena.trees d.notes shared h.notes;
  axioms = each_depth d.arena.trees d.axioms shared h.axioms;
  weight = h.weight;
}

-- a document's text that is not too long is read as the same ontology
pub document_reads_back : (d : Document) → IsDocument d → AreShared d.arena.trees → IsTable d.prefixes → HaveIris (written_prefixes d.prefixes)
    → all_scalars (text_of d.prefixes (ontology_of d)) ≡ true → length (encode_utf8_all (text_of d.prefixes (ontology_of d))) ≤ most_bytes
    → ReadsFunctional (encode_utf8_all (text_of d.prefixes (ontology_of d))) (declared_prefixes d.prefixes) (ontology_of d)
document_reads_back d h shared table iris scalars few =
    let back = written_reads_back d.prefixes (ontology_of d) table iris h.ontology h.canonical scalars in
    record { placed = back.placed; few = few; splits = back.splits; spells = back.spells; within = within_limits d h shared }
