-- A document derives, and makes an ontology, exactly where it is written for this ontology.
use Rattle.std.proofs.Common.{◌≡◌, ◌↔◌, ℕ, List, [], ◌∷◌, ◌++◌, Option, codes, flat_map, true, refl, sym, ap, ◌∙◌, subst, subst₂}
use Rattle.grammar.specs.Derivations.{DerivesOf}
use Rattle.grammar.specs.Derivations.DerivesOf.{nothing}
use Rattle.grammar.specs.Derivations.Event.{Do, Take}
use Rattle.grammar.specs.Pages.{IsIn}
use Rattle.grammar.specs.Pages.IsIn.{first, later}
use Rattle.grammar.specs.Pages.Named.{action, part, token as word}
use Rattle.grammar.proofs.PartLaws.{means, yields}
use Rattle.grammar.proofs.YieldLaws.{InParts, IsMeaning, Means}
use Rattle.grammar.specs.declared.symbol.Symbol.TheVariants as symbol
use Rattle.owl_atom.specs.declared.prefixes.Prefix.{Prefix}
use Rattle.owl_tokens.specs.declared.token.Token.{Token}
use Rattle.owl_tokens.specs.declared.token.Token.TheVariants as token
use Rattle.owl_tokens.specs.declared.token.Sign.TheVariants as sign
use Rattle.owl_tree.specs.declared.row.Sort.{Sort}
use Rattle.owl_tree.specs.declared.tag.Tag.{Tag}
use Rattle.owl_tree.specs.Ontologies.{Ontology, OntologyName}
use Rattle.owl_tree.specs.Rows.{admits}
use Rattle.owl_tree.specs.Trees.{Tree, tag_of}
use Rattle.fss_terms.specs.Functional.{IsWrittenOntology, PrefixDeclaration, body_terms, declaration_tokens, item_terms, name_terms, ontology_terms}
use Rattle.fss_terms.specs.Spelling.{IsWritten, spelling}
use Rattle.fss_terms.specs.Terms.{AreTerms}
use Rattle.fss_terms.specs.declared.term.Term.TheVariants.{Closing}
use Rattle.fss_grammar.proofs.ActLaws.{done}
use Rattle.fss_grammar.proofs.AddedLaws.{all_of}
use Rattle.fss_grammar.specs.Classes.{Class, class_of}
use Rattle.fss_grammar.specs.Classes.Class.{closing, opening}
use Rattle.fss_grammar.proofs.ClassLaws.{head_classes, is_of}
use Rattle.fss_grammar.proofs.CompleteItemLaws.{Changes, annotations_change, axioms_change, changes_both, header_changes, imports_change, prefixes_go}
use Rattle.fss_grammar.proofs.CompleteLaws.{one_leads}
use Rattle.fss_grammar.proofs.CompleteTreeLaws.{tree_goes}
use Rattle.fss_grammar.proofs.Going.{Goes, goes_act, goes_rule, goes_then, goes_token}
use Rattle.fss_grammar.proofs.GoingLaws.{goes_close, goes_open}
use Rattle.fss_grammar.specs.Making.{Document, Maker, Makes, Runs, beginning}
use Rattle.owl_tree.specs.Frames.{Frame, with_kid}
use Rattle.fss_grammar.specs.Meaning.{Events, FitsOne, MeansAt, NamesMean, Parses, RuleMeans, Suits, all_added, annotating, asserting, between, declaring, importing, naming_if, within}
use Rattle.fss_grammar.specs.Page.{Names, Rule, alternatives, rule_number}
use Rattle.fss_grammar.specs.Page.Rule.{after, annotations, axiom_item, axioms, behind, document, header, imports, iri_part, many, maybe, one, prefixes, suffix, version}
use Rattle.fss_grammar.proofs.PageRows.{IsPlaced, alternative_of, one_is_placed, placed_at}
use Rattle.fss_grammar.proofs.SoundItemLaws.{annotations_mean, axiom_item_means, axioms_mean, header_means, imports_mean, prefixes_mean, version_means}
use Rattle.fss_grammar.proofs.SoundLaws.{append_then, cons_then}
use Rattle.fss_grammar.proofs.SoundRuleLaws.{after_means, behind_means, iri_means, last_moved, many_means, maybe_means, one_means, suffix_means}
use Rattle.fss_grammar.proofs.TermLaws.{ontology_spelled}
use Rattle.fss_grammar.specs.Table.{functional}
use Rattle.fss_grammar.specs.declared.acts.Act.TheVariants.{EndItem}
use Rattle.fss_grammar.specs.WrittenDocuments.{DerivesDocument, DerivesTree, IsWrittenDocument}

-- ---- a whole document

document_made : (m n : Maker) (ds : List PrefixDeclaration) (name : Option OntologyName) (is : List (List ℕ)) (ans axs : List Tree) → m ≡ between (all_added asserting axs (all_added annotating ans (all_added importing is (naming_if name (all_added declaring ds beginning.document))))) → m ≡ n → n ≡ between (record { declarations = ds; ontology = record { head = record { name = name; imports = is }; annotations = ans; axioms = axs } })
document_made m n ds name is ans axs h k = sym k ∙ h ∙ ap between (all_of ds name is ans axs)

document_read : (p : List Prefix) (a b c : Token) (xs hs is ans axs : List Token) (es eh ei ean eax : Events) → a ≡ token.Word (codes "Ontology") → b ≡ token.Sign sign.Open → c ≡ token.Sign sign.Close → RuleMeans p prefixes xs es → RuleMeans p header hs eh → RuleMeans p imports is ei → RuleMeans p annotations ans ean → RuleMeans p axioms axs eax → RuleMeans p document (xs ++ a ∷ b ∷ (hs ++ (is ++ (ans ++ (axs ++ c ∷ []))))) (es ++ Take a ∷ Do 92 ∷ Take b ∷ (eh ++ (ei ++ (ean ++ (eax ++ Do 92 ∷ Take c ∷ [])))))
document_read p a b c xs hs is ans axs es eh ei ean eax ontology_is open_is close_is prefixes_read header_read imports_read annotations_read axioms_read = λ n r.
    let ds = prefixes_read _ beginning.document n r in
    let opens = done EndItem ds.runs in
    let name = header_read _ _ n (subst (λ m. Runs p (Take b ∷ (eh ++ (ei ++ (ean ++ (eax ++ Do 92 ∷ Take c ∷ []))))) m n) opens.1 opens.2) in
    let importing = imports_read _ _ n name.runs in
    let annotating = annotations_read _ _ n importing.runs in
    let asserting = axioms_read _ _ n annotating.runs in
    let shut = done EndItem asserting.runs in
    let o : Ontology = record { head = record { name = name.value; imports = importing.value }; annotations = annotating.value; axioms = asserting.value } in
    let body = a ∷ b ∷ (hs ++ (is ++ (ans ++ (axs ++ c ∷ [])))) in
    let last : AreTerms p (c ∷ []) (Closing ∷ []) = ([], ap (λ t. t ∷ []) close_is, refl) in
    record {
      declarations = ds.declarations;
      ontology = o;
      body = body;
      parts = ap (λ l. l ++ body) ds.are;
      terms =
          ontology_spelled p o a b (hs ++ (is ++ (ans ++ (axs ++ c ∷ [])))) ontology_is open_is
          (name.spelled (is ++ (ans ++ (axs ++ c ∷ []))) (body_terms o)
          (importing.spelled (ans ++ (axs ++ c ∷ [])) (flat_map item_terms annotating.value ++ (flat_map item_terms asserting.value ++ Closing ∷ []))
          (annotating.spelled (axs ++ c ∷ []) (flat_map item_terms asserting.value ++ Closing ∷ [])
          (asserting.spelled (c ∷ []) (Closing ∷ []) last))));
      written = record { head = record { name = name.good; imports = importing.good }; annotations = annotating.good; axioms = asserting.good };
      made = document_made shut.0 n ds.declarations name.value importing.value annotating.value asserting.value shut.1 shut.2;
    }

document_means : (p : List Prefix) (names : Names) → IsIn names (alternatives document) → (xs : List Token) (es : Events) → NamesMean p names xs es → RuleMeans p document xs es
document_means p names first xs es it =
    let word = it.back in
    let end = word.more in
    let open_ = end.more in
    let heads = open_.more in
    let imported = heads.back in
    let annotated = imported.back in
    let asserted = annotated.back in
    let last = asserted.back in
    let close = last.more in
    subst₂ (RuleMeans p document)
    (sym (append_then it.front_tokens it.tokens_are (cons_then word.tokens_are (cons_then open_.tokens_are (append_then heads.front_tokens heads.tokens_are (append_then imported.front_tokens imported.tokens_are (append_then annotated.front_tokens annotated.tokens_are (append_then asserted.front_tokens asserted.tokens_are (cons_then close.tokens_are close.more.tokens_are)))))))))
    (sym (append_then it.front_events it.events_are (cons_then word.events_are (cons_then end.events_are (cons_then open_.events_are (append_then heads.front_events heads.events_are (append_then imported.front_events imported.events_are (append_then annotated.front_events annotated.events_are (append_then asserted.front_events asserted.events_are (cons_then last.events_are (cons_then close.events_are close.more.events_are)))))))))))
    (document_read p word.token open_.token close.token it.front_tokens heads.front_tokens imported.front_tokens annotated.front_tokens asserted.front_tokens it.front_events heads.front_events imported.front_events annotated.front_events asserted.front_events (is_of Class.ontology word.token word.class) (is_of opening open_.token open_.class) (is_of closing close.token close.class) (it.front prefixes refl) (heads.front header refl) (imported.front imports refl) (annotated.front annotations refl) (asserted.front axioms refl))
document_means p names (later i) xs es it = elim i [ ]

-- ---- each alternative means what its rule means

alternative_means : (p : List Prefix) (r : Rule) → IsPlaced r → (names : Names) → IsIn names (alternatives r) → (xs : List Token) (es : Events) → NamesMean p names xs es → RuleMeans p r xs es
alternative_means p document placed names i xs es it = document_means p names i xs es it
alternative_means p prefixes placed names i xs es it = prefixes_mean p names i xs es it
alternative_means p header placed names i xs es it = header_means p names i xs es it
alternative_means p version placed names i xs es it = version_means p names i xs es it
alternative_means p imports placed names i xs es it = imports_mean p names i xs es it
alternative_means p annotations placed names i xs es it = annotations_mean p names i xs es it
alternative_means p axioms placed names i xs es it = axioms_mean p names i xs es it
alternative_means p axiom_item placed names i xs es it = axiom_item_means p names i xs es it
alternative_means p iri_part placed names i xs es it = iri_means p names i xs es it
alternative_means p suffix placed names i xs es it = suffix_means p names i xs es it
alternative_means p after placed names i xs es it = after_means p names i xs es it
alternative_means p behind placed names i xs es it = behind_means p names i xs es it
alternative_means p (one s) placed names i xs es it = one_means p s names i xs es it
alternative_means p (many s) placed names i xs es it = many_means p s placed names i xs es it
alternative_means p (maybe s) placed names i xs es it = maybe_means p s names i xs es it

pub is_meaning : (p : List Prefix) → IsMeaning class_of functional (MeansAt p)
is_meaning p = record {
  row =
      λ n row among xs es it r h.
      let a = alternative_of n row among in
      let same : a.rule ≡ r = let stands = a.stands in cc in
      alternative_means p r (placed_at n r h) a.names (subst (λ q. IsIn a.names (alternatives q)) same a.among) xs es
      (subst (λ l. Means class_of (MeansAt p) l xs es) a.symbols_are it);
}

-- what derives from a rule means what the rule means
pub rule_means : (p : List Prefix) (r : Rule) → IsPlaced r → (xs : List Token) (es : Events) → DerivesOf class_of functional (symbol.Rule (rule_number r) ∷ []) xs es → RuleMeans p r xs es
rule_means p r placed xs es d =
    let it : InParts (MeansAt p (rule_number r)) _ xs es = means (is_meaning p) (yields d) in
    last_moved (RuleMeans p r) it.tokens_are it.events_are it.back (it.front r placed)

-- Soundness for trees: what derives from the rule of a sort, and can be done, is written for a tree of the sort.
pub tree_is_written : (p : List Prefix) (s : Sort) (tokens : List Token) (events : Events) → DerivesOf class_of functional (symbol.Rule (rule_number (one s)) ∷ []) tokens events → Parses p (FitsOne s) (Suits s) tokens events
tree_is_written p s tokens events d = rule_means p (one s) (one_is_placed s) tokens events d

-- Soundness: what derives from the rule of documents, and makes an ontology, is written for it.
pub document_is_written : (p : List Prefix) (tokens : List Token) (events : Events) (declarations : List PrefixDeclaration) (o : Ontology) → DerivesOf class_of functional (symbol.Rule (rule_number document) ∷ []) tokens events → Makes p events declarations o → IsWrittenDocument p tokens declarations o
document_is_written p tokens events declarations o d made =
    let it = rule_means p document refl tokens events d _ made in
    let ds : it.declarations ≡ declarations = ap (λ m. m.document.declarations) (sym it.made) in
    let same : it.ontology ≡ o = ap (λ m. m.document.ontology) (sym it.made) in
    subst₂ (IsWrittenDocument p tokens) ds same record { body = it.body; parts = it.parts; terms = it.terms; written = it.written }

-- ---- and back

-- behind the first bracket of the ontology
heads_change : (p : List Prefix) (o : Ontology) (xs : List Token) → IsWrittenOntology o → AreTerms p xs (name_terms o.head.name ++ body_terms o) → Changes p (λ a. part header ∷ part imports ∷ part annotations ∷ part axioms ∷ a) (λ d. all_added asserting o.axioms (all_added annotating o.annotations (all_added importing o.head.imports (naming_if o.head.name d)))) xs (Closing ∷ [])
heads_change p o xs written h =
    let axiom_terms = flat_map item_terms o.axioms ++ Closing ∷ [] in
    let annotation_terms = flat_map item_terms o.annotations ++ axiom_terms in
    let head = written.head in
    changes_both p (λ a. part header ∷ a) (λ a. part imports ∷ part annotations ∷ part axioms ∷ a) (naming_if o.head.name) (λ d. all_added asserting o.axioms (all_added annotating o.annotations (all_added importing o.head.imports d))) xs (body_terms o) (Closing ∷ []) (header_changes p o.head.name xs (body_terms o) head.name h)
    (λ ys i. changes_both p (λ a. part imports ∷ a) (λ a. part annotations ∷ part axioms ∷ a) (all_added importing o.head.imports) (λ d. all_added asserting o.axioms (all_added annotating o.annotations d)) ys annotation_terms (Closing ∷ []) (imports_change p o.head.imports ys annotation_terms head.imports i)
    (λ zs j. changes_both p (λ a. part annotations ∷ a) (λ a. part axioms ∷ a) (all_added annotating o.annotations) (all_added asserting o.axioms) zs axiom_terms (Closing ∷ []) (annotations_change p o.annotations zs axiom_terms written.annotations j)
    (λ us k. axioms_change p o.axioms us (Closing ∷ []) written.axioms k)))

ontology_goes : (p : List Prefix) (o : Ontology) (xs : List Token) (d : Document) → IsWrittenOntology o → AreTerms p xs (ontology_terms o) → Goes p (word Class.ontology ∷ action EndItem ∷ word opening ∷ part header ∷ part imports ∷ part annotations ∷ part axioms ∷ action EndItem ∷ word closing ∷ []) [] xs [] (between d) (between (all_added asserting o.axioms (all_added annotating o.annotations (all_added importing o.head.imports (naming_if o.head.name d)))))
ontology_goes p o xs d written h =
    let bracket = h.2 in
    let it = heads_change p o bracket.0 written bracket.2 in
    let close = it.later in
    let m = between d in
    let n = between (all_added asserting o.axioms (all_added annotating o.annotations (all_added importing o.head.imports (naming_if o.head.name d)))) in
    let items = part header ∷ part imports ∷ part annotations ∷ part axioms ∷ action EndItem ∷ word closing ∷ [] in
    goes_then
    (subst (λ l. Goes p (word Class.ontology ∷ action EndItem ∷ word opening ∷ items) (action EndItem ∷ word opening ∷ items) l h.0 m m) (sym h.1) (goes_token p Class.ontology (action EndItem ∷ word opening ∷ items) (token.Word (codes "Ontology")) h.0 m head_classes.1))
    (goes_then (goes_act p EndItem (word opening ∷ items) h.0 m m (λ next. refl))
    (goes_then (goes_open p items h.0 bracket.0 m bracket.1)
    (goes_then (it.goes (action EndItem ∷ word closing ∷ []) d)
    (goes_then (goes_act p EndItem (word closing ∷ []) it.rest n n (λ next. refl)) (goes_close p [] it.rest [] n (close.1 ∙ ap (λ l. token.Sign sign.Close ∷ l) close.2))))))

document_goes : (p : List Prefix) (tokens : List Token) (declarations : List PrefixDeclaration) (o : Ontology) → IsWrittenDocument p tokens declarations o → Goes p (part document ∷ []) [] tokens [] beginning (between (record { declarations = declarations; ontology = o }))
document_goes p tokens declarations o it =
    let d = all_added declaring declarations beginning.document in
    let symbols = word Class.ontology ∷ action EndItem ∷ word opening ∷ part header ∷ part imports ∷ part annotations ∷ part axioms ∷ action EndItem ∷ word closing ∷ [] in
    let goes = goes_then (prefixes_go p declarations symbols it.body beginning.document) (ontology_goes p o it.body d it.written it.terms) in
    subst₂ (λ xs (m : Document). Goes p (part document ∷ []) [] xs [] beginning (between m)) (sym it.parts) (all_of declarations o.head.name o.head.imports o.annotations o.axioms)
    (goes_rule p document (part prefixes ∷ symbols) [] (flat_map declaration_tokens declarations ++ it.body) [] beginning _ refl first goes)

-- Completeness: what is written for an ontology derives, and makes it.
pub document_derives : (p : List Prefix) (tokens : List Token) (declarations : List PrefixDeclaration) (o : Ontology) → IsWrittenDocument p tokens declarations o → DerivesDocument p tokens declarations o
document_derives p tokens declarations o written =
    let it = document_goes p tokens declarations o written in
    record { events = it.events ++ []; derives = it.derives [] [] nothing; makes = it.runs [] _ refl }

-- Tokens derive, and make an ontology, exactly where they are written for it.
pub documents_are_written : (p : List Prefix) (tokens : List Token) (declarations : List PrefixDeclaration) (o : Ontology) → DerivesDocument p tokens declarations o ↔ IsWrittenDocument p tokens declarations o
documents_are_written p tokens declarations o =
    (λ d. document_is_written p tokens d.events declarations o d.derives d.makes, document_derives p tokens declarations o)

-- Completeness for trees: what is written for a tree of a sort, where it may stand, derives and puts the tree.
pub tree_derives : (p : List Prefix) (s : Sort) (t : Tag) (tokens : List Token) (k : Tree) → IsWritten k → admits s (tag_of k) ≡ true → Suits s t → AreTerms p tokens (spelling t k []) → (f : Frame) (frames : List Frame) (d : Document) → DerivesTree p s tokens k f frames d
tree_derives p s t tokens k written admitted suit h f frames d =
    let it = one_leads p t k s tokens [] (tree_goes p k t written.shaped written.members) admitted suit h in
    let goes = subst (λ l. Goes p (part (one s) ∷ []) [] tokens l (within f frames d) (within (with_kid k f) frames d)) it.later (it.goes [] f frames d) in
    record { events = goes.events ++ []; derives = goes.derives [] [] nothing; puts = goes.runs [] _ refl }
