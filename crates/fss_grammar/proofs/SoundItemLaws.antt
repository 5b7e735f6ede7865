-- What each alternative of a rule for items of a document means.
use Rattle.std.proofs.Common.{◌≡◌, true, false, ◌&&◌, List, [], ◌∷◌, ◌++◌, codes, filter, flat_map, Option, Some, None, refl, sym, subst, subst₂, append_assoc, true≢false}
use Rattle.grammar.specs.Derivations.Event.{Do, Take}
use Rattle.grammar.specs.Pages.{IsIn}
use Rattle.grammar.specs.Pages.IsIn.{first, later}
use Rattle.grammar.specs.Pages.Named.{action, part}
use Rattle.grammar.proofs.YieldLaws.{Nothing}
use Rattle.owl_characters.specs.Iri.{IsIri}
use Rattle.owl_atom.specs.declared.prefixes.Prefix.{Prefix}
use Rattle.owl_tokens.specs.declared.token.Token.{Token}
use Rattle.owl_tokens.specs.declared.token.Token.TheVariants as token
use Rattle.owl_tokens.specs.declared.token.Sign.TheVariants as sign
use Rattle.owl_tree.specs.declared.row.Rest.{Rest}
use Rattle.owl_tree.specs.declared.row.Sort.{Sort}
use Rattle.owl_tree.specs.declared.tag.Tag.{Tag}
use Rattle.owl_tree.specs.declared.tag.Tag.TheVariants as tag
use Rattle.owl_tree.specs.Rows.{Row, Leaf, Node, row_of}
use Rattle.owl_tree.specs.Tags.{all_tags, is_axiom, number_of}
use Rattle.owl_tree.specs.Trees.{Tree, kids_of, node, tag_of}
use Rattle.fss_terms.specs.Functional.{IsWrittenAnnotation, IsWrittenAxiom, PrefixDeclaration, declaration_tokens, import_terms, item_terms}
use Rattle.fss_terms.specs.Spelling.{IsWritten, closed}
use Rattle.fss_terms.specs.Terms.{AreTerms, iri_of_token}
use Rattle.fss_terms.specs.declared.term.Term.{Term}
use Rattle.fss_grammar.proofs.ActLaws.{done}
use Rattle.fss_grammar.specs.Classes.{Class}
use Rattle.fss_grammar.specs.Classes.Class.{closing, equals, opening}
use Rattle.fss_grammar.proofs.ClassLaws.{is_of}
use Rattle.fss_grammar.specs.Making.{Document, Maker, Performs, Runs}
use Rattle.fss_grammar.specs.Making.Kept.{item}
use Rattle.fss_grammar.specs.Meaning.{Events, IsOneToken, NamesMean, ReadsMany, ReadsOne, ReadsVersion, RuleMeans, annotating, asserting, between, declaring, importing, naming}
use Rattle.fss_grammar.specs.Page.{Names, alternatives, closing_symbols, is_leaf, item_symbols, node_symbols}
use Rattle.fss_grammar.specs.Page.Rule.{annotations, axiom_item, axioms, header, imports, iri_part, prefixes, version}
use Rattle.fss_grammar.proofs.PageRows.{from_filter, from_map}
use Rattle.fss_grammar.proofs.SoundLaws.{closing_means, cons_then, moved, one_first}
use Rattle.fss_grammar.proofs.SoundRuleLaws.{last_moved}
use Rattle.fss_grammar.proofs.SoundTreeLaws.{node_means}
use Rattle.fss_grammar.proofs.SpellingLaws.{spelling-append}
use Rattle.fss_grammar.proofs.TermLaws.{import_spelled}
use Rattle.fss_grammar.specs.declared.acts.Act.{Act}
use Rattle.fss_grammar.specs.declared.acts.Act.TheVariants.{AddAnnotation, AddAxiom, DeclareIri, DeclareName, EndItem, ImportIri, OntologyIri, VersionIri}

-- ---- items one after another

none_read : (p : List Prefix) {A : Type 0} (Good : A → Type 0) (terms : A → List Term) (add : A → Document → Document) {xs : List Token} {es : Events} → Nothing xs es → ReadsMany p Good terms add xs es
none_read p Good terms add {xs = xs} {es = es} none = λ fs d n r. record {
  value = [];
  good = tt;
  spelled = λ us more h. subst (λ l. AreTerms p (l ++ us) more) (sym none.tokens_are) h;
  runs = subst (λ (l : Events). Runs p (l ++ fs) (between d) n) none.events_are r;
}

more_read : (p : List Prefix) {A : Type 0} (Good : A → Type 0) (terms : A → List Term) (add : A → Document → Document) (xs ys : List Token) (es gs : Events) → ReadsOne p Good terms add xs es → ReadsMany p Good terms add ys gs → ReadsMany p Good terms add (xs ++ ys) (es ++ gs)
more_read p Good terms add xs ys es gs front back = λ fs d n r.
    let a = front (gs ++ fs) d n (subst (λ l. Runs p l (between d) n) (append_assoc es gs fs) r) in
    let b = back fs (add a.value d) n a.runs in
    record {
      value = a.value ∷ b.value;
      good = (a.good, b.good);
      spelled = λ us more h.
          subst₂ (AreTerms p) (sym (append_assoc xs ys us)) (sym (append_assoc (terms a.value) (flat_map terms b.value) more))
          (a.spelled (ys ++ us) (flat_map terms b.value ++ more) (b.spelled us more h));
      runs = b.runs;
    }

-- ---- annotations and axioms

-- An item was read and added, and then comes what is left.
pub record ItemRead (p : List Prefix) (t : Tag) (add : Tree → Document → Document) (Later : List Token → Events → Type 0) (xs : List Token) (d : Document) (fs : Events) (n : Maker) : Type 0 where
  pub tree : Tree
  pub tag_is : tag_of tree ≡ t
  pub written : IsWritten tree
  pub rest : List Token
  pub events : Events
  pub later : Later rest events
  pub spelled : (us : List Token) (more : List Term) → AreTerms p (rest ++ us) more → AreTerms p (xs ++ us) (item_terms tree ++ more)
  pub runs : Runs p (events ++ fs) (between (add tree d)) n

abbrev pub ItemReads : List Prefix → Tag → (Tree → Document → Document) → (List Token → Events → Type 0) → List Token → Events → Type 0
ItemReads p t add Later xs es = (fs : Events) (d : Document) (n : Maker) → Runs p (es ++ fs) (between d) n → ItemRead p t add Later xs d fs n

-- the act adds the tree that was kept
abbrev pub AddsBy : List Prefix → Act → (Tree → Document → Document) → Type 0
AddsBy p act add =
    (next : Option Token) (t : Tree) (d : Document) (n : Maker) → Performs p act next (record { kept = item t; frames = []; document = d }) n → n ≡ between (add t d)

item_read : (p : List Prefix) (t : Tag) (front : List Sort) (rest : Rest) (act : Act) (add : Tree → Document → Document) (names : Names) → row_of t ≡ Node front rest → AddsBy p act add → (xs : List Token) (es : Events) → NamesMean p (node_symbols t front rest (action act ∷ action EndItem ∷ closing_symbols t names)) xs es → ItemReads p t add (NamesMean p names) xs es
item_read p t front rest act add names e adds xs es it = λ fs d n r.
    let a = node_means p t front rest (action act ∷ action EndItem ∷ closing_symbols t names) e xs es it fs [] d n r in
    let tree = node t (kids_of a.kids) in
    let kept : Maker = record { kept = item tree; frames = []; document = d } in
    let added = a.later in
    let one = done act (subst (λ (l : Events). Runs p (l ++ fs) kept n) added.events_are a.runs) in
    let ended = added.more in
    let two = done EndItem (subst₂ (λ (l : Events) m. Runs p (l ++ fs) m n) ended.events_are (adds _ tree d one.0 one.1) one.2) in
    let b = closing_means p t names ended.more in
    record {
      tree = tree;
      tag_is = refl;
      written = record { shaped = a.shaped; members = a.members };
      rest = b.rest;
      events = b.events;
      later = b.later;
      spelled = λ us more h.
          subst (AreTerms p (xs ++ us)) (spelling-append tree t [] more)
          (a.spelled us (closed t more) (b.spelled us more h));
      runs = b.runs fs (between (add tree d)) n (subst (λ m. Runs p (ended.more_events ++ fs) m n) {x = two.0} two.1 two.2);
    }

item_means : (p : List Prefix) (t : Tag) (row : Row) (act : Act) (add : Tree → Document → Document) (names : Names) → row_of t ≡ row → is_leaf row ≡ false → AddsBy p act add → (xs : List Token) (es : Events) → NamesMean p (item_symbols act t row names) xs es → ItemReads p t add (NamesMean p names) xs es
item_means p t (Leaf c) act add names e h adds xs es it = absurd (true≢false h)
item_means p t (Node front rest) act add names e h adds xs es it = item_read p t front rest act add names e adds xs es it

pub annotation_is_no_leaf : is_leaf (row_of tag.Annotation) ≡ false
unfolding row_of
annotation_is_no_leaf = refl

axioms_are_no_leaf : (t : Tag) → (is_axiom t && is_leaf (row_of t)) ≡ false
unfolding row_of number_of
axioms_are_no_leaf tag.Class = refl
axioms_are_no_leaf _ = refl

pub axiom_is_no_leaf : (t : Tag) → is_axiom t ≡ true → is_leaf (row_of t) ≡ false
axiom_is_no_leaf t e = let no = axioms_are_no_leaf t in subst (λ b. (b && is_leaf (row_of t)) ≡ false) e no

pub axiom_item_means : (p : List Prefix) (names : Names) → IsIn names (alternatives axiom_item) → (xs : List Token) (es : Events) → NamesMean p names xs es → RuleMeans p axiom_item xs es
axiom_item_means p names i xs es it = λ fs d n r.
    let t = from_map (λ t. item_symbols AddAxiom t (row_of t) []) (filter is_axiom all_tags) i in
    let is = from_filter is_axiom all_tags t.is_in in
    let a = item_means p t.item (row_of t.item) AddAxiom asserting [] refl (axiom_is_no_leaf t.item is) (λ next t d n h. h) xs es (subst (λ l. NamesMean p l xs es) t.is it) fs d n r in
    record {
      value = a.tree;
      good = record { tag = subst (λ u. is_axiom u ≡ true) (sym a.tag_is) is; written = a.written };
      spelled = λ us more h. a.spelled us more (subst (λ l. AreTerms p (l ++ us) more) (sym a.later.tokens_are) h);
      runs = subst (λ (l : Events). Runs p (l ++ fs) (between (asserting a.tree d)) n) a.later.events_are a.runs;
    }

pub axioms_mean : (p : List Prefix) (names : Names) → IsIn names (alternatives axioms) → (xs : List Token) (es : Events) → NamesMean p names xs es → RuleMeans p axioms xs es
axioms_mean p names first xs es it = none_read p IsWrittenAxiom item_terms asserting it
axioms_mean p names (later first) xs es it =
    let back = it.back in
    moved (RuleMeans p axioms) it.tokens_are it.events_are
    (more_read p IsWrittenAxiom item_terms asserting it.front_tokens it.back_tokens it.front_events it.back_events (it.front axiom_item refl) (last_moved (RuleMeans p axioms) back.tokens_are back.events_are back.back (back.front axioms refl)))
axioms_mean p names (later (later i)) xs es it = elim i [ ]

annotation_then : (p : List Prefix) (xs : List Token) (es : Events) → ItemReads p tag.Annotation annotating (NamesMean p (part annotations ∷ [])) xs es → RuleMeans p annotations xs es
annotation_then p xs es reads = λ fs d n r.
    let a = reads fs d n r in
    let back = a.later in
    let b = last_moved (RuleMeans p annotations) back.tokens_are back.events_are back.back (back.front annotations refl) fs (annotating a.tree d) n a.runs in
    record {
      value = a.tree ∷ b.value;
      good = (record { tag = a.tag_is; written = a.written }, b.good);
      spelled = λ us more h.
          subst (AreTerms p (xs ++ us)) (sym (append_assoc (item_terms a.tree) (flat_map item_terms b.value) more))
          (a.spelled us (flat_map item_terms b.value ++ more) (b.spelled us more h));
      runs = b.runs;
    }

pub annotations_mean : (p : List Prefix) (names : Names) → IsIn names (alternatives annotations) → (xs : List Token) (es : Events) → NamesMean p names xs es → RuleMeans p annotations xs es
annotations_mean p names first xs es it = none_read p IsWrittenAnnotation item_terms annotating it
annotations_mean p names (later first) xs es it =
    annotation_then p xs es
    (item_means p tag.Annotation (row_of tag.Annotation) AddAnnotation annotating (part annotations ∷ []) refl annotation_is_no_leaf (λ next t d n h. h) xs es it)
annotations_mean p names (later (later i)) xs es it = elim i [ ]

-- ---- imports

import_read : (p : List Prefix) (x y z c : Token) (xs : List Token) (es : Events) → x ≡ token.Word (codes "Import") → y ≡ token.Sign sign.Open → c ≡ token.Sign sign.Close → RuleMeans p imports xs es → RuleMeans p imports (x ∷ y ∷ z ∷ c ∷ xs) (Take x ∷ Take y ∷ Do 89 ∷ Take z ∷ Do 92 ∷ Take c ∷ es)
import_read p x y z c xs es import_is open_is close_is reads = λ fs d n r.
    let act = done ImportIri r in
    let i = act.1.0 in
    let comes = act.1.1 in
    let same : comes.name ≡ z = let h = comes.comes in cc in
    let end = done EndItem (subst (λ m. Runs p (Do 92 ∷ Take c ∷ (es ++ fs)) m n) act.1.3 act.2) in
    let it = reads fs (importing i d) n (subst (λ m. Runs p (es ++ fs) m n) end.1 end.2) in
    record {
      value = i ∷ it.value;
      good = (act.1.2, it.good);
      spelled = λ us more h.
          import_spelled p i x y z c (xs ++ us) it.value more import_is open_is (subst (λ t. iri_of_token p t ≡ Some i) same comes.stands) close_is (it.spelled us more h);
      runs = it.runs;
    }

pub imports_mean : (p : List Prefix) (names : Names) → IsIn names (alternatives imports) → (xs : List Token) (es : Events) → NamesMean p names xs es → RuleMeans p imports xs es
imports_mean p names first xs es it = none_read p IsIri import_terms importing it
imports_mean p names (later first) xs es it =
    let second = it.more in
    let act = second.more in
    let name = act.more in
    let z = name.front iri_part refl in
    let end = name.back in
    let close = end.more in
    let rest = close.more in
    let reads = last_moved (RuleMeans p imports) rest.tokens_are rest.events_are rest.back (rest.front imports refl) in
    moved (RuleMeans p imports)
    (cons_then it.tokens_are (cons_then second.tokens_are (cons_then (one_first name.tokens_are z.tokens_are) close.tokens_are)))
    (cons_then it.events_are (cons_then second.events_are (cons_then act.events_are (cons_then (one_first name.events_are z.events_are) (cons_then end.events_are close.events_are)))))
    (import_read p it.token second.token z.name close.token close.more_tokens close.more_events (is_of Class.imports it.token it.class) (is_of opening second.token second.class) (is_of closing close.token close.class) reads)
imports_mean p names (later (later i)) xs es it = elim i [ ]

-- ---- the name of the ontology

version_read : (p : List Prefix) (x : Token) → ReadsVersion p (x ∷ []) (Do 88 ∷ Do 92 ∷ Take x ∷ [])
version_read p x = λ i fs d n r.
    let act = done VersionIri r in
    let v = act.1.0 in
    let comes = act.1.1 in
    let same : comes.name ≡ x = let h = comes.comes in cc in
    let end = done EndItem (subst (λ m. Runs p (Do 92 ∷ Take x ∷ fs) m n) act.1.3 act.2) in
    record {
      value = Some v;
      good = act.1.2;
      spelled = λ us more h. (us, (x, refl, subst (λ t. iri_of_token p t ≡ Some v) same comes.stands), h);
      runs = subst (λ m. Runs p fs m n) end.1 end.2;
    }

pub version_means : (p : List Prefix) (names : Names) → IsIn names (alternatives version) → (xs : List Token) (es : Events) → NamesMean p names xs es → RuleMeans p version xs es
version_means p names first xs es it = λ i fs d n r. record {
  value = None;
  good = tt;
  spelled = λ us more h. subst (λ l. AreTerms p (l ++ us) more) (sym it.tokens_are) h;
  runs = subst (λ (l : Events). Runs p (l ++ fs) (between (naming (record { iri = i; version = None }) d)) n) it.events_are r;
}
version_means p names (later first) xs es it =
    let end = it.more in
    let name = end.more in
    let x = last_moved IsOneToken name.tokens_are name.events_are name.back (name.front iri_part refl) in
    moved (ReadsVersion p) x.tokens_are (cons_then it.events_are (cons_then end.events_are x.events_are)) (version_read p x.name)
version_means p names (later (later i)) xs es it = elim i [ ]

header_read : (p : List Prefix) (x : Token) (xs : List Token) (es : Events) → ReadsVersion p xs es → RuleMeans p header (x ∷ xs) (Do 87 ∷ Do 92 ∷ Take x ∷ es)
header_read p x xs es reads = λ fs d n r.
    let act = done OntologyIri r in
    let i = act.1.0 in
    let comes = act.1.1 in
    let same : comes.name ≡ x = let h = comes.comes in cc in
    let end = done EndItem (subst (λ m. Runs p (Do 92 ∷ Take x ∷ (es ++ fs)) m n) act.1.3 act.2) in
    let it = reads i fs d n (subst (λ m. Runs p (es ++ fs) m n) end.1 end.2) in
    record {
      value = Some (record { iri = i; version = it.value });
      good = record { iri = act.1.2; version = it.good };
      spelled = λ us more h. (xs ++ us, (x, refl, subst (λ t. iri_of_token p t ≡ Some i) same comes.stands), it.spelled us more h);
      runs = it.runs;
    }

pub header_means : (p : List Prefix) (names : Names) → IsIn names (alternatives header) → (xs : List Token) (es : Events) → NamesMean p names xs es → RuleMeans p header xs es
header_means p names first xs es it = λ fs d n r. record {
  value = None;
  good = tt;
  spelled = λ us more h. subst (λ l. AreTerms p (l ++ us) more) (sym it.tokens_are) h;
  runs = subst (λ (l : Events). Runs p (l ++ fs) (between d) n) it.events_are r;
}
header_means p names (later first) xs es it =
    let end = it.more in
    let name = end.more in
    let x = name.front iri_part refl in
    let rest = name.back in
    moved (RuleMeans p header) (one_first name.tokens_are x.tokens_are) (cons_then it.events_are (cons_then end.events_are (one_first name.events_are x.events_are)))
    (header_read p x.name name.back_tokens name.back_events (last_moved (ReadsVersion p) rest.tokens_are rest.events_are rest.back (rest.front version refl)))
header_means p names (later (later i)) xs es it = elim i [ ]

-- ---- declarations of prefixes

declared_first : (declaration : PrefixDeclaration) (a b c d e f : Token) (xs : List Token) (ds : List PrefixDeclaration) → a ≡ token.Word (codes "Prefix") → b ≡ token.Sign sign.Open → c ≡ token.Name declaration.name [] → d ≡ token.Sign sign.Equals → e ≡ token.Iri declaration.iri → f ≡ token.Sign sign.Close → xs ≡ flat_map declaration_tokens ds → a ∷ b ∷ c ∷ d ∷ e ∷ f ∷ xs ≡ flat_map declaration_tokens (declaration ∷ ds)
declared_first declaration a b c d e f xs ds g h i j k l are = λ t. g t ∷ h t ∷ i t ∷ j t ∷ k t ∷ l t ∷ are t

declaration_read : (p : List Prefix) (a b c d e f : Token) (xs : List Token) (es : Events) → a ≡ token.Word (codes "Prefix") → b ≡ token.Sign sign.Open → d ≡ token.Sign sign.Equals → f ≡ token.Sign sign.Close → RuleMeans p prefixes xs es → RuleMeans p prefixes (a ∷ b ∷ c ∷ d ∷ e ∷ f ∷ xs) (Take a ∷ Take b ∷ Do 85 ∷ Take c ∷ Take d ∷ Do 86 ∷ Take e ∷ Do 92 ∷ Take f ∷ es)
declaration_read p a b c d e f xs es h i j k reads = λ fs doc n r.
    let name = done DeclareName r in
    let iri = done DeclareIri (subst (λ m. Runs p (Do 86 ∷ Take e ∷ Do 92 ∷ Take f ∷ (es ++ fs)) m n) name.1.2 name.2) in
    let end = done EndItem (subst (λ m. Runs p (Do 92 ∷ Take f ∷ (es ++ fs)) m n) iri.1.2 iri.2) in
    let declaration : PrefixDeclaration = record { name = name.1.0; iri = iri.1.0 } in
    let it = reads fs (declaring declaration doc) n (subst (λ m. Runs p (es ++ fs) m n) end.1 end.2) in
    let third : c ≡ token.Name name.1.0 [] = let q = name.1.1 in cc in
    let fifth : e ≡ token.Iri iri.1.0 = let q = iri.1.1 in cc in
    record {
      declarations = declaration ∷ it.declarations;
      are = declared_first declaration a b c d e f xs it.declarations h i third j fifth k it.are;
      runs = it.runs;
    }

pub prefixes_mean : (p : List Prefix) (names : Names) → IsIn names (alternatives prefixes) → (xs : List Token) (es : Events) → NamesMean p names xs es → RuleMeans p prefixes xs es
prefixes_mean p names first xs es it = λ fs d n r. record {
  declarations = [];
  are = it.tokens_are;
  runs = subst (λ (l : Events). Runs p (l ++ fs) (between d) n) it.events_are r;
}
prefixes_mean p names (later first) xs es it =
    let second = it.more in
    let named = second.more in
    let third = named.more in
    let fourth = third.more in
    let declared = fourth.more in
    let fifth = declared.more in
    let end = fifth.more in
    let sixth = end.more in
    let rest = sixth.more in
    let reads = last_moved (RuleMeans p prefixes) rest.tokens_are rest.events_are rest.back (rest.front prefixes refl) in
    moved (RuleMeans p prefixes)
    (cons_then it.tokens_are (cons_then second.tokens_are (cons_then third.tokens_are (cons_then fourth.tokens_are (cons_then fifth.tokens_are sixth.tokens_are)))))
    (cons_then it.events_are (cons_then second.events_are (cons_then named.events_are (cons_then third.events_are (cons_then fourth.events_are (cons_then declared.events_are (cons_then fifth.events_are (cons_then end.events_are sixth.events_are))))))))
    (declaration_read p it.token second.token third.token fourth.token fifth.token sixth.token sixth.more_tokens sixth.more_events (is_of Class.prefix it.token it.class) (is_of opening second.token second.class) (is_of equals fourth.token fourth.class) (is_of closing sixth.token sixth.class) reads)
prefixes_mean p names (later (later i)) xs es it = elim i [ ]
