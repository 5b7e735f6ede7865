-- What derives from the symbols of a leaf, and can be done, is written for a leaf.
use Rattle.std.proofs.Common.{◌≡◌, Bool, true, false, ◌&&◌, List, [], ◌∷◌, ◌++◌, Option, Some, IsTrue, refl, sym, ap, subst, subst₂, append_assoc, true≢false}
use Rattle.std.specs.Prelude.{if◌then◌else◌}
use Rattle.grammar.specs.Derivations.Event.{Do, Take}
use Rattle.grammar.specs.Pages.Named.{action, token as word}
use Rattle.owl_atom.specs.declared.prefixes.Prefix.{Prefix}
use Rattle.owl_tokens.specs.declared.token.Token.{Token}
use Rattle.owl_tokens.specs.declared.token.Token.TheVariants as token
use Rattle.owl_tree.specs.declared.atom.Atom.{Atom}
use Rattle.owl_tree.specs.declared.atom.Atom.TheVariants.{Iri, Label, Literal, Number}
use Rattle.owl_tree.specs.declared.row.AtomSort.{AtomSort}
use Rattle.owl_tree.specs.declared.row.AtomSort.TheVariants as atom
use Rattle.owl_tree.specs.declared.row.Sort.{Sort}
use Rattle.owl_tree.specs.declared.row.Sort.TheVariants as sort
use Rattle.owl_tree.specs.declared.tag.Tag.{Tag}
use Rattle.owl_tree.specs.declared.tag.Tag.TheVariants as tag
use Rattle.owl_tree.specs.Atoms.{IsAtom}
use Rattle.owl_tree.specs.Rows.{Leaf, admits, is_of_sort, is_tag, row_of, takes}
use Rattle.owl_tree.specs.Tags.{keyword_of, number_of}
use Rattle.owl_tree.specs.Trees.{leaf}
use Rattle.fss_terms.specs.Spelling.{leaf_spelling}
use Rattle.fss_terms.specs.Terms.{AreTerms, BeginsAtom, BeginsLiteral}
use Rattle.fss_terms.specs.Terms.BeginsLiteral.{plain, tagged, typed}
use Rattle.fss_terms.specs.declared.term.Term.{Term}
use Rattle.fss_terms.specs.declared.term.Term.TheVariants.{Keyword, Opening, Closing, Atom as held}
use Rattle.fss_grammar.proofs.ActLaws.{begun, done}
use Rattle.fss_grammar.specs.Classes.Class.{closing, opening}
use Rattle.fss_grammar.specs.Making.{BeginsLeaf, ComesAtom, Document, Maker, Runs, put}
use Rattle.owl_tree.specs.Frames.{Frame}
use Rattle.fss_grammar.specs.Meaning.{Events, FitsOne, NamesMean, Parsed, Parses, ParsesLiteral, Suits, agree, within, with_kids}
use Rattle.fss_grammar.specs.Page.{Names, atom_symbols, is_entity, is_leaf, leaf_symbols}
use Rattle.fss_grammar.specs.Page.Rule.{iri_part, suffix}
use Rattle.fss_grammar.proofs.SoundLaws.{cons_then, moved, one_first, passed_both, passed_close, passed_keyword, passed_open}
use Rattle.fss_grammar.specs.declared.acts.Act.TheVariants.{Begin}

-- ---- atoms

-- An atom was read and made a leaf, and then comes what is left.
pub record AtomRead (p : List Prefix) (t : Tag) (c : AtomSort) (Later : List Token → Events → Type 0) (xs : List Token) (f : Frame) (frames : List Frame) (d : Document) (fs : Events) (n : Maker) : Type 0 where
  pub atom : Atom
  pub sort_is : IsTrue (is_of_sort c atom)
  pub is_atom : IsAtom atom
  pub rest : List Token
  pub events : Events
  pub later : Later rest events
  pub begins : (us : List Token) → BeginsAtom p (xs ++ us) atom (rest ++ us)
  pub runs : Runs p (events ++ fs) (within (with_kids (leaf t atom ∷ []) f) frames d) n

abbrev pub AtomReads : List Prefix → Tag → AtomSort → (List Token → Events → Type 0) → List Token → Events → Type 0
AtomReads p t c Later xs es =
    (fs : Events) (f : Frame) (frames : List Frame) (d : Document) (n : Maker) → Runs p (es ++ fs) (within f frames d) n → AtomRead p t c Later xs f frames d fs n

-- an atom of one token may stand in front of anything
longer_literal : (p : List Prefix) (x : Token) (rest : List Token) {xs : List Token} {literal : _} → xs ≡ x ∷ [] → BeginsLiteral p xs literal [] → BeginsLiteral p (x ∷ rest) literal rest
longer_literal p x rest e (plain form are denotes) = plain form (let same : x ≡ token.Str form = cc in ap (λ y. y ∷ rest) same) denotes
longer_literal p x rest e (tagged form tag are denotes) = absurd (cc)
longer_literal p x rest e (typed form datatype name are stands denotes) = absurd (cc)

pub longer_atom : (p : List Prefix) (x : Token) (a : Atom) → BeginsAtom p (x ∷ []) a [] → (rest : List Token) → BeginsAtom p (x ∷ rest) a rest
longer_atom p x (Iri i) h rest = (h.0, (let same : x ≡ h.0 = cc in ap (λ y. y ∷ rest) same), h.2)
longer_atom p x (Label l) h rest = let same : x ≡ token.Blank l = cc in ap (λ y. y ∷ rest) same
longer_atom p x (Literal literal) h rest = longer_literal p x rest refl h
longer_atom p x (Number k) h rest = (h.0, (let same : x ≡ token.Int h.0 = cc in ap (λ y. y ∷ rest) same), h.2)

-- the leaf of one token
leaf_read : (p : List Prefix) (t : Tag) (c : AtomSort) (Later : List Token → Events → Type 0) → row_of t ≡ Leaf c → ((next : Option Token) (m n : Maker) → BeginsLeaf p t c next m n → (a : Atom) × ComesAtom p next c a × (n ≡ put (leaf t a) m)) → (x : Token) (ys : List Token) (gs : Events) → Later ys gs → AtomReads p t c Later (x ∷ ys) (Do (number_of t) ∷ Take x ∷ gs)
leaf_read p t c Later e single x ys gs later = λ fs f frames d n r.
    let it = done (Begin t) r in
    let made = single (Some x) (within f frames d) it.0 (begun p t (Some x) (within f frames d) it.0 e it.1) in
    let comes = made.1 in
    let same : comes.written ≡ x = let c = comes.comes in cc in
    record {
      atom = made.0;
      sort_is = comes.sort_is;
      is_atom = comes.is_atom;
      rest = ys;
      events = gs;
      later = later;
      begins = λ us. longer_atom p x made.0 (subst (λ y. BeginsAtom p (y ∷ []) made.0 []) same comes.stands) (ys ++ us);
      runs = subst (λ m. Runs p (gs ++ fs) m n) made.2 it.2;
    }

-- the leaf of a literal
literal_read : (p : List Prefix) (t : Tag) (Later : List Token → Events → Type 0) → row_of t ≡ Leaf atom.Literal → (x : Token) (xs ys : List Token) (es gs : Events) → ParsesLiteral p xs es → Later ys gs → AtomReads p t atom.Literal Later (x ∷ (xs ++ ys)) (Do (number_of t) ∷ Take x ∷ (es ++ gs))
literal_read p t Later e x xs ys es gs reads later = λ fs f frames d n r.
    let it = done (Begin t) r in
    let kept = begun p t (Some x) (within f frames d) it.0 e it.1 in
    let same : x ≡ token.Str kept.0 = let c = kept.1 in cc in
    let run = subst₂ (λ l m. Runs p l m n) (append_assoc es gs fs) kept.2 it.2 in
    let found = reads t kept.0 (gs ++ fs) f frames d n run in
    record {
      atom = Literal found.literal;
      sort_is = refl;
      is_atom = found.is_literal;
      rest = ys;
      events = gs;
      later = later;
      begins = λ us. subst₂ (λ y l. BeginsLiteral p (y ∷ l) found.literal (ys ++ us)) (sym same) (sym (append_assoc xs ys us)) (found.begins (ys ++ us));
      runs = found.runs;
    }

pub atom_means : (p : List Prefix) (t : Tag) (c : AtomSort) (names : Names) → row_of t ≡ Leaf c → {xs : List Token} {es : Events} → NamesMean p (action (Begin t) ∷ atom_symbols c names) xs es → AtomReads p t c (NamesMean p names) xs es
atom_means p t atom.Iri names e it =
    let more = it.more in
    let one = more.front iri_part refl in
    moved (AtomReads p t atom.Iri (NamesMean p names)) (one_first more.tokens_are one.tokens_are) (cons_then it.events_are (one_first more.events_are one.events_are))
    (leaf_read p t atom.Iri (NamesMean p names) e (λ next m n h. h) one.name more.back_tokens more.back_events more.back)
atom_means p t atom.Label names e it =
    let more = it.more in
    moved (AtomReads p t atom.Label (NamesMean p names)) more.tokens_are (cons_then it.events_are more.events_are)
    (leaf_read p t atom.Label (NamesMean p names) e (λ next m n h. h) more.token more.more_tokens more.more_events more.more)
atom_means p t atom.Number names e it =
    let more = it.more in
    moved (AtomReads p t atom.Number (NamesMean p names)) more.tokens_are (cons_then it.events_are more.events_are)
    (leaf_read p t atom.Number (NamesMean p names) e (λ next m n h. h) more.token more.more_tokens more.more_events more.more)
atom_means p t atom.Literal names e it =
    let string = it.more in
    let more = string.more in
    moved (AtomReads p t atom.Literal (NamesMean p names)) (cons_then string.tokens_are more.tokens_are) (cons_then it.events_are (cons_then string.events_are more.events_are))
    (literal_read p t (NamesMean p names) e string.token more.front_tokens more.back_tokens more.front_events more.back_events (more.front suffix refl) more.back)

-- ---- leaves

-- where a leaf of a sort may stand, its keyword stands as the sort tells
pub agreed : (a b : Bool) → agree a b ≡ true → b ≡ a
agreed true b e = e
agreed false false e = refl
agreed false true e = absurd (true≢false (sym e))

notes_are_no_leaf : (t : Tag) → (admits sort.Notes t && is_leaf (row_of t)) ≡ false
unfolding admits row_of number_of
notes_are_no_leaf tag.Class = refl
notes_are_no_leaf _ = refl

no_notes : (t : Tag) (c : AtomSort) → admits sort.Notes t ≡ true → row_of t ≡ Leaf c → ⊥
no_notes t c a e = let no = notes_are_no_leaf t in let leafs = ap is_leaf e in true≢false (cc)

pub leaf_suits : (s : Sort) (t : Tag) (c : AtomSort) → admits s t ≡ true → row_of t ≡ Leaf c → (u : Tag) → Suits s u → is_tag tag.Declaration u ≡ is_entity s
leaf_suits sort.Notes t c a e u h = absurd (no_notes t c a e)
leaf_suits s t c a e u h = agreed (is_entity s) (is_tag tag.Declaration u) h

pub spelled_leaf : (p : List Prefix) (t u : Tag) (a : Atom) (declared : Bool) (xs : List Token) (more : List Term) → is_tag tag.Declaration u ≡ declared → AreTerms p xs (if declared then Keyword (keyword_of t) ∷ Opening ∷ held a ∷ Closing ∷ more else held a ∷ more) → AreTerms p xs (leaf_spelling u t (held a) more)
spelled_leaf p t u a declared xs more e h =
    subst (λ b. AreTerms p xs (if b then Keyword (keyword_of t) ∷ Opening ∷ held a ∷ Closing ∷ more else held a ∷ more)) (sym e) h

takes_own : (t : Tag) (c : AtomSort) (a : Atom) → row_of t ≡ Leaf c → is_of_sort c a ≡ true → takes (row_of t) a ≡ true
takes_own t c a e h = subst (λ row. takes row a ≡ true) (sym e) h

-- a leaf that stands as the sort tells
parsed_leaf : (p : List Prefix) (s : Sort) (t : Tag) (c : AtomSort) (declared : Bool) → admits s t ≡ true → row_of t ≡ Leaf c → ((u : Tag) → Suits s u → is_tag tag.Declaration u ≡ declared) → (xs : List Token) (f : Frame) (frames : List Frame) (d : Document) (fs : Events) (n : Maker) (a : Atom) → is_of_sort c a ≡ true → IsAtom a → ((us : List Token) (more : List Term) → AreTerms p us more → AreTerms p (xs ++ us) (if declared then Keyword (keyword_of t) ∷ Opening ∷ held a ∷ Closing ∷ more else held a ∷ more)) → Runs p fs (within (with_kids (leaf t a ∷ []) f) frames d) n → Parsed p (FitsOne s) (Suits s) xs f frames d fs n
parsed_leaf p s t c declared admitted e suit xs f frames d fs n a sort_is is_atom spelled r = record {
  trees = leaf t a ∷ [];
  fit = admitted;
  shaped = ((takes_own t c a e sort_is, is_atom), tt);
  members = (tt, tt);
  spelled = λ u h us more k. spelled_leaf p t u a declared (xs ++ us) more (suit u h) (spelled us more k);
  runs = r;
}

leaf_parses : (p : List Prefix) (s : Sort) (t : Tag) (c : AtomSort) (declared : Bool) → admits s t ≡ true → row_of t ≡ Leaf c → ((u : Tag) → Suits s u → is_tag tag.Declaration u ≡ declared) → (xs : List Token) (es : Events) → NamesMean p (leaf_symbols declared t c []) xs es → Parses p (FitsOne s) (Suits s) xs es
leaf_parses p s t c false admitted e suit xs es it = λ fs f frames d n r.
    let a = atom_means p t c [] e it fs f frames d n r in
    let begins = λ (us : List Token). subst (λ l. BeginsAtom p (xs ++ us) a.atom (l ++ us)) a.later.tokens_are (a.begins us) in
    parsed_leaf p s t c false admitted e suit xs f frames d fs n a.atom a.sort_is a.is_atom
    (λ us more h. (us, begins us, h))
    (subst (λ (l : Events). Runs p (l ++ fs) (within (with_kids (leaf t a.atom ∷ []) f) frames d) n) a.later.events_are a.runs)
leaf_parses p s t c true admitted e suit xs es it = λ fs f frames d n r.
    let atoms = action (Begin t) ∷ atom_symbols c (word closing ∷ []) in
    let opened = passed_both (passed_keyword p t (word opening ∷ atoms) it) (λ ys gs later. passed_open p atoms later) in
    let a = atom_means p t c (word closing ∷ []) e opened.later fs f frames d n (opened.runs fs (within f frames d) n r) in
    let shut = passed_close p [] a.later in
    let left = λ (us : List Token) (more : List Term) (h : AreTerms p us more). subst (λ l. AreTerms p (l ++ us) more) (sym shut.later.tokens_are) h in
    parsed_leaf p s t c true admitted e suit xs f frames d fs n a.atom a.sort_is a.is_atom
    (λ us more h. opened.spelled us (held a.atom ∷ Closing ∷ more) (a.rest ++ us, a.begins us, shut.spelled us more (left us more h)))
    (subst (λ (l : Events). Runs p (l ++ fs) (within (with_kids (leaf t a.atom ∷ []) f) frames d) n) shut.later.events_are (shut.runs fs (within (with_kids (leaf t a.atom ∷ []) f) frames d) n a.runs))

pub leaf_means : (p : List Prefix) (s : Sort) (t : Tag) (c : AtomSort) → admits s t ≡ true → row_of t ≡ Leaf c → (xs : List Token) (es : Events) → NamesMean p (leaf_symbols (is_entity s) t c []) xs es → Parses p (FitsOne s) (Suits s) xs es
leaf_means p s t c admitted e xs es it = leaf_parses p s t c (is_entity s) admitted e (leaf_suits s t c admitted e) xs es it
