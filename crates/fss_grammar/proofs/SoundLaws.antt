-- What derives from the rule of a sort, and can be done, is written for a tree of the sort.
use Rattle.std.proofs.Common.{◌≡◌, Bool, true, false, List, [], ◌∷◌, ◌++◌, refl, sym, ap, subst, subst₂, ◌∙◌}
use Rattle.std.specs.Prelude.{if◌then◌else◌}
use Rattle.std.proofs.lemmas.List.{append_assoc, append-nil}
use Rattle.grammar.specs.Pages.Named.{token as word}
use Rattle.owl_atom.specs.declared.prefixes.Prefix.{Prefix}
use Rattle.owl_tokens.specs.declared.token.Token.{Token}
use Rattle.owl_tree.specs.declared.tag.Tag.{Tag}
use Rattle.owl_tree.specs.Rows.{is_bare, is_group}
use Rattle.owl_tree.specs.Shape.{AreShaped}
use Rattle.owl_tree.specs.Tags.{keyword_of}
use Rattle.owl_tree.specs.Trees.{Tree, kids_of}
use Rattle.fss_terms.specs.Spelling.{HaveMembers, closed, opened, spelling, spellings}
use Rattle.fss_terms.specs.Terms.{AreTerms}
use Rattle.fss_terms.specs.declared.term.Term.{Term}
use Rattle.fss_terms.specs.declared.term.Term.TheVariants.{Keyword, Opening, Closing}
use Rattle.fss_grammar.specs.Classes.Class.{closing, keyword, opening}
use Rattle.fss_grammar.proofs.ClassLaws.{is_of}
use Rattle.fss_grammar.specs.Making.{Document, Maker, Runs}
use Rattle.owl_tree.specs.Frames.{Frame}
use Rattle.fss_grammar.specs.Meaning.{Events, NamesMean, Parses, within, with_kids}
use Rattle.fss_grammar.specs.Page.{Names, closing_symbols, opening_symbols}

-- ---- lists in parts

pub cons_then : {X : Type 0} {x : X} {xs ys zs : List X} → xs ≡ x ∷ ys → ys ≡ zs → xs ≡ x ∷ zs
cons_then {X = X} {x = x} e f = e ∙ ap (λ (l : List X). x ∷ l) f

pub append_then : {X : Type 0} (front : List X) {xs ys zs : List X} → xs ≡ front ++ ys → ys ≡ zs → xs ≡ front ++ zs
append_then {X = X} front e f = e ∙ ap (λ (l : List X). front ++ l) f

pub one_first : {X : Type 0} {x : X} {front xs ys : List X} → xs ≡ front ++ ys → front ≡ x ∷ [] → xs ≡ x ∷ ys
one_first {X = X} {ys = ys} e f = e ∙ ap (λ (l : List X). l ++ ys) f

-- ---- brackets and keywords

-- tokens are passed that are written for terms, and make nothing
pub record Passed (p : List Prefix) (Later : List Token → Events → Type 0) (spell : List Term → List Term) (xs : List Token) (es : Events) : Type 0 where
  pub rest : List Token
  pub events : Events
  pub later : Later rest events
  pub spelled : (us : List Token) (terms : List Term) → AreTerms p (rest ++ us) terms → AreTerms p (xs ++ us) (spell terms)
  pub runs : (fs : Events) (m n : Maker) → Runs p (es ++ fs) m n → Runs p (events ++ fs) m n

pub passed_none : (p : List Prefix) (Later : List Token → Events → Type 0) {xs : List Token} {es : Events} → Later xs es → Passed p Later (λ terms. terms) xs es
passed_none p Later {xs = xs} {es = es} l = record { rest = xs; events = es; later = l; spelled = λ us terms h. h; runs = λ fs m n r. r }

pub moved : (P : List Token → Events → Type 0) {xs ys : List Token} {es gs : Events} → xs ≡ ys → es ≡ gs → P ys gs → P xs es
moved P e f h = subst₂ P (sym e) (sym f) h

pub passed_open : (p : List Prefix) (names : Names) {xs : List Token} {es : Events} → NamesMean p (word opening ∷ names) xs es → Passed p (NamesMean p names) (λ terms. Opening ∷ terms) xs es
passed_open p names it =
    let is = is_of opening it.token it.class in
    moved (Passed p (NamesMean p names) (λ terms. Opening ∷ terms)) it.tokens_are it.events_are record {
      rest = it.more_tokens;
      events = it.more_events;
      later = it.more;
      spelled = λ us terms h. (it.more_tokens ++ us, ap (λ (x : Token). x ∷ (it.more_tokens ++ us)) is, h);
      runs = λ fs m n r. r;
    }

pub passed_close : (p : List Prefix) (names : Names) {xs : List Token} {es : Events} → NamesMean p (word closing ∷ names) xs es → Passed p (NamesMean p names) (λ terms. Closing ∷ terms) xs es
passed_close p names it =
    let is = is_of closing it.token it.class in
    moved (Passed p (NamesMean p names) (λ terms. Closing ∷ terms)) it.tokens_are it.events_are record {
      rest = it.more_tokens;
      events = it.more_events;
      later = it.more;
      spelled = λ us terms h. (it.more_tokens ++ us, ap (λ (x : Token). x ∷ (it.more_tokens ++ us)) is, h);
      runs = λ fs m n r. r;
    }

pub passed_keyword : (p : List Prefix) (t : Tag) (names : Names) {xs : List Token} {es : Events} → NamesMean p (word (keyword t) ∷ names) xs es → Passed p (NamesMean p names) (λ terms. Keyword (keyword_of t) ∷ terms) xs es
passed_keyword p t names it =
    let is = is_of (keyword t) it.token it.class in
    moved (Passed p (NamesMean p names) (λ terms. Keyword (keyword_of t) ∷ terms)) it.tokens_are it.events_are record {
      rest = it.more_tokens;
      events = it.more_events;
      later = it.more;
      spelled = λ us terms h. (it.more_tokens ++ us, ap (λ (x : Token). x ∷ (it.more_tokens ++ us)) is, h);
      runs = λ fs m n r. r;
    }

pub passed_both : {p : List Prefix} {First Second : List Token → Events → Type 0} {a b : List Term → List Term} {xs : List Token} {es : Events} → Passed p First a xs es → ((ys : List Token) (gs : Events) → First ys gs → Passed p Second b ys gs) → Passed p Second (λ terms. a (b terms)) xs es
passed_both {b = b} one two =
    let it = two one.rest one.events one.later in
    record {
      rest = it.rest;
      events = it.events;
      later = it.later;
      spelled = λ us terms h. one.spelled us (b terms) (it.spelled us terms h);
      runs = λ fs m n r. it.runs fs m n (one.runs fs m n r);
    }

opened_by : (p : List Prefix) (t : Tag) (bare group : Bool) (names : Names) {xs : List Token} {es : Events} → NamesMean p (if bare then names else (if group then word opening ∷ names else word (keyword t) ∷ word opening ∷ names)) xs es → Passed p (NamesMean p names) (λ terms. if bare then terms else (if group then Opening ∷ terms else Keyword (keyword_of t) ∷ Opening ∷ terms)) xs es
opened_by p t true group names it = passed_none p (NamesMean p names) it
opened_by p t false true names it = passed_open p names it
opened_by p t false false names it = passed_both (passed_keyword p t (word opening ∷ names) it) (λ ys gs later. passed_open p names later)

pub opening_means : (p : List Prefix) (t : Tag) (names : Names) {xs : List Token} {es : Events} → NamesMean p (opening_symbols t names) xs es → Passed p (NamesMean p names) (opened t) xs es
opening_means p t names it = opened_by p t (is_bare t) (is_group t) names it

closed_by : (p : List Prefix) (bare : Bool) (names : Names) {xs : List Token} {es : Events} → NamesMean p (if bare then names else word closing ∷ names) xs es → Passed p (NamesMean p names) (λ terms. if bare then terms else Closing ∷ terms) xs es
closed_by p true names it = passed_none p (NamesMean p names) it
closed_by p false names it = passed_close p names it

pub closing_means : (p : List Prefix) (t : Tag) (names : Names) {xs : List Token} {es : Events} → NamesMean p (closing_symbols t names) xs es → Passed p (NamesMean p names) (closed t) xs es
closing_means p t names it = closed_by p (is_bare t) names it

-- ---- kids one after another

-- The kids of a construct with this tag were read, and then comes what is left.
pub record Kids (p : List Prefix) (t : Tag) (Fit : List Tree → Type 0) (Later : List Token → Events → Type 0) (xs : List Token) (f : Frame) (frames : List Frame) (d : Document) (fs : Events) (n : Maker) : Type 0 where
  pub trees : List Tree
  pub fit : Fit trees
  pub shaped : AreShaped (kids_of trees)
  pub members : HaveMembers (kids_of trees)
  pub rest : List Token
  pub events : Events
  pub later : Later rest events
  pub spelled : (us : List Token) (more : List Term) → AreTerms p (rest ++ us) more → AreTerms p (xs ++ us) (spellings t (kids_of trees) more)
  pub runs : Runs p (events ++ fs) (within (with_kids trees f) frames d) n

abbrev pub KidsParse : List Prefix → Tag → (List Tree → Type 0) → (List Token → Events → Type 0) → List Token → Events → Type 0
KidsParse p t Fit Later xs es =
    (fs : Events) (f : Frame) (frames : List Frame) (d : Document) (n : Maker) → Runs p (es ++ fs) (within f frames d) n → Kids p t Fit Later xs f frames d fs n

-- first these, and then those
pub record Joined (First Second : List Tree → Type 0) (ts : List Tree) : Type 0 where
  pub front : List Tree
  pub back : List Tree
  pub are : ts ≡ front ++ back
  pub first : First front
  pub second : Second back

pub shaped_both : (ts us : List Tree) → AreShaped (kids_of ts) → AreShaped (kids_of us) → AreShaped (kids_of (ts ++ us))
shaped_both [] us h k = k
shaped_both (t ∷ ts) us h k = (h.0, shaped_both ts us h.1 k)

pub members_both : (ts us : List Tree) → HaveMembers (kids_of ts) → HaveMembers (kids_of us) → HaveMembers (kids_of (ts ++ us))
members_both [] us h k = k
members_both (t ∷ ts) us h k = (h.0, members_both ts us h.1 k)

pub spellings_both : (t : Tag) (ts us : List Tree) (more : List Term) → spellings t (kids_of (ts ++ us)) more ≡ spellings t (kids_of ts) (spellings t (kids_of us) more)
spellings_both t [] us more = refl
spellings_both t (k ∷ ts) us more = ap (λ more. spelling t k more) (spellings_both t ts us more)

pub kids_none : (p : List Prefix) (t : Tag) (Fit : List Tree → Type 0) (Later : List Token → Events → Type 0) → Fit [] → {xs : List Token} {es : Events} → Later xs es → KidsParse p t Fit Later xs es
kids_none p t Fit Later fit {xs = xs} {es = es} l = λ fs f frames d n r. record {
  trees = [];
  fit = fit;
  shaped = tt;
  members = tt;
  rest = xs;
  events = es;
  later = l;
  spelled = λ us more h. h;
  runs = subst (λ (ks : List Tree). Runs p (es ++ fs) (within (record f { kids = ks }) frames d) n) (sym (append-nil f.kids)) r;
}

pub refit : {p : List Prefix} {t : Tag} {Fit Other : List Tree → Type 0} {Later : List Token → Events → Type 0} {xs : List Token} (es : Events) → ((ts : List Tree) → Fit ts → Other ts) → KidsParse p t Fit Later xs es → KidsParse p t Other Later xs es
refit es g kids = λ fs f frames d n r.
    let it = kids fs f frames d n r in
    record {
      trees = it.trees;
      fit = g it.trees it.fit;
      shaped = it.shaped;
      members = it.members;
      rest = it.rest;
      events = it.events;
      later = it.later;
      spelled = it.spelled;
      runs = it.runs;
    }

pub parts : {p : List Prefix} {t : Tag} {First Second : List Tree → Type 0} {In : Tag → Type 0} {Later : List Token → Events → Type 0} {xs ys : List Token} (es gs : Events) → In t → Parses p First In xs es → KidsParse p t Second Later ys gs → KidsParse p t (Joined First Second) Later (xs ++ ys) (es ++ gs)
parts {p = p} {t = t} {xs = xs} {ys = ys} es gs suits one two = λ fs f frames d n r.
    let a = one (gs ++ fs) f frames d n (subst (λ l. Runs p l (within f frames d) n) (append_assoc es gs fs) r) in
    let b = two fs (with_kids a.trees f) frames d n a.runs in
    record {
      trees = a.trees ++ b.trees;
      fit = record { front = a.trees; back = b.trees; are = refl; first = a.fit; second = b.fit };
      shaped = shaped_both a.trees b.trees a.shaped b.shaped;
      members = members_both a.trees b.trees a.members b.members;
      rest = b.rest;
      events = b.events;
      later = b.later;
      spelled = λ us more h.
          subst₂ (AreTerms p) (sym (append_assoc xs ys us)) (sym (spellings_both t a.trees b.trees more))
          (a.spelled t suits (ys ++ us) (spellings t (kids_of b.trees) more) (b.spelled us more h));
      runs = subst (λ (ks : List Tree). Runs p (b.events ++ fs) (within (record f { kids = ks }) frames d) n) (append_assoc f.kids a.trees b.trees) b.runs;
    }
