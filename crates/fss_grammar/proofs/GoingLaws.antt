-- What is written for a leaf leads along the symbols of a leaf.
use Rattle.std.proofs.Common.{◌≡◌, ℕ, Bool, true, false, List, [], ◌∷◌, Some, None, refl, sym, subst, true≢false}
use Rattle.std.specs.Prelude.{if◌then◌else◌}
use Rattle.std.specs.Str.Parse.{digits_value}
use Rattle.grammar.specs.Pages.{IsIn}
use Rattle.grammar.specs.Pages.IsIn.{first, later}
use Rattle.grammar.specs.Pages.Named.{action, part, token as word}
use Rattle.owl_atom.specs.declared.prefixes.Prefix.{Prefix}
use Rattle.rdf_terms.specs.Literals.{DenotesLiteral, IsLiteral, LiteralParts}
use Rattle.owl_tokens.specs.declared.token.Token.{Token}
use Rattle.owl_tokens.specs.declared.token.Token.TheVariants as token
use Rattle.owl_tokens.specs.declared.token.Sign.TheVariants as sign
use Rattle.owl_tree.specs.declared.atom.Atom.{Atom}
use Rattle.owl_tree.specs.declared.atom.Atom.TheVariants.{Iri, Label, Literal, Number}
use Rattle.owl_tree.specs.declared.row.AtomSort.{AtomSort}
use Rattle.owl_tree.specs.declared.row.AtomSort.TheVariants as atom
use Rattle.owl_tree.specs.declared.tag.Tag.{Tag}
use Rattle.owl_tree.specs.Atoms.{IsAtom}
use Rattle.owl_tree.specs.Rows.{Leaf, is_bare, is_group, is_of_sort, row_of}
use Rattle.owl_tree.specs.Tags.{keyword_of}
use Rattle.owl_tree.specs.Trees.{leaf}
use Rattle.fss_terms.specs.Spelling.{closed, opened}
use Rattle.fss_terms.specs.Terms.{AreTerms, BeginsAtom, BeginsLiteral, iri_of_token}
use Rattle.fss_terms.specs.Terms.BeginsLiteral.{plain, tagged, typed}
use Rattle.fss_terms.specs.declared.term.Term.{Term}
use Rattle.fss_terms.specs.declared.term.Term.TheVariants.{Keyword, Opening, Closing}
use Rattle.fss_grammar.proofs.ActLaws.{begin}
use Rattle.fss_grammar.specs.Classes.{Class, class_number, class_of}
use Rattle.fss_grammar.specs.Classes.Class.{carets, closing, digits, keyword, label, language, opening, text}
use Rattle.fss_grammar.proofs.ClassLaws.{class_is, keyword_class}
use Rattle.fss_grammar.proofs.Going.{Goes, goes_act, goes_before, goes_nowhere, goes_rule, goes_then, goes_token}
use Rattle.fss_grammar.specs.Making.{Document, Maker, Performs}
use Rattle.owl_tree.specs.Frames.{Frame, with_kid}
use Rattle.fss_grammar.specs.Making.Kept.{string}
use Rattle.fss_grammar.specs.Meaning.{within, within_keeping}
use Rattle.fss_grammar.specs.Page.{Names, alternatives, atom_symbols, closing_symbols, opening_symbols}
use Rattle.fss_grammar.specs.Page.Rule.{iri_part, suffix}
use Rattle.fss_grammar.specs.declared.acts.Act.{Act}
use Rattle.fss_grammar.specs.declared.acts.Act.TheVariants.{Begin, EndItem, Plain, Tagged, Typed}

-- ---- keywords and brackets

pub goes_open : (p : List Prefix) (after : Names) (xs us : List Token) (m : Maker) → xs ≡ token.Sign sign.Open ∷ us → Goes p (word opening ∷ after) after xs us m m
goes_open p after xs us m e =
    subst (λ l. Goes p (word opening ∷ after) after l us m m) (sym e) (goes_token p opening after (token.Sign sign.Open) us m (class_is (token.Sign sign.Open)))

pub goes_close : (p : List Prefix) (after : Names) (xs us : List Token) (m : Maker) → xs ≡ token.Sign sign.Close ∷ us → Goes p (word closing ∷ after) after xs us m m
goes_close p after xs us m e =
    subst (λ l. Goes p (word closing ∷ after) after l us m m) (sym e) (goes_token p closing after (token.Sign sign.Close) us m (class_is (token.Sign sign.Close)))

pub goes_keyword : (p : List Prefix) (t : Tag) (after : Names) (xs us : List Token) (m : Maker) → xs ≡ token.Word (keyword_of t) ∷ us → Goes p (word (keyword t) ∷ after) after xs us m m
goes_keyword p t after xs us m e =
    subst (λ l. Goes p (word (keyword t) ∷ after) after l us m m) (sym e) (goes_token p (keyword t) after (token.Word (keyword_of t)) us m (keyword_class t))

-- the tokens lead along the symbols, and behind them the terms are written
pub record Passes (p : List Prefix) (names : Names → Names) (xs : List Token) (terms : List Term) : Type 0 where
  pub rest : List Token
  pub later : AreTerms p rest terms
  pub goes : (after : Names) (m : Maker) → Goes p (names after) after xs rest m m

passes_none : (p : List Prefix) (xs : List Token) (terms : List Term) → AreTerms p xs terms → Passes p (λ after. after) xs terms
passes_none p xs terms h = record { rest = xs; later = h; goes = λ after m. goes_nowhere p after xs m }

opened_by : (p : List Prefix) (t : Tag) (bare group : Bool) (xs : List Token) (terms : List Term) → AreTerms p xs (if bare then terms else (if group then Opening ∷ terms else Keyword (keyword_of t) ∷ Opening ∷ terms)) → Passes p (λ after. if bare then after else (if group then word opening ∷ after else word (keyword t) ∷ word opening ∷ after)) xs terms
opened_by p t true group xs terms h = passes_none p xs terms h
opened_by p t false true xs terms h = record { rest = h.0; later = h.2; goes = λ after m. goes_open p after xs h.0 m h.1 }
opened_by p t false false xs terms h =
    let k = h.2 in
    record {
      rest = k.0;
      later = k.2;
      goes = λ after m. goes_then (goes_keyword p t (word opening ∷ after) xs h.0 m h.1) (goes_open p after h.0 k.0 m k.1);
    }

pub opened_passes : (p : List Prefix) (t : Tag) (xs : List Token) (terms : List Term) → AreTerms p xs (opened t terms) → Passes p (opening_symbols t) xs terms
opened_passes p t xs terms h = opened_by p t (is_bare t) (is_group t) xs terms h

closed_by : (p : List Prefix) (bare : Bool) (xs : List Token) (terms : List Term) → AreTerms p xs (if bare then terms else Closing ∷ terms) → Passes p (λ after. if bare then after else word closing ∷ after) xs terms
closed_by p true xs terms h = passes_none p xs terms h
closed_by p false xs terms h = record { rest = h.0; later = h.2; goes = λ after m. goes_close p after xs h.0 m h.1 }

pub closed_passes : (p : List Prefix) (t : Tag) (xs : List Token) (terms : List Term) → AreTerms p xs (closed t terms) → Passes p (closing_symbols t) xs terms
closed_passes p t xs terms h = closed_by p (is_bare t) xs terms h

-- ---- IRIs

-- an act in front of a token that stands for an IRI
name_by : (p : List Prefix) (a : Act) (c : Class) (after : Names) (x : Token) (xs : List Token) (m n : Maker) → IsIn (word c ∷ []) (alternatives iri_part) → class_of x ≡ class_number c → Performs p a (Some x) m n → Goes p (action a ∷ part iri_part ∷ after) after (x ∷ xs) xs m n
unfolding goes_token goes_rule
name_by p a c after x xs m n i e h =
    goes_before p a (part iri_part ∷ after) after x (x ∷ xs) xs m n n
    (goes_rule p iri_part (word c ∷ []) after (x ∷ xs) xs n n refl i (goes_token p c [] x xs n e))
    (λ gs. refl) h

-- the class of a token that stands for an IRI
record IsIriToken (x : Token) : Type 0 where
  class : Class
  among : IsIn (word class ∷ []) (alternatives iri_part)
  class_is : class_of x ≡ class_number class

local_class : (prefix local : List ℕ) → IsIriToken (token.Name prefix local)
local_class prefix [] = record { class = Class.alone; among = later (later first); class_is = class_is (token.Name prefix []) }
local_class prefix (c ∷ cs) = record { class = Class.name; among = later first; class_is = class_is (token.Name prefix (c ∷ cs)) }

iri_token : (p : List Prefix) (x : Token) (i : List ℕ) → iri_of_token p x ≡ Some i → IsIriToken x
iri_token p (token.Iri j) i e = record { class = Class.iri; among = first; class_is = class_is (token.Iri j) }
iri_token p (token.Name prefix local) i e = local_class prefix local
iri_token p (token.Blank l) i e = absurd (cc)
iri_token p (token.Str s) i e = absurd (cc)
iri_token p (token.At l) i e = absurd (cc)
iri_token p (token.Word w) i e = absurd (cc)
iri_token p (token.Int ds) i e = absurd (cc)
iri_token p (token.Dec k) i e = absurd (cc)
iri_token p (token.Sign mark) i e = absurd (cc)

pub goes_name : (p : List Prefix) (a : Act) (after : Names) (x : Token) (i : List ℕ) (xs : List Token) (m n : Maker) → iri_of_token p x ≡ Some i → Performs p a (Some x) m n → Goes p (action a ∷ part iri_part ∷ after) after (x ∷ xs) xs m n
goes_name p a after x i xs m n e h = let it = iri_token p x i e in name_by p a it.class after x xs m n it.among it.class_is h

-- the same where an item of the document ends with the IRI
pub goes_last_name : (p : List Prefix) (a : Act) (after : Names) (x : Token) (i : List ℕ) (xs : List Token) (m n : Maker) → iri_of_token p x ≡ Some i → Performs p a (Some x) m n → Goes p (action a ∷ action EndItem ∷ part iri_part ∷ after) after (x ∷ xs) xs m n
unfolding name_by goes_before goes_rule goes_token
goes_last_name p a after x i xs m n e h =
    let it = iri_token p x i e in
    goes_before p a (action EndItem ∷ part iri_part ∷ after) after x (x ∷ xs) xs m n n (name_by p EndItem it.class after x xs n n it.among it.class_is refl) (λ gs. refl) h

-- ---- literals

-- behind the string of a literal
abbrev SuffixGoes : List Prefix → Tag → List ℕ → LiteralParts → List Token → List Token → Type 0
SuffixGoes p t form literal xs us =
    (after : Names) (f : Frame) (frames : List Frame) (d : Document) → Goes p (part suffix ∷ after) after xs us (within_keeping (string t form) f frames d) (within (with_kid (leaf t (Literal literal)) f) frames d)

plain_goes : (p : List Prefix) (t : Tag) (form : List ℕ) (literal : LiteralParts) (xs : List Token) → DenotesLiteral form None None literal → IsLiteral literal → SuffixGoes p t form literal xs xs
plain_goes p t form literal xs denotes is = λ after f frames d.
    let m = within_keeping (string t form) f frames d in
    let n = within (with_kid (leaf t (Literal literal)) f) frames d in
    goes_rule p suffix (action Plain ∷ []) after xs xs m n refl first (goes_act p Plain [] xs m n (λ next. (literal, denotes, is, refl)))

tagged_goes : (p : List Prefix) (t : Tag) (form tag : List ℕ) (literal : LiteralParts) (xs : List Token) → DenotesLiteral form None (Some tag) literal → IsLiteral literal → SuffixGoes p t form literal (token.At tag ∷ xs) xs
unfolding goes_token
tagged_goes p t form tag literal xs denotes is = λ after f frames d.
    let m = within_keeping (string t form) f frames d in
    let n = within (with_kid (leaf t (Literal literal)) f) frames d in
    let x = token.At tag in
    goes_rule p suffix (action Tagged ∷ word language ∷ []) after (x ∷ xs) xs m n refl (later first)
    (goes_before p Tagged (word language ∷ []) [] x (x ∷ xs) xs m n n (goes_token p language [] x xs n (class_is x)) (λ gs. refl) (tag, refl, (literal, denotes, is, refl)))

typed_goes : (p : List Prefix) (t : Tag) (form datatype : List ℕ) (name : Token) (literal : LiteralParts) (xs : List Token) → iri_of_token p name ≡ Some datatype → DenotesLiteral form (Some datatype) None literal → IsLiteral literal → SuffixGoes p t form literal (token.Sign sign.Carets ∷ name ∷ xs) xs
typed_goes p t form datatype name literal xs stands denotes is = λ after f frames d.
    let m = within_keeping (string t form) f frames d in
    let n = within (with_kid (leaf t (Literal literal)) f) frames d in
    let x = token.Sign sign.Carets in
    goes_rule p suffix (word carets ∷ action Typed ∷ part iri_part ∷ []) after (x ∷ name ∷ xs) xs m n refl (later (later first))
    (goes_then (goes_token p carets (action Typed ∷ part iri_part ∷ []) x (name ∷ xs) m (class_is x))
    (goes_name p Typed [] name datatype xs m n stands (datatype, record { name = name; comes = refl; stands = stands }, (literal, denotes, is, refl))))

string_goes : (p : List Prefix) (t : Tag) (form : List ℕ) (literal : LiteralParts) (xs us : List Token) → row_of t ≡ Leaf atom.Literal → SuffixGoes p t form literal xs us → (after : Names) (f : Frame) (frames : List Frame) (d : Document) → Goes p (action (Begin t) ∷ word text ∷ part suffix ∷ after) after (token.Str form ∷ xs) us (within f frames d) (within (with_kid (leaf t (Literal literal)) f) frames d)
unfolding goes_token
string_goes p t form literal xs us e behind after f frames d =
    let m = within f frames d in
    let kept = within_keeping (string t form) f frames d in
    let x = token.Str form in
    goes_then
    (goes_before p (Begin t) (word text ∷ part suffix ∷ after) (part suffix ∷ after) x (x ∷ xs) xs m kept kept (goes_token p text (part suffix ∷ after) x xs kept (class_is x)) (λ gs. refl) (begin p t (Some x) m kept e (form, refl, refl)))
    (behind after f frames d)

-- ---- atoms

abbrev pub AtomGoes : List Prefix → Tag → AtomSort → Atom → List Token → List Token → Type 0
AtomGoes p t c a xs us =
    (after : Names) (f : Frame) (frames : List Frame) (d : Document) → Goes p (action (Begin t) ∷ atom_symbols c after) after xs us (within f frames d) (within (with_kid (leaf t a) f) frames d)

literal_goes : (p : List Prefix) (t : Tag) (literal : LiteralParts) (xs us : List Token) → row_of t ≡ Leaf atom.Literal → BeginsLiteral p xs literal us → IsLiteral literal → AtomGoes p t atom.Literal (Literal literal) xs us
literal_goes p t literal xs us e (plain form are denotes) is =
    subst (λ l. AtomGoes p t atom.Literal (Literal literal) l us) (sym are) (string_goes p t form literal us us e (plain_goes p t form literal us denotes is))
literal_goes p t literal xs us e (tagged form tag are denotes) is =
    subst (λ l. AtomGoes p t atom.Literal (Literal literal) l us) (sym are) (string_goes p t form literal (token.At tag ∷ us) us e (tagged_goes p t form tag literal us denotes is))
literal_goes p t literal xs us e (typed form datatype name are stands denotes) is =
    subst (λ l. AtomGoes p t atom.Literal (Literal literal) l us) (sym are) (string_goes p t form literal (token.Sign sign.Carets ∷ name ∷ us) us e (typed_goes p t form datatype name literal us stands denotes is))

iri_goes : (p : List Prefix) (t : Tag) (i : List ℕ) (x : Token) (us : List Token) → row_of t ≡ Leaf atom.Iri → iri_of_token p x ≡ Some i → IsAtom (Iri i) → AtomGoes p t atom.Iri (Iri i) (x ∷ us) us
iri_goes p t i x us e stands is = λ after f frames d.
    let m = within f frames d in
    let n = within (with_kid (leaf t (Iri i)) f) frames d in
    goes_name p (Begin t) after x i us m n stands
    (begin p t (Some x) m n e (Iri i, record { written = x; comes = refl; sort_is = refl; stands = (x, refl, stands); is_atom = is }, refl))

label_goes : (p : List Prefix) (t : Tag) (l : List ℕ) (us : List Token) → row_of t ≡ Leaf atom.Label → IsAtom (Label l) → AtomGoes p t atom.Label (Label l) (token.Blank l ∷ us) us
unfolding goes_token
label_goes p t l us e is = λ after f frames d.
    let m = within f frames d in
    let n = within (with_kid (leaf t (Label l)) f) frames d in
    let x = token.Blank l in
    goes_before p (Begin t) (word label ∷ after) after x (x ∷ us) us m n n (goes_token p label after x us n (class_is x)) (λ gs. refl)
    (begin p t (Some x) m n e (Label l, record { written = x; comes = refl; sort_is = refl; stands = refl; is_atom = is }, refl))

number_goes : (p : List Prefix) (t : Tag) (k : ℕ) (ds : List ℕ) (us : List Token) → row_of t ≡ Leaf atom.Number → k ≡ digits_value 10 ds → IsAtom (Number k) → AtomGoes p t atom.Number (Number k) (token.Int ds ∷ us) us
unfolding goes_token
number_goes p t k ds us e value is = λ after f frames d.
    let m = within f frames d in
    let n = within (with_kid (leaf t (Number k)) f) frames d in
    let x = token.Int ds in
    goes_before p (Begin t) (word digits ∷ after) after x (x ∷ us) us m n n (goes_token p digits after x us n (class_is x)) (λ gs. refl)
    (begin p t (Some x) m n e (Number k, record { written = x; comes = refl; sort_is = refl; stands = (ds, refl, value); is_atom = is }, refl))

pub atom_goes : (p : List Prefix) (t : Tag) (c : AtomSort) (a : Atom) (xs us : List Token) → row_of t ≡ Leaf c → is_of_sort c a ≡ true → BeginsAtom p xs a us → IsAtom a → AtomGoes p t c a xs us
atom_goes p t atom.Iri (Iri i) xs us e s h is = subst (λ l. AtomGoes p t atom.Iri (Iri i) l us) (sym h.1) (iri_goes p t i h.0 us e h.2 is)
atom_goes p t atom.Label (Label l) xs us e s h is = subst (λ k. AtomGoes p t atom.Label (Label l) k us) (sym h) (label_goes p t l us e is)
atom_goes p t atom.Literal (Literal literal) xs us e s h is = literal_goes p t literal xs us e h is
atom_goes p t atom.Number (Number k) xs us e s h is = subst (λ l. AtomGoes p t atom.Number (Number k) l us) (sym h.1) (number_goes p t k h.0 us e h.2 is)
atom_goes p t _ _ xs us e s h is = absurd (true≢false (sym s))
