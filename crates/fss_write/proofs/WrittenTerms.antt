-- What is written of atoms and trees is their terms.
use Rattle.std.proofs.Common.{◌≡◌, ◌<◌, ◌+◌, ◌^◌, ◌%◌, inr, ℕ, Bool, true, false, not, List, [], ◌∷◌, ◌++◌, codes, Option, Some, None, refl, sym, ap, ◌∙◌, subst, arith}
use Rattle.std.specs.Prelude.{if◌then◌else◌, ◌&&◌, nat_le}
use Rattle.std.specs.Char.{is_ascii_digit}
use Rattle.std.specs.Fmt.{decimal}
use Rattle.std.specs.List.{list_all}
use Rattle.std.proofs.lemmas.Bool.{and_from, and_parts, le-leb, not-true}
use Rattle.std.proofs.lemmas.Fmt.{decimal_by_steps, decimal_is_IsNumeral}
use Rattle.std.proofs.lemmas.List.{append_assoc, append-nil}
use Rattle.std.proofs.lemmas.Slice.Eq.{bytes_eq-Decides}
use Rattle.owl_characters.specs.Iri.{IsIri}
use Rattle.owl_characters.specs.Names.{IsNameFrom, IsRunOf, ends_in_dot, is_inner, is_start, begins_with}
use Rattle.owl_characters.specs.Order.{text_eq}
use Rattle.owl_tokens.specs.declared.token.Sign.TheVariants as sign
use Rattle.owl_tokens.specs.declared.token.Token.TheVariants as token
use Rattle.owl_characters.proofs.AllAreLaws.{AllAre-append, all_are}
use Rattle.owl_tokens.proofs.StopLaws.{longest_closed}
use Rattle.owl_atom.specs.declared.prefixes.Prefix.{Prefix}
use Rattle.rdf_terms.specs.Literals.{FitsTag, IsLiteral, LiteralParts, of_datatype, string, with_tag}
use Rattle.owl_tree.specs.declared.atom.Atom.{Atom}
use Rattle.owl_tree.specs.declared.atom.Atom.TheVariants.{Iri, Label, Literal, Number}
use Rattle.owl_tree.specs.declared.tag.Tag.{Tag}
use Rattle.owl_tree.specs.declared.tag.Tag.TheVariants as tag
use Rattle.owl_tree.specs.Atoms.{IsAtom}
use Rattle.owl_tree.specs.Rows.{is_tag, is_bare, is_group}
use Rattle.owl_tree.specs.Shape.{AreShaped, IsShaped}
use Rattle.owl_tree.specs.Tags.{keyword_of}
use Rattle.owl_tree.specs.Trees.{Tree, Kids, leaf, node, no_kids, kid}
use Rattle.fss_terms.specs.Spelling.{spelling, spellings}
use Rattle.fss_terms.specs.Terms.{AreTerms, plain, tagged, typed}
use Rattle.fss_terms.specs.declared.term.Term.{Term}
use Rattle.fss_terms.specs.declared.term.Term.TheVariants as term
use Rattle.fss_write.specs.Text.{bracketed, joined, parts, parts_of}
use Rattle.written_trees.specs.Atoms.{atom_text, literal_text, string_text}
use Rattle.owl_writing.specs.Terms.{iri_text, literal_end}
use Rattle.owl_writing.proofs.WrittenTableLaws.{AreKnown}
use Rattle.owl_tokens.specs.Tokens.{Spells}
use Rattle.owl_writing.proofs.CutLaws.{Cuts, cuts_token}
use Rattle.fss_write.proofs.Pieces.{SaysTerms, says_close, says_open, says_opening, says_space}
use Rattle.fss_write.proofs.Stops.{Ends, token_longest}
use Rattle.fss_write.proofs.WrittenIris.{iri_token}

-- keywords are words

is_word : List ℕ → Bool
is_word cs = begins_with is_start cs && (list_all is_inner cs && not (ends_in_dot cs))

word_fits : (cs : List ℕ) → is_word cs ≡ true → IsNameFrom is_start cs
unfolding is_word
word_fits [] h = absurd (cc)
word_fits (c ∷ cs) h =
    let first = and_parts (is_start c) (list_all is_inner (c ∷ cs) && not (ends_in_dot (c ∷ cs))) h in
    let rest = and_parts (list_all is_inner (c ∷ cs)) (not (ends_in_dot (c ∷ cs))) first.1 in
    (first.0, ((all_are is_inner (c ∷ cs)).0 rest.0).1, not-true (ends_in_dot (c ∷ cs)) rest.1)

keyword_is_word : (t : Tag) → is_word (keyword_of t) ≡ true
unfolding is_word keyword_of
keyword_is_word tag.Class = refl
keyword_is_word _ = refl

pub keyword_fits : (t : Tag) → IsNameFrom is_start (keyword_of t)
keyword_fits t = word_fits (keyword_of t) (keyword_is_word t)

pub import_word : IsNameFrom is_start (codes "Import")
unfolding is_word
import_word = word_fits (codes "Import") refl

pub ontology_word : IsNameFrom is_start (codes "Ontology")
unfolding is_word
ontology_word = word_fits (codes "Ontology") refl

pub prefix_word : IsNameFrom is_start (codes "Prefix")
unfolding is_word
prefix_word = word_fits (codes "Prefix") refl

-- digits

run_behind : (cs : List ℕ) (c : ℕ) → is_ascii_digit c ≡ true → IsRunOf is_ascii_digit cs → IsRunOf is_ascii_digit (cs ++ c ∷ [])
run_behind [] c d h = absurd h
run_behind (x ∷ cs) c d h = AllAre-append is_ascii_digit (x ∷ cs) (c ∷ []) h (d, tt)

digit_at : (n : ℕ) → n < 10 → is_ascii_digit (48 + n) ≡ true
digit_at n h = and_from (nat_le 48 (48 + n)) (nat_le (48 + n) 57) (le-leb 48 (48 + n) (omega arith)) (le-leb (48 + n) 57 (omega arith))

decimal_run : (n : ℕ) → n < 2 ^ 64 → IsRunOf is_ascii_digit (decimal n)
decimal_run n h =
    decimal_by_steps (λ _ ds. IsRunOf is_ascii_digit ds) (λ m small. (digit_at m small, tt)) (λ m ds large k. run_behind ds (48 + m % 10) (digit_at (m % 10) (omega arith)) k) n h

-- atoms

module _ (written read : List Prefix) (known : AreKnown written read) where
  pub says_iri : (iri rest : List ℕ) (terms : List Term) → IsIri iri → Ends rest → SaysTerms read rest terms → SaysTerms read (iri_text written iri ++ rest) (term.Atom (Iri iri) ∷ terms)
  says_iri iri rest terms h e k =
      let one = iri_token written read iri known h in
      cuts_token Spells (λ tokens. AreTerms read tokens (term.Atom (Iri iri) ∷ terms)) (λ tokens. AreTerms read tokens terms) one.token (iri_text written iri) rest one.spells
      (token_longest one.token (iri_text written iri) rest one.spells e) (λ ts m. (ts, (one.token, refl, one.stands), m)) k

  -- a string that is begun: what its tokens are follows from those behind it
  says_string : (form rest : List ℕ) (literal : LiteralParts) (terms : List Term) → Cuts Spells rest (λ tokens. AreTerms read (token.Str form ∷ tokens) (term.Atom (Literal literal) ∷ terms)) → SaysTerms read (string_text form ++ rest) (term.Atom (Literal literal) ∷ terms)
  says_string form rest literal terms k =
      cuts_token Spells (λ tokens. AreTerms read tokens (term.Atom (Literal literal) ∷ terms)) (λ tokens. AreTerms read (token.Str form ∷ tokens) (term.Atom (Literal literal) ∷ terms)) (token.Str form) (string_text form) rest refl
      (longest_closed (token.Str form) (string_text form) rest refl refl) (λ ts m. m) k

  says_end : (form datatype : List ℕ) (b : Bool) (rest : List ℕ) (terms : List Term) → text_eq datatype string ≡ b → IsIri datatype → FitsTag None datatype → Ends rest → SaysTerms read rest terms
      → Cuts Spells ((if b then [] else codes "^^" ++ iri_text written datatype) ++ rest) (λ tokens. AreTerms read (token.Str form ∷ tokens) (term.Atom (Literal (of_datatype form datatype)) ∷ terms))
  says_end form datatype true rest terms t i fits e k = λ place.
      let others = k place in
      let same : datatype ≡ string = (bytes_eq-Decides datatype string).0 t in
      (others.0, others.1, (_, plain form refl (ap (of_datatype form) same), others.2))
  says_end form datatype false rest terms t i fits e k =
      let one = iri_token written read datatype known i in
      let literal = of_datatype form datatype in
      cuts_token Spells (λ tokens. AreTerms read (token.Str form ∷ tokens) (term.Atom (Literal literal) ∷ terms)) (λ tokens. AreTerms read (token.Str form ∷ token.Sign sign.Carets ∷ tokens) (term.Atom (Literal literal) ∷ terms))
      (token.Sign sign.Carets) (codes "^^") (iri_text written datatype ++ rest) refl (longest_closed (token.Sign sign.Carets) (codes "^^") (iri_text written datatype ++ rest) refl refl) (λ ts m. m)
      (cuts_token Spells (λ tokens. AreTerms read (token.Str form ∷ token.Sign sign.Carets ∷ tokens) (term.Atom (Literal literal) ∷ terms)) (λ tokens. AreTerms read tokens terms) one.token (iri_text written datatype) rest one.spells
      (token_longest one.token (iri_text written datatype) rest one.spells e) (λ ts m. (ts, typed form datatype one.token refl one.stands (inr (fits.0, fits.1, refl)), m)) k)

  says_tag : (form datatype language rest : List ℕ) (terms : List Term) → FitsTag (Some language) datatype → Ends rest → SaysTerms read rest terms
      → Cuts Spells (codes "@" ++ (language ++ rest)) (λ tokens. AreTerms read (token.Str form ∷ tokens) (term.Atom (Literal (record { lexical = form; datatype = datatype; tag = Some language })) ∷ terms))
  says_tag form datatype language rest terms fits e k =
      let literal : LiteralParts = record { lexical = form; datatype = datatype; tag = Some language } in
      let same : literal ≡ with_tag form language = ap (λ (d : List ℕ). record { lexical = form; datatype = d; tag = Some language }) fits.0 in
      cuts_token Spells (λ tokens. AreTerms read (token.Str form ∷ tokens) (term.Atom (Literal literal) ∷ terms)) (λ tokens. AreTerms read tokens terms) (token.At language) (codes "@" ++ language) rest (fits.1, refl)
      (token_longest (token.At language) (codes "@" ++ language) rest (fits.1, refl) e) (λ ts m. (ts, tagged form language refl same, m)) k

  says_parts : (form datatype : List ℕ) (language : Option (List ℕ)) (rest : List ℕ) (terms : List Term) → IsIri datatype → FitsTag language datatype → Ends rest → SaysTerms read rest terms
      → Cuts Spells (literal_end written datatype language ++ rest) (λ tokens. AreTerms read (token.Str form ∷ tokens) (term.Atom (Literal (record { lexical = form; datatype = datatype; tag = language })) ∷ terms))
  says_parts form datatype None rest terms i fits e k = says_end form datatype (text_eq datatype string) rest terms refl i fits e k
  says_parts form datatype (Some language) rest terms i fits e k = says_tag form datatype language rest terms fits e k

  says_literal : (literal : LiteralParts) (rest : List ℕ) (terms : List Term) → IsLiteral literal → Ends rest → SaysTerms read rest terms → SaysTerms read (literal_text written literal ++ rest) (term.Atom (Literal literal) ∷ terms)
  says_literal literal rest terms h e k =
      subst (λ (cs : List ℕ). SaysTerms read cs (term.Atom (Literal literal) ∷ terms)) (sym (append_assoc (string_text literal.lexical) (literal_end written literal.datatype literal.tag) rest))
      (says_string literal.lexical (literal_end written literal.datatype literal.tag ++ rest) literal terms (says_parts literal.lexical literal.datatype literal.tag rest terms h.datatype h.tag e k))

  pub says_atom : (a : Atom) (rest : List ℕ) (terms : List Term) → IsAtom a → Ends rest → SaysTerms read rest terms → SaysTerms read (atom_text written a ++ rest) (term.Atom a ∷ terms)
  says_atom (Iri iri) rest terms h e k = says_iri iri rest terms h e k
  says_atom (Label label) rest terms h e k =
      cuts_token Spells (λ tokens. AreTerms read tokens (term.Atom (Label label) ∷ terms)) (λ tokens. AreTerms read tokens terms) (token.Blank label) (codes "_:" ++ label) rest (h, refl)
      (token_longest (token.Blank label) (codes "_:" ++ label) rest (h, refl) e) (λ ts m. (ts, refl, m)) k
  says_atom (Literal literal) rest terms h e k = says_literal literal rest terms h e k
  says_atom (Number number) rest terms h e k =
      let digits : IsRunOf is_ascii_digit (decimal number) = decimal_run number h in
      cuts_token Spells (λ tokens. AreTerms read tokens (term.Atom (Number number) ∷ terms)) (λ tokens. AreTerms read tokens terms) (token.Int (decimal number)) (decimal number) rest (digits, refl)
      (token_longest (token.Int (decimal number)) (decimal number) rest (digits, refl) e) (λ ts m. (ts, (decimal number, refl, sym (decimal_is_IsNumeral number h).1), m)) k

-- parts, with one space between any two

-- what may stand behind parts
abbrev pub Allows : List (List ℕ) → List ℕ → Type 0
Allows [] cs = Unit {0}
Allows (part ∷ others) cs = Ends cs

pub allows_end : (ps : List (List ℕ)) (cs : List ℕ) → Ends cs → Allows ps cs
allows_end [] cs e = tt
allows_end (part ∷ others) cs e = e

-- the parts are terms, before whatever follows
abbrev pub SayParts : List Prefix → List (List ℕ) → (List Term → List Term) → Type 0
SayParts read ps terms = (cs : List ℕ) (more : List Term) → Allows ps cs → SaysTerms read cs more → SaysTerms read (joined ps ++ cs) (terms more)

joined_both : (p : List ℕ) (ps : List (List ℕ)) (q : List ℕ) (qs : List (List ℕ)) → joined (p ∷ (ps ++ q ∷ qs)) ≡ joined (p ∷ ps) ++ (32 ∷ joined (q ∷ qs))
joined_both p [] q qs = refl
joined_both p (next ∷ ps) q qs = ap (λ (x : List ℕ). p ++ (32 ∷ x)) (joined_both next ps q qs) ∙ sym (append_assoc p (32 ∷ joined (next ∷ ps)) (32 ∷ joined (q ∷ qs)))

module _ (read : List Prefix) where
  pub say_both : (ps qs : List (List ℕ)) (front back : List Term → List Term) → SayParts read ps front → SayParts read qs back → SayParts read (ps ++ qs) (λ more. front (back more))
  say_both [] qs front back f g cs more allows k = f (joined qs ++ cs) (back more) tt (g cs more allows k)
  say_both (p ∷ ps) [] front back f g cs more allows k =
      subst (λ (x : List (List ℕ)). SaysTerms read (joined x ++ cs) (front (back more))) (sym (append-nil (p ∷ ps))) (f cs (back more) allows (g cs more tt k))
  say_both (p ∷ ps) (q ∷ qs) front back f g cs more allows k =
      let behind = 32 ∷ (joined (q ∷ qs) ++ cs) in
      subst (λ (x : List ℕ). SaysTerms read x (front (back more))) (sym (ap (λ (x : List ℕ). x ++ cs) (joined_both p ps q qs) ∙ append_assoc (joined (p ∷ ps)) (32 ∷ joined (q ∷ qs)) cs))
      (f behind (back more) refl (says_space read (joined (q ∷ qs) ++ cs) (back more) (g cs more allows k)))

-- trees

module _ (written read : List Prefix) (known : AreKnown written read) where
  say_leaf : (b : Bool) (t : Tag) (a : Atom) → IsAtom a
      → SayParts read ((if b then bracketed (keyword_of t) (atom_text written a) else atom_text written a) ∷ []) (λ more. if b then term.Keyword (keyword_of t) ∷ term.Opening ∷ term.Atom a ∷ term.Closing ∷ more else term.Atom a ∷ more)
  say_leaf true t a h cs more e k =
      let inner = says_atom written read known a (41 ∷ cs) (term.Closing ∷ more) h refl (says_close read cs more k) in
      let whole = says_opening read (keyword_of t) (atom_text written a ++ 41 ∷ cs) (term.Atom a ∷ term.Closing ∷ more) (keyword_fits t) inner in
      subst (λ (x : List ℕ). SaysTerms read x (term.Keyword (keyword_of t) ∷ term.Opening ∷ term.Atom a ∷ term.Closing ∷ more))
      (sym (append_assoc (keyword_of t) (40 ∷ (atom_text written a ++ 41 ∷ [])) cs ∙ ap (λ (x : List ℕ). keyword_of t ++ 40 ∷ x) (append_assoc (atom_text written a) (41 ∷ []) cs))) whole
  say_leaf false t a h cs more e k = says_atom written read known a cs more h e k

  say_node : (b g : Bool) (t : Tag) (inside : List (List ℕ)) (terms : List Term → List Term) → SayParts read inside terms
      → SayParts read (if b then inside else bracketed (if g then [] else keyword_of t) (joined inside) ∷ [])
      (λ more. if b then terms (if b then more else term.Closing ∷ more) else (if g then term.Opening ∷ terms (if b then more else term.Closing ∷ more) else term.Keyword (keyword_of t) ∷ term.Opening ∷ terms (if b then more else term.Closing ∷ more)))
  say_node true g t inside terms f cs more allows k = f cs more allows k
  say_node false true t inside terms f cs more e k =
      let inner = f (41 ∷ cs) (term.Closing ∷ more) (allows_end inside (41 ∷ cs) refl) (says_close read cs more k) in
      subst (λ (x : List ℕ). SaysTerms read (40 ∷ x) (term.Opening ∷ terms (term.Closing ∷ more))) (sym (append_assoc (joined inside) (41 ∷ []) cs)) (says_open read (joined inside ++ 41 ∷ cs) (terms (term.Closing ∷ more)) inner)
  say_node false false t inside terms f cs more e k =
      let inner = f (41 ∷ cs) (term.Closing ∷ more) (allows_end inside (41 ∷ cs) refl) (says_close read cs more k) in
      let whole = says_opening read (keyword_of t) (joined inside ++ 41 ∷ cs) (terms (term.Closing ∷ more)) (keyword_fits t) inner in
      subst (λ (x : List ℕ). SaysTerms read x (term.Keyword (keyword_of t) ∷ term.Opening ∷ terms (term.Closing ∷ more)))
      (sym (append_assoc (keyword_of t) (40 ∷ (joined inside ++ 41 ∷ [])) cs ∙ ap (λ (x : List ℕ). keyword_of t ++ 40 ∷ x) (append_assoc (joined inside) (41 ∷ []) cs))) whole

  mutual
    pub say_tree : (within : Tag) (t : Tree) → IsShaped t → SayParts read (parts written within t) (spelling within t)
    say_tree within (leaf t a) h = say_leaf (is_tag tag.Declaration within) t a h.1
    say_tree within (node t ks) h = say_node (is_bare t) (is_group t) t (parts_of written t ks) (spellings t ks) (say_kids t ks h.1)

    say_kids : (within : Tag) (ks : Kids) → AreShaped ks → SayParts read (parts_of written within ks) (spellings within ks)
    say_kids within no_kids h = λ cs more allows k. k
    say_kids within (kid t ks) h = say_both read (parts written within t) (parts_of written within ks) (spelling within t) (spellings within ks) (say_tree within t h.0) (say_kids within ks h.1)
