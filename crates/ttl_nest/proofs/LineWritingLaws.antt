-- What stands in a draft between the lines of a text.
use Rattle.std.specs.Prelude.{◌≡◌, ◌⊎◌, ℕ, List, [], ◌∷◌, ◌++◌, codes, flat_map, length}
use Rattle.std.proofs.Common.{inl, inr, refl, sym, ap, ◌∙◌, subst, arith}
use Rattle.std.proofs.lemmas.Grind.{flat_map-append}
use Rattle.std.proofs.lemmas.List.{append_assoc, append-nil}
use Rattle.owl_atom.specs.declared.prefixes.Prefix.{Prefix}
use Rattle.owl_list.proofs.AscendingLaws.{all_pushed}
use Rattle.owl_writing.proofs.DraftLaws.{longer_behind, longer_by}
use Rattle.owl_writing.specs.Limits.{IsTooLong}
use Rattle.owl_writing.specs.Terms.{iri_text}
use Rattle.rdf_graph.specs.declared.term.Term.{Term}
use Rattle.rdf_graph.specs.declared.triple.Triple.{Triple}
use Rattle.ttl_levels.specs.Nested.{IsNested}
use Rattle.ttl_nested.specs.Forms.{Form, Line}
use Rattle.ttl_nested.specs.NestedText.{form_text, line_text}
use Rattle.ttl_write.specs.Formed.{AreFormed, IsFormedTriple}
use Rattle.ttl_write.specs.Text.{term_text}
use Rattle.ttl_nest.specs.NestedForm.{AreLinesFor, IsFormOf, IsLineOf}
use Rattle.ttl_nest.specs.NestedForm.AreLinesFor.{inside, no_lines, one_line}
use Rattle.ttl_nest.specs.Sources.{line_of}
use Rattle.ttl_nest.proofs.WritingLaws.{left_is, left_long}

-- what lines are, by the triples
abbrev pub AreInverted : (g ts : List Triple) → List Line → Type 0
AreInverted g [] lines = lines ≡ []
AreInverted g (t ∷ ts) lines = (IsNested g t.subject × AreLinesFor g ts lines) ⊎ ((line : Line) × (more : List Line) × (lines ≡ line ∷ more) × IsLineOf g t line × AreLinesFor g ts more)

pub inverted : (g ts : List Triple) (lines : List Line) → AreLinesFor g ts lines → AreInverted g ts lines
inverted g _ _ no_lines = refl
inverted g _ _ (inside t ts lines nested more) = inl (nested, more)
inverted g _ _ (one_line t ts line lines is more) = inr (line, lines, refl, is, more)

-- the lines of the first triple, and of the others
pub record AreSplit (g : List Triple) (t : Triple) (ts : List Triple) (lines : List Line) : Type 0 where
  pub front : List Line
  pub back : List Line
  pub of_one : AreLinesFor g (t ∷ []) front
  pub of_others : AreLinesFor g ts back
  pub are : lines ≡ front ++ back

pub split_lines : (g : List Triple) (t : Triple) (ts : List Triple) (lines : List Line) → AreLinesFor g (t ∷ ts) lines → AreSplit g t ts lines
split_lines g t ts lines h = by_first (inverted g (t ∷ ts) lines h)
  where
    by_first : AreInverted g (t ∷ ts) lines → AreSplit g t ts lines
    by_first (inl i) = record { front = []; back = lines; of_one = inside t [] [] i.0 no_lines; of_others = i.1; are = refl }
    by_first (inr o) = record { front = o.0 ∷ []; back = o.1; of_one = one_line t [] o.0 [] o.3 no_lines; of_others = o.4; are = o.2 }

-- the line of a triple, by whether its subject is nested

pub no_line : (g : List Triple) (t : Triple) (lines : List Line) → IsNested g t.subject → AreLinesFor g (t ∷ []) lines → lines ≡ []
no_line g t lines nested h = by_first (inverted g (t ∷ []) lines h)
  where
    by_first : AreInverted g (t ∷ []) lines → lines ≡ []
    by_first (inl i) = inverted g [] lines i.1
    by_first (inr o) = absurd (o.3.not_nested nested)

pub record IsOneLine (g : List Triple) (t : Triple) (lines : List Line) : Type 0 where
  pub form : Form
  pub object : IsFormOf g t.object form
  pub are : lines ≡ line_of t form ∷ []

line_is : (t : Triple) (line : Line) → t.subject ≡ line.subject → t.predicate ≡ line.predicate → line ≡ line_of t line.object
line_is t line s p =
    ap (λ (x : Term). record { subject = x; predicate = line.predicate; object = line.object }) (sym s)
    ∙ ap (λ (x : List ℕ). record { subject = t.subject; predicate = x; object = line.object }) (sym p)

pub only_line : (g : List Triple) (t : Triple) (lines : List Line) → (IsNested g t.subject → ⊥) → AreLinesFor g (t ∷ []) lines → IsOneLine g t lines
only_line g t lines not h = by_first (inverted g (t ∷ []) lines h)
  where
    by_first : AreInverted g (t ∷ []) lines → IsOneLine g t lines
    by_first (inl i) = absurd (not i.0)
    by_first (inr o) = record {
      form = o.0.object;
      object = o.3.object;
      are = o.2 ∙ ap (λ (more : List Line). o.0 ∷ more) (inverted g [] o.1 o.4) ∙ ap (λ (line : Line). line ∷ []) (line_is t o.0 o.3.subject o.3.predicate);
    }

module _ (g : List Triple) (prefixes : List Prefix) where
  abbrev pub texts : List Line → List ℕ
  texts lines = flat_map (line_text prefixes) lines

  pub record AreLinesLeft (start now : List ℕ) (rest : List Triple) : Type 0 where
    pub passed : List Triple
    pub split : g ≡ passed ++ rest
    pub formed : AreFormed passed
    pub text : (lines : List Line) → AreLinesFor g g lines → (more : List Line) × AreLinesFor g rest more × (start ++ texts lines ≡ now ++ texts more)

  pub lines_begin : (start : List ℕ) → AreLinesLeft start start g
  lines_begin start = record { passed = []; split = refl; formed = tt; text = λ lines are. (lines, are, refl) }

  module _ (start now : List ℕ) (rest : List Triple) (w : AreLinesLeft start now rest) (t : Triple) (behind : List Triple) (ahead_is : rest ≡ t ∷ behind) where
    record IsLineAhead (lines : List Line) : Type 0 where
      front : List Line
      more : List Line
      one : AreLinesFor g (t ∷ []) front
      others : AreLinesFor g behind more
      whole : start ++ texts lines ≡ now ++ (texts front ++ texts more)

    ahead : (lines : List Line) → AreLinesFor g g lines → IsLineAhead lines
    ahead lines are =
        let was = w.text lines are in
        let s = split_lines g t behind was.0 (subst (λ (ts : List Triple). AreLinesFor g ts was.0) ahead_is was.1) in
        record {
          front = s.front;
          more = s.back;
          one = s.of_one;
          others = s.of_others;
          whole = was.2 ∙ ap (λ (ls : List Line). now ++ texts ls) s.are ∙ ap (λ (cs : List ℕ). now ++ cs) (flat_map-append (line_text prefixes) s.front s.back);
        }

    pub lines_next : (new : List ℕ) → ((lines : List Line) → AreLinesFor g (t ∷ []) lines → new ≡ now ++ texts lines) → IsFormedTriple t → AreLinesLeft start new behind
    lines_next new added formed = record {
      passed = w.passed ++ t ∷ [];
      split = w.split ∙ ap (λ (ts : List Triple). w.passed ++ ts) ahead_is ∙ sym (append_assoc w.passed (t ∷ []) behind);
      formed = all_pushed IsFormedTriple w.passed t w.formed formed;
      text = λ lines are.
          let a = ahead lines are in
          (a.more, a.others, left_is start (texts lines) now (texts a.front) (texts a.more) a.whole ∙ ap (λ (cs : List ℕ). cs ++ texts a.more) (sym (added a.front a.one)));
    }

    pub lines_long : ((lines : List Line) → AreLinesFor g (t ∷ []) lines → IsTooLong (now ++ texts lines)) → (lines : List Line) → AreLinesFor g g lines → IsTooLong (start ++ texts lines)
    lines_long long lines are = let a = ahead lines are in left_long start (texts lines) now (texts a.front) (texts a.more) a.whole (long a.front a.one)

  pub lines_end : (start now : List ℕ) (rest : List Triple) → length rest ≡ 0 → AreLinesLeft start now rest → (lines : List Line) → AreLinesFor g g lines → now ≡ start ++ texts lines
  lines_end start now [] none w lines are =
      let was = w.text lines are in
      sym (was.2 ∙ ap (λ (ls : List Line). now ++ texts ls) (inverted g [] was.0 was.1) ∙ append-nil now)
  lines_end start now (t ∷ rest) none w lines are = absurd (omega (arith, none))

  pub all_formed : (start now : List ℕ) (rest : List Triple) → length rest ≡ 0 → AreLinesLeft start now rest → AreFormed g
  all_formed start now [] none w = subst AreFormed (sym (w.split ∙ append-nil w.passed)) w.formed
  all_formed start now (t ∷ rest) none w = absurd (omega (arith, none))

-- the parts of a line
module _ (prefixes : List Prefix) (t : Triple) (form : Form) (old : List ℕ) where
  abbrev s : List ℕ
  s = term_text prefixes t.subject

  abbrev p : List ℕ
  p = iri_text prefixes t.predicate

  abbrev o : List ℕ
  o = form_text prefixes form

  abbrev IsLong : Type 0
  IsLong = IsTooLong (old ++ line_text prefixes (line_of t form))

  pub subject_long : IsTooLong (old ++ s) → IsLong
  subject_long h = longer_by old s (codes " " ++ (p ++ (codes " " ++ (o ++ codes " .\n")))) h

  module _ (a : List ℕ) (first : a ≡ old ++ s) where
    pub space_long : IsTooLong (a ++ codes " ") → IsLong
    space_long h = longer_behind old s (codes " " ++ (p ++ (codes " " ++ (o ++ codes " .\n")))) a first (longer_by a (codes " ") (p ++ (codes " " ++ (o ++ codes " .\n"))) h)

    module _ (b : List ℕ) (second : b ≡ a ++ codes " ") where
      behind_subject : IsTooLong (b ++ (p ++ (codes " " ++ (o ++ codes " .\n")))) → IsLong
      behind_subject h = longer_behind old s (codes " " ++ (p ++ (codes " " ++ (o ++ codes " .\n")))) a first (longer_behind a (codes " ") (p ++ (codes " " ++ (o ++ codes " .\n"))) b second h)

      pub predicate_long : IsTooLong (b ++ p) → IsLong
      predicate_long h = behind_subject (longer_by b p (codes " " ++ (o ++ codes " .\n")) h)

      module _ (c : List ℕ) (third : c ≡ b ++ p) where
        pub second_space_long : IsTooLong (c ++ codes " ") → IsLong
        second_space_long h = behind_subject (longer_behind b p (codes " " ++ (o ++ codes " .\n")) c third (longer_by c (codes " ") (o ++ codes " .\n") h))

        module _ (d : List ℕ) (fourth : d ≡ c ++ codes " ") where
          pub object_long : IsTooLong (d ++ o) → IsLong
          object_long h = behind_subject (longer_behind b p (codes " " ++ (o ++ codes " .\n")) c third (longer_behind c (codes " ") (o ++ codes " .\n") d fourth (longer_by d o (codes " .\n") h)))

-- the line of a triple whose subject is not nested
module _ (g : List Triple) (prefixes : List Prefix) (t : Triple) (old : List ℕ) (not : IsNested g t.subject → ⊥) where
  one_text : (lines : List Line) (l : IsOneLine g t lines) → line_text prefixes (line_of t l.form) ≡ flat_map (line_text prefixes) lines
  one_text lines l = sym (append-nil (line_text prefixes (line_of t l.form))) ∙ ap (flat_map (line_text prefixes)) (sym l.are)

  pub line_done : (new : List ℕ) → ((form : Form) → IsFormOf g t.object form → new ≡ old ++ line_text prefixes (line_of t form)) → (lines : List Line) → AreLinesFor g (t ∷ []) lines → new ≡ old ++ flat_map (line_text prefixes) lines
  line_done new added lines are = let l = only_line g t lines not are in added l.form l.object ∙ ap (λ (cs : List ℕ). old ++ cs) (one_text lines l)

  pub line_long : ((form : Form) → IsFormOf g t.object form → IsTooLong (old ++ line_text prefixes (line_of t form))) → (lines : List Line) → AreLinesFor g (t ∷ []) lines → IsTooLong (old ++ flat_map (line_text prefixes) lines)
  line_long long lines are = let l = only_line g t lines not are in subst (λ (cs : List ℕ). IsTooLong (old ++ cs)) (one_text lines l) (long l.form l.object)

pub no_line_done : (g : List Triple) (prefixes : List Prefix) (t : Triple) (old : List ℕ) → IsNested g t.subject → (lines : List Line) → AreLinesFor g (t ∷ []) lines → old ≡ old ++ flat_map (line_text prefixes) lines
no_line_done g prefixes t old nested lines are = sym (append-nil old) ∙ ap (λ (ls : List Line). old ++ flat_map (line_text prefixes) ls) (sym (no_line g t lines nested are))
