-- Frames that are opened and shut, nests, and lists: what acts make where a piece is read.
use Rattle.std.proofs.Common.{◌≡◌, ◌+◌, ◌-◌, ◌<◌, ℕ, suc, Bool, true, false, Ok, Err, List, [], ◌∷◌, ◌++◌, codes, refl, sym, ap, ◌∙◌, subst, arith}
use Rattle.std.specs.Prelude.{if◌then◌else◌, nat_le, reverse}
use Rattle.std.specs.List.{AllByRecursion}
use Rattle.std.proofs.lemmas.Bool.{lt-leb}
use Rattle.std.proofs.lemmas.List.{append_assoc, append-nil, reverse-append}
use Rattle.grammar.specs.declared.symbol.Symbol.{Symbol}
use Rattle.grammar.specs.declared.symbol.Symbol.TheVariants.{Act, Need, Rule}
use Rattle.man_grammar.specs.Acts.{act_number}
use Rattle.man_grammar.specs.ClassNumbers.{class_number, word_of}
use Rattle.man_grammar.specs.declared.act.Act.TheVariants as act_named
use Rattle.man_grammar.specs.declared.class.Class.{Class}
use Rattle.man_grammar.specs.declared.class.Class.TheVariants as class
use Rattle.man_raw.specs.Opened.{joined, most_nests, raw_of}
use Rattle.man_raw.specs.Raws.{RawTree, place_of, trees_of}
use Rattle.man_raw.specs.declared.form.Form.{Form}
use Rattle.man_raw.specs.declared.form.Form.TheVariants as form_named
use Rattle.man_raw.specs.declared.form.What.TheVariants as what
use Rattle.man_text.specs.Text.{behind, text}
use Rattle.man_text.specs.Undecided.{piece}
use Rattle.man_text.specs.Words.{spaced}
use Rattle.owl_reader.specs.declared.fault.TokenFault.TheVariants.{TooDeep}
use Rattle.owl_tokens.specs.declared.token.Sign.TheVariants as sign
use Rattle.man_read_back.proofs.Reading.{act}
use Rattle.man_read_back.proofs.Said.{Goes, GoesOn, HasRoom, Point, Reader, Says, frame_of, inside, nest, put, there}
use Rattle.man_read_back.proofs.Steps as steps
use Rattle.man_read_back.proofs.Stops.{Ends}
use Rattle.man_read_back.proofs.Words.{is_word_class, mark, word}

-- ---- parts, the last one first

-- these behind the parts that are there
abbrev pub onto : {X : Type 0} → List X → List X → List X
onto [] parts = parts
onto (t ∷ ts) parts = onto ts (t ∷ parts)

abbrev pub put_all : List RawTree → Point → Point
put_all ts p = record p { parts = onto ts p.parts }

pub onto_reversed : {X : Type 0} (ts parts : List X) → reverse (onto ts parts) ≡ reverse parts ++ ts
onto_reversed [] parts = sym (append-nil (reverse parts))
onto_reversed {X} (t ∷ ts) parts =
    onto_reversed ts (t ∷ parts)
    ∙ ap (λ (l : List X). l ++ ts) (reverse-append (t ∷ []) parts)
    ∙ append_assoc (reverse parts) (t ∷ []) ts

parts_are : (f : Form) (ts : List RawTree) → raw_of f 0 (onto ts []) ≡ piece (what.Form f) ts
parts_are f ts = ap (λ (l : List RawTree). piece (what.Form f) l) (onto_reversed ts [])

-- two operands or more
more_joined : (f : Form) (ts : List RawTree) (a b : RawTree) (parts : List RawTree) → joined f 0 (onto ts (a ∷ b ∷ parts)) ≡ raw_of f 0 (onto ts (a ∷ b ∷ parts))
more_joined f [] a b parts = refl
more_joined f (t ∷ ts) a b parts = more_joined f ts t a (b ∷ parts)

pub joined_are : (f : Form) (t u : RawTree) (ts : List RawTree) → joined f 0 (onto (t ∷ u ∷ ts) []) ≡ piece (what.Form f) (t ∷ u ∷ ts)
joined_are f t u ts = more_joined f ts u t [] ∙ parts_are f (t ∷ u ∷ ts)

-- ---- room for nests

pub less_room : (p : Point) (n : ℕ) → HasRoom p n → HasRoom p 0
less_room p n h = omega (arith, h)

pub room_inside : (p : Point) (n : ℕ) → HasRoom p (suc n) → HasRoom (nest p) n
room_inside p n h = omega (arith, h)

pub room_passes : (p : Point) (n : ℕ) → HasRoom p (suc n) → nat_le most_nests p.nests ≡ false
room_passes p n h = let less : p.nests < most_nests = omega (arith, h) in lt-leb most_nests p.nests less

-- ---- acts

abbrev pub is_connective : Form → Bool
is_connective form_named.Or = true
is_connective form_named.And = true
is_connective f = false

module _ (r : Reader) {ss : List Symbol} {form cs : List ℕ} where
  pub opening : (p : Point) → Goes r ss (inside [] p) form cs → Goes r (Act (act_number act_named.Open) ∷ ss) p form cs
  opening p k = act refl (λ x. refl) k

  pub nesting : (p : Point) (n : ℕ) → HasRoom p (suc n) → Goes r ss (nest p) form cs → Goes r (Act (act_number act_named.Nest) ∷ ss) p form cs
  nesting p n few k =
      let is : (if nat_le most_nests p.nests then Err TooDeep else Ok (there r (nest p) form)) ≡ Ok (there r (nest p) form) =
      ap (λ (b : Bool). if b then Err TooDeep else Ok (there r (nest p) form)) (room_passes p n few) in
      act is (λ x. is) k

  pub unnesting : (p : Point) → Goes r ss p form cs → Goes r (Act (act_number act_named.Unnest) ∷ ss) (nest p) form cs
  unnesting p k =
      let same : p.nests + 1 - 1 ≡ p.nests = omega arith in
      let is : Ok (there r (record p { nests = p.nests + 1 - 1 }) form) ≡ Ok (there r p form) = ap (λ (n : ℕ). Ok (there r (record p { nests = n }) form)) same in
      act is (λ x. is) k

  -- the last part begins a frame
  pub wrapping : (t : RawTree) → place_of t ≡ 0 → (p : Point) → Goes r ss (inside (t ∷ []) p) form cs → Goes r (Act (act_number act_named.Wrap) ∷ ss) (put t p) form cs
  wrapping t first p k =
      let is = ap (λ (n : ℕ). Ok (record (there r p form) { opening = record { frames = record { at = n; parts = t ∷ [] } ∷ frame_of p.parts ∷ p.frames; nests = p.nests } })) first in
      act is (λ x. is) k

  pub shutting : (f : Form) → is_connective f ≡ false → (parts : List RawTree) (p : Point) → Goes r ss (put (raw_of f 0 parts) p) form cs → Goes r (Act (act_number (act_named.Shut f)) ∷ ss) (inside parts p) form cs
  shutting form_named.Or h parts p k = absurd (cc)
  shutting form_named.And h parts p k = absurd (cc)
  shutting f h parts p k = act refl (λ x. refl) k

  pub shut_all : (f : Form) → is_connective f ≡ false → (ts : List RawTree) (p : Point) → Goes r ss (put (piece (what.Form f) ts) p) form cs → Goes r (Act (act_number (act_named.Shut f)) ∷ ss) (inside (onto ts []) p) form cs
  shut_all f h ts p k = shutting f h (onto ts []) p (subst (λ (t : RawTree). Goes r ss (put t p) form cs) (sym (parts_are f ts)) k)

  -- one operand is itself
  pub shutting_one : (f : Form) → is_connective f ≡ true → (t : RawTree) (p : Point) → Goes r ss (put t p) form cs → Goes r (Act (act_number (act_named.Shut f)) ∷ ss) (inside (t ∷ []) p) form cs
  shutting_one form_named.Or h t p k = act refl (λ x. refl) k
  shutting_one form_named.And h t p k = act refl (λ x. refl) k
  shutting_one f h t p k = absurd (cc)

  pub shutting_more : (f : Form) → is_connective f ≡ true → (t u : RawTree) (ts : List RawTree) (p : Point) → Goes r ss (put (piece (what.Form f) (t ∷ u ∷ ts)) p) form cs
      → Goes r (Act (act_number (act_named.Shut f)) ∷ ss) (inside (onto (t ∷ u ∷ ts) []) p) form cs
  shutting_more form_named.Or h t u ts p k = let is = ap (λ (x : RawTree). Ok (there r (put x p) form)) (joined_are form_named.Or t u ts) in act is (λ x. is) k
  shutting_more form_named.And h t u ts p k = let is = ap (λ (x : RawTree). Ok (there r (put x p) form)) (joined_are form_named.And t u ts) in act is (λ x. is) k
  shutting_more f h t u ts p k = absurd (cc)

  -- a word with a space on each side
  pub spaced_word : (c : Class) → is_word_class c ≡ true → {p : Point} → Goes r ss p form cs → Goes r (Need (class_number c) ∷ ss) p form ((spaced c).first ++ cs)
  spaced_word c is {p = p} k =
      steps.space refl (subst (Goes r (Need (class_number c) ∷ ss) p form) (sym (append_assoc (word_of c) (codes " ") cs)) (word c is refl (steps.space refl k)))

  pub comma : {p : Point} → Goes r ss p form cs → Goes r (Need (class_number class.Comma) ∷ ss) p form (codes ", " ++ cs)
  comma k = mark sign.Comma (codes ",") refl refl (steps.space refl k)

-- ---- lists

module _ (r : Reader) (others : ℕ) (gap : List ℕ) (item : List Symbol) (need : ℕ)
    (step : (p : Point) (ss : List Symbol) (form cs : List ℕ) → Goes r (item ++ (Rule others ∷ ss)) p form cs → Goes r (Rule others ∷ ss) p form (gap ++ cs))
    (gap_ends : (cs : List ℕ) → Ends (gap ++ cs)) where
  pub others_end : (ts : List RawTree) (rest : List ℕ) → Ends rest → Ends (behind r.written gap gap (trees_of ts) rest)
  others_end [] rest ends = ends
  others_end (t ∷ ts) rest ends = gap_ends (text r.written t (behind r.written gap gap (trees_of ts) rest))

  pub says_others : (ts : List RawTree) → AllByRecursion (λ t. Says r item t need) ts → (p : Point) (ss : List Symbol) (rest : List ℕ) → Ends rest → HasRoom p need
      → GoesOn r (Rule others ∷ ss) (put_all ts p) rest → GoesOn r (Rule others ∷ ss) p (behind r.written gap gap (trees_of ts) rest)
  says_others [] h p ss rest ends few k form = k form
  says_others (t ∷ ts) h p ss rest ends few k form =
      let after = behind r.written gap gap (trees_of ts) rest in
      step p ss form (text r.written t after) (h.0 p (Rule others ∷ ss) after (others_end ts rest ends) few (says_others ts h.1 (put t p) ss rest ends few k) form)

  -- the first of them, and then the others
  pub says_list : (t : RawTree) (ts : List RawTree) → AllByRecursion (λ t. Says r item t need) (t ∷ ts) → (p : Point) (ss : List Symbol) (rest : List ℕ) → Ends rest → HasRoom p need
      → GoesOn r (Rule others ∷ ss) (put_all (t ∷ ts) p) rest → GoesOn r (item ++ (Rule others ∷ ss)) p (text r.written t (behind r.written gap gap (trees_of ts) rest))
  says_list t ts h p ss rest ends few k form =
      h.0 p (Rule others ∷ ss) (behind r.written gap gap (trees_of ts) rest) (others_end ts rest ends) few (says_others ts h.1 (put t p) ss rest ends few k) form

-- what needs no nests may stand where there is room for some
pub with_room : (r : Reader) (symbols : List Symbol) (t : RawTree) (n : ℕ) → Says r symbols t 0 → Says r symbols t n
with_room r symbols t n h p ss rest ends few k = h p ss rest ends (less_room p n few) k

pub each_as : (Each Other : RawTree → Type 0) → ((t : RawTree) → Each t → Other t) → (ts : List RawTree) → AllByRecursion Each ts → AllByRecursion Other ts
each_as Each Other f [] h = tt
each_as Each Other f (t ∷ ts) h = (f t h.0, each_as Each Other f ts h.1)

pub each_says : (r : Reader) (symbols : List Symbol) (n : ℕ) (Each : RawTree → Type 0) → ((t : RawTree) → Each t → Says r symbols t 0) → (ts : List RawTree) → AllByRecursion Each ts → AllByRecursion (λ t. Says r symbols t n) ts
each_says r symbols n Each says = each_as Each (λ t. Says r symbols t n) (λ t h. with_room r symbols t n (says t h))
