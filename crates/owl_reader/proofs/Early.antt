-- Tokens that white space follows are not held back.
use Rattle.std.proofs.Common.{◌≡◌, inl, inr, ℕ, ◌+◌, Bool, true, false, Option, None, Some, List, [], ◌∷◌, ◌++◌, length, map, get_or, refl, sym, ap, ◌∙◌, subst, arith}
use Rattle.std.specs.Prelude.{◌==◌, ◌||◌, if◌then◌else◌}
use Rattle.std.specs.List.{list_all}
use Rattle.std.specs.Str.{encode_utf8_all}
use Rattle.std.proofs.lemmas.Bool.{eqb-true, or_cases}
use Rattle.std.proofs.lemmas.List.{append_assoc, append-nil, get_or-append-add, length-append}
use Rattle.std.proofs.lemmas.Str.{encodes-append}
use Rattle.grammar.specs.Grammars.{Entry, has_rule}
use Rattle.grammar.specs.Parsing.{Parsing}
use Rattle.grammar.specs.Predicting.{is_predictive}
use Rattle.grammar.proofs.PredictiveLaws.{predictive}
use Rattle.owl_characters.proofs.AsciiLaws.{ascii_bytes}
use Rattle.owl_characters.proofs.CutLaws.{same_seam}
use Rattle.owl_characters.specs.Iri.{is_ascii}
use Rattle.owl_characters.specs.Utf8.{Decodes, behind_mark, is_mark, mark_size, size}
use Rattle.owl_characters.proofs.Utf8Laws.{scalars_behind, size_append, size_is}
use Rattle.owl_lexer.proofs.BytesLaws.{same_decoded}
use Rattle.owl_lexer.specs.Lexing.{Begun, Continues, EndWith, HoldsNoEnd, Lexing, OneEnds, SplitsBehind}
use Rattle.owl_lexer.specs.Splitting.{IsLongest, OneEndsFrom, Splits, SplitsFrom, is_space}
use Rattle.owl_lexer.specs.Words.{HoldsOne}
use Rattle.owl_lexer.proofs.WordLaws.{holds_within}
use Rattle.owl_lexer.specs.declared.fault.LexFault.{LexFault}
use Rattle.owl_lexer.specs.declared.placed.Placed.{Placed}
use Rattle.owl_reader.specs.Defects.{Begin, HasDefectBeforeSpace, HasNoneBeforeSpace, IsRefused, end_from, end_in}
use Rattle.owl_reader.specs.Early.{TellsEarly}
use Rattle.owl_reader.proofs.OneDefectLaws.{Fronts, fronts, never_taken}
use Rattle.owl_reader.proofs.OneDefectLaws.Fronts.{alike, later, sooner}
use Rattle.owl_reader.specs.Readings.{IsOpen, Reading}
use Rattle.owl_reader.specs.Steps.{Step, tokens_in}
use Rattle.owl_reader.specs.Syntaxes.{HoldsQuotes, Rules}
use Rattle.owl_reader.specs.declared.fault.ReadFault.{ReadFault}
use Rattle.owl_reader.specs.declared.item.Item.{Item}
use Rattle.owl_reader.proofs.Taking.{begun}

-- ---- white space

space_ascii : (c : ℕ) → is_space c ≡ true → list_all is_ascii (c ∷ []) ≡ true
space_ascii c h = elim (or_cases (32 == c) ((9 == c) || ((10 == c) || ((13 == c) || false))) h) [
  | inl e ↦ at 32 (eqb-true 32 c e) refl
  | inr k ↦ elim (or_cases (9 == c) ((10 == c) || ((13 == c) || false)) k) [
    | inl e ↦ at 9 (eqb-true 9 c e) refl
    | inr l ↦ elim (or_cases (10 == c) ((13 == c) || false) l) [
      | inl e ↦ at 10 (eqb-true 10 c e) refl
      | inr m ↦ elim (or_cases (13 == c) false m) [ inl e ↦ at 13 (eqb-true 13 c e) refl | inr none ↦ absurd (cc) ]
    ]
  ]
]
  where
    at : (d : ℕ) → d ≡ c → list_all is_ascii (d ∷ []) ≡ true → list_all is_ascii (c ∷ []) ≡ true
    at d e a = subst (λ (x : ℕ). list_all is_ascii (x ∷ []) ≡ true) e a

-- behind characters stands white space, which is one byte
space_behind : (front more : List ℕ) (c : ℕ) → is_space c ≡ true → encode_utf8_all front ++ c ∷ more ≡ encode_utf8_all (front ++ c ∷ []) ++ more
space_behind front more c w =
    sym (append_assoc (encode_utf8_all front) (c ∷ []) more)
    ∙ ap (λ (l : List ℕ). l ++ more) (ap (λ (l : List ℕ). encode_utf8_all front ++ l) (sym (ascii_bytes (c ∷ []) (space_ascii c w))) ∙ sym (encodes-append front (c ∷ [])))

no_space : (bytes more : List ℕ) (c : ℕ) → [] ≡ bytes ++ c ∷ more → ⊥
no_space [] more c e = cc
no_space (b ∷ bytes) more c e = cc

-- where nothing was fed
pub none_held : {T : Type 0} (spells : T → List ℕ → Type 0) (words : List (List ℕ)) (begun : Begun) → begun.held ≡ [] → HoldsNoEnd spells words begun
none_held spells words begun none quotes more tokens ending continues front rest c e w ends =
    no_space (encode_utf8_all front) rest c (sym none ∙ e ∙ sym (space_behind front rest c w))

-- ---- where a token stands

record TokenIn {T : Type 0} (spells : T → List ℕ → Type 0) (place : ℕ) (cs tail : List ℕ) (before : List (Placed T)) (p : Placed T) (others : List (Placed T)) (ending : Option LexFault) (s : SplitsFrom spells place cs tail (before ++ p ∷ others) ending) : Type 0 where
  front : List ℕ
  spelling : List ℕ
  rest : List ℕ
  parts : cs ≡ front ++ (spelling ++ rest)
  at : p.at ≡ place + size front
  token : spells p.token spelling
  longest : IsLongest spells spelling rest
  end : end_from spells place cs tail before p others ending s ≡ place + size (front ++ spelling)
  ends : OneEndsFrom spells place cs tail (before ++ p ∷ others) ending s (place + size (front ++ spelling))

moved : (place next : ℕ) (gap spelling more : List ℕ) → next ≡ (place + size gap) + size spelling → next + size more ≡ place + size ((gap ++ spelling) ++ more)
moved place next gap spelling more e =
    let all = size_append (gap ++ spelling) more in
    let both = size_append gap spelling in
    omega arith

token_in : {T : Type 0} (spells : T → List ℕ → Type 0) (place : ℕ) (cs tail : List ℕ) (before : List (Placed T)) (p : Placed T) (others : List (Placed T)) (ending : Option LexFault) (s : SplitsFrom spells place cs tail (before ++ p ∷ others) ending) → TokenIn spells place cs tail before p others ending s
token_in spells place cs tail [] p others ending s =
    let b = s.2 in
    let end : s.0 ≡ place + size (b.gap ++ b.spelling) = let at = b.at in let ends = b.ends in let both = size_append b.gap b.spelling in omega arith in
    record { front = b.gap; spelling = b.spelling; rest = s.1; parts = b.parts; at = b.at; token = b.token; longest = b.longest; end = end; ends = inl end }
token_in spells place cs tail (first ∷ before) p others ending s =
    let b = s.2 in
    let t = token_in spells s.0 s.1 tail before p others ending s.3 in
    let next : s.0 ≡ (place + size b.gap) + size b.spelling = let at = b.at in let ends = b.ends in omega arith in
    let moves = moved place s.0 b.gap b.spelling in
    let end = moves (t.front ++ t.spelling) next ∙ ap (λ (l : List ℕ). place + size l) (sym (append_assoc (b.gap ++ b.spelling) t.front t.spelling)) in
    record {
      front = (b.gap ++ b.spelling) ++ t.front;
      spelling = t.spelling;
      rest = t.rest;
      parts =
          b.parts ∙ sym (append_assoc b.gap b.spelling s.1) ∙ ap (λ (l : List ℕ). (b.gap ++ b.spelling) ++ l) t.parts
          ∙ sym (append_assoc (b.gap ++ b.spelling) t.front (t.spelling ++ t.rest));
      at = t.at ∙ moves t.front next;
      token = t.token;
      longest = t.longest;
      end = t.end ∙ end;
      ends = inr (subst (λ (n : ℕ). OneEndsFrom spells s.0 s.1 tail (before ++ p ∷ others) ending s.3 n) end t.ends);
    }

-- a byte order mark, or nothing, and what stands behind it
record Marked (cs behind : List ℕ) (count : ℕ) : Type 0 where
  mark : List ℕ
  parts : cs ≡ mark ++ behind
  wide : size mark ≡ count

marked_if : (b : Bool) (c : ℕ) (cs : List ℕ) → (b ≡ true → size (c ∷ []) ≡ 3) → Marked (c ∷ cs) (if b then cs else c ∷ cs) (if b then 3 else 0)
marked_if true c cs h = record { mark = c ∷ []; parts = refl; wide = h refl }
marked_if false c cs h = record { mark = []; parts = refl; wide = refl }

marked : (cs : List ℕ) → Marked cs (behind_mark cs) (mark_size cs)
marked [] = record { mark = []; parts = refl; wide = refl }
marked (c ∷ cs) = marked_if (is_mark c) c cs (λ e. ap (λ (n : ℕ). size (n ∷ [])) (eqb-true c 0xFEFF e))

-- A token in bytes of which the first one stands at this place, and what is so of the byte behind it.
record StandsIn {T : Type 0} (spells : T → List ℕ → Type 0) (origin : ℕ) (bytes : List ℕ) (p : Placed T) (Ends : ℕ → Type 0) : Type 0 where
  front : List ℕ
  spelling : List ℕ
  rest : List ℕ
  tail : List ℕ
  decodes : Decodes bytes (front ++ (spelling ++ rest)) tail
  at : p.at ≡ origin + size front
  token : spells p.token spelling
  longest : IsLongest spells spelling rest
  ends : Ends (origin + size (front ++ spelling))

stands_behind : {T : Type 0} {spells : T → List ℕ → Type 0} {place origin : ℕ} {bytes characters cs tail : List ℕ} {before others : List (Placed T)} {p : Placed T} {ending : Option LexFault} {s : SplitsFrom spells place cs tail (before ++ p ∷ others) ending} (Ends : ℕ → Type 0) → (t : TokenIn spells place cs tail before p others ending s) → Decodes bytes characters tail → (mark : List ℕ) → characters ≡ mark ++ cs → place ≡ origin + size mark → Ends (place + size (t.front ++ t.spelling)) → StandsIn spells origin bytes p Ends
stands_behind {place = place} {origin = origin} {bytes = bytes} {tail = tail} Ends t d mark parts from ends =
    let wide = size_append mark t.front in
    let wider = size_append mark (t.front ++ t.spelling) in
    let at = t.at in
    let next : place + size (t.front ++ t.spelling) ≡ origin + size (mark ++ (t.front ++ t.spelling)) = omega arith in
    record {
      front = mark ++ t.front;
      spelling = t.spelling;
      rest = t.rest;
      tail = tail;
      decodes = subst (λ (l : List ℕ). Decodes bytes l tail) (parts ∙ ap (λ (l : List ℕ). mark ++ l) t.parts ∙ sym (append_assoc mark t.front (t.spelling ++ t.rest))) d;
      at = omega arith;
      token = t.token;
      longest = t.longest;
      ends = subst Ends (next ∙ ap (λ (l : List ℕ). origin + size l) (sym (append_assoc mark t.front t.spelling))) ends;
    }

-- among all bytes
stands_in : {T : Type 0} {spells : T → List ℕ → Type 0} {bytes : List ℕ} (before : List (Placed T)) (p : Placed T) (others : List (Placed T)) (ending : Option LexFault) (s : Splits spells bytes (before ++ p ∷ others) ending) → StandsIn spells 0 bytes p (λ n. end_in spells bytes before p others ending s ≡ n)
stands_in {spells = spells} {bytes = bytes} before p others ending s =
    let m = marked s.characters in
    let t = token_in spells (mark_size s.characters) (behind_mark s.characters) s.tail before p others ending s.splits in
    let wide : mark_size s.characters ≡ 0 + size m.mark = let same = m.wide in omega arith in
    stands_behind (λ n. end_in spells bytes before p others ending s ≡ n) t s.decodes m.mark m.parts wide t.end

-- among those that a lexer holds
abbrev origin : Bool → ℕ → ℕ
origin true at = 0
origin false at = at

stands_held : {T : Type 0} {spells : T → List ℕ → Type 0} (fresh : Bool) (at : ℕ) (bytes : List ℕ) (before : List (Placed T)) (p : Placed T) (others : List (Placed T)) (ending : Option LexFault) (s : SplitsBehind spells fresh at bytes (before ++ p ∷ others) ending) → StandsIn spells (origin fresh at) bytes p (OneEnds spells fresh at bytes (before ++ p ∷ others) ending s)
stands_held {spells = spells} true at bytes before p others ending s =
    let m = marked s.characters in
    let t = token_in spells (mark_size s.characters) (behind_mark s.characters) s.tail before p others ending s.splits in
    let wide : mark_size s.characters ≡ 0 + size m.mark = let same = m.wide in omega arith in
    stands_behind (OneEnds spells true at bytes (before ++ p ∷ others) ending s) t s.decodes m.mark m.parts wide t.ends
stands_held {spells = spells} false at bytes before p others ending s =
    let t = token_in spells at s.characters s.tail before p others ending s.splits in
    let from : at ≡ at + size [] = omega arith in
    stands_behind (OneEnds spells false at bytes (before ++ p ∷ others) ending s) t s.decodes [] refl from t.ends

-- ---- one token, seen in all bytes and in the end of them

behind_front : (bytes front cs tail : List ℕ) → Decodes bytes (front ++ cs) tail → bytes ≡ encode_utf8_all front ++ (encode_utf8_all cs ++ tail)
behind_front bytes front cs tail d = d.parts ∙ ap (λ (l : List ℕ). l ++ tail) (encodes-append front cs) ∙ append_assoc (encode_utf8_all front) (encode_utf8_all cs) tail

decodes_behind : (bytes front cs tail : List ℕ) → Decodes bytes (front ++ cs) tail → Decodes (encode_utf8_all cs ++ tail) cs tail
decodes_behind bytes front cs tail d = record { parts = refl; scalars = scalars_behind front cs d.scalars; stops = d.stops }

-- the characters at its place are the same
same_behind : {T : Type 0} {spells : T → List ℕ → Type 0} {bytes held : List ℕ} {p : Placed T} {E F : ℕ → Type 0} (front : List ℕ) (v : StandsIn spells 0 bytes p E) (w : StandsIn spells (length front) held p F) → bytes ≡ front ++ held → v.spelling ++ v.rest ≡ w.spelling ++ w.rest
same_behind {bytes = bytes} {held = held} front v w e =
    let cs = v.spelling ++ v.rest in
    let ds = w.spelling ++ w.rest in
    let one = behind_front bytes v.front cs v.tail v.decodes in
    let two : bytes ≡ (front ++ encode_utf8_all w.front) ++ (encode_utf8_all ds ++ w.tail) =
    e ∙ ap (λ (l : List ℕ). front ++ l) (behind_front held w.front ds w.tail w.decodes) ∙ sym (append_assoc front (encode_utf8_all w.front) (encode_utf8_all ds ++ w.tail)) in
    let at = v.at in
    let also = w.at in
    let sizes = size_is v.front in
    let others = length-append front (encode_utf8_all w.front) in
    let more = size_is w.front in
    let seam = same_seam (encode_utf8_all v.front) (front ++ encode_utf8_all w.front) (encode_utf8_all cs ++ v.tail) (encode_utf8_all ds ++ w.tail) (omega arith) (omega arith) (sym one ∙ two) in
    (same_decoded (encode_utf8_all cs ++ v.tail) cs ds v.tail w.tail (decodes_behind bytes v.front cs v.tail v.decodes)
    (subst (λ (l : List ℕ). Decodes l ds w.tail) (sym seam.rest) (decodes_behind held w.front ds w.tail w.decodes))).characters

-- and so is what is written for it, so that it ends at one byte
same_end : {T : Type 0} {spells : T → List ℕ → Type 0} {bytes held : List ℕ} {p : Placed T} {E F : ℕ → Type 0} (front : List ℕ) (v : StandsIn spells 0 bytes p E) (w : StandsIn spells (length front) held p F) → bytes ≡ front ++ held → 0 + size (v.front ++ v.spelling) ≡ length front + size (w.front ++ w.spelling)
same_end {p = p} front v w e =
    let same = same_behind front v w e in
    let less = w.longest p.token v.spelling v.rest v.token (sym same) in
    let more = v.longest p.token w.spelling w.rest w.token same in
    let spelling = ap size (same_seam v.spelling w.spelling v.rest w.rest less more same).front in
    let at = v.at in
    let also = w.at in
    let sizes = size_append v.front v.spelling in
    let others = size_append w.front w.spelling in
    omega arith

-- ---- white space behind it

headed : (l : List ℕ) → is_space (get_or l 0 0) ≡ true → (c : ℕ) × (more : List ℕ) × (l ≡ c ∷ more) × (is_space c ≡ true)
headed [] h = absurd (cc)
headed (c ∷ more) h = (c, more, refl, h)

space_at : (bytes held front both behind : List ℕ) → bytes ≡ front ++ held → held ≡ encode_utf8_all both ++ behind → is_space (get_or bytes (length front + size both) 0) ≡ true → (c : ℕ) × (more : List ℕ) × (held ≡ encode_utf8_all (both ++ c ∷ []) ++ more) × (is_space c ≡ true)
space_at bytes held front both behind e parts space =
    let whole : bytes ≡ (front ++ encode_utf8_all both) ++ behind = e ∙ ap (λ (l : List ℕ). front ++ l) parts ∙ sym (append_assoc front (encode_utf8_all both) behind) in
    let place : length front + size both ≡ length (front ++ encode_utf8_all both) + 0 = omega (arith, length-append front (encode_utf8_all both), size_is both) in
    let first : get_or bytes (length front + size both) 0 ≡ get_or behind 0 0 = (λ i. get_or (whole i) (place i) 0) ∙ get_or-append-add (front ++ encode_utf8_all both) behind 0 0 in
    let head = headed behind (subst (λ (n : ℕ). is_space n ≡ true) first space) in
    (head.0, head.1, parts ∙ ap (λ (l : List ℕ). encode_utf8_all both ++ l) head.2 ∙ space_behind both head.1 head.0 head.3, head.3)

held_space : {T : Type 0} {spells : T → List ℕ → Type 0} {bytes held : List ℕ} {p : Placed T} {F : ℕ → Type 0} (front : List ℕ) (w : StandsIn spells (length front) held p F) → bytes ≡ front ++ held → is_space (get_or bytes (length front + size (w.front ++ w.spelling)) 0) ≡ true → (c : ℕ) × (more : List ℕ) × (held ≡ encode_utf8_all ((w.front ++ w.spelling) ++ c ∷ []) ++ more) × (is_space c ≡ true)
held_space {bytes = bytes} {held = held} front w e space =
    let both = w.front ++ w.spelling in
    let decodes = subst (λ (l : List ℕ). Decodes held l w.tail) (sym (append_assoc w.front w.spelling w.rest)) w.decodes in
    space_at bytes held front both (encode_utf8_all w.rest ++ w.tail) e (behind_front held both w.rest w.tail decodes) space

-- ---- the token that is refused comes of what is begun

record ComesOf {T : Type 0} (spells : T → List ℕ → Type 0) (begun : Begun) (p : Placed T) (others : List (Placed T)) (ending : Option LexFault) : Type 0 where
  before : List (Placed T)
  continues : Continues spells begun [] (before ++ p ∷ others) ending

comes_behind : {T : Type 0} {spells : T → List ℕ → Type 0} {g : List Entry} {rules : Rules T} {b : Begun} {steps taken : List (Step T)} {p : Placed T} {others rest : List (Placed T)} {ending : Option LexFault} {r : ReadFault} → is_predictive g ≡ true → has_rule g rules.document ≡ true → Begin g rules taken → IsRefused g rules steps p.at (Some p) r → Continues spells b [] rest ending → Fronts steps (p ∷ others) taken rest → ComesOf spells b p others ending
comes_behind {T} {spells = spells} {b = b} {ending = ending} predicts known begin refused k (alike tokens same) =
    record { before = []; continues = subst (λ (l : List (Placed T)). Continues spells b [] l ending) (sym same) k }
comes_behind {T} {g = g} {rules = rules} {steps = steps} {p = p} {r = r} predicts known begin refused k (sooner front s back parts tokens first) =
    let same : p ≡ s.token = cc in
    absurd (never_taken (predictive g predicts) known steps front s back tokens (subst (Begin g rules) parts begin)
    (subst (λ (t : Placed T). IsRefused g rules steps t.at (Some t) r) same refused))
comes_behind {T} {spells = spells} {b = b} {ending = ending} predicts known begin refused k (later front s back parts tokens first) =
    record { before = s.token ∷ tokens_in back; continues = subst (λ (l : List (Placed T)). Continues spells b [] l ending) first k }

comes_of : {T S : Type 0} {spells : T → List ℕ → Type 0} {g : List Entry} {rules : Rules T} {Made : List (Step T) → S → Type 0} {lexing : Lexing} {parsing : Parsing} {made : S} {last : Option Item} {bytes : List ℕ} {r : ReadFault} → is_predictive g ≡ true → has_rule g rules.document ≡ true → IsOpen spells g rules Made lexing parsing made last bytes → (d : HasDefectBeforeSpace spells g rules bytes r) → ComesOf spells lexing.begun d.token d.others d.ending
comes_of {spells = spells} {bytes = bytes} predicts known o d =
    let all = tokens_in d.steps ++ d.token ∷ d.others in
    let rest = o.gives.all [] all d.ending (subst (λ (l : List ℕ). Splits spells l all d.ending) (sym (append-nil bytes)) d.splits) in
    comes_behind predicts known (begun o.stands) d.refused rest.2 (fronts d.steps (d.token ∷ d.others) o.steps rest.0 rest.1)

-- ---- so it is not held back

begun_at : {T S : Type 0} {spells : T → List ℕ → Type 0} {g : List Entry} {rules : Rules T} {Made : List (Step T) → S → Type 0} {lexing : Lexing} {parsing : Parsing} {made : S} {last : Option Item} {bytes : List ℕ} → IsOpen spells g rules Made lexing parsing made last bytes → (e : EndWith bytes lexing.begun) → lexing.begun.at ≡ length e.front
begun_at {lexing = lexing} o e =
    let place = o.place in
    let sizes = ap (λ (l : List ℕ). length l) e.parts ∙ length-append e.front lexing.begun.held in
    omega arith

origin_is : (fresh : Bool) (at : ℕ) (front : List ℕ) → at ≡ length front → (fresh ≡ true → front ≡ []) → origin fresh at ≡ length front
origin_is true at front e none = sym (ap (λ (l : List ℕ). length l) (none refl))
origin_is false at front e none = e

no_defect : {T S : Type 0} {spells : T → List ℕ → Type 0} {g : List Entry} {rules : Rules T} {Made : List (Step T) → S → Type 0} {lexing : Lexing} {parsing : Parsing} {made : S} {last : Option Item} {bytes : List ℕ} {r : ReadFault} → is_predictive g ≡ true → has_rule g rules.document ≡ true → HoldsNoEnd spells rules.long_quotes lexing.begun → IsOpen spells g rules Made lexing parsing made last bytes → (HoldsQuotes rules bytes → ⊥) → HasDefectBeforeSpace spells g rules bytes r → ⊥
no_defect {T} {spells = spells} {rules = rules} {lexing = lexing} {bytes = bytes} predicts known holds o none d =
    let b = lexing.begun in
    let e = o.ends in
    let held = b.held ++ [] in
    let come = comes_of predicts known o d in
    let tokens = come.before ++ d.token ∷ d.others in
    let at = begun_at o e in
    let Ends : ℕ → Type 0 = OneEnds spells b.fresh b.at held tokens d.ending come.continues in
    let v = stands_in (tokens_in d.steps) d.token d.others d.ending d.splits in
    let w : StandsIn spells (length e.front) held d.token Ends =
    subst (λ (n : ℕ). StandsIn spells n held d.token Ends) (origin_is b.fresh b.at e.front at e.fresh) (stands_held b.fresh b.at held come.before d.token d.others d.ending come.continues) in
    let parts : bytes ≡ e.front ++ held = e.parts ∙ ap (λ (l : List ℕ). e.front ++ l) (sym (append-nil b.held)) in
    let end = v.ends ∙ same_end e.front v w parts in
    let space = held_space e.front w parts (subst (λ (n : ℕ). is_space (get_or bytes n 0) ≡ true) end d.space) in
    let unquoted : HoldsOne (map encode_utf8_all rules.long_quotes) b.held → ⊥ = λ q. none (holds_within (map encode_utf8_all rules.long_quotes) bytes e.front b.held [] parts q) in
    holds unquoted [] tokens d.ending come.continues (w.front ++ w.spelling) space.1 space.0 (sym (append-nil b.held) ∙ space.2) space.3
    (subst (λ (n : ℕ). Ends (n + size (w.front ++ w.spelling))) (sym at) w.ends)

pub none_before_space : {T S : Type 0} {spells : T → List ℕ → Type 0} {g : List Entry} {rules : Rules T} {Made : List (Step T) → S → Type 0} {lexing : Lexing} {parsing : Parsing} {made : S} {last : Option Item} {bytes : List ℕ} → is_predictive g ≡ true → has_rule g rules.document ≡ true → HoldsNoEnd spells rules.long_quotes lexing.begun → IsOpen spells g rules Made lexing parsing made last bytes → HasNoneBeforeSpace spells g rules bytes
none_before_space predicts known holds o unquoted refusal d = no_defect predicts known holds o unquoted d

pub tells_early : {T S : Type 0} {spells : T → List ℕ → Type 0} {g : List Entry} {rules : Rules T} {Made : List (Step T) → S → Type 0} (x r : Reading S) → x ≡ r → is_predictive g ≡ true → has_rule g rules.document ≡ true → x.refused ≡ None → HoldsNoEnd spells rules.long_quotes x.lexing.begun → TellsEarly spells g rules Made r
tells_early {spells = spells} {g = g} {rules = rules} {Made = Made} x r same predicts known none holds = subst (TellsEarly spells g rules Made) same (record {
  holds = holds;
  none = λ bytes h. none_before_space predicts known holds (h.open_yet none);
})
