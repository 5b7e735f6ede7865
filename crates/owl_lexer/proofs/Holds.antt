-- What is held back: no token in front of white space.
use Rattle.std.proofs.Common.{◌≡◌, ◌⊎◌, inl, inr, ℕ, ◌+◌, ◌≤◌, ◌<◌, Bool, true, false, Option, None, Some, List, [], ◌∷◌, ◌++◌, length, map, drop, refl, sym, ap, ◌∙◌, subst, arith}
use Rattle.std.specs.Prelude.{not}
use Rattle.std.specs.Char.{encode_utf8}
use Rattle.std.specs.Str.{all_scalars, encode_utf8_all}
use Rattle.std.proofs.lemmas.Bool.{both_ways, not-true}
use Rattle.std.proofs.lemmas.List.{append_assoc, length-append, take-append-drop}
use Rattle.std.proofs.lemmas.Str.{encode_same, len_utf8_bounds, length-encode}
use Rattle.owl_characters.proofs.CutLaws.{overhang_or_within}
use Rattle.owl_characters.specs.Iri.{AllAre}
use Rattle.owl_characters.specs.Utf8.{Decodes, size}
use Rattle.owl_characters.proofs.Utf8Laws.{size_append}
use Rattle.owl_lexer.specs.Automata.{Automaton, run}
use Rattle.owl_lexer.proofs.BytesLaws.{no_whole}
use Rattle.owl_lexer.proofs.HoldingLaws.{front_of_front, run-append, run-none}
use Rattle.owl_lexer.specs.Languages.{BeginsNoGap, IsLanguage, IsPrompt, IsLexemeWith}
use Rattle.owl_lexer.specs.Languages.IsLexemeWith.{token, space, comment}
use Rattle.owl_lexer.specs.Lexing.{HoldsNoEnd, HoldsNone, OneEnds, SplitsBehind}
use Rattle.owl_lexer.proofs.LexingLaws.{all_decoded}
use Rattle.owl_lexer.specs.Sources.{IsOpen, IsPart, bytes_in}
use Rattle.owl_lexer.specs.Splitting.{BeginsToken, IsComment, IsGap, OneEndsFrom, SplitsFrom, is_comment_start, is_line_end, is_space}
use Rattle.owl_lexer.specs.Words.{HoldsOne}
use Rattle.owl_lexer.proofs.WordLaws.{holds_encoded, holds_within}
use Rattle.owl_lexer.specs.declared.fault.LexFault.{LexFault}
use Rattle.owl_lexer.specs.declared.placed.Placed.{Placed}
use Rattle.owl_lexer.specs.declared.source.Source.{Source}

pub part_begins_none : (bytes : List ℕ) → IsPart bytes → (c : ℕ) (rest : List ℕ) → bytes ≡ encode_utf8 c ++ rest → ⊥
part_begins_none bytes (inr u) c rest e = no_whole bytes u c rest e
part_begins_none bytes (inl none) c rest e =
    let sizes : 0 ≡ length (encode_utf8 c) + length rest = sym (ap (λ (l : List ℕ). length l) none) ∙ ap (λ (l : List ℕ). length l) e ∙ length-append (encode_utf8 c) rest in
    let is = length-encode c in
    let bounds = len_utf8_bounds c in
    let low = bounds.0 in
    omega arith

-- characters whose bytes stand in front of what is held are in hand
held_front : (held cs bytes rest : List ℕ) → IsPart bytes → encode_utf8_all held ++ bytes ≡ encode_utf8_all cs ++ rest → (more : List ℕ) × (held ≡ cs ++ more)
held_front held [] bytes rest p e = (held, refl)
held_front [] (c ∷ cs) bytes rest p e = absurd (part_begins_none bytes p c (encode_utf8_all cs ++ rest) (e ∙ append_assoc (encode_utf8 c) (encode_utf8_all cs) rest))
held_front (h ∷ held) (c ∷ cs) bytes rest p e =
    let same = encode_same h c (encode_utf8_all held ++ bytes) (encode_utf8_all cs ++ rest) (sym (append_assoc (encode_utf8 h) (encode_utf8_all held) bytes) ∙ e ∙ append_assoc (encode_utf8 c) (encode_utf8_all cs) rest) in
    let o = held_front held cs bytes rest p same.1 in
    let first : h ≡ c = same.0 in
    let others : held ≡ cs ++ o.0 = o.1 in
    (o.0, cc)

pub holds_none : {T : Type 0} → (a : Automaton) (value : ℕ → List ℕ → Option T) (spells : T → List ℕ → Type 0) → IsLanguage a value spells → (source : Source) → IsOpen a source → HoldsNone spells (bytes_in source)
holds_none a value spells l source r t spelling rest c s w e =
    let front = held_front source.hand.held.items (spelling ++ c ∷ []) source.feed.held rest r.part e in
    let runs : Some source.hand.state ≡ None =
    sym r.ready.leads
    ∙ ap (run a (Some a.start)) front.1
    ∙ run-append a (Some a.start) (spelling ++ c ∷ []) front.0
    ∙ ap (λ (o : Option ℕ). run a o front.0) (l.ends t spelling c s w)
    ∙ run-none a front.0 in
    cc

-- no token ends in front of white space

-- a front of characters that lead somewhere leads somewhere
front_runs : (a : Automaton) (front more : List ℕ) (state : ℕ) (o : Option ℕ) → run a (Some a.start) front ≡ o → run a (Some a.start) (front ++ more) ≡ Some state → (s : ℕ) × (run a (Some a.start) front ≡ Some s)
front_runs a front more state (Some s) e h = (s, e)
front_runs a front more state None e h =
    let none : None ≡ Some state = sym (run-append a (Some a.start) front more ∙ ap (λ (o : Option ℕ). run a o more) e ∙ run-none a more) ∙ h in
    absurd (cc)

-- a comment in front of something has a line end
comment_line : (cs rest : List ℕ) (c : ℕ) (more : List ℕ) → rest ≡ c ∷ more → IsComment cs rest → AllAre (λ d. not (is_line_end d)) (cs ++ c ∷ []) → ⊥
comment_line [] rest c more e h a = let none : [] ≡ c ∷ more = sym h ∙ e in cc
comment_line (d ∷ cs) rest c more e (inl h) a = both_ways (is_line_end d) (not-true (is_line_end d) a.0) h.0
comment_line (d ∷ cs) rest c more e (inr h) a = comment_line cs rest c more e h.1 a.1

all_last : (p : ℕ → _) (cs : List ℕ) (c : ℕ) → AllAre p (cs ++ c ∷ []) → p c ≡ true
all_last p [] c h = h.0
all_last p (d ∷ cs) c h = all_last p cs c h.1

-- a gap with the character behind it is no lexeme
gap_ends : {T : Type 0} (spells : T → List ℕ → Type 0) (value : Option T) (d : ℕ) (gap rest : List ℕ) (c : ℕ) (more : List ℕ) → ((t : T) (cs : List ℕ) → spells t cs → BeginsNoGap cs) → rest ≡ c ∷ more → is_space c ≡ false → IsGap (d ∷ gap) rest → IsLexemeWith spells value (d ∷ (gap ++ c ∷ [])) → ⊥
gap_ends spells value d gap rest c more n e s (inl g) (token t v h) = both_ways (is_space d) (n t (d ∷ (gap ++ c ∷ [])) h).0 g.0
gap_ends spells value d gap rest c more n e s (inr g) (token t v h) = both_ways (is_comment_start d) (n t (d ∷ (gap ++ c ∷ [])) h).1 g.0
gap_ends spells value d gap rest c more n e s g (space v h) = both_ways (is_space c) s (all_last is_space (d ∷ gap) c h)
gap_ends spells value d gap rest c more n e s (inl g) (comment v h) = both_ways (is_space d) (ap is_space h.0) g.0
gap_ends spells value d gap rest c more n e s (inr g) (comment v h) = comment_line gap rest c more e g.1 h.1

-- what stands in front of white space that is held does not end a gap and a token
no_token_within : {T : Type 0} → (a : Automaton) (value : ℕ → List ℕ → Option T) (spells : T → List ℕ → Type 0) → IsLanguage a value spells → (words : List (List ℕ)) → IsPrompt a spells words → (gap spelling rest more : List ℕ) (t : T) (c state : ℕ) → spells t spelling → is_space c ≡ true → IsGap gap (spelling ++ rest) → (HoldsOne words (gap ++ (spelling ++ (more ++ c ∷ []))) → ⊥) → run a (Some a.start) (gap ++ (spelling ++ (more ++ c ∷ []))) ≡ Some state → ⊥
no_token_within a value spells l words p [] spelling rest more t c state s w g n h = elim (p.token t spelling more c s w) [
  | inl ends ↦ let none : None ≡ Some state = sym ends ∙ h in absurd (cc)
  | inr holds ↦ n holds
]
no_token_within a value spells l words p (d ∷ gap) [] rest more t c state s w g n h = let some : 0 < length {A = ℕ} [] = l.some t [] s in absurd (omega arith)
no_token_within a value spells l words p (d ∷ gap) (x ∷ spelling) rest more t c state s w g n h =
    let front = d ∷ (gap ++ x ∷ []) in
    let whole : run a (Some a.start) (front ++ (spelling ++ (more ++ c ∷ []))) ≡ Some state =
    ap (λ (l : List ℕ). run a (Some a.start) (d ∷ l)) (append_assoc gap (x ∷ []) (spelling ++ (more ++ c ∷ []))) ∙ h in
    let runs = front_runs a front (spelling ++ (more ++ c ∷ [])) state (run a (Some a.start) front) refl whole in
    let lexeme = p.gap d (gap ++ x ∷ []) runs.0 (begins gap (x ∷ spelling ++ rest) g) runs.1 in
    gap_ends spells (value lexeme.0 front) d gap (x ∷ spelling ++ rest) x (spelling ++ rest) l.no_gap refl (l.no_gap t (x ∷ spelling) s).0 g (l.says lexeme.0 front lexeme.1)
  where
    begins : (gap rest : List ℕ) → IsGap (d ∷ gap) rest → (is_space d ≡ true) ⊎ (is_comment_start d ≡ true)
    begins gap rest (inl g) = inl g.0
    begins gap rest (inr g) = inr g.0

-- where tokens end
ends_behind : {T : Type 0} (spells : T → List ℕ → Type 0) (place : ℕ) (cs tail : List ℕ) (tokens : List (Placed T)) (e : Option LexFault) (s : SplitsFrom spells place cs tail tokens e) (end : ℕ) → OneEndsFrom spells place cs tail tokens e s end → place ≤ end
ends_behind spells place cs tail [] e s end h = absurd h
ends_behind spells place cs tail (first ∷ others) e s end (inl h) =
    let at = s.2.at in
    let ends = s.2.ends in
    omega arith
ends_behind spells place cs tail (first ∷ others) e s end (inr h) =
    let at = s.2.at in
    let ends = s.2.ends in
    let later = ends_behind spells s.0 s.1 tail others e s.3 end h in
    omega arith

-- a token that ends within a front of the characters stands in the front
within_front : (front behind both rest : List ℕ) → front ++ behind ≡ both ++ rest → size both ≤ size front → (more : List ℕ) × (front ≡ both ++ more)
within_front front behind both rest e le = elim (overhang_or_within front both behind rest e) [
  | inl within ↦ (drop (length both) front, sym (take-append-drop (length both) front) ∙ ap (λ (l : List ℕ). l ++ drop (length both) front) (sym (front_of_front front both behind rest within e)))
  | inr o ↦
      let sizes : size both ≡ size front + size (o.next ∷ o.others) = ap size o.is ∙ size_append front (o.next ∷ o.others) in
      let some = len_utf8_bounds o.next in
      let low = some.0 in
      absurd (omega arith)
]

first_ends : {T : Type 0} → (a : Automaton) (value : ℕ → List ℕ → Option T) (spells : T → List ℕ → Type 0) → IsLanguage a value spells → (words : List (List ℕ)) → IsPrompt a spells words → (place : ℕ) (front others : List ℕ) (c state : ℕ) (cs : List ℕ) (first : Placed T) (next : ℕ) (rest : List ℕ) → is_space c ≡ true → (HoldsOne words (front ++ c ∷ []) → ⊥) → run a (Some a.start) (front ++ c ∷ []) ≡ Some state → cs ≡ front ++ c ∷ others → BeginsToken spells place cs first next rest → next ≤ place + size front → ⊥
first_ends a value spells l words p place front others c state cs first next rest w n h e b le =
    let at = b.at in
    let ends = b.ends in
    let sizes : size (b.gap ++ b.spelling) ≡ size b.gap + size b.spelling = size_append b.gap b.spelling in
    let parts : front ++ c ∷ others ≡ (b.gap ++ b.spelling) ++ rest = sym e ∙ b.parts ∙ sym (append_assoc b.gap b.spelling rest) in
    let within = within_front front (c ∷ others) (b.gap ++ b.spelling) rest parts (omega arith) in
    let is : front ++ c ∷ [] ≡ b.gap ++ (b.spelling ++ (within.0 ++ c ∷ [])) =
    ap (λ (l : List ℕ). l ++ c ∷ []) (within.1 ∙ append_assoc b.gap b.spelling within.0)
    ∙ append_assoc b.gap (b.spelling ++ within.0) (c ∷ []) ∙ ap (λ (l : List ℕ). b.gap ++ l) (append_assoc b.spelling within.0 (c ∷ [])) in
    no_token_within a value spells l words p b.gap b.spelling rest within.0 first.token c state b.token w b.is_gap (subst (λ (l : List ℕ). HoldsOne words l → ⊥) is n) (subst (λ (l : List ℕ). run a (Some a.start) l ≡ Some state) is h)

none_ends : {T : Type 0} → (a : Automaton) (value : ℕ → List ℕ → Option T) (spells : T → List ℕ → Type 0) → IsLanguage a value spells → (words : List (List ℕ)) → IsPrompt a spells words → (place : ℕ) (front others : List ℕ) (c state : ℕ) (cs tail : List ℕ) (tokens : List (Placed T)) (e : Option LexFault) (s : SplitsFrom spells place cs tail tokens e) → is_space c ≡ true → (HoldsOne words (front ++ c ∷ []) → ⊥) → run a (Some a.start) (front ++ c ∷ []) ≡ Some state → cs ≡ front ++ c ∷ others → OneEndsFrom spells place cs tail tokens e s (place + size front) → ⊥
none_ends a value spells l words p place front others c state cs tail [] e s w n h is end = end
none_ends a value spells l words p place front others c state cs tail (first ∷ more) e s w n h is (inl end) =
    first_ends a value spells l words p place front others c state cs first s.0 s.1 w n h is s.2 (omega arith)
none_ends a value spells l words p place front others c state cs tail (first ∷ more) e s w n h is (inr end) =
    first_ends a value spells l words p place front others c state cs first s.0 s.1 w n h is s.2 (ends_behind spells s.0 s.1 tail more e s.3 (place + size front) end)

-- what is held, and the bytes of a character that is begun
record IsHeld (a : Automaton) (held bytes : List ℕ) : Type 0 where
  state : ℕ
  leads : run a (Some a.start) held ≡ Some state
  scalars : all_scalars held ≡ true
  part : IsPart bytes

none_ends_in : {T : Type 0} → (a : Automaton) (value : ℕ → List ℕ → Option T) (spells : T → List ℕ → Type 0) → IsLanguage a value spells → (words : List (List ℕ)) → IsPrompt a spells words → (fresh : Bool) (at : ℕ) (held bytes : List ℕ) → IsHeld a held bytes → (fresh ≡ true → held ≡ []) → (HoldsOne (map encode_utf8_all words) (encode_utf8_all held ++ bytes) → ⊥) → (more : List ℕ) (tokens : List (Placed T)) (e : Option LexFault) (k : SplitsBehind spells fresh at ((encode_utf8_all held ++ bytes) ++ more) tokens e) (front rest : List ℕ) (c : ℕ) → encode_utf8_all held ++ bytes ≡ encode_utf8_all (front ++ c ∷ []) ++ rest → is_space c ≡ true → OneEnds spells fresh at ((encode_utf8_all held ++ bytes) ++ more) tokens e k (at + size front) → ⊥
none_ends_in a value spells l words p true at held bytes r first n more tokens e k front rest c is w end =
    let inside = held_front held (front ++ c ∷ []) bytes rest r.part is in
    let sizes : 0 ≡ length (front ++ c ∷ []) + length inside.0 = ap (λ (l : List ℕ). length l) (sym (first refl) ∙ inside.1) ∙ length-append (front ++ c ∷ []) inside.0 in
    let some = length-append front (c ∷ []) in
    omega arith
none_ends_in a value spells l words p false at held bytes r first n more tokens e k front rest c is w end =
    let inside = held_front held (front ++ c ∷ []) bytes rest r.part is in
    let d = all_decoded held (bytes ++ more) k.characters k.tail r.scalars (subst (λ (bs : List ℕ). Decodes bs k.characters k.tail) (append_assoc (encode_utf8_all held) bytes more) k.decodes) in
    let runs = front_runs a (front ++ c ∷ []) inside.0 r.state (run a (Some a.start) (front ++ c ∷ [])) refl (ap (run a (Some a.start)) (sym inside.1) ∙ r.leads) in
    let cs : k.characters ≡ front ++ c ∷ (inside.0 ++ d.others) =
    d.is ∙ ap (λ (l : List ℕ). l ++ d.others) inside.1 ∙ append_assoc (front ++ c ∷ []) inside.0 d.others ∙ append_assoc front (c ∷ []) (inside.0 ++ d.others) in
    let none : HoldsOne words (front ++ c ∷ []) → ⊥ = λ o.
    n (holds_within (map encode_utf8_all words) (encode_utf8_all held ++ bytes) [] (encode_utf8_all held) bytes refl
    (holds_encoded words held (holds_within words held [] (front ++ c ∷ []) inside.0 inside.1 o))) in
    none_ends a value spells l words p at front (inside.0 ++ d.others) c runs.0 k.characters k.tail tokens e k.splits w none runs.1 cs end

pub holds_no_end : {T : Type 0} → (a : Automaton) (value : ℕ → List ℕ → Option T) (spells : T → List ℕ → Type 0) → IsLanguage a value spells → (source : Source) → IsOpen a source → (words : List (List ℕ)) → IsPrompt a spells words → HoldsNoEnd spells words (bytes_in source)
holds_no_end a value spells l source r words p n more tokens e k front rest c is w end =
    none_ends_in a value spells l words p source.fresh source.hand.at source.hand.held.items source.feed.held
    (record { state = source.hand.state; leads = r.ready.leads; scalars = r.ready.scalars; part = r.part }) r.first n more tokens e k front rest c is w end
