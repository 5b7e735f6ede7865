-- What comes of what is begun, in tokens and in lexemes.
use Rattle.std.proofs.Common.{◌≡◌, ℕ, ◌+◌, Bool, true, false, Option, List, [], ◌∷◌, ◌++◌, refl, sym, ap, ◌∙◌, subst, zero-add}
use Rattle.std.specs.Char.{encode_utf8}
use Rattle.std.specs.Str.{all_scalars, encode_utf8_all}
use Rattle.std.proofs.lemmas.Bool.{and_parts}
use Rattle.std.proofs.lemmas.List.{append_assoc}
use Rattle.owl_characters.specs.Utf8.{Decodes, behind_mark, mark_size}
use Rattle.owl_lexer.specs.Adding.{tokens_of}
use Rattle.owl_lexer.specs.Automata.{Automaton, Spells}
use Rattle.owl_lexer.specs.BytesGiving.{BegunBytes, ContinuesBytes, CutsBehindMark}
use Rattle.owl_lexer.proofs.BytesLaws.{decodes_first, first_decoded}
use Rattle.owl_lexer.specs.Cutting.{Cuts, Lexeme}
use Rattle.owl_lexer.proofs.DecodingLaws.{decode}
use Rattle.owl_lexer.specs.Languages.{AreSpelled, IsLanguage}
use Rattle.owl_lexer.specs.Lexing.{Continues, SplitsBehind}
use Rattle.owl_lexer.specs.Splitting.{SplitsFrom}
use Rattle.owl_lexer.proofs.TokenLaws.{lexemes_are_tokens}
use Rattle.owl_lexer.proofs.TotalLaws.{cut}
use Rattle.owl_lexer.specs.declared.fault.LexFault.{LexFault}
use Rattle.owl_lexer.specs.declared.placed.Placed.{Placed}
use Rattle.owl_lexer.specs.Sources.{bytes_of}

-- one way at least

-- Tokens of these bytes, and how they end.
pub record AreSplit {T : Type 0} (spells : T → List ℕ → Type 0) (fresh : Bool) (place : ℕ) (bytes : List ℕ) : Type 0 where
  pub tokens : List (Placed T)
  pub ending : Option LexFault
  pub splits : SplitsBehind spells fresh place bytes tokens ending

-- tokens of characters are spelled

from_spelled : {T : Type 0} → (spells : T → List ℕ → Type 0) (place : ℕ) (cs tail : List ℕ) (tokens : List (Placed T)) (e : Option LexFault) → SplitsFrom spells place cs tail tokens e → AreSpelled spells tokens
from_spelled spells place cs tail [] e h = tt
from_spelled spells place cs tail (first ∷ others) e h = ((h.2.spelling, h.2.token), from_spelled spells h.0 h.1 tail others e h.3)

pub split_spelled : {T : Type 0} → (spells : T → List ℕ → Type 0) (fresh : Bool) (place : ℕ) (bytes : List ℕ) (tokens : List (Placed T)) (e : Option LexFault) → SplitsBehind spells fresh place bytes tokens e → AreSpelled spells tokens
split_spelled spells true place bytes tokens e h = from_spelled spells (mark_size h.characters) (behind_mark h.characters) h.tail tokens e h.splits
split_spelled spells false place bytes tokens e h = from_spelled spells place h.characters h.tail tokens e h.splits

-- what is begun in characters and bytes

-- The characters are scalar values, and nothing was fed before what may begin with a byte order mark.
pub record IsSound (begun : BegunBytes) : Type 0 where
  pub scalars : all_scalars begun.held ≡ true
  pub first : begun.fresh ≡ true → begun.at ≡ 0

pub decodes_all : (held more cs tail : List ℕ) → all_scalars held ≡ true → Decodes more cs tail → Decodes (encode_utf8_all held ++ more) (held ++ cs) tail
decodes_all [] more cs tail s d = d
decodes_all (c ∷ held) more cs tail s d =
    let parts = and_parts _ _ s in
    subst (λ (bytes : List ℕ). Decodes bytes (c ∷ (held ++ cs)) tail) (sym (append_assoc (encode_utf8 c) (encode_utf8_all held) more))
    (decodes_first c (encode_utf8_all held ++ more) (held ++ cs) tail parts.0 (decodes_all held more cs tail parts.1 d))

-- the characters that are held begin the bytes
pub record DecodesBehind (held more cs tail : List ℕ) : Type 0 where
  pub others : List ℕ
  pub is : cs ≡ held ++ others
  pub decodes : Decodes more others tail

pub all_decoded : (held more cs tail : List ℕ) → all_scalars held ≡ true → Decodes (encode_utf8_all held ++ more) cs tail → DecodesBehind held more cs tail
all_decoded [] more cs tail s d = record { others = cs; is = refl; decodes = d }
all_decoded (c ∷ held) more cs tail s d =
    let parts = and_parts _ _ s in
    let one = first_decoded c (encode_utf8_all held ++ more) cs tail parts.0 (subst (λ (bytes : List ℕ). Decodes bytes cs tail) (append_assoc (encode_utf8 c) (encode_utf8_all held) more) d) in
    let o = all_decoded held more one.others tail parts.1 one.decodes in
    record { others = o.others; is = one.is ∙ ap (λ (l : List ℕ). c ∷ l) o.is; decodes = o.decodes }

-- some lexemes come of what is begun

pub record Comes (a : Automaton) (begun : BegunBytes) (more : List ℕ) : Type 0 where
  pub lexemes : List Lexeme
  pub ending : Option LexFault
  pub continues : ContinuesBytes a begun more lexemes ending

cut_behind_mark : (fresh : Bool) (a : Automaton) (place : ℕ) (cs tail : List ℕ) → (xs : List Lexeme) × (e : Option LexFault) × CutsBehindMark fresh a place cs tail xs e
cut_behind_mark true a place cs tail = let o = cut a (place + mark_size cs) (behind_mark cs) tail in (o.lexemes, o.ending, o.cuts)
cut_behind_mark false a place cs tail = let o = cut a place cs tail in (o.lexemes, o.ending, o.cuts)

pub comes : (a : Automaton) (begun : BegunBytes) (more : List ℕ) → Comes a begun more
comes a begun more =
    let d = decode (begun.bytes ++ more) in
    let o = cut_behind_mark begun.fresh a begun.at (begun.held ++ d.characters) d.tail in
    record { lexemes = o.0; ending = o.1; continues = record { characters = d.characters; tail = d.tail; decodes = d.decodes; cuts = o.2 } }

splits_cut : {T : Type 0} → (a : Automaton) (value : ℕ → List ℕ → Option T) (spells : T → List ℕ → Type 0) → IsLanguage a value spells → (fresh : Bool) (place : ℕ) (bytes cs tail : List ℕ) (xs : List Lexeme) (e : Option LexFault) → (fresh ≡ true → place ≡ 0) → Decodes bytes cs tail → CutsBehindMark fresh a place cs tail xs e → SplitsBehind spells fresh place bytes (tokens_of value xs) e
splits_cut a value spells l true place bytes cs tail xs e first d h =
    let here : place + mark_size cs ≡ mark_size cs = ap (λ (p : ℕ). p + mark_size cs) (first refl) ∙ zero-add (mark_size cs) in
    record { characters = cs; tail = tail; decodes = d; splits = lexemes_are_tokens a value spells l (mark_size cs) (behind_mark cs) tail xs e (subst (λ (p : ℕ). Cuts (Spells a) p (behind_mark cs) tail xs e) here h) }
splits_cut a value spells l false place bytes cs tail xs e first d h =
    record { characters = cs; tail = tail; decodes = d; splits = lexemes_are_tokens a value spells l place cs tail xs e h }

-- the tokens that lexemes stand for come of what is begun
pub lexemes_continue : {T : Type 0} → (a : Automaton) (value : ℕ → List ℕ → Option T) (spells : T → List ℕ → Type 0) → IsLanguage a value spells → (begun : BegunBytes) → IsSound begun → (more : List ℕ) (xs : List Lexeme) (e : Option LexFault) → ContinuesBytes a begun more xs e → Continues spells (bytes_of begun) more (tokens_of value xs) e
lexemes_continue a value spells l begun sound more xs e h =
    splits_cut a value spells l begun.fresh begun.at ((encode_utf8_all begun.held ++ begun.bytes) ++ more) (begun.held ++ h.characters) h.tail xs e sound.first
    (subst (λ (bytes : List ℕ). Decodes bytes (begun.held ++ h.characters) h.tail) (sym (append_assoc (encode_utf8_all begun.held) begun.bytes more))
    (decodes_all begun.held (begun.bytes ++ more) h.characters h.tail sound.scalars h.decodes))
    h.cuts

pub always_split : {T : Type 0} → (a : Automaton) (value : ℕ → List ℕ → Option T) (spells : T → List ℕ → Type 0) → IsLanguage a value spells → (fresh : Bool) (place : ℕ) (bytes : List ℕ) → AreSplit spells fresh place bytes
always_split a value spells l true place bytes =
    let begun : BegunBytes = record { at = 0; held = []; bytes = []; fresh = true } in
    let o = comes a begun bytes in
    record { tokens = tokens_of value o.lexemes; ending = o.ending; splits = lexemes_continue a value spells l begun (record { scalars = refl; first = λ e. refl }) bytes o.lexemes o.ending o.continues }
always_split a value spells l false place bytes =
    let begun : BegunBytes = record { at = place; held = []; bytes = []; fresh = false } in
    let o = comes a begun bytes in
    record { tokens = tokens_of value o.lexemes; ending = o.ending; splits = lexemes_continue a value spells l begun (record { scalars = refl; first = λ e. absurd (cc) }) bytes o.lexemes o.ending o.continues }
