-- Bytes are one list of tokens of a language at most, and they end in one way.
use Rattle.std.proofs.Common.{◌≡◌, ◌⊎◌, inl, inr, ℕ, ◌+◌, ◌<◌, Bool, true, false, Option, Some, List, [], ◌∷◌, ◌++◌, length, refl, sym, ap, ◌∙◌, subst, arith}
use Rattle.std.specs.Prelude.{◌==◌}
use Rattle.std.proofs.lemmas.Bool.{eqb-true, or_cases}
use Rattle.owl_characters.proofs.CutLaws.{both, same_seam}
use Rattle.owl_characters.specs.Utf8.{behind_mark, mark_size, size}
use Rattle.owl_lexer.specs.Automata.{Automaton, Spells}
use Rattle.owl_lexer.proofs.BytesLaws.{same_decoded}
use Rattle.owl_lexer.specs.Languages.{BeginsNoGap, IsLanguage}
use Rattle.owl_lexer.specs.Lexing.{Begun, Continues, SplitsBehind}
use Rattle.owl_lexer.specs.Splitting.{BeginsToken, Ends, IsComment, IsGap, Splits, SplitsFrom, Stops, is_comment_start, is_line_end, is_space}
use Rattle.owl_lexer.specs.declared.fault.LexFault.{LexFault}
use Rattle.owl_lexer.specs.declared.placed.Placed.{Placed}

-- gaps

gap_begins : (d : ℕ) (ds s : List ℕ) → IsGap (d ∷ ds) s → (is_space d ≡ true) ⊎ (is_comment_start d ≡ true)
gap_begins d ds s (inl k) = inl k.0
gap_begins d ds s (inr k) = inr k.0

-- a gap does not begin where none does
no_gap_begins : (d : ℕ) (hs r : List ℕ) → BeginsNoGap r → r ≡ d ∷ hs → (is_space d ≡ true) ⊎ (is_comment_start d ≡ true) → ⊥
no_gap_begins d hs [] n e k = cc
no_gap_begins d hs (x ∷ r) n e (inl k) = both is_space d x (cc) k n.0
no_gap_begins d hs (x ∷ r) n e (inr k) = both is_comment_start d x (cc) k n.1

no_space_comment : (c : ℕ) → is_space c ≡ true → is_comment_start c ≡ true → ⊥
no_space_comment c h k = elim (or_cases (35 == c) false k) [ inl x ↦ both is_space c 35 (sym (eqb-true 35 c x)) h refl | inr x ↦ cc ]

-- the gap and what stands behind it are the same
record SameGap (g h r s : List ℕ) : Type 0 where
  gap : g ≡ h
  rest : r ≡ s

same_more : (c d : ℕ) (cs ds r s : List ℕ) → c ≡ d → SameGap cs ds r s → SameGap (c ∷ cs) (d ∷ ds) r s
same_more c d cs ds r s e o = let others : cs ≡ ds = o.gap in record { gap = cc; rest = o.rest }

mutual
  same_gap : (g h r s : List ℕ) → IsGap g r → IsGap h s → BeginsNoGap r → BeginsNoGap s → g ++ r ≡ h ++ s → SameGap g h r s
  same_gap [] [] r s a b n m e = record { gap = refl; rest = e }
  same_gap [] (d ∷ ds) r s a b n m e = absurd (no_gap_begins d (ds ++ s) r n e (gap_begins d ds s b))
  same_gap (c ∷ cs) [] r s a b n m e = absurd (no_gap_begins c (cs ++ r) s m (sym e) (gap_begins c cs r a))
  same_gap (c ∷ cs) (d ∷ ds) r s (inl a) (inl b) n m e = same_more c d cs ds r s (cc) (same_gap cs ds r s a.1 b.1 n m (cc))
  same_gap (c ∷ cs) (d ∷ ds) r s (inl a) (inr b) n m e = let first : c ≡ d = cc in absurd (no_space_comment d (subst (λ (x : ℕ). is_space x ≡ true) first a.0) b.0)
  same_gap (c ∷ cs) (d ∷ ds) r s (inr a) (inl b) n m e = let first : d ≡ c = cc in absurd (no_space_comment c (subst (λ (x : ℕ). is_space x ≡ true) first b.0) a.0)
  same_gap (c ∷ cs) (d ∷ ds) r s (inr a) (inr b) n m e = same_more c d cs ds r s (cc) (same_comment cs ds r s a.1 b.1 n m (cc))

  same_comment : (g h r s : List ℕ) → IsComment g r → IsComment h s → BeginsNoGap r → BeginsNoGap s → g ++ r ≡ h ++ s → SameGap g h r s
  same_comment [] [] r s a b n m e = record { gap = refl; rest = e }
  same_comment [] (d ∷ ds) r s a b n m e = cc
  same_comment (c ∷ cs) [] r s a b n m e = cc
  same_comment (c ∷ cs) (d ∷ ds) r s (inl a) (inl b) n m e = same_more c d cs ds r s (cc) (same_gap cs ds r s a.1 b.1 n m (cc))
  same_comment (c ∷ cs) (d ∷ ds) r s (inl a) (inr b) n m e = absurd (both is_line_end c d (cc) a.0 b.0)
  same_comment (c ∷ cs) (d ∷ ds) r s (inr a) (inl b) n m e = absurd (both is_line_end d c (cc) b.0 a.0)
  same_comment (c ∷ cs) (d ∷ ds) r s (inr a) (inr b) n m e = same_more c d cs ds r s (cc) (same_comment cs ds r s a.1 b.1 n m (cc))

-- a token begins no gap
begins_on : (spelling rest : List ℕ) → 0 < length spelling → BeginsNoGap spelling → BeginsNoGap (spelling ++ rest)
begins_on [] rest some n = absurd (omega arith)
begins_on (c ∷ cs) rest some n = n

pub token_no_gap : {T : Type 0} → (a : Automaton) (value : ℕ → List ℕ → Option T) (spells : T → List ℕ → Type 0) → IsLanguage a value spells → (t : T) (spelling rest : List ℕ) → spells t spelling → BeginsNoGap (spelling ++ rest)
token_no_gap a value spells l t spelling rest s = begins_on spelling rest (l.some t spelling s) (l.no_gap t spelling s)

-- where nothing comes, no gap begins
pub stops_no_gap : {T : Type 0} → (spells : T → List ℕ → Type 0) (place : ℕ) (cs tail : List ℕ) (e : Option LexFault) → Stops spells place cs tail e → BeginsNoGap cs
stops_no_gap spells place [] tail e h = tt
stops_no_gap spells place (c ∷ cs) tail e h = (h.0, h.1)

-- tokens

-- one spelling is of one token

one_kind : (a : Automaton) (kind other : ℕ) (cs : List ℕ) → Spells a kind cs → Spells a other cs → kind ≡ other
one_kind a kind other cs h k = let e : Some kind ≡ Some other = sym h ∙ k in cc

same_token : {T : Type 0} → (a : Automaton) (value : ℕ → List ℕ → Option T) (spells : T → List ℕ → Type 0) → IsLanguage a value spells → (t u : T) (cs : List ℕ) → spells t cs → spells u cs → t ≡ u
same_token a value spells l t u cs h k =
    let one = l.token t cs h in
    let other = l.token u cs k in
    let kinds = one_kind a one.0 other.0 cs one.1 other.1 in
    let values : Some t ≡ Some u = sym one.2 ∙ ap (λ (kind : ℕ). value kind cs) kinds ∙ other.2 in
    cc

same_placed : {T : Type 0} → (p q : Placed T) → p.token ≡ q.token → p.at ≡ q.at → p ≡ q
same_placed p q e f = λ i. record { token = e i; at = f i }

-- the first token, its end and what follows are the same
record SameFirst {T : Type 0} (p q : Placed T) (m n : ℕ) (r s : List ℕ) : Type 0 where
  first : p ≡ q
  next : m ≡ n
  rest : r ≡ s

same_first : {T : Type 0} → (a : Automaton) (value : ℕ → List ℕ → Option T) (spells : T → List ℕ → Type 0) → IsLanguage a value spells → (place : ℕ) (cs : List ℕ) (p q : Placed T) (m n : ℕ) (r s : List ℕ) → BeginsToken spells place cs p m r → BeginsToken spells place cs q n s → SameFirst p q m n r s
same_first a value spells l place cs p q m n r s h k =
    let gap = same_gap h.gap k.gap (h.spelling ++ r) (k.spelling ++ s) h.is_gap k.is_gap (token_no_gap a value spells l p.token h.spelling r h.token) (token_no_gap a value spells l q.token k.spelling s k.token) (sym h.parts ∙ k.parts) in
    let seam = same_seam h.spelling k.spelling r s (k.longest p.token h.spelling r h.token (sym gap.rest)) (h.longest q.token k.spelling s k.token gap.rest) gap.rest in
    let token : p.token ≡ q.token = same_token a value spells l p.token q.token k.spelling (subst (spells p.token) seam.front h.token) k.token in
    let at : p.at ≡ q.at = h.at ∙ ap (λ (g : List ℕ). place + size g) gap.gap ∙ sym k.at in
    let spelled : size h.spelling ≡ size k.spelling = ap size seam.front in
    record { first = same_placed p q token at; next = h.ends ∙ ap (λ (x : ℕ). x + size h.spelling) at ∙ ap (λ (x : ℕ). q.at + x) spelled ∙ sym k.ends; rest = seam.rest }

same_stops : {T : Type 0} → (spells : T → List ℕ → Type 0) (place : ℕ) (cs tail : List ℕ) (e f : Option LexFault) → Stops spells place cs tail e → Stops spells place cs tail f → e ≡ f
same_stops spells place [] [] e f h k = h ∙ sym k
same_stops spells place [] (b ∷ tail) e f h k = h ∙ sym k
same_stops spells place (c ∷ cs) tail e f h k = h.3 ∙ sym k.3

same_ends : {T : Type 0} → (spells : T → List ℕ → Type 0) (place : ℕ) (cs tail : List ℕ) (e f : Option LexFault) → Ends spells place cs tail e → Ends spells place cs tail f → e ≡ f
same_ends spells place cs tail e f h k =
    let gap = same_gap h.gap k.gap h.rest k.rest h.is_gap k.is_gap (stops_no_gap spells _ h.rest tail e h.stops) (stops_no_gap spells _ k.rest tail f k.stops) (sym h.parts ∙ k.parts) in
    let moved = subst (λ (x : List ℕ). Stops spells (place + size h.gap) x tail e) gap.rest h.stops in
    same_stops spells (place + size k.gap) k.rest tail e f (subst (λ (x : ℕ). Stops spells x k.rest tail e) (ap (λ (g : List ℕ). place + size g) gap.gap) moved) k.stops

-- where a token stands, something comes
token_stops : {T : Type 0} → (spells : T → List ℕ → Type 0) (place : ℕ) (cs tail : List ℕ) (e : Option LexFault) (t : T) (spelling more : List ℕ) → spells t spelling → 0 < length spelling → cs ≡ spelling ++ more → Stops spells place cs tail e → ⊥
token_stops spells place [] tail e t [] more h some k s = absurd (omega arith)
token_stops spells place [] tail e t (x ∷ spelling) more h some k s = cc
token_stops spells place (c ∷ cs) tail e t spelling more h some k s = s.2 t spelling more h k

begins_ends : {T : Type 0} → (a : Automaton) (value : ℕ → List ℕ → Option T) (spells : T → List ℕ → Type 0) → IsLanguage a value spells → (place : ℕ) (cs tail : List ℕ) (e : Option LexFault) (p : Placed T) (n : ℕ) (r : List ℕ) → BeginsToken spells place cs p n r → Ends spells place cs tail e → ⊥
begins_ends a value spells l place cs tail e p n r b h =
    let gap = same_gap h.gap b.gap h.rest (b.spelling ++ r) h.is_gap b.is_gap (stops_no_gap spells _ h.rest tail e h.stops) (token_no_gap a value spells l p.token b.spelling r b.token) (sym h.parts ∙ b.parts) in
    token_stops spells (place + size h.gap) h.rest tail e p.token b.spelling r b.token (l.some p.token b.spelling b.token) gap.rest h.stops

pub same_splits_from : {T : Type 0} → (a : Automaton) (value : ℕ → List ℕ → Option T) (spells : T → List ℕ → Type 0) → IsLanguage a value spells → (place : ℕ) (cs tail : List ℕ) (ts us : List (Placed T)) (e f : Option LexFault) → SplitsFrom spells place cs tail ts e → SplitsFrom spells place cs tail us f → (ts ≡ us) × (e ≡ f)
same_splits_from a value spells l place cs tail [] [] e f h k = (refl, same_ends spells place cs tail e f h k)
same_splits_from a value spells l place cs tail [] (u ∷ us) e f h k = absurd (begins_ends a value spells l place cs tail e u k.0 k.1 k.2 h)
same_splits_from a value spells l place cs tail (t ∷ ts) [] e f h k = absurd (begins_ends a value spells l place cs tail f t h.0 h.1 h.2 k)
same_splits_from a value spells l place cs tail (t ∷ ts) (u ∷ us) e f h k =
    let same = same_first a value spells l place cs t u h.0 k.0 h.1 k.1 h.2 k.2 in
    let moved = subst (λ (x : ℕ). SplitsFrom spells x h.1 tail ts e) same.next h.3 in
    let others = same_splits_from a value spells l k.0 k.1 tail ts us e f (subst (λ (x : List ℕ). SplitsFrom spells k.0 x tail ts e) same.rest moved) k.3 in
    let e1 : t ≡ u = same.first in
    let e2 : ts ≡ us = others.0 in
    (cc, others.1)

-- bytes

pub same_splits : {T : Type 0} → (a : Automaton) (value : ℕ → List ℕ → Option T) (spells : T → List ℕ → Type 0) → IsLanguage a value spells → (bytes : List ℕ) (ts us : List (Placed T)) (e f : Option LexFault) → Splits spells bytes ts e → Splits spells bytes us f → (ts ≡ us) × (e ≡ f)
same_splits a value spells l bytes ts us e f h k =
    let d = same_decoded bytes h.characters k.characters h.tail k.tail h.decodes k.decodes in
    let moved = subst (λ (x : List ℕ). SplitsFrom spells (mark_size x) (behind_mark x) h.tail ts e) d.characters h.splits in
    same_splits_from a value spells l (mark_size k.characters) (behind_mark k.characters) k.tail ts us e f (subst (λ (x : List ℕ). SplitsFrom spells (mark_size k.characters) (behind_mark k.characters) x ts e) d.tail moved) k.splits

same_splits_behind : {T : Type 0} → (a : Automaton) (value : ℕ → List ℕ → Option T) (spells : T → List ℕ → Type 0) → IsLanguage a value spells → (fresh : Bool) (place : ℕ) (bytes : List ℕ) (ts us : List (Placed T)) (e f : Option LexFault) → SplitsBehind spells fresh place bytes ts e → SplitsBehind spells fresh place bytes us f → (ts ≡ us) × (e ≡ f)
same_splits_behind a value spells l true place bytes ts us e f h k = same_splits a value spells l bytes ts us e f h k
same_splits_behind a value spells l false place bytes ts us e f h k =
    let d = same_decoded bytes h.characters k.characters h.tail k.tail h.decodes k.decodes in
    let moved = subst (λ (x : List ℕ). SplitsFrom spells place x h.tail ts e) d.characters h.splits in
    same_splits_from a value spells l place k.characters k.tail ts us e f (subst (λ (x : List ℕ). SplitsFrom spells place k.characters x ts e) d.tail moved) k.splits

pub same_continues : {T : Type 0} → (a : Automaton) (value : ℕ → List ℕ → Option T) (spells : T → List ℕ → Type 0) → IsLanguage a value spells → (begun : Begun) (more : List ℕ) (ts us : List (Placed T)) (e f : Option LexFault) → Continues spells begun more ts e → Continues spells begun more us f → (ts ≡ us) × (e ≡ f)
same_continues a value spells l begun more ts us e f h k = same_splits_behind a value spells l begun.fresh begun.at (begun.held ++ more) ts us e f h k
