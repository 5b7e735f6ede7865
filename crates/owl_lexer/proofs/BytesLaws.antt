-- Bytes in UTF-8: which characters come of what is begun.
use Rattle.std.proofs.Common.{◌≡◌, ℕ, ◌+◌, Option, Some, List, [], ◌∷◌, ◌++◌, length, refl, sym, ap, ◌∙◌, subst, arith}
use Rattle.std.specs.Char.{IsScalar, encode_utf8}
use Rattle.std.specs.Str.{encode_utf8_all}
use Rattle.std.proofs.lemmas.Bool.{and_from, and_parts}
use Rattle.std.proofs.lemmas.List.{append_assoc, append-nil, length-append}
use Rattle.std.proofs.lemmas.Str.{encode_same}
use Rattle.owl_characters.specs.Feeding.{IsUnfinished}
use Rattle.owl_characters.specs.Utf8.{BeginsNoCharacter, Decodes}
use Rattle.owl_lexer.specs.declared.fault.LexFault.{LexFault}
use Rattle.owl_lexer.specs.Automata.{Automaton}
use Rattle.owl_lexer.specs.BytesGiving.{BegunBytes, ContinuesBytes, EndsBytesAt, GivesBytes, GivesSomeBytes}
use Rattle.owl_lexer.specs.Cutting.{Lexeme}

-- decoding

-- no character begins the bytes
pub record DecodesNone (bytes cs tail : List ℕ) : Type 0 where
  pub none : cs ≡ []
  pub all : bytes ≡ tail

pub none_decoded : (bytes cs tail : List ℕ) → BeginsNoCharacter bytes → Decodes bytes cs tail → DecodesNone bytes cs tail
none_decoded bytes [] tail n d = record { none = refl; all = d.parts }
none_decoded bytes (c ∷ cs) tail n d =
    absurd (n c (encode_utf8_all cs ++ tail) (and_parts _ _ d.scalars).0 (d.parts ∙ append_assoc (encode_utf8 c) (encode_utf8_all cs) tail))

pub decodes_none : (bytes : List ℕ) → BeginsNoCharacter bytes → Decodes bytes [] bytes
decodes_none bytes n = record { parts = refl; scalars = refl; stops = n }

-- a character begins the bytes
pub record DecodesFirst (c : ℕ) (more cs tail : List ℕ) : Type 0 where
  pub others : List ℕ
  pub is : cs ≡ c ∷ others
  pub decodes : Decodes more others tail

pub first_decoded : (c : ℕ) (more cs tail : List ℕ) → IsScalar c → Decodes (encode_utf8 c ++ more) cs tail → DecodesFirst c more cs tail
first_decoded c more [] tail s d = absurd (d.stops c more s (sym d.parts))
first_decoded c more (x ∷ cs) tail s d =
    let same = encode_same c x more (encode_utf8_all cs ++ tail) (d.parts ∙ append_assoc (encode_utf8 x) (encode_utf8_all cs) tail) in
    record {
      others = cs;
      is = ap (λ (y : ℕ). y ∷ cs) (sym same.0);
      decodes = record { parts = same.1; scalars = (and_parts _ _ d.scalars).1; stops = d.stops };
    }

pub decodes_first : (c : ℕ) (more cs tail : List ℕ) → IsScalar c → Decodes more cs tail → Decodes (encode_utf8 c ++ more) (c ∷ cs) tail
decodes_first c more cs tail s d = record {
  parts = ap (λ (y : List ℕ). encode_utf8 c ++ y) d.parts ∙ sym (append_assoc (encode_utf8 c) (encode_utf8_all cs) tail);
  scalars = and_from _ _ s d.scalars;
  stops = d.stops;
}

-- no whole character stands in a proper front of one
pub no_whole : (bytes : List ℕ) → IsUnfinished bytes → (c : ℕ) (rest : List ℕ) → bytes ≡ encode_utf8 c ++ rest → ⊥
no_whole bytes u c rest e =
    let whole : encode_utf8 u.character ++ [] ≡ encode_utf8 c ++ (rest ++ u.rest) =
    append-nil (encode_utf8 u.character) ∙ u.is ∙ ap (λ (y : List ℕ). y ++ u.rest) e ∙ append_assoc (encode_utf8 c) rest u.rest in
    let same = encode_same u.character c [] (rest ++ u.rest) whole in
    let sizes : 0 ≡ length rest + length u.rest = ap (λ (y : List ℕ). length y) same.1 ∙ length-append rest u.rest in
    let some = u.some in
    omega arith

pub unfinished_begins_none : (bytes : List ℕ) → IsUnfinished bytes → BeginsNoCharacter bytes
unfinished_begins_none bytes u c rest s e = no_whole bytes u c rest e

-- the characters and the tail are the same
pub record SameDecoded (cs ds s t : List ℕ) : Type 0 where
  pub characters : cs ≡ ds
  pub tail : s ≡ t

pub same_decoded : (bytes cs ds s t : List ℕ) → Decodes bytes cs s → Decodes bytes ds t → SameDecoded cs ds s t
same_decoded bytes [] ds s t h k =
    let n : BeginsNoCharacter bytes = subst BeginsNoCharacter (sym h.parts) h.stops in
    let o = none_decoded bytes ds t n k in
    record { characters = sym o.none; tail = sym h.parts ∙ o.all }
same_decoded bytes (c ∷ cs) ds s t h k =
    let more = encode_utf8_all cs ++ s in
    let e : bytes ≡ encode_utf8 c ++ more = h.parts ∙ append_assoc (encode_utf8 c) (encode_utf8_all cs) s in
    let scalar = (and_parts _ _ h.scalars).0 in
    let o = first_decoded c more ds t scalar (subst (λ (b : List ℕ). Decodes b ds t) e k) in
    let rest = same_decoded more cs o.others s t (record { parts = refl; scalars = (and_parts _ _ h.scalars).1; stops = h.stops }) o.decodes in
    record { characters = ap (λ (l : List ℕ). c ∷ l) rest.characters ∙ sym o.is; tail = rest.tail }

-- bytes one behind another

move : (a : Automaton) (begun : BegunBytes) (bs ds : List ℕ) (xs : List Lexeme) (e : Option LexFault) → bs ≡ ds → ContinuesBytes a begun bs xs e → ContinuesBytes a begun ds xs e
move a begun bs ds xs e same h = subst (λ (l : List ℕ). ContinuesBytes a begun l xs e) same h

pub gives_both_bytes : (a : Automaton) (old mid new : BegunBytes) (bs ds : List ℕ) (xs ys : List Lexeme) → GivesBytes a old bs xs mid → GivesBytes a mid ds ys new → GivesBytes a old (bs ++ ds) (xs ++ ys) new
gives_both_bytes a old mid new bs ds xs ys g h more rest e k =
    subst (λ (l : List Lexeme). ContinuesBytes a old ((bs ++ ds) ++ more) l e) (sym (append_assoc xs ys rest))
    (move a old (bs ++ (ds ++ more)) ((bs ++ ds) ++ more) (xs ++ (ys ++ rest)) e (sym (append_assoc bs ds more)) (g (ds ++ more) (ys ++ rest) e (h more rest e k)))

comes_behind : (a : Automaton) (old mid : BegunBytes) (bs ds es more : List ℕ) (xs ys : List Lexeme) (e : Option LexFault) → GivesBytes a old bs xs mid → ContinuesBytes a mid (ds ++ (es ++ more)) ys e → ContinuesBytes a old ((bs ++ (ds ++ es)) ++ more) (xs ++ ys) e
comes_behind a old mid bs ds es more xs ys e g k =
    let same : (bs ++ (ds ++ es)) ++ more ≡ bs ++ (ds ++ (es ++ more)) = append_assoc bs (ds ++ es) more ∙ ap (λ (l : List ℕ). bs ++ l) (append_assoc ds es more) in
    move a old (bs ++ (ds ++ (es ++ more))) ((bs ++ (ds ++ es)) ++ more) (xs ++ ys) e (sym same) (g (ds ++ (es ++ more)) ys e k)

pub some_behind_bytes : (a : Automaton) (old mid : BegunBytes) (bs ds es : List ℕ) (xs ys : List Lexeme) → GivesBytes a old bs xs mid → GivesSomeBytes a mid ds ys → GivesSomeBytes a old (bs ++ (ds ++ es)) (xs ++ ys)
some_behind_bytes a old mid bs ds es xs ys g h more =
    let o = h (es ++ more) in
    (o.0, o.1, subst (λ (l : List Lexeme). ContinuesBytes a old ((bs ++ (ds ++ es)) ++ more) l o.1) (sym (append_assoc xs ys o.0)) (comes_behind a old mid bs ds es more xs (ys ++ o.0) o.1 g o.2))

pub ends_behind_bytes : (a : Automaton) (old mid : BegunBytes) (bs ds es : List ℕ) (xs ys : List Lexeme) (fault : LexFault) → GivesBytes a old bs xs mid → EndsBytesAt a mid ds ys fault → EndsBytesAt a old (bs ++ (ds ++ es)) (xs ++ ys) fault
ends_behind_bytes a old mid bs ds es xs ys fault g h more = comes_behind a old mid bs ds es more xs ys (Some fault) g (h (es ++ more))
