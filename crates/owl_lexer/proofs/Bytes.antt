-- What a byte makes of what is in hand.
use Rattle.std.proofs.Common.{◌≡◌, ◌⊎◌, inl, inr, ℕ, ◌+◌, ◌<◌, ◌≤◌, Bool, true, false, Option, None, Some, List, [], ◌∷◌, ◌++◌, length, refl, sym, ap, ◌∙◌, subst, arith, add-zero, if◌then◌else◌}
use Rattle.std.specs.Prelude.{◌&&◌}
use Rattle.std.specs.Char.{IsScalar, encode_utf8, len_utf8}
use Rattle.std.specs.Str.{encode_utf8_all}
use Rattle.std.proofs.lemmas.Bool.{and_parts, eqb-true}
use Rattle.std.proofs.lemmas.List.{append_assoc, append-nil, length-append}
use Rattle.std.proofs.lemmas.Str.{encode_ascii, length-encode}
use lib.Utf8.{low_scalar}
use Rattle.owl_characters.specs.Feeding.{BeginsNone, Feeding, IsUnfinished, Steps}
use Rattle.owl_characters.specs.declared.utf8_step.Utf8Step.TheVariants.{Char}
use Rattle.owl_characters.specs.Utf8.{is_mark, mark_size, BeginsNoCharacter, Decodes, size}
use Rattle.owl_lexer.specs.declared.fault.LexFault.{LexFault}
use Rattle.owl_lexer.specs.declared.fault.LexFault.TheVariants.{BadUtf8}
use Rattle.owl_lexer.specs.Automata.{Automaton, Spells}
use Rattle.owl_lexer.specs.BytesGiving.{BegunBytes, ContinuesBytes, CutsBehindMark, EndsBytesAt, GivesBytes, GivesSomeBytes}
use Rattle.owl_lexer.proofs.BytesLaws.{decodes_first, decodes_none}
use Rattle.owl_lexer.specs.Cutting.{Cuts, Lexeme, Stops}
use Rattle.owl_lexer.proofs.DecodingLaws.{decode}
use Rattle.owl_lexer.specs.Giving.{Begun, Continues, EndsAt, Gives, GivesSome, end_of}
use Rattle.owl_characters.proofs.Utf8Laws.{size_append}
use Rattle.owl_lexer.proofs.GivingLaws.{gives_held}
use Rattle.owl_lexer.specs.Hands.{IsFrontOf, Finishes, FinishesBadly, IsReady, Refuses, Takes, begun_of}
use Rattle.owl_lexer.specs.Lexing.{KeepsEnd}
use Rattle.owl_lexer.specs.Sources.{bytes_of, IsOpen, TurnsBack, RefusesBytes, TakesBytes, begun_in, bytes_in}
use Rattle.owl_lexer.specs.declared.hand.Front.{Front}
use Rattle.owl_lexer.specs.declared.hand.Hand.{Hand}
use Rattle.owl_lexer.specs.declared.placed.Placed.{Placed}
use Rattle.owl_lexer.specs.declared.source.Source.{Source}
use Rattle.owl_lexer.proofs.Ends.{keeps_none, keeps_unfinished, keeps_whole}

-- the characters that are begun
abbrev pub characters_of : BegunBytes → Begun
characters_of begun = record { at = begun.at; held = begun.held }

-- a byte order mark

if_false : {A : Type 0} → (b : Bool) (x y : A) → b ≡ false → (if b then x else y) ≡ y
if_false {A = A} b x y e = subst (λ (c : Bool). (if c then x else y) ≡ y) (sym e) refl

if_true : {A : Type 0} → (b : Bool) (x y : A) → b ≡ true → (if b then x else y) ≡ x
if_true {A = A} b x y e = subst (λ (c : Bool). (if c then x else y) ≡ x) (sym e) refl

-- where nothing but a byte order mark could be begun, none is

no_mark : (a : Automaton) (at c : ℕ) (cs tail : List ℕ) (xs : List Lexeme) (e : Option LexFault) → is_mark c ≡ false → Cuts (Spells a) at (c ∷ cs) tail xs e → CutsBehindMark true a at (c ∷ cs) tail xs e
no_mark a at c cs tail xs e h k =
    let place : at ≡ at + mark_size (c ∷ cs) = sym (ap (λ (n : ℕ). at + n) (if_false (is_mark c) 3 0 h) ∙ add-zero at) in
    subst (λ (l : List ℕ). Cuts (Spells a) (at + mark_size (c ∷ cs)) l tail xs e) (sym (if_false (is_mark c) cs (c ∷ cs) h)) (subst (λ (p : ℕ). Cuts (Spells a) p (c ∷ cs) tail xs e) place k)

plain : (fresh : Bool) (a : Automaton) (at : ℕ) (held : List ℕ) (c : ℕ) (cs tail : List ℕ) (xs : List Lexeme) (e : Option LexFault) → (fresh && is_mark c) ≡ false → (fresh ≡ true → held ≡ []) → Cuts (Spells a) at (held ++ c ∷ cs) tail xs e → CutsBehindMark fresh a at (held ++ c ∷ cs) tail xs e
plain false a at held c cs tail xs e h first k = k
plain true a at held c cs tail xs e h first k =
    let none = first refl in
    subst (λ (l : List ℕ). CutsBehindMark true a at (l ++ c ∷ cs) tail xs e) (sym none) (no_mark a at c cs tail xs e h (subst (λ (l : List ℕ). Cuts (Spells a) at (l ++ c ∷ cs) tail xs e) none k))

-- the same where no character follows
plain_last : (fresh : Bool) (a : Automaton) (at : ℕ) (held tail : List ℕ) (xs : List Lexeme) (e : Option LexFault) → (fresh ≡ true → held ≡ []) → Cuts (Spells a) at (held ++ []) tail xs e → CutsBehindMark fresh a at (held ++ []) tail xs e
plain_last false a at held tail xs e first k = k
plain_last true a at held tail xs e first k =
    let none = first refl in
    subst (λ (l : List ℕ). CutsBehindMark true a at (l ++ []) tail xs e) (sym none) (subst (λ (p : ℕ). Cuts (Spells a) p [] tail xs e) (sym (add-zero at)) (subst (λ (l : List ℕ). Cuts (Spells a) at (l ++ []) tail xs e) none k))

-- a byte that makes no character whole

gives_unfinished : (a : Automaton) (at : ℕ) (held bytes : List ℕ) (fresh : Bool) (b : ℕ) → GivesBytes a (record { at = at; held = held; bytes = bytes; fresh = fresh }) (b ∷ []) [] (record { at = at; held = held; bytes = bytes ++ b ∷ []; fresh = fresh })
gives_unfinished a at held bytes fresh b more xs e k =
    record { characters = k.characters; tail = k.tail; decodes = subst (λ (l : List ℕ). Decodes l k.characters k.tail) (append_assoc bytes (b ∷ []) more) k.decodes; cuts = k.cuts }

pub takes_unfinished : {T : Type 0} → (a : Automaton) (value : ℕ → List ℕ → Option T) (hand : Hand) (old new : Feeding) (fresh : Bool) (b : ℕ) (before : List (Placed T)) → IsOpen a (record { hand = hand; feed = old; fresh = fresh }) → IsUnfinished (old.held ++ b ∷ []) → new ≡ record { at = old.at; held = old.held ++ b ∷ []; bad = false } → TakesBytes a value (record { hand = hand; feed = old; fresh = fresh }) (b ∷ []) before before (record { hand = hand; feed = new; fresh = fresh })
takes_unfinished a value hand old new fresh b before r u e =
    let at : new.at ≡ old.at = ap (λ (f : Feeding). f.at) e in
    let held : new.held ≡ old.held ++ b ∷ [] = ap (λ (f : Feeding). f.held) e in
    let sizes : length new.held ≡ length old.held + 1 = ap (λ (l : List ℕ). length l) held ∙ length-append old.held (b ∷ []) in
    let begun : BegunBytes = record { at = hand.at; held = hand.held.items; bytes = old.held; fresh = fresh } in
    record {
      ready = record { ready = r.ready; place = let place = r.place in omega arith; clean = ap (λ (f : Feeding). f.bad) e; first = r.first; start = r.start; part = inr (subst IsUnfinished (sym held) u) };
      adds = record {
        given = [];
        added = sym (append-nil before);
        gives = subst (λ (l : List ℕ). GivesBytes a (record { at = hand.at; held = hand.held.items; bytes = old.held; fresh = fresh }) (b ∷ []) [] (record { at = hand.at; held = hand.held.items; bytes = l; fresh = fresh })) (sym held) (gives_unfinished a hand.at hand.held.items old.held fresh b);
      };
      few = omega arith;
      end = omega arith;
      ends = subst (λ (l : List ℕ). KeepsEnd (bytes_of begun) (b ∷ []) (bytes_of (record begun { bytes = l }))) (sym held) (keeps_unfinished begun b);
    }

-- a byte that makes a character whole

whole_bytes : (bytes : List ℕ) (b c : ℕ) (more : List ℕ) → encode_utf8 c ≡ bytes ++ b ∷ [] → bytes ++ b ∷ more ≡ encode_utf8 c ++ more
whole_bytes bytes b c more e = sym (append_assoc bytes (b ∷ []) more) ∙ ap (λ (l : List ℕ). l ++ more) (sym e)

first_whole : (a : Automaton) (old : BegunBytes) (b c : ℕ) (more others tail : List ℕ) (xs : List Lexeme) (e : Option LexFault) → IsScalar c → encode_utf8 c ≡ old.bytes ++ b ∷ [] → Decodes more others tail → CutsBehindMark old.fresh a old.at (old.held ++ c ∷ others) tail xs e → ContinuesBytes a old (b ∷ more) xs e
first_whole a old b c more others tail xs e scalar is d k = record {
  characters = c ∷ others;
  tail = tail;
  decodes = subst (λ (l : List ℕ). Decodes l (c ∷ others) tail) (sym (whole_bytes old.bytes b c more is)) (decodes_first c more others tail scalar d);
  cuts = k;
}

-- what is begun once characters are whole
abbrev pub whole_behind : Begun → BegunBytes
whole_behind begun = record { at = begun.at; held = begun.held; bytes = []; fresh = false }

-- a character that is no byte order mark in front is whole
pub record IsWhole (old : BegunBytes) (b c : ℕ) : Type 0 where
  pub scalar : IsScalar c
  pub is : encode_utf8 c ≡ old.bytes ++ b ∷ []
  pub no_mark : (old.fresh && is_mark c) ≡ false
  pub first : old.fresh ≡ true → old.held ≡ []

gives_whole : (a : Automaton) (old : BegunBytes) (b c : ℕ) (given : List Lexeme) (new : Begun) → IsWhole old b c → Gives a (characters_of old) (c ∷ []) given new → GivesBytes a old (b ∷ []) given (whole_behind new)
gives_whole a old b c given new w g more rest e k =
    first_whole a old b c more k.characters k.tail (given ++ rest) e w.scalar w.is k.decodes
    (plain old.fresh a old.at old.held c k.characters k.tail (given ++ rest) e w.no_mark w.first (g k.characters k.tail rest e k.cuts))

some_whole : (a : Automaton) (old : BegunBytes) (b c : ℕ) (given : List Lexeme) → IsWhole old b c → GivesSome a (characters_of old) (c ∷ []) given → GivesSomeBytes a old (b ∷ []) given
some_whole a old b c given w g more =
    let d = decode more in
    let o = g d.characters d.tail in
    (o.0, o.1, first_whole a old b c more d.characters d.tail (given ++ o.0) o.1 w.scalar w.is d.decodes (plain old.fresh a old.at old.held c d.characters d.tail (given ++ o.0) o.1 w.no_mark w.first o.2))

ends_whole : (a : Automaton) (old : BegunBytes) (b c : ℕ) (given : List Lexeme) (fault : LexFault) → IsWhole old b c → EndsAt a (characters_of old) (c ∷ []) given fault → EndsBytesAt a old (b ∷ []) given fault
ends_whole a old b c given fault w g more =
    let d = decode more in
    first_whole a old b c more d.characters d.tail given (Some fault) w.scalar w.is d.decodes
    (plain old.fresh a old.at old.held c d.characters d.tail given (Some fault) w.no_mark w.first (g d.characters d.tail))

-- what a character makes of the feed
pub record FeedsWhole (old new : Feeding) (b c : ℕ) : Type 0 where
  pub scalar : IsScalar c
  pub is : encode_utf8 c ≡ old.held ++ b ∷ []
  pub at : new.at ≤ old.at + len_utf8 c
  pub held : new.held ≡ []
  pub clean : new.bad ≡ false

-- as the feed tells it
pub fed_whole : (old new : Feeding) (b c at : ℕ) → Steps old b (Char c at) new → FeedsWhole old new b c
fed_whole old new b c at s =
    let place : new.at ≡ old.at + len_utf8 c = ap (λ (x : Feeding). x.at) s.3 in
    record { scalar = s.1; is = s.2; at = omega arith; held = ap (λ (x : Feeding). x.held) s.3; clean = ap (λ (x : Feeding). x.bad) s.3 }

-- a byte of ASCII, which the feed isn't told
pub ascii_whole : (feed : Feeding) (b c : ℕ) → c ≡ b → b < 128 → feed.held ≡ [] → feed.bad ≡ false → FeedsWhole feed feed b c
ascii_whole feed b c e small none clean = subst (FeedsWhole feed feed b) (sym e)
    (record { scalar = low_scalar b (omega arith); is = encode_ascii b small ∙ ap (λ (l : List ℕ). l ++ b ∷ []) (sym none); at = omega arith; held = none; clean = clean })

pub no_mark_plain : (fresh : Bool) (c : ℕ) → fresh ≡ false → (fresh && is_mark c) ≡ false
no_mark_plain fresh c e = ap (λ (b : Bool). b && is_mark c) e

-- how many bytes the character takes
width : (old new : Feeding) (b c : ℕ) → FeedsWhole old new b c → len_utf8 c ≡ length old.held + 1
width old new b c f = sym (length-encode c) ∙ ap (λ (l : List ℕ). length l) f.is ∙ length-append old.held (b ∷ [])

pub takes_whole : {T : Type 0} → (a : Automaton) (value : ℕ → List ℕ → Option T) (old new : Source) (b c : ℕ) (before after : List (Placed T)) → IsOpen a old → FeedsWhole old.feed new.feed b c → (old.fresh && is_mark c) ≡ false → new.fresh ≡ false → Takes a value old.hand (c ∷ []) before after new.hand → TakesBytes a value old (b ∷ []) before after new
takes_whole a value old new b c before after r f plain_c fresh t =
    let at = f.at in
    let held = f.held in
    let nothing : length new.feed.held ≡ 0 = ap (λ (l : List ℕ). length l) held in
    let takes = width old.feed new.feed b c f in
    let place = r.place in
    let end = t.end in
    let few = t.few in
    let old_end = r.ready.end in
    let new_end = t.ready.end in
    let whole : IsWhole (begun_in old) b c = record { scalar = f.scalar; is = f.is; no_mark = plain_c; first = r.first } in
    let gives = gives_whole a (begun_in old) b c t.adds.given (begun_of new.hand) whole t.adds.gives in
    let begun : whole_behind (begun_of new.hand) ≡ begun_in new = λ i. record { at = new.hand.at; held = new.hand.held.items; bytes = sym held i; fresh = sym fresh i } in
    record {
      ready = record { ready = t.ready; place = omega arith; clean = f.clean; first = λ e. let no : true ≡ false = sym e ∙ fresh in cc; start = λ e. let no : true ≡ false = sym e ∙ fresh in cc; part = inl held };
      adds = record { given = t.adds.given; added = t.adds.added; gives = subst (GivesBytes a (begun_in old) (b ∷ []) t.adds.given) begun gives };
      few = omega arith;
      end = omega arith;
      ends = keeps_whole (begun_in old) (begun_in new) b c f.is held fresh t.ends;
    }

-- a character that leads nowhere is not taken
pub turns_back : {T : Type 0} → (a : Automaton) (value : ℕ → List ℕ → Option T) (old new : Source) (b c x : ℕ) (before after : List (Placed T)) → IsOpen a old → FeedsWhole old.feed new.feed b c → (old.fresh && is_mark c) ≡ false → new.fresh ≡ false → (new.hand ≡ old.hand) × (after ≡ before) → Some c ≡ Some x → TurnsBack a value old (b ∷ []) x before after new
turns_back a value old new b c x before after r f plain_c fresh same is =
    let at = f.at in
    let held = f.held in
    let takes = width old.feed new.feed b c f in
    let place = r.place in
    let new_hand : new.hand.end ≡ old.hand.end = ap (λ (h : Hand). h.end) same.0 in
    let sizes = size_append old.hand.held.items (c ∷ []) in
    let whole : IsWhole (begun_in old) b c = record { scalar = f.scalar; is = f.is; no_mark = plain_c; first = r.first } in
    let begun : Begun = record { at = old.hand.at; held = old.hand.held.items ++ c ∷ [] } in
    let c_is : c ≡ x = cc in
    subst (λ (y : ℕ). TurnsBack a value old (b ∷ []) y before after new) c_is (record {
      hand = same.0;
      moves = record {
        adds = record { given = []; added = same.1 ∙ sym (append-nil before); gives = gives_whole a (begun_in old) b c [] begun whole (gives_held a old.hand.at c old.hand.held.items) };
        few = let e : length after ≡ length before = ap (λ (l : List (Placed _)). length l) same.1 in omega arith;
        end = omega arith;
        ends = keeps_whole (begun_in old) (whole_behind begun) b c f.is refl refl (record { front = []; parts = refl });
      };
      scalar = f.scalar;
      feed = held;
      clean = f.clean;
      place = omega arith;
      fresh = fresh;
    })

pub refuses_whole : {T : Type 0} → (a : Automaton) (value : ℕ → List ℕ → Option T) (old : Source) (new : Feeding) (b c : ℕ) (before after : List (Placed T)) (fault : LexFault) → IsOpen a old → FeedsWhole old.feed new b c → (old.fresh && is_mark c) ≡ false → Refuses a value (begun_of old.hand) (c ∷ []) before after fault → RefusesBytes a value (begun_in old) (b ∷ []) before after fault
refuses_whole a value old new b c before after fault r f plain_c t =
    let whole : IsWhole (begun_in old) b c = record { scalar = f.scalar; is = f.is; no_mark = plain_c; first = r.first } in
    record {
      some = record { given = t.some.given; added = t.some.added; next = some_whole a (begun_in old) b c t.some.given whole t.some.next };
      bad = λ ne. let bad = t.bad ne in record { given = bad.given; added = bad.added; ends = ends_whole a (begun_in old) b c bad.given fault whole bad.ends };
    }

-- a byte order mark in front is passed over

-- where nothing is held, no lexeme stands in front
moved_front : (a : Automaton) (hand : Hand) → hand.held.items ≡ [] → IsFrontOf a hand.at hand.held.items hand.front → IsFrontOf a (hand.at + 3) hand.held.items hand.front
moved_front a hand none f = front_at hand.front f
  where
    front_at : (front : Option Front) → IsFrontOf a hand.at hand.held.items front → IsFrontOf a (hand.at + 3) hand.held.items front
    front_at None f = f
    front_at (Some front) f =
        let some = f.0.some in
        let within = f.0.within in
        let nothing : length hand.held.items ≡ 0 = ap (λ (l : List ℕ). length l) none in
        absurd (omega arith)

behind_first : (a : Automaton) (at c : ℕ) (cs tail : List ℕ) (xs : List Lexeme) (e : Option LexFault) → is_mark c ≡ true → Cuts (Spells a) (at + 3) cs tail xs e → CutsBehindMark true a at (c ∷ cs) tail xs e
behind_first a at c cs tail xs e h k =
    subst (λ (l : List ℕ). Cuts (Spells a) (at + mark_size (c ∷ cs)) l tail xs e) (sym (if_true (is_mark c) cs (c ∷ cs) h))
    (subst (λ (n : ℕ). Cuts (Spells a) (at + n) cs tail xs e) (sym (if_true (is_mark c) 3 0 h)) k)

gives_mark : (a : Automaton) (at : ℕ) (bytes : List ℕ) (b c : ℕ) → IsScalar c → encode_utf8 c ≡ bytes ++ b ∷ [] → is_mark c ≡ true → GivesBytes a (record { at = at; held = []; bytes = bytes; fresh = true }) (b ∷ []) [] (record { at = at + 3; held = []; bytes = []; fresh = false })
gives_mark a at bytes b c scalar is mark more rest e k =
    first_whole a (record { at = at; held = []; bytes = bytes; fresh = true }) b c more k.characters k.tail rest e scalar is k.decodes (behind_first a at c k.characters k.tail rest e mark k.cuts)

pub takes_mark : {T : Type 0} → (a : Automaton) (value : ℕ → List ℕ → Option T) (old new : Source) (b c : ℕ) (before : List (Placed T)) → IsOpen a old → FeedsWhole old.feed new.feed b c → (old.fresh && is_mark c) ≡ true → new.fresh ≡ false → new.hand ≡ record old.hand { at = old.hand.at + 3; end = old.hand.end + 3 } → TakesBytes a value old (b ∷ []) before before new
takes_mark a value old new b c before r f passes fresh moved =
    let both = and_parts old.fresh (is_mark c) passes in
    let none = r.first both.0 in
    let width_is : len_utf8 c ≡ 3 = ap len_utf8 (eqb-true c 65279 both.1) in
    let feed_at = f.at in
    let feed_held = f.held in
    let nothing : length new.feed.held ≡ 0 = ap (λ (l : List ℕ). length l) feed_held in
    let takes = width old.feed new.feed b c f in
    let at : new.hand.at ≡ old.hand.at + 3 = ap (λ (h : Hand). h.at) moved in
    let end : new.hand.end ≡ old.hand.end + 3 = ap (λ (h : Hand). h.end) moved in
    let held : new.hand.held.items ≡ old.hand.held.items = ap (λ (h : Hand). h.held.items) moved in
    let sizes : size new.hand.held.items ≡ size old.hand.held.items = ap size held in
    let lengths : length new.hand.held.items ≡ length old.hand.held.items = ap (λ (l : List ℕ). length l) held in
    let place = r.place in
    let old_end = r.ready.end in
    let first : begun_in old ≡ record { at = old.hand.at; held = []; bytes = old.feed.held; fresh = true } = λ i. record { at = old.hand.at; held = none i; bytes = old.feed.held; fresh = both.0 i } in
    let last : record { at = old.hand.at + 3; held = []; bytes = []; fresh = false } ≡ begun_in new = λ i. record { at = sym at i; held = sym (held ∙ none) i; bytes = sym feed_held i; fresh = sym fresh i } in
    record {
      ready = record {
        ready = subst (IsReady a) (sym moved) (record { leads = r.ready.leads; front = λ k. moved_front a old.hand none (r.ready.front k); end = omega arith; scalars = r.ready.scalars });
        place = omega arith;
        clean = f.clean;
        first = λ e. held ∙ none;
        start = λ e. let no : true ≡ false = sym e ∙ fresh in cc;
        part = inl feed_held;
      };
      adds = record {
        given = [];
        added = sym (append-nil before);
        gives = subst (λ (o : BegunBytes). GivesBytes a o (b ∷ []) [] (begun_in new)) (sym first)
            (subst (GivesBytes a (record { at = old.hand.at; held = []; bytes = old.feed.held; fresh = true }) (b ∷ []) []) last (gives_mark a old.hand.at old.feed.held b c f.scalar f.is both.1));
      };
      few = omega arith;
      end = omega arith;
      ends = keeps_none (bytes_in old) (bytes_in new) (b ∷ []) (ap (λ (l : List ℕ). encode_utf8_all l ++ new.feed.held) (held ∙ none) ∙ feed_held) fresh;
    }

-- no character is begun, and none follows

pub last_bytes : (a : Automaton) (old : BegunBytes) (more : List ℕ) (xs : List Lexeme) (e : Option LexFault) → (old.fresh ≡ true → old.held ≡ []) → BeginsNoCharacter (old.bytes ++ more) → Continues a (characters_of old) [] (old.bytes ++ more) xs e → ContinuesBytes a old more xs e
last_bytes a old more xs e first none k = record {
  characters = [];
  tail = old.bytes ++ more;
  decodes = decodes_none (old.bytes ++ more) none;
  cuts = plain_last old.fresh a old.at old.held (old.bytes ++ more) xs e first k;
}

begins_none : (bytes : List ℕ) (b : ℕ) (more : List ℕ) → BeginsNone (bytes ++ b ∷ []) → BeginsNoCharacter (bytes ++ b ∷ more)
begins_none bytes b more n = subst BeginsNoCharacter (append_assoc bytes (b ∷ []) more) (n more)

bad_stops : (a : Automaton) (place : ℕ) (bytes : List ℕ) → 0 < length bytes → Stops (Spells a) place [] bytes (Some (BadUtf8 place))
bad_stops a place [] some = absurd (omega arith)
bad_stops a place (b ∷ bytes) some = refl

-- the place behind the characters in hand is where the next one begins
place_of : (a : Automaton) (source : Source) (at : ℕ) → IsOpen a source → at ≡ source.hand.end → at ≡ end_of (begun_of source.hand)
place_of a source at r e = e ∙ r.ready.end

bad_ending : (a : Automaton) (source : Source) (at : ℕ) (bytes : List ℕ) → IsOpen a source → at ≡ source.hand.end → 0 < length bytes → Stops (Spells a) (end_of (begun_of source.hand)) [] bytes (Some (BadUtf8 at))
bad_ending a source at bytes r e some = subst (λ (p : ℕ). Stops (Spells a) p [] bytes (Some (BadUtf8 at))) (place_of a source at r e) (bad_stops a at bytes some)

some_bytes : (front : List ℕ) (b : ℕ) (more : List ℕ) → 0 < length (front ++ b ∷ more)
some_bytes front b more = let size = length-append front (b ∷ more) in omega arith

ends_some_bytes : (a : Automaton) (old : BegunBytes) (bytes : List ℕ) (xs : List Lexeme) (fault : LexFault) → EndsBytesAt a old bytes xs fault → GivesSomeBytes a old bytes xs
ends_some_bytes a old bytes xs fault h more = ([], Some fault, subst (λ (l : List Lexeme). ContinuesBytes a old (bytes ++ more) l (Some fault)) (sym (append-nil xs)) (h more))

pub refuses_bad : {T : Type 0} → (a : Automaton) (value : ℕ → List ℕ → Option T) (old : Source) (hand : Hand) (b at : ℕ) (before after : List (Placed T)) → IsOpen a old → at ≡ old.hand.end → BeginsNone (old.feed.held ++ b ∷ []) → Finishes a value old.hand before after hand → RefusesBytes a value (begun_in old) (b ∷ []) before after (BadUtf8 at)
refuses_bad a value old hand b at before after r e n f =
    let ends : EndsBytesAt a (begun_in old) (b ∷ []) f.adds.given (BadUtf8 at) = λ more.
    last_bytes a (begun_in old) (b ∷ more) f.adds.given (Some (BadUtf8 at)) r.first (begins_none old.feed.held b more n)
    (f.adds.last (old.feed.held ++ b ∷ more) (Some (BadUtf8 at)) (bad_ending a old at (old.feed.held ++ b ∷ more) r e (some_bytes old.feed.held b more))) in
    record {
      some = record { given = f.adds.given; added = f.adds.added; next = ends_some_bytes a (begun_in old) (b ∷ []) f.adds.given (BadUtf8 at) ends };
      bad = λ ne. record { given = f.adds.given; added = f.adds.added; ends = ends };
    }

pub refuses_last : {T : Type 0} → (a : Automaton) (value : ℕ → List ℕ → Option T) (old : Source) (b : ℕ) (before after : List (Placed T)) (fault : LexFault) → IsOpen a old → BeginsNone (old.feed.held ++ b ∷ []) → FinishesBadly a value (begun_of old.hand) before after fault → RefusesBytes a value (begun_in old) (b ∷ []) before after fault
refuses_last a value old b before after fault r n f = record {
  some = record {
    given = f.some.given;
    added = f.some.added;
    next = λ more.
        let o = f.some.next (old.feed.held ++ b ∷ more) in
        (o.0, o.1, last_bytes a (begun_in old) (b ∷ more) (f.some.given ++ o.0) o.1 r.first (begins_none old.feed.held b more n) o.2);
  };
  bad = λ ne.
      let bad = f.bad ne in
      record {
        given = bad.given;
        added = bad.added;
        ends = λ more. last_bytes a (begun_in old) (b ∷ more) bad.given (Some fault) r.first (begins_none old.feed.held b more n) (bad.ends (old.feed.held ++ b ∷ more));
      };
}

-- the end

none_behind : (bytes : List ℕ) → BeginsNoCharacter bytes → BeginsNoCharacter (bytes ++ [])
none_behind bytes n = subst BeginsNoCharacter (sym (append-nil bytes)) n

-- what the feed tells at the end
pub unfinished_of : (feed : Feeding) → feed.bad ≡ false → (feed.bad ≡ true) ⊎ (IsUnfinished feed.held × (0 < length feed.held)) → IsUnfinished feed.held × (0 < length feed.held)
unfinished_of feed clean (inl bad) = let e : true ≡ false = sym bad ∙ clean in cc
unfinished_of feed clean (inr u) = u
