-- What is made of bytes where characters may be taken again.
use Rattle.std.proofs.Common.{◌≡◌, ◌⊎◌, inl, inr, ℕ, suc, get_or, ◌+◌, ◌-◌, ◌<◌, ◌≤◌, Bool, true, false, Option, None, Some, List, [], ◌∷◌, ◌++◌, length, take, drop, reverse, refl, sym, ap, ◌∙◌, subst, arith}
use Rattle.std.specs.List.{All}
use Rattle.std.specs.Str.{all_scalars, encode_utf8_all}
use Rattle.std.proofs.lemmas.Bool.{and_parts}
use Rattle.std.proofs.lemmas.List.{append_assoc, append-nil, length-append, length-reverse, take-append-drop, take_rest}
use Rattle.std.proofs.Math.Seq.{take-add}
use Rattle.std.proofs.lemmas.List.Elements.{All-nil}
use Rattle.std.proofs.lemmas.Str.{encodes-append}
use Rattle.owl_characters.specs.Utf8.{BeginsNoCharacter, size}
use Rattle.owl_characters.proofs.Utf8Laws.{size_append}
use Rattle.owl_lexer.specs.Adding.{tokens_of}
use Rattle.owl_lexer.specs.Automata.{Automaton, Spells}
use Rattle.owl_lexer.specs.BytesGiving.{AddsLastBytes, BegunBytes, ContinuesBytes, CutsBehindMark, EndsBytesAt, GivesBytes, GivesSomeBytes, end_of_bytes}
use Rattle.owl_lexer.proofs.BytesLaws.{none_decoded}
use Rattle.owl_lexer.specs.Cutting.{Cuts, Lexeme, Stops}
use Rattle.owl_lexer.proofs.DecodingLaws.{decode}
use Rattle.owl_lexer.specs.Giving.{Begun, Continues}
use Rattle.owl_lexer.specs.Hands.{EndsIn, IsReady}
use Rattle.owl_lexer.specs.Lexing.{KeepsEnd}
use Rattle.owl_lexer.specs.Sources.{bytes_of, EndsAgain, EndsBytesBadly, EndsSomeAgain, IsOpen, IsOpenWith, IsPart, Moves, RefusesBytes, TakesAgain, TakesBytes, TurnsBack, begun_in, begun_with_again}
use Rattle.owl_lexer.proofs.LexingLaws.{comes}
use Rattle.owl_lexer.specs.Retaking.{AddsCut, AreKept, IsLostRun, MayFollow, RefusesAgain, Settles, begun_with, coming}
use Rattle.owl_lexer.specs.declared.again.Again.{Again}
use Rattle.owl_lexer.specs.declared.fault.LexFault.{LexFault}
use Rattle.owl_lexer.specs.declared.fault.LexFault.TheVariants.{BadUtf8, Memory}
use Rattle.owl_lexer.specs.declared.hand.Hand.{Hand}
use Rattle.owl_lexer.specs.declared.placed.Placed.{Placed}
use Rattle.owl_lexer.specs.declared.source.Source.{Source}
use Rattle.owl_lexer.proofs.Bytes.{last_bytes}
use Rattle.owl_lexer.proofs.BytesFeeding.{moves_both, moves_none, moves_of, refuses_moved}
use Rattle.owl_lexer.proofs.Hands.{scalar_behind}
use Rattle.owl_lexer.proofs.Holds.{part_begins_none}

-- ---- where nothing is taken again

pub with_nothing : (source : Source) (again : Again) → again.chars.items ≡ [] → begun_with_again source again ≡ begun_in source
with_nothing source again e = λ i. record { at = source.hand.at; held = (ap (λ (l : List ℕ). source.hand.held.items ++ reverse l) e ∙ append-nil source.hand.held.items) i; bytes = source.feed.held; fresh = source.fresh }

held_with : (source : Source) (again : Again) → again.chars.items ≡ [] → source.hand.held.items ++ coming again ≡ source.hand.held.items
held_with source again e = ap (λ (l : List ℕ). source.hand.held.items ++ reverse l) e ∙ append-nil source.hand.held.items

pub open_alone : (a : Automaton) (source : Source) (again : Again) → IsOpenWith a source again → again.chars.items ≡ [] → IsOpen a source
open_alone a source again o e =
    let place : source.feed.at ≤ source.hand.end + size (reverse {A = ℕ} []) = subst (λ (l : List ℕ). source.feed.at ≤ source.hand.end + size (reverse l)) e o.place in
    record {
      ready = o.ready;
      place = omega arith;
      clean = o.clean;
      first = λ f. sym (held_with source again e) ∙ o.first f;
      start = o.start;
      part = o.part;
    }

pub open_with : (a : Automaton) (source : Source) (again : Again) → IsOpen a source → again.chars.items ≡ [] → again.ended ≡ false → IsOpenWith a source again
open_with a source again o e ended =
    let place = o.place in
    let none : length again.chars.items ≡ 0 = ap (λ (l : List ℕ). length l) e in
    record {
      ready = o.ready;
      kept = not_kept none;
      scalars = ap all_scalars (held_with source again e) ∙ o.ready.scalars;
      place = omega arith;
      clean = o.clean;
      first = λ f. held_with source again e ∙ o.first f;
      start = o.start;
      part = o.part;
    }
  where
    not_kept : length again.chars.items ≡ 0 → (0 < length again.chars.items) ⊎ (again.ended ≡ true) → AreKept a source.hand again
    not_kept none (inl some) = absurd (omega arith)
    not_kept none (inr is) = let no : true ≡ false = sym is ∙ ended in cc

-- ---- what is cut of what is taken again

gives_cut : (a : Automaton) (old new : Begun) (bytes : List ℕ) (fresh : Bool) (given : List Lexeme) → fresh ≡ false → ((more tail : List ℕ) (rest : List Lexeme) (ending : Option LexFault) → MayFollow false more → Continues a new more tail rest ending → Continues a old more tail (given ++ rest) ending) → GivesBytes a (record { at = old.at; held = old.held; bytes = bytes; fresh = fresh }) [] given (record { at = new.at; held = new.held; bytes = bytes; fresh = fresh })
gives_cut a old new bytes true given f g = let no : true ≡ false = f in cc
gives_cut a old new bytes false given f g = λ more rest e k. record {
  characters = k.characters;
  tail = k.tail;
  decodes = k.decodes;
  cuts = g k.characters k.tail rest e (λ (no : false ≡ true). cc) k.cuts;
}

keeps_cut : (old new : BegunBytes) → new.bytes ≡ old.bytes → new.fresh ≡ false → EndsIn old.held new.held → KeepsEnd (bytes_of old) [] (bytes_of new)
keeps_cut old new same fresh h fed e =
    let given = encode_utf8_all h.front in
    let left = encode_utf8_all new.held in
    let parts : encode_utf8_all old.held ++ old.bytes ≡ given ++ (left ++ new.bytes) =
    ap (λ (l : List ℕ). l ++ old.bytes) (ap encode_utf8_all h.parts ∙ encodes-append h.front new.held) ∙ append_assoc given left old.bytes
    ∙ ap (λ (l : List ℕ). given ++ (left ++ l)) (sym same) in
    record {
      front = e.front ++ given;
      parts = append-nil fed ∙ e.parts ∙ ap (λ (l : List ℕ). e.front ++ l) parts ∙ sym (append_assoc e.front given (left ++ new.bytes));
      fresh = λ f. let no : true ≡ false = sym f ∙ fresh in cc;
    }

pub moves_settled : {T : Type 0} → (a : Automaton) (value : ℕ → List ℕ → Option T) (source : Source) (hand : Hand) (again new : Again) (before after : List (Placed T)) → source.fresh ≡ false → again.ended ≡ false → Settles a value source.hand again before after hand new → Moves a value (begun_with_again source again) [] before after (begun_with_again (record source { hand = hand }) new)
moves_settled a value source hand again new before after fresh ended s =
    let t = subst (λ (b : Bool). AddsCut a value b (begun_with source.hand again) before after (begun_with hand new)) ended s.adds in
    let few = t.few in
    let end = t.end in
    record {
      adds = record { given = t.given; added = t.added; gives = gives_cut a (begun_with source.hand again) (begun_with hand new) source.feed.held source.fresh t.given fresh t.gives };
      few = few;
      end = omega arith;
      ends = keeps_cut (begun_with_again source again) (begun_with_again (record source { hand = hand }) new) refl fresh t.ends;
    }

scalars_end : (front cs : List ℕ) → all_scalars (front ++ cs) ≡ true → all_scalars cs ≡ true
scalars_end [] cs h = h
scalars_end (c ∷ front) cs h = scalars_end front cs (and_parts _ _ h).1

pub open_settled : {T : Type 0} → (a : Automaton) (value : ℕ → List ℕ → Option T) (source : Source) (hand : Hand) (again new : Again) (before after : List (Placed T)) → source.fresh ≡ false → IsOpenWith a source again → Settles a value source.hand again before after hand new → IsOpenWith a (record source { hand = hand }) new
open_settled a value source hand again new before after fresh o s =
    let place = o.place in
    let end = s.adds.end in
    let old_end = o.ready.end in
    let new_end = s.ready.end in
    let sizes = size_append source.hand.held.items (coming again) in
    let new_sizes = size_append hand.held.items (coming new) in
    record {
      ready = s.ready;
      kept = λ some. s.kept;
      scalars = scalars_end s.adds.ends.front (hand.held.items ++ coming new) (ap all_scalars (sym s.adds.ends.parts) ∙ o.scalars);
      place = omega arith;
      clean = o.clean;
      first = λ f. let no : true ≡ false = sym f ∙ fresh in cc;
      start = λ f. let no : true ≡ false = sym f ∙ fresh in cc;
      part = o.part;
    }

some_refused : (a : Automaton) (begun : Begun) (bytes : List ℕ) (fresh : Bool) (given : List Lexeme) (all : List ℕ) → fresh ≡ false → ((more tail : List ℕ) → MayFollow false more → (rest : List Lexeme) × (ending : Option LexFault) × Continues a begun more tail (given ++ rest) ending) → GivesSomeBytes a (record { at = begun.at; held = begun.held; bytes = bytes; fresh = fresh }) all given
some_refused a begun bytes true given all f g more = let no : true ≡ false = f in cc
some_refused a begun bytes false given all f g more =
    let d = decode (bytes ++ (all ++ more)) in
    let o = g d.characters d.tail (λ (no : false ≡ true). cc) in
    (o.0, o.1, record { characters = d.characters; tail = d.tail; decodes = d.decodes; cuts = o.2 })

ends_refused : (a : Automaton) (begun : Begun) (bytes : List ℕ) (fresh : Bool) (given : List Lexeme) (all : List ℕ) (fault : LexFault) → fresh ≡ false → ((more tail : List ℕ) → MayFollow false more → Continues a begun more tail given (Some fault)) → EndsBytesAt a (record { at = begun.at; held = begun.held; bytes = bytes; fresh = fresh }) all given fault
ends_refused a begun bytes true given all fault f g more = let no : true ≡ false = f in cc
ends_refused a begun bytes false given all fault f g more =
    let d = decode (bytes ++ (all ++ more)) in
    record { characters = d.characters; tail = d.tail; decodes = d.decodes; cuts = g d.characters d.tail (λ (no : false ≡ true). cc) }

pub refuses_settled : {T : Type 0} → (a : Automaton) (value : ℕ → List ℕ → Option T) (source : Source) (again : Again) (bytes : List ℕ) (before after : List (Placed T)) (fault : LexFault) → source.fresh ≡ false → again.ended ≡ false → RefusesAgain a value again.ended (begun_with source.hand again) before after fault → RefusesBytes a value (begun_with_again source again) bytes before after fault
refuses_settled a value source again bytes before after fault fresh ended h =
    let r = subst (λ (b : Bool). RefusesAgain a value b (begun_with source.hand again) before after fault) ended h in
    record {
      some = record { given = r.some.given; added = r.some.added; next = some_refused a (begun_with source.hand again) source.feed.held source.fresh r.some.given bytes fresh r.some.next };
      bad = λ ne. let bad = r.bad ne in record { given = bad.given; added = bad.added; ends = ends_refused a (begun_with source.hand again) source.feed.held source.fresh bad.given bytes fault fresh bad.stop };
    }

-- ---- where a character turns back

-- what is begun with it
pub turned_begun : {T : Type 0} → (a : Automaton) (value : ℕ → List ℕ → Option T) (old mid : Source) (again : Again) (bytes : List ℕ) (c : ℕ) (before between : List (Placed T)) → TurnsBack a value old bytes c before between mid → again.chars.items ≡ c ∷ [] → Moves a value (begun_in old) bytes before between (begun_with_again mid again)
turned_begun a value old mid again bytes c before between t one =
    let same : record { at = old.hand.at; held = old.hand.held.items ++ c ∷ []; bytes = []; fresh = false } ≡ begun_with_again mid again =
    λ i. record {
      at = ap (λ (h : Hand). h.at) (sym t.hand) i;
      held = (ap (λ (h : Hand). h.held.items ++ c ∷ []) (sym t.hand) ∙ ap (λ (l : List ℕ). mid.hand.held.items ++ reverse l) (sym one)) i;
      bytes = sym t.feed i;
      fresh = sym t.fresh i;
    } in
    subst (Moves a value (begun_in old) bytes before between) same t.moves

pub turned_open : {T : Type 0} → (a : Automaton) (value : ℕ → List ℕ → Option T) (old mid : Source) (again : Again) (bytes : List ℕ) (c : ℕ) (before between : List (Placed T)) → IsOpen a old → TurnsBack a value old bytes c before between mid → again.chars.items ≡ c ∷ [] → again.lost.items ≡ [] → IsOpenWith a mid again
turned_open a value old mid again bytes c before between o t one none =
    let place = t.place in
    let ready : IsReady a mid.hand = subst (IsReady a) (sym t.hand) o.ready in
    let size_is : size (coming again) ≡ size (c ∷ []) = ap (λ (l : List ℕ). size (reverse l)) one in
    record {
      ready = ready;
      kept = λ some. subst (All (IsLostRun a again.ended mid.hand.held.items (coming again))) (sym none) (All-nil (IsLostRun a again.ended mid.hand.held.items (coming again)));
      scalars = ap (λ (l : List ℕ). all_scalars (mid.hand.held.items ++ reverse l)) one ∙ scalar_behind mid.hand.held.items c ready.scalars t.scalar;
      place = omega arith;
      clean = t.clean;
      first = λ f. let no : true ≡ false = sym f ∙ t.fresh in cc;
      start = λ f. let no : true ≡ false = sym f ∙ t.fresh in cc;
      part = inl t.feed;
    }

-- ---- the end

-- what follows the characters that are begun, where nothing follows
continues_last : (a : Automaton) (begun : BegunBytes) (rest : List Lexeme) (e : Option LexFault) → begun.fresh ≡ false → BeginsNoCharacter (begun.bytes ++ []) → ContinuesBytes a begun [] rest e → Continues a (record { at = begun.at; held = begun.held }) [] (begun.bytes ++ []) rest e
continues_last a begun rest e fresh n k = here begun.fresh fresh k.cuts
  where
    here : (f : Bool) → f ≡ false → CutsBehindMark f a begun.at (begun.held ++ k.characters) k.tail rest e → Cuts (Spells a) begun.at (begun.held ++ []) (begun.bytes ++ []) rest e
    here true f h = let no : true ≡ false = f in cc
    here false is h =
        let none = none_decoded (begun.bytes ++ []) k.characters k.tail n k.decodes in
        subst (λ (l : List ℕ). Cuts (Spells a) begun.at (begun.held ++ []) l rest e) (sym none.all) (subst (λ (l : List ℕ). Cuts (Spells a) begun.at (begun.held ++ l) k.tail rest e) none.none h)

part_none : (bytes : List ℕ) → IsPart bytes → BeginsNoCharacter (bytes ++ [])
part_none bytes p = subst BeginsNoCharacter (sym (append-nil bytes)) (λ x rest s. part_begins_none bytes p x rest)

none_follows : (ended : Bool) → MayFollow ended []
none_follows ended e = refl

-- what was cut stands before what comes at the end
pub gives_last : {T : Type 0} → (a : Automaton) (value : ℕ → List ℕ → Option T) (source : Source) (hand : Hand) (again new : Again) (before after : List (Placed T)) → IsOpenWith a source again → (s : Settles a value source.hand again before after hand new) → (rest : List Lexeme) (e : Option LexFault) → Continues a (begun_with hand new) [] (source.feed.held ++ []) rest e → ContinuesBytes a (begun_with_again source again) [] (s.adds.given ++ rest) e
gives_last a value source hand again new before after o s rest e k =
    last_bytes a (begun_with_again source again) [] (s.adds.given ++ rest) e o.first (part_none source.feed.held o.part)
    (s.adds.gives [] (source.feed.held ++ []) rest e (none_follows again.ended) k)

-- the same source behind all that was fed
abbrev pub ended_source : Source → Hand → Source
ended_source source hand = record source { hand = hand; fresh = false }

pub open_ended : {T : Type 0} → (a : Automaton) (value : ℕ → List ℕ → Option T) (source : Source) (hand : Hand) (again new : Again) (before after : List (Placed T)) → IsOpenWith a source again → Settles a value source.hand again before after hand new → IsOpenWith a (ended_source source hand) new
open_ended a value source hand again new before after o s =
    open_settled a value (record source { fresh = false }) hand again new before after refl
    (record {
      ready = o.ready;
      kept = o.kept;
      scalars = o.scalars;
      place = o.place;
      clean = o.clean;
      first = λ f. let no : true ≡ false = sym f in cc;
      start = λ f. let no : true ≡ false = sym f in cc;
      part = o.part;
    })
    s

pub ends_some : {T : Type 0} → (a : Automaton) (value : ℕ → List ℕ → Option T) (source : Source) (hand : Hand) (again new : Again) (before after : List (Placed T)) → IsOpenWith a source again → Settles a value source.hand again before after hand new → EndsSomeAgain a value source again before after (ended_source source hand) new
ends_some a value source hand again new before after o s =
    let few = s.adds.few in
    let end = s.adds.end in
    record {
      open_yet = open_ended a value source hand again new before after o s;
      given = s.adds.given;
      added = s.adds.added;
      gives = λ rest e k.
          gives_last a value source hand again new before after o s rest e
          (continues_last a (begun_with_again (ended_source source hand) new) rest e refl (part_none source.feed.held o.part) k);
      few = few;
      end = omega arith;
    }

-- nothing is left
left_none : (hand : Hand) (new : Again) → hand.held.items ≡ [] → new.chars.items ≡ [] → hand.held.items ++ coming new ≡ []
left_none hand new e f = ap (λ (l : List ℕ). l ++ coming new) e ∙ ap (λ (l : List ℕ). reverse l) f

adds_last : {T : Type 0} → (a : Automaton) (value : ℕ → List ℕ → Option T) (source : Source) (hand : Hand) (again new : Again) (before after : List (Placed T)) (ending : Option LexFault) → IsOpenWith a source again → Settles a value source.hand again before after hand new → hand.held.items ++ coming new ≡ [] → Stops (Spells a) hand.at [] (source.feed.held ++ []) ending → AddsLastBytes a value (begun_with_again source again) before after ending
adds_last a value source hand again new before after ending o s none stops = record {
  given = s.adds.given ++ [];
  added = s.adds.added ∙ ap (λ l. before ++ tokens_of value l) (sym (append-nil s.adds.given));
  last = gives_last a value source hand again new before after o s [] ending
      (subst (λ (l : List ℕ). Cuts (Spells a) hand.at (l ++ []) (source.feed.held ++ []) [] ending) (sym none) stops);
}

pub ends_all : {T : Type 0} → (a : Automaton) (value : ℕ → List ℕ → Option T) (source : Source) (hand : Hand) (again new : Again) (before after : List (Placed T)) → IsOpenWith a source again → Settles a value source.hand again before after hand new → hand.held.items ≡ [] → new.chars.items ≡ [] → source.feed.held ≡ [] → EndsAgain a value source again before after (ended_source source hand) new
ends_all a value source hand again new before after o s held chars none =
    let left = left_none hand new held chars in
    let few = s.adds.few in
    let end = s.adds.end in
    let nothing : size (hand.held.items ++ coming new) ≡ 0 = ap size left in
    let no_bytes : length source.feed.held ≡ 0 = ap (λ (l : List ℕ). length l) none in
    let at : hand.at ≡ end_of_bytes (begun_with_again source again) = omega arith in
    record {
      open_yet = open_ended a value source hand again new before after o s;
      begun = λ i. record { at = at i; held = left i; bytes = none i; fresh = false };
      adds = adds_last a value source hand again new before after None o s left (subst (λ (l : List ℕ). Stops (Spells a) hand.at [] (l ++ []) None) (sym none) refl);
      few = omega arith;
    }

stops_bad : (a : Automaton) (place : ℕ) (bytes : List ℕ) → 0 < length bytes → Stops (Spells a) place [] (bytes ++ []) (Some (BadUtf8 place))
stops_bad a place [] some = absurd (omega arith)
stops_bad a place (b ∷ bytes) some = refl

pub ends_cut : {T : Type 0} → (a : Automaton) (value : ℕ → List ℕ → Option T) (source : Source) (hand : Hand) (again new : Again) (before after : List (Placed T)) → IsOpenWith a source again → Settles a value source.hand again before after hand new → hand.held.items ≡ [] → new.chars.items ≡ [] → 0 < length source.feed.held → EndsBytesBadly a value (begun_with_again source again) before after (BadUtf8 hand.end)
ends_cut a value source hand again new before after o s held chars some =
    let left = left_none hand new held chars in
    let nothing : size hand.held.items ≡ 0 = ap size held in
    let end = s.ready.end in
    let at : hand.at ≡ hand.end = omega arith in
    let last = adds_last a value source hand again new before after (Some (BadUtf8 hand.end)) o s left (subst (λ (n : ℕ). Stops (Spells a) hand.at [] (source.feed.held ++ []) (Some (BadUtf8 n))) at (stops_bad a hand.at source.feed.held some)) in
    record {
      some = record { given = last.given; added = last.added; next = ([], Some (BadUtf8 hand.end), subst (λ (l : List Lexeme). ContinuesBytes a (begun_with_again source again) [] l (Some (BadUtf8 hand.end))) (sym (append-nil last.given)) last.last) };
      bad = λ ne. last;
    }

pub ends_badly : {T : Type 0} → (a : Automaton) (value : ℕ → List ℕ → Option T) (source : Source) (again : Again) (before after : List (Placed T)) (fault : LexFault) → IsOpenWith a source again → RefusesAgain a value again.ended (begun_with source.hand again) before after fault → EndsBytesBadly a value (begun_with_again source again) before after fault
ends_badly a value source again before after fault o r =
    let last = λ (xs : List Lexeme) (e : Option LexFault) (k : Continues a (begun_with source.hand again) [] (source.feed.held ++ []) xs e). last_bytes a (begun_with_again source again) [] xs e o.first (part_none source.feed.held o.part) k in
    record {
      some = record {
        given = r.some.given;
        added = r.some.added;
        next = let x = r.some.next [] (source.feed.held ++ []) (none_follows again.ended) in (x.0, x.1, last (r.some.given ++ x.0) x.1 x.2);
      };
      bad = λ ne. let bad = r.bad ne in record { given = bad.given; added = bad.added; last = last bad.given (Some fault) (bad.stop [] (source.feed.held ++ []) (none_follows again.ended)) };
    }

-- ---- one after another

not_fresh : (a : Automaton) (source : Source) (again : Again) → IsOpenWith a source again → 0 < length again.chars.items → source.fresh ≡ false
not_fresh a source again o some = here source.fresh o.first
  where
    here : (b : Bool) → (b ≡ true → source.hand.held.items ++ coming again ≡ []) → b ≡ false
    here false f = refl
    here true f =
        let none : length (source.hand.held.items ++ coming again) ≡ 0 = ap (λ (l : List ℕ). length l) (f refl) in
        let sizes = length-append source.hand.held.items (coming again) in
        let many = length-reverse again.chars.items in
        absurd (omega arith)

pub takes_settled : {T : Type 0} → (a : Automaton) (value : ℕ → List ℕ → Option T) (source : Source) (hand : Hand) (again new : Again) (before after : List (Placed T)) → IsOpenWith a source again → again.ended ≡ false → 0 < length again.chars.items → Settles a value source.hand again before after hand new → TakesAgain a value source again [] before after (record source { hand = hand }) new
takes_settled a value source hand again new before after o ended some s =
    let fresh = not_fresh a source again o some in
    record {
      open_yet = open_settled a value source hand again new before after fresh o s;
      ended = s.ended ∙ ended;
      moves = moves_settled a value source hand again new before after fresh ended s;
    }

pub refuses_rest : {T : Type 0} → (a : Automaton) (value : ℕ → List ℕ → Option T) (source : Source) (again : Again) (bytes : List ℕ) (before after : List (Placed T)) (fault : LexFault) → IsOpenWith a source again → again.ended ≡ false → 0 < length again.chars.items → RefusesAgain a value again.ended (begun_with source.hand again) before after fault → RefusesBytes a value (begun_with_again source again) bytes before after fault
refuses_rest a value source again bytes before after fault o ended some r = refuses_settled a value source again bytes before after fault (not_fresh a source again o some) ended r

-- the first byte and the rest
first_and : (bytes : List ℕ) → 0 < length bytes → get_or bytes 0 0 ∷ drop 1 bytes ≡ bytes
first_and [] some = absurd (omega arith)
first_and (b ∷ bytes) some = refl

first_taken : (bytes : List ℕ) (count : ℕ) → 0 < length bytes → get_or bytes 0 0 ∷ take count (drop 1 bytes) ≡ take (1 + count) bytes
first_taken [] count some = absurd (omega arith)
first_taken (b ∷ bytes) count some = ap (λ (n : ℕ). take n (b ∷ bytes)) (let e : suc count ≡ 1 + count = omega arith in e)

from_nothing : {T : Type 0} → (a : Automaton) (value : ℕ → List ℕ → Option T) (source : Source) (again : Again) (bytes : List ℕ) (before after : List (Placed T)) (fault : LexFault) → again.chars.items ≡ [] → RefusesBytes a value (begun_in source) bytes before after fault → RefusesBytes a value (begun_with_again source again) bytes before after fault
from_nothing a value source again bytes before after fault e r = subst (λ (b : BegunBytes). RefusesBytes a value b bytes before after fault) (sym (with_nothing source again e)) r

moved_from : {T : Type 0} → (a : Automaton) (value : ℕ → List ℕ → Option T) (source : Source) (again : Again) (bytes : List ℕ) (before after : List (Placed T)) (new : BegunBytes) → again.chars.items ≡ [] → Moves a value (begun_in source) bytes before after new → Moves a value (begun_with_again source again) bytes before after new
moved_from a value source again bytes before after new e m = subst (λ (b : BegunBytes). Moves a value b bytes before after new) (sym (with_nothing source again e)) m

pub memory_bytes : {T : Type 0} → (a : Automaton) (value : ℕ → List ℕ → Option T) (begun : BegunBytes) (bytes : List ℕ) (before : List (Placed T)) (fault : LexFault) → fault ≡ Memory → RefusesBytes a value begun bytes before before fault
memory_bytes a value begun bytes before fault e = record {
  some = record { given = []; added = sym (append-nil before); next = λ more. let o = comes a begun (bytes ++ more) in (o.lexemes, o.ending, o.continues) };
  bad = λ ne. absurd (ne e);
}

pub first_refused : {T : Type 0} → (a : Automaton) (value : ℕ → List ℕ → Option T) (source : Source) (again : Again) (bytes : List ℕ) (before after : List (Placed T)) (fault : LexFault) → again.chars.items ≡ [] → 0 < length bytes → RefusesBytes a value (begun_in source) (get_or bytes 0 0 ∷ []) before after fault → RefusesBytes a value (begun_with_again source again) bytes before after fault
first_refused a value source again bytes before after fault e some r =
    from_nothing a value source again bytes before after fault e
    (refuses_moved a value (begun_in source) (begun_in source) bytes [] (get_or bytes 0 0 ∷ []) (drop 1 bytes) before before after fault (first_and bytes some) (moves_none a value (begun_in source) before) r)

-- memory ran out behind a character that turns back
pub turned_memory : {T : Type 0} → (a : Automaton) (value : ℕ → List ℕ → Option T) (source mid : Source) (again : Again) (bytes : List ℕ) (c : ℕ) (before between : List (Placed T)) (fault : LexFault) → again.chars.items ≡ [] → 0 < length bytes → TurnsBack a value source (get_or bytes 0 0 ∷ []) c before between mid → fault ≡ Memory → RefusesBytes a value (begun_with_again source again) bytes before between fault
turned_memory a value source mid again bytes c before between fault e some t is =
    let left : BegunBytes = record { at = source.hand.at; held = source.hand.held.items ++ c ∷ []; bytes = []; fresh = false } in
    from_nothing a value source again bytes before between fault e
    (refuses_moved a value (begun_in source) left bytes (get_or bytes 0 0 ∷ []) [] (drop 1 bytes) before between between fault (first_and bytes some) t.moves (memory_bytes a value left [] between fault is))

pub turned_refused : {T : Type 0} → (a : Automaton) (value : ℕ → List ℕ → Option T) (source mid : Source) (again put : Again) (bytes : List ℕ) (c : ℕ) (before between after : List (Placed T)) (fault : LexFault) → again.chars.items ≡ [] → 0 < length bytes → TurnsBack a value source (get_or bytes 0 0 ∷ []) c before between mid → put.chars.items ≡ c ∷ [] → put.ended ≡ false → RefusesAgain a value put.ended (begun_with mid.hand put) between after fault → RefusesBytes a value (begun_with_again source again) bytes before after fault
turned_refused a value source mid again put bytes c before between after fault e some t one ended r =
    from_nothing a value source again bytes before after fault e
    (refuses_moved a value (begun_in source) (begun_with_again mid put) bytes (get_or bytes 0 0 ∷ []) [] (drop 1 bytes) before between after fault (first_and bytes some)
    (turned_begun a value source mid put (get_or bytes 0 0 ∷ []) c before between t one) (refuses_settled a value mid put [] between after fault t.fresh ended r))

pub turned_taken : {T : Type 0} → (a : Automaton) (value : ℕ → List ℕ → Option T) (source mid : Source) (hand : Hand) (again put new : Again) (bytes : List ℕ) (c : ℕ) (before between after : List (Placed T)) → IsOpenWith a source again → again.chars.items ≡ [] → 0 < length bytes → TurnsBack a value source (get_or bytes 0 0 ∷ []) c before between mid → put.chars.items ≡ c ∷ [] → put.lost.items ≡ [] → put.ended ≡ false → Settles a value mid.hand put between after hand new → TakesAgain a value source again (take 1 bytes) before after (record mid { hand = hand }) new
turned_taken a value source mid hand again put new bytes c before between after o e some t one none ended s =
    let first = get_or bytes 0 0 in
    let both = moves_both a value (begun_in source) (begun_with_again mid put) (begun_with_again (record mid { hand = hand }) new) (first ∷ []) [] before between after
    (turned_begun a value source mid put (first ∷ []) c before between t one) (moves_settled a value mid hand put new between after t.fresh ended s) in
    record {
      open_yet = open_settled a value mid hand put new between after t.fresh (turned_open a value source mid put (first ∷ []) c before between (open_alone a source again o e) t one none) s;
      ended = s.ended ∙ ended;
      moves = subst (λ (l : List ℕ). Moves a value (begun_with_again source again) l before after (begun_with_again (record mid { hand = hand }) new)) (first_taken bytes 0 some)
          (moved_from a value source again (first ∷ []) before after (begun_with_again (record mid { hand = hand }) new) e both);
    }

-- the first byte was taken, and a run behind it
pub front_refused : {T : Type 0} → (a : Automaton) (value : ℕ → List ℕ → Option T) (source mid : Source) (again : Again) (bytes : List ℕ) (before between after : List (Placed T)) (fault : LexFault) → again.chars.items ≡ [] → 0 < length bytes → TakesBytes a value source (get_or bytes 0 0 ∷ []) before between mid → RefusesBytes a value (begun_in mid) (take (length bytes - 1) (drop 1 bytes)) between after fault → RefusesBytes a value (begun_with_again source again) bytes before after fault
front_refused a value source mid again bytes before between after fault e some t r =
    let rest = take (length bytes - 1) (drop 1 bytes) in
    let is : get_or bytes 0 0 ∷ (rest ++ []) ≡ bytes = ap (λ (l : List ℕ). get_or bytes 0 0 ∷ l) (append-nil rest ∙ take_rest bytes 1) ∙ first_and bytes some in
    from_nothing a value source again bytes before after fault e
    (refuses_moved a value (begun_in source) (begun_in mid) bytes (get_or bytes 0 0 ∷ []) rest [] before between after fault is (moves_of a value source mid (get_or bytes 0 0 ∷ []) before between t) r)

pub front_taken : {T : Type 0} → (a : Automaton) (value : ℕ → List ℕ → Option T) (source mid new : Source) (again : Again) (bytes : List ℕ) (count : ℕ) (before between after : List (Placed T)) → again.chars.items ≡ [] → again.ended ≡ false → 0 < length bytes → TakesBytes a value source (get_or bytes 0 0 ∷ []) before between mid → TakesBytes a value mid (take count (take (length bytes - 1) (drop 1 bytes))) between after new → TakesAgain a value source again (take (1 + count) bytes) before after new again
front_taken a value source mid new again bytes count before between after e ended some t u =
    let first = get_or bytes 0 0 in
    let rest = take count (take (length bytes - 1) (drop 1 bytes)) in
    let both = moves_both a value (begun_in source) (begun_in mid) (begun_in new) (first ∷ []) rest before between after (moves_of a value source mid (first ∷ []) before between t) (moves_of a value mid new rest between after u) in
    let is : first ∷ rest ≡ take (1 + count) bytes = ap (λ (l : List ℕ). first ∷ take count l) (take_rest bytes 1) ∙ first_taken bytes count some in
    record {
      open_yet = open_with a new again u.ready e ended;
      ended = ended;
      moves = subst (λ (b : BegunBytes). Moves a value (begun_with_again source again) (take (1 + count) bytes) before after b) (sym (with_nothing new again e))
          (moved_from a value source again (take (1 + count) bytes) before after (begun_in new) e (subst (λ (l : List ℕ). Moves a value (begun_in source) l before after (begun_in new)) is both));
    }

-- behind what was taken
pub again_on : {T : Type 0} → (a : Automaton) (value : ℕ → List ℕ → Option T) (old mid new : Source) (old_again mid_again new_again : Again) (bytes : List ℕ) (place count : ℕ) (before between after : List (Placed T)) → TakesAgain a value old old_again (take place bytes) before between mid mid_again → TakesAgain a value mid mid_again (take count (take (length bytes - place) (drop place bytes))) between after new new_again → TakesAgain a value old old_again (take (place + count) bytes) before after new new_again
again_on a value old mid new old_again mid_again new_again bytes place count before between after t u =
    let rest = take count (take (length bytes - place) (drop place bytes)) in
    let is : take place bytes ++ rest ≡ take (place + count) bytes = ap (λ (l : List ℕ). take place bytes ++ take count l) (take_rest bytes place) ∙ sym (take-add place count bytes) in
    record {
      open_yet = u.open_yet;
      ended = u.ended;
      moves = subst (λ (l : List ℕ). Moves a value (begun_with_again old old_again) l before after (begun_with_again new new_again)) is
          (moves_both a value (begun_with_again old old_again) (begun_with_again mid mid_again) (begun_with_again new new_again) (take place bytes) rest before between after t.moves u.moves);
    }

pub again_refused : {T : Type 0} → (a : Automaton) (value : ℕ → List ℕ → Option T) (old mid : Source) (old_again mid_again : Again) (bytes : List ℕ) (place : ℕ) (before between after : List (Placed T)) (fault : LexFault) → TakesAgain a value old old_again (take place bytes) before between mid mid_again → RefusesBytes a value (begun_with_again mid mid_again) (take (length bytes - place) (drop place bytes)) between after fault → RefusesBytes a value (begun_with_again old old_again) bytes before after fault
again_refused a value old mid old_again mid_again bytes place before between after fault t r =
    let rest = take (length bytes - place) (drop place bytes) in
    let is : take place bytes ++ (rest ++ []) ≡ bytes = ap (λ (l : List ℕ). take place bytes ++ l) (append-nil rest ∙ take_rest bytes place) ∙ take-append-drop place bytes in
    refuses_moved a value (begun_with_again old old_again) (begun_with_again mid mid_again) bytes (take place bytes) rest [] before between after fault is t.moves r

-- ---- whether the end follows

pub same_told : (source : Source) (again new : Again) → new.chars.items ≡ again.chars.items → begun_with_again source new ≡ begun_with_again source again
same_told source again new e = λ i. record { at = source.hand.at; held = source.hand.held.items ++ reverse (e i); bytes = source.feed.held; fresh = source.fresh }

pub open_told : (a : Automaton) (source : Source) (again new : Again) → IsOpenWith a source again → new.chars.items ≡ again.chars.items → (new ≡ again) ⊎ (new.lost.items ≡ []) → IsOpenWith a source new
open_told a source again new o e (inl same) = subst (IsOpenWith a source) (sym same) o
open_told a source again new o e (inr none) =
    let coming_is : coming new ≡ coming again = ap (λ (l : List ℕ). reverse l) e in
    record {
      ready = o.ready;
      kept = λ some. subst (All (IsLostRun a new.ended source.hand.held.items (coming new))) (sym none) (All-nil (IsLostRun a new.ended source.hand.held.items (coming new)));
      scalars = ap (λ (l : List ℕ). all_scalars (source.hand.held.items ++ l)) coming_is ∙ o.scalars;
      place = subst (λ (l : List ℕ). source.feed.at ≤ source.hand.end + size l) (sym coming_is) o.place;
      clean = o.clean;
      first = λ f. ap (λ (l : List ℕ). source.hand.held.items ++ l) coming_is ∙ o.first f;
      start = o.start;
      part = o.part;
    }
