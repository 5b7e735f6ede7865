-- What a run of ASCII characters makes of what is in hand, in bytes.
use Rattle.std.proofs.Common.{◌≡◌, inl, ℕ, ◌+◌, ◌-◌, ◌<◌, true, false, Option, List, [], ◌∷◌, ◌++◌, length, take, drop, get_or, sym, ap, ◌∙◌, subst, arith}
use Rattle.std.proofs.lemmas.List.{append_assoc, append-nil, length-drop, take-append-drop, take_rest}
use Rattle.std.proofs.lemmas.Str.{encodes-append}
use Rattle.std.proofs.Math.Seq.{take-add}
use Rattle.std.specs.Str.{all_scalars, encode_utf8_all}
use Rattle.owl_characters.specs.Feeding.{Feeding}
use Rattle.owl_characters.specs.Utf8.{Decodes, size}
use Rattle.owl_characters.proofs.Utf8Laws.{size_append}
use Rattle.owl_lexer.specs.Automata.{Automaton, Spells}
use Rattle.owl_lexer.specs.declared.fault.LexFault.{LexFault}
use Rattle.owl_lexer.specs.declared.fault.LexFault.TheVariants.{Memory}
use Rattle.owl_lexer.specs.BytesGiving.{BegunBytes, ContinuesBytes, EndsBytesAt, GivesBytes, GivesSomeBytes}
use Rattle.owl_lexer.proofs.BytesLaws.{ends_behind_bytes, some_behind_bytes}
use Rattle.owl_lexer.proofs.AddingLaws.{added_both}
use Rattle.owl_lexer.specs.declared.hand.Hand.{Hand}
use Rattle.owl_lexer.specs.Cutting.{Cuts}
use Rattle.owl_lexer.specs.Hands.{HoldsRun, Refuses, Takes, begun_of}
use Rattle.owl_lexer.specs.Lexing.{KeepsEnd}
use Rattle.owl_lexer.proofs.LexingLaws.{comes, decodes_all}
use Rattle.owl_lexer.specs.Sources.{IsOpen, RefusesBytes, TakesBytes, begun_in, bytes_in}
use Rattle.owl_lexer.specs.declared.placed.Placed.{Placed}
use Rattle.owl_lexer.specs.declared.source.Source.{Source}
use Rattle.owl_lexer.proofs.Bytes.{ascii_whole, no_mark_plain, refuses_whole, takes_whole}
use Rattle.owl_lexer.proofs.BytesFeeding.{refuses_in_bytes, takes_both_bytes, takes_more_bytes}
use Rattle.owl_lexer.proofs.Hands.{run_bytes, run_scalars, run_size}

gives_run : (a : Automaton) (at : ℕ) (held cs : List ℕ) → all_scalars cs ≡ true → encode_utf8_all cs ≡ cs → GivesBytes a (record { at = at; held = held; bytes = []; fresh = false }) cs [] (record { at = at; held = held ++ cs; bytes = []; fresh = false })
gives_run a at held cs scalars bytes more rest e k = record {
  characters = cs ++ k.characters;
  tail = k.tail;
  decodes = subst (λ (l : List ℕ). Decodes (l ++ more) (cs ++ k.characters) k.tail) bytes (decodes_all cs more k.characters k.tail scalars k.decodes);
  cuts = subst (λ (l : List ℕ). Cuts (Spells a) at l k.tail rest e) (append_assoc held cs k.characters) k.cuts;
}

keeps_run : (a : Automaton) (old new : Source) (cs : List ℕ) → old.feed.held ≡ [] → new.feed.held ≡ [] → new.fresh ≡ false → HoldsRun a old.hand cs new.hand → KeepsEnd (bytes_in old) cs (bytes_in new)
keeps_run a old new cs none none_more fresh h fed e =
    let held = encode_utf8_all old.hand.held.items in
    let left = encode_utf8_all new.hand.held.items in
    let old_is : (held ++ old.feed.held) ++ cs ≡ held ++ cs = ap (λ (l : List ℕ). (held ++ l) ++ cs) none ∙ ap (λ (l : List ℕ). l ++ cs) (append-nil held) in
    let new_is : left ++ new.feed.held ≡ held ++ cs =
    ap (λ (l : List ℕ). left ++ l) none_more ∙ append-nil left ∙ ap encode_utf8_all h.held ∙ encodes-append old.hand.held.items cs
    ∙ ap (λ (l : List ℕ). held ++ l) (run_bytes a old.hand.state cs h.run) in
    record {
      front = e.front;
      parts =
          ap (λ (l : List ℕ). l ++ cs) e.parts ∙ append_assoc e.front (held ++ old.feed.held) cs
          ∙ ap (λ (l : List ℕ). e.front ++ l) (old_is ∙ sym new_is);
      fresh = λ f. let no : true ≡ false = sym f ∙ fresh in cc;
    }

pub takes_run : {T : Type 0} → (a : Automaton) (value : ℕ → List ℕ → Option T) (old new : Source) (cs : List ℕ) (before : List (Placed T)) → IsOpen a old → old.fresh ≡ false → old.feed.held ≡ [] → new.feed ≡ old.feed → new.fresh ≡ old.fresh → HoldsRun a old.hand cs new.hand → TakesBytes a value old cs before before new
takes_run a value old new cs before r fresh none feed same h =
    let new_none : new.feed.held ≡ [] = ap (λ (f : Feeding). f.held) feed ∙ none in
    let new_fresh : new.fresh ≡ false = same ∙ fresh in
    let nothing : length old.feed.held ≡ 0 = ap (λ (l : List ℕ). length l) none in
    let nothing_more : length new.feed.held ≡ 0 = ap (λ (l : List ℕ). length l) new_none in
    let feed_at : new.feed.at ≡ old.feed.at = ap (λ (f : Feeding). f.at) feed in
    let sizes : size new.hand.held.items ≡ size old.hand.held.items + size cs = ap size h.held ∙ size_append old.hand.held.items cs in
    let width = run_size a old.hand.state cs h.run in
    let place = r.place in
    let at = h.at in
    let end = h.end in
    let first : begun_in old ≡ record { at = old.hand.at; held = old.hand.held.items; bytes = []; fresh = false } = λ i. record { at = old.hand.at; held = old.hand.held.items; bytes = none i; fresh = fresh i } in
    let last : record { at = old.hand.at; held = old.hand.held.items ++ cs; bytes = []; fresh = false } ≡ begun_in new = λ i. record { at = sym at i; held = sym h.held i; bytes = sym new_none i; fresh = sym new_fresh i } in
    let gives = gives_run a old.hand.at old.hand.held.items cs (run_scalars a old.hand.state cs h.run) (run_bytes a old.hand.state cs h.run) in
    record {
      ready = record {
        ready = h.ready;
        place = omega arith;
        clean = ap (λ (f : Feeding). f.bad) feed ∙ r.clean;
        first = λ e. let no : true ≡ false = sym e ∙ new_fresh in cc;
        start = λ e. let no : true ≡ false = sym e ∙ new_fresh in cc;
        part = inl new_none;
      };
      adds = record {
        given = [];
        added = sym (append-nil before);
        gives = subst (λ (o : BegunBytes). GivesBytes a o cs [] (begun_in new)) (sym first)
            (subst (GivesBytes a (record { at = old.hand.at; held = old.hand.held.items; bytes = []; fresh = false }) cs []) last gives);
      };
      few = omega arith;
      end = omega arith;
      ends = keeps_run a old new cs none new_none new_fresh h;
    }

-- what is taken behind what was
pub takes_on : {T : Type 0} → (a : Automaton) (value : ℕ → List ℕ → Option T) (old mid new : Source) (bytes : List ℕ) (place count : ℕ) (before between after : List (Placed T)) → TakesBytes a value old (take place bytes) before between mid → TakesBytes a value mid (take count (take (length bytes - place) (drop place bytes))) between after new → TakesBytes a value old (take (place + count) bytes) before after new
takes_on a value old mid new bytes place count before between after t u =
    subst (λ (l : List ℕ). TakesBytes a value old l before after new) (sym (take-add place count bytes))
    (takes_both_bytes a value old mid new (take place bytes) (take count (drop place bytes)) before between after t
    (subst (λ (l : List ℕ). TakesBytes a value mid (take count l) between after new) (take_rest bytes place) u))

pub rest_length : (bytes : List ℕ) (place : ℕ) → length (take (length bytes - place) (drop place bytes)) ≡ length bytes - place
rest_length bytes place = ap (λ (l : List ℕ). length l) (take_rest bytes place) ∙ length-drop place bytes

-- memory ran out behind what was taken
pub refuses_run : {T : Type 0} → (a : Automaton) (value : ℕ → List ℕ → Option T) (old mid : Source) (bytes : List ℕ) (place : ℕ) (before after : List (Placed T)) (fault : LexFault) → TakesBytes a value old (take place bytes) before after mid → fault ≡ Memory → RefusesBytes a value (begun_in old) bytes before after fault
refuses_run a value old mid bytes place before after fault t e = record {
  some = record {
    given = t.adds.given;
    added = t.adds.added;
    next = λ more.
        let is : bytes ++ more ≡ take place bytes ++ (drop place bytes ++ more) = ap (λ (l : List ℕ). l ++ more) (sym (take-append-drop place bytes)) ∙ append_assoc (take place bytes) (drop place bytes) more in
        let o = comes a (begun_in mid) (drop place bytes ++ more) in
        (o.lexemes, o.ending, subst (λ (l : List ℕ). ContinuesBytes a (begun_in old) l (t.adds.given ++ o.lexemes) o.ending) (sym is) (t.adds.gives (drop place bytes ++ more) o.lexemes o.ending o.continues));
  };
  bad = λ ne. absurd (ne e);
}

-- what is refused behind what was taken
pub refuses_on : {T : Type 0} → (a : Automaton) (value : ℕ → List ℕ → Option T) (old mid : Source) (bytes : List ℕ) (place : ℕ) (before between after : List (Placed T)) (fault : LexFault) → TakesBytes a value old (take place bytes) before between mid → RefusesBytes a value (begun_in mid) (take (length bytes - place) (drop place bytes)) between after fault → RefusesBytes a value (begun_in old) bytes before after fault
refuses_on a value old mid bytes place before between after fault t u =
    let rest = drop place bytes in
    let r = subst (λ (l : List ℕ). RefusesBytes a value (begun_in mid) l between after fault) (take_rest bytes place) u in
    let all : take place bytes ++ (rest ++ []) ≡ bytes = ap (λ (l : List ℕ). take place bytes ++ l) (append-nil rest) ∙ take-append-drop place bytes in
    record {
      some = record {
        given = t.adds.given ++ r.some.given;
        added = added_both value before between after t.adds.given r.some.given t.adds.added r.some.added;
        next = subst (λ (l : List ℕ). GivesSomeBytes a (begun_in old) l (t.adds.given ++ r.some.given)) all
            (some_behind_bytes a (begun_in old) (begun_in mid) (take place bytes) rest [] t.adds.given r.some.given t.adds.gives r.some.next);
      };
      bad = λ ne.
          let bad = r.bad ne in
          record {
            given = t.adds.given ++ bad.given;
            added = added_both value before between after t.adds.given bad.given t.adds.added bad.added;
            ends = subst (λ (l : List ℕ). EndsBytesAt a (begun_in old) l (t.adds.given ++ bad.given) fault) all
                (ends_behind_bytes a (begun_in old) (begun_in mid) (take place bytes) rest [] t.adds.given bad.given fault t.adds.gives bad.ends);
          };
    }

-- a byte of ASCII, which the feed isn't told

-- no character is begun, and no byte order mark may come
abbrev pub IsPlain : Source → Type 0
IsPlain source = (source.fresh ≡ false) × (source.feed.held ≡ [])

pub takes_ascii : {T : Type 0} → (a : Automaton) (value : ℕ → List ℕ → Option T) (old now : Source) (hand : Hand) (bytes : List ℕ) (place c : ℕ) (before between after : List (Placed T)) → place < length bytes → c ≡ get_or bytes place 0 → get_or bytes place 0 < 128 → IsPlain now → TakesBytes a value old (take place bytes) before between now → Takes a value now.hand (c ∷ []) between after hand → TakesBytes a value old (take (place + 1) bytes) before after (record now { hand = hand })
takes_ascii a value old now hand bytes place c before between after lt is small plain t u =
    let b = get_or bytes place 0 in
    takes_more_bytes a value old now (record now { hand = hand }) bytes place before between after lt t
    (takes_whole a value now (record now { hand = hand }) b c between after t.ready (ascii_whole now.feed b c is small plain.1 t.ready.clean) (no_mark_plain now.fresh c plain.0) plain.0 u)

pub refuses_ascii : {T : Type 0} → (a : Automaton) (value : ℕ → List ℕ → Option T) (old now : Source) (bytes : List ℕ) (place c : ℕ) (before between after : List (Placed T)) (fault : LexFault) → place < length bytes → c ≡ get_or bytes place 0 → get_or bytes place 0 < 128 → IsPlain now → TakesBytes a value old (take place bytes) before between now → Refuses a value (begun_of now.hand) (c ∷ []) between after fault → RefusesBytes a value (begun_in old) bytes before after fault
refuses_ascii a value old now bytes place c before between after fault lt is small plain t r =
    let b = get_or bytes place 0 in
    refuses_in_bytes a value old now bytes place before between after fault lt t
    (refuses_whole a value now now.feed b c between after fault t.ready (ascii_whole now.feed b c is small plain.1 t.ready.clean) (no_mark_plain now.fresh c plain.0) r)
