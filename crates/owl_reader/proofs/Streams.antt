-- What comes of bytes more.
use Rattle.std.proofs.Common.{◌≡◌, ℕ, ◌+◌, Bool, true, false, ◌-◌, ◌≤◌, Option, None, Some, List, [], ◌∷◌, ◌++◌, length, take, drop, arith, refl, sym, ap, ◌∙◌, subst}
use Rattle.std.proofs.lemmas.List.{append_assoc, append-nil, length-append, length-drop, length-take-le, map-append, take-append-drop, take_rest}
use Rattle.std.proofs.Math.Seq.{take-add}
use Rattle.std.specs.Prelude.{IfSome, IsTrue}
use Rattle.grammar.specs.Grammars.{Entry}
use Rattle.grammar.specs.Parsing.{Parsing}
use Rattle.owl_lexer.specs.Lexing.{Adds, AddsLast, AddsToEnd, Begun, Continues, EndsAt, Gives, KeepsEnd, Lexing, end_of, nothing_fed, taken_of}
use Rattle.owl_lexer.specs.Splitting.{Splits}
use Rattle.owl_lexer.specs.declared.fault.LexFault.{LexFault}
use Rattle.owl_lexer.specs.declared.placed.Placed.{Placed}
use Rattle.owl_reader.specs.Defects.{HasDefect}
use Rattle.owl_reader.specs.Defects.HasDefect.{at_token, no_token}
use Rattle.owl_reader.specs.Faults.{lexing_refusal}
use Rattle.owl_reader.specs.Readings.{AreAllTaken, CanEnd, HasDefectAlways, HasRoom, IsEnding, IsOpen}
use Rattle.owl_characters.specs.Limit.{most_bytes}
use Rattle.owl_reader.specs.Standing.{IsRefusedAmong, StandsWith}
use Rattle.owl_reader.specs.Steps.{Step, tokens_in}
use Rattle.owl_reader.specs.Syntaxes.{Rules}
use Rattle.owl_reader.specs.declared.fault.ReadFault.{ReadFault}
use Rattle.owl_reader.specs.declared.item.Item.{Item}
use Rattle.owl_reader.proofs.Taking.{begun}

-- whatever follows, any bytes are some tokens
abbrev pub ComesAlways : {T : Type 0} → (T → List ℕ → Type 0) → Type 0
ComesAlways {T} spells = (b : Begun) (more : List ℕ) → (tokens : List (Placed T)) × (ending : Option LexFault) × Continues spells b more tokens ending

tokens-append : {T : Type 0} (xs ys : List (Step T)) → tokens_in (xs ++ ys) ≡ tokens_in xs ++ tokens_in ys
tokens-append {T} xs ys = map-append (λ (s : Step T). s.token) xs ys

gives_both : {T : Type 0} {spells : T → List ℕ → Type 0} (a b c : Begun) (bs ds : List ℕ) (xs ys : List (Placed T)) → Gives spells a bs xs b → Gives spells b ds ys c → Gives spells a (bs ++ ds) (xs ++ ys) c
gives_both {T} {spells = spells} a b c bs ds xs ys g h = record {
  all = λ more tokens ending k.
      let one = g.all (ds ++ more) tokens ending (subst (λ (l : List ℕ). Continues spells a l tokens ending) (append_assoc bs ds more) k) in
      let two = h.all more one.0 ending one.2 in
      (two.0, one.1 ∙ ap (λ (l : List (Placed T)). xs ++ l) two.1 ∙ sym (append_assoc xs ys two.0), two.2);
  only = λ more rest ending k.
      subst (λ (l : List ℕ). Continues spells a l ((xs ++ ys) ++ rest) ending) (sym (append_assoc bs ds more))
      (subst (λ (l : List (Placed T)). Continues spells a (bs ++ (ds ++ more)) l ending) (sym (append_assoc xs ys rest))
      (g.only (ds ++ more) (ys ++ rest) ending (h.only more rest ending k)));
}

-- the tokens of bytes, where some were given before
split_behind : {T : Type 0} {spells : T → List ℕ → Type 0} (b : Begun) (bytes piece more : List ℕ) (xs ys : List (Placed T)) (ending : Option LexFault) → Gives spells nothing_fed bytes xs b → Continues spells b (piece ++ more) ys ending → Splits spells ((bytes ++ piece) ++ more) (xs ++ ys) ending
split_behind {T} {spells = spells} b bytes piece more xs ys ending g k =
    subst (λ (l : List ℕ). Splits spells l (xs ++ ys) ending) (sym (append_assoc bytes piece more)) (g.only (piece ++ more) ys ending k)

-- ---- a piece whose tokens are taken

-- tokens that were added to none
given_are : {T : Type 0} {xs ys before after : List (Placed T)} → after ≡ before ++ xs → before ≡ [] → ys ≡ after → xs ≡ ys
given_are {T} {xs = xs} e none f = sym (f ∙ e ∙ ap (λ (l : List (Placed T)). l ++ xs) none)

pub open_more : {T S : Type 0} {spells : T → List ℕ → Type 0} {g : List Entry} {rules : Rules T} {Made : List (Step T) → S → Type 0} {old new : Lexing} {parsing after : Parsing} {made other : S} {item last : Option Item} {bytes piece : List ℕ} {before tokens : List (Placed T)} → (o : IsOpen spells g rules Made old parsing made item bytes) → before ≡ [] → Adds spells old.begun piece before tokens new.begun → new.refused ≡ None → end_of new.begun ≡ end_of old.begun + length piece → KeepsEnd old.begun piece new.begun → StandsWith g rules Made after other last o.steps tokens → IsOpen spells g rules Made new after other last (bytes ++ piece)
open_more {T} {spells = spells} {old = old} {new = new} {bytes = bytes} {piece = piece} {tokens = tokens} o none adds still place ends s =
    let given : adds.given ≡ tokens = given_are adds.added none refl in
    record {
      steps = o.steps ++ s.more;
      lexer_open = still;
      gives =
          subst (λ (l : List (Placed T)). Gives spells nothing_fed (bytes ++ piece) l new.begun) (ap (λ (l : List (Placed T)). tokens_in o.steps ++ l) (given ∙ sym s.are) ∙ sym (tokens-append o.steps s.more))
          (gives_both nothing_fed old.begun new.begun bytes piece (tokens_in o.steps) adds.given o.gives adds.gives);
      place = place ∙ ap (λ (n : ℕ). n + length piece) o.place ∙ sym (length-append bytes piece);
      ends = ends bytes o.ends;
      stands = s.stands;
    }

-- ---- a token that is refused

-- the tokens of all bytes are these, and others behind them
record SplitsSo {T : Type 0} (spells : T → List ℕ → Type 0) (bytes : List ℕ) (tokens : List (Placed T)) : Type 0 where
  others : List (Placed T)
  ending : Option LexFault
  splits : Splits spells bytes (tokens ++ others) ending

refused_at : {T : Type 0} {spells : T → List ℕ → Type 0} {g : List Entry} {rules : Rules T} {steps : List (Step T)} {tokens : List (Placed T)} {bytes : List ℕ} {r : ReadFault} → IsRefusedAmong g rules steps tokens r → SplitsSo spells bytes (tokens_in steps ++ tokens) → HasDefect spells g rules bytes r
refused_at {T} {spells = spells} {steps = steps} {tokens = tokens} {bytes = bytes} a s =
    let parts : (tokens_in steps ++ tokens) ++ s.others ≡ tokens_in (steps ++ a.more) ++ a.token ∷ (a.others ++ s.others) =
    ap (λ (l : List (Placed T)). (tokens_in steps ++ l) ++ s.others) a.are
    ∙ ap (λ (l : List (Placed T)). l ++ s.others) (sym (append_assoc (tokens_in steps) (tokens_in a.more) (a.token ∷ a.others)))
    ∙ append_assoc (tokens_in steps ++ tokens_in a.more) (a.token ∷ a.others) s.others
    ∙ ap (λ (l : List (Placed T)). l ++ a.token ∷ (a.others ++ s.others)) (sym (tokens-append steps a.more)) in
    at_token (steps ++ a.more) a.token (a.others ++ s.others) s.ending (subst (λ (l : List (Placed T)). Splits spells bytes l s.ending) parts s.splits) a.begin a.refused

-- among the tokens that a piece gives
pub refused_among : {T S : Type 0} {spells : T → List ℕ → Type 0} {g : List Entry} {rules : Rules T} {Made : List (Step T) → S → Type 0} {old : Lexing} {now : Begun} {parsing : Parsing} {made : S} {item : Option Item} {bytes piece : List ℕ} {before tokens : List (Placed T)} {r : ReadFault} → ComesAlways spells → (o : IsOpen spells g rules Made old parsing made item bytes) → before ≡ [] → Adds spells old.begun piece before tokens now → IsRefusedAmong g rules o.steps tokens r → HasDefectAlways spells g rules (bytes ++ piece) r
refused_among {T} {spells = spells} {old = old} {now = now} {bytes = bytes} {piece = piece} {tokens = tokens} always o none adds a more =
    let given : adds.given ≡ tokens = given_are adds.added none refl in
    let rest = always now more in
    let all = split_behind old.begun bytes piece more (tokens_in o.steps) (adds.given ++ rest.0) rest.1 o.gives (adds.gives.only more rest.0 rest.1 rest.2) in
    refused_at a (record {
      others = rest.0;
      ending = rest.1;
      splits = subst (λ (l : List (Placed T)). Splits spells ((bytes ++ piece) ++ more) l rest.1) (ap (λ (l : List (Placed T)). tokens_in o.steps ++ (l ++ rest.0)) given ∙ sym (append_assoc (tokens_in o.steps) tokens rest.0)) all;
    })

-- among those before a byte where no token begins
pub refused_before : {T S : Type 0} {spells : T → List ℕ → Type 0} {g : List Entry} {rules : Rules T} {Made : List (Step T) → S → Type 0} {old : Lexing} {parsing : Parsing} {made : S} {item : Option Item} {bytes piece : List ℕ} {before tokens : List (Placed T)} {fault : LexFault} {r : ReadFault} → (o : IsOpen spells g rules Made old parsing made item bytes) → before ≡ [] → EndsAt spells old.begun piece before tokens fault → IsRefusedAmong g rules o.steps tokens r → HasDefectAlways spells g rules (bytes ++ piece) r
refused_before {T} {spells = spells} {old = old} {bytes = bytes} {piece = piece} {tokens = tokens} {fault = fault} o none ends a more =
    let given : ends.given ≡ tokens = given_are ends.added none refl in
    let all = split_behind old.begun bytes piece more (tokens_in o.steps) ends.given (Some fault) o.gives (ends.ends more) in
    refused_at a (record {
      others = [];
      ending = Some fault;
      splits = subst (λ (l : List (Placed T)). Splits spells ((bytes ++ piece) ++ more) l (Some fault)) (ap (λ (l : List (Placed T)). tokens_in o.steps ++ l) given ∙ sym (append-nil (tokens_in o.steps ++ tokens))) all;
    })

-- where all before it are taken, it is the defect
pub stopped_there : {T S : Type 0} {spells : T → List ℕ → Type 0} {g : List Entry} {rules : Rules T} {Made : List (Step T) → S → Type 0} {old : Lexing} {parsing after : Parsing} {made other : S} {item last : Option Item} {bytes piece : List ℕ} {before tokens : List (Placed T)} {fault : LexFault} {r : ReadFault} → (o : IsOpen spells g rules Made old parsing made item bytes) → before ≡ [] → EndsAt spells old.begun piece before tokens fault → StandsWith g rules Made after other last o.steps tokens → r ≡ lexing_refusal fault last → HasDefectAlways spells g rules (bytes ++ piece) r
stopped_there {T} {spells = spells} {old = old} {bytes = bytes} {piece = piece} {tokens = tokens} {fault = fault} o none ends s e more =
    let given : ends.given ≡ tokens = given_are ends.added none refl in
    let all = split_behind old.begun bytes piece more (tokens_in o.steps) ends.given (Some fault) o.gives (ends.ends more) in
    no_token (o.steps ++ s.more) fault
    (subst (λ (l : List (Placed T)). Splits spells ((bytes ++ piece) ++ more) l (Some fault)) (ap (λ (l : List (Placed T)). tokens_in o.steps ++ l) (given ∙ sym s.are) ∙ sym (tokens-append o.steps s.more)) all)
    (begun s.stands) (e ∙ ap (λ (i : Option Item). lexing_refusal fault i) s.stands.last_is)

-- ---- the last tokens

-- the tokens of bytes behind which nothing follows
split_last : {T : Type 0} {spells : T → List ℕ → Type 0} (b : Begun) (bytes : List ℕ) (xs ys : List (Placed T)) (ending : Option LexFault) → Gives spells nothing_fed bytes xs b → Continues spells b [] ys ending → Splits spells bytes (xs ++ ys) ending
split_last {T} {spells = spells} b bytes xs ys ending g k = subst (λ (l : List ℕ). Splits spells l (xs ++ ys) ending) (append-nil bytes) (g.only [] ys ending k)

pub open_ends : {T S : Type 0} {spells : T → List ℕ → Type 0} {g : List Entry} {rules : Rules T} {Made : List (Step T) → S → Type 0} {lexing : Lexing} {parsing : Parsing} {made : S} {item : Option Item} {bytes : List ℕ} → IsOpen spells g rules Made lexing parsing made item bytes → IsEnding spells g rules Made lexing parsing made item bytes
open_ends {lexing = lexing} {bytes = bytes} o = record {
  steps = o.steps;
  lexer_open = o.lexer_open;
  splits = λ tokens ending k. split_last lexing.begun bytes (tokens_in o.steps) tokens ending o.gives k;
  stands = o.stands;
}

pub ends_more : {T S : Type 0} {spells : T → List ℕ → Type 0} {g : List Entry} {rules : Rules T} {Made : List (Step T) → S → Type 0} {old new : Lexing} {parsing after : Parsing} {made other : S} {item last : Option Item} {bytes : List ℕ} {before tokens : List (Placed T)} → (o : IsEnding spells g rules Made old parsing made item bytes) → before ≡ [] → AddsToEnd spells old.begun before tokens new.begun → new.refused ≡ None → StandsWith g rules Made after other last o.steps tokens → IsEnding spells g rules Made new after other last bytes
ends_more {T} {spells = spells} {bytes = bytes} {tokens = tokens} o none adds still s =
    let given : adds.given ≡ tokens = given_are adds.added none refl in
    record {
      steps = o.steps ++ s.more;
      lexer_open = still;
      splits = λ rest ending k.
          subst (λ (l : List (Placed T)). Splits spells bytes l ending)
          (ap (λ (l : List (Placed T)). tokens_in o.steps ++ (l ++ rest)) (given ∙ sym s.are) ∙ sym (append_assoc (tokens_in o.steps) (tokens_in s.more) rest) ∙ ap (λ (l : List (Placed T)). l ++ rest) (sym (tokens-append o.steps s.more)))
          (o.splits (adds.given ++ rest) ending (adds.gives rest ending k));
      stands = s.stands;
    }

-- among a portion of the last tokens
pub refused_more : {T S : Type 0} {spells : T → List ℕ → Type 0} {g : List Entry} {rules : Rules T} {Made : List (Step T) → S → Type 0} {old : Lexing} {now : Begun} {parsing : Parsing} {made : S} {item : Option Item} {bytes : List ℕ} {before tokens : List (Placed T)} {r : ReadFault} → ComesAlways spells → (o : IsEnding spells g rules Made old parsing made item bytes) → before ≡ [] → AddsToEnd spells old.begun before tokens now → IsRefusedAmong g rules o.steps tokens r → HasDefect spells g rules bytes r
refused_more {T} {spells = spells} {now = now} {bytes = bytes} {tokens = tokens} always o none adds a =
    let given : adds.given ≡ tokens = given_are adds.added none refl in
    let rest = always now [] in
    let all = o.splits (adds.given ++ rest.0) rest.1 (adds.gives rest.0 rest.1 rest.2) in
    refused_at a (record {
      others = rest.0;
      ending = rest.1;
      splits = subst (λ (l : List (Placed T)). Splits spells bytes l rest.1) (ap (λ (l : List (Placed T)). tokens_in o.steps ++ (l ++ rest.0)) given ∙ sym (append_assoc (tokens_in o.steps) tokens rest.0)) all;
    })

pub all_taken : {T S : Type 0} {spells : T → List ℕ → Type 0} {g : List Entry} {rules : Rules T} {Made : List (Step T) → S → Type 0} {old : Lexing} {parsing after : Parsing} {made other : S} {item last : Option Item} {bytes : List ℕ} {before tokens : List (Placed T)} → (o : IsEnding spells g rules Made old parsing made item bytes) → before ≡ [] → AddsLast spells old.begun before tokens None → StandsWith g rules Made after other last o.steps tokens → AreAllTaken spells g rules Made after other last bytes
all_taken {T} {spells = spells} {bytes = bytes} o none adds s =
    let given = given_are adds.added none refl in
    record {
      steps = o.steps ++ s.more;
      splits = subst (λ (l : List (Placed T)). Splits spells bytes l None) (ap (λ (l : List (Placed T)). tokens_in o.steps ++ l) (given ∙ sym s.are) ∙ sym (tokens-append o.steps s.more)) (o.splits adds.given None adds.continues);
      stands = s.stands;
    }

pub refused_last : {T S : Type 0} {spells : T → List ℕ → Type 0} {g : List Entry} {rules : Rules T} {Made : List (Step T) → S → Type 0} {old : Lexing} {parsing : Parsing} {made : S} {item : Option Item} {bytes : List ℕ} {before tokens : List (Placed T)} {ending : Option LexFault} {r : ReadFault} → (o : IsEnding spells g rules Made old parsing made item bytes) → before ≡ [] → AddsLast spells old.begun before tokens ending → IsRefusedAmong g rules o.steps tokens r → HasDefect spells g rules bytes r
refused_last {T} {spells = spells} {bytes = bytes} {tokens = tokens} {ending = ending} o none adds a =
    let given = given_are adds.added none refl in
    let all = o.splits adds.given ending adds.continues in
    refused_at a (record {
      others = [];
      ending = ending;
      splits = subst (λ (l : List (Placed T)). Splits spells bytes l ending) (ap (λ (l : List (Placed T)). tokens_in o.steps ++ l) given ∙ sym (append-nil (tokens_in o.steps ++ tokens))) all;
    })

pub stopped_last : {T S : Type 0} {spells : T → List ℕ → Type 0} {g : List Entry} {rules : Rules T} {Made : List (Step T) → S → Type 0} {old : Lexing} {parsing after : Parsing} {made other : S} {item last : Option Item} {bytes : List ℕ} {before tokens : List (Placed T)} {fault : LexFault} {r : ReadFault} → (o : IsEnding spells g rules Made old parsing made item bytes) → before ≡ [] → AddsLast spells old.begun before tokens (Some fault) → StandsWith g rules Made after other last o.steps tokens → r ≡ lexing_refusal fault last → HasDefect spells g rules bytes r
stopped_last {T} {spells = spells} {bytes = bytes} {fault = fault} o none adds s e =
    let given = given_are adds.added none refl in
    let all = o.splits adds.given (Some fault) adds.continues in
    no_token (o.steps ++ s.more) fault
    (subst (λ (l : List (Placed T)). Splits spells bytes l (Some fault)) (ap (λ (l : List (Placed T)). tokens_in o.steps ++ l) (given ∙ sym s.are) ∙ sym (tokens-append o.steps s.more)) all)
    (begun s.stands) (e ∙ ap (λ (i : Option Item). lexing_refusal fault i) s.stands.last_is)

-- where a portion of the last tokens is taken, or all of them
pub ending_refused : {T S : Type 0} {spells : T → List ℕ → Type 0} {g : List Entry} {rules : Rules T} {Made : List (Step T) → S → Type 0} {old : Lexing} {now : Begun} {parsing : Parsing} {made : S} {item : Option Item} {bytes : List ℕ} {before tokens : List (Placed T)} {r : ReadFault} → (done : Bool) → ComesAlways spells → (o : IsEnding spells g rules Made old parsing made item bytes) → before ≡ [] → (IsTrue done → AddsLast spells old.begun before tokens None) → (done ≡ false → AddsToEnd spells old.begun before tokens now) → IsRefusedAmong g rules o.steps tokens r → HasDefect spells g rules bytes r
ending_refused true always o none all more a = refused_last o none (all refl) a
ending_refused false always o none all more a = refused_more always o none (more refl) a

-- ---- portions of a piece

taken_front : (left : Option ℕ) (piece : List ℕ) → (rest : List ℕ) × (taken_of left piece ++ rest ≡ piece)
taken_front None piece = ([], append-nil piece)
taken_front (Some count) piece = (drop count piece, take-append-drop count piece)

-- what is a defect of a front of a piece, whatever follows, is one of the piece
pub front_refused : {T : Type 0} {spells : T → List ℕ → Type 0} {g : List Entry} {rules : Rules T} {r : ReadFault} (bytes : List ℕ) (left : Option ℕ) (piece : List ℕ) → HasDefectAlways spells g rules (bytes ++ taken_of left piece) r → HasDefectAlways spells g rules (bytes ++ piece) r
front_refused {spells = spells} {g = g} {rules = rules} {r = r} bytes left piece h more =
    let o = taken_front left piece in
    subst (λ (l : List ℕ). HasDefect spells g rules l r)
    (append_assoc bytes (taken_of left piece) (o.0 ++ more) ∙ ap (λ (l : List ℕ). bytes ++ l) (sym (append_assoc (taken_of left piece) o.0 more) ∙ ap (λ (l : List ℕ). l ++ more) o.1) ∙ sym (append_assoc bytes piece more))
    (h (o.0 ++ more))

-- the piece so far was taken
pub record TakesSoFar {T S C : Type 0} (spells : T → List ℕ → Type 0) (g : List Entry) (rules : C → Rules T) (Made : C → List (Step T) → S → Type 0) (old : Lexing) (parsing : Parsing) (made : S) (item : Option Item) (now : Lexing) (after : Parsing) (other : S) (last : Option Item) (piece : List ℕ) (place : ℕ) : Type 0 where
  pub within : place ≤ length piece
  pub room : (context : C) × HasRoom spells g (rules context) (Made context) now after other last (length piece - place)
  pub takes : (context : C) (bytes : List ℕ) → IsOpen spells g (rules context) (Made context) old parsing made item bytes → IsOpen spells g (rules context) (Made context) now after other last (bytes ++ take place piece)

pub none_so_far : {T S C : Type 0} {spells : T → List ℕ → Type 0} {g : List Entry} {rules : C → Rules T} {Made : C → List (Step T) → S → Type 0} {old : Lexing} {parsing : Parsing} {made : S} {item : Option Item} (piece : List ℕ) → ((context : C) × HasRoom spells g (rules context) (Made context) old parsing made item (length piece)) → TakesSoFar spells g rules Made old parsing made item old parsing made item piece 0
none_so_far {spells = spells} {g = g} {rules = rules} {Made = Made} {old = old} {parsing = parsing} {made = made} {item = item} piece room = record {
  within = omega arith;
  room = (room.0, record { bytes = room.1.bytes; open_yet = room.1.open_yet; few = let few = room.1.few in omega arith });
  takes = λ context bytes o. subst (λ (l : List ℕ). IsOpen spells g (rules context) (Made context) old parsing made item l) (sym (append-nil bytes)) o;
}

-- the rest of the piece from a place
abbrev pub rest_from : List ℕ → ℕ → List ℕ
rest_from piece place = take (length piece - place) (drop place piece)

rest_length : (piece : List ℕ) (place : ℕ) → length (rest_from piece place) ≡ length piece - place
rest_length piece place = ap (λ (l : List ℕ). length l) (take_rest piece place) ∙ length-drop place piece

pub more_so_far : {T S C : Type 0} {spells : T → List ℕ → Type 0} {g : List Entry} {rules : C → Rules T} {Made : C → List (Step T) → S → Type 0} {old now new : Lexing} {parsing mid after : Parsing} {made half other : S} {item between last : Option Item} (piece : List ℕ) (place count : ℕ) → TakesSoFar spells g rules Made old parsing made item now mid half between piece place → count ≤ length (rest_from piece place) → ((context : C) (bytes : List ℕ) → IsOpen spells g (rules context) (Made context) now mid half between bytes → IsOpen spells g (rules context) (Made context) new after other last (bytes ++ take count (rest_from piece place))) → TakesSoFar spells g rules Made old parsing made item new after other last piece (place + count)
more_so_far {spells = spells} {g = g} {rules = rules} {Made = Made} {new = new} {after = after} {other = other} {last = last} piece place count s few takes =
    let left = rest_length piece place in
    let within = s.within in
    let can = s.room.1 in
    let room = can.few in
    let size : length (take count (rest_from piece place)) ≡ count = length-take-le count (rest_from piece place) few in
    let all : length (can.bytes ++ take count (rest_from piece place)) ≡ length can.bytes + length (take count (rest_from piece place)) = length-append can.bytes (take count (rest_from piece place)) in
    record {
      within = omega arith;
      room = (s.room.0, record { bytes = can.bytes ++ take count (rest_from piece place); open_yet = takes s.room.0 can.bytes can.open_yet; few = omega arith });
      takes = λ context bytes o.
          subst (λ (l : List ℕ). IsOpen spells g (rules context) (Made context) new after other last l)
          (append_assoc bytes (take place piece) (take count (rest_from piece place))
          ∙ ap (λ (l : List ℕ). bytes ++ l) (ap (λ (l : List ℕ). take place piece ++ take count l) (take_rest piece place) ∙ sym (take-add place count piece)))
          (takes context (bytes ++ take place piece) (s.takes context bytes o));
    }

-- what stands behind what was taken is the rest
pub whole_piece : (bytes piece : List ℕ) (place : ℕ) → (bytes ++ take place piece) ++ rest_from piece place ≡ bytes ++ piece
whole_piece bytes piece place = append_assoc bytes (take place piece) (rest_from piece place) ∙ ap (λ (l : List ℕ). bytes ++ l) (ap (λ (l : List ℕ). take place piece ++ l) (take_rest piece place) ∙ take-append-drop place piece)

-- what is begun stands within the bytes that a document may have
pub begins_within : {T S : Type 0} {spells : T → List ℕ → Type 0} {g : List Entry} {rules : Rules T} {Made : List (Step T) → S → Type 0} {now : Lexing} {mid : Parsing} {half : S} {between : Option Item} {room : ℕ} → HasRoom spells g rules Made now mid half between room → now.begun.at ≤ most_bytes
begins_within h = let place = h.open_yet.place in let few = h.few in omega arith

pub rest_refused : {T : Type 0} {spells : T → List ℕ → Type 0} {g : List Entry} {rules : Rules T} {r : ReadFault} (bytes piece : List ℕ) (place : ℕ) → HasDefectAlways spells g rules ((bytes ++ take place piece) ++ rest_from piece place) r → HasDefectAlways spells g rules (bytes ++ piece) r
rest_refused {spells = spells} {g = g} {rules = rules} {r = r} bytes piece place h = subst (λ (l : List ℕ). HasDefectAlways spells g rules l r) (whole_piece bytes piece place) h

pub all_so_far : {T S C : Type 0} {spells : T → List ℕ → Type 0} {g : List Entry} {rules : C → Rules T} {Made : C → List (Step T) → S → Type 0} {old now new : Lexing} {parsing mid after : Parsing} {made half other : S} {item between last : Option Item} (piece : List ℕ) (place : ℕ) → TakesSoFar spells g rules Made old parsing made item now mid half between piece place → ((context : C) (bytes : List ℕ) → IsOpen spells g (rules context) (Made context) now mid half between bytes → IsOpen spells g (rules context) (Made context) new after other last (bytes ++ rest_from piece place)) → (context : C) (bytes : List ℕ) → IsOpen spells g (rules context) (Made context) old parsing made item bytes → IsOpen spells g (rules context) (Made context) new after other last (bytes ++ piece)
all_so_far {spells = spells} {g = g} {rules = rules} {Made = Made} {new = new} {after = after} {other = other} {last = last} piece place s takes context bytes o =
    subst (λ (l : List ℕ). IsOpen spells g (rules context) (Made context) new after other last l) (whole_piece bytes piece place) (takes context (bytes ++ take place piece) (s.takes context bytes o))

-- as a call answers it

pub more_left : {T S C : Type 0} {spells : T → List ℕ → Type 0} {g : List Entry} {rules : C → Rules T} {Made : C → List (Step T) → S → Type 0} {old now new : Lexing} {parsing mid after : Parsing} {made half other : S} {item between last : Option Item} (piece : List ℕ) (place count : ℕ) (left : Option ℕ) → left ≡ Some count → TakesSoFar spells g rules Made old parsing made item now mid half between piece place → IfSome left (λ n. n ≤ length (rest_from piece place)) → ((context : C) (bytes : List ℕ) → IsOpen spells g (rules context) (Made context) now mid half between bytes → IsOpen spells g (rules context) (Made context) new after other last (bytes ++ taken_of left (rest_from piece place))) → TakesSoFar spells g rules Made old parsing made item new after other last piece (place + count)
more_left {spells = spells} {g = g} {rules = rules} {Made = Made} {new = new} {after = after} {other = other} {last = last} piece place count left e s within takes =
    more_so_far piece place count s (subst (λ (o : Option ℕ). IfSome o (λ n. n ≤ length (rest_from piece place))) e within)
    (λ context bytes o. subst (λ (l : Option ℕ). IsOpen spells g (rules context) (Made context) new after other last (bytes ++ taken_of l (rest_from piece place))) e (takes context bytes o))

pub all_left : {T S C : Type 0} {spells : T → List ℕ → Type 0} {g : List Entry} {rules : C → Rules T} {Made : C → List (Step T) → S → Type 0} {old now new : Lexing} {parsing mid after : Parsing} {made half other : S} {item between last : Option Item} (piece : List ℕ) (place : ℕ) (left : Option ℕ) → left ≡ None → TakesSoFar spells g rules Made old parsing made item now mid half between piece place → ((context : C) (bytes : List ℕ) → IsOpen spells g (rules context) (Made context) now mid half between bytes → IsOpen spells g (rules context) (Made context) new after other last (bytes ++ taken_of left (rest_from piece place))) → (context : C) (bytes : List ℕ) → IsOpen spells g (rules context) (Made context) old parsing made item bytes → IsOpen spells g (rules context) (Made context) new after other last (bytes ++ piece)
all_left {spells = spells} {g = g} {rules = rules} {Made = Made} {new = new} {after = after} {other = other} {last = last} piece place left e s takes =
    all_so_far piece place s (λ context bytes o. subst (λ (l : Option ℕ). IsOpen spells g (rules context) (Made context) new after other last (bytes ++ taken_of l (rest_from piece place))) e (takes context bytes o))

-- ---- portions of the last tokens

pub record EndsSoFar {T S C : Type 0} (spells : T → List ℕ → Type 0) (g : List Entry) (rules : C → Rules T) (Made : C → List (Step T) → S → Type 0) (old : Lexing) (parsing : Parsing) (made : S) (item : Option Item) (now : Lexing) (after : Parsing) (other : S) (last : Option Item) : Type 0 where
  pub can : (context : C) × CanEnd spells g (rules context) (Made context) now after other last
  pub takes : (context : C) (bytes : List ℕ) → IsEnding spells g (rules context) (Made context) old parsing made item bytes → IsEnding spells g (rules context) (Made context) now after other last bytes

pub none_ended : {T S C : Type 0} {spells : T → List ℕ → Type 0} {g : List Entry} {rules : C → Rules T} {Made : C → List (Step T) → S → Type 0} {old : Lexing} {parsing : Parsing} {made : S} {item : Option Item} {room : ℕ} → ((context : C) × HasRoom spells g (rules context) (Made context) old parsing made item room) → EndsSoFar spells g rules Made old parsing made item old parsing made item
none_ended h = record { can = (h.0, record { bytes = h.1.bytes; ending = open_ends h.1.open_yet }); takes = λ context bytes o. o }

pub more_ended : {T S C : Type 0} {spells : T → List ℕ → Type 0} {g : List Entry} {rules : C → Rules T} {Made : C → List (Step T) → S → Type 0} {old now new : Lexing} {parsing mid after : Parsing} {made half other : S} {item between last : Option Item} → EndsSoFar spells g rules Made old parsing made item now mid half between → ((context : C) (bytes : List ℕ) → IsEnding spells g (rules context) (Made context) now mid half between bytes → IsEnding spells g (rules context) (Made context) new after other last bytes) → EndsSoFar spells g rules Made old parsing made item new after other last
more_ended h takes = record { can = (h.can.0, record { bytes = h.can.1.bytes; ending = takes h.can.0 h.can.1.bytes h.can.1.ending }); takes = λ context bytes o. takes context bytes (h.takes context bytes o) }
