-- Where two tables have the same alternatives, bytes have the same first defect, and readers of them stand alike.
use Rattle.std.proofs.Common.{ℕ, Bool, List, Option, sym}
use Rattle.grammar.specs.Derivations.{Event}
use Rattle.grammar.specs.Grammars.{Entry}
use Rattle.grammar.proofs.AlikeLaws.{AreAlike, begins_alike, derives_alike, fed_tokens_alike}
use Rattle.grammar.specs.Parsing.{Parsing}
use Rattle.owl_lexer.specs.Lexing.{Lexing}
use Rattle.owl_lexer.specs.declared.placed.Placed.{Placed}
use Rattle.owl_reader.specs.Defects.{Begin, HasDefect, HasDefectBeforeSpace, HasNoneBeforeSpace, IsFirstDefect, IsRefused}
use Rattle.owl_reader.specs.Defects.HasDefect.{at_end, at_token, no_token}
use Rattle.owl_reader.specs.Defects.IsFirstDefect.{beyond, too_long, within}
use Rattle.owl_reader.specs.Defects.IsRefused.{barred, wrong_end, wrong_token}
use Rattle.owl_reader.specs.Early.{TellsEarly}
use Rattle.owl_reader.specs.Items.{BeginsItem}
use Rattle.owl_reader.specs.Items.BeginsItem.{anew, inside}
use Rattle.owl_reader.specs.Readings.{HasRead, IsOpen, Reading, Refuses}
use Rattle.owl_reader.specs.Standing.{Stands}
use Rattle.owl_reader.specs.Following.{MayFollow}
use Rattle.owl_reader.specs.Steps.{Step}
use Rattle.owl_reader.specs.Syntaxes.{Rules}
use Rattle.owl_reader.specs.declared.fault.ReadFault.{ReadFault}
use Rattle.owl_reader.specs.declared.item.Item.{Item}

-- ---- defects

pub follow_alike : {T : Type 0} {g h : List Entry} {rules : Rules T} {events : List (Event T)} {acts : List ℕ} {next : Option T} → AreAlike g h → MayFollow g rules events acts next → MayFollow h rules events acts next
follow_alike e f = record { classes = f.classes; rest = f.rest; derives = derives_alike e f.derives; comes = f.comes }

pub begin_alike : {T : Type 0} {g h : List Entry} {rules : Rules T} {steps : List (Step T)} → AreAlike g h → Begin g rules steps → Begin h rules steps
begin_alike e b = record { more = b.more; rest = b.rest; derives = derives_alike e b.derives; none_barred = b.none_barred }

begins_item_alike : {T : Type 0} {g h : List Entry} {rules : Rules T} {steps : List (Step T)} {next : Option T} {begins : Bool} → AreAlike g h → BeginsItem g rules steps next begins → BeginsItem h rules steps next begins
begins_item_alike e (anew is whole) = anew is (record { class = whole.class; behind = whole.behind; goes_on = begins_alike e whole.goes_on })
begins_item_alike e (inside never) = inside (λ is whole. never is (record { class = whole.class; behind = whole.behind; goes_on = begins_alike (sym e) whole.goes_on }))

refused_alike : {T : Type 0} {g h : List Entry} {rules : Rules T} {steps : List (Step T)} {at : ℕ} {next : Option (Placed T)} {refusal : ReadFault} → AreAlike g h → IsRefused g rules steps at next refusal → IsRefused h rules steps at next refusal
refused_alike e (wrong_token p begins is never b told) = wrong_token p begins is (λ b. never (begins_alike (sym e) b)) (begins_item_alike e b) told
refused_alike e (wrong_end begins is never b told) = wrong_end begins is (λ events d. never events (derives_alike (sym e) d)) (begins_item_alike e b) told
refused_alike e (barred acts f some follow bars told) = barred acts f some (follow_alike e follow) bars told

pub defect_alike : {T : Type 0} {spells : T → List ℕ → Type 0} {g h : List Entry} {rules : Rules T} {bytes : List ℕ} {refusal : ReadFault} → AreAlike g h → HasDefect spells g rules bytes refusal → HasDefect spells h rules bytes refusal
defect_alike e (at_token steps p others ending splits begin refused) =
    at_token steps p others ending splits (begin_alike e begin) (refused_alike e refused)
defect_alike e (at_end steps splits begin refused) = at_end steps splits (begin_alike e begin) (refused_alike e refused)
defect_alike e (no_token steps fault splits begin told) = no_token steps fault splits (begin_alike e begin) told

before_space_alike : {T : Type 0} {spells : T → List ℕ → Type 0} {g h : List Entry} {rules : Rules T} {bytes : List ℕ} {refusal : ReadFault} → AreAlike g h → HasDefectBeforeSpace spells g rules bytes refusal → HasDefectBeforeSpace spells h rules bytes refusal
before_space_alike e d = record {
  steps = d.steps;
  token = d.token;
  others = d.others;
  ending = d.ending;
  splits = d.splits;
  begin = begin_alike e d.begin;
  refused = refused_alike e d.refused;
  space = d.space;
}

none_alike : {T : Type 0} {spells : T → List ℕ → Type 0} {g h : List Entry} {rules : Rules T} {bytes : List ℕ} → AreAlike g h → HasNoneBeforeSpace spells g rules bytes → HasNoneBeforeSpace spells h rules bytes
none_alike e none quotes refusal d = none quotes refusal (before_space_alike (sym e) d)

pub first_defect_alike : {T : Type 0} {spells : T → List ℕ → Type 0} {g h : List Entry} {rules : Rules T} {bytes : List ℕ} {refusal : ReadFault} → AreAlike g h → IsFirstDefect spells g rules bytes refusal → IsFirstDefect spells h rules bytes refusal
first_defect_alike e (within few d) = within few (defect_alike e d)
first_defect_alike e (beyond many d) = beyond many (λ more. defect_alike e (d more))
first_defect_alike e (too_long many told none) = too_long many told (none_alike e none)

-- ---- readers

pub refuses_alike : {T : Type 0} {spells : T → List ℕ → Type 0} {g h : List Entry} {rules : Rules T} (bytes : List ℕ) {refusal : ReadFault} → AreAlike g h → Refuses spells g rules bytes refusal → Refuses spells h rules bytes refusal
refuses_alike bytes e r more = first_defect_alike e (r more)

stands_alike : {T S : Type 0} {g h : List Entry} {rules : Rules T} {Made : List (Step T) → S → Type 0} {parsing : Parsing} {made : S} {last : Option Item} {steps : List (Step T)} → AreAlike g h → Stands g rules Made parsing made last steps → Stands h rules Made parsing made last steps
stands_alike e s = record {
  open_yet = s.open_yet;
  fed = fed_tokens_alike e s.fed;
  none_barred = s.none_barred;
  made_by = s.made_by;
  last_is = s.last_is;
}

open_alike : {T S : Type 0} {spells : T → List ℕ → Type 0} {g h : List Entry} {rules : Rules T} {Made : List (Step T) → S → Type 0} {lexing : Lexing} {parsing : Parsing} {made : S} {last : Option Item} {bytes : List ℕ} → AreAlike g h → IsOpen spells g rules Made lexing parsing made last bytes → IsOpen spells h rules Made lexing parsing made last bytes
open_alike e o = record {
  steps = o.steps;
  lexer_open = o.lexer_open;
  gives = o.gives;
  place = o.place;
  ends = o.ends;
  stands = stands_alike e o.stands;
}

pub read_alike : {T S : Type 0} {spells : T → List ℕ → Type 0} {g h : List Entry} {rules : Rules T} {Made : List (Step T) → S → Type 0} {r : Reading S} {bytes : List ℕ} → AreAlike g h → HasRead spells g rules Made r bytes → HasRead spells h rules Made r bytes
read_alike {bytes = bytes} e r = record {
  open_yet = λ none. open_alike e (r.open_yet none);
  fed = r.fed;
  refuses = λ refusal is some. refuses_alike bytes e (r.refuses refusal is some);
}

pub early_alike : {T S : Type 0} {spells : T → List ℕ → Type 0} {g h : List Entry} {rules : Rules T} {Made : List (Step T) → S → Type 0} {r : Reading S} → AreAlike g h → TellsEarly spells g rules Made r → TellsEarly spells h rules Made r
early_alike e t = record { holds = t.holds; none = λ bytes r. none_alike e (t.none bytes (read_alike (sym e) r)) }
