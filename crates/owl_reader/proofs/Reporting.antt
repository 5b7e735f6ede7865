-- What comes of a reader's calls.
use Rattle.std.proofs.Common.{◌≡◌, ◌≤◌, ◌<◌, ◌+◌, ◌-◌, inl, inr, ℕ, true, Option, None, Some, List, [], ◌∷◌, ◌++◌, length, take, drop, refl, sym, ap, ◌∙◌, subst, arith}
use Rattle.std.proofs.lemmas.List.{append_assoc, append-nil, length-append, length-take, take-append-drop, take-append-le}
use Rattle.std.proofs.lemmas.Bool.{cases_lt}
use Rattle.std.proofs.Math.Nat.{min-le_left}
use Rattle.std.proofs.Math.Seq.{take-append-add}
use Rattle.grammar.proofs.FeedingLaws.{fed_start}
use Rattle.grammar.specs.Grammars.{Entry, has_rule}
use Rattle.grammar.specs.Parsing.{Parsing, expects}
use Rattle.grammar.specs.Predicting.{is_predictive, is_productive}
use Rattle.grammar.specs.declared.symbol.Symbol.TheVariants.{Rule}
use Rattle.owl_characters.specs.Limit.{most_bytes}
use Rattle.owl_lexer.specs.Lexing.{Lexing, nothing_fed}
use Rattle.owl_reader.specs.Defects.{HasDefect, HasNoneBeforeSpace, IsFirstDefect, IsRefused}
use Rattle.owl_reader.specs.Defects.HasDefect.{at_end}
use Rattle.owl_reader.specs.Defects.IsFirstDefect.{beyond, too_long, within}
use Rattle.owl_reader.specs.Readings.{AreAllTaken, CanRead, HasDefectAlways, HasRead, IsOpen, IsRead, Reading, Refuses}
use Rattle.owl_reader.specs.Standing.{CanStand, Ends}
use Rattle.owl_reader.specs.Steps.{Step}
use Rattle.owl_reader.specs.Syntaxes.{Rules}
use Rattle.owl_reader.specs.declared.fault.ReadFault.{ReadFault}
use Rattle.owl_reader.specs.declared.fault.ReadFault.TheVariants as read
use Rattle.owl_reader.specs.declared.item.Item.{Item}
use Rattle.owl_reader.proofs.Taking.{begun}

-- ---- nothing was fed

none_kept : (o : Option ReadFault) (f : ReadFault) → o ≡ None → o ≡ Some f → ⊥
none_kept None f e h = cc
none_kept (Some x) f e h = cc

no_step : {X : Type 0} (before after : List X) (x : X) → [] ≡ before ++ x ∷ after → ⊥
no_step [] after x e = cc
no_step (y ∷ before) after x e = cc

open_at_first : {T S : Type 0} {spells : T → List ℕ → Type 0} {g : List Entry} {rules : Rules T} {Made : List (Step T) → S → Type 0} → is_predictive g ≡ true → is_productive g ≡ true → has_rule g rules.document ≡ true → (made : S) → Made [] made → IsOpen spells g rules Made (record { begun = nothing_fed; refused = None }) (expects (Rule rules.document ∷ [])) made None []
open_at_first {rules = rules} predicts produces known made by = record {
  steps = [];
  lexer_open = refl;
  gives = record { all = λ more tokens ending k. (tokens, refl, k); only = λ more rest ending k. k };
  place = refl;
  ends = record { front = []; parts = refl; fresh = λ e. refl };
  stands = record {
    open_yet = refl;
    fed = record { fed = fed_start _ predicts produces rules.document known; taken = refl };
    none_barred = λ before after s f none bars. absurd (no_step before after s none);
    made_by = by;
    last_is = refl;
  };
}

pub nothing_open : {T S : Type 0} {spells : T → List ℕ → Type 0} {g : List Entry} {rules : Rules T} {Made : List (Step T) → S → Type 0} → is_predictive g ≡ true → is_productive g ≡ true → has_rule g rules.document ≡ true → (made : S) → Made [] made → (lexing : Lexing) → lexing ≡ record { begun = nothing_fed; refused = None } → (start : ℕ) → start ≡ rules.document → (parsing : Parsing) → parsing ≡ expects (Rule start ∷ []) → IsOpen spells g rules Made lexing parsing made None []
nothing_open {spells = spells} {g = g} {rules = rules} {Made = Made} predicts produces known made by lexing l start s parsing e =
    subst (λ (x : Lexing). IsOpen spells g rules Made x parsing made None []) (sym l)
    (subst (λ (p : Parsing). IsOpen spells g rules Made (record { begun = nothing_fed; refused = None }) p made None []) (sym (e ∙ ap (λ (n : ℕ). expects (Rule n ∷ [])) s))
    (open_at_first predicts produces known made by))

-- ---- defects that stay

taken_front : (bytes more : List ℕ) (n : ℕ) → length bytes ≤ n → take n (bytes ++ more) ≡ bytes ++ take (n - length bytes) more
taken_front bytes more n few =
    let parts : n ≡ length bytes + (n - length bytes) = omega arith in
    ap (λ (k : ℕ). take k (bytes ++ more)) parts ∙ take-append-add bytes more (n - length bytes)

pub first_always : {T : Type 0} {spells : T → List ℕ → Type 0} {g : List Entry} {rules : Rules T} (bytes : List ℕ) (r : ReadFault) → HasDefectAlways spells g rules bytes r → length bytes ≤ most_bytes → Refuses spells g rules bytes r
first_always {spells = spells} {g = g} {rules = rules} bytes r h few more = elim (cases_lt most_bytes (length (bytes ++ more))) [
  | inr le ↦ within le (h more)
  | inl lt ↦ beyond lt (λ m.
      subst (λ (l : List ℕ). HasDefect spells g rules l r)
      (sym (append_assoc bytes (take (most_bytes - length bytes) more) m) ∙ ap (λ (l : List ℕ). l ++ m) (sym (taken_front bytes more most_bytes few)))
      (h (take (most_bytes - length bytes) more ++ m)))
]

-- and with more behind them
pub refuses_on : {T : Type 0} {spells : T → List ℕ → Type 0} {g : List Entry} {rules : Rules T} (bytes more : List ℕ) (r : ReadFault) → Refuses spells g rules bytes r → Refuses spells g rules (bytes ++ more) r
refuses_on {spells = spells} {g = g} {rules = rules} bytes more r h others = subst (λ (l : List ℕ). IsFirstDefect spells g rules l r) (sym (append_assoc bytes more others)) (h (more ++ others))

-- a defect of the front of a piece
pub refuses_front : {T : Type 0} {spells : T → List ℕ → Type 0} {g : List Entry} {rules : Rules T} (bytes piece front : List ℕ) (n : ℕ) (r : ReadFault) → HasDefectAlways spells g rules (bytes ++ front) r → front ≡ take n piece → length (bytes ++ front) ≤ most_bytes → Refuses spells g rules (bytes ++ piece) r
refuses_front {spells = spells} {g = g} {rules = rules} bytes piece front n r h e few =
    let parts : (bytes ++ front) ++ drop n piece ≡ bytes ++ piece =
    append_assoc bytes front (drop n piece) ∙ ap (λ (l : List ℕ). bytes ++ l) (ap (λ (l : List ℕ). l ++ drop n piece) e ∙ take-append-drop n piece) in
    subst (λ (l : List ℕ). Refuses spells g rules l r) parts (refuses_on (bytes ++ front) (drop n piece) r (first_always (bytes ++ front) r h few))

-- the bytes that a document may have end within the piece
long_front : (bytes piece more : List ℕ) → length bytes ≤ most_bytes → most_bytes - length bytes ≤ length piece → take most_bytes ((bytes ++ piece) ++ more) ≡ bytes ++ take (most_bytes - length bytes) piece
long_front bytes piece more few long =
    ap (λ (l : List ℕ). take most_bytes l) (append_assoc bytes piece more) ∙ taken_front bytes (piece ++ more) most_bytes few
    ∙ ap (λ (l : List ℕ). bytes ++ l) (take-append-le (most_bytes - length bytes) piece more long)

pub refuses_long : {T : Type 0} {spells : T → List ℕ → Type 0} {g : List Entry} {rules : Rules T} (bytes piece : List ℕ) (fed : ℕ) → fed ≡ length bytes → fed ≤ most_bytes → most_bytes - fed < length piece → HasNoneBeforeSpace spells g rules (bytes ++ take (most_bytes - fed) piece) → Refuses spells g rules (bytes ++ piece) read.TooLong
refuses_long {spells = spells} {g = g} {rules = rules} bytes piece fed e few long none more =
    let long_all : most_bytes < length ((bytes ++ piece) ++ more) = subst (λ (n : ℕ). most_bytes < n) (sym (length-append (bytes ++ piece) more ∙ ap (λ (n : ℕ). n + length more) (length-append bytes piece))) (omega arith) in
    let front = long_front bytes piece more (omega arith) (omega arith) in
    let same : take (most_bytes - fed) piece ≡ take (most_bytes - length bytes) piece = ap (λ (n : ℕ). take (most_bytes - n) piece) e in
    too_long long_all refl (subst (HasNoneBeforeSpace spells g rules) (ap (λ (l : List ℕ). bytes ++ l) same ∙ sym front) none)

-- the bytes of a document and a front of a piece for which there is room
pub front_fits : (bytes piece : List ℕ) (fed : ℕ) → fed ≡ length bytes → fed ≤ most_bytes → length (bytes ++ take (most_bytes - fed) piece) ≤ most_bytes
front_fits bytes piece fed e few =
    let short : length (take (most_bytes - fed) piece) ≤ most_bytes - fed = subst (λ (n : ℕ). n ≤ most_bytes - fed) (sym (length-take (most_bytes - fed) piece)) (min-le_left (most_bytes - fed) (length piece)) in
    subst (λ (n : ℕ). n ≤ most_bytes) (sym (length-append bytes (take (most_bytes - fed) piece))) (omega arith)

pub piece_fits : (bytes piece : List ℕ) (fed : ℕ) → fed ≡ length bytes → fed + length piece ≤ most_bytes → length (bytes ++ piece) ≤ most_bytes
piece_fits bytes piece fed e few = subst (λ (n : ℕ). n ≤ most_bytes) (sym (length-append bytes piece)) (omega arith)

-- ---- a reader

pub moved : {T S : Type 0} {spells : T → List ℕ → Type 0} {g : List Entry} {rules : Rules T} {Made : List (Step T) → S → Type 0} (x r : Reading S) (bytes : List ℕ) → x ≡ r → HasRead spells g rules Made r bytes → HasRead spells g rules Made x bytes
moved {spells = spells} {g = g} {rules = rules} {Made = Made} x r bytes e h = subst (λ (y : Reading _). HasRead spells g rules Made y bytes) (sym e) h

pub read_nothing : {T S : Type 0} {spells : T → List ℕ → Type 0} {g : List Entry} {rules : Rules T} {Made : List (Step T) → S → Type 0} (r : Reading S) → IsOpen spells g rules Made r.lexing r.parsing r.made r.last [] → r.fed ≡ 0 → r.refused ≡ None → HasRead spells g rules Made r []
read_nothing r o fed none = record { open_yet = λ n. o; fed = λ n. fed; refuses = λ f e other. absurd (none_kept r.refused f none e) }

pub can_read : {T S : Type 0} {spells : T → List ℕ → Type 0} {g : List Entry} {rules : Rules T} {Made : List (Step T) → S → Type 0} (r : Reading S) (lexing : Lexing) (parsing : Parsing) (made : S) (last : Option Item) (piece : List ℕ) (refused : Option ReadFault) → CanRead spells g rules Made r → ((bytes : List ℕ) → IsOpen spells g rules Made r.lexing r.parsing r.made r.last bytes → IsOpen spells g rules Made lexing parsing made last (bytes ++ piece)) → r.fed + length piece ≤ most_bytes → CanRead spells g rules Made (record { lexing = lexing; parsing = parsing; made = made; last = last; fed = r.fed + length piece; refused = refused })
can_read r lexing parsing made last piece refused c reads few = record {
  bytes = c.bytes ++ piece;
  open_yet = reads c.bytes c.open_yet;
  fed = ap (λ (n : ℕ). n + length piece) c.fed ∙ sym (length-append c.bytes piece);
  few = few;
}

pub reads_more : {T S : Type 0} {spells : T → List ℕ → Type 0} {g : List Entry} {rules : Rules T} {Made : List (Step T) → S → Type 0} (r : Reading S) (lexing : Lexing) (parsing : Parsing) (made : S) (last : Option Item) (bytes piece : List ℕ) → r.refused ≡ None → HasRead spells g rules Made r bytes → ((some : List ℕ) → IsOpen spells g rules Made r.lexing r.parsing r.made r.last some → IsOpen spells g rules Made lexing parsing made last (some ++ piece)) → HasRead spells g rules Made (record { lexing = lexing; parsing = parsing; made = made; last = last; fed = r.fed + length piece; refused = r.refused }) (bytes ++ piece)
reads_more r lexing parsing made last bytes piece none h reads = record {
  open_yet = λ n. reads bytes (h.open_yet none);
  fed = λ n. ap (λ (n : ℕ). n + length piece) (h.fed none) ∙ sym (length-append bytes piece);
  refuses = λ f e other. absurd (none_kept r.refused f none e);
}

pub few_of : (bytes : List ℕ) (fed : ℕ) → fed ≡ length bytes → fed ≤ most_bytes → length bytes ≤ most_bytes
few_of bytes fed e few = subst (λ (n : ℕ). n ≤ most_bytes) e few

-- ---- the end

pub now_refused : {T : Type 0} {spells : T → List ℕ → Type 0} {g : List Entry} {rules : Rules T} (bytes : List ℕ) (r : ReadFault) → Refuses spells g rules bytes r → IsFirstDefect spells g rules bytes r
now_refused {spells = spells} {g = g} {rules = rules} bytes r h = subst (λ (l : List ℕ). IsFirstDefect spells g rules l r) (append-nil bytes) (h [])

pub can_end : {T S : Type 0} {spells : T → List ℕ → Type 0} {g : List Entry} {rules : Rules T} {Made : List (Step T) → S → Type 0} {parsing : Parsing} {made : S} {last : Option Item} {bytes : List ℕ} → AreAllTaken spells g rules Made parsing made last bytes → CanStand g rules Made parsing made last
can_end a = record { steps = a.steps; stands = a.stands }

pub refused_end : {T S : Type 0} {spells : T → List ℕ → Type 0} {g : List Entry} {rules : Rules T} {Made : List (Step T) → S → Type 0} {parsing : Parsing} {made : S} {last : Option Item} {bytes : List ℕ} (fed : ℕ) (r : ReadFault) → (a : AreAllTaken spells g rules Made parsing made last bytes) → fed ≡ length bytes → IsRefused g rules a.steps fed None r → HasDefect spells g rules bytes r
refused_end {g = g} {rules = rules} fed r a e refused = at_end a.steps a.splits (begun a.stands) (subst (λ (n : ℕ). IsRefused g rules a.steps n None r) e refused)

pub is_read : {T S : Type 0} {spells : T → List ℕ → Type 0} {g : List Entry} {rules : Rules T} {Made : List (Step T) → S → Type 0} {Whole : List (Step T) → List ℕ → S → Type 0} {parsing : Parsing} {made other : S} {last : Option Item} {bytes : List ℕ} → (a : AreAllTaken spells g rules Made parsing made last bytes) → length bytes ≤ most_bytes → Ends g rules Whole other a.steps → IsRead spells g rules Whole bytes other
is_read a few ends = record { steps = a.steps; few = few; splits = a.splits; none_barred = a.stands.none_barred; ends = ends }
