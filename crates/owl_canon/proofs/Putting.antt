-- What sinks take, piece by piece.
use Rattle.std.proofs.Common.{◌≡◌, ◌<◌, ◌≤◌, ◌+◌, ◌^◌, ℕ, List, [], ◌∷◌, ◌++◌, Option, None, Some, Result, Ok, Err, suc, zero, length, take, drop, get_or, refl, sym, ap, ◌∙◌, subst, arith, length-append}
use Rattle.std.specs.Prelude.{flat_map, IfErr, IsErrAnd, OnOk}
use Rattle.std.specs.List.{AllByRecursion}
use Rattle.std.specs.Str.{IsUtf8, chars}
use Rattle.std.proofs.lemmas.Grind.{flat_map-append}
use Rattle.std.proofs.lemmas.List.{append_assoc, append-nil}
use Rattle.std.proofs.lemmas.Str.{encodes-chars, scalars-chars}
use Rattle.owl_canon.specs.Bytes.{number_bytes, text_bytes}
use Rattle.owl_canon.specs.Limits.{IsText}
use Rattle.owl_canon.specs.Sinks.{Holds, IsStopped, Stops, Takes, limit_of}
use Rattle.owl_canon.specs.declared.fault.WriteFault.{WriteFault}
use Rattle.owl_canon.specs.declared.fault.WriteFault.TheVariants.{Memory, TooLong}
use Rattle.owl_canon.specs.declared.sink.Sink.{Sink}
use Rattle.owl_list.proofs.AscendingLaws.{all_pushed}

-- nothing is taken
pub puts_nothing : (sink : Sink) → Takes sink [] sink
puts_nothing sink = record { taken = λ before h. subst (Holds sink) (sym (append-nil before)) h; limit = refl }

later_stop : (limit : Option ℕ) (fault : WriteFault) (n m : ℕ) → n ≤ m → IsStopped limit fault n → IsStopped limit fault m
later_stop None fault n m l h = h
later_stop (Some limit) TooLong n m l h = omega arith
later_stop (Some limit) Memory n m l h = tt

-- what stops it stops it with more behind
pub stops_more : (sink : Sink) (xs ys : List ℕ) (fault : WriteFault) → Stops sink xs fault → Stops sink (xs ++ ys) fault
stops_more sink xs ys fault h = record {
  stopped = λ before held. later_stop (limit_of sink) fault _ _ (omega (arith, length-append xs ys)) (h.stopped before held);
}

-- bytes, and behind them others
module _ (a b : Sink) (xs ys : List ℕ) where
  pub takes_then : (c : Sink) → Takes a xs b → Takes b ys c → Takes a (xs ++ ys) c
  takes_then c h k = record {
    taken = λ before held. subst (Holds c) (append_assoc before xs ys) (k.taken (before ++ xs) (h.taken before held));
    limit = k.limit ∙ h.limit;
  }

  pub stops_then : (fault : WriteFault) → Takes a xs b → Stops b ys fault → Stops a (xs ++ ys) fault
  stops_then fault h k = record {
    stopped = λ before held.
        subst (λ (n : ℕ). IsStopped (limit_of a) fault n) (omega (arith, length-append before xs, length-append xs ys))
        (subst (λ (l : Option ℕ). IsStopped l fault (length (before ++ xs) + length ys)) h.limit (k.stopped (before ++ xs) (h.taken before held)));
  }

-- the fault that a `?` passes on
pub passed_with : (r : Result Unit WriteFault) (found : WriteFault) (Fact : WriteFault → Type 0) → IsErrAnd r (λ y. y ≡ found) → Fact found → IfErr r Fact
passed_with (Ok done) found Fact h k = absurd h
passed_with (Err fault) found Fact h k = subst Fact (sym h) k

pub on_ok_later : (r : Result Unit WriteFault) (P Q : Type 0) → (P → Q) → OnOk r P → OnOk r Q
on_ok_later (Ok done) P Q f h = f h
on_ok_later (Err fault) P Q f h = tt

pub if_err_later : (r : Result Unit WriteFault) (P Q : WriteFault → Type 0) → ((fault : WriteFault) → P fault → Q fault) → IfErr r P → IfErr r Q
if_err_later (Ok done) P Q f h = tt
if_err_later (Err fault) P Q f h = f fault h

-- a text of UTF-8
module _ (bytes : List ℕ) (u : IsUtf8 bytes) where
  pub utf8_text : length bytes < 2 ^ 64 → IsText (chars bytes)
  utf8_text few = record {
    characters = scalars-chars bytes u;
    few = subst (λ (bs : List ℕ). length bs < 2 ^ 64) (sym (encodes-chars bytes u)) few;
  }

pub bytes_of : (text bytes : List ℕ) → IsUtf8 text → bytes ≡ text → number_bytes (length bytes) ++ bytes ≡ text_bytes (chars text)
bytes_of text bytes u e = ap (λ (bs : List ℕ). number_bytes (length bs) ++ bs) (e ∙ sym (encodes-chars text u))

-- so many were put, each of which is such
pub record IsPut {X : Type 0} (IsOne : X → Type 0) (bytes : X → List ℕ) (old : Sink) (xs : List X) (new : Sink) : Type 0 where
  pub taken : Takes old (flat_map bytes xs) new
  pub each : AllByRecursion IsOne xs

-- the bytes of an element among those of all
split_at : {X : Type 0} (bytes : X → List ℕ) (xs : List X) (i : ℕ) (x : X) → i < length xs → x ≡ get_or xs i x → flat_map bytes xs ≡ flat_map bytes (take i xs) ++ (bytes x ++ flat_map bytes (drop (suc i) xs))
split_at bytes [] i x h e = absurd (omega arith)
split_at bytes (y ∷ ys) zero x h e = ap (λ (z : _). bytes z ++ flat_map bytes ys) (sym e)
split_at bytes (y ∷ ys) (suc i) x h e =
    ap (λ (bs : List ℕ). bytes y ++ bs) (split_at bytes ys i x (omega arith) e) ∙ sym (append_assoc (bytes y) (flat_map bytes (take i ys)) (bytes x ++ flat_map bytes (drop (suc i) ys)))

module _ {X : Type 0} (IsOne : X → Type 0) (bytes : X → List ℕ) where
  pub none_put : (sink : Sink) → IsPut IsOne bytes sink [] sink
  none_put sink = record { taken = puts_nothing sink; each = tt }

  pub one_put : (old now new : Sink) (xs : List X) (x : X) → IsPut IsOne bytes old xs now → Takes now (bytes x) new → IsOne x → IsPut IsOne bytes old (xs ++ x ∷ []) new
  one_put old now new xs x h k one = record {
    taken = subst (λ (bs : List ℕ). Takes old bs new) (sym (flat_map-append bytes xs (x ∷ []) ∙ ap (λ (bs : List ℕ). flat_map bytes xs ++ bs) (append-nil (bytes x)))) (takes_then old now (flat_map bytes xs) (bytes x) new h.taken k);
    each = all_pushed IsOne xs x h.each one;
  }

  pub one_stops : (old now : Sink) (xs : List X) (i : ℕ) (x : X) (fault : WriteFault) → IsPut IsOne bytes old (take i xs) now → i < length xs → x ≡ get_or xs i x → Stops now (bytes x) fault →
      Stops old (flat_map bytes xs) fault
  one_stops old now xs i x fault h l e k =
      let further : flat_map bytes xs ≡ flat_map bytes (take i xs) ++ (bytes x ++ flat_map bytes (drop (suc i) xs)) = split_at bytes xs i x l e in
      subst (λ (bs : List ℕ). Stops old bs fault) (sym further)
      (stops_then old now (flat_map bytes (take i xs)) (bytes x ++ flat_map bytes (drop (suc i) xs)) fault h.taken (stops_more now (bytes x) (flat_map bytes (drop (suc i) xs)) fault k))
