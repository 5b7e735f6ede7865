-- What bytes add, one behind another.
use Rattle.std.proofs.Common.{◌≡◌, ℕ, suc, ◌+◌, ◌<◌, Option, List, [], ◌∷◌, ◌++◌, length, take, drop, get_or, sym, ap, ◌∙◌, subst, arith}
use Rattle.std.proofs.lemmas.List.{append-nil, length-append}
use Rattle.std.proofs.Math.Seq.{take-suc}
use Rattle.owl_lexer.specs.declared.fault.LexFault.{LexFault}
use Rattle.owl_lexer.proofs.AddingLaws.{added_both}
use Rattle.owl_lexer.specs.Automata.{Automaton}
use Rattle.owl_lexer.specs.BytesGiving.{BegunBytes, EndsBytesAt, GivesSomeBytes}
use Rattle.owl_lexer.proofs.BytesLaws.{ends_behind_bytes, gives_both_bytes, some_behind_bytes}
use Rattle.owl_lexer.specs.Lexing.{EndWith}
use Rattle.owl_lexer.specs.Sources.{bytes_of, Moves, RefusesBytes, TakesBytes, begun_in}
use Rattle.owl_lexer.specs.declared.placed.Placed.{Placed}
use Rattle.owl_lexer.specs.declared.source.Source.{Source}
use Rattle.owl_lexer.proofs.Ends.{keeps_both}
use Rattle.owl_lexer.proofs.Feeding.{parted}

pub moves_of : {T : Type 0} → (a : Automaton) (value : ℕ → List ℕ → Option T) (old new : Source) (bytes : List ℕ) (before after : List (Placed T)) → TakesBytes a value old bytes before after new → Moves a value (begun_in old) bytes before after (begun_in new)
moves_of a value old new bytes before after t = record { adds = t.adds; few = t.few; end = t.end; ends = t.ends }

pub moves_none : {T : Type 0} → (a : Automaton) (value : ℕ → List ℕ → Option T) (begun : BegunBytes) (before : List (Placed T)) → Moves a value begun [] before before begun
moves_none a value begun before = record {
  adds = record { given = []; added = sym (append-nil before); gives = λ more rest e k. k };
  few = omega arith;
  end = omega arith;
  ends = λ fed e. subst (λ (l : List ℕ). EndWith l (bytes_of begun)) (sym (append-nil fed)) e;
}

pub moves_both : {T : Type 0} → (a : Automaton) (value : ℕ → List ℕ → Option T) (old mid new : BegunBytes) (bs ds : List ℕ) (before between after : List (Placed T)) → Moves a value old bs before between mid → Moves a value mid ds between after new → Moves a value old (bs ++ ds) before after new
moves_both a value old mid new bs ds before between after t u =
    let many = length-append bs ds in
    let few = t.few in
    let fewer = u.few in
    let end = t.end in
    let later = u.end in
    record {
      adds = record {
        given = t.adds.given ++ u.adds.given;
        added = added_both value before between after t.adds.given u.adds.given t.adds.added u.adds.added;
        gives = gives_both_bytes a old mid new bs ds t.adds.given u.adds.given t.adds.gives u.adds.gives;
      };
      few = omega arith;
      end = omega arith;
      ends = keeps_both (bytes_of old) (bytes_of mid) (bytes_of new) bs ds t.ends u.ends;
    }

pub refuses_moved : {T : Type 0} → (a : Automaton) (value : ℕ → List ℕ → Option T) (old mid : BegunBytes) (all bs ds es : List ℕ) (before between after : List (Placed T)) (fault : LexFault) → bs ++ (ds ++ es) ≡ all → Moves a value old bs before between mid → RefusesBytes a value mid ds between after fault → RefusesBytes a value old all before after fault
refuses_moved a value old mid all bs ds es before between after fault is t r = record {
  some = record {
    given = t.adds.given ++ r.some.given;
    added = added_both value before between after t.adds.given r.some.given t.adds.added r.some.added;
    next = subst (λ (l : List ℕ). GivesSomeBytes a old l (t.adds.given ++ r.some.given)) is
        (some_behind_bytes a old mid bs ds es t.adds.given r.some.given t.adds.gives r.some.next);
  };
  bad = λ ne.
      let bad = r.bad ne in
      record {
        given = t.adds.given ++ bad.given;
        added = added_both value before between after t.adds.given bad.given t.adds.added bad.added;
        ends = subst (λ (l : List ℕ). EndsBytesAt a old l (t.adds.given ++ bad.given) fault) is
            (ends_behind_bytes a old mid bs ds es t.adds.given bad.given fault t.adds.gives bad.ends);
      };
}

pub takes_both_bytes : {T : Type 0} → (a : Automaton) (value : ℕ → List ℕ → Option T) (old mid new : Source) (bs ds : List ℕ) (before between after : List (Placed T)) → TakesBytes a value old bs before between mid → TakesBytes a value mid ds between after new → TakesBytes a value old (bs ++ ds) before after new
takes_both_bytes a value old mid new bs ds before between after t u =
    let m = moves_both a value (begun_in old) (begun_in mid) (begun_in new) bs ds before between after (moves_of a value old mid bs before between t) (moves_of a value mid new ds between after u) in
    record { ready = u.ready; adds = m.adds; few = m.few; end = m.end; ends = m.ends }

pub takes_more_bytes : {T : Type 0} → (a : Automaton) (value : ℕ → List ℕ → Option T) (old mid new : Source) (bytes : List ℕ) (i : ℕ) (before between after : List (Placed T)) → i < length bytes → TakesBytes a value old (take i bytes) before between mid → TakesBytes a value mid (get_or bytes i 0 ∷ []) between after new → TakesBytes a value old (take (i + 1) bytes) before after new
takes_more_bytes a value old mid new bytes i before between after lt t u =
    let next : take i bytes ++ get_or bytes i 0 ∷ [] ≡ take (i + 1) bytes = sym (take-suc bytes i 0 lt) ∙ ap (λ (n : ℕ). take n bytes) (let e : suc i ≡ i + 1 = omega arith in e) in
    subst (λ (l : List ℕ). TakesBytes a value old l before after new) next (takes_both_bytes a value old mid new (take i bytes) (get_or bytes i 0 ∷ []) before between after t u)

pub refuses_in_bytes : {T : Type 0} → (a : Automaton) (value : ℕ → List ℕ → Option T) (old mid : Source) (bytes : List ℕ) (i : ℕ) (before between after : List (Placed T)) (fault : LexFault) → i < length bytes → TakesBytes a value old (take i bytes) before between mid → RefusesBytes a value (begun_in mid) (get_or bytes i 0 ∷ []) between after fault → RefusesBytes a value (begun_in old) bytes before after fault
refuses_in_bytes a value old mid bytes i before between after fault lt t r =
    refuses_moved a value (begun_in old) (begun_in mid) bytes (take i bytes) (get_or bytes i 0 ∷ []) (drop (suc i) bytes) before between after fault (parted bytes i lt)
    (moves_of a value old mid (take i bytes) before between t) r
