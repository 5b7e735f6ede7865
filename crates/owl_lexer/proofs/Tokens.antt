-- What is told of lexemes and characters, in tokens and bytes.
use Rattle.std.proofs.Common.{◌≡◌, ℕ, ◌+◌, Option, None, Some, List, [], ◌∷◌, ◌++◌, length, sym, ap, ◌∙◌, subst, arith}
use Rattle.std.specs.Str.{encode_utf8_all}
use Rattle.std.proofs.lemmas.List.{length-append}
use Rattle.owl_characters.specs.Utf8.{size}
use Rattle.owl_characters.proofs.Utf8Laws.{size_is}
use Rattle.owl_lexer.specs.Adding.{tokens_of}
use Rattle.owl_lexer.proofs.AddingLaws.{tokens-append}
use Rattle.owl_lexer.specs.Automata.{Automaton}
use Rattle.owl_lexer.specs.BytesGiving.{AddsBytes, AddsSomeBytes, AddsSomeLastBytes, BegunBytes, end_of_bytes}
use Rattle.owl_lexer.specs.Languages.{AreSpelled, IsLanguage}
use Rattle.owl_lexer.specs.Lexing.{Adds, AddsSome, AddsSomeLast, Begun, Continues, end_of, nothing_begun}
use Rattle.owl_lexer.specs.Sources.{bytes_of, EndsAgain, EndsBytesBadly, EndsPieces, EndsPiecesBadly, EndsSomeAgain, EndsSomePieces, IsOpenWith, RefusesBytes, RefusesPiece, TakesAgain, TakesPiece, begun_with_again, bytes_with}
use Rattle.owl_lexer.proofs.LexingLaws.{IsSound, always_split, comes, lexemes_continue, split_spelled}
use Rattle.owl_lexer.proofs.OneWayLaws.{same_continues}
use Rattle.owl_lexer.specs.declared.again.Again.{Again}
use Rattle.owl_lexer.specs.declared.fault.LexFault.{LexFault}
use Rattle.owl_lexer.specs.declared.placed.Placed.{Placed}
use Rattle.owl_lexer.specs.declared.source.Source.{Source}

-- what is added

adds_tokens : {T : Type 0} → (a : Automaton) (value : ℕ → List ℕ → Option T) (spells : T → List ℕ → Type 0) → IsLanguage a value spells → (old new : BegunBytes) (bytes : List ℕ) (before after : List (Placed T)) → IsSound old → IsSound new → AddsBytes a value old bytes before after new → Adds spells (bytes_of old) bytes before after (bytes_of new)
adds_tokens {T = T} a value spells l old new bytes before after s t g = record {
  given = tokens_of value g.given;
  added = g.added;
  gives = record {
    all = λ more tokens e k.
        let o = always_split a value spells l new.fresh new.at ((bytes_of new).held ++ more) in
        let same = same_continues a value spells l (bytes_of old) (bytes ++ more) tokens (tokens_of value g.given ++ o.tokens) e o.ending k (only more o.tokens o.ending o.splits) in
        (o.tokens, same.0, subst (λ (f : Option LexFault). Continues spells (bytes_of new) more o.tokens f) (sym same.1) o.splits);
    only = only;
  };
}
  where
    only : (more : List ℕ) (rest : List (Placed T)) (e : Option LexFault) → Continues spells (bytes_of new) more rest e → Continues spells (bytes_of old) (bytes ++ more) (tokens_of value g.given ++ rest) e
    only more rest e k =
        let o = comes a new more in
        let same = same_continues a value spells l (bytes_of new) more (tokens_of value o.lexemes) rest o.ending e (lexemes_continue a value spells l new t more o.lexemes o.ending o.continues) k in
        subst (λ (ts : List (Placed T)). Continues spells (bytes_of old) (bytes ++ more) ts e) (tokens-append value g.given o.lexemes ∙ ap (λ (ts : List (Placed T)). tokens_of value g.given ++ ts) same.0)
        (subst (λ (f : Option LexFault). Continues spells (bytes_of old) (bytes ++ more) (tokens_of value (g.given ++ o.lexemes)) f) same.1
        (lexemes_continue a value spells l old s (bytes ++ more) (g.given ++ o.lexemes) o.ending (g.gives more o.lexemes o.ending o.continues)))

some_tokens : {T : Type 0} → (a : Automaton) (value : ℕ → List ℕ → Option T) (spells : T → List ℕ → Type 0) → IsLanguage a value spells → (old : BegunBytes) (bytes : List ℕ) (before after : List (Placed T)) → IsSound old → AddsSomeBytes a value old bytes before after → AddsSome spells (bytes_of old) bytes before after
some_tokens a value spells l old bytes before after s g = record {
  given = tokens_of value g.given;
  added = g.added;
  next = λ more tokens e k.
      let o = g.next more in
      let same = same_continues a value spells l (bytes_of old) (bytes ++ more) tokens (tokens_of value (g.given ++ o.0)) e o.1 k (lexemes_continue a value spells l old s (bytes ++ more) (g.given ++ o.0) o.1 o.2) in
      (tokens_of value o.0, same.0 ∙ tokens-append value g.given o.0);
}

some_last_tokens : {T : Type 0} → (a : Automaton) (value : ℕ → List ℕ → Option T) (spells : T → List ℕ → Type 0) → IsLanguage a value spells → (old : BegunBytes) (before after : List (Placed T)) → IsSound old → AddsSomeLastBytes a value old before after → AddsSomeLast spells (bytes_of old) before after
some_last_tokens a value spells l old before after s g = record {
  given = tokens_of value g.given;
  added = g.added;
  next = λ tokens e k.
      let o = g.next in
      let same = same_continues a value spells l (bytes_of old) [] tokens (tokens_of value (g.given ++ o.0)) e o.1 k (lexemes_continue a value spells l old s [] (g.given ++ o.0) o.1 o.2) in
      (tokens_of value o.0, same.0 ∙ tokens-append value g.given o.0);
}

-- what is added is spelled

spelled_front : {T : Type 0} → (spells : T → List ℕ → Type 0) (xs ys : List (Placed T)) → AreSpelled spells (xs ++ ys) → AreSpelled spells xs
spelled_front spells [] ys h = tt
spelled_front spells (x ∷ xs) ys h = (h.0, spelled_front spells xs ys h.1)

spelled_both : {T : Type 0} → (spells : T → List ℕ → Type 0) (before given after : List (Placed T)) → after ≡ before ++ given → AreSpelled spells given → AreSpelled spells before → AreSpelled spells after
spelled_both spells before given after e h k = subst (AreSpelled spells) (sym e) (all before k)
  where
    all : (xs : List _) → AreSpelled spells xs → AreSpelled spells (xs ++ given)
    all [] k = h
    all (x ∷ xs) k = (k.0, all xs k.1)

some_spelled : {T : Type 0} → (a : Automaton) (value : ℕ → List ℕ → Option T) (spells : T → List ℕ → Type 0) → IsLanguage a value spells → (old : Begun) (bytes : List ℕ) (before after : List (Placed T)) → AddsSome spells old bytes before after → AreSpelled spells before → AreSpelled spells after
some_spelled a value spells l old bytes before after g =
    let o = always_split a value spells l old.fresh old.at (old.held ++ (bytes ++ [])) in
    let rest = g.next [] o.tokens o.ending o.splits in
    spelled_both spells before g.given after g.added
    (spelled_front spells g.given rest.0 (subst (AreSpelled spells) rest.1 (split_spelled spells old.fresh old.at (old.held ++ (bytes ++ [])) o.tokens o.ending o.splits)))

some_last_spelled : {T : Type 0} → (a : Automaton) (value : ℕ → List ℕ → Option T) (spells : T → List ℕ → Type 0) → IsLanguage a value spells → (old : Begun) (before after : List (Placed T)) → AddsSomeLast spells old before after → AreSpelled spells before → AreSpelled spells after
some_last_spelled a value spells l old before after g =
    let o = always_split a value spells l old.fresh old.at (old.held ++ []) in
    let rest = g.next o.tokens o.ending o.splits in
    spelled_both spells before g.given after g.added
    (spelled_front spells g.given rest.0 (subst (AreSpelled spells) rest.1 (split_spelled spells old.fresh old.at (old.held ++ []) o.tokens o.ending o.splits)))

-- the places

held_is : (begun : BegunBytes) → length (encode_utf8_all begun.held ++ begun.bytes) ≡ size begun.held + length begun.bytes
held_is begun = length-append (encode_utf8_all begun.held) begun.bytes ∙ ap (λ (n : ℕ). n + length begun.bytes) (size_is begun.held)

pub end_is : (begun : BegunBytes) → end_of (bytes_of begun) ≡ end_of_bytes begun
end_is begun = let held = held_is begun in omega arith

-- a piece of bytes, and the end

sound_with : (a : Automaton) (source : Source) (again : Again) → IsOpenWith a source again → IsSound (begun_with_again source again)
sound_with a source again o = record { scalars = o.scalars; first = o.start }

pub takes_piece : {T : Type 0} → (a : Automaton) (value : ℕ → List ℕ → Option T) (spells : T → List ℕ → Type 0) → IsLanguage a value spells → (old new : Source) (again left : Again) (bytes : List ℕ) (before after : List (Placed T)) → IsOpenWith a old again → TakesAgain a value old again bytes before after new left → TakesPiece spells (bytes_with old again) bytes before after (bytes_with new left)
takes_piece a value spells l old new again left bytes before after o t =
    let adds = adds_tokens a value spells l (begun_with_again old again) (begun_with_again new left) bytes before after (sound_with a old again o) (sound_with a new left t.open_yet) t.moves.adds in
    let some : AddsSome spells (bytes_with old again) bytes before after = record { given = adds.given; added = adds.added; next = λ more tokens e k. let o = adds.gives.all more tokens e k in (o.0, o.1) } in
    let few = t.moves.few in
    let end = t.moves.end in
    let old_held = held_is (begun_with_again old again) in
    let new_held = held_is (begun_with_again new left) in
    record {
      adds = adds;
      spelled = some_spelled a value spells l (bytes_with old again) bytes before after some;
      few = few;
      end = omega arith;
      ends = t.moves.ends;
    }

pub refuses_piece : {T : Type 0} → (a : Automaton) (value : ℕ → List ℕ → Option T) (spells : T → List ℕ → Type 0) → IsLanguage a value spells → (old : Source) (again : Again) (bytes : List ℕ) (before after : List (Placed T)) (fault : LexFault) → IsOpenWith a old again → RefusesBytes a value (begun_with_again old again) bytes before after fault → RefusesPiece spells (bytes_with old again) bytes before after fault
refuses_piece a value spells l old again bytes before after fault o t =
    let sound = sound_with a old again o in
    let some = some_tokens a value spells l (begun_with_again old again) bytes before after sound t.some in
    record {
      bad = λ ne.
          let bad = t.bad ne in
          record { given = tokens_of value bad.given; added = bad.added; ends = λ more. lexemes_continue a value spells l (begun_with_again old again) sound (bytes ++ more) bad.given (Some fault) (bad.ends more) };
      some = some;
      spelled = some_spelled a value spells l (bytes_with old again) bytes before after some;
    }

pub ends_pieces : {T : Type 0} → (a : Automaton) (value : ℕ → List ℕ → Option T) (spells : T → List ℕ → Type 0) → IsLanguage a value spells → (old new : Source) (again left : Again) (before after : List (Placed T)) → IsOpenWith a old again → EndsAgain a value old again before after new left → EndsPieces spells (bytes_with old again) before after (bytes_with new left)
ends_pieces a value spells l old new again left before after o t =
    let last = lexemes_continue a value spells l (begun_with_again old again) (sound_with a old again o) [] t.adds.given None t.adds.last in
    let few = t.few in
    let held = held_is (begun_with_again old again) in
    record {
      begun = ap bytes_of t.begun ∙ ap nothing_begun (sym (end_is (begun_with_again old again)));
      adds = record { given = tokens_of value t.adds.given; added = t.adds.added; continues = last };
      spelled = spelled_both spells before (tokens_of value t.adds.given) after t.adds.added
          (split_spelled spells old.fresh old.hand.at ((bytes_with old again).held ++ []) (tokens_of value t.adds.given) None last);
      few = omega arith;
    }

pub ends_some_pieces : {T : Type 0} → (a : Automaton) (value : ℕ → List ℕ → Option T) (spells : T → List ℕ → Type 0) → IsLanguage a value spells → (old new : Source) (again left : Again) (before after : List (Placed T)) → IsOpenWith a old again → EndsSomeAgain a value old again before after new left → EndsSomePieces spells (bytes_with old again) before after (bytes_with new left)
ends_some_pieces a value spells l old new again left before after o t =
    let gives : (rest : List (Placed _)) (e : Option LexFault) → Continues spells (bytes_with new left) [] rest e → Continues spells (bytes_with old again) [] (tokens_of value t.given ++ rest) e = λ rest e k.
    let x = comes a (begun_with_again new left) [] in
    let same = same_continues a value spells l (bytes_with new left) [] (tokens_of value x.lexemes) rest x.ending e (lexemes_continue a value spells l (begun_with_again new left) (sound_with a new left t.open_yet) [] x.lexemes x.ending x.continues) k in
    subst (λ (ts : List (Placed _)). Continues spells (bytes_with old again) [] ts e) (tokens-append value t.given x.lexemes ∙ ap (λ (ts : List (Placed _)). tokens_of value t.given ++ ts) same.0)
    (subst (λ (f : Option LexFault). Continues spells (bytes_with old again) [] (tokens_of value (t.given ++ x.lexemes)) f) same.1
    (lexemes_continue a value spells l (begun_with_again old again) (sound_with a old again o) [] (t.given ++ x.lexemes) x.ending (t.gives x.lexemes x.ending x.continues))) in
    let x = comes a (begun_with_again new left) [] in
    let k = lexemes_continue a value spells l (begun_with_again new left) (sound_with a new left t.open_yet) [] x.lexemes x.ending x.continues in
    let few = t.few in
    let end = t.end in
    let old_held = held_is (begun_with_again old again) in
    let new_held = held_is (begun_with_again new left) in
    record {
      adds = record { given = tokens_of value t.given; added = t.added; gives = gives };
      spelled = spelled_both spells before (tokens_of value t.given) after t.added
          (spelled_front spells (tokens_of value t.given) (tokens_of value x.lexemes)
          (split_spelled spells old.fresh old.hand.at ((bytes_with old again).held ++ []) (tokens_of value t.given ++ tokens_of value x.lexemes) x.ending (gives (tokens_of value x.lexemes) x.ending k)));
      few = few;
      end = omega arith;
    }

pub ends_pieces_badly : {T : Type 0} → (a : Automaton) (value : ℕ → List ℕ → Option T) (spells : T → List ℕ → Type 0) → IsLanguage a value spells → (old : Source) (again : Again) (before after : List (Placed T)) (fault : LexFault) → IsOpenWith a old again → EndsBytesBadly a value (begun_with_again old again) before after fault → EndsPiecesBadly spells (bytes_with old again) before after fault
ends_pieces_badly a value spells l old again before after fault o t =
    let sound = sound_with a old again o in
    let some = some_last_tokens a value spells l (begun_with_again old again) before after sound t.some in
    record {
      bad = λ ne.
          let bad = t.bad ne in
          record { given = tokens_of value bad.given; added = bad.added; continues = lexemes_continue a value spells l (begun_with_again old again) sound [] bad.given (Some fault) bad.last };
      some = some;
      spelled = some_last_spelled a value spells l (bytes_with old again) before after some;
    }
