-- What derives from a grammar derives rule by rule, and so has the meaning of its rules.
use Rattle.std.proofs.Common.{ℕ, List, [], ◌∷◌, ◌++◌, refl, sym, ap, ◌∙◌, subst}
use Rattle.std.proofs.lemmas.List.{append_assoc, append-nil}
use Rattle.grammar.specs.Derivations.{DerivesOf, Event}
use Rattle.grammar.specs.Derivations.DerivesOf.{act, need, nothing, rule}
use Rattle.grammar.specs.Derivations.Event.{Do, Take}
use Rattle.grammar.specs.Grammars.{Entry}
use Rattle.grammar.proofs.YieldLaws.{InParts, IsMeaning, Means, Yields}
use Rattle.grammar.proofs.YieldLaws.Yields.{action, empty, part, token}
use Rattle.grammar.specs.declared.symbol.Symbol.{Symbol}
use Rattle.grammar.specs.declared.symbol.Symbol.TheVariants.{Act, Need, Rule}

-- what symbols yield may stand in front of what derives from others
pub in_front : {X : Type 0} {class_of : X → ℕ} {g : List Entry} {ss rest : List Symbol} {xs ys : List X} {es fs : List (Event X)} → Yields class_of g ss xs es → DerivesOf class_of g rest ys fs → DerivesOf class_of g (ss ++ rest) (xs ++ ys) (es ++ fs)
in_front empty d = d
in_front (token h y) d = need h (in_front y d)
in_front (action y) d = act (in_front y d)
in_front {X = X} {class_of = class_of} {g = g} {rest = rest} {ys = ys} {fs = fs} (part {r = r} {ss = ss} row us vs es gs a y z) d =
    subst (λ (xs : List X). DerivesOf class_of g (Rule r ∷ (ss ++ rest)) xs ((es ++ gs) ++ fs)) (sym (append_assoc us vs ys))
    (subst (DerivesOf class_of g (Rule r ∷ (ss ++ rest)) (us ++ (vs ++ ys))) (sym (append_assoc es gs fs))
    (rule row a (in_front y (in_front z d))))

-- what joined symbols yield is what each of them yields
pub in_parts : {X : Type 0} (class_of : X → ℕ) (g : List Entry) (ss rest : List Symbol) {xs : List X} {es : List (Event X)} → Yields class_of g (ss ++ rest) xs es → InParts (Yields class_of g ss) (Yields class_of g rest) xs es
in_parts class_of g [] rest {xs = xs} {es = es} y = record { front_tokens = []; back_tokens = xs; front_events = []; back_events = es; tokens_are = refl; events_are = refl; front = empty; back = y }
in_parts {X = X} class_of g (Need c ∷ ss) rest (token {x = x} h y) =
    let it = in_parts class_of g ss rest y in
    record {
      front_tokens = x ∷ it.front_tokens;
      back_tokens = it.back_tokens;
      front_events = Take x ∷ it.front_events;
      back_events = it.back_events;
      tokens_are = ap (λ (l : List X). x ∷ l) it.tokens_are;
      events_are = ap (λ (l : List (Event X)). Take x ∷ l) it.events_are;
      front = token h it.front;
      back = it.back;
    }
in_parts {X = X} class_of g (Act a ∷ ss) rest (action y) =
    let it = in_parts class_of g ss rest y in
    record {
      front_tokens = it.front_tokens;
      back_tokens = it.back_tokens;
      front_events = Do a ∷ it.front_events;
      back_events = it.back_events;
      tokens_are = it.tokens_are;
      events_are = ap (λ (l : List (Event X)). Do a ∷ l) it.events_are;
      front = action it.front;
      back = it.back;
    }
in_parts {X = X} class_of g (Rule r ∷ ss) rest (part row xs ys es fs a y z) =
    let it = in_parts class_of g ss rest z in
    record {
      front_tokens = xs ++ it.front_tokens;
      back_tokens = it.back_tokens;
      front_events = es ++ it.front_events;
      back_events = it.back_events;
      tokens_are = ap (λ (l : List X). xs ++ l) it.tokens_are ∙ sym (append_assoc xs it.front_tokens it.back_tokens);
      events_are = ap (λ (l : List (Event X)). es ++ l) it.events_are ∙ sym (append_assoc es it.front_events it.back_events);
      front = part row xs it.front_tokens es it.front_events a y it.front;
      back = it.back;
    }

-- what derives is yielded
pub yields : {X : Type 0} {class_of : X → ℕ} {g : List Entry} {ss : List Symbol} {xs : List X} {es : List (Event X)} → DerivesOf class_of g ss xs es → Yields class_of g ss xs es
yields nothing = empty
yields (need h d) = token h (yields d)
yields (act d) = action (yields d)
yields {X = X} {class_of = class_of} {g = g} {es = es} (rule {r = r} {ss = ss} row a d) =
    let it = in_parts class_of g row.symbols ss (yields d) in
    subst (λ (l : List X). Yields class_of g (Rule r ∷ ss) l es) (sym it.tokens_are)
    (subst (Yields class_of g (Rule r ∷ ss) (it.front_tokens ++ it.back_tokens)) (sym it.events_are)
    (part row it.front_tokens it.back_tokens it.front_events it.back_events a it.front it.back))

-- what is yielded derives
pub yielded : {X : Type 0} {class_of : X → ℕ} {g : List Entry} {ss : List Symbol} {xs : List X} {es : List (Event X)} → Yields class_of g ss xs es → DerivesOf class_of g ss xs es
yielded {X = X} {class_of = class_of} {g = g} {ss = ss} {xs = xs} {es = es} y =
    let end : DerivesOf class_of g [] [] [] = nothing in
    let d = in_front y end in
    subst (λ (l : List Symbol). DerivesOf class_of g l xs es) (append-nil ss)
    (subst (λ (l : List X). DerivesOf class_of g (ss ++ []) l es) (append-nil xs)
    (subst (DerivesOf class_of g (ss ++ []) (xs ++ [])) (append-nil es) d))

-- what is yielded means what its symbols mean
pub means : {X : Type 0} {class_of : X → ℕ} {g : List Entry} {meaning : ℕ → List X → List (Event X) → Type 0} → IsMeaning class_of g meaning → {ss : List Symbol} {xs : List X} {es : List (Event X)} → Yields class_of g ss xs es → Means class_of meaning ss xs es
means m empty = record { tokens_are = refl; events_are = refl }
means m (token {x = x} {xs = xs} {es = es} h y) = record { token = x; more_tokens = xs; more_events = es; tokens_are = refl; events_are = refl; class = h; more = means m y }
means m (action {es = es} y) = record { more_events = es; events_are = refl; more = means m y }
means m (part {r = r} row xs ys es fs a y z) = record {
  front_tokens = xs;
  back_tokens = ys;
  front_events = es;
  back_events = fs;
  tokens_are = refl;
  events_are = refl;
  front = m.row r row a xs es (means m y);
  back = means m z;
}
