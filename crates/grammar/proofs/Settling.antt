-- The way of a parser to the next token that it needs, step by step.
use Rattle.std.proofs.Common.{◌≡◌, ℕ, ◌<◌, List, [], ◌∷◌, ◌++◌, length, map, reverse, take, refl, sym, ap, ◌∙◌, subst, arith}
use Rattle.std.proofs.Common.{Result, Ok, Err}
use Rattle.std.specs.Prelude.{IfErr}
use Rattle.std.proofs.lemmas.List.{append_assoc, append-nil, map-append, reverse-append, take_at}
use Rattle.grammar.specs.ClassSets.{Has}
use Rattle.grammar.specs.Derivations.{Derives, Event}
use Rattle.grammar.specs.Derivations.DerivesOf.{act, need, nothing, rule}
use Rattle.grammar.specs.Derivations.Event.{Do, Take}
use Rattle.grammar.specs.Grammars.{Among, Entry, Row, entry}
use Rattle.grammar.specs.Parsing.{GoesOn, NeedsMore, Refuses}
use Rattle.grammar.specs.Predicting.{costs, end_class}
use Rattle.grammar.specs.Predictions.{AreFollowed, IsPredictive}
use Rattle.grammar.proofs.PredictiveLaws.{followed_row, predicted, predicted_row, row_costs}
use Rattle.grammar.specs.Settling.{Finishes, RefusesAt, Settles, Steps}
use Rattle.grammar.specs.Tables.{IsExpanded, IsTaken, NoneIsTaken}
use Rattle.grammar.specs.declared.fault.ParseFault.{ParseFault}
use Rattle.grammar.specs.declared.symbol.Symbol.{Symbol}
use Rattle.grammar.specs.declared.symbol.Symbol.TheVariants.{Act, Need, Rule}

-- the top of a stack is the first symbol that is expected
pub popped : (old new : List Symbol) (s : Symbol) → old ≡ new ++ s ∷ [] → reverse old ≡ s ∷ reverse new
popped old new s e = ap (λ (l : List Symbol). reverse l) e ∙ reverse-append new (s ∷ [])

pub kept : (before given after : List ℕ) → after ≡ before ++ given → take (length before) after ≡ before
kept before given after e = ap (λ (l : List ℕ). take (length before) l) e ∙ take_at before given (length before) refl

act_first : {g : List Entry} {a : ℕ} {ss : List Symbol} {ts : List ℕ} {es : List (Event ℕ)} → Derives g (Act a ∷ ss) ts es → GoesOn g (Do a ∷ []) ss ts es
act_first (act {es = es} d) = record { more = es; events_are = refl; derives = d }

pub settles_here : (g : List Entry) (class : ℕ) (ss : List Symbol) (acts : List ℕ) → AreFollowed g ss → Settles g class ss acts ss acts
settles_here g class ss acts f = record {
  given = [];
  added = sym (append-nil acts);
  only = λ ts es h d. record { more = es; events_are = refl; derives = d };
  all = λ ts es d. d;
  followed = f;
}

given_push : (given : List ℕ) (a : ℕ) (more : List (Event ℕ)) → map Do given ++ (Do a ∷ more) ≡ map Do (given ++ a ∷ []) ++ more
given_push given a more =
    sym (append_assoc (map Do given) (Do a ∷ []) more) ∙ ap (λ (l : List (Event ℕ)). l ++ more) (sym (map-append Do given (a ∷ [])))

pub settles_act : (g : List Entry) (class : ℕ) (start : List Symbol) (before : List ℕ) (a : ℕ) (ss : List Symbol) (after : List ℕ) → Settles g class start before (Act a ∷ ss) after → Settles g class start before ss (after ++ a ∷ [])
settles_act g class start before a ss after s = record {
  given = s.given ++ a ∷ [];
  added = ap (λ (l : List ℕ). l ++ a ∷ []) s.added ∙ append_assoc before s.given (a ∷ []);
  only = λ ts es h d.
      let one = s.only ts es h d in
      let two = act_first one.derives in
      record {
        more = two.more;
        events_are = one.events_are ∙ ap (λ (l : List (Event ℕ)). map Do s.given ++ l) two.events_are ∙ given_push s.given a two.more;
        derives = two.derives;
      };
  all = λ ts es d. subst (Derives g start ts) (given_push s.given a es) (s.all ts (Do a ∷ es) (act d));
  followed = s.followed;
}

settles_row : {g : List Entry} → IsPredictive g → (class : ℕ) (start : List Symbol) (before : List ℕ) (r : ℕ) (ss : List Symbol) (after : List ℕ) → Settles g class start before (Rule r ∷ ss) after → (row : Row) → Among row (entry g r).rows → Has row.mask class → Settles g class start before (row.symbols ++ ss) after
settles_row p class start before r ss after s row a mask = record {
  given = s.given;
  added = s.added;
  only = λ ts es h d.
      let one = s.only ts es h d in
      record {
        more = one.more;
        events_are = one.events_are;
        derives = predicted_row p s.followed row a (subst (Has row.mask) (sym h) mask) one.derives;
      };
  all = λ ts es d. s.all ts es (rule row a d);
  followed = followed_row p r ss row a s.followed;
}

pub settles_rule : {g : List Entry} → IsPredictive g → (class : ℕ) (start : List Symbol) (before : List ℕ) (r : ℕ) (ss : List Symbol) (after : List ℕ) (symbols : List Symbol) → Settles g class start before (Rule r ∷ ss) after → IsTaken (entry g r).rows class symbols → Settles g class start before (symbols ++ ss) after
settles_rule {g = g} p class start before r ss after symbols s it =
    subst (λ (l : List Symbol). Settles g class start before (l ++ ss) after) (sym it.symbols_are)
    (settles_row p class start before r ss after s it.row it.among it.mask)

pub refuses_rule : {g : List Entry} → IsPredictive g → (class : ℕ) (start : List Symbol) (before : List ℕ) (r : ℕ) (ss : List Symbol) (after : List ℕ) → Settles g class start before (Rule r ∷ ss) after → NoneIsTaken (entry g r).rows class → RefusesAt g class start
refuses_rule p class start before r ss after s none ts es h d =
    let it = predicted p s.followed (s.only ts es h d).derives in
    none.row it.row it.among (subst (Has it.row.mask) h it.mask)

-- each step costs something

pub act_costs : (g : List Entry) (a : ℕ) (ss : List Symbol) → costs g ss < costs g (Act a ∷ ss)
act_costs g a ss = omega arith

pub taken_costs : {g : List Entry} → IsPredictive g → (class r : ℕ) (ss symbols : List Symbol) → IsTaken (entry g r).rows class symbols → costs g (symbols ++ ss) < costs g (Rule r ∷ ss)
taken_costs {g = g} p class r ss symbols it =
    subst (λ (l : List Symbol). costs g (l ++ ss) < costs g (Rule r ∷ ss)) (sym it.symbols_are) (row_costs p r ss it.row it.among)

-- the same of stacks

pub act_step : (g : List Entry) (class : ℕ) (start : List Symbol) (before : List ℕ) (old new : List Symbol) (after grown : List ℕ) (s : Symbol) (a : ℕ) → Settles g class start before (reverse old) after → old ≡ new ++ s ∷ [] → s ≡ Act a → grown ≡ after ++ a ∷ [] → Settles g class start before (reverse new) grown
act_step g class start before old new after grown s a settles e is added =
    let top = popped old new s e ∙ ap (λ (t : Symbol). t ∷ reverse new) is in
    subst (Settles g class start before (reverse new)) (sym added)
    (settles_act g class start before a (reverse new) after (subst (λ (l : List Symbol). Settles g class start before l after) top settles))

pub record RuleStep (g : List Entry) (class : ℕ) (start : List Symbol) (before : List ℕ) (old new : List Symbol) (after : List ℕ) : Type 0 where
  pub settles : Settles g class start before (reverse new) after
  pub smaller : costs g (reverse new) < costs g (reverse old)

pub rule_step : (g : List Entry) → IsPredictive g → (class : ℕ) (start : List Symbol) (before : List ℕ) (old rest new : List Symbol) (after : List ℕ) (s : Symbol) (r : ℕ) → Settles g class start before (reverse old) after → old ≡ rest ++ s ∷ [] → s ≡ Rule r → IsExpanded (entry g r).rows class (reverse rest) (reverse new) → RuleStep g class start before old new after
rule_step g p class start before old rest new after s r settles e is it =
    let top = popped old rest s e ∙ ap (λ (t : Symbol). t ∷ reverse rest) is in
    record {
      settles = subst (λ (l : List Symbol). Settles g class start before l after) (sym it.new_is)
          (settles_rule p class start before r (reverse rest) after it.symbols (subst (λ (l : List Symbol). Settles g class start before l after) top settles) it.taken);
      smaller = subst (λ (l : List Symbol). costs g l < costs g (reverse old)) (sym it.new_is)
          (subst (λ (l : List Symbol). costs g (it.symbols ++ reverse rest) < costs g l) (sym top) (taken_costs p class r (reverse rest) it.symbols it.taken));
    }

pub refuse_step : (g : List Entry) → IsPredictive g → (class : ℕ) (start : List Symbol) (before : List ℕ) (old rest : List Symbol) (after : List ℕ) (s : Symbol) (r : ℕ) → Settles g class start before (reverse old) after → old ≡ rest ++ s ∷ [] → s ≡ Rule r → NoneIsTaken (entry g r).rows class → RefusesAt g class start
refuse_step g p class start before old rest after s r settles e is none =
    let top = popped old rest s e ∙ ap (λ (t : Symbol). t ∷ reverse rest) is in
    refuses_rule p class start before r (reverse rest) after (subst (λ (l : List Symbol). Settles g class start before l after) top settles) none

pub if_err : {A : Type 0} {P Q : ParseFault → Type 0} → (r : Result A ParseFault) → ((fault : ParseFault) → P fault → Q fault) → IfErr r P → IfErr r Q
if_err (Ok x) f h = tt
if_err (Err e) f h = f e h

-- the next token, or the end

need_first : {g : List Entry} {c class : ℕ} {ss : List Symbol} {ts : List ℕ} {es : List (Event ℕ)} → Derives g (Need c ∷ ss) (class ∷ ts) es → GoesOn g (Take class ∷ []) ss ts es
need_first (need {es = es} h d) = record { more = es; events_are = refl; derives = d }

need_class : {g : List Entry} {c class : ℕ} {ss : List Symbol} {ts : List ℕ} {es : List (Event ℕ)} → Derives g (Need c ∷ ss) (class ∷ ts) es → class ≡ c
need_class (need h d) = h

need_some : {g : List Entry} {c : ℕ} {ss : List Symbol} {es : List (Event ℕ)} → Derives g (Need c ∷ ss) [] es → ⊥
need_some d = elim d [ ]

nothing_some : {g : List Entry} {class : ℕ} {ts : List ℕ} {es : List (Event ℕ)} → Derives g [] (class ∷ ts) es → ⊥
nothing_some d = elim d [ ]

nothing_only : {g : List Entry} {ts : List ℕ} {es : List (Event ℕ)} → Derives g [] ts es → es ≡ []
nothing_only nothing = refl

pub steps : (g : List Entry) (class c : ℕ) (old : List Symbol) (before : List ℕ) (new : List Symbol) (after : List ℕ) → Settles g class old before (Need c ∷ new) after → c ≡ class → Steps g class old before new after
steps g class c old before new after s e = record {
  given = s.given;
  added = s.added;
  leads = record {
    only = λ more es d.
        let one = s.only (class ∷ more) es refl d in
        let two = need_first one.derives in
        record {
          more = two.more;
          events_are = one.events_are ∙ ap (λ (l : List (Event ℕ)). map Do s.given ++ l) two.events_are ∙ sym (append_assoc (map Do s.given) (Take class ∷ []) two.more);
          derives = two.derives;
        };
    all = λ more es d.
        subst (Derives g old (class ∷ more)) (sym (append_assoc (map Do s.given) (Take class ∷ []) es))
        (s.all (class ∷ more) (Take class ∷ es) (need (sym e) d));
  };
  followed = s.followed;
}

pub refuses_other : (g : List Entry) (class c : ℕ) (old : List Symbol) (before : List ℕ) (new : List Symbol) (after : List ℕ) → Settles g class old before (Need c ∷ new) after → (c ≡ class → ⊥) → Refuses g old class
refuses_other g class c old before new after s other more es d = other (sym (need_class (s.only (class ∷ more) es refl d).derives))

pub refuses_all : (g : List Entry) (class : ℕ) (old : List Symbol) (before after : List ℕ) → Settles g class old before [] after → Refuses g old class
refuses_all g class old before after s more es d = nothing_some (s.only (class ∷ more) es refl d).derives

pub refuses_at : (g : List Entry) (class : ℕ) (old : List Symbol) → RefusesAt g class old → Refuses g old class
refuses_at g class old h more es d = h (class ∷ more) es refl d

pub finishes : (g : List Entry) (old : List Symbol) (before after : List ℕ) → Settles g end_class old before [] after → Finishes g old before after
finishes g old before after s = record {
  given = s.given;
  added = s.added;
  derives = subst (Derives g old []) (append-nil (map Do s.given)) (s.all [] [] nothing);
  only = λ es d.
      let it = s.only [] es refl d in
      it.events_are ∙ ap (λ (l : List (Event ℕ)). map Do s.given ++ l) (nothing_only it.derives) ∙ append-nil (map Do s.given);
}

pub needs_token : (g : List Entry) (c : ℕ) (old : List Symbol) (before : List ℕ) (new : List Symbol) (after : List ℕ) → Settles g end_class old before (Need c ∷ new) after → NeedsMore g old
needs_token g c old before new after s es d = need_some (s.only [] es refl d).derives

pub needs_at : (g : List Entry) (old : List Symbol) → RefusesAt g end_class old → NeedsMore g old
needs_at g old h es d = h [] es refl d
