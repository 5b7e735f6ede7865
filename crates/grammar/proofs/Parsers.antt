-- What the moves of a parser come to.
use Rattle.std.proofs.Common.{◌≡◌, ℕ, true, Option, None, Some, List, [], ◌∷◌, ◌++◌, map, reverse, sym, subst}
use Rattle.grammar.specs.Derivations.{Begins}
use Rattle.grammar.specs.Derivations.Event.{Do, Take}
use Rattle.grammar.specs.Grammars.{Entry, has_rule}
use Rattle.grammar.specs.Parsing.{Feeds, NeedsMore, Parsing, Refuses}
use Rattle.grammar.specs.Predicting.{end_class}
use Rattle.grammar.specs.Predictions.{AreFollowed, IsPredictive}
use Rattle.grammar.proofs.PredictiveLaws.{followed_start}
use Rattle.grammar.proofs.ProductiveLaws.{IsProductive, lives}
use Rattle.grammar.specs.Settling.{Finishes, Settles, Steps, needed_first}
use Rattle.grammar.specs.declared.fault.ParseFault.{ParseFault}
use Rattle.grammar.specs.declared.symbol.Symbol.{Symbol}
use Rattle.grammar.specs.declared.symbol.Symbol.TheVariants.{Need, Rule}
use Rattle.grammar.proofs.Settling.{finishes, needs_token, refuses_all, refuses_other, steps}

pub starts_followed : {g : List Entry} → IsPredictive g → (r : ℕ) (items : List Symbol) → has_rule g r ≡ true → items ≡ Rule r ∷ [] → AreFollowed g (reverse items)
starts_followed {g = g} p r items known e = subst (λ (l : List Symbol). AreFollowed g (reverse l)) (sym e) (followed_start p r known)

none_needed : (g : List Entry) (class : ℕ) (old : List Symbol) (before : List ℕ) (new : List Symbol) (after : List ℕ) (needed : Option ℕ) → needed ≡ None → new ≡ [] → Settles g class old before (needed_first needed (reverse new)) after → Settles g class old before [] after
none_needed g class old before new after needed e f s =
    subst (λ (l : List Symbol). Settles g class old before (reverse l) after) f
    (subst (λ (n : Option ℕ). Settles g class old before (needed_first n (reverse new)) after) e s)

some_needed : (g : List Entry) (class : ℕ) (old : List Symbol) (before : List ℕ) (new : List Symbol) (after : List ℕ) (needed : Option ℕ) (c : ℕ) → needed ≡ Some c → Settles g class old before (needed_first needed new) after → Settles g class old before (Need c ∷ new) after
some_needed g class old before new after needed c e s = subst (λ (n : Option ℕ). Settles g class old before (needed_first n new) after) e s

pub takes : (g : List Entry) (class : ℕ) (old : List Symbol) (before : List ℕ) (new : List Symbol) (after : List ℕ) (needed : Option ℕ) (c : ℕ) → Settles g class old before (needed_first needed new) after → needed ≡ Some c → c ≡ class → Steps g class old before new after
takes g class old before new after needed c s e same = steps g class c old before new after (some_needed g class old before new after needed c e s) same

pub takes_other : (g : List Entry) (class : ℕ) (old : List Symbol) (before : List ℕ) (new : List Symbol) (after : List ℕ) (needed : Option ℕ) (c : ℕ) → Settles g class old before (needed_first needed new) after → needed ≡ Some c → (c ≡ class → ⊥) → Refuses g old class
takes_other g class old before new after needed c s e other = refuses_other g class c old before new after (some_needed g class old before new after needed c e s) other

pub takes_none : (g : List Entry) (class : ℕ) (old : List Symbol) (before : List ℕ) (new : List Symbol) (after : List ℕ) (needed : Option ℕ) → Settles g class old before (needed_first needed (reverse new)) after → needed ≡ None → new ≡ [] → Refuses g old class
takes_none g class old before new after needed s e f = refuses_all g class old before after (none_needed g class old before new after needed e f s)

pub ends_here : (g : List Entry) (old : List Symbol) (before : List ℕ) (new : List Symbol) (after : List ℕ) (needed : Option ℕ) → Settles g end_class old before (needed_first needed (reverse new)) after → needed ≡ None → new ≡ [] → Finishes g old before after
ends_here g old before new after needed s e f = finishes g old before after (none_needed g end_class old before new after needed e f s)

pub ends_later : (g : List Entry) (old : List Symbol) (before : List ℕ) (new : List Symbol) (after : List ℕ) (needed : Option ℕ) (c : ℕ) → Settles g end_class old before (needed_first needed new) after → needed ≡ Some c → NeedsMore g old
ends_later g old before new after needed c s e = needs_token g c old before new after (some_needed g end_class old before new after needed c e s)

-- what a copy of a stack tells of it

pub begins_so : {g : List Entry} → IsProductive g → (stack copy : List Symbol) (class : ℕ) (before : List ℕ) (new : List Symbol) (after : List ℕ) → copy ≡ stack → Steps g class (reverse copy) before new after → Begins g (reverse stack) (class ∷ [])
begins_so {g = g} p stack copy class before new after same s =
    let it = lives p new s.followed in
    subst (λ (l : List Symbol). Begins g (reverse l) (class ∷ [])) same
    (record { more = it.tokens; events = (map Do s.given ++ Take class ∷ []) ++ it.events; derives = s.leads.all it.tokens it.events it.derives })

pub begins_never : {g : List Entry} (stack copy : List Symbol) (class : ℕ) → copy ≡ stack → Refuses g (reverse copy) class → Begins g (reverse stack) (class ∷ []) → ⊥
begins_never {g = g} stack copy class same never b =
    (subst (λ (l : List Symbol). Refuses g (reverse l) class) same never) b.more b.events b.derives

-- what a parser that has not refused comes to
pub feeds : {g : List Entry} → IsProductive g → (old : Parsing) (stack : List Symbol) (refused : Option ParseFault) (class : ℕ) (before : List ℕ) (new : List Symbol) (after : List ℕ) → record { expected = stack; refused = refused } ≡ old → refused ≡ None → Steps g class stack before new after → Feeds g old class before (record { expected = new; refused = refused }) after
feeds {g = g} p old stack refused class before new after view open_yet s =
    subst (λ (o : Parsing). Feeds g o class before (record { expected = new; refused = refused }) after) view
    (record { was_open = open_yet; is_open = open_yet; given = s.given; added = s.added; leads = s.leads; lives = lives p new s.followed })
