-- Ways along the symbols of the grammar, with what is done on them.
use Rattle.std.proofs.Common.{◌≡◌, List, [], ◌∷◌, ◌++◌, map, Option, Some, sym, subst, append_assoc}
use Rattle.grammar.specs.Derivations.{DerivesOf}
use Rattle.grammar.specs.Derivations.DerivesOf.{act, need, rule}
use Rattle.grammar.specs.Derivations.Event.{Do, Take}
use Rattle.grammar.specs.Pages.{IsIn, numbered}
use Rattle.grammar.specs.Pages.Named.{action, part, token as word}
use Rattle.grammar.specs.declared.symbol.Symbol.{Symbol}
use Rattle.owl_atom.specs.declared.prefixes.Prefix.{Prefix}
use Rattle.owl_tokens.specs.declared.token.Token.{Token}
use Rattle.fss_grammar.proofs.ActLaws.{done_by}
use Rattle.fss_grammar.specs.Acts.{act_number}
use Rattle.fss_grammar.specs.Classes.{Class, class_number, class_of}
use Rattle.fss_grammar.specs.Making.{Maker, Performs, Runs, next_token}
use Rattle.fss_grammar.specs.Meaning.{Events}
use Rattle.fss_grammar.specs.Page.{Names, Rule, alternatives, page}
use Rattle.fss_grammar.proofs.PageRows.{IsPlaced, row_for}
use Rattle.fss_grammar.specs.Table.{functional}
use Rattle.fss_grammar.specs.declared.acts.Act.{Act}

-- The symbols lead from before the one tokens to before the others, where those symbols are left, and what is done takes the one
-- maker to the other.
pub record Goes (p : List Prefix) (names after : Names) (xs us : List Token) (m n : Maker) : Type 0 where
  pub events : Events
  pub derives : (ss : List Symbol) (gs : Events) → DerivesOf class_of functional (map (numbered page) after ++ ss) us gs → DerivesOf class_of functional (map (numbered page) names ++ ss) xs (events ++ gs)
  pub runs : (gs : Events) (k : Maker) → Runs p gs n k → Runs p (events ++ gs) m k

pub goes_nowhere : (p : List Prefix) (names : Names) (xs : List Token) (m : Maker) → Goes p names names xs xs m m
goes_nowhere p names xs m = record { events = []; derives = λ ss gs d. d; runs = λ gs k r. r }

pub goes_then : {p : List Prefix} {a b c : Names} {xs us vs : List Token} {m n k : Maker} → Goes p a b xs us m n → Goes p b c us vs n k → Goes p a c xs vs m k
goes_then {p = p} {a = a} {xs = xs} {m = m} front back = record {
  events = front.events ++ back.events;
  derives =
      λ ss gs d.
      subst (DerivesOf class_of functional (map (numbered page) a ++ ss) xs) (sym (append_assoc front.events back.events gs))
      (front.derives ss (back.events ++ gs) (back.derives ss gs d));
  runs = λ gs k r. subst (λ l. Runs p l m k) (sym (append_assoc front.events back.events gs)) (front.runs (back.events ++ gs) k (back.runs gs k r));
}

-- a token of a class
unfoldable pub goes_token : (p : List Prefix) (c : Class) (after : Names) (x : Token) (xs : List Token) (m : Maker) → class_of x ≡ class_number c → Goes p (word c ∷ after) after (x ∷ xs) xs m m
goes_token p c after x xs m e = record { events = Take x ∷ []; derives = λ ss gs d. need e d; runs = λ gs k r. r }

-- an act that goes by the token behind it
unfoldable pub goes_before : (p : List Prefix) (a : Act) (names after : Names) (x : Token) (xs us : List Token) (m n k : Maker) → (g : Goes p names after xs us n k) → ((gs : Events) → next_token (g.events ++ gs) ≡ Some x) → Performs p a (Some x) m n → Goes p (action a ∷ names) after xs us m k
goes_before p a names after x xs us m n k g next h = record {
  events = Do (act_number a) ∷ g.events;
  derives = λ ss gs d. act (g.derives ss gs d);
  runs = λ gs l r. done_by a n (subst (λ y. Performs p a y m n) (sym (next gs)) h) (g.runs gs l r);
}

-- an act that does not
pub goes_act : (p : List Prefix) (a : Act) (after : Names) (xs : List Token) (m n : Maker) → ((next : Option Token) → Performs p a next m n) → Goes p (action a ∷ after) after xs xs m n
goes_act p a after xs m n h = record {
  events = Do (act_number a) ∷ [];
  derives = λ ss gs d. act d;
  runs = λ gs k r. done_by a n (h (next_token gs)) r;
}

-- an alternative of a rule
unfoldable pub goes_rule : (p : List Prefix) (r : Rule) (names after : Names) (xs us : List Token) (m n : Maker) → IsPlaced r → IsIn names (alternatives r) → Goes p names [] xs us m n → Goes p (part r ∷ after) after xs us m n
goes_rule p r names after xs us m n placed i g =
    let it = row_for r placed i in
    record {
      events = g.events;
      derives =
          λ ss gs d.
          rule it.row it.among
          (subst (λ (l : List Symbol). DerivesOf class_of functional (l ++ (map (numbered page) after ++ ss)) xs (g.events ++ gs)) (sym it.symbols_are)
          (g.derives (map (numbered page) after ++ ss) gs d));
      runs = g.runs;
    }
