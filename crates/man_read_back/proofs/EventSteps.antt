-- Events and tokens with their places, as tokens with the acts in front of them.
use Rattle.std.proofs.Common.{◌≡◌, ℕ, List, [], ◌∷◌, ◌++◌, map, refl, ap}
use Rattle.grammar.specs.Derivations.{Event}
use Rattle.grammar.specs.Derivations.Event.{Do, Take}
use Rattle.grammar.specs.Lowering.{tokens_of}
use Rattle.owl_lexer.specs.declared.placed.Placed.{Placed}
use Rattle.owl_reader.specs.Steps.{Step, events_of, plain, tokens_in}

-- tokens with their places, each with the acts in front of it, and the last acts
pub record Stepped {T : Type 0} (placed : List (Placed T)) (events : List (Event T)) : Type 0 where
  pub steps : List (Step T)
  pub acts : List ℕ
  pub tokens_are : tokens_in steps ≡ placed
  pub events_are : events ≡ events_of steps ++ map Do acts

with_act : {T : Type 0} (a : ℕ) (placed : List (Placed T)) (es : List (Event T)) (steps : List (Step T)) (acts : List ℕ) → tokens_in steps ≡ placed → es ≡ events_of steps ++ map Do acts → Stepped placed (Do a ∷ es)
with_act {T} a placed es [] acts t e = record {
  steps = [];
  acts = a ∷ acts;
  tokens_are = t;
  events_are = ap (λ (l : List (Event T)). Do a ∷ l) e;
}
with_act {T} a placed es (s ∷ steps) acts t e = record {
  steps = record { acts = a ∷ s.acts; token = s.token } ∷ steps;
  acts = acts;
  tokens_are = t;
  events_are = ap (λ (l : List (Event T)). Do a ∷ l) e;
}

with_token : {T : Type 0} (x : T) (p : Placed T) (placed : List (Placed T)) (es : List (Event T)) → x ≡ p.token → Stepped placed es → Stepped (p ∷ placed) (Take x ∷ es)
with_token {T} x p placed es same it = record {
  steps = record { acts = []; token = p } ∷ it.steps;
  acts = it.acts;
  tokens_are = ap (λ (l : List (Placed T)). p ∷ l) it.tokens_are;
  events_are = λ i. Take (same i) ∷ it.events_are i;
}

pub stepped : {T : Type 0} (placed : List (Placed T)) (es : List (Event T)) → tokens_of es ≡ map (λ (p : Placed T). p.token) placed → Stepped placed es
stepped [] [] e = record { steps = []; acts = []; tokens_are = refl; events_are = refl }
stepped (p ∷ placed) [] e = absurd (cc)
stepped [] (Take x ∷ es) e = absurd (cc)
stepped (p ∷ placed) (Take x ∷ es) e = with_token x p placed es (cc) (stepped placed es (cc))
stepped placed (Do a ∷ es) e =
    let it = stepped placed es e in
    with_act a placed es it.steps it.acts it.tokens_are it.events_are

pub plain_tokens : {T : Type 0} (steps : List (Step T)) → map (λ (p : Placed T). p.token) (tokens_in steps) ≡ plain steps
plain_tokens [] = refl
plain_tokens {T} (s ∷ steps) = ap (λ (l : List T). s.token.token ∷ l) (plain_tokens steps)
