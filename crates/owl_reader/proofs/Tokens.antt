-- Tokens in turn.
use Rattle.std.proofs.Common.{◌≡◌, Option, List, [], ◌∷◌, ◌++◌, refl, sym, ap, ◌∙◌, subst, Some}
use Rattle.std.proofs.lemmas.List.{append_assoc, append-nil, map-append}
use Rattle.grammar.specs.Grammars.{Entry}
use Rattle.grammar.specs.Parsing.{Parsing}
use Rattle.owl_lexer.specs.declared.placed.Placed.{Placed}
use Rattle.owl_reader.specs.Defects.{IsRefused}
use Rattle.owl_reader.specs.Standing.{CanStand, IsRefusedAmong, Stands, StandsWith}
use Rattle.owl_reader.specs.Steps.{Step}
use Rattle.owl_reader.specs.Syntaxes.{Rules}
use Rattle.owl_reader.specs.declared.fault.ReadFault.{ReadFault}
use Rattle.owl_reader.specs.declared.item.Item.{Item}
use Rattle.owl_reader.proofs.Taking.{begun}

-- Where the one stood, the other stands with some of the tokens more, and these are left.
pub record PassesFrom {T S : Type 0} (g : List Entry) (rules : Rules T) (Made : List (Step T) → S → Type 0) (parsing : Parsing) (made : S) (item : Option Item) (steps : List (Step T)) (tokens left : List (Placed T)) : Type 0 where
  pub passed : List (Placed T)
  pub parts : tokens ≡ passed ++ left
  pub stands : StandsWith g rules Made parsing made item steps passed

abbrev pub PassesTo : {T S : Type 0} → List Entry → Rules T → (List (Step T) → S → Type 0) → Parsing → S → Option Item → List (Placed T) → Parsing → S → Option Item → List (Placed T) → Type 0
PassesTo {T} g rules Made old was last tokens new now item left =
    (steps : List (Step T)) → Stands g rules Made old was last steps → PassesFrom g rules Made new now item steps tokens left

pub passes_none : {T S : Type 0} {g : List Entry} {rules : Rules T} {Made : List (Step T) → S → Type 0} {parsing : Parsing} {made : S} {item : Option Item} (tokens : List (Placed T)) → PassesTo g rules Made parsing made item tokens parsing made item tokens
passes_none {T} {g = g} {rules = rules} {Made = Made} {parsing = parsing} {made = made} {item = item} tokens steps s = record {
  passed = [];
  parts = refl;
  stands = record { more = []; are = refl; stands = subst (λ (l : List (Step T)). Stands g rules Made parsing made item l) (sym (append-nil steps)) s };
}

-- one more
pub with_more : {T S : Type 0} {g : List Entry} {rules : Rules T} {Made : List (Step T) → S → Type 0} {old new : Parsing} {was now : S} {item last : Option Item} {steps : List (Step T)} {tokens left : List (Placed T)} (p : Placed T) → PassesFrom g rules Made old was item steps tokens (p ∷ left) → ((some : List (Step T)) → Stands g rules Made old was item some → StandsWith g rules Made new now last some (p ∷ [])) → PassesFrom g rules Made new now last steps tokens left
with_more {T} {g = g} {rules = rules} {Made = Made} {new = new} {now = now} {last = last} {steps = steps} {left = left} p h step =
    let it = step (steps ++ h.stands.more) h.stands.stands in
    record {
      passed = h.passed ++ p ∷ [];
      parts = h.parts ∙ sym (append_assoc h.passed (p ∷ []) left);
      stands = record {
        more = h.stands.more ++ it.more;
        are = map-append (λ (s : Step T). s.token) h.stands.more it.more ∙ (λ i. h.stands.are i ++ it.are i);
        stands = subst (λ (l : List (Step T)). Stands g rules Made new now last l) (append_assoc steps h.stands.more it.more) it.stands;
      };
    }

-- what stood may stand with more
pub can_more : {T S : Type 0} {g : List Entry} {rules : Rules T} {Made : List (Step T) → S → Type 0} {old new : Parsing} {was now : S} {item last : Option Item} {tokens : List (Placed T)} → CanStand g rules Made old was item → ((some : List (Step T)) → Stands g rules Made old was item some → StandsWith g rules Made new now last some tokens) → CanStand g rules Made new now last
can_more can step = let it = step can.steps can.stands in record { steps = can.steps ++ it.more; stands = it.stands }

-- one of them is refused
pub among : {T S : Type 0} {g : List Entry} {rules : Rules T} {Made : List (Step T) → S → Type 0} {old : Parsing} {was : S} {item : Option Item} {steps : List (Step T)} {tokens left : List (Placed T)} (p : Placed T) (r : ReadFault) → PassesFrom g rules Made old was item steps tokens (p ∷ left) → ((some : List (Step T)) → Stands g rules Made old was item some → IsRefused g rules some p.at (Some p) r) → IsRefusedAmong g rules steps tokens r
among {T} {steps = steps} {left = left} p r h refused = record {
  more = h.stands.more;
  token = p;
  others = left;
  are = h.parts ∙ ap (λ (l : List (Placed T)). l ++ p ∷ left) (sym h.stands.are);
  begin = begun h.stands.stands;
  refused = refused (steps ++ h.stands.more) h.stands.stands;
}

-- none is left
pub all_passed : {T S : Type 0} {g : List Entry} {rules : Rules T} {Made : List (Step T) → S → Type 0} {parsing : Parsing} {made : S} {item : Option Item} {steps : List (Step T)} {tokens left : List (Placed T)} → PassesFrom g rules Made parsing made item steps tokens left → left ≡ [] → StandsWith g rules Made parsing made item steps tokens
all_passed {T} {g = g} {rules = rules} {Made = Made} {parsing = parsing} {made = made} {item = item} {steps = steps} h none =
    subst (λ (l : List (Placed T)). StandsWith g rules Made parsing made item steps l) (sym (h.parts ∙ ap (λ (l : List (Placed T)). h.passed ++ l) none ∙ append-nil h.passed)) h.stands
