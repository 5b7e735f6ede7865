-- What comes of one token more.
use Rattle.std.proofs.Common.{◌≡◌, ◌≢◌, ◌↔◌, ℕ, Bool, true, false, IsTrue, Result, Ok, Err, IfOk, Option, None, Some, List, [], ◌∷◌, ◌++◌, map, refl, sym, ap, ◌∙◌, subst}
use Rattle.std.specs.List.{Contains}
use Rattle.std.proofs.lemmas.Bool.{false≢true}
use Rattle.std.proofs.lemmas.List.{append_assoc, append-nil, map-append}
use Rattle.grammar.specs.Derivations.{Derives, DerivesOf, Event}
use Rattle.grammar.specs.Derivations.Event.{Do, Take}
use Rattle.grammar.proofs.FeedingLaws.{fed_ends, fed_goes_on, fed_more, fed_needs, fed_refuses, fed_takes}
use Rattle.grammar.specs.Grammars.{Entry}
use Rattle.grammar.specs.Lowering.{lower}
use Rattle.grammar.specs.Parsing as parsing
use Rattle.grammar.specs.Parsing.{Feeds, NeedsMore, Parsing, Refuses, TakesOneOf}
use Rattle.grammar.specs.TokenFeeding.{FedTokens}
use Rattle.grammar.proofs.TokenFeedingLaws.{fed_token, tokens_derive}
use Rattle.grammar.specs.declared.fault.ParseFault.{ParseFault}
use Rattle.grammar.specs.declared.fault.ParseFault.TheVariants as parse
use Rattle.grammar.specs.declared.symbol.Symbol.TheVariants.{Rule}
use Rattle.owl_lexer.specs.declared.placed.Placed.{Placed}
use Rattle.owl_reader.specs.Defects.{Begin, IsRefused, NoneBarred}
use Rattle.owl_reader.specs.Defects.IsRefused.{barred, wrong_end, wrong_token}
use Rattle.owl_reader.specs.Faults.{fault_at, parse_refusal}
use Rattle.owl_reader.specs.Items.{BeginsItem, ends_item, item_start, item_with, last_item_from, resumes_item}
use Rattle.owl_reader.specs.Items.BeginsItem.{anew, inside}
use Rattle.owl_reader.specs.Standing.{CanStand, Ends, Stands, StandsWith}
use Rattle.owl_reader.specs.Following.{MayFollow, MayTake}
use Rattle.owl_reader.specs.Steps.{Step, events_of, plain, token_in}
use Rattle.owl_reader.specs.Syntaxes.{Rules}
use Rattle.owl_reader.specs.declared.fault.ReadFault.{ReadFault}
use Rattle.owl_reader.specs.declared.fault.ReadFault.TheVariants as read
use Rattle.owl_reader.specs.declared.fault.TokenFault.{TokenFault}
use Rattle.owl_reader.specs.declared.fault.TokenFault.TheVariants as token
use Rattle.owl_reader.specs.declared.item.Item.{Item}
use Rattle.owl_reader.proofs.EventLaws.{events-append}
use Rattle.owl_reader.proofs.Lists.{last_parts}
use Rattle.owl_reader.proofs.Lists.LastParts.{last, sooner}

pub begun : {T S : Type 0} {g : List Entry} {rules : Rules T} {Made : List (Step T) → S → Type 0} {parsing : Parsing} {made : S} {item : Option Item} {steps : List (Step T)} → Stands g rules Made parsing made item steps → Begin g rules steps
begun s = record {
  more = s.fed.fed.lives.tokens;
  rest = s.fed.fed.lives.events;
  derives = s.fed.fed.leads.all s.fed.fed.lives.tokens s.fed.fed.lives.events s.fed.fed.lives.derives;
  none_barred = s.none_barred;
}

-- what a parser tells of the class of a token that may stand behind an item
pub begins_if : {T S : Type 0} {g : List Entry} {rules : Rules T} {Made : List (Step T) → S → Type 0} {parsing : Parsing} {made : S} {item : Option Item} (steps : List (Step T)) → Stands g rules Made parsing made item steps → (next : Option T) (classes : List ℕ) (takes : Bool) → rules.begins next ≡ true → classes ≡ rules.behind → IsTrue takes ↔ TakesOneOf g parsing.expected classes → BeginsItem g rules steps next takes
begins_if {g = g} {rules = rules} steps s next classes true begins same takes =
    let it = takes.0 refl in
    anew begins (record { class = it.class; behind = subst (λ (l : List ℕ). Contains l it.class) same it.among; goes_on = fed_takes s.fed.fed it.class it.begins })
begins_if {g = g} {parsing = parsing} steps s next classes false begins same takes = inside (λ _ whole.
    absurd (false≢true (takes.1 (record {
      class = whole.class;
      among = subst (λ (l : List ℕ). Contains l whole.class) (sym same) whole.behind;
      begins = fed_goes_on s.fed.fed whole.class whole.goes_on;
    }))))

pub anew_if : {T S C E : Type 0} (g : List Entry) (rules : C → Rules T) (Made : C → List (Step T) → S → Type 0) (parsing : Parsing) (made : S) (item : Option Item) (begins : Bool) (classes : List ℕ) (r : Result Bool E) → begins ≡ true → ((context : C) → classes ≡ (rules context).behind) → (parsing.refused ≡ None → IfOk r (λ takes. IsTrue takes ↔ TakesOneOf g parsing.expected classes)) → IfOk r (λ is. (context : C) (steps : List (Step T)) → Stands g (rules context) (Made context) parsing made item steps → (next : Option T) → begins ≡ (rules context).begins next → BeginsItem g (rules context) steps next is)
anew_if g rules Made parsing made item begins classes (Ok takes) may same tells = λ context steps s next e. begins_if steps s next classes takes (sym e ∙ may) (same context) (tells s.open_yet)
anew_if g rules Made parsing made item begins classes (Err fault) may same tells = tt

pub begins_none : {T : Type 0} {g : List Entry} {rules : Rules T} (steps : List (Step T)) (next : Option T) → rules.begins next ≡ false → BeginsItem g rules steps next false
begins_none steps next none = inside (λ begins _. absurd (false≢true (sym none ∙ begins)))

pub refused : {T S : Type 0} {g : List Entry} {rules : Rules T} {Made : List (Step T) → S → Type 0} {parsing : Parsing} {made : S} {item : Option Item} {steps : List (Step T)} → Stands g rules Made parsing made item steps → (at : ℕ) (p : Placed T) (class : ℕ) → class ≡ rules.class p.token → (begins : Bool) → BeginsItem g rules steps (Some p.token) begins → (f : ParseFault) (r : ReadFault) → (f ≡ parse.Unexpected → Refuses g parsing.expected class) → r ≡ parse_refusal f begins item at → r ≢ read.Memory → IsRefused g rules steps at (Some p) r
refused {g = g} {parsing = parsing} s at p class k begins b parse.Unexpected r never e other =
    wrong_token p begins refl (fed_refuses s.fed.fed _ (subst (Refuses g parsing.expected) k (never refl))) b (e ∙ ap (λ (i : Option Item). parse_refusal parse.Unexpected begins i at) s.last_is)
refused s at p class k begins b parse.Memory r never e other = absurd (other e)

pub refused_end : {T S : Type 0} {g : List Entry} {rules : Rules T} {Made : List (Step T) → S → Type 0} {parsing : Parsing} {made : S} {item : Option Item} {steps : List (Step T)} → Stands g rules Made parsing made item steps → (at : ℕ) (begins : Bool) → BeginsItem g rules steps None begins → (f : ParseFault) (r : ReadFault) → (f ≡ parse.Unexpected → NeedsMore g parsing.expected) → r ≡ parse_refusal f begins item at → r ≢ read.Memory → IsRefused g rules steps at None r
refused_end s at begins b parse.Unexpected r never e other =
    wrong_end begins refl (fed_needs s.fed.fed (never refl)) b (e ∙ ap (λ (i : Option Item). parse_refusal parse.Unexpected begins i at) s.last_is)
refused_end s at begins b parse.Memory r never e other = absurd (other e)

same_refusal : (at start : ℕ) (f : TokenFault) (r : ReadFault) → r ≡ fault_at f start at → r ≢ read.Memory → f ≢ token.Memory
same_refusal at start f r e other m = other (e ∙ ap (λ (g : TokenFault). fault_at g start at) m)

-- acts are barred in front of what comes
pub stopped : {T S : Type 0} {g : List Entry} {rules : Rules T} {Made : List (Step T) → S → Type 0} {parsing : Parsing} {made : S} {item : Option Item} {steps : List (Step T)} → Stands g rules Made parsing made item steps → (at : ℕ) (next : Option (Placed T)) (acts : List ℕ) (f : TokenFault) (r : ReadFault) → MayFollow g rules (events_of steps) acts (token_in next) → (f ≢ token.Memory → rules.Bars steps acts next f) → r ≡ fault_at f (item_start (rules.begins (token_in next)) (resumes_item rules.mark acts) item at) at → r ≢ read.Memory → IsRefused g rules steps at next r
stopped {rules = rules} {item = item} s at next acts f r follow bars e other =
    let begins = rules.begins (token_in next) in
    let resumes = resumes_item rules.mark acts in
    let real = same_refusal at (item_start begins resumes item at) f r e other in
    barred acts f real follow (bars real) (e ∙ ap (λ (i : Option Item). fault_at f (item_start begins resumes i at) at) s.last_is)

-- the acts that were added to none
pub acts_are : {g : List Entry} {old new : Parsing} {class : ℕ} {before after : List ℕ} → (f : Feeds g old class before new after) → before ≡ [] → (acts : List ℕ) → acts ≡ after → f.given ≡ acts
acts_are f none acts e = sym (e ∙ f.added ∙ ap (λ (l : List ℕ). l ++ f.given) none)

-- the byte at which the item begins, by what was computed
pub same_start : {T : Type 0} (rules : Rules T) (item : Option Item) (next : Option T) (at start : ℕ) (acts others : List ℕ) (begins resumes : Bool) → start ≡ item_start begins resumes item at → begins ≡ rules.begins next → resumes ≡ resumes_item rules.mark others → others ≡ acts → start ≡ item_start (rules.begins next) (resumes_item rules.mark acts) item at
same_start rules item next at start acts others begins resumes s b r o =
    let same : resumes ≡ resumes_item rules.mark acts = r ∙ ap (λ (l : List ℕ). resumes_item rules.mark l) o in
    s ∙ (λ i. item_start (b i) (same i) item at)

pub same_item : {T : Type 0} (rules : Rules T) (item : Option Item) (p : Placed T) (start : ℕ) (acts others : List ℕ) (whole : Bool) → start ≡ item_start (rules.begins (Some p.token)) (resumes_item rules.mark acts) item p.at → whole ≡ ends_item rules.mark others → others ≡ acts → Some (record { at = start; is_whole = whole }) ≡ Some (item_with rules item (record { acts = acts; token = p }))
same_item rules item p start acts others whole s w o =
    let ends : whole ≡ ends_item rules.mark acts = w ∙ ap (λ (l : List ℕ). ends_item rules.mark l) o in
    λ i. Some (record { at = s i; is_whole = ends i })

-- what was fed may follow what was fed before
pub follows : {T S : Type 0} {g : List Entry} {rules : Rules T} {Made : List (Step T) → S → Type 0} {old new : Parsing} {made : S} {item : Option Item} {steps : List (Step T)} {before after : List ℕ} → Stands g rules Made old made item steps → (x : T) → (f : Feeds g old (rules.class x) before new after) → MayFollow g rules (events_of steps) f.given (Some x)
follows {g = g} {rules = rules} {steps = steps} s x f =
    let fed = fed_more s.fed.fed f in
    let es = map (lower rules.class) (events_of steps) in
    let last : List (Event ℕ) = Take (rules.class x) ∷ [] in
    record {
      classes = (map rules.class (plain steps) ++ rules.class x ∷ []) ++ fed.lives.tokens;
      rest = Take (rules.class x) ∷ fed.lives.events;
      derives =
          subst (Derives g (Rule rules.document ∷ []) ((map rules.class (plain steps) ++ rules.class x ∷ []) ++ fed.lives.tokens))
          (append_assoc es (map Do f.given ++ last) fed.lives.events ∙ ap (λ (l : List (Event ℕ)). es ++ l) (append_assoc (map Do f.given) last fed.lives.events))
          (fed.leads.all fed.lives.tokens fed.lives.events fed.lives.derives);
      comes = refl;
    }

-- a token was fed, with these acts in front of it
pub record Fed {T : Type 0} (g : List Entry) (rules : Rules T) (old new : Parsing) (x : T) (acts : List ℕ) : Type 0 where
  pub before : List ℕ
  pub after : List ℕ
  pub feeds : Feeds g old (rules.class x) before new after
  pub are : feeds.given ≡ acts

pub was_fed : {T : Type 0} {g : List Entry} {rules : Rules T} {old new : Parsing} {class : ℕ} {before after : List ℕ} → Feeds g old class before new after → (x : T) → class ≡ rules.class x → before ≡ [] → (acts : List ℕ) → acts ≡ after → Fed g rules old new x acts
was_fed {g = g} {old = old} {new = new} {before = before} {after = after} f x k none acts e =
    let same = subst (λ (c : ℕ). Feeds g old c before new after) k f in
    record { before = before; after = after; feeds = same; are = acts_are same none acts e }

pub fed_follows : {T S : Type 0} {g : List Entry} {rules : Rules T} {Made : List (Step T) → S → Type 0} {old new : Parsing} {made : S} {item : Option Item} {steps : List (Step T)} {x : T} {acts : List ℕ} → Stands g rules Made old made item steps → Fed g rules old new x acts → MayFollow g rules (events_of steps) acts (Some x)
fed_follows {g = g} {rules = rules} {steps = steps} {x = x} s f = subst (λ (now : List ℕ). MayFollow g rules (events_of steps) now (Some x)) f.are (follows s x f.feeds)

pub may_take : {T S : Type 0} {spells : T → List ℕ → Type 0} {g : List Entry} {rules : Rules T} {Made : List (Step T) → S → Type 0} {old new : Parsing} {made : S} {item : Option Item} {p : Placed T} {acts : List ℕ} → CanStand g rules Made old made item → (spelling : List ℕ) × spells p.token spelling → Fed g rules old new p.token acts → MayTake spells g rules Made made acts (Some p)
may_take can spelled f = record {
  steps = can.steps;
  made_by = can.stands.made_by;
  follow = fed_follows can.stands f;
  spelled = spelled;
}

-- ---- the end

-- the end was fed, with these last acts
pub record FedEnd (g : List Entry) (old new : Parsing) (acts : List ℕ) : Type 0 where
  pub before : List ℕ
  pub after : List ℕ
  pub ends : parsing.Ends g old before new after
  pub are : ends.given ≡ acts

pub was_ended : {g : List Entry} {old new : Parsing} {before after : List ℕ} → parsing.Ends g old before new after → before ≡ [] → (acts : List ℕ) → acts ≡ after → FedEnd g old new acts
was_ended {before = before} {after = after} f none acts e = record { before = before; after = after; ends = f; are = sym (e ∙ f.added ∙ ap (λ (l : List ℕ). l ++ f.given) none) }

pub end_follows : {T S : Type 0} {g : List Entry} {rules : Rules T} {Made : List (Step T) → S → Type 0} {old new : Parsing} {made : S} {item : Option Item} {steps : List (Step T)} {acts : List ℕ} → Stands g rules Made old made item steps → FedEnd g old new acts → MayFollow g rules (events_of steps) acts None
end_follows {g = g} {rules = rules} {steps = steps} {acts = acts} s f = record {
  classes = map rules.class (plain steps);
  rest = [];
  derives =
      subst (λ (es : List (Event ℕ)). Derives g (Rule rules.document ∷ []) (map rules.class (plain steps)) (map (lower rules.class) (events_of steps) ++ es)) (ap (λ (l : List ℕ). map Do l) f.are ∙ sym (append-nil (map Do acts)))
      (fed_ends s.fed.fed f.ends);
  comes = refl;
}

pub may_end : {T S : Type 0} {spells : T → List ℕ → Type 0} {g : List Entry} {rules : Rules T} {Made : List (Step T) → S → Type 0} {old new : Parsing} {made : S} {item : Option Item} {acts : List ℕ} → CanStand g rules Made old made item → FedEnd g old new acts → MayTake spells g rules Made made acts None
may_end can f = record {
  steps = can.steps;
  made_by = can.stands.made_by;
  follow = end_follows can.stands f;
  spelled = tt;
}

pub ends_so : {T S : Type 0} {g : List Entry} {rules : Rules T} {Made : List (Step T) → S → Type 0} {Whole : List (Step T) → List ℕ → S → Type 0} {old new : Parsing} {made other : S} {item : Option Item} {steps : List (Step T)} (acts : List ℕ) → Stands g rules Made old made item steps → FedEnd g old new acts → Whole steps acts other → ((fault : TokenFault) → rules.Bars steps acts None fault → ⊥) → Ends g rules Whole other steps
ends_so {g = g} {rules = rules} {steps = steps} acts s f by free = record {
  acts = acts;
  derives = subst (λ (l : List ℕ). DerivesOf rules.class g (Rule rules.document ∷ []) (plain steps) (events_of steps ++ map Do l)) f.are (tokens_derive s.fed f.ends);
  made_by = by;
  free = free;
}

-- ---- one step more

item_last : {T : Type 0} (rules : Rules T) (before : Option Item) (steps : List (Step T)) (s : Step T) → last_item_from rules before (steps ++ s ∷ []) ≡ Some (item_with rules (last_item_from rules before steps) s)
item_last rules before [] s = refl
item_last rules before (r ∷ steps) s = item_last rules (Some (item_with rules before r)) steps s

none_more : {T : Type 0} (rules : Rules T) (steps : List (Step T)) (s : Step T) → NoneBarred rules steps → ((f : TokenFault) → rules.Bars steps s.acts (Some s.token) f → ⊥) → NoneBarred rules (steps ++ s ∷ [])
none_more rules steps s none free before after t f e bars = elim (last_parts steps s before t after e) [
  | last front middle ↦ free f (subst (λ (l : List (Step _)). rules.Bars l s.acts (Some s.token) f) front (subst (λ (u : Step _). rules.Bars before u.acts (Some u.token) f) middle bars))
  | sooner back parts ↦ none before back t f parts bars
]

pub stands_more : {T S : Type 0} {g : List Entry} {rules : Rules T} {Made : List (Step T) → S → Type 0} {old new : Parsing} {made other : S} {item : Option Item} {steps : List (Step T)} → Stands g rules Made old made item steps → (p : Placed T) (acts : List ℕ) → Fed g rules old new p.token acts → Made (steps ++ record { acts = acts; token = p } ∷ []) other → ((fault : TokenFault) → rules.Bars steps acts (Some p) fault → ⊥) → (last_now : Option Item) → last_now ≡ Some (item_with rules item (record { acts = acts; token = p })) → StandsWith g rules Made new other last_now steps (p ∷ [])
stands_more {T} {g = g} {rules = rules} {Made = Made} {new = new} {other = other} {steps = steps} s p acts f by free last_now e =
    let step : Step T = record { acts = acts; token = p } in
    record {
      more = step ∷ [];
      are = refl;
      stands = record {
        open_yet = f.feeds.is_open;
        fed =
            subst (λ (l : List T). FedTokens rules.class g (Rule rules.document ∷ []) l (events_of (steps ++ step ∷ [])) new.expected) (sym (map-append (λ (t : Step T). t.token.token) steps (step ∷ [])))
            (subst (λ (es : List (Event T)). FedTokens rules.class g (Rule rules.document ∷ []) (plain steps ++ p.token ∷ []) es new.expected) (sym (events-append steps (step ∷ [])))
            (subst (λ (now : List ℕ). FedTokens rules.class g (Rule rules.document ∷ []) (plain steps ++ p.token ∷ []) (events_of steps ++ (map Do now ++ Take p.token ∷ [])) new.expected) f.are
            (fed_token s.fed p.token f.feeds)));
        none_barred = none_more rules steps step s.none_barred free;
        made_by = by;
        last_is = e ∙ ap (λ (i : Option Item). Some (item_with rules i step)) s.last_is ∙ sym (item_last rules None steps step);
      };
    }
