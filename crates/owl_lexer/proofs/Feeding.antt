-- What characters add, and what they are refused for.
use Rattle.std.proofs.Common.{◌≡◌, ℕ, zero, suc, ◌+◌, ◌<◌, ◌≤◌, Option, None, Some, List, [], ◌∷◌, ◌++◌, length, take, drop, get_or, refl, sym, ap, ◌∙◌, subst, arith}
use Rattle.std.proofs.lemmas.Grind.{get_or_default_zero}
use Rattle.std.proofs.lemmas.List.{append_assoc, append-nil, drop_all, length-append, length-drop, take-append-drop, take_all}
use Rattle.std.proofs.Math.Seq.{drop-cons}
use Rattle.std.proofs.lemmas.Str.{len_utf8_bounds}
use Rattle.owl_characters.specs.Utf8.{size}
use Rattle.owl_characters.proofs.Utf8Laws.{size_append}
use Rattle.owl_lexer.specs.declared.fault.LexFault.{LexFault}
use Rattle.owl_lexer.specs.declared.fault.LexFault.TheVariants.{BadToken, Memory}
use Rattle.owl_lexer.specs.Adding.{placed_at, tokens_of}
use Rattle.owl_lexer.specs.Automata.{Automaton}
use Rattle.owl_lexer.specs.Cutting.{Lexeme}
use Rattle.owl_lexer.specs.Giving.{Begun, EndsAt, Gives, GivesSome}
use Rattle.owl_lexer.proofs.GivingLaws.{behind_front, ends_front, ends_here, ends_some, front_of, gives_front, gives_held, some_front, some_none}
use Rattle.owl_lexer.specs.Hands.{IsFrontOf, IsReady, Refuses, Takes, begun_of}
use Rattle.owl_lexer.specs.declared.hand.Front.{Front}
use Rattle.owl_lexer.specs.declared.hand.Hand.{Hand}
use Rattle.owl_lexer.specs.declared.placed.Placed.{Placed}
use Rattle.owl_lexer.proofs.Ends.{ends_behind as end_behind}
use Rattle.owl_lexer.specs.Languages.{IsLanguage}
use Rattle.owl_lexer.proofs.Hands.{Grows, front_is_all}

-- a lexeme stands for one token at most
pub one_at_most : {T : Type 0} → (at : ℕ) (token : Option T) → length (placed_at at token) ≤ 1
one_at_most at None = omega arith
one_at_most at (Some token) = omega arith

-- a character is held

same_begun : (one other : Begun) → one.at ≡ other.at → one.held ≡ other.held → one ≡ other
same_begun one other e f = λ i. record { at = e i; held = f i }

pub takes_held : {T : Type 0} → (a : Automaton) (value : ℕ → List ℕ → Option T) (old new : Hand) (c : ℕ) (before : List (Placed T)) → IsReady a new → Grows old new c → Takes a value old (c ∷ []) before before new
takes_held a value old new c before r g =
    let size_is : length new.held.items ≡ length old.held.items + 1 = ap (λ (l : List ℕ). length l) g.held ∙ length-append old.held.items (c ∷ []) in
    let after = g.end in
    let at = g.at in
    record {
      ready = r;
      adds = record {
        given = [];
        added = sym (append-nil before);
        gives = subst (Gives a (begun_of old) (c ∷ []) []) (same_begun (record { at = old.at; held = old.held.items ++ c ∷ [] }) (begun_of new) (sym g.at) (sym g.held)) (gives_held a old.at c old.held.items);
      };
      few = omega arith;
      end = omega arith;
      ends = record { front = []; parts = sym g.held };
    }

-- memory ran out, and no lexeme was given
pub refuses_memory : {T : Type 0} → (a : Automaton) (value : ℕ → List ℕ → Option T) (old : Begun) (cs : List ℕ) (before after : List (Placed T)) (fault : LexFault) → fault ≡ Memory → after ≡ before → Refuses a value old cs before after fault
refuses_memory a value old cs before after fault e same = record {
  some = record { given = []; added = same ∙ sym (append-nil before); next = some_none a old cs };
  bad = λ ne. absurd (ne e);
}

-- no lexeme stands in front
pub refuses_here : {T : Type 0} → (a : Automaton) (value : ℕ → List ℕ → Option T) (old : Hand) (c : ℕ) (before : List (Placed T)) → IsReady a old → a.step old.state c ≡ None → IsFrontOf a old.at old.held.items None → Refuses a value (begun_of old) (c ∷ []) before before (BadToken old.at)
refuses_here a value old c before r stuck front =
    let ends = ends_here a old.at old.held.items old.state c r.leads front stuck in
    record {
      some = record { given = []; added = sym (append-nil before); next = ends_some a (begun_of old) (c ∷ []) [] (BadToken old.at) ends };
      bad = λ ne. record { given = []; added = sym (append-nil before); ends = ends };
    }

-- the longest lexeme in front was given, and nothing is in hand

pub record GivesFront {T : Type 0} (a : Automaton) (value : ℕ → List ℕ → Option T) (old mid : Hand) (front : Front) (before between : List (Placed T)) : Type 0 where
  pub old_ready : IsReady a old
  pub is : IsFrontOf a old.at old.held.items (Some front)
  pub ready : IsReady a mid
  pub begun : begun_of mid ≡ record { at = front.end; held = [] }
  pub end : mid.end ≡ front.end
  pub added : between ≡ before ++ placed_at old.at (value front.kind (take front.length old.held.items))

-- all that is held
abbrev pub all_front : Hand → ℕ → Front
all_front hand kind = record { length = length hand.held.items; state = hand.state; kind = kind; end = hand.end }

pub gives_all : {T : Type 0} → (a : Automaton) (value : ℕ → List ℕ → Option T) (spells : T → List ℕ → Type 0) → IsLanguage a value spells → (old mid : Hand) (kind : ℕ) (before between : List (Placed T)) → IsReady a old → a.kind old.state ≡ Some kind → IsReady a mid → begun_of mid ≡ record { at = old.end; held = [] } → mid.end ≡ old.end → between ≡ before ++ placed_at old.at (value kind old.held.items) → GivesFront a value old mid (all_front old kind) before between
gives_all {T = T} a value spells l old mid kind before between r e ready begun end added = record {
  old_ready = r;
  is = front_is_all a value spells l old kind r (length old.held.items) refl e;
  ready = ready;
  begun = begun;
  end = end;
  added = subst (λ (cs : List ℕ). between ≡ before ++ placed_at {T = T} old.at (value kind cs)) (sym (take_all (length old.held.items) old.held.items (omega arith))) added;
}

-- nothing stands behind all that is held
pub none_behind : (held : List ℕ) (c : ℕ) → c ∷ [] ≡ drop (length held) held ++ c ∷ []
none_behind held c = ap (λ (l : List ℕ). l ++ c ∷ []) (sym (drop_all (length held) held (omega arith)))

pub mid_is : {T : Type 0} → (a : Automaton) (value : ℕ → List ℕ → Option T) (old mid : Hand) (front : Front) (before between : List (Placed T)) → GivesFront a value old mid front before between → begun_of mid ≡ behind_front old.at old.held.items front.length
mid_is a value old mid front before between g =
    let end = g.is.1 in
    g.begun ∙ same_begun (record { at = front.end; held = [] }) (behind_front old.at old.held.items front.length) end refl

pub front_added : {T : Type 0} → (a : Automaton) (value : ℕ → List ℕ → Option T) (old mid : Hand) (front : Front) (before between after : List (Placed T)) (ys : List Lexeme) → GivesFront a value old mid front before between → after ≡ between ++ tokens_of value ys → after ≡ before ++ tokens_of value (front_of old.at old.held.items front.length front.kind ∷ ys)
front_added a value old mid front before between after ys g e =
    e ∙ ap (λ l. l ++ tokens_of value ys) g.added ∙ append_assoc before (placed_at old.at (value front.kind (take front.length old.held.items))) (tokens_of value ys)

-- how many characters stand behind the front, and how many bytes they take
pub record Parts (old : Hand) (front : Front) : Type 0 where
  pub some : 0 < front.length
  pub characters : front.length + length (drop front.length old.held.items) ≡ length old.held.items
  pub wide : old.at < front.end
  pub bytes : front.end + size (drop front.length old.held.items) ≡ old.end

some_wide : (cs : List ℕ) (count : ℕ) → 0 < count → count ≤ length cs → 0 < size (take count cs)
some_wide cs zero some within = absurd (omega arith)
some_wide [] (suc count) some within = absurd (omega arith)
some_wide (c ∷ cs) (suc count) some within = let bounds = len_utf8_bounds c in let low = bounds.0 in omega arith

pub parts_of : (a : Automaton) (old : Hand) (front : Front) → IsReady a old → IsFrontOf a old.at old.held.items (Some front) → Parts old front
parts_of a old front r is =
    let within = is.0.within in
    let end_is = is.1 in
    let behind = r.end in
    let whole : size old.held.items ≡ size (take front.length old.held.items) + size (drop front.length old.held.items) =
    ap size (sym (take-append-drop front.length old.held.items)) ∙ size_append (take front.length old.held.items) (drop front.length old.held.items) in
    let wide = some_wide old.held.items front.length is.0.some within in
    record { some = is.0.some; wide = omega arith; characters = omega (arith, length-drop front.length old.held.items); bytes = omega arith }

pub takes_front : {T : Type 0} → (a : Automaton) (value : ℕ → List ℕ → Option T) (old mid new : Hand) (front : Front) (c : ℕ) (cs : List ℕ) (before between after : List (Placed T)) → GivesFront a value old mid front before between → a.step old.state c ≡ None → cs ≡ drop front.length old.held.items ++ c ∷ [] → Takes a value mid cs between after new → Takes a value old (c ∷ []) before after new
takes_front {T = T} a value old mid new front c cs before between after g stuck is t =
    let here = g.is in
    let gives : Gives a (behind_front old.at old.held.items front.length) (drop front.length old.held.items ++ c ∷ []) t.adds.given (begun_of new) =
    subst (λ (l : List ℕ). Gives a (behind_front old.at old.held.items front.length) l t.adds.given (begun_of new)) is
    (subst (λ (b : Begun). Gives a b cs t.adds.given (begun_of new)) (mid_is a value old mid front before between g) t.adds.gives) in
    let parts = parts_of a old front g.old_ready g.is in
    let some = parts.some in
    let characters = parts.characters in
    let bytes = parts.bytes in
    let wide = parts.wide in
    let nothing : length mid.held.items ≡ 0 = ap (λ (b : Begun). length b.held) g.begun in
    let mid_at : mid.at ≡ front.end = ap (λ (b : Begun). b.at) g.begun in
    let many : length cs ≡ length (drop front.length old.held.items) + 1 = ap (λ (l : List ℕ). length l) is ∙ length-append (drop front.length old.held.items) (c ∷ []) in
    let sizes : size cs ≡ size (drop front.length old.held.items) + size (c ∷ []) = ap size is ∙ size_append (drop front.length old.held.items) (c ∷ []) in
    let one : length between ≤ length before + 1 =
    let l = ap (λ (l : List (Placed T)). length l) g.added in
    let m = length-append before (placed_at old.at (value front.kind (take front.length old.held.items))) in
    let n = one_at_most old.at (value front.kind (take front.length old.held.items)) in
    omega arith in
    let few = t.few in
    let end = t.end in
    let mid_end = g.end in
    record {
      ready = t.ready;
      adds = record {
        given = front_of old.at old.held.items front.length front.kind ∷ t.adds.given;
        added = front_added a value old mid front before between after t.adds.given g t.adds.added;
        gives = gives_front a old.at old.held.items old.state front.length front.kind c t.adds.given (begun_of new) g.old_ready.leads here.0 stuck gives;
      };
      few = omega arith;
      end = omega arith;
      ends = end_behind front.length old.held.items mid.held.items cs new.held.items c (ap (λ (b : Begun). b.held) g.begun) is t.ends;
    }

pub refuses_front : {T : Type 0} → (a : Automaton) (value : ℕ → List ℕ → Option T) (old mid : Hand) (front : Front) (c : ℕ) (cs : List ℕ) (before between after : List (Placed T)) (fault : LexFault) → GivesFront a value old mid front before between → a.step old.state c ≡ None → cs ≡ drop front.length old.held.items ++ c ∷ [] → Refuses a value (begun_of mid) cs between after fault → Refuses a value (begun_of old) (c ∷ []) before after fault
refuses_front a value old mid front c cs before between after fault g stuck is r =
    let here = g.is in
    let behind = behind_front old.at old.held.items front.length in
    let cs_is = drop front.length old.held.items ++ c ∷ [] in
    record {
      some = record {
        given = front_of old.at old.held.items front.length front.kind ∷ r.some.given;
        added = front_added a value old mid front before between after r.some.given g r.some.added;
        next = some_front a old.at old.held.items old.state front.length front.kind c r.some.given g.old_ready.leads here.0 stuck
            (subst (λ (l : List ℕ). GivesSome a behind l r.some.given) is (subst (λ (b : Begun). GivesSome a b cs r.some.given) (mid_is a value old mid front before between g) r.some.next));
      };
      bad = λ ne.
          let bad = r.bad ne in
          record {
            given = front_of old.at old.held.items front.length front.kind ∷ bad.given;
            added = front_added a value old mid front before between after bad.given g bad.added;
            ends = ends_front a old.at old.held.items old.state front.length front.kind c bad.given fault g.old_ready.leads here.0 stuck
                (subst (λ (l : List ℕ). EndsAt a behind l bad.given fault) is (subst (λ (b : Begun). EndsAt a b cs bad.given fault) (mid_is a value old mid front before between g) bad.ends));
          };
    }

-- a character in a list, what stands before it and what stands behind it
pub parted : (cs : List ℕ) (i : ℕ) → i < length cs → take i cs ++ (get_or cs i 0 ∷ [] ++ drop (suc i) cs) ≡ cs
parted cs i lt = ap (λ (l : List ℕ). take i cs ++ l) (sym (drop-cons cs i 0 lt)) ∙ take-append-drop i cs

-- the item at a place
pub item_is : (cs : List ℕ) (i x : ℕ) → i < length cs → x ≡ get_or cs i x → x ≡ get_or cs i 0
item_is cs i x lt e = e ∙ get_or_default_zero cs i x lt
