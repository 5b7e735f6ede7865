-- In a grammar that passes the test the first token, or the end, predicts which alternative of a rule derives the tokens, and
-- tokens derive with the same events in each way.
use Rattle.std.proofs.Common.{◌≡◌, ℕ, zero, suc, ◌+◌, ◌^◌, ◌<◌, Bool, true, false, cond, ◌&&◌, ◌⊎◌, inl, inr, List, [], ◌∷◌, ◌++◌, get_or, refl, sym, ap, ◌∙◌, subst, arith}
use Rattle.std.specs.Prelude.{bit_or, nat_lt}
use Rattle.std.proofs.lemmas.Bool.{false≢true, ltb-true}
use Rattle.grammar.proofs.ClassSetLaws.{has_either, has_left, has_one_of, has_right, has_same, has_within}
use Rattle.grammar.specs.ClassSets.{Has, are_apart, is_within}
use Rattle.grammar.specs.Derivations.{DerivesOf, Event}
use Rattle.grammar.specs.Derivations.DerivesOf.{act, need, nothing, rule}
use Rattle.grammar.specs.Derivations.Event.{Do, Take}
use Rattle.grammar.specs.Grammars.{Among, Entry, Row, entry, has_rule, no_entry}
use Rattle.grammar.specs.Grammars.Among.{behind, here}
use Rattle.grammar.specs.Predicting.{are_followed, costs, empties, end_class, end_set, entries_test, entry_test, is_apart_from, is_predictive, row_test, rows_are_apart, rows_test, starts}
use Rattle.grammar.specs.Predictions.{AreFollowed, IsPredictive, IsPredictiveRule, MeetsColumns, Predicts, ahead}
use Rattle.grammar.specs.declared.symbol.Symbol.{Symbol}
use Rattle.grammar.specs.declared.symbol.Symbol.TheVariants.{Act, Need, Rule}

-- ---- the test

pub both : (a b : Bool) → (a && b) ≡ true → (a ≡ true) × (b ≡ true)
both true b h = (refl, h)
both false b h = absurd (false≢true h)

implied : (a b : Bool) → cond a b true ≡ true → a ≡ true → b ≡ true
implied true b h e = h
implied false b h e = absurd (false≢true e)

pub below : (m n : ℕ) → nat_lt m n ≡ true → m < n
below m n h = omega (arith, ltb-true m n h)

row_meets : (g : List Entry) (e : Entry) (row : Row) → row_test g e row ≡ true → MeetsColumns g e row
row_meets g e row test =
    let a = both (is_within (starts g e.follow row.symbols) row.mask) _ test in
    let b = both (is_within (starts g 0 row.symbols) e.first) _ a.1 in
    let c = both (cond (empties g row.symbols) e.empty true) _ b.1 in
    let d = both (nat_lt (costs g row.symbols) e.cost) _ c.1 in
    record {
      mask = has_within (starts g e.follow row.symbols) row.mask a.0;
      first = has_within (starts g 0 row.symbols) e.first b.0;
      empty = implied (empties g row.symbols) e.empty c.0;
      cost = below (costs g row.symbols) e.cost d.0;
      followed = d.1;
    }

row_among : (g : List Entry) (e : Entry) (rows : List Row) → rows_test g e rows ≡ true → (row : Row) → Among row rows → MeetsColumns g e row
row_among g e [] test row a = elim a [ ]
row_among g e (other ∷ rows) test row here = row_meets g e other (both (row_test g e other) (rows_test g e rows) test).0
row_among g e (other ∷ rows) test row (behind a) = row_among g e rows (both (row_test g e other) (rows_test g e rows) test).1 row a

apart_from : (row : Row) (rows : List Row) → is_apart_from row rows ≡ true → (c : ℕ) (other : Row) → Among other rows → Has row.mask c → Has other.mask c → ⊥
apart_from row [] test c other a h k = elim a [ ]
apart_from row (next ∷ rows) test c other here h k = has_one_of row.mask next.mask (both (are_apart row.mask next.mask) (is_apart_from row rows) test).0 c h k
apart_from row (next ∷ rows) test c other (behind a) h k = apart_from row rows (both (are_apart row.mask next.mask) (is_apart_from row rows) test).1 c other a h k

one_row : (rows : List Row) → rows_are_apart rows ≡ true → (c : ℕ) (row other : Row) → Among row rows → Among other rows → Has row.mask c → Has other.mask c → row ≡ other
one_row [] test c row other a b h k = elim a [ ]
one_row (first ∷ rows) test c row other here here h k = refl
one_row (first ∷ rows) test c row other here (behind b) h k = absurd (apart_from first rows (both (is_apart_from first rows) (rows_are_apart rows) test).0 c other b h k)
one_row (first ∷ rows) test c row other (behind a) here h k = absurd (apart_from first rows (both (is_apart_from first rows) (rows_are_apart rows) test).0 c row a k h)
one_row (first ∷ rows) test c row other (behind a) (behind b) h k = one_row rows (both (is_apart_from first rows) (rows_are_apart rows) test).1 c row other a b h k

rule_is : (g : List Entry) (e : Entry) → entry_test g e ≡ true → IsPredictiveRule g e
rule_is g e test =
    let a = both (rows_test g e e.rows) (rows_are_apart e.rows) (both (is_within end_set e.follow) _ test).1 in
    record { row = row_among g e e.rows a.0; one = one_row e.rows a.1; end = λ _. has_within end_set e.follow (both (is_within end_set e.follow) _ test).0 }

-- a rule that the grammar doesn't have
no_rule : (g : List Entry) → IsPredictiveRule g no_entry
no_rule g = record { row = λ row a. elim a [ ]; one = λ c row other a b h k. elim a [ ]; end = λ e. absurd (false≢true e) }

rules_are : (g es : List Entry) → entries_test g es ≡ true → (r : ℕ) → IsPredictiveRule g (get_or es r no_entry)
rules_are g [] test r = no_rule g
rules_are g (e ∷ es) test zero = rule_is g e (both (entry_test g e) (entries_test g es) test).0
rules_are g (e ∷ es) test (suc r) = rules_are g es (both (entry_test g e) (entries_test g es) test).1 r

pub predictive : (g : List Entry) → is_predictive g ≡ true → IsPredictive g
unfolding is_predictive
predictive g test = record { rule = rules_are g g test }

-- ---- with which classes symbols begin

starts-append : (g : List Entry) (more : ℕ) (xs ys : List Symbol) → starts g more (xs ++ ys) ≡ starts g (starts g more ys) xs
starts-append g more [] ys = refl
starts-append g more (Need c ∷ xs) ys = refl
starts-append g more (Act a ∷ xs) ys = starts-append g more xs ys
starts-append g more (Rule r ∷ xs) ys = ap (λ (n : ℕ). cond (entry g r).empty (bit_or (entry g r).first n) (entry g r).first) (starts-append g more xs ys)

-- what begins with a rule: what the rule begins with, and where it is empty what follows
rule_starts : (e : Bool) (first n c : ℕ) → Has first c → Has (cond e (bit_or first n) first) c
rule_starts true first n c h = has_left first n c h
rule_starts false first n c h = h

empty_starts : (e : Bool) (first n c : ℕ) → e ≡ true → Has n c → Has (cond e (bit_or first n) first) c
empty_starts true first n c e h = has_right first n c h
empty_starts false first n c e h = absurd (false≢true e)

rule_starts_more : (e : Bool) (first m n c : ℕ) → (Has m c → Has n c) → Has (cond e (bit_or first m) first) c → Has (cond e (bit_or first n) first) c
rule_starts_more true first m n c f h = elim (has_either first m c h) [ inl k ↦ has_left first n c k | inr k ↦ has_right first n c (f k) ]
rule_starts_more false first m n c f h = h

starts_more : (g : List Entry) (a b : ℕ) → ((c : ℕ) → Has a c → Has b c) → (xs : List Symbol) (c : ℕ) → Has (starts g a xs) c → Has (starts g b xs) c
starts_more g a b f [] c h = f c h
starts_more g a b f (Need n ∷ xs) c h = h
starts_more g a b f (Act n ∷ xs) c h = starts_more g a b f xs c h
starts_more g a b f (Rule r ∷ xs) c h = rule_starts_more (entry g r).empty (entry g r).first (starts g a xs) (starts g b xs) c (starts_more g a b f xs c) h

behind_parts : (g : List Entry) (ss xs : List Symbol) (c : ℕ) → Has (starts g end_set (xs ++ ss)) c → Has (starts g (starts g end_set ss) xs) c
behind_parts g ss xs c h = subst (λ (set : ℕ). Has set c) (starts-append g end_set xs ss) h

-- a class with which symbols begin by themselves, or behind nothing
BeginsOr : List Entry → ℕ → List Symbol → ℕ → Type 0
BeginsOr g more xs c = Has (starts g 0 xs) c ⊎ (empties g xs ≡ true) × Has more c

rule_begins_or : (g : List Entry) (more r c : ℕ) (xs : List Symbol) → (Has (starts g more xs) c → BeginsOr g more xs c) → (e : Bool) → (entry g r).empty ≡ e → Has (cond e (bit_or (entry g r).first (starts g more xs)) (entry g r).first) c → BeginsOr g more (Rule r ∷ xs) c
unfolding BeginsOr
rule_begins_or g more r c xs f false e h = inl (rule_starts (entry g r).empty (entry g r).first (starts g 0 xs) c h)
rule_begins_or g more r c xs f true e h =
    elim (has_either (entry g r).first (starts g more xs) c h) [
      | inl k ↦ inl (rule_starts (entry g r).empty (entry g r).first (starts g 0 xs) c k)
      | inr k ↦ elim (f k) [
        | inl m ↦ inl (empty_starts (entry g r).empty (entry g r).first (starts g 0 xs) c e m)
        | inr m ↦ inr (rw e m.0, m.1)
      ]
    ]

begins_or : (g : List Entry) (more : ℕ) (xs : List Symbol) (c : ℕ) → Has (starts g more xs) c → BeginsOr g more xs c
unfolding BeginsOr
begins_or g more [] c h = inr (refl, h)
begins_or g more (Need n ∷ xs) c h = inl h
begins_or g more (Act n ∷ xs) c h = begins_or g more xs c h
begins_or g more (Rule r ∷ xs) c h = rule_begins_or g more r c xs (begins_or g more xs c) (entry g r).empty refl h

-- ---- the first token

row_begins : (g : List Entry) (r : ℕ) (row : Row) → MeetsColumns g (entry g r) row → (ss : List Symbol) (c : ℕ) → BeginsOr g (starts g end_set ss) row.symbols c → Has (starts g end_set (Rule r ∷ ss)) c
unfolding BeginsOr
row_begins g r row is ss c (inl h) = rule_starts (entry g r).empty (entry g r).first (starts g end_set ss) c (is.first c h)
row_begins g r row is ss c (inr h) = empty_starts (entry g r).empty (entry g r).first (starts g end_set ss) c (is.empty h.0) h.1

-- what derives from symbols begins with one of their classes, and is empty only where they may be
pub first_class : {X : Type 0} {class_of : X → ℕ} {g : List Entry} → IsPredictive g → {ss : List Symbol} {xs : List X} {es : List (Event X)} → DerivesOf class_of g ss xs es → Has (starts g end_set ss) (ahead class_of xs)
first_class p nothing = has_same end_class
first_class {class_of = class_of} {g = g} p (need {c = c} {x = x} e d) = subst (Has (2 ^ c)) (sym e) (has_same c)
first_class p (act d) = first_class p d
first_class {class_of = class_of} {g = g} p (rule {r = r} {ss = ss} {xs = xs} row a d) =
    row_begins g r row ((p.rule r).row row a) ss (ahead class_of xs)
    (begins_or g (starts g end_set ss) row.symbols (ahead class_of xs) (behind_parts g ss row.symbols (ahead class_of xs) (first_class p d)))

-- ---- what may follow

followed_parts : (g : List Entry) (more : ℕ) (ss : List Symbol) → ((c : ℕ) → Has (starts g end_set ss) c → Has more c) → AreFollowed g ss → (xs : List Symbol) → are_followed g more xs ≡ true → AreFollowed g (xs ++ ss)
followed_parts g more ss f s [] test = s
followed_parts g more ss f s (Need c ∷ xs) test = followed_parts g more ss f s xs test
followed_parts g more ss f s (Act a ∷ xs) test = followed_parts g more ss f s xs test
followed_parts g more ss f s (Rule r ∷ xs) test =
    let a = both (has_rule g r) _ test in
    let b = both (is_within (starts g more xs) (entry g r).follow) (are_followed g more xs) a.1 in
    (a.0, λ c h. has_within (starts g more xs) (entry g r).follow b.0 c (starts_more g (starts g end_set ss) more f xs c (behind_parts g ss xs c h)), followed_parts g more ss f s xs b.1)

pub followed_row : {g : List Entry} → IsPredictive g → (r : ℕ) (ss : List Symbol) (row : Row) → Among row (entry g r).rows → AreFollowed g (Rule r ∷ ss) → AreFollowed g (row.symbols ++ ss)
followed_row {g = g} p r ss row a s = followed_parts g (entry g r).follow ss s.1 s.2 row.symbols ((p.rule r).row row a).followed

pub followed_start : {g : List Entry} → IsPredictive g → (r : ℕ) → has_rule g r ≡ true → AreFollowed g (Rule r ∷ [])
followed_start {g = g} p r known = (known, (p.rule r).end known, tt)

-- ---- prediction

-- an alternative that derives tokens is taken at the first of them
pub row_mask : {X : Type 0} {class_of : X → ℕ} {g : List Entry} → IsPredictive g → (r : ℕ) (ss : List Symbol) {xs : List X} {es : List (Event X)} → AreFollowed g (Rule r ∷ ss) → (row : Row) → Among row (entry g r).rows → DerivesOf class_of g (row.symbols ++ ss) xs es → Has row.mask (ahead class_of xs)
row_mask {class_of = class_of} {g = g} p r ss {xs = xs} s row a d =
    ((p.rule r).row row a).mask (ahead class_of xs) (starts_more g (starts g end_set ss) (entry g r).follow s.1 row.symbols (ahead class_of xs) (behind_parts g ss row.symbols (ahead class_of xs) (first_class p d)))

pub predicted : {X : Type 0} {class_of : X → ℕ} {g : List Entry} → IsPredictive g → {r : ℕ} {ss : List Symbol} {xs : List X} {es : List (Event X)} → AreFollowed g (Rule r ∷ ss) → DerivesOf class_of g (Rule r ∷ ss) xs es → Predicts class_of g r ss xs es
predicted p {r = r} {ss = ss} s (rule row a d) = record { row = row; among = a; mask = row_mask p r ss s row a d; derives = d }

-- a row that is taken at the first token derives all
pub predicted_row : {X : Type 0} {class_of : X → ℕ} {g : List Entry} → IsPredictive g → {r : ℕ} {ss : List Symbol} {xs : List X} {es : List (Event X)} → AreFollowed g (Rule r ∷ ss) → (row : Row) → Among row (entry g r).rows → Has row.mask (ahead class_of xs) → DerivesOf class_of g (Rule r ∷ ss) xs es → DerivesOf class_of g (row.symbols ++ ss) xs es
predicted_row {class_of = class_of} {g = g} p {r = r} {ss = ss} {xs = xs} {es = es} s row a mask d =
    let it = predicted p s d in
    subst (λ (row : Row). DerivesOf class_of g (row.symbols ++ ss) xs es) ((p.rule r).one (ahead class_of xs) it.row row it.among a it.mask mask) it.derives

-- ---- one way

pub one_way : {X : Type 0} {class_of : X → ℕ} {g : List Entry} → IsPredictive g → {ss : List Symbol} {xs : List X} {es fs : List (Event X)} → AreFollowed g ss → DerivesOf class_of g ss xs es → DerivesOf class_of g ss xs fs → es ≡ fs
one_way p s nothing nothing = refl
one_way {X = X} p s (need {x = x} h d) (need k e) = ap (λ (es : List (Event X)). Take x ∷ es) (one_way p s d e)
one_way {X = X} p s (act {a = a} d) (act e) = ap (λ (es : List (Event X)). Do a ∷ es) (one_way p s d e)
one_way p s (rule {r = r} {ss = ss} row a d) e = one_way p (followed_row p r ss row a s) d (predicted_row p s row a (row_mask p r ss s row a d) e)

-- ---- costs

rule_costs_append : (e a : Bool) (cost m n : ℕ) → cond e (cost + (m + cond a n 0)) cost ≡ cond e (cost + m) cost + cond (e && a) n 0
rule_costs_append true a cost m n = omega arith
rule_costs_append false a cost m n = omega arith

costs-append : (g : List Entry) (xs ys : List Symbol) → costs g (xs ++ ys) ≡ costs g xs + cond (empties g xs) (costs g ys) 0
costs-append g [] ys = omega arith
costs-append g (Need c ∷ xs) ys = refl
costs-append g (Act a ∷ xs) ys = let e = costs-append g xs ys in omega arith
costs-append g (Rule r ∷ xs) ys =
    ap (λ (n : ℕ). cond (entry g r).empty ((entry g r).cost + n) (entry g r).cost) (costs-append g xs ys)
    ∙ rule_costs_append (entry g r).empty (empties g xs) (entry g r).cost (costs g xs) (costs g ys)

costs_less : (a e : Bool) (m n k : ℕ) → (a ≡ true → e ≡ true) → m < n → m + cond a k 0 < cond e (n + k) n
costs_less true true m n k f h = omega arith
costs_less true false m n k f h = absurd (false≢true (f refl))
costs_less false true m n k f h = omega arith
costs_less false false m n k f h = omega arith

-- what a row costs is less than what its rule does
pub row_costs : {g : List Entry} → IsPredictive g → (r : ℕ) (ss : List Symbol) (row : Row) → Among row (entry g r).rows → costs g (row.symbols ++ ss) < costs g (Rule r ∷ ss)
row_costs {g = g} p r ss row a =
    let is = (p.rule r).row row a in
    let less = costs_less (empties g row.symbols) (entry g r).empty (costs g row.symbols) (entry g r).cost (costs g ss) is.empty is.cost in
    let parts = costs-append g row.symbols ss in
    omega arith
