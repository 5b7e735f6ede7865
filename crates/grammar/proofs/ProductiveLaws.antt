-- In a grammar that passes the test each rule derives some tokens.
use Rattle.std.proofs.Common.{◌≡◌, ℕ, zero, suc, ◌<◌, Bool, true, false, ◌||◌, List, [], ◌∷◌, ◌++◌, get_or, refl, arith}
use Rattle.std.proofs.lemmas.Bool.{false≢true}
use Rattle.std.specs.Prelude.{nat_lt}
use Rattle.grammar.specs.Derivations.{Lives}
use Rattle.grammar.specs.Derivations.DerivesOf.{act, need, nothing, rule}
use Rattle.grammar.specs.Derivations.Event.{Do, Take}
use Rattle.grammar.specs.Grammars.{Among, Entry, Row, entry, has_rule, no_entry}
use Rattle.grammar.specs.Grammars.Among.{behind, here}
use Rattle.grammar.specs.Predicting.{all_rank, is_productive, ranks_below, some_ranks_below}
use Rattle.grammar.specs.Predictions.{AreFollowed}
use Rattle.grammar.proofs.PredictiveLaws.{below, both}
use Rattle.grammar.specs.declared.symbol.Symbol.{Symbol}
use Rattle.grammar.specs.declared.symbol.Symbol.TheVariants.{Act, Need, Rule}

-- one of these rows has rules of lower ranks only
pub record HasLowRow (g : List Entry) (n : ℕ) (rows : List Row) : Type 0 where
  pub row : Row
  pub among : Among row rows
  pub low : ranks_below g n row.symbols ≡ true

pub record IsProductive (g : List Entry) : Type 0 where
  pub rule : (r : ℕ) → has_rule g r ≡ true → HasLowRow g (entry g r).rank (entry g r).rows

first_low : (g : List Entry) (n : ℕ) (row : Row) (rows : List Row) (b : Bool) → ranks_below g n row.symbols ≡ b → (b || some_ranks_below g n rows) ≡ true → (some_ranks_below g n rows ≡ true → HasLowRow g n rows) → HasLowRow g n (row ∷ rows)
first_low g n row rows true e h f = record { row = row; among = here; low = e }
first_low g n row rows false e h f = let it = f h in record { row = it.row; among = behind it.among; low = it.low }

low_row : (g : List Entry) (n : ℕ) (rows : List Row) → some_ranks_below g n rows ≡ true → HasLowRow g n rows
low_row g n [] h = absurd (false≢true h)
low_row g n (row ∷ rows) h = first_low g n row rows (ranks_below g n row.symbols) refl h (low_row g n rows)

rules_rank : (g es : List Entry) → all_rank g es ≡ true → (r : ℕ) → nat_lt 0 (get_or es r no_entry).cost ≡ true → HasLowRow g (get_or es r no_entry).rank (get_or es r no_entry).rows
rules_rank g [] h r known = absurd (false≢true known)
rules_rank g (e ∷ es) h zero known = low_row g e.rank e.rows (both (some_ranks_below g e.rank e.rows) (all_rank g es) h).0
rules_rank g (e ∷ es) h (suc r) known = rules_rank g es (both (some_ranks_below g e.rank e.rows) (all_rank g es) h).1 r known

pub productive : (g : List Entry) → is_productive g ≡ true → IsProductive g
unfolding is_productive
productive g h = record { rule = rules_rank g g h }

-- ---- what derives

lives_need : (g : List Entry) (c : ℕ) (ss : List Symbol) → Lives g ss → Lives g (Need c ∷ ss)
lives_need g c ss it = record { tokens = c ∷ it.tokens; events = Take c ∷ it.events; derives = need refl it.derives }

lives_act : (g : List Entry) (a : ℕ) (ss : List Symbol) → Lives g ss → Lives g (Act a ∷ ss)
lives_act g a ss it = record { tokens = it.tokens; events = Do a ∷ it.events; derives = act it.derives }

lives_rule : (g : List Entry) (r : ℕ) (ss : List Symbol) (row : Row) → Among row (entry g r).rows → Lives g (row.symbols ++ ss) → Lives g (Rule r ∷ ss)
lives_rule g r ss row a it = record { tokens = it.tokens; events = it.events; derives = rule row a it.derives }

-- symbols whose rules have lower ranks derive something in front of what lives
Fronts : List Entry → ℕ → Type 0
Fronts g n = (xs ss : List Symbol) → ranks_below g n xs ≡ true → Lives g ss → Lives g (xs ++ ss)

front_of : (g : List Entry) → IsProductive g → (n : ℕ) → ((m : ℕ) → m < n → Fronts g m) → Fronts g n
unfolding Fronts
front_of g p n f [] ss h it = it
front_of g p n f (Need c ∷ xs) ss h it = lives_need g c (xs ++ ss) (front_of g p n f xs ss h it)
front_of g p n f (Act a ∷ xs) ss h it = lives_act g a (xs ++ ss) (front_of g p n f xs ss h it)
front_of g p n f (Rule r ∷ xs) ss h it =
    let known = both (has_rule g r) _ h in
    let lower = both (nat_lt (entry g r).rank n) (ranks_below g n xs) known.1 in
    let low = p.rule r known.0 in
    lives_rule g r (xs ++ ss) low.row low.among
    (f (entry g r).rank (below (entry g r).rank n lower.0) low.row.symbols (xs ++ ss) low.low (front_of g p n f xs ss lower.1 it))

fronts_below : (g : List Entry) → IsProductive g → (n m : ℕ) → m < n → Fronts g m
fronts_below g p zero m h = absurd (omega arith)
fronts_below g p (suc n) m h = front_of g p m (λ k l. fronts_below g p n k (omega arith))

fronts : (g : List Entry) → IsProductive g → (n : ℕ) → Fronts g n
fronts g p n = fronts_below g p (suc n) n (omega arith)

-- what is expected where the tokens of a rule are taken one by one
pub lives : {g : List Entry} → IsProductive g → (ss : List Symbol) → AreFollowed g ss → Lives g ss
unfolding Fronts
lives p [] s = record { tokens = []; events = []; derives = nothing }
lives {g = g} p (Need c ∷ ss) s = lives_need g c ss (lives p ss s)
lives {g = g} p (Act a ∷ ss) s = lives_act g a ss (lives p ss s)
lives {g = g} p (Rule r ∷ ss) s =
    let low = p.rule r s.0 in
    lives_rule g r ss low.row low.among (fronts g p (entry g r).rank low.row.symbols ss low.low (lives p ss s.2))
