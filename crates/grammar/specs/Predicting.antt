-- The tests of a grammar: one token tells which alternative to take (the grammar is LL(1)), and each rule derives something.
use Rattle.std.specs.Prelude.{ℕ, suc, ◌+◌, ◌^◌, Bool, true, false, cond, ◌&&◌, ◌||◌, List, [], ◌∷◌, nat_lt, bit_or}
use Rattle.grammar.specs.ClassSets.{are_apart, is_within}
use Rattle.grammar.specs.Grammars.{Entry, Row, entry, has_rule}
use Rattle.grammar.specs.declared.symbol.Symbol.{Symbol}
use Rattle.grammar.specs.declared.symbol.Symbol.TheVariants.{Act, Need, Rule}

-- The end of the tokens counts as one more class behind them.
abbrev pub end_class : ℕ
end_class = 127

abbrev pub end_set : ℕ
end_set = 2 ^ 127

-- whether symbols may derive no tokens
abbrev pub empties : List Entry → List Symbol → Bool
empties g [] = true
empties g (Need c ∷ ss) = false
empties g (Act a ∷ ss) = empties g ss
empties g (Rule r ∷ ss) = (entry g r).empty && empties g ss

-- the classes with which begins what symbols derive, where these classes may follow
abbrev pub starts : List Entry → ℕ → List Symbol → ℕ
starts g more [] = more
starts g more (Need c ∷ ss) = 2 ^ c
starts g more (Act a ∷ ss) = starts g more ss
starts g more (Rule r ∷ ss) = cond (entry g r).empty (bit_or (entry g r).first (starts g more ss)) (entry g r).first

-- how many rules are expanded and acts done at most until a token is needed
abbrev pub costs : List Entry → List Symbol → ℕ
costs g [] = 0
costs g (Need c ∷ ss) = 0
costs g (Act a ∷ ss) = suc (costs g ss)
costs g (Rule r ∷ ss) = cond (entry g r).empty ((entry g r).cost + costs g ss) (entry g r).cost

-- each rule among symbols is one of the grammar, and what begins behind it is in its column, where these classes may follow all
abbrev pub are_followed : List Entry → ℕ → List Symbol → Bool
are_followed g more [] = true
are_followed g more (Need c ∷ ss) = are_followed g more ss
are_followed g more (Act a ∷ ss) = are_followed g more ss
are_followed g more (Rule r ∷ ss) = has_rule g r && (is_within (starts g more ss) (entry g r).follow && are_followed g more ss)

-- an alternative is taken at each class with which it begins, and meets the columns of its rule
abbrev pub row_test : List Entry → Entry → Row → Bool
row_test g e row =
    is_within (starts g e.follow row.symbols) row.mask
    && (is_within (starts g 0 row.symbols) e.first
    && (cond (empties g row.symbols) e.empty true
    && (nat_lt (costs g row.symbols) e.cost
    && are_followed g e.follow row.symbols)))

abbrev pub rows_test : List Entry → Entry → List Row → Bool
rows_test g e [] = true
rows_test g e (row ∷ rows) = row_test g e row && rows_test g e rows

-- no other alternative is taken where one is
abbrev pub is_apart_from : Row → List Row → Bool
is_apart_from row [] = true
is_apart_from row (other ∷ rows) = are_apart row.mask other.mask && is_apart_from row rows

abbrev pub rows_are_apart : List Row → Bool
rows_are_apart [] = true
rows_are_apart (row ∷ rows) = is_apart_from row rows && rows_are_apart rows

abbrev pub entry_test : List Entry → Entry → Bool
entry_test g e = is_within end_set e.follow && (rows_test g e e.rows && rows_are_apart e.rows)

abbrev pub entries_test : List Entry → List Entry → Bool
entries_test g [] = true
entries_test g (e ∷ es) = entry_test g e && entries_test g es

-- the first token of what is left, or its end, tells which alternative of a rule to take
unfoldable pub is_predictive : List Entry → Bool
is_predictive g = entries_test g g

-- each rule among symbols is one of the grammar, and of lower rank
abbrev pub ranks_below : List Entry → ℕ → List Symbol → Bool
ranks_below g n [] = true
ranks_below g n (Need c ∷ ss) = ranks_below g n ss
ranks_below g n (Act a ∷ ss) = ranks_below g n ss
ranks_below g n (Rule r ∷ ss) = has_rule g r && (nat_lt (entry g r).rank n && ranks_below g n ss)

abbrev pub some_ranks_below : List Entry → ℕ → List Row → Bool
some_ranks_below g n [] = false
some_ranks_below g n (row ∷ rows) = ranks_below g n row.symbols || some_ranks_below g n rows

abbrev pub all_rank : List Entry → List Entry → Bool
all_rank g [] = true
all_rank g (e ∷ es) = some_ranks_below g e.rank e.rows && all_rank g es

-- each rule derives some tokens
unfoldable pub is_productive : List Entry → Bool
is_productive g = all_rank g g
