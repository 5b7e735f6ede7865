-- Rows of a table, one after another.
use Rattle.std.proofs.Common.{◌≡◌, Bool, true, false, ℕ, zero, suc, ◌+◌, ◌<◌, ◌⊎◌, inl, inr, List, [], ◌∷◌, ◌++◌, length, take, get_or, refl, sym, subst, arith}
use Rattle.std.proofs.lemmas.Bool.{both_ways}
use Rattle.std.proofs.lemmas.List.{map_more}
use Rattle.grammar.specs.ClassSets.{Has}
use Rattle.grammar.specs.Grammars.{Among, Row}
use Rattle.grammar.specs.Grammars.Among.{behind, here}
use Rattle.grammar.specs.Tables.{NoneIsTaken, row_seen, rows_seen}
use Rattle.grammar.specs.declared.table.Row as code

pub among_seen : (rows : List code.Row) (i : ℕ) (d : code.Row) → i < length rows → Among (row_seen (get_or rows i d)) (rows_seen rows)
among_seen [] i d h = absurd (omega arith)
among_seen (first ∷ rows) zero d h = here
among_seen (first ∷ rows) (suc i) d h = behind (among_seen rows i d (omega arith))

among_push : (rows : List Row) (last row : Row) → Among row (rows ++ last ∷ []) → Among row rows ⊎ (last ≡ row)
among_push [] last row here = inr refl
among_push [] last row (behind a) = elim a [ ]
among_push (first ∷ rows) last row here = inl here
among_push (first ∷ rows) last row (behind a) = elim (among_push rows last row a) [ inl b ↦ inl (behind b) | inr e ↦ inr e ]

none_push : (rows : List Row) (last : Row) (class : ℕ) → NoneIsTaken rows class → (Has last.mask class → ⊥) → NoneIsTaken (rows ++ last ∷ []) class
none_push rows last class none never = record {
  row = λ row a h. elim (among_push rows last row a) [ inl b ↦ none.row row b h | inr e ↦ never (subst (λ (r : Row). Has r.mask class) (sym e) h) ];
}

-- the test of one more row failed
pub none_more : (rows : List code.Row) (i class : ℕ) (d : code.Row) → i < length rows → NoneIsTaken (rows_seen (take i rows)) class → (test : Bool) → test ≡ false → (Has (get_or rows i d).mask class → test ≡ true) → NoneIsTaken (rows_seen (take (i + 1) rows)) class
none_more rows i class d h none test e f =
    subst (λ (l : List Row). NoneIsTaken l class) (sym (map_more row_seen rows i d h))
    (none_push (rows_seen (take i rows)) (row_seen (get_or rows i d)) class none (λ k. both_ways test e (f k)))
