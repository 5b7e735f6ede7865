-- How the table of Functional-Style Syntax came about; `tools/make_table.py` made it.
use Rattle.std.specs.Prelude.{[], ◌∷◌}
use Rattle.owl_lexer.proofs.TableCheckLaws.{Origin}

unfoldable pub functional_origin : Origin
functional_origin = record {
  characters = 0 ∷ 9 ∷ 10 ∷ 33 ∷ 34 ∷ 35 ∷ 37 ∷ 40 ∷ 41 ∷ 43 ∷ 45 ∷ 46 ∷ 48 ∷ 58 ∷ 60 ∷ 61 ∷ 62 ∷ 64 ∷ 65 ∷ 71 ∷ 91 ∷ 92 ∷ 94 ∷ 95 ∷ 183 ∷ 192 ∷ [];
  parents = (0, 1) ∷ (0, 4) ∷ (0, 5) ∷ (0, 7) ∷ (0, 8) ∷ (0, 12) ∷ (0, 13) ∷ (0, 14) ∷ (0, 15) ∷ (0, 17) ∷ (0, 18) ∷ (0, 22) ∷ (0, 23) ∷ (2, 4) ∷ (2, 21) ∷ (7, 6) ∷ (7, 12) ∷ (7, 21) ∷ (8, 18) ∷ (10, 18) ∷ (11, 10) ∷ (11, 11) ∷ (12, 22) ∷ (13, 10) ∷ (13, 11) ∷ (13, 13) ∷ (16, 12) ∷ (17, 6) ∷ (17, 10) ∷ (17, 11) ∷ (17, 21) ∷ (19, 13) ∷ (20, 10) ∷ (26, 12) ∷ (28, 12) ∷ (32, 16) ∷ (33, 12) ∷ (34, 10) ∷ (34, 11) ∷ [];
}
