-- None of the classes so far is taken.
use Rattle.std.proofs.Common.{[], ◌∷◌, reverse, take, ℕ}
use Rattle.std.specs.List.{All}
use Rattle.grammar.specs.Derivations.{Begins}
use Rattle.grammar.proofs.parser.Parser.takes_one_of.Given as goal

abbrev pub invariant-loop-class : goal.invariant-loop-class
invariant-loop-class g l =
    All (λ (c : ℕ). Begins g.T.Table.grammar (reverse l.self-inside.expected.items) (c ∷ []) → ⊥) (take l.class-index l.classes)
