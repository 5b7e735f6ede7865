-- The heads of documents that are read as the same are the same.
use Rattle.std.proofs.Common.{ℕ, zero, suc, List, [], ◌∷◌}
use Rattle.owl_close.proofs.ImportsLaws.{AreAlike}
use Rattle.owl_close.proofs.UnreachedLaws.{AreAlikeBut}
use Rattle.owl_documents.specs.Documents.{Parsed}
use Rattle.owl_documents.specs.OneWay.{AreSame}
use Rattle.owl_answer.specs.Outcome.{heads_in}
use Rattle.owl_answer.specs.Unreached.{AreSameBut}
use Rattle.owl_answer.proofs.Same.{parsed_back, same_head}

pub alike : (ds es : List Parsed) → AreSame ds es → AreAlike (heads_in ds) (heads_in es)
alike [] [] s = tt
alike [] (e ∷ es) s = absurd s
alike (d ∷ ds) [] s = absurd s
alike (d ∷ ds) (e ∷ es) s = (same_head d e s.0, alike ds es s.1)

-- but at one place
pub alike_but : (place : ℕ) (ds es : List Parsed) → AreSameBut place ds es → AreAlikeBut place (heads_in ds) (heads_in es)
alike_but place [] es s = absurd s
alike_but place (d ∷ ds) [] s = absurd s
alike_but zero (d ∷ ds) (e ∷ es) s = alike ds es s
alike_but (suc place) (d ∷ ds) (e ∷ es) s = (same_head d e s.0, alike_but place ds es s.1)

-- the other way round
pub same_back : (ds es : List Parsed) → AreSame ds es → AreSame es ds
same_back [] [] s = tt
same_back [] (e ∷ es) s = absurd s
same_back (d ∷ ds) [] s = absurd s
same_back (d ∷ ds) (e ∷ es) s = (parsed_back d e s.0, same_back ds es s.1)

pub but_back : (place : ℕ) (ds es : List Parsed) → AreSameBut place ds es → AreSameBut place es ds
but_back place [] es s = absurd s
but_back place (d ∷ ds) [] s = absurd s
but_back zero (d ∷ ds) (e ∷ es) s = same_back ds es s
but_back (suc place) (d ∷ ds) (e ∷ es) s = (parsed_back d e s.0, but_back place ds es s.1)
