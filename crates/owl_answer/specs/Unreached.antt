-- What a document says that the main one does not reach changes nothing.
use Rattle.std.specs.Prelude.{ℕ, zero, suc, List, [], ◌∷◌}
use Rattle.owl_close.specs.Imports.{Reaches}
use Rattle.owl_command.specs.Commands.{Request}
use Rattle.owl_documents.specs.Documents.{Parsed}
use Rattle.owl_documents.specs.OneWay.{AreSame, IsSameParsed}
use Rattle.owl_answer.specs.Outcome.{heads_in}
use Rattle.owl_answer.specs.Runs.{Concludes}
use Rattle.owl_answer.specs.UnderKinds.{IsOfMain}
use Rattle.owl_messages.specs.Outcome.{Outcome}

-- one by one the same, but at this place
abbrev pub AreSameBut : ℕ → List Parsed → List Parsed → Type 0
AreSameBut place [] others = ⊥
AreSameBut place (d ∷ ds) [] = ⊥
AreSameBut zero (d ∷ ds) (e ∷ es) = AreSame ds es
AreSameBut (suc place) (d ∷ ds) (e ∷ es) = IsSameParsed d e × AreSameBut place ds es

-- the main document reaches it
abbrev pub IsReachedAt : List Parsed → ℕ → Type 0
IsReachedAt documents place = Reaches (heads_in documents) place

abbrev pub UnreachedChangeNothing : Type 0
UnreachedChangeNothing =
    (request : Request) (place : ℕ) (documents others : List Parsed) (outcome : Outcome) → IsOfMain request → AreSameBut place documents others → (IsReachedAt documents place → ⊥) → (IsReachedAt others place → ⊥) → Concludes request documents outcome → Concludes request others outcome
