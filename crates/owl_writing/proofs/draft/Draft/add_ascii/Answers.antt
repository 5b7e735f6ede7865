use Rattle.std.proofs.Common.{◌≡◌, ◌++◌, List, ℕ, OnOk, IsErrOf, subst}
use Rattle.owl_characters.proofs.AsciiLaws.{ascii_chars}
use Rattle.owl_writing.specs.Limits.{IsTooLong}
use Rattle.owl_writing.specs.declared.fault.WriteFault.TheVariants.{TooLong}
use Rattle.owl_writing.proofs.draft.Draft.add_ascii.Goals as goal

pub returns-clause-ok : goal.returns-clause-ok
returns-clause-ok c =
    subst (λ (part : List ℕ). OnOk c.add.result (c.add.new.self ≡ c.args.self.now ++ part)) (ascii_chars c.args.part.now c.requires) c.add.ensures.ok

pub returns-clause-too_long : goal.returns-clause-too_long
returns-clause-too_long c =
    subst (λ (part : List ℕ). IsErrOf c.add.result TooLong → IsTooLong (c.args.self.now ++ part)) (ascii_chars c.args.part.now c.requires) c.add.ensures.too_long

pub returns-clause-limit : goal.returns-clause-limit
returns-clause-limit c =
    subst (λ (part : List ℕ). IsTooLong (c.args.self.now ++ part) → IsErrOf c.add.result TooLong) (ascii_chars c.args.part.now c.requires) c.add.ensures.limit
