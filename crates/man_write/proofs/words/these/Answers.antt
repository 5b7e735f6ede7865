use Rattle.std.proofs.Common.{◌≡◌, ℕ, List}
use Rattle.man_text.specs.Words.{Words}
use Rattle.owl_characters.proofs.AsciiLaws.{ascii_chars}
use Rattle.man_write.proofs.words.these.Goals as goal

abbrev four : List ℕ → List ℕ → List ℕ → List ℕ → Words
four a b d e = record { front = a; first = b; others = d; last = e }

alike : (a b d e w x y z : List ℕ) → a ≡ w → b ≡ x → d ≡ y → e ≡ z → four a b d e ≡ four w x y z
alike a b d e w x y z p q r s = cc

pub returns : goal.returns
returns c =
    alike _ _ _ _ _ _ _ _ (ascii_chars c.args.front.now c.requires.front) (ascii_chars c.args.first.now c.requires.first) (ascii_chars c.args.others.now c.requires.others) (ascii_chars c.args.last.now c.requires.last)
