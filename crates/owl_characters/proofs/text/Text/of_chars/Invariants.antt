-- The text is of the characters so far.
use Rattle.std.proofs.Common.{◌≡◌, take}
use Rattle.owl_characters.proofs.text.Text.of_chars.Given as goal

abbrev pub invariant-loop-c : goal.invariant-loop-c
invariant-loop-c l = l.text ≡ take l.c-index l.chars
