use Rattle.std.proofs.Common.{ℕ, List, codes, refl, subst}
use Rattle.owl_atom.specs.Prefixes.{expansion}
use Rattle.owl_characters.proofs.AsciiLaws.{ascii_chars}
use Rattle.owl_reader.specs.Computing.{Computes}
use Rattle.man_grammar.specs.States.{known_iri}
use Rattle.man_read.proofs.names.Names.expand_word.Goals as goal

pub returns : goal.returns
returns c = λ names h.
    subst (λ (prefix : List ℕ). Computes c.expand.result (known_iri (expansion names.prefixes prefix c.args.word.now))) (ascii_chars (codes "") refl) (c.expand.ensures names h)
