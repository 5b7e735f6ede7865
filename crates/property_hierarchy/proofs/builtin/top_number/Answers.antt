use Rattle.std.proofs.Common.{ℕ, List, ap, refl, ◌∙◌}
use Rattle.dl_rules.specs.Properties.{named, top_property}
use Rattle.owl_characters.proofs.AsciiLaws.{ascii_chars}
use Rattle.property_hierarchy.specs.Numbers.{number_of}
use Rattle.property_hierarchy.proofs.builtin.top_number.Goals as goal

pub returns : goal.returns
unfolding top_property
returns c = c.number_by.ensures ∙ ap (λ (iri : List ℕ). number_of c.args.arena.now.trees (named iri)) (ascii_chars _ refl)
