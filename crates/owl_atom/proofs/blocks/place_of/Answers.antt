use Rattle.std.proofs.Common.{rules}
use Rattle.std.specs.Str.{chars}
use Rattle.std.proofs.lemmas.Fn.{always_returns_same}
use Rattle.std.proofs.lemmas.Str.{encodes-chars}
use Rattle.owl_characters.specs.Order.{text_cmp}
use Rattle.owl_atom.proofs.PrefixTables.{searched_found, searched_absent}
use Rattle.owl_atom.proofs.blocks.place_of.Goals as goal

pub returns-clause-found : goal.returns-clause-found
returns-clause-found c =
    let facts = c.binary_search_by.ensures in
    searched_found c.args.held.now (chars c.args.name.now) c.binary_search_by.result c.requires facts.bound
    (facts.position (λ prefix. text_cmp prefix.name (chars c.args.name.now)) (always_returns_same _ _ _ (λ a r f called. rw (encodes-chars c.args.name.now c.utf8.name) (search rules))))

pub returns-clause-absent : goal.returns-clause-absent
returns-clause-absent c =
    let facts = c.binary_search_by.ensures in
    searched_absent c.args.held.now (chars c.args.name.now) c.binary_search_by.result c.requires facts.bound
    (facts.position (λ prefix. text_cmp prefix.name (chars c.args.name.now)) (always_returns_same _ _ _ (λ a r f called. rw (encodes-chars c.args.name.now c.utf8.name) (search rules))))
