-- What stands around what is open.
use Rattle.std.proofs.Common.{◌≡◌, List, [], ◌∷◌, ◌++◌, refl, ap, ◌∙◌}
use Rattle.ttl_grammar.specs.States.{last_nest}
use Rattle.ttl_grammar.specs.declared.node.Nest.{Nest}

last_of : (nests : List Nest) (nest : Nest) → last_nest (nests ++ nest ∷ []) ≡ nest
last_of [] nest = refl
last_of (n ∷ []) nest = refl
last_of (n ∷ m ∷ nests) nest = last_of (m ∷ nests) nest

pub last_is : (old new : List Nest) (nest : Nest) → old ≡ new ++ nest ∷ [] → last_nest old ≡ nest
last_is old new nest e = ap last_nest e ∙ last_of new nest
