-- Grammars have no rules behind their last.
use Rattle.std.proofs.Common.{◌≡◌, ℕ, ◌≤◌, List, [], length, sym, ap}
use Rattle.std.proofs.lemmas.List.{get_or_past}
use Rattle.grammar.specs.Grammars.{Entry, entry, no_entry}

pub beyond : (g : List Entry) (r : ℕ) → length g ≤ r → [] ≡ (entry g r).rows
beyond g r h = ap (λ (e : Entry). e.rows) (sym (get_or_past g r no_entry h))
