-- What is taken one behind the other.
use Rattle.std.proofs.Common.{◌≡◌, ◌≤◌, ◌+◌, ◌*◌, ◌-◌, ℕ, false, List, [], ◌∷◌, length, map, Option, None, Some, option_map, sym, ap, ◌∙◌, subst, arith}
use Rattle.std.proofs.lemmas.List.{length-map}
use Rattle.std.proofs.lemmas.List.Sums.{sum_by-cons}
use Rattle.owl_arena.specs.Held.{tree_at, trees_at}
use Rattle.owl_tree.specs.declared.tag.Tag.{Tag}
use Rattle.owl_tree.specs.declared.tag.Tag.TheVariants as tag
use Rattle.owl_tree.specs.Rows.{is_tag}
use Rattle.owl_tree.specs.Trees.{Tree, atom_in, kids_in, tag_of}
use Rattle.rdf_meaning.specs.declared.row.Row as held
use Rattle.rdf_meaning.specs.Rows.{Row, axiom_rows, node_rows, row_seen}
use Rattle.rdf_mapping.specs.Arenas.{kids_at, tags_at}
use Rattle.rdf_mapping.specs.Drawing.{Kid, by_kids, form_of, kid_of, node_form, row_for, singles, stated_by}
use Rattle.rdf_counts.proofs.ArenaLaws.{form_at, found_row, more_kids_by_row, tags_seen}
use Rattle.rdf_counts.specs.Counts.{Takes, drawn, is_left_out, kids_drawn, statement_drawn}
use Rattle.rdf_counts.proofs.Least.{node_least, stated_least}

pub takes_none : (left n : ℕ) → Takes left (Some left) n
takes_none left n = omega arith

pub takes_fewer : (left n m : ℕ) (r : Option ℕ) → Takes left r n → n ≤ m → Takes left r m
takes_fewer left n m None t h = omega (arith, t, h)
takes_fewer left n m (Some more) t h = omega (arith, t, h)

pub takes_both : (left mid n m : ℕ) (r : Option ℕ) → Takes left (Some mid) n → Takes mid r m → Takes left r (n + m)
takes_both left mid n m None t u = omega (arith, t, u)
takes_both left mid n m (Some more) t u = omega (arith, t, u)

-- What was taken so far, and then all that is taken of the others, is taken of all.
pub record TakesOn (trees : List Tree) (start now : ℕ) (ids left : List ℕ) : Type 0 where
  pub on : (r : Option ℕ) → Takes now r (kids_drawn (kids_at trees left)) → Takes start r (kids_drawn (kids_at trees ids))

pub takes_next : (trees : List Tree) (start now new : ℕ) (ids left : List ℕ) (id : ℕ) → Takes now (Some new) (drawn (form_of (tree_at trees id))) → TakesOn trees start now ids (id ∷ left) → TakesOn trees start new ids left
takes_next trees start now new ids left id one l =
    let both = sum_by-cons (λ (k : Kid). drawn k.form) (kid_of (tree_at trees id)) (kids_at trees left) in
    record { on = λ r behind. l.on r (subst (Takes now r) (sym both) (takes_both now new _ _ r one behind)) }

-- where the first can't be taken, not all can
pub takes_out : (trees : List Tree) (start now : ℕ) (ids left : List ℕ) (id : ℕ) → Takes now None (drawn (form_of (tree_at trees id))) → TakesOn trees start now ids (id ∷ left) → Takes start None (kids_drawn (kids_at trees ids))
takes_out trees start now ids left id out l =
    let both = sum_by-cons (λ (k : Kid). drawn k.form) (kid_of (tree_at trees id)) (kids_at trees left) in
    l.on None (omega (arith, both, out))

pub takes_end : (trees : List Tree) (start now : ℕ) (ids : List ℕ) → TakesOn trees start now ids [] → Takes start (Some now) (kids_drawn (kids_at trees ids))
takes_end trees start now ids l = l.on (Some now) (takes_none now 0)

-- a tree that is drawn by a row
pub node_taken : (trees : List Tree) (id : ℕ) (ids : List ℕ) (t : Tag) (row : held.Row) (rows : List held.Row) (left : ℕ) (r : Option ℕ) → atom_in (tree_at trees id) ≡ None → trees_at trees ids ≡ kids_in (tree_at trees id) → t ≡ tag_of (tree_at trees id) → is_tag tag.FacetPair t ≡ false → map row_seen rows ≡ node_rows → option_map row_seen (Some row) ≡ row_for (map row_seen rows) t (tags_at trees ids) → Takes left r (length row.parts.now + 2 * (length ids - singles row.parts.now) + kids_drawn (kids_at trees ids)) → Takes left r (drawn (form_of (tree_at trees id)))
node_taken trees id ids t row rows left r none kids same no_facet seen found taken =
    let ks = kids_at trees ids in
    let least = node_least t ks (row_seen row) no_facet (found_row trees t ids (Some row) rows node_rows seen found) in
    let long = length-map ids (λ (i : ℕ). kid_of (tree_at trees i)) in
    let form = ap drawn (form_at trees id ids none kids ∙ ap (λ (u : Tag). node_form u ks) (sym same)) in
    takes_fewer left _ (drawn (form_of (tree_at trees id))) r taken (omega (arith, least, long, form))

-- an axiom that is drawn by a row
pub statement_taken : (trees : List Tree) (ids : List ℕ) (t : Tag) (row : held.Row) (rows : List held.Row) (left : ℕ) (r : Option ℕ) → 2 ≤ length ids → is_left_out t ≡ false → map row_seen rows ≡ axiom_rows → option_map row_seen (Some row) ≡ row_for (map row_seen rows) t (tags_at trees ids) → Takes left r (2 * (length ids - singles row.parts.now) + kids_drawn (kids_at trees ids)) → Takes left r (statement_drawn (by_kids t (kids_at trees ids)))
statement_taken trees ids t row rows left r two out seen found taken =
    let ks = kids_at trees ids in
    let is = found_row trees t ids (Some row) rows axiom_rows seen found in
    let least = stated_least t ks (row_seen row) out is in
    let long = length-map ids (λ (i : ℕ). kid_of (tree_at trees i)) in
    let said = ap statement_drawn (more_kids_by_row trees t ids two ∙ ap (λ (o : Option Row). stated_by o ks) (ap (λ (ts : List Tag). row_for axiom_rows t ts) (sym (tags_seen trees ids)) ∙ is)) in
    takes_fewer left _ (statement_drawn (by_kids t ks)) r taken (omega (arith, least, long, said))

-- where the first part can't be taken, the whole can't
pub takes_front : (left n m : ℕ) (r : Option ℕ) → r ≡ None → Takes left None n → Takes left r (n + m)
takes_front left n m r e t = subst (λ (o : Option ℕ). Takes left o (n + m)) (sym e) (omega (arith, t))
