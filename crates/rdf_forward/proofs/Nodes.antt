-- The form of a node, by its row.
use Rattle.std.proofs.Common.{◌≡◌, ◌<◌, ℕ, true, false, List, ◌∷◌, map, Option, Some, None, option_map, refl, sym, ap, ◌∙◌, arith}
use Rattle.owl_arena.specs.Held.{tree_at, trees_at}
use Rattle.owl_arena.proofs.HeldLaws.{below_later}
use Rattle.owl_tree.specs.declared.tag.Tag.{Tag}
use Rattle.owl_tree.specs.declared.tag.Tag.TheVariants as tag
use Rattle.owl_tree.specs.Rows.{is_tag}
use Rattle.owl_tree.specs.Trees.{Tree, atom_in, kids_in, tag_of}
use Rattle.rdf_meaning.specs.declared.row.Part.{Part}
use Rattle.rdf_meaning.specs.Rows.{node_rows, row_seen}
use Rattle.rdf_meaning.specs.declared.row.Row as held
use Rattle.rdf_mapping.specs.Forms.{made, no_arcs}
use Rattle.rdf_mapping.specs.Drawing.{Kid, arcs_of, facet_arcs, form_of, node_form, placed, placed_at, placed_by, row_for, singles, tags_of}
use Rattle.rdf_counts.proofs.ArenaLaws.{form_at, found_row}
use Rattle.rdf_forward.specs.declared.drawn.Drawn.{Drawn}
use Rattle.rdf_forward.specs.declared.drawn.Drawn.TheVariants as drawn
use Rattle.rdf_mapping.specs.Arenas.{kids_at, tags_at}
use Rattle.rdf_forward.specs.Walks.{IsDrawnBelow, Takes, drawn_form}
use Rattle.rdf_mapping.proofs.NodeDrawingLaws.{row_form}
use Rattle.rdf_mapping.proofs.TreeSortLaws.{facet_form}

pub no_row_form : (t : Tag) (ks : List Kid) → is_tag tag.FacetPair t ≡ false → row_for node_rows t (tags_of ks) ≡ None → node_form t ks ≡ made no_arcs
no_row_form t ks e h = rw (e, h) refl

-- What stands at parts, one by one.

pub some_placed : (trees : List Tree) (parts behind : List Part) (part : Part) (left : ℕ) (ids others : List ℕ) (d : Drawn) → parts ≡ part ∷ behind → left ≡ singles behind → Takes trees part left ids d others → placed parts (kids_at trees ids) ≡ placed_at part.place (drawn_form trees d) ∷ placed behind (kids_at trees others)
unfolding placed
some_placed trees parts behind part left ids others d e l some =
    ap (λ (ps : List Part). placed ps (kids_at trees ids)) e
    ∙ ap (λ (n : ℕ). placed_by part.want part.place n (λ ls. placed behind ls) (kids_at trees ids)) (sym l)
    ∙ some.placed (λ ls. placed behind ls)

pub drawn_below : (above many : ℕ) (d : Drawn) → above < many → IsDrawnBelow above d → IsDrawnBelow many d
drawn_below above many (drawn.Kid id) h b = omega (arith, h, b)
drawn_below above many (drawn.Trees least ids) h b = below_later ids.now above many (omega (arith, h)) b
drawn_below above many (drawn.Keys objects others) h b = (below_later objects.now above many (omega (arith, h)) b.0, below_later others.now above many (omega (arith, h)) b.1)
drawn_below above many (drawn.Class w) h b = tt
drawn_below above many drawn.True h b = tt

-- the form of a tree by its row, over the numbers of its kids

pub facet_at : (trees : List Tree) (id : ℕ) (ids : List ℕ) (t : Tag) → atom_in (tree_at trees id) ≡ None → trees_at trees ids ≡ kids_in (tree_at trees id) → t ≡ tag_of (tree_at trees id) → is_tag tag.FacetPair t ≡ true → form_of (tree_at trees id) ≡ made (facet_arcs (kids_at trees ids))
facet_at trees id ids t h e u f = form_at trees id ids h e ∙ ap (λ (v : Tag). node_form v (kids_at trees ids)) (sym u) ∙ facet_form t (kids_at trees ids) f

pub row_at : (trees : List Tree) (id : ℕ) (ids : List ℕ) (t : Tag) (row : held.Row) (rows : List held.Row) → atom_in (tree_at trees id) ≡ None → trees_at trees ids ≡ kids_in (tree_at trees id) → t ≡ tag_of (tree_at trees id) → is_tag tag.FacetPair t ≡ false → map row_seen rows ≡ node_rows → option_map row_seen (Some row) ≡ row_for (map row_seen rows) t (tags_at trees ids) → form_of (tree_at trees id) ≡ made (arcs_of (placed row.parts.now (kids_at trees ids)))
row_at trees id ids t row rows h e u f r found =
    form_at trees id ids h e ∙ ap (λ (v : Tag). node_form v (kids_at trees ids)) (sym u)
    ∙ row_form t (kids_at trees ids) (row_seen row) f (found_row trees t ids (Some row) rows node_rows r found)

pub no_row_at : (trees : List Tree) (id : ℕ) (ids : List ℕ) (t : Tag) (found : Option held.Row) (rows : List held.Row) → atom_in (tree_at trees id) ≡ None → trees_at trees ids ≡ kids_in (tree_at trees id) → t ≡ tag_of (tree_at trees id) → is_tag tag.FacetPair t ≡ false → map row_seen rows ≡ node_rows → found ≡ None → option_map row_seen found ≡ row_for (map row_seen rows) t (tags_at trees ids) → form_of (tree_at trees id) ≡ made no_arcs
no_row_at trees id ids t found rows h e u f r none is =
    form_at trees id ids h e ∙ ap (λ (v : Tag). node_form v (kids_at trees ids)) (sym u)
    ∙ no_row_form t (kids_at trees ids) f (found_row trees t ids found rows node_rows r is ∙ ap (option_map row_seen) none)
