-- What stands at parts, and what it says.
use Rattle.std.proofs.Common.{◌≡◌, ◌≤◌, ◌<◌, ℕ, false, Option, Some, None, List, [], ◌∷◌, length, refl, sym, ap, ◌∙◌, subst, arith}
use Rattle.owl_tree.specs.declared.tag.Tag.{Tag}
use Rattle.owl_tree.specs.Trees.{Tree}
use Rattle.rdf_meaning.specs.declared.row.Part.{Part}
use Rattle.rdf_meaning.specs.declared.row.Site.TheVariants as site
use Rattle.rdf_meaning.specs.Rows.{axiom_rows}
use Rattle.rdf_counts.proofs.ArenaLaws.{rows_seen}
use Rattle.rdf_forward.specs.declared.writer.Writer.{Writer}
use Rattle.rdf_mapping.specs.Drawing.{Kid, Placed, Statement, by_kids, by_triple, is_pair, linked, placed, placed_by, row_for, singles, stated_by, tags_of, unsaid}
use Rattle.rdf_mapping.specs.Notes.{Notes}
use Rattle.rdf_forward.specs.AxiomWalks.{IsPredicate, WritesStatement, said_by}
use Rattle.rdf_mapping.specs.Arenas.{kids_at, tags_at}
use Rattle.rdf_forward.specs.Walks.{TakesNone}
use Rattle.rdf_forward.proofs.Cells.{writes_nothing}

pub nothing_at : (parts : List Part) (ks : List Kid) → length parts < 1 → placed parts ks ≡ []
unfolding placed
nothing_at [] ks h = refl
nothing_at (p ∷ ps) ks h = absurd (omega (arith, h))

pub none_at : (trees : List Tree) (parts behind : List Part) (part : Part) (left : ℕ) (ids : List ℕ) → parts ≡ part ∷ behind → left ≡ singles behind → TakesNone trees part left ids → placed parts (kids_at trees ids) ≡ []
unfolding placed
none_at trees parts behind part left ids e l none =
    ap (λ (ps : List Part). placed ps (kids_at trees ids)) e
    ∙ ap (λ (n : ℕ). placed_by part.want part.place n (λ ls. placed behind ls) (kids_at trees ids)) (sym l)
    ∙ none (λ ls. placed behind ls)

pub then_is : (p : Placed) (ps qs rs : List Placed) → ps ≡ p ∷ qs → qs ≡ rs → ps ≡ p ∷ rs
then_is p ps qs rs e f = e ∙ ap (λ (l : List Placed). p ∷ l) f

pub as_unsaid : (w : Writer) (st : Statement) (sets : List Notes) → st ≡ unsaid → WritesStatement w w st sets
as_unsaid w st sets e = subst (λ (s : Statement). WritesStatement w w s sets) (sym e) (writes_nothing w)

pub as_said : (old new : Writer) (st su : Statement) (sets : List Notes) → st ≡ su → WritesStatement old new su sets → WritesStatement old new st sets
as_said old new st su sets e x = subst (λ (s : Statement). WritesStatement old new s sets) (sym e) x

-- what three parts say, of which the first is the predicate
said_of_three : (p q r : Placed) (ps qs rs ss : List Placed) (iri : Option (List ℕ)) → ps ≡ p ∷ qs → qs ≡ q ∷ rs → rs ≡ r ∷ ss → ss ≡ [] → IsPredicate p.form iri → by_triple site.OtherLink ps ≡ said_by iri q.form r.form
said_of_three p q r ps qs rs ss iri e f g h is =
    ap (by_triple site.OtherLink) (then_is p ps qs (q ∷ r ∷ []) e (then_is q qs rs (r ∷ []) f (then_is r rs ss [] g h))) ∙ is.said q.form r.form

pub not_said : (w : Writer) (p q r : Placed) (ps qs rs ss : List Placed) (iri : Option (List ℕ)) (sets : List Notes) → ps ≡ p ∷ qs → qs ≡ q ∷ rs → rs ≡ r ∷ ss → ss ≡ [] → IsPredicate p.form iri → iri ≡ None → WritesStatement w w (by_triple site.OtherLink ps) sets
not_said w p q r ps qs rs ss iri sets e f g h is none =
    as_unsaid w (by_triple site.OtherLink ps) sets (said_of_three p q r ps qs rs ss iri e f g h is ∙ ap (λ (i : Option (List ℕ)). said_by i q.form r.form) none)

pub well_said : (old new : Writer) (p q r : Placed) (ps qs rs ss : List Placed) (iri : Option (List ℕ)) (i : List ℕ) (sets : List Notes) → ps ≡ p ∷ qs → qs ≡ q ∷ rs → rs ≡ r ∷ ss → ss ≡ [] → IsPredicate p.form iri → iri ≡ Some i → WritesStatement old new (linked q.form i r.form) sets → WritesStatement old new (by_triple site.OtherLink ps) sets
well_said old new p q r ps qs rs ss iri i sets e f g h is some x =
    as_said old new (by_triple site.OtherLink ps) (linked q.form i r.form) sets (said_of_three p q r ps qs rs ss iri e f g h is ∙ ap (λ (j : Option (List ℕ)). said_by j q.form r.form) some) x

-- an axiom by its kids

pub no_kids_by_row : (trees : List Tree) (t : Tag) (ids : List ℕ) → length ids < 1 → by_kids t (kids_at trees ids) ≡ stated_by (row_for axiom_rows t (tags_at trees ids)) (kids_at trees ids)
no_kids_by_row trees t [] h = refl
no_kids_by_row trees t (i ∷ ids) h = absurd (omega (arith, h))

pub one_kid_by_row : (trees : List Tree) (t : Tag) (ids : List ℕ) → 1 ≤ length ids → length ids < 2 → is_pair t ≡ false → by_kids t (kids_at trees ids) ≡ stated_by (row_for axiom_rows t (tags_at trees ids)) (kids_at trees ids)
one_kid_by_row trees t [] h k e = absurd (omega (arith, h))
one_kid_by_row trees t (i ∷ []) h k e =
    let one : by_kids t (kids_at trees (i ∷ [])) ≡ stated_by (row_for axiom_rows t (tags_of (kids_at trees (i ∷ [])))) (kids_at trees (i ∷ [])) = rw e refl in
    one ∙ rows_seen trees t (i ∷ [])
one_kid_by_row trees t (i ∷ j ∷ ids) h k e = absurd (omega (arith, k))
