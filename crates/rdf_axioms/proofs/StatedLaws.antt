-- How an axiom of a normal form is stated: by a row that its kids fit, or, if it is a set of one, from its member to itself.
use Rattle.std.proofs.Common.{◌≡◌, true, false, List, [], ◌∷◌, inl, inr, refl, ap, ◌∙◌, arith}
use Rattle.std.specs.Prelude.{Contains, map, Option, Some}
use Rattle.std.proofs.lemmas.Bool.{and_parts, both_ways, cases_Bool, cond-false, cond-true}
use Rattle.owl_tree.specs.declared.tag.Tag.{Tag}
use Rattle.owl_tree.specs.Rows.{admits, is_tag}
use Rattle.owl_tree.specs.Tags.{is_axiom}
use Rattle.owl_tree.specs.Trees.{Tree, Kids, no_kids, kid, list_of, tag_of}
use Rattle.rdf_meaning.specs.declared.row.Site.{Site}
use Rattle.rdf_meaning.specs.declared.row.Site.TheVariants.{Node, TypedBy, OtherType, LinkedBy, OtherLink}
use Rattle.rdf_meaning.specs.declared.word.Word.{Word}
use Rattle.rdf_meaning.specs.Rows.{Row, axiom_rows}
use Rattle.rdf_meaning.specs.Words.{word_iri}
use Rattle.rdf_mapping.specs.Drawing.{Kid, Placed, looped, by_kids, by_triple, fit, form_of, is_pair, kid_of, kids_seen, loop_at, loop_by, placed, row_for, stated, stated_by, tags_of}
use Rattle.rdf_mapping.proofs.NodeDrawingLaws.{seen_each}
use Rattle.rdf_mapping.proofs.RowDrawingLaws.{tag_seen}
use Rattle.rdf_mapping.specs.RowForLaws.{HasRowIn}
use Rattle.rdf_mapping.specs.Spelling.{is_at_node}
use Rattle.rdf_mapping.proofs.TreeDrawingLaws.{tags_each}
use Rattle.rdf_axioms.specs.AxiomRows.{CanBehind, HasPairRow, axiom_row, member, members_fit, pair_row_twice}
use Rattle.rdf_axioms.proofs.PlacedLaws.{tags_seen}

-- these kids stand behind the annotations
pub data IsStated (t : Tag) (ks : Kids) : Type 0 where
  by_row : (r : Row) → Contains axiom_rows r → is_tag r.tag t ≡ true → fit r.parts (tags_of (map kid_of (list_of ks))) ≡ true →
      by_kids t (kids_seen ks) ≡ stated r.site (placed r.parts (map kid_of (list_of ks))) → IsStated t ks
  as_loop : (u : Tree) (p : HasPairRow t (tag_of u)) → is_pair t ≡ true → ks ≡ kid u no_kids → admits (member t) (tag_of u) ≡ true →
      by_kids t (kids_seen ks) ≡ looped (word_iri p.word) (form_of u) → IsStated t ks

-- kids of which no set of one makes a loop
rowed : (t : Tag) (ks : Kids) → by_kids t (kids_seen ks) ≡ stated_by (row_for axiom_rows t (tags_of (kids_seen ks))) (kids_seen ks) → HasRowIn axiom_rows t (map tag_of (list_of ks)) → IsStated t ks
rowed t ks e r =
    let is : row_for axiom_rows t (tags_of (kids_seen ks)) ≡ Some r.row = ap (row_for axiom_rows t) (tags_each ks) ∙ r.is in
    by_row r.row r.among r.tag (ap (fit r.row.parts) (tags_seen (list_of ks)) ∙ r.fits)
    (e ∙ ap (λ (o : Option Row). stated_by o (kids_seen ks)) is ∙ ap (λ (qs : List Kid). stated r.row.site (placed r.row.parts qs)) (seen_each ks))

loop_stated : (t u : Tag) (k : Kid) (p : HasPairRow t u) → is_pair t ≡ true → k.tag ≡ u → by_kids t (k ∷ []) ≡ looped (word_iri p.word) k.form
loop_stated t u k p h e =
    cond-true (is_pair t) (loop_by (row_for axiom_rows t (k.tag ∷ k.tag ∷ [])) k.form) (stated_by (row_for axiom_rows t (k.tag ∷ [])) (k ∷ [])) h
    ∙ ap (λ (v : Tag). loop_by (row_for axiom_rows t (v ∷ v ∷ [])) k.form) e
    ∙ ap (λ (o : Option Row). loop_by o k.form) p.is
    ∙ ap (λ s. loop_at s k.form) p.site

one_stated : (t : Tag) (u : Tree) → is_axiom t ≡ true → CanBehind t (tag_of u ∷ []) → IsStated t (kid u no_kids)
one_stated t u a c =
    elim (cases_Bool (is_pair t)) [
      | inl y ↦
          let suits = (and_parts (admits (member t) (tag_of u)) true (members_fit t (tag_of u ∷ []) y c.fits)).0 in
          let p = pair_row_twice t (tag_of u) y suits in
          as_loop u p y refl suits (loop_stated t (tag_of u) (kid_of u) p y (tag_seen u))
      | inr n ↦
          rowed t (kid u no_kids) (cond-false (is_pair t) _ _ n)
          (axiom_row t (tag_of u ∷ []) a c (λ y. absurd (both_ways (is_pair t) n y)))
    ]

pub axiom_stated : (t : Tag) (ks : Kids) → is_axiom t ≡ true → CanBehind t (map tag_of (list_of ks)) → IsStated t ks
axiom_stated t no_kids a c = rowed t no_kids refl (axiom_row t [] a c (λ y e. absurd (omega (arith, e))))
axiom_stated t (kid u no_kids) a c = one_stated t u a c
axiom_stated t (kid u (kid v ks)) a c =
    rowed t (kid u (kid v ks)) refl (axiom_row t (tag_of u ∷ tag_of v ∷ map tag_of (list_of ks)) a c (λ y e. absurd (omega (arith, e))))

-- Which rows state triples.

-- by its site it is told whether a row states a triple
pub stated_triple : (site : Site) (qs : List Placed) → is_at_node site ≡ false → stated site qs ≡ by_triple site qs
stated_triple (Node role) qs h = absurd (both_ways true h refl)
stated_triple (TypedBy w) qs h = refl
stated_triple OtherType qs h = refl
stated_triple (LinkedBy w) qs h = refl
stated_triple OtherLink qs h = refl

-- what links is no node
pub link_apart : (site : Site) (w : Word) → site ≡ LinkedBy w → is_at_node site ≡ false
link_apart site w e = ap is_at_node e
