-- What is written behind the first of some data properties leads along the rule for it.
use Rattle.std.proofs.Common.{◌≡◌, ℕ, Bool, true, false, ◌&&◌, List, [], ◌∷◌, map, Some, refl, sym, ap, ◌∙◌, subst, append_assoc, true≢false}
use Rattle.std.specs.List.{AllByRecursion}
use Rattle.std.specs.Prelude.{if◌then◌else◌}
use Rattle.std.specs.Cmp.{first_so, second_so}
use Rattle.std.proofs.lemmas.Bool.{eqb-true}
use Rattle.grammar.specs.Pages.IsIn.{first, later}
use Rattle.grammar.specs.Pages.Named.{action, part}
use Rattle.owl_characters.specs.Iri.{IsIri}
use Rattle.owl_atom.specs.declared.prefixes.Prefix.{Prefix}
use Rattle.owl_tokens.specs.declared.token.Token.{Token}
use Rattle.owl_tree.specs.declared.atom.Atom.{Atom}
use Rattle.owl_tree.specs.declared.atom.Atom.TheVariants.{Iri, Label, Literal, Number}
use Rattle.owl_tree.specs.declared.row.AtomSort.TheVariants as atom
use Rattle.owl_tree.specs.declared.row.Sort.TheVariants as sort
use Rattle.owl_tree.specs.declared.tag.Tag.{Tag}
use Rattle.owl_tree.specs.declared.tag.Tag.TheVariants as tag
use Rattle.owl_tree.specs.OrderLaws.{same_number}
use Rattle.owl_tree.specs.Rows.{Row, Leaf, admits, ends_in, fits, is_of_sort, is_tag, row_of, takes}
use Rattle.owl_tree.specs.Shape.{IsShaped}
use Rattle.owl_tree.specs.Tags.{keyword_of, number_of}
use Rattle.owl_tree.specs.Trees.{Tree, kids_of, leaf, node, tag_of}
use Rattle.fss_terms.specs.Spelling.{spelling, spellings}
use Rattle.fss_terms.specs.Terms.{AreTerms, iri_of_token}
use Rattle.fss_terms.specs.declared.term.Term.{Term}
use Rattle.fss_terms.specs.declared.term.Term.TheVariants.{Keyword, Opening, Closing, Atom as held}
use Rattle.fss_grammar.proofs.CompleteLaws.{KidGoes, Leads}
use Rattle.fss_grammar.proofs.Going.{Goes, goes_act, goes_rule, goes_then}
use Rattle.fss_grammar.proofs.GoingLaws.{goes_name}
use Rattle.fss_grammar.specs.Making.{Document}
use Rattle.owl_tree.specs.Frames.{Frame, with_kid}
use Rattle.fss_grammar.specs.Making.Kept.{iri}
use Rattle.fss_grammar.specs.Meaning.{Suits, within, within_keeping, with_kids}
use Rattle.fss_grammar.specs.Page.{Names, is_leaf, is_range_construct, tree_symbols}
use Rattle.fss_grammar.specs.Page.Rule.{after, behind, iri_part}
use Rattle.fss_grammar.proofs.PageRows.{each_tag, to_filter, to_map}
use Rattle.fss_grammar.proofs.SoundLeafLaws.{agreed}
use Rattle.fss_grammar.specs.declared.acts.Act.TheVariants.{HeldDatatype, HeldProperty, Hold}

-- ---- which trees are names

is_that : (t u : Tag) → is_tag t u ≡ true → u ≡ t
is_that t u h = sym (same_number t u (eqb-true (number_of t) (number_of u) h))

property_is : (t : Tag) → admits sort.DataPropertyExpression t ≡ true → t ≡ tag.DataProperty
unfolding admits
property_is t h = is_that tag.DataProperty t h

range_leaf : (t : Tag) → (admits sort.DataRange t && is_leaf (row_of t)) ≡ is_tag tag.Datatype t
unfolding admits row_of number_of
range_leaf tag.Class = refl
range_leaf _ = refl

rows_of_names : (row_of tag.Datatype ≡ Leaf atom.Iri) × (row_of tag.DataProperty ≡ Leaf atom.Iri)
unfolding row_of
rows_of_names = (refl, refl)

-- a tree that is the leaf of an IRI
record IsName (t : Tag) (k : Tree) : Type 0 where
  iri : List ℕ
  is : k ≡ leaf t (Iri iri)
  is_iri : IsIri iri

iri_in : (t : Tag) (a : Atom) → is_of_sort atom.Iri a ≡ true → IsShaped (leaf t a) → IsName t (leaf t a)
iri_in t (Iri i) h shaped = record { iri = i; is = refl; is_iri = shaped.1 }
iri_in t (Label l) h shaped = absurd (true≢false (sym h))
iri_in t (Literal l) h shaped = absurd (true≢false (sym h))
iri_in t (Number n) h shaped = absurd (true≢false (sym h))

no_leaf_fits : (row : Row) (ts : List Tag) → row ≡ Leaf atom.Iri → fits row ts ≡ true → ⊥
no_leaf_fits row ts e h = true≢false (sym (subst (λ r. fits r ts ≡ true) e h))

name_is : (t : Tag) → row_of t ≡ Leaf atom.Iri → (k : Tree) → IsShaped k → tag_of k ≡ t → IsName t k
name_is t e (leaf u a) shaped same =
    subst (λ v. IsName v (leaf u a)) same (iri_in u a (subst (λ row. takes row a ≡ true) (ap row_of same ∙ e) shaped.0) shaped)
name_is t e (node u ks) shaped same = let f = shaped.0 in absurd (no_leaf_fits (row_of u) _ (ap row_of same ∙ e) f.row)

-- ---- the name that is kept

-- a name stands first, without the brackets of a keyword
name_terms : (p : List Prefix) (t u : Tag) (i : List ℕ) (xs : List Token) (more : List Term) → Suits sort.DataRange t → AreTerms p xs (spelling t (leaf u (Iri i)) more) → AreTerms p xs (held (Iri i) ∷ more)
name_terms p t u i xs more suit h =
    subst (λ b. AreTerms p xs (if b then Keyword (keyword_of u) ∷ Opening ∷ held (Iri i) ∷ Closing ∷ more else held (Iri i) ∷ more)) (agreed false (is_tag tag.Declaration t) suit) h

held_goes : (p : List Prefix) (i : List ℕ) (x : Token) (xs us : List Token) (rest : Names) (f : Frame) (frames : List Frame) (d : Document) → xs ≡ x ∷ us → iri_of_token p x ≡ Some i → IsIri i → Goes p (action Hold ∷ part iri_part ∷ rest) rest xs us (within f frames d) (within_keeping (iri i) f frames d)
held_goes p i x xs us rest f frames d e stands is =
    subst (λ l. Goes p (action Hold ∷ part iri_part ∷ rest) rest l us (within f frames d) (within_keeping (iri i) f frames d)) (sym e)
    (goes_name p Hold rest x i us (within f frames d) (within_keeping (iri i) f frames d) stands (i, record { name = x; comes = refl; stands = stands }, is, refl))

datatype_leads : (p : List Prefix) (t : Tag) (k : Tree) (xs : List Token) (more : List Term) → Suits sort.DataRange t → IsName tag.Datatype k → AreTerms p xs (spelling t k more) → Leads p (λ a. part after ∷ a) (k ∷ []) xs more
datatype_leads p t k xs more suit name h =
    let i = name.iri in
    let datatype = leaf tag.Datatype (Iri i) in
    let terms = name_terms p t tag.Datatype i xs more suit (subst (λ l. AreTerms p xs (spelling t l more)) name.is h) in
    let x = terms.1 in
    subst (λ l. Leads p (λ a. part after ∷ a) (l ∷ []) xs more) (sym name.is) record {
      rest = terms.0;
      later = terms.2;
      goes =
          λ a f frames d.
          let m = within f frames d in
          let kept = within_keeping (iri i) f frames d in
          let n = within (with_kid datatype f) frames d in
          goes_rule p after (action Hold ∷ part iri_part ∷ part behind ∷ []) a xs terms.0 m n refl first
          (goes_then (held_goes p i x.0 xs terms.0 (part behind ∷ []) f frames d x.1 x.2 name.is_iri)
          (goes_rule p behind (action HeldDatatype ∷ []) [] terms.0 terms.0 kept n refl first (goes_act p HeldDatatype [] terms.0 kept n (λ next. refl))));
    }

property_leads : (p : List Prefix) (t : Tag) (k : Tree) (ts : List Tree) (xs : List Token) (more : List Term) → Suits sort.DataRange t → IsName tag.DataProperty k → AreTerms p xs (spellings t (kids_of (k ∷ ts)) more) → ((rest : List Token) → AreTerms p rest (spellings t (kids_of ts) more) → Leads p (λ a. part after ∷ a) ts rest more) → Leads p (λ a. part after ∷ a) (k ∷ ts) xs more
property_leads p t k ts xs more suit name h others =
    let i = name.iri in
    let property = leaf tag.DataProperty (Iri i) in
    let behind_it = spellings t (kids_of ts) more in
    let terms = name_terms p t tag.DataProperty i xs behind_it suit (subst (λ l. AreTerms p xs (spelling t l behind_it)) name.is h) in
    let x = terms.1 in
    let it = others terms.0 terms.2 in
    subst (λ l. Leads p (λ a. part after ∷ a) (l ∷ ts) xs more) (sym name.is) record {
      rest = it.rest;
      later = it.later;
      goes =
          λ a f frames d.
          let m = within f frames d in
          let kept = within_keeping (iri i) f frames d in
          let one = within (with_kid property f) frames d in
          let n = within (with_kids (property ∷ ts) f) frames d in
          let last = subst (λ (ks : List Tree). Goes p (part after ∷ []) [] terms.0 it.rest one (within (record f { kids = ks }) frames d)) (append_assoc f.kids (property ∷ []) ts) (it.goes [] (with_kid property f) frames d) in
          goes_rule p after (action Hold ∷ part iri_part ∷ part behind ∷ []) a xs it.rest m n refl first
          (goes_then (held_goes p i x.0 xs terms.0 (part behind ∷ []) f frames d x.1 x.2 name.is_iri)
          (goes_rule p behind (action HeldProperty ∷ part after ∷ []) [] terms.0 it.rest kept n refl (later first)
          (goes_then (goes_act p HeldProperty (part after ∷ []) terms.0 kept one (λ next. refl)) last)));
    }

-- ---- a data range that is no name

construct_passes : (b a : Bool) → b ≡ false → a ≡ true → (if b then false else a) ≡ true
construct_passes true a e h = absurd (true≢false e)
construct_passes false a e h = h

construct_leads : (p : List Prefix) (t : Tag) (k : Tree) (xs : List Token) (more : List Term) → Suits sort.DataRange t → KidGoes p t k → admits sort.DataRange (tag_of k) ≡ true → is_leaf (row_of (tag_of k)) ≡ false → AreTerms p xs (spelling t k more) → Leads p (λ a. part after ∷ a) (k ∷ []) xs more
construct_leads p t k xs more suit kid admitted no_leaf h =
    let it = kid.leads sort.DataRange xs more admitted suit h in
    let u = tag_of k in
    let passes = construct_passes (is_leaf (row_of u)) (admits sort.DataRange u) no_leaf admitted in
    let i = to_map (λ t. tree_symbols false t (row_of t)) (to_filter is_range_construct (each_tag u) passes) in
    record {
      rest = it.rest;
      later = it.later;
      goes =
          λ a f frames d.
          goes_rule p after (tree_symbols false u (row_of u)) a xs it.rest (within f frames d) (within (with_kid k f) frames d) refl (later i) (it.goes f frames d);
    }

range_leads : (p : List Prefix) (t : Tag) (k : Tree) (b : Bool) (xs : List Token) (more : List Term) → is_leaf (row_of (tag_of k)) ≡ b → Suits sort.DataRange t → KidGoes p t k → admits sort.DataRange (tag_of k) ≡ true → AreTerms p xs (spelling t k more) → Leads p (λ a. part after ∷ a) (k ∷ []) xs more
range_leads p t k false xs more e suit kid admitted h = construct_leads p t k xs more suit kid admitted e h
range_leads p t k true xs more e suit kid admitted h =
    let both : (admits sort.DataRange (tag_of k) && is_leaf (row_of (tag_of k))) ≡ true = cc in
    let same = is_that tag.Datatype (tag_of k) (sym (range_leaf (tag_of k)) ∙ both) in
    datatype_leads p t k xs more suit (name_is tag.Datatype rows_of_names.0 k kid.shaped same) h

-- ---- all that stands behind the first

pub first_property : (t u : Tag) (ts : List Tag) → ends_in sort.DataPropertyExpression sort.DataRange (t ∷ u ∷ ts) ≡ true → admits sort.DataPropertyExpression t ≡ true
first_property t u [] h = first_so (admits sort.DataPropertyExpression t) (admits sort.DataRange u) h
first_property t u (v ∷ ts) h = first_so (admits sort.DataPropertyExpression t) (ends_in sort.DataPropertyExpression sort.DataRange (u ∷ v ∷ ts)) h

pub after_leads : (p : List Prefix) (t u : Tag) (ts : List Tree) (xs : List Token) (more : List Term) → Suits sort.DataRange t → AllByRecursion (KidGoes p t) ts → ends_in sort.DataPropertyExpression sort.DataRange (u ∷ map tag_of ts) ≡ true → AreTerms p xs (spellings t (kids_of ts) more) → Leads p (λ a. part after ∷ a) ts xs more
after_leads p t u [] xs more suit kids fit h = absurd (true≢false (sym fit))
after_leads p t u (k ∷ []) xs more suit kids fit h =
    range_leads p t k (is_leaf (row_of (tag_of k))) xs more refl suit kids.0 (second_so (admits sort.DataPropertyExpression u) (admits sort.DataRange (tag_of k)) fit) h
after_leads p t u (k ∷ l ∷ ts) xs more suit kids fit h =
    let others = second_so (admits sort.DataPropertyExpression u) (ends_in sort.DataPropertyExpression sort.DataRange (tag_of k ∷ tag_of l ∷ map tag_of ts)) fit in
    let kid = kids.0 in
    let name = name_is tag.DataProperty rows_of_names.1 k kid.shaped (property_is (tag_of k) (first_property (tag_of k) (tag_of l) (map tag_of ts) others)) in
    property_leads p t k (l ∷ ts) xs more suit name h (λ rest g. after_leads p t (tag_of k) (l ∷ ts) rest more suit kids.1 others g)
