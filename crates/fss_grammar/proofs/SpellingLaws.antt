-- What is written behind a tree stands behind its terms.
use Rattle.std.proofs.Common.{◌≡◌, Bool, true, false, List, ◌∷◌, ◌++◌, refl, ap, ◌∙◌}
use Rattle.std.specs.Prelude.{if◌then◌else◌}
use Rattle.owl_tree.specs.declared.tag.Tag.{Tag}
use Rattle.owl_tree.specs.declared.tag.Tag.TheVariants as tag
use Rattle.owl_tree.specs.Rows.{is_bare, is_group, is_tag}
use Rattle.owl_tree.specs.Tags.{keyword_of}
use Rattle.owl_tree.specs.Trees.{Tree, Kids, leaf, node, no_kids, kid}
use Rattle.fss_terms.specs.Spelling.{closed, opened, spelling, spellings}
use Rattle.fss_terms.specs.declared.term.Term.{Term}
use Rattle.fss_terms.specs.declared.term.Term.TheVariants.{Keyword, Opening, Closing, Atom}

leaf_by : (b : Bool) (t : Tag) (held : Term) (xs ys : List Term) → (if b then Keyword (keyword_of t) ∷ Opening ∷ held ∷ Closing ∷ (xs ++ ys) else held ∷ (xs ++ ys)) ≡ (if b then Keyword (keyword_of t) ∷ Opening ∷ held ∷ Closing ∷ xs else held ∷ xs) ++ ys
leaf_by true t held xs ys = refl
leaf_by false t held xs ys = refl

opened_by : (b c : Bool) (t : Tag) (xs ys : List Term) → (if b then xs ++ ys else (if c then Opening ∷ (xs ++ ys) else Keyword (keyword_of t) ∷ Opening ∷ (xs ++ ys))) ≡ (if b then xs else (if c then Opening ∷ xs else Keyword (keyword_of t) ∷ Opening ∷ xs)) ++ ys
opened_by true c t xs ys = refl
opened_by false true t xs ys = refl
opened_by false false t xs ys = refl

closed_by : (b : Bool) (xs ys : List Term) → (if b then xs ++ ys else Closing ∷ (xs ++ ys)) ≡ (if b then xs else Closing ∷ xs) ++ ys
closed_by true xs ys = refl
closed_by false xs ys = refl

mutual
  pub spelling-append : (t : Tree) (within : Tag) (xs ys : List Term) → spelling within t (xs ++ ys) ≡ spelling within t xs ++ ys
  spelling-append (leaf t a) within xs ys = leaf_by (is_tag tag.Declaration within) t (Atom a) xs ys
  spelling-append (node t ks) within xs ys =
      ap (λ l. opened t (spellings t ks l)) (closed_by (is_bare t) xs ys)
      ∙ ap (opened t) (spellings-append ks t (closed t xs) ys)
      ∙ opened_by (is_bare t) (is_group t) t (spellings t ks (closed t xs)) ys

  pub spellings-append : (ks : Kids) (within : Tag) (xs ys : List Term) → spellings within ks (xs ++ ys) ≡ spellings within ks xs ++ ys
  spellings-append no_kids within xs ys = refl
  spellings-append (kid k ks) within xs ys =
      ap (λ l. spelling within k l) (spellings-append ks within xs ys) ∙ spelling-append k within (spellings within ks xs) ys
