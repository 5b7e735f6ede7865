-- Blocks by the number of their kids.
use Rattle.std.proofs.Common.{◌≡◌, ◌≢◌, ℕ, ◌<◌, false, List, [], ◌∷◌, ◌++◌, length, drop, Some, refl, sym, ap, ◌∙◌, arith}
use Rattle.std.specs.Prelude.{slice_get}
use Rattle.std.proofs.lemmas.List.{map-append}
use Rattle.man_text.specs.Blocks.{Block, Where, a_part, begins_with_chain, block_with, declared, entity_heading, note_subject, is_chain, frame, listed, pair, stated}
use Rattle.man_raw.specs.declared.document.RawPart.{RawPart}
use Rattle.man_raw.specs.declared.form.Form.TheVariants as form
use Rattle.man_raw.specs.declared.heading.Heading.{Heading}
use Rattle.man_raw.specs.declared.heading.Section.TheVariants as section
use Rattle.man_resolve.specs.Expressions.{Knows}
use Rattle.man_resolve.specs.declared.sentence.Sentence.{Sentence}
use Rattle.man_resolve.specs.declared.sentence.Sentence.TheVariants.{Beside, Ahead, Members, Properties, Key, Fact, Note, Word, Wrong}
use Rattle.owl_tree.specs.declared.tag.Tag.{Tag}
use Rattle.owl_tree.specs.declared.tag.Tag.TheVariants as tag
use Rattle.owl_arena.specs.Held.{tree_at}
use Rattle.owl_tree.specs.Trees.{Tree, leaf, node, tag_of}
use Rattle.written_trees.specs.Written.{written_form}
use Rattle.written_trees.proofs.WrittenLaws.{written_tag}
use Rattle.man_write.specs.declared.manner.Manner.TheVariants as manner
use Rattle.man_write.specs.Parts.{forms_at, kids_at}
use Rattle.man_write.specs.Plans.{bare, form_at, is_chain_node, manner_of, stated_as, stated_at}

-- numbers by their places
pub two_ids : (ids : List ℕ) (a b : ℕ) → length ids ≡ 2 → slice_get ids 0 ≡ Some a → slice_get ids 1 ≡ Some b → ids ≡ a ∷ b ∷ []
two_ids (x ∷ y ∷ []) a b l e f = cc
two_ids [] a b l e f = absurd (cc)
two_ids (x ∷ []) a b l e f = absurd (cc)
two_ids (x ∷ y ∷ z ∷ ids) a b l e f = absurd (omega (arith, l))

pub three_ids : (ids : List ℕ) (a b d : ℕ) → length ids ≡ 3 → slice_get ids 0 ≡ Some a → slice_get ids 1 ≡ Some b → slice_get ids 2 ≡ Some d → ids ≡ a ∷ b ∷ d ∷ []
three_ids (x ∷ y ∷ z ∷ []) a b d l e f g = cc
three_ids [] a b d l e f g = absurd (cc)
three_ids (x ∷ []) a b d l e f g = absurd (cc)
three_ids (x ∷ y ∷ []) a b d l e f g = absurd (cc)
three_ids (x ∷ y ∷ z ∷ u ∷ ids) a b d l e f g = absurd (omega (arith, l))

pub four_ids : (ids : List ℕ) (a b d e : ℕ) → length ids ≡ 4 → slice_get ids 0 ≡ Some a → slice_get ids 1 ≡ Some b → slice_get ids 2 ≡ Some d → slice_get ids 3 ≡ Some e → ids ≡ a ∷ b ∷ d ∷ e ∷ []
four_ids (x ∷ y ∷ z ∷ u ∷ []) a b d e l p q r s = cc
four_ids [] a b d e l p q r s = absurd (cc)
four_ids (x ∷ []) a b d e l p q r s = absurd (cc)
four_ids (x ∷ y ∷ []) a b d e l p q r s = absurd (cc)
four_ids (x ∷ y ∷ z ∷ []) a b d e l p q r s = absurd (cc)
four_ids (x ∷ y ∷ z ∷ u ∷ v ∷ ids) a b d e l p q r s = absurd (omega (arith, l))

pub first_id : (ids : List ℕ) (a : ℕ) → slice_get ids 0 ≡ Some a → ids ≡ a ∷ drop 1 ids
first_id [] a e = absurd (cc)
first_id (x ∷ ids) a e = cc

pub first_ids : (ids : List ℕ) (a b : ℕ) → slice_get ids 0 ≡ Some a → slice_get ids 1 ≡ Some b → ids ≡ a ∷ b ∷ drop 2 ids
first_ids [] a b e f = absurd (cc)
first_ids (x ∷ []) a b e f = absurd (cc)
first_ids (x ∷ y ∷ ids) a b e f = cc

module _ (trees : List Tree) (w : Where) (t : Tag) where
  pub not_beside : (ids : List ℕ) → length ids ≢ 3 → bare w ≡ stated_as manner.Beside w t (forms_at trees ids)
  not_beside [] h = refl
  not_beside (x ∷ []) h = refl
  not_beside (x ∷ y ∷ []) h = refl
  not_beside (x ∷ y ∷ z ∷ []) h = absurd (h refl)
  not_beside (x ∷ y ∷ z ∷ u ∷ ids) h = refl

  pub not_ahead : (ids : List ℕ) → length ids ≢ 3 → bare w ≡ stated_as manner.Ahead w t (forms_at trees ids)
  not_ahead [] h = refl
  not_ahead (x ∷ []) h = refl
  not_ahead (x ∷ y ∷ []) h = refl
  not_ahead (x ∷ y ∷ z ∷ []) h = absurd (h refl)
  not_ahead (x ∷ y ∷ z ∷ u ∷ ids) h = refl

  pub not_union : (ids : List ℕ) → length ids < 2 → stated_as manner.Members w t (forms_at trees ids) ≡ stated_as manner.Union w t (forms_at trees ids)
  not_union [] h = refl
  not_union (x ∷ []) h = refl
  not_union (x ∷ y ∷ ids) h = absurd (omega (arith, h))

  pub not_members : (ids : List ℕ) → length ids < 1 → bare w ≡ stated_as manner.Members w t (forms_at trees ids)
  not_members [] h = refl
  not_members (x ∷ ids) h = absurd (omega (arith, h))

  pub not_key : (ids : List ℕ) → length ids ≢ 4 → bare w ≡ stated_as manner.Key w t (forms_at trees ids)
  not_key [] h = refl
  not_key (x ∷ []) h = refl
  not_key (x ∷ y ∷ []) h = refl
  not_key (x ∷ y ∷ z ∷ []) h = refl
  not_key (x ∷ y ∷ z ∷ u ∷ []) h = absurd (h refl)
  not_key (x ∷ y ∷ z ∷ u ∷ v ∷ ids) h = refl

  pub not_fact : (ids : List ℕ) → length ids ≢ 4 → bare w ≡ stated_as manner.Fact w t (forms_at trees ids)
  not_fact [] h = refl
  not_fact (x ∷ []) h = refl
  not_fact (x ∷ y ∷ []) h = refl
  not_fact (x ∷ y ∷ z ∷ []) h = refl
  not_fact (x ∷ y ∷ z ∷ u ∷ []) h = absurd (h refl)
  not_fact (x ∷ y ∷ z ∷ u ∷ v ∷ ids) h = refl

  pub not_word : (ids : List ℕ) → length ids ≢ 2 → bare w ≡ stated_as manner.Word w t (forms_at trees ids)
  not_word [] h = refl
  not_word (x ∷ []) h = refl
  not_word (x ∷ y ∷ []) h = absurd (h refl)
  not_word (x ∷ y ∷ z ∷ ids) h = refl

-- a sentence takes kids in its manner
pub in_manner : (w : Where) (s : Sentence) (t : Tag) (ts : List Tree) → stated w s t ts ≡ stated_as (manner_of s) w t ts
in_manner w (Beside u p) t [] = refl
in_manner w (Beside u p) t (a ∷ []) = refl
in_manner w (Beside u p) t (a ∷ b ∷ []) = refl
in_manner w (Beside u p) t (a ∷ b ∷ d ∷ []) = refl
in_manner w (Beside u p) t (a ∷ b ∷ d ∷ e ∷ ts) = refl
in_manner w (Ahead u p) t [] = refl
in_manner w (Ahead u p) t (a ∷ []) = refl
in_manner w (Ahead u p) t (a ∷ b ∷ []) = refl
in_manner w (Ahead u p) t (a ∷ b ∷ d ∷ []) = refl
in_manner w (Ahead u p) t (a ∷ b ∷ d ∷ e ∷ ts) = refl
in_manner w (Members tag.DisjointUnion p) t [] = refl
in_manner w (Members tag.DisjointUnion p) t (a ∷ []) = refl
in_manner w (Members tag.DisjointUnion p) t (a ∷ b ∷ ts) = refl
in_manner w (Members u p) t [] = refl
in_manner w (Members u p) t (a ∷ ts) = refl
in_manner w (Properties by) t [] = refl
in_manner w (Properties by) t (a ∷ ts) = refl
in_manner w Key t [] = refl
in_manner w Key t (a ∷ []) = refl
in_manner w Key t (a ∷ b ∷ []) = refl
in_manner w Key t (a ∷ b ∷ d ∷ []) = refl
in_manner w Key t (a ∷ b ∷ d ∷ e ∷ []) = refl
in_manner w Key t (a ∷ b ∷ d ∷ e ∷ f ∷ ts) = refl
in_manner w Fact t [] = refl
in_manner w Fact t (a ∷ []) = refl
in_manner w Fact t (a ∷ b ∷ []) = refl
in_manner w Fact t (a ∷ b ∷ d ∷ []) = refl
in_manner w Fact t (a ∷ b ∷ d ∷ e ∷ []) = refl
in_manner w Fact t (a ∷ b ∷ d ∷ e ∷ f ∷ ts) = refl
in_manner w Word t [] = refl
in_manner w Word t (a ∷ []) = refl
in_manner w Word t (a ∷ b ∷ []) = refl
in_manner w Word t (a ∷ b ∷ d ∷ ts) = refl
in_manner w Note t ts = refl
in_manner w Wrong t ts = refl

pub chain_is : (t : Tree) → is_chain_node t ≡ is_chain (written_form t)
chain_is (leaf u a) = refl
chain_is (node tag.ObjectPropertyChain ks) = refl
chain_is (node u ks) = refl

pub chain_first : (trees : List Tree) (ids : List ℕ) (id : ℕ) → slice_get ids 1 ≡ Some id → is_chain_node (tree_at trees id) ≡ begins_with_chain (forms_at trees ids)
chain_first trees [] id e = absurd (cc)
chain_first trees (x ∷ []) id e = absurd (cc)
chain_first trees (x ∷ y ∷ ids) id e = let same : y ≡ id = cc in ap (λ (k : ℕ). is_chain_node (tree_at trees k)) (sym same) ∙ chain_is (tree_at trees y)

pub no_chain : (trees : List Tree) (ids : List ℕ) → length ids < 2 → false ≡ begins_with_chain (forms_at trees ids)
no_chain trees [] h = refl
no_chain trees (x ∷ []) h = refl
no_chain trees (x ∷ y ∷ ids) h = absurd (omega (arith, h))

-- declarations and annotations that have other kids
pub not_declared : (k : Knows) (trees : List Tree) (ids : List ℕ) → length ids ≢ 2 → stated_at tag.Declaration (forms_at trees ids) ≡ block_with k tag.Declaration (forms_at trees ids)
not_declared k trees [] h = refl
not_declared k trees (x ∷ []) h = refl
not_declared k trees (x ∷ y ∷ []) h = absurd (h refl)
not_declared k trees (x ∷ y ∷ z ∷ ids) h = refl

pub not_noted : (k : Knows) (trees : List Tree) (ids : List ℕ) → length ids ≢ 4 → stated_at tag.AnnotationAssertion (forms_at trees ids) ≡ block_with k tag.AnnotationAssertion (forms_at trees ids)
not_noted k trees [] h = refl
not_noted k trees (x ∷ []) h = refl
not_noted k trees (x ∷ y ∷ []) h = refl
not_noted k trees (x ∷ y ∷ z ∷ []) h = refl
not_noted k trees (x ∷ y ∷ z ∷ u ∷ []) h = absurd (h refl)
not_noted k trees (x ∷ y ∷ z ∷ u ∷ v ∷ ids) h = refl

abbrev pub block_by : Heading → Tree → List RawPart → Block
block_by h t parts = record { heading = h; subject = Some t; parts = parts }

pub declared_by : (k : Knows) (trees : List Tree) (ids : List ℕ) (id : ℕ) (h : Heading) → length ids ≡ 2 → slice_get ids 1 ≡ Some id → h ≡ entity_heading (tag_of (tree_at trees id))
    → block_by h (form_at trees id) [] ≡ block_with k tag.Declaration (forms_at trees ids)
declared_by k trees [] id h l e i = absurd (cc)
declared_by k trees (x ∷ []) id h l e i = absurd (cc)
declared_by k trees (x ∷ y ∷ []) id h l e i =
    let same : id ≡ y = cc in
    ap (λ (g : Heading). block_by g (form_at trees id) []) (i ∙ ap entity_heading (sym (written_tag (tree_at trees id)))) ∙ ap (λ (n : ℕ). declared (form_at trees n)) same
declared_by k trees (x ∷ y ∷ z ∷ ids) id h l e i = absurd (omega (arith, l))

pub noted_by : (k : Knows) (trees : List Tree) (ids : List ℕ) (a b d e : ℕ) (h : Heading) (s : Tree) → ids ≡ a ∷ b ∷ d ∷ e ∷ [] → s ≡ note_subject k (form_at trees d) → h ≡ entity_heading (tag_of (note_subject k (form_at trees d)))
    → block_by h s (a_part section.Annotations (form_at trees a) (pair form.Assertion (form_at trees b) (form_at trees e))) ≡ block_with k tag.AnnotationAssertion (forms_at trees ids)
noted_by k trees ids a b d e h s i j l =
    let parts = a_part section.Annotations (form_at trees a) (pair form.Assertion (form_at trees b) (form_at trees e)) in
    ap (λ (g : Heading). block_by g s parts) l
    ∙ ap (λ (u : Tree). block_by (entity_heading (tag_of (note_subject k (form_at trees d)))) u parts) j
    ∙ ap (λ (ns : List ℕ). block_with k tag.AnnotationAssertion (forms_at trees ns)) (sym i)

pub key_by : (trees : List Tree) (w : Where) (t : Tag) (ids : List ℕ) (a b d e : ℕ) (xs ys : List ℕ) → ids ≡ a ∷ b ∷ d ∷ e ∷ [] → forms_at trees xs ≡ kids_at trees d → forms_at trees ys ≡ kids_at trees e
    → frame w (form_at trees b) (form_at trees a) (listed (forms_at trees (xs ++ ys))) ≡ stated_as manner.Key w t (forms_at trees ids)
key_by trees w t ids a b d e xs ys i j l =
    ap (λ (ts : List Tree). frame w (form_at trees b) (form_at trees a) (listed ts)) (map-append (form_at trees) xs ys ∙ ap (λ (ts : List Tree). ts ++ forms_at trees ys) j ∙ ap (λ (ts : List Tree). kids_at trees d ++ ts) l)
    ∙ ap (λ (ns : List ℕ). stated_as manner.Key w t (forms_at trees ns)) (sym i)
