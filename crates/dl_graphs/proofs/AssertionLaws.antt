-- Laws of assertions in an arena.
use Rattle.std.proofs.Common.{◌≡◌, ◌<◌, ◌≤◌, ℕ, true, false, List, [], ◌∷◌, Option, None, Some, length, get_or, refl, sym, ap, ◌∙◌, subst, arith}
use Rattle.std.specs.List.{AllByRecursion}
use Rattle.std.proofs.lemmas.Bool.{and_parts}
use Rattle.std.proofs.lemmas.List.{length-map}
use Rattle.dl_rules.specs.Assertions.{Link, link_between, link_of, link_over}
use Rattle.dl_rules.specs.Logical.{label_in, operands}
use Rattle.dl_rules.specs.Properties.{Property, property_in}
use Rattle.owl_arena.specs.Held.{AreHeld, tree_at, trees_at}
use Rattle.owl_arena.specs.Shared.{AreShared}
use Rattle.owl_arena.proofs.HeldLaws.{entry_at}
use Rattle.owl_tree.specs.declared.row.Sort.TheVariants as sort
use Rattle.owl_tree.specs.declared.tag.Tag.{Tag}
use Rattle.owl_tree.specs.declared.tag.Tag.TheVariants as tag
use Rattle.owl_tree.specs.OrderLaws.{same_tag}
use Rattle.owl_tree.specs.Rows.{admits, is_tag, row_of}
use Rattle.owl_tree.specs.Shape.{IsShaped}
use Rattle.owl_tree.specs.Trees.{Tree, leaf, node, no_kids, kid, kids_in, kids_of, tag_of}
use Rattle.owl_tree.proofs.TreeLaws.{kids_of_list_of}
use Rattle.dl_graphs.specs.declared.links.LinkIds.{LinkIds}
use Rattle.dl_graphs.specs.Links.{IsLinkIf}
use Rattle.dl_graphs.proofs.LabelLaws.{holds_no_label}
use Rattle.owl_tree.proofs.LeafLaws.{anonymous_leaf}
use Rattle.owl_tree.proofs.TagLaws.{tags_differ}
use Rattle.dl_graphs.proofs.LinkLaws.{link_there, property_shaped}

other_links_none : (t : Tag) (ts : List Tree) → (t ≡ tag.ObjectPropertyAssertion → ⊥) → link_over t ts ≡ None
unfolding link_over
other_links_none tag.ObjectPropertyAssertion ts differs = absurd (differs refl)
other_links_none _ ts differs = refl

pub no_link_there : (ts : List Tree) (t : Tree) → (tag_of t ≡ tag.ObjectPropertyAssertion → ⊥) → IsLinkIf ts None (link_of t)
no_link_there ts t differs = subst (λ (o : Option Link). IsLinkIf ts None o) (sym (other_links_none (tag_of t) (operands t) differs)) tt

-- one that has not its three operands behind its annotations is no link
links_none : (t : Tree) → tag_of t ≡ tag.ObjectPropertyAssertion → (length (kids_in t) ≡ 4 → ⊥) → link_of t ≡ None
unfolding link_over
links_none (leaf tag.ObjectPropertyAssertion a) e differs = refl
links_none (node tag.ObjectPropertyAssertion no_kids) e differs = refl
links_none (node tag.ObjectPropertyAssertion (kid n no_kids)) e differs = refl
links_none (node tag.ObjectPropertyAssertion (kid n (kid p no_kids))) e differs = refl
links_none (node tag.ObjectPropertyAssertion (kid n (kid p (kid s no_kids)))) e differs = refl
links_none (node tag.ObjectPropertyAssertion (kid n (kid p (kid s (kid o no_kids))))) e differs = absurd (differs refl)
links_none (node tag.ObjectPropertyAssertion (kid n (kid p (kid s (kid o (kid q ks)))))) e differs = refl
links_none _ e differs = absurd (cc)

pub no_link_by : (ts : List Tree) (id : ℕ) (kids : List ℕ) → tag_of (tree_at ts id) ≡ tag.ObjectPropertyAssertion → (length kids ≡ 4 → ⊥) → trees_at ts kids ≡ kids_in (tree_at ts id) → IsLinkIf ts None (link_of (tree_at ts id))
no_link_by ts id kids e differs same =
    subst (λ (o : Option Link). IsLinkIf ts None o) (sym (links_none (tree_at ts id) e (λ l. differs (sym (length-map kids (tree_at ts)) ∙ (ap length same ∙ l))))) tt

abbrev assertion : Tree → Tree → Tree → Tree → Tree
assertion n p s o = node tag.ObjectPropertyAssertion (kid n (kid p (kid s (kid o no_kids))))

assertion_is : (t n p s o : Tree) → tag_of t ≡ tag.ObjectPropertyAssertion → n ∷ p ∷ s ∷ o ∷ [] ≡ kids_in t → t ≡ assertion n p s o
assertion_is (leaf t a) n p s o e kids = absurd (cc)
assertion_is (node t ks) n p s o e kids = let same = sym (kids_of_list_of ks) ∙ ap kids_of (sym kids) in cc

assertion_link : (n p s o : Tree) → link_of (assertion n p s o) ≡ link_between (property_in p) (label_in s) (label_in o)
unfolding link_over
assertion_link n p s o = refl

expression_shaped : (n p s o : Tree) → IsShaped (assertion n p s o) → admits sort.ObjectPropertyExpression (tag_of p) ≡ true
unfolding row_of
expression_shaped n p s o h =
    let behind = and_parts (admits sort.Notes (tag_of n)) _ h.0.row in
    (and_parts (admits sort.ObjectPropertyExpression (tag_of p)) _ behind.1).0

-- the assertion that has these kids
pub record IsAssertion (ts : List Tree) (id p s o : ℕ) : Type 0 where
  pub notes : Tree
  pub is : tree_at ts id ≡ assertion notes (tree_at ts p) (tree_at ts s) (tree_at ts o)
  pub held : AreHeld ts (p ∷ s ∷ o ∷ [])

pub assertion_by : (ts : List Tree) (id : ℕ) (kids : List ℕ) (p s o : ℕ) → id < length ts → tag_of (tree_at ts id) ≡ tag.ObjectPropertyAssertion → 4 ≤ length kids → length kids < 5 → p ≡ get_or kids 1 p → s ≡ get_or kids 2 s → o ≡ get_or kids 3 o →
    trees_at ts kids ≡ kids_in (tree_at ts id) → AllByRecursion (λ kid. kid < id) kids → IsAssertion ts id p s o
assertion_by ts id (n ∷ first ∷ second ∷ third ∷ []) p s o h e least most is_first is_second is_third kids below =
    let same : tree_at ts n ∷ tree_at ts p ∷ tree_at ts s ∷ tree_at ts o ∷ [] ≡ kids_in (tree_at ts id) = rw (is_first, is_second, is_third) kids in
    let first_below : first < id = below.1.0 in
    let second_below : second < id = below.1.1.0 in
    let third_below : third < id = below.1.1.1.0 in
    record {
      notes = tree_at ts n;
      is = assertion_is (tree_at ts id) (tree_at ts n) (tree_at ts p) (tree_at ts s) (tree_at ts o) e same;
      held = (omega arith, (omega arith, (omega arith, tt)));
    }
assertion_by ts id [] p s o h e least most is_first is_second is_third kids below = absurd (omega arith)
assertion_by ts id (n ∷ []) p s o h e least most is_first is_second is_third kids below = absurd (omega arith)
assertion_by ts id (n ∷ first ∷ []) p s o h e least most is_first is_second is_third kids below = absurd (omega arith)
assertion_by ts id (n ∷ first ∷ second ∷ []) p s o h e least most is_first is_second is_third kids below = absurd (omega arith)
assertion_by ts id (n ∷ first ∷ second ∷ third ∷ fourth ∷ more) p s o h e least most is_first is_second is_third kids below = absurd (omega arith)

module _ (ts : List Tree) (shared : AreShared ts) (id p s o : ℕ) (h : id < length ts) (a : IsAssertion ts id p s o) where
  pub its_expression : admits sort.ObjectPropertyExpression (tag_of (tree_at ts p)) ≡ true
  its_expression = expression_shaped a.notes (tree_at ts p) (tree_at ts s) (tree_at ts o) (subst IsShaped a.is (entry_at ts id shared h).shaped)

  pub its_link : (r : Option LinkIds) → IsLinkIf ts r (link_between (property_in (tree_at ts p)) (label_in (tree_at ts s)) (label_in (tree_at ts o))) → IsLinkIf ts r (link_of (tree_at ts id))
  its_link r k = subst (λ (q : Option Link). IsLinkIf ts r q) (sym (ap link_of a.is ∙ assertion_link a.notes (tree_at ts p) (tree_at ts s) (tree_at ts o))) k

-- between individuals that are anonymous

pub link_between_them : (ts : List Tree) (ids : LinkIds) → AreShared ts → AreHeld ts (ids.property ∷ ids.subject ∷ ids.object ∷ []) → admits sort.ObjectPropertyExpression (tag_of (tree_at ts ids.property)) ≡ true →
    is_tag tag.Anonymous (tag_of (tree_at ts ids.subject)) ≡ true → is_tag tag.Anonymous (tag_of (tree_at ts ids.object)) ≡ true → IsLinkIf ts (Some ids) (link_between (property_in (tree_at ts ids.property)) (label_in (tree_at ts ids.subject)) (label_in (tree_at ts ids.object)))
link_between_them ts ids shared held suits first second =
    let p = property_shaped (tree_at ts ids.property) (entry_at ts ids.property shared held.0).shaped suits in
    let s = anonymous_leaf (tree_at ts ids.subject) (entry_at ts ids.subject shared held.1.0).shaped (sym ((same_tag tag.Anonymous (tag_of (tree_at ts ids.subject))).0 first)) in
    let o = anonymous_leaf (tree_at ts ids.object) (entry_at ts ids.object shared held.1.1.0).shaped (sym ((same_tag tag.Anonymous (tag_of (tree_at ts ids.object))).0 second)) in
    link_there ts shared.one_number p.0 s.0 o.0 ids held p.1 s.1 o.1

differs_from : (t : Tag) → is_tag tag.Anonymous t ≡ false → t ≡ tag.Anonymous → ⊥
differs_from t h e = tags_differ tag.Anonymous t (is_tag tag.Anonymous t) refl h (sym e)

between_first : (p : Option Property) (s o : Option (List ℕ)) → s ≡ None → link_between p s o ≡ None
between_first None s o e = refl
between_first (Some p) None o e = refl
between_first (Some p) (Some s) o e = absurd (cc)

between_second : (p : Option Property) (s o : Option (List ℕ)) → o ≡ None → link_between p s o ≡ None
between_second None s o e = refl
between_second (Some p) None o e = refl
between_second (Some p) (Some s) None e = refl
between_second (Some p) (Some s) (Some o) e = absurd (cc)

module _ (ts : List Tree) (shared : AreShared ts) (p s o : ℕ) where
  abbrev stated : Option Link
  stated = link_between (property_in (tree_at ts p)) (label_in (tree_at ts s)) (label_in (tree_at ts o))

  pub named_subject : s < length ts → is_tag tag.Anonymous (tag_of (tree_at ts s)) ≡ false → IsLinkIf ts None stated
  named_subject h e =
      subst (λ (q : Option Link). IsLinkIf ts None q) (sym (between_first (property_in (tree_at ts p)) (label_in (tree_at ts s)) (label_in (tree_at ts o)) (holds_no_label (tree_at ts s) (entry_at ts s shared h).shaped (differs_from (tag_of (tree_at ts s)) e)))) tt

  pub named_object : o < length ts → is_tag tag.Anonymous (tag_of (tree_at ts o)) ≡ false → IsLinkIf ts None stated
  named_object h e =
      subst (λ (q : Option Link). IsLinkIf ts None q) (sym (between_second (property_in (tree_at ts p)) (label_in (tree_at ts s)) (label_in (tree_at ts o)) (holds_no_label (tree_at ts o) (entry_at ts o shared h).shaped (differs_from (tag_of (tree_at ts o)) e)))) tt
