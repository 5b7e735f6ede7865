-- What is written for a tree leads along the symbols of its tag: for all trees.
use Rattle.std.proofs.Common.{◌≡◌, ℕ, true, List, [], ◌∷◌, length, map, refl, sym, subst, true≢false}
use Rattle.std.specs.List.{AllByRecursion}
use Rattle.std.proofs.lemmas.Bool.{eqb-true}
use Rattle.grammar.specs.Pages.Named.{action}
use Rattle.owl_atom.specs.declared.prefixes.Prefix.{Prefix}
use Rattle.owl_tokens.specs.declared.token.Token.{Token}
use Rattle.owl_tree.specs.declared.row.Rest.{Rest}
use Rattle.owl_tree.specs.declared.row.Sort.{Sort}
use Rattle.owl_tree.specs.declared.tag.Tag.{Tag}
use Rattle.owl_tree.specs.declared.tag.Tag.TheVariants as tag
use Rattle.owl_tree.specs.OrderLaws.{same_number}
use Rattle.owl_tree.specs.Rows.{Row, Leaf, Node, fits, is_tag, row_of}
use Rattle.owl_tree.specs.Shape.{AreShaped, IsShaped}
use Rattle.owl_tree.specs.Tags.{number_of}
use Rattle.owl_tree.proofs.TreeLaws.{kids_of_list_of}
use Rattle.owl_tree.specs.Trees.{Tree, Kids, kid, kids_of, leaf, list_of, no_kids, node, tag_of}
use Rattle.fss_terms.specs.Spelling.{HasMembers, HaveMembers, closed, opened, spellings}
use Rattle.fss_terms.specs.Terms.{AreTerms}
use Rattle.fss_terms.specs.declared.term.Term.{Term}
use Rattle.fss_grammar.proofs.ActLaws.{begin}
use Rattle.fss_grammar.proofs.CompleteKidsLaws.{kids_lead}
use Rattle.fss_grammar.proofs.CompleteLaws.{KidGoes, TreeLeads, leaf_goes}
use Rattle.fss_grammar.proofs.Going.{Goes, goes_act, goes_then}
use Rattle.fss_grammar.proofs.GoingLaws.{closed_passes, opened_passes}
use Rattle.fss_grammar.specs.Making.{Document, Maker, put}
use Rattle.owl_tree.specs.Frames.{Frame}
use Rattle.fss_grammar.specs.Making.Kept.{nothing}
use Rattle.fss_grammar.specs.Meaning.{within, with_kids}
use Rattle.fss_grammar.specs.Page.{Names, closing_symbols, front_symbols, is_entity, node_symbols, opening_symbols}
use Rattle.fss_grammar.proofs.RowTests.{each_row_passes, row_test}
use Rattle.fss_grammar.proofs.SoundNodeLaws.{FitsKids, IsExact}
use Rattle.fss_grammar.specs.declared.acts.Act.TheVariants.{Begin, Shut}

-- ---- constructs

three_exact : (n : ℕ) → n ≡ 3 → IsExact (row_of tag.InverseObjectProperties) n
unfolding row_of
three_exact n e = e

exact_kids : (t : Tag) (n : ℕ) → (t ≡ tag.InverseObjectProperties → n ≡ 3) → is_tag tag.InverseObjectProperties t ≡ true → IsExact (row_of t) n
exact_kids t n three h =
    let same : t ≡ tag.InverseObjectProperties = sym (same_number tag.InverseObjectProperties t (eqb-true (number_of tag.InverseObjectProperties) (number_of t) h)) in
    subst (λ u. IsExact (row_of u) n) (sym same) (three_exact n (three same))

fits_kids : (t : Tag) (row : Row) (ks : Kids) → row_of t ≡ row → IsShaped (node t ks) → HasMembers (node t ks) → FitsKids t row (list_of ks)
fits_kids t row ks e shaped members =
    let row_fits = shaped.0 in
    subst (λ r. FitsKids t r (list_of ks)) e
    record { fit = row_fits.row; minimum = members.0; exact = exact_kids t (length (list_of ks)) members.1 }

-- a maker in front of a construct
abbrev pub outside : List Frame → Document → Maker
outside frames d = record { kept = nothing; frames = frames; document = d }

-- the tokens lead along the symbols of a construct, and behind its kids its end is written
pub record NodeLeads (p : List Prefix) (front : List Sort) (rest : Rest) (t : Tag) (ks : Kids) (xs : List Token) (more : List Term) : Type 0 where
  pub left : List Token
  pub later : AreTerms p left (closed t more)
  pub goes : (after : Names) (frames : List Frame) (d : Document) → Goes p (node_symbols t front rest after) after xs left (outside frames d) (put (node t ks) (outside frames d))

pub node_leads : (p : List Prefix) (front : List Sort) (rest : Rest) (t : Tag) (ks : Kids) (xs : List Token) (more : List Term) → row_of t ≡ Node front rest → IsShaped (node t ks) → HasMembers (node t ks) → AllByRecursion (KidGoes p t) (list_of ks) → AreTerms p xs (opened t (spellings t ks (closed t more))) → NodeLeads p front rest t ks xs more
node_leads p front rest t ks xs more e shaped members kids h =
    let opens = opened_passes p t xs (spellings t ks (closed t more)) h in
    let same = kids_of_list_of ks in
    let passes = subst (λ row. row_test t row ≡ true) e (each_row_passes t) in
    let it = kids_lead p t front rest (list_of ks) opens.rest (closed t more) passes kids (fits_kids t (Node front rest) ks e shaped members) (subst (λ l. AreTerms p opens.rest (spellings t l (closed t more))) (sym same) opens.later) in
    let keys = shaped.0 in
    record {
      left = it.rest;
      later = it.later;
      goes =
          λ after frames d.
          let m = outside frames d in
          let new : Frame = record { tag = t; kids = [] } in
          let inside = within new frames d in
          let full = within (with_kids (list_of ks) new) frames d in
          let symbols = front_symbols t front rest (action Shut ∷ after) in
          subst (λ l. Goes p (node_symbols t front rest after) after xs it.rest m (put (node t l) m)) same
          (goes_then (goes_act p (Begin t) (opening_symbols t symbols) xs m inside (λ next. begin p t next m inside e refl))
          (goes_then (opens.goes symbols inside)
          (goes_then (it.goes (action Shut ∷ after) new frames d)
          (goes_act p Shut after it.rest full (put (node t (kids_of (list_of ks))) m) (λ next. (keys.keys, refl))))));
    }

-- the row of a node
pub record IsNodeRow (row : Row) : Type 0 where
  pub front : List Sort
  pub rest : Rest
  pub row_is : row ≡ Node front rest

pub node_row : (row : Row) (ts : List Tag) → fits row ts ≡ true → IsNodeRow row
node_row (Leaf c) ts h = absurd (true≢false (sym h))
node_row (Node front rest) ts h = record { front = front; rest = rest; row_is = refl }

node_goes : (p : List Prefix) (t u : Tag) (ks : Kids) → IsShaped (node u ks) → HasMembers (node u ks) → AllByRecursion (KidGoes p u) (list_of ks) → KidGoes p t (node u ks)
node_goes p t u ks shaped members kids = record {
  shaped = shaped;
  leads =
      λ s xs more admitted suit h.
      let row_fits = shaped.0 in
      let row = node_row (row_of u) (map tag_of (list_of ks)) row_fits.row in
      let it = node_leads p row.front row.rest u ks xs more row.row_is shaped members kids h in
      let shut = closed_passes p u it.left more it.later in
      subst (λ r. TreeLeads p (is_entity s) r (node u ks) xs more) (sym row.row_is) record {
        rest = shut.rest;
        later = shut.later;
        goes =
            λ f frames d.
            goes_then (it.goes (closing_symbols u []) (f ∷ frames) d) (shut.goes [] (put (node u ks) (outside (f ∷ frames) d)));
      };
}

mutual
  pub tree_goes : (p : List Prefix) (k : Tree) (t : Tag) → IsShaped k → HasMembers k → KidGoes p t k
  tree_goes p (leaf u a) t shaped members = leaf_goes p t u a shaped
  tree_goes p (node u ks) t shaped members = node_goes p t u ks shaped members (kids_go p ks u shaped.1 members.2)

  pub kids_go : (p : List Prefix) (ks : Kids) (t : Tag) → AreShaped ks → HaveMembers ks → AllByRecursion (KidGoes p t) (list_of ks)
  kids_go p no_kids t shaped members = tt
  kids_go p (kid k ks) t shaped members = (tree_goes p k t shaped.0 members.0, kids_go p ks t shaped.1 members.1)
