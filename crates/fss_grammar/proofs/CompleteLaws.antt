-- What is written for a tree leads along the symbols of its tag.
use Rattle.std.proofs.Common.{◌≡◌, Bool, true, false, List, [], ◌∷◌, ◌++◌, refl, sym, subst, append_assoc, append-nil, true≢false}
use Rattle.std.specs.Prelude.{if◌then◌else◌}
use Rattle.grammar.specs.Pages.{IsIn}
use Rattle.grammar.specs.Pages.Named.{action, part, token as word}
use Rattle.owl_atom.specs.declared.prefixes.Prefix.{Prefix}
use Rattle.owl_tokens.specs.declared.token.Token.{Token}
use Rattle.owl_tree.specs.declared.atom.Atom.{Atom}
use Rattle.owl_tree.specs.declared.row.AtomSort.{AtomSort}
use Rattle.owl_tree.specs.declared.row.Sort.{Sort}
use Rattle.owl_tree.specs.declared.tag.Tag.{Tag}
use Rattle.owl_tree.specs.Atoms.{IsAtom}
use Rattle.owl_tree.specs.Rows.{Row, Leaf, Node, admits, is_of_sort, row_of, takes}
use Rattle.owl_tree.specs.Shape.{IsShaped}
use Rattle.owl_tree.specs.Tags.{keyword_of}
use Rattle.owl_tree.specs.Trees.{Tree, kids_of, leaf, tag_of}
use Rattle.fss_terms.specs.Spelling.{spelling, spellings}
use Rattle.fss_terms.specs.Terms.{AreTerms}
use Rattle.fss_terms.specs.declared.term.Term.{Term}
use Rattle.fss_terms.specs.declared.term.Term.TheVariants.{Keyword, Opening, Closing, Atom as held}
use Rattle.fss_grammar.specs.Classes.Class.{closing, opening}
use Rattle.fss_grammar.proofs.Going.{Goes, goes_nowhere, goes_rule, goes_then}
use Rattle.fss_grammar.proofs.GoingLaws.{atom_goes, goes_close, goes_keyword, goes_open}
use Rattle.fss_grammar.specs.Making.{Document}
use Rattle.owl_tree.specs.Frames.{Frame, with_kid}
use Rattle.fss_grammar.specs.Meaning.{Suits, within, with_kids}
use Rattle.fss_grammar.specs.Page.{Names, Rule, alternatives, atom_symbols, is_entity, tree_symbols}
use Rattle.fss_grammar.specs.Page.Rule.{one}
use Rattle.fss_grammar.proofs.PageRows.{IsPlaced, each_tag, one_is_placed, to_filter, to_map}
use Rattle.fss_grammar.proofs.SoundLeafLaws.{leaf_suits}
use Rattle.fss_grammar.specs.declared.acts.Act.TheVariants.{Begin}

-- ---- trees one after another

-- The tokens lead along the symbols, which puts the trees, and behind them the terms are written.
pub record Leads (p : List Prefix) (names : Names → Names) (ts : List Tree) (xs : List Token) (more : List Term) : Type 0 where
  pub rest : List Token
  pub later : AreTerms p rest more
  pub goes : (after : Names) (f : Frame) (frames : List Frame) (d : Document) → Goes p (names after) after xs rest (within f frames d) (within (with_kids ts f) frames d)

pub leads_none : (p : List Prefix) (xs : List Token) (more : List Term) → AreTerms p xs more → Leads p (λ after. after) [] xs more
leads_none p xs more h = record {
  rest = xs;
  later = h;
  goes =
      λ after f frames d.
      subst (λ (ks : List Tree). Goes p after after xs xs (within f frames d) (within (record f { kids = ks }) frames d)) (sym (append-nil f.kids)) (goes_nowhere p after xs (within f frames d));
}

pub leads_both : (p : List Prefix) (a b : Names → Names) (ts us : List Tree) (xs : List Token) (mid more : List Term) → Leads p a ts xs mid → ((rest : List Token) → AreTerms p rest mid → Leads p b us rest more) → Leads p (λ after. a (b after)) (ts ++ us) xs more
leads_both p a b ts us xs mid more front back =
    let it = back front.rest front.later in
    record {
      rest = it.rest;
      later = it.later;
      goes =
          λ after f frames d.
          subst (λ (ks : List Tree). Goes p (a (b after)) after xs it.rest (within f frames d) (within (record f { kids = ks }) frames d)) (append_assoc f.kids ts us)
          (goes_then (front.goes (b after) f frames d) (it.goes after (with_kids ts f) frames d));
    }

pub leads_rule : (p : List Prefix) (r : Rule) (names : Names → Names) (ts : List Tree) (xs : List Token) (more : List Term) → IsPlaced r → IsIn (names []) (alternatives r) → Leads p names ts xs more → Leads p (λ after. part r ∷ after) ts xs more
leads_rule p r names ts xs more placed i it = record {
  rest = it.rest;
  later = it.later;
  goes = λ after f frames d. goes_rule p r (names []) after xs it.rest (within f frames d) (within (with_kids ts f) frames d) placed i (it.goes [] f frames d);
}

-- ---- one tree

-- the same for the symbols of a row
pub record TreeLeads (p : List Prefix) (declared : Bool) (row : Row) (k : Tree) (xs : List Token) (more : List Term) : Type 0 where
  pub rest : List Token
  pub later : AreTerms p rest more
  pub goes : (f : Frame) (frames : List Frame) (d : Document) → Goes p (tree_symbols declared (tag_of k) row) [] xs rest (within f frames d) (within (with_kid k f) frames d)

-- A kid of a construct with this tag, wherever it may stand there.
pub record KidGoes (p : List Prefix) (t : Tag) (k : Tree) : Type 0 where
  pub shaped : IsShaped k
  pub leads : (s : Sort) (xs : List Token) (more : List Term) → admits s (tag_of k) ≡ true → Suits s t → AreTerms p xs (spelling t k more) → TreeLeads p (is_entity s) (row_of (tag_of k)) k xs more

pub one_leads : (p : List Prefix) (t : Tag) (k : Tree) (s : Sort) (xs : List Token) (more : List Term) → KidGoes p t k → admits s (tag_of k) ≡ true → Suits s t → AreTerms p xs (spelling t k more) → Leads p (λ after. part (one s) ∷ after) (k ∷ []) xs more
one_leads p t k s xs more kid admitted suit h =
    let it = kid.leads s xs more admitted suit h in
    let u = tag_of k in
    let i = to_map (λ t. tree_symbols (is_entity s) t (row_of t)) (to_filter (admits s) (each_tag u) admitted) in
    record {
      rest = it.rest;
      later = it.later;
      goes =
          λ after f frames d.
          goes_rule p (one s) (tree_symbols (is_entity s) u (row_of u)) after xs it.rest (within f frames d) (within (with_kid k f) frames d) (one_is_placed s) i (it.goes f frames d);
    }

-- one more in front of others
pub kid_leads : (p : List Prefix) (t : Tag) (k : Tree) (ts : List Tree) (s : Sort) (names : Names → Names) (xs : List Token) (more : List Term) → KidGoes p t k → admits s (tag_of k) ≡ true → Suits s t → AreTerms p xs (spellings t (kids_of (k ∷ ts)) more) → ((rest : List Token) → AreTerms p rest (spellings t (kids_of ts) more) → Leads p names ts rest more) → Leads p (λ after. part (one s) ∷ names after) (k ∷ ts) xs more
kid_leads p t k ts s names xs more kid admitted suit h others =
    leads_both p (λ after. part (one s) ∷ after) names (k ∷ []) ts xs (spellings t (kids_of ts) more) more
    (one_leads p t k s xs (spellings t (kids_of ts) more) kid admitted suit h) others

-- ---- leaves

leaf_by : (p : List Prefix) (t : Tag) (c : AtomSort) (a : Atom) (declared : Bool) (xs : List Token) (more : List Term) → row_of t ≡ Leaf c → is_of_sort c a ≡ true → IsAtom a → AreTerms p xs (if declared then Keyword (keyword_of t) ∷ Opening ∷ held a ∷ Closing ∷ more else held a ∷ more) → TreeLeads p declared (Leaf c) (leaf t a) xs more
leaf_by p t c a false xs more e s is h = record {
  rest = h.0;
  later = h.2;
  goes = λ f frames d. atom_goes p t c a xs h.0 e s h.1 is [] f frames d;
}
leaf_by p t c a true xs more e s is h =
    let bracket = h.2 in
    let inside = bracket.2 in
    let close = inside.2 in
    let symbols = action (Begin t) ∷ atom_symbols c (word closing ∷ []) in
    record {
      rest = close.0;
      later = close.2;
      goes =
          λ f frames d.
          goes_then (goes_keyword p t (word opening ∷ symbols) xs h.0 (within f frames d) h.1)
          (goes_then (goes_open p symbols h.0 bracket.0 (within f frames d) bracket.1)
          (goes_then (atom_goes p t c a bracket.0 inside.0 e s inside.1 is (word closing ∷ []) f frames d)
          (goes_close p [] inside.0 close.0 (within (with_kid (leaf t a) f) frames d) close.1)));
    }

-- the row of a leaf
pub record IsLeafRow (row : Row) (a : Atom) : Type 0 where
  pub sort : AtomSort
  pub row_is : row ≡ Leaf sort
  pub sort_is : is_of_sort sort a ≡ true

leaf_row : (row : Row) (a : Atom) → takes row a ≡ true → IsLeafRow row a
leaf_row (Leaf c) a h = record { sort = c; row_is = refl; sort_is = h }
leaf_row (Node front rest) a h = absurd (true≢false (sym h))

pub leaf_goes : (p : List Prefix) (t u : Tag) (a : Atom) → IsShaped (leaf u a) → KidGoes p t (leaf u a)
leaf_goes p t u a shaped = record {
  shaped = shaped;
  leads =
      λ s xs more admitted suit h.
      let it = leaf_row (row_of u) a shaped.0 in
      let same = leaf_suits s u it.sort admitted it.row_is t suit in
      let terms = subst (λ b. AreTerms p xs (if b then Keyword (keyword_of u) ∷ Opening ∷ held a ∷ Closing ∷ more else held a ∷ more)) same h in
      subst (λ row. TreeLeads p (is_entity s) row (leaf u a) xs more) (sym it.row_is)
      (leaf_by p u it.sort a (is_entity s) xs more it.row_is it.sort_is shaped.1 terms);
}
