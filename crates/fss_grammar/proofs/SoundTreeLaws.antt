-- What derives from the rules of trees, and can be done, is written for trees.
use Rattle.std.proofs.Common.{◌≡◌, ℕ, suc, true, List, [], ◌∷◌, ◌++◌, length, drop, inl, inr, refl, sym, subst, arith}
use Rattle.grammar.specs.Derivations.Event.{Do}
use Rattle.grammar.specs.Pages.Named.{action}
use Rattle.owl_atom.specs.declared.prefixes.Prefix.{Prefix}
use Rattle.owl_tokens.specs.declared.token.Token.{Token}
use Rattle.owl_tree.specs.declared.row.Rest.{Rest}
use Rattle.owl_tree.specs.declared.row.Sort.{Sort}
use Rattle.owl_tree.specs.declared.tag.Tag.{Tag}
use Rattle.owl_tree.specs.declared.tag.Tag.TheVariants as tag
use Rattle.owl_tree.proofs.EquivalenceLaws.{equivalent_refl}
use Rattle.owl_tree.specs.Rows.{Row, Leaf, Node, admits, is_tag, row_of}
use Rattle.owl_tree.specs.Shape.{AreAtMostTwo, FitsRow, HasKeyProperty, IsShaped}
use Rattle.owl_tree.specs.Tags.{number_of}
use Rattle.owl_tree.proofs.TreeLaws.{list_of_kids_of}
use Rattle.owl_tree.specs.Trees.{Tree, kids_of, node}
use Rattle.fss_terms.specs.Spelling.{HasMembers, MeetsMinimum, closed, opened, spellings}
use Rattle.fss_terms.specs.Terms.{AreTerms}
use Rattle.fss_terms.specs.declared.term.Term.{Term}
use Rattle.fss_grammar.proofs.ActLaws.{begun, done}
use Rattle.fss_grammar.specs.Making.{Document, Maker, Runs, put}
use Rattle.owl_tree.specs.Frames.{Frame}
use Rattle.fss_grammar.specs.Making.Kept.{nothing}
use Rattle.fss_grammar.specs.Meaning.{Events, FitsOne, NamesMean, Parses, Suits, within, with_kids}
use Rattle.fss_grammar.specs.Page.{Names, closing_symbols, front_symbols, is_entity, node_symbols, tree_symbols}
use Rattle.fss_grammar.proofs.RowTests.{each_row_passes, row_test}
use Rattle.fss_grammar.proofs.SoundLaws.{Passed, closing_means, opening_means}
use Rattle.fss_grammar.proofs.SoundLeafLaws.{leaf_means}
use Rattle.fss_grammar.proofs.SoundNodeLaws.{FitsKids, IsExact, kids_mean}
use Rattle.fss_grammar.specs.declared.acts.Act.TheVariants.{Begin, Shut}

-- ---- constructs

-- InverseObjectProperties has its annotations and two members
exact_three : (n : ℕ) → IsExact (row_of tag.InverseObjectProperties) n → n ≡ 3
unfolding row_of
exact_three n h = h

is_own : is_tag tag.InverseObjectProperties tag.InverseObjectProperties ≡ true
unfolding number_of
is_own = refl

pub exact_count : (t : Tag) (n : ℕ) → (is_tag tag.InverseObjectProperties t ≡ true → IsExact (row_of t) n) → t ≡ tag.InverseObjectProperties → n ≡ 3
exact_count t n exact e =
    exact_three n (subst (λ u. IsExact (row_of u) n) e (exact (subst (λ u. is_tag tag.InverseObjectProperties u ≡ true) (sym e) is_own)))

three : (t : Tag) (ts : List Tree) → FitsKids t (row_of t) ts → t ≡ tag.InverseObjectProperties → length ts ≡ 3
three t ts f e = exact_count t (length ts) f.exact e

pub two_of_three : (ts : List Tree) → length ts ≡ 3 → AreAtMostTwo (drop 1 ts)
two_of_three (a ∷ b ∷ c ∷ []) e = record { one = b; other = c; each = (inl (equivalent_refl b), (inr (equivalent_refl c), tt)) }
two_of_three [] e = absurd (let no : 0 ≡ 3 = e in omega arith)
two_of_three (a ∷ []) e = absurd (let no : 1 ≡ 3 = e in omega arith)
two_of_three (a ∷ b ∷ []) e = absurd (let no : 2 ≡ 3 = e in omega arith)
two_of_three (a ∷ b ∷ c ∷ d ∷ ts) e = absurd (let no : suc (suc (suc (suc (length ts)))) ≡ 3 = e in omega arith)

-- a construct whose kids fit
pub node_written : (t : Tag) (ts : List Tree) → FitsKids t (row_of t) ts → (t ≡ tag.HasKey → HasKeyProperty ts) → FitsRow t ts × MeetsMinimum (row_of t) (length ts) × (t ≡ tag.InverseObjectProperties → length ts ≡ 3)
node_written t ts f key =
    (record { row = f.fit; inverses = λ e. two_of_three ts (three t ts f e); keys = key }, f.minimum, three t ts f)

-- A construct was read and put, and then comes what is left.
pub record NodeRead (p : List Prefix) (t : Tag) (Later : List Token → Events → Type 0) (xs : List Token) (frames : List Frame) (d : Document) (fs : Events) (n : Maker) : Type 0 where
  pub kids : List Tree
  pub shaped : IsShaped (node t (kids_of kids))
  pub members : HasMembers (node t (kids_of kids))
  pub rest : List Token
  pub events : Events
  pub later : Later rest events
  pub spelled : (us : List Token) (more : List Term) → AreTerms p (rest ++ us) more → AreTerms p (xs ++ us) (opened t (spellings t (kids_of kids) more))
  pub runs : Runs p (events ++ fs) (put (node t (kids_of kids)) (record { kept = nothing; frames = frames; document = d })) n

abbrev pub NodeReads : List Prefix → Tag → (List Token → Events → Type 0) → List Token → Events → Type 0
NodeReads p t Later xs es =
    (fs : Events) (frames : List Frame) (d : Document) (n : Maker) → Runs p (es ++ fs) (record { kept = nothing; frames = frames; document = d }) n → NodeRead p t Later xs frames d fs n

abbrev no_kids_yet : Tag → Frame
no_kids_yet t = record { tag = t; kids = [] }

fits_own : (t : Tag) (row : Row) (ts : List Tree) → row_of t ≡ row → FitsKids t row ts → FitsKids t (row_of t) ts
fits_own t row ts e h = subst (λ r. FitsKids t r ts) (sym e) h

-- the construct ends behind its kids
node_read : (p : List Prefix) (t : Tag) (front : List Sort) (rest : Rest) (names : Names) → row_of t ≡ Node front rest → (xs : List Token) (es : Events) → Passed p (NamesMean p (front_symbols t front rest (action Shut ∷ names))) (opened t) xs es → NodeReads p t (NamesMean p names) xs (Do (number_of t) ∷ es)
node_read p t front rest names e xs es opens = λ fs frames d n r.
    let m : Maker = record { kept = nothing; frames = frames; document = d } in
    let start = done (Begin t) r in
    let begin = begun p t _ m start.0 e start.1 in
    let run = opens.runs fs (within (no_kids_yet t) frames d) n (subst (λ k. Runs p (es ++ fs) k n) begin start.2) in
    let passes = subst (λ row. row_test t row ≡ true) e (each_row_passes t) in
    let it = kids_mean p t front rest (action Shut ∷ names) passes opens.rest opens.events opens.later fs (no_kids_yet t) frames d n run in
    let act = it.later in
    let end = done Shut (subst (λ (l : Events). Runs p (l ++ fs) (within (with_kids it.trees (no_kids_yet t)) frames d) n) act.events_are it.runs) in
    let same = sym (list_of_kids_of it.trees) in
    let written = subst (λ ts. FitsRow t ts × MeetsMinimum (row_of t) (length ts) × (t ≡ tag.InverseObjectProperties → length ts ≡ 3)) same (node_written t it.trees (fits_own t (Node front rest) it.trees e it.fit) end.1.0) in
    record {
      kids = it.trees;
      shaped = (written.0, it.shaped);
      members = (written.1, written.2, it.members);
      rest = it.rest;
      events = act.more_events;
      later = act.more;
      spelled = λ us more h. opens.spelled us (spellings t (kids_of it.trees) more) (it.spelled us more h);
      runs = subst (λ k. Runs p (act.more_events ++ fs) k n) end.1.1 end.2;
    }

pub node_means : (p : List Prefix) (t : Tag) (front : List Sort) (rest : Rest) (names : Names) → row_of t ≡ Node front rest → (xs : List Token) (es : Events) → NamesMean p (node_symbols t front rest names) xs es → NodeReads p t (NamesMean p names) xs es
node_means p t front rest names e xs es it =
    subst (NodeReads p t (NamesMean p names) xs) (sym it.events_are)
    (node_read p t front rest names e xs it.more_events (opening_means p t (front_symbols t front rest (action Shut ∷ names)) it.more))

-- ---- trees of a sort

node_parses : (p : List Prefix) (s : Sort) (t : Tag) (front : List Sort) (rest : Rest) → admits s t ≡ true → row_of t ≡ Node front rest → (xs : List Token) (es : Events) → NamesMean p (node_symbols t front rest (closing_symbols t [])) xs es → Parses p (FitsOne s) (Suits s) xs es
node_parses p s t front rest admitted e xs es it = λ fs f frames d n r.
    let a = node_means p t front rest (closing_symbols t []) e xs es it fs (f ∷ frames) d n r in
    let b = closing_means p t [] a.later in
    let tree = node t (kids_of a.kids) in
    record {
      trees = tree ∷ [];
      fit = admitted;
      shaped = (a.shaped, tt);
      members = (a.members, tt);
      spelled = λ u h us more k. a.spelled us (closed t more) (b.spelled us more (subst (λ l. AreTerms p (l ++ us) more) (sym b.later.tokens_are) k));
      runs = subst (λ (l : Events). Runs p (l ++ fs) (within (with_kids (tree ∷ []) f) frames d) n) b.later.events_are (b.runs fs (within (with_kids (tree ∷ []) f) frames d) n a.runs);
    }

tree_parses : (p : List Prefix) (s : Sort) (t : Tag) (row : Row) → admits s t ≡ true → row_of t ≡ row → (xs : List Token) (es : Events) → NamesMean p (tree_symbols (is_entity s) t row) xs es → Parses p (FitsOne s) (Suits s) xs es
tree_parses p s t (Leaf c) admitted e xs es it = leaf_means p s t c admitted e xs es it
tree_parses p s t (Node front rest) admitted e xs es it = node_parses p s t front rest admitted e xs es it

-- the symbols of a tag that the sort admits
pub tree_means : (p : List Prefix) (s : Sort) (t : Tag) → admits s t ≡ true → (xs : List Token) (es : Events) → NamesMean p (tree_symbols (is_entity s) t (row_of t)) xs es → Parses p (FitsOne s) (Suits s) xs es
tree_means p s t admitted xs es it = tree_parses p s t (row_of t) admitted refl xs es it
