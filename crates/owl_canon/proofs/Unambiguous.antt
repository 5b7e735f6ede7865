-- Bytes are of one thing only: where things are written with more behind them, they and what stands behind them are equal.
use Rattle.std.proofs.Common.{◌≡◌, ◌<◌, ◌^◌, ℕ, true, List, [], ◌∷◌, ◌++◌, Option, Some, None, length, refl, sym, ap, ◌∙◌, subst, arith}
use Rattle.std.specs.Prelude.{IfSome, flat_map}
use Rattle.std.specs.Int.{from_be_bytes, w64}
use Rattle.std.specs.List.{AllByRecursion}
use Rattle.std.specs.Str.{chars, encode_utf8_all}
use Rattle.std.proofs.lemmas.Bool.{false≢true}
use Rattle.std.proofs.lemmas.List.{append_assoc, append-nil}
use Rattle.std.proofs.lemmas.Nat.{from_be_bytes-to_be_bytes_8}
use Rattle.std.proofs.lemmas.Str.{chars-encodes}
use Rattle.owl_canon.specs.Bytes.{atom_bytes, counted, kids_bytes, number_bytes, optional_bytes, text_bytes, tree_bytes}
use Rattle.owl_canon.specs.Limits.{AreCountable, AreFew, HasTexts, IsCountable, IsText}
use Rattle.owl_canon.proofs.EachRead.{count_first}
use Rattle.owl_canon.proofs.Finding.{number_long}
use Rattle.owl_canon.proofs.PuttingTrees.{bytes_of_kids}
use Rattle.owl_canon.proofs.Reading.{behind_tag, no_leaf, tag_first}
use Rattle.rdf_terms.specs.Literals.{LiteralParts}
use Rattle.owl_tree.specs.declared.atom.Atom.{Atom}
use Rattle.owl_tree.specs.declared.atom.Atom.TheVariants.{Iri, Label, Literal, Number}
use Rattle.owl_tree.specs.OrderLaws.{same_number}
use Rattle.owl_tree.specs.declared.row.AtomSort.{AtomSort}
use Rattle.owl_tree.specs.declared.row.AtomSort.TheVariants as sort
use Rattle.owl_tree.specs.declared.tag.Tag.{Tag}
use Rattle.owl_tree.specs.Rows.{Leaf, Node, Row, is_of_sort, row_of, takes}
use Rattle.owl_tree.specs.Shape.{AreShaped, IsShaped}
use Rattle.owl_tree.specs.Tags.{number_of}
use Rattle.owl_tree.specs.Trees.{Kids, Tree, kid, leaf, list_of, no_kids, node, tag_of}

-- they are equal, and so is what stands behind them
pub record AreSame {X : Type 0} (x y : X) (more others : List ℕ) : Type 0 where
  pub same : x ≡ y
  pub behind : more ≡ others

same_front : (xs ys more others : List ℕ) → length xs ≡ length ys → xs ++ more ≡ ys ++ others → AreSame xs ys more others
same_front [] [] more others l e = record { same = refl; behind = e }
same_front [] (y ∷ ys) more others l e = absurd (omega arith)
same_front (x ∷ xs) [] more others l e = absurd (omega arith)
same_front (x ∷ xs) (y ∷ ys) more others l e =
    let rest : xs ++ more ≡ ys ++ others = cc in
    let h = same_front xs ys more others (omega arith) rest in
    record { same = let f = h.same in let g : x ≡ y = cc in cc; behind = h.behind }

number_same : (n m : ℕ) → n < 2 ^ 64 → m < 2 ^ 64 → number_bytes n ≡ number_bytes m → n ≡ m
unfolding number_bytes
number_same n m l k e = sym (from_be_bytes-to_be_bytes_8 n l) ∙ ap (from_be_bytes w64) e ∙ from_be_bytes-to_be_bytes_8 m k

pub numbers : (n m : ℕ) (more others : List ℕ) → n < 2 ^ 64 → m < 2 ^ 64 → number_bytes n ++ more ≡ number_bytes m ++ others → AreSame n m more others
numbers n m more others l k e =
    let h = same_front (number_bytes n) (number_bytes m) more others (number_long n ∙ sym (number_long m)) e in
    record { same = number_same n m l k h.same; behind = h.behind }

pub texts : (text other more others : List ℕ) → IsText text → IsText other → text_bytes text ++ more ≡ text_bytes other ++ others → AreSame text other more others
texts text other more others h k e =
    let bytes = encode_utf8_all text in
    let other_bytes = encode_utf8_all other in
    let counts = numbers (length bytes) (length other_bytes) (bytes ++ more) (other_bytes ++ others) h.few k.few
    (sym (append_assoc (number_bytes (length bytes)) bytes more) ∙ e ∙ append_assoc (number_bytes (length other_bytes)) other_bytes others) in
    let f = same_front bytes other_bytes more others counts.same counts.behind in
    record { same = sym (chars-encodes text h.characters) ∙ ap chars f.same ∙ chars-encodes other k.characters; behind = f.behind }

pub optionals : (text other : Option (List ℕ)) (more others : List ℕ) → IfSome text IsText → IfSome other IsText → optional_bytes text ++ more ≡ optional_bytes other ++ others → AreSame text other more others
optionals None None more others h k e = record { same = refl; behind = cc }
optionals None (Some other) more others h k e = absurd (cc)
optionals (Some text) None more others h k e = absurd (cc)
optionals (Some text) (Some other) more others h k e =
    let rest : text_bytes text ++ more ≡ text_bytes other ++ others = cc in
    let f = texts text other more others h k rest in
    record { same = ap Some f.same; behind = f.behind }

same_literals : (a b : LiteralParts) → a.lexical ≡ b.lexical → a.datatype ≡ b.datatype → a.tag ≡ b.tag → Literal a ≡ Literal b
same_literals a b e f g =
    ap (λ (x : List ℕ). Literal (record { lexical = x; datatype = a.datatype; tag = a.tag })) e
    ∙ ap (λ (x : List ℕ). Literal (record { lexical = b.lexical; datatype = x; tag = a.tag })) f
    ∙ ap (λ (x : Option (List ℕ)). Literal (record { lexical = b.lexical; datatype = b.datatype; tag = x })) g

-- the parts of a literal one after the other
in_order : (a : LiteralParts) (more : List ℕ) → atom_bytes (Literal a) ++ more ≡ text_bytes a.lexical ++ (text_bytes a.datatype ++ (optional_bytes a.tag ++ more))
in_order a more =
    append_assoc (text_bytes a.lexical) (text_bytes a.datatype ++ optional_bytes a.tag) more
    ∙ ap (λ (bs : List ℕ). text_bytes a.lexical ++ bs) (append_assoc (text_bytes a.datatype) (optional_bytes a.tag) more)

literals : (a b : LiteralParts) (more others : List ℕ) → HasTexts (Literal a) → HasTexts (Literal b) → atom_bytes (Literal a) ++ more ≡ atom_bytes (Literal b) ++ others → AreSame (Literal a) (Literal b) more others
literals a b more others h k e =
    let forms = texts a.lexical b.lexical _ _ h.0 k.0 (sym (in_order a more) ∙ e ∙ in_order b others) in
    let datatypes = texts a.datatype b.datatype _ _ h.1 k.1 forms.behind in
    let tags = optionals a.tag b.tag more others h.2 k.2 datatypes.behind in
    record { same = same_literals a b forms.same datatypes.same tags.same; behind = tags.behind }

under : {X Y : Type 0} (f : X → Y) (x y : X) (more others : List ℕ) → AreSame x y more others → AreSame (f x) (f y) more others
under f x y more others h = record { same = ap f h.same; behind = h.behind }

pub atoms : (s : AtomSort) (a b : Atom) (more others : List ℕ) → is_of_sort s a ≡ true → is_of_sort s b ≡ true → HasTexts a → HasTexts b → atom_bytes a ++ more ≡ atom_bytes b ++ others → AreSame a b more others
atoms sort.Iri (Iri a) (Iri b) more others h k t u e = under Iri a b more others (texts a b more others t u e)
atoms sort.Label (Label a) (Label b) more others h k t u e = under Label a b more others (texts a b more others t u e)
atoms sort.Literal (Literal a) (Literal b) more others h k t u e = literals a b more others t u e
atoms sort.Number (Number a) (Number b) more others h k t u e = under Number a b more others (numbers a b more others t u e)
atoms sort.Iri (Label a) b more others h k t u e = absurd (false≢true h)
atoms sort.Iri (Literal a) b more others h k t u e = absurd (false≢true h)
atoms sort.Iri (Number a) b more others h k t u e = absurd (false≢true h)
atoms sort.Iri (Iri a) (Label b) more others h k t u e = absurd (false≢true k)
atoms sort.Iri (Iri a) (Literal b) more others h k t u e = absurd (false≢true k)
atoms sort.Iri (Iri a) (Number b) more others h k t u e = absurd (false≢true k)
atoms sort.Label (Iri a) b more others h k t u e = absurd (false≢true h)
atoms sort.Label (Literal a) b more others h k t u e = absurd (false≢true h)
atoms sort.Label (Number a) b more others h k t u e = absurd (false≢true h)
atoms sort.Label (Label a) (Iri b) more others h k t u e = absurd (false≢true k)
atoms sort.Label (Label a) (Literal b) more others h k t u e = absurd (false≢true k)
atoms sort.Label (Label a) (Number b) more others h k t u e = absurd (false≢true k)
atoms sort.Literal (Iri a) b more others h k t u e = absurd (false≢true h)
atoms sort.Literal (Label a) b more others h k t u e = absurd (false≢true h)
atoms sort.Literal (Number a) b more others h k t u e = absurd (false≢true h)
atoms sort.Literal (Literal a) (Iri b) more others h k t u e = absurd (false≢true k)
atoms sort.Literal (Literal a) (Label b) more others h k t u e = absurd (false≢true k)
atoms sort.Literal (Literal a) (Number b) more others h k t u e = absurd (false≢true k)
atoms sort.Number (Iri a) b more others h k t u e = absurd (false≢true h)
atoms sort.Number (Label a) b more others h k t u e = absurd (false≢true h)
atoms sort.Number (Literal a) b more others h k t u e = absurd (false≢true h)
atoms sort.Number (Number a) (Iri b) more others h k t u e = absurd (false≢true k)
atoms sort.Number (Number a) (Label b) more others h k t u e = absurd (false≢true k)
atoms sort.Number (Number a) (Literal b) more others h k t u e = absurd (false≢true k)

-- ---- trees

-- the tag, and what stands behind it
tags : (t u : Tree) (more others : List ℕ) → tree_bytes t ++ more ≡ tree_bytes u ++ others → AreSame (tag_of t) (tag_of u) (behind_tag t ++ more) (behind_tag u ++ others)
tags t u more others e =
    let f : number_of (tag_of t) ∷ (behind_tag t ++ more) ≡ number_of (tag_of u) ∷ (behind_tag u ++ others) = sym (tag_first t more) ∙ e ∙ tag_first u others in
    record { same = same_number (tag_of t) (tag_of u) cc; behind = cc }

leaf_row : (t : Tag) (a : Atom) → IsShaped (leaf t a) → (s : AtomSort) × (row_of t ≡ Leaf s) × (is_of_sort s a ≡ true)
leaf_row t a h = by_row (row_of t) refl h.0
  where
    by_row : (r : Row) → row_of t ≡ r → takes r a ≡ true → (s : AtomSort) × (row_of t ≡ Leaf s) × (is_of_sort s a ≡ true)
    by_row (Leaf s) e h = (s, e, h)
    by_row (Node front rest) e h = absurd (false≢true h)

kids_written : (t : Tag) (ks : Kids) (more : List ℕ) → behind_tag (node t ks) ++ more ≡ number_bytes (length (list_of ks)) ++ (kids_bytes ks ++ more)
kids_written t ks more =
    count_first tree_bytes (list_of ks) more ∙ ap (λ (bs : List ℕ). number_bytes (length (list_of ks)) ++ (bs ++ more)) (sym (bytes_of_kids ks))

mutual
  pub trees : (t u : Tree) (more others : List ℕ) → IsShaped t → IsShaped u → IsCountable t → IsCountable u → tree_bytes t ++ more ≡ tree_bytes u ++ others → AreSame t u more others
  trees (leaf t a) (leaf u b) more others h k c d e =
      let f = tags (leaf t a) (leaf u b) more others e in
      let row = leaf_row t a h in
      let other = subst (λ (r : Row). takes r b ≡ true) (ap row_of (sym f.same) ∙ row.1) k.0 in
      let g = atoms row.0 a b more others row.2 other c d f.behind in
      record { same = let x = f.same in let y = g.same in cc; behind = g.behind }
  trees (leaf t a) (node u ls) more others h k c d e =
      let f = tags (leaf t a) (node u ls) more others e in
      let row = leaf_row t a h in
      absurd (no_leaf u row.0 ls (ap row_of (sym f.same) ∙ row.1) k)
  trees (node t ks) (leaf u b) more others h k c d e =
      let f = tags (node t ks) (leaf u b) more others e in
      let row = leaf_row u b k in
      absurd (no_leaf t row.0 ks (ap row_of f.same ∙ row.1) h)
  trees (node t ks) (node u ls) more others h k c d e =
      let f = tags (node t ks) (node u ls) more others e in
      let counts = numbers (length (list_of ks)) (length (list_of ls)) (kids_bytes ks ++ more) (kids_bytes ls ++ others) c.0 d.0 (sym (kids_written t ks more) ∙ f.behind ∙ kids_written u ls others) in
      let g = kids ks ls more others h.1 k.1 c.1 d.1 counts.same counts.behind in
      record { same = let x = f.same in let y = g.same in cc; behind = g.behind }

  kids : (ks ls : Kids) (more others : List ℕ) → AreShaped ks → AreShaped ls → AreCountable ks → AreCountable ls → length (list_of ks) ≡ length (list_of ls) → kids_bytes ks ++ more ≡ kids_bytes ls ++ others → AreSame ks ls more others
  kids no_kids no_kids more others h k c d n e = record { same = refl; behind = e }
  kids no_kids (kid u ls) more others h k c d n e = absurd (omega arith)
  kids (kid t ks) no_kids more others h k c d n e = absurd (omega arith)
  kids (kid t ks) (kid u ls) more others h k c d n e =
      let f = trees t u (kids_bytes ks ++ more) (kids_bytes ls ++ others) h.0 k.0 c.0 d.0 (sym (append_assoc (tree_bytes t) (kids_bytes ks) more) ∙ e ∙ append_assoc (tree_bytes u) (kids_bytes ls) others) in
      let g = kids ks ls more others h.1 k.1 c.1 d.1 (omega arith) f.behind in
      record { same = let x = f.same in let y = g.same in cc; behind = g.behind }

-- ---- lists of parts

each_same : {X : Type 0} (bytes : X → List ℕ) (Good : X → Type 0) → ((x y : X) (more others : List ℕ) → Good x → Good y → bytes x ++ more ≡ bytes y ++ others → AreSame x y more others) →
    (xs ys : List X) (more others : List ℕ) → AllByRecursion Good xs → AllByRecursion Good ys → length xs ≡ length ys → flat_map bytes xs ++ more ≡ flat_map bytes ys ++ others → AreSame xs ys more others
each_same bytes Good one [] [] more others g h n e = record { same = refl; behind = e }
each_same bytes Good one [] (y ∷ ys) more others g h n e = absurd (omega arith)
each_same bytes Good one (x ∷ xs) [] more others g h n e = absurd (omega arith)
each_same bytes Good one (x ∷ xs) (y ∷ ys) more others g h n e =
    let f = one x y (flat_map bytes xs ++ more) (flat_map bytes ys ++ others) g.0 h.0 (sym (append_assoc (bytes x) (flat_map bytes xs) more) ∙ e ∙ append_assoc (bytes y) (flat_map bytes ys) others) in
    let k = each_same bytes Good one xs ys more others g.1 h.1 (omega arith) f.behind in
    record { same = let p = f.same in let q = k.same in cc; behind = k.behind }

-- where each is told apart, so are counted lists
pub counted_same : {X : Type 0} (bytes : X → List ℕ) (Good : X → Type 0) → ((x y : X) (more others : List ℕ) → Good x → Good y → bytes x ++ more ≡ bytes y ++ others → AreSame x y more others) →
    (xs ys : List X) (more others : List ℕ) → AreFew Good xs → AreFew Good ys → counted bytes xs ++ more ≡ counted bytes ys ++ others → AreSame xs ys more others
counted_same bytes Good one xs ys more others g h e =
    let counts = numbers (length xs) (length ys) (flat_map bytes xs ++ more) (flat_map bytes ys ++ others) g.few h.few (sym (count_first bytes xs more) ∙ e ∙ count_first bytes ys others) in
    each_same bytes Good one xs ys more others g.each h.each counts.same counts.behind

-- no tree begins another
pub no_beginning : (t u : Tree) (more : List ℕ) → IsShaped t → IsShaped u → IsCountable t → IsCountable u → tree_bytes t ++ more ≡ tree_bytes u → (t ≡ u) × (more ≡ [])
no_beginning t u more h k c d e = let f = trees t u more [] h k c d (e ∙ sym (append-nil (tree_bytes u))) in (f.same, f.behind)
