-- Structural equivalence (Structural Specification, section 2.1).
use Rattle.std.specs.Prelude.{◌≡◌, ◌⊎◌, ℕ, zero, suc, List, [], ◌∷◌, Option, None, Some}
use Rattle.owl_tree.specs.Rows.{row_of, set_start}
use Rattle.owl_tree.specs.Trees.{Tree, Kids, leaf, node, no_kids, kid, list_of}

-- what is said of a tree
abbrev pub Fact : Type 1
Fact = Tree → Type 0

-- the fact holds of some of the trees
abbrev pub HoldsOfSome : Fact → List Tree → Type 0
HoldsOfSome fact [] = ⊥
HoldsOfSome fact (t ∷ ts) = fact t ⊎ HoldsOfSome fact ts

-- some of the facts holds of the tree
abbrev pub SomeHolds : List Fact → Tree → Type 0
SomeHolds [] t = ⊥
SomeHolds (fact ∷ facts) t = fact t ⊎ SomeHolds facts t

abbrev pub EachHoldsOfSome : List Fact → List Tree → Type 0
EachHoldsOfSome [] ts = Unit {0}
EachHoldsOfSome (fact ∷ facts) ts = HoldsOfSome fact ts × EachHoldsOfSome facts ts

abbrev pub SomeHoldsOfEach : List Fact → List Tree → Type 0
SomeHoldsOfEach facts [] = Unit {0}
SomeHoldsOfEach facts (t ∷ ts) = SomeHolds facts t × SomeHoldsOfEach facts ts

-- of each kid of one tree a fact is known, and these are the kids of another: place by place
abbrev pub AgreeByPlace : List Fact → List Tree → Type 0
AgreeByPlace [] [] = Unit {0}
AgreeByPlace [] (t ∷ ts) = ⊥
AgreeByPlace (fact ∷ facts) [] = ⊥
AgreeByPlace (fact ∷ facts) (t ∷ ts) = fact t × AgreeByPlace facts ts

-- so many of them place by place, and the others as sets, each by some of the others, both ways
abbrev pub AgreeAsSetFrom : ℕ → List Fact → List Tree → Type 0
AgreeAsSetFrom zero facts ts = EachHoldsOfSome facts ts × SomeHoldsOfEach facts ts
AgreeAsSetFrom (suc n) [] [] = Unit {0}
AgreeAsSetFrom (suc n) [] (t ∷ ts) = ⊥
AgreeAsSetFrom (suc n) (fact ∷ facts) [] = ⊥
AgreeAsSetFrom (suc n) (fact ∷ facts) (t ∷ ts) = fact t × AgreeAsSetFrom n facts ts

-- by where their set part begins, if they have one
abbrev pub Agree : Option ℕ → List Fact → List Tree → Type 0
Agree None facts ts = AgreeByPlace facts ts
Agree (Some n) facts ts = AgreeAsSetFrom n facts ts

-- The same tag, and the same atom or kids that agree. What is known of each kid is that a tree is equivalent to it.
abbrev mutual
  pub IsEquivalent : Tree → Tree → Type 0
  IsEquivalent (leaf t a) (leaf u b) = (t ≡ u) × (a ≡ b)
  IsEquivalent (leaf t a) (node u ls) = ⊥
  IsEquivalent (node t ks) (leaf u b) = ⊥
  IsEquivalent (node t ks) (node u ls) = (t ≡ u) × Agree (set_start (row_of t)) (equivalents ks) (list_of ls)

  pub equivalents : Kids → List Fact
  equivalents no_kids = []
  equivalents (kid t ks) = IsEquivalent t ∷ equivalents ks
