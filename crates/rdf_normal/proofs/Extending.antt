-- Trees keep their numbers while others are made.
use Rattle.std.proofs.Common.{◌≡◌, ◌<◌, ◌≤◌, ◌+◌, inl, inr, ℕ, List, [], ◌∷◌, ◌++◌, length, map, take, get_or, Some, refl, sym, ap, ◌∙◌, subst, arith}
use Rattle.std.specs.Prelude.{slice_get}
use Rattle.std.proofs.lemmas.List.{append-nil, append_assoc, length-append, map-append, take_more}
use Rattle.std.proofs.lemmas.Option.{get_or_from_slice_get, slice_get_within}
use Rattle.owl_arena.specs.Growth.{Adds}
use Rattle.owl_arena.specs.Held.{AreHeld, tree_at, trees_at}
use Rattle.owl_arena.proofs.HeldLaws.{entry_at, held_more, kids_canonical, kids_stay, more_agrees}
use Rattle.owl_arena.specs.Shared.{AreShared}
use Rattle.owl_list.proofs.AscendingLaws.{all_in, all_pushed}
use Rattle.owl_tree.specs.Canonical.{canonical}
use Rattle.owl_tree.specs.Trees.{Tree}
use Rattle.rdf_normal.specs.Makings.{AreMade, Extends, IsMade}

pub one_further : {X : Type 0} (xs : List X) (i : ℕ) (x : X) → i < length xs → x ≡ get_or xs i x → take (i + 1) xs ≡ take i xs ++ x ∷ []
one_further {X} xs i x h e = take_more xs i x h ∙ ap (λ (y : X). take i xs ++ y ∷ []) (sym e)

pub extends_itself : (ts : List Tree) → Extends ts ts
extends_itself ts = record { more = []; trees = sym (append-nil ts) }

pub extends_on : (ts us vs : List Tree) → Extends ts us → Extends us vs → Extends ts vs
extends_on ts us vs h k = record { more = h.more ++ k.more; trees = k.trees ∙ ap (λ (xs : List Tree). xs ++ k.more) h.trees ∙ append_assoc ts h.more k.more }

extends_added : (ts us : List Tree) (t : Tree) → Adds ts us t → Extends ts us
extends_added ts us t (inl h) = record { more = []; trees = h.1 ∙ sym (append-nil ts) }
extends_added ts us t (inr h) = record { more = t ∷ []; trees = h.1 }

pub tree_later : (ts us : List Tree) (id : ℕ) → Extends ts us → id < length ts → tree_at us id ≡ tree_at ts id
tree_later ts us id h l = ap (λ (xs : List Tree). tree_at xs id) h.trees ∙ more_agrees ts h.more id l

pub trees_later : (ts us : List Tree) (ids : List ℕ) → Extends ts us → AreHeld ts ids → trees_at us ids ≡ trees_at ts ids
trees_later ts us ids h l = ap (λ (xs : List Tree). trees_at xs ids) h.trees ∙ kids_stay ts h.more ids l

pub held_later : (ts us : List Tree) (ids : List ℕ) → Extends ts us → AreHeld ts ids → AreHeld us ids
held_later ts us ids h l = subst (λ (xs : List Tree). AreHeld xs ids) (sym h.trees) (held_more ts h.more ids l)

pub longer : (ts us : List Tree) → Extends ts us → length ts ≤ length us
longer ts us h = let e = ap length h.trees in let f = length-append ts h.more in omega arith

pub one_later : (ts us : List Tree) (id : ℕ) → Extends ts us → id < length ts → id < length us
one_later ts us id h l = let more = longer ts us h in omega arith

-- what an arena answers
pub made_here : (ts us : List Tree) (id : ℕ) (t : Tree) → Adds ts us t → slice_get us id ≡ Some t → IsMade ts us id t
made_here ts us id t h e = record { extends = extends_added ts us t h; held = slice_get_within us id t e; tree = get_or_from_slice_get us id t _ e }

-- a tree that is there
pub made_already : (ts : List Tree) (id : ℕ) (t : Tree) → id < length ts → tree_at ts id ≡ t → IsMade ts ts id t
made_already ts id t l e = record { extends = extends_itself ts; held = l; tree = e }

pub made_at : (ts us : List Tree) (id : ℕ) (t u : Tree) → t ≡ u → IsMade ts us id t → IsMade ts us id u
made_at ts us id t u e h = subst (IsMade ts us id) e h

pub made_after : (ts us vs : List Tree) (id : ℕ) (t : Tree) → Extends ts us → IsMade us vs id t → IsMade ts vs id t
made_after ts us vs id t h k = record { extends = extends_on ts us vs h k.extends; held = k.held; tree = k.tree }

pub canonical_at : (ts : List Tree) (id : ℕ) → AreShared ts → id < length ts → canonical (tree_at ts id) ≡ tree_at ts id
canonical_at ts id shared l = (entry_at ts id shared l).canonical

pub are_made : (ts : List Tree) (ids : List ℕ) → AreHeld ts ids → AreMade ts ts ids (trees_at ts ids)
are_made ts ids h = record { extends = extends_itself ts; held = h; trees = refl }

pub none_made : (ts : List Tree) → AreMade ts ts [] []
none_made ts = are_made ts [] tt

pub are_made_at : (ts us : List Tree) (ids : List ℕ) (xs ys : List Tree) → xs ≡ ys → AreMade ts us ids xs → AreMade ts us ids ys
are_made_at ts us ids xs ys e h = subst (AreMade ts us ids) e h

-- one more is made
pub made_more : (ts us vs : List Tree) (ids : List ℕ) (xs : List Tree) (id : ℕ) (t : Tree) → AreMade ts us ids xs → IsMade us vs id t → AreMade ts vs (ids ++ id ∷ []) (xs ++ t ∷ [])
made_more ts us vs ids xs id t h k = record {
  extends = extends_on ts us vs h.extends k.extends;
  held = all_pushed (λ n. n < length vs) ids id (held_later us vs ids k.extends h.held) k.held;
  trees =
      let before = trees_later us vs ids k.extends h.held ∙ h.trees in
      let last = k.tree in
      map-append (tree_at vs) ids (id ∷ []) ∙ ap (λ (zs : List Tree). zs ++ tree_at vs id ∷ []) before ∙ ap (λ (z : Tree). xs ++ z ∷ []) last;
}

-- and some more
pub made_then : (ts us vs : List Tree) (ids now : List ℕ) (xs ys : List Tree) → AreMade ts us ids xs → AreMade us vs now (trees_at us ids ++ ys) → AreMade ts vs now (xs ++ ys)
made_then ts us vs ids now xs ys h k = record {
  extends = extends_on ts us vs h.extends k.extends;
  held = k.held;
  trees = k.trees ∙ ap (λ (zs : List Tree). zs ++ ys) h.trees;
}

pub forms_at : (ts : List Tree) (ids : List ℕ) → AreShared ts → AreHeld ts ids → map canonical (trees_at ts ids) ≡ trees_at ts ids
forms_at ts ids shared h = kids_canonical ts shared ids h

pub taken_held : (ts : List Tree) (ids : List ℕ) (i : ℕ) (id : ℕ) → AreHeld ts ids → i < length ids → id ≡ get_or ids i id → id < length ts
taken_held ts ids i id h l e = all_in (λ n. n < length ts) ids id h (i, l, sym e)
