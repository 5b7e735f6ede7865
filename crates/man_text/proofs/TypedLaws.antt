-- Trees whose names have the kinds that they are taken for, part by part.
use Rattle.std.proofs.Common.{◌≡◌, true, List, [], ◌∷◌, ◌++◌}
use Rattle.std.specs.List.{AllByRecursion}
use Rattle.man_resolve.specs.Expressions.{Knows}
use Rattle.owl_doc.specs.Entities.{entities, entities_of}
use Rattle.owl_kind.specs.Kinds.{Entity}
use Rattle.owl_tree.specs.Trees.{Kids, Tree, kid, kids_of}

-- each has the kind that it is taken for
abbrev pub AreTyped : Knows → List Entity → Type 0
AreTyped ks es = AllByRecursion (λ (e : Entity). ks e.kind e.iri ≡ true) es

pub all_front : {X : Type 0} (P : X → Type 0) (xs ys : List X) → AllByRecursion P (xs ++ ys) → AllByRecursion P xs
all_front P [] ys h = tt
all_front P (x ∷ xs) ys h = (h.0, all_front P xs ys h.1)

pub all_behind : {X : Type 0} (P : X → Type 0) (xs ys : List X) → AllByRecursion P (xs ++ ys) → AllByRecursion P ys
all_behind P [] ys h = h
all_behind P (x ∷ xs) ys h = all_behind P xs ys h.1

pub all_both : {X : Type 0} (P : X → Type 0) (xs ys : List X) → AllByRecursion P xs → AllByRecursion P ys → AllByRecursion P (xs ++ ys)
all_both P [] ys h k = k
all_both P (x ∷ xs) ys h k = (h.0, all_both P xs ys h.1 k)

pub typed_first : (ks : Knows) (t : Tree) (ts : Kids) → AreTyped ks (entities_of (kid t ts)) → AreTyped ks (entities t)
typed_first ks t ts h = all_front (λ (e : Entity). ks e.kind e.iri ≡ true) (entities t) (entities_of ts) h

pub typed_rest : (ks : Knows) (t : Tree) (ts : Kids) → AreTyped ks (entities_of (kid t ts)) → AreTyped ks (entities_of ts)
typed_rest ks t ts h = all_behind (λ (e : Entity). ks e.kind e.iri ≡ true) (entities t) (entities_of ts) h

-- of trees, and of those behind them
pub typed_both : (ks : Knows) (ts us : List Tree) → AreTyped ks (entities_of (kids_of ts)) → AreTyped ks (entities_of (kids_of us)) → AreTyped ks (entities_of (kids_of (ts ++ us)))
typed_both ks [] us h k = k
typed_both ks (t ∷ ts) us h k = all_both (λ (e : Entity). ks e.kind e.iri ≡ true) (entities t) (entities_of (kids_of (ts ++ us))) (typed_first ks t (kids_of ts) h) (typed_both ks ts us (typed_rest ks t (kids_of ts) h) k)
