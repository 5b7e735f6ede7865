-- Steps of loops over numbers of trees.
use Rattle.std.proofs.Common.{◌≡◌, ◌<◌, ◌≤◌, ◌+◌, ◌-◌, ℕ, zero, suc, Bool, true, false, cond, List, [], ◌∷◌, ◌++◌, length, map, filter, take, get_or, refl, sym, ap, ◌∙◌, subst, arith}
use Rattle.std.specs.Prelude.{flat_map}
use Rattle.std.specs.List.{AllByRecursion}
use Rattle.std.proofs.lemmas.Grind.{flat_map-append}
use Rattle.std.proofs.lemmas.List.{append-nil, append_assoc, get_or-map, get_or_default, length-map, map-append, take-map}
use Rattle.std.proofs.lemmas.List.Elements.{filter-append}
use Rattle.owl_arena.specs.Held.{AreHeld, node_over, tree_at, trees_at}
use Rattle.owl_list.proofs.AscendingLaws.{all_pushed}
use Rattle.owl_tree.specs.Canonical.{canonical}
use Rattle.owl_tree.specs.declared.tag.Tag.{Tag}
use Rattle.owl_tree.specs.Trees.{Tree, kids_in, tag_of}
use Rattle.rdf_normal.proofs.Extending.{are_made, are_made_at, made_at, made_more, made_then, one_further, taken_held, tree_later, trees_later}
use Rattle.rdf_normal.specs.Makings.{AreMade, IsMade}
use Rattle.rdf_normal.specs.NormalForms.{is_paired, over, pairs, pairs_in, spread, turned}

pub trees_further : (ts : List Tree) (all : List ℕ) (i id : ℕ) → i < length all → id ≡ get_or all i id → trees_at ts (take (i + 1) all) ≡ trees_at ts (take i all) ++ tree_at ts id ∷ []
trees_further ts all i id l e = ap (trees_at ts) (one_further all i id l e) ∙ map-append (tree_at ts) (take i all) (id ∷ [])

mapped_further : (f : Tree → Tree) (ts : List Tree) (all : List ℕ) (i id : ℕ) → i < length all → id ≡ get_or all i id → map f (trees_at ts (take (i + 1) all)) ≡ map f (trees_at ts (take i all)) ++ f (tree_at ts id) ∷ []
mapped_further f ts all i id l e = ap (map f) (trees_further ts all i id l e) ∙ map-append f (trees_at ts (take i all)) (tree_at ts id ∷ [])

-- its tree is the same as before
at_now : (ts us : List Tree) (ids : List ℕ) (xs : List Tree) (all : List ℕ) (i id : ℕ) → AreMade ts us ids xs → AreHeld ts all → i < length all → id ≡ get_or all i id → tree_at us id ≡ tree_at ts id
at_now ts us ids xs all i id h held l e = tree_later ts us id h.extends (taken_held ts all i id held l e)

-- one more is made behind those that were there
pub mapped_more : (f : Tree → Tree) (ts us vs : List Tree) (ids : List ℕ) (xs : List Tree) (all : List ℕ) (i id new : ℕ) → AreMade ts us ids (xs ++ map f (trees_at ts (take i all))) → AreHeld ts all → i < length all → id ≡ get_or all i id → IsMade us vs new (f (tree_at us id)) → AreMade ts vs (ids ++ new ∷ []) (xs ++ map f (trees_at ts (take (i + 1) all)))
mapped_more f ts us vs ids xs all i id new h held l e k =
    are_made_at ts vs (ids ++ new ∷ []) _ _
    (append_assoc xs (map f (trees_at ts (take i all))) (f (tree_at ts id) ∷ []) ∙ ap (λ (ys : List Tree). xs ++ ys) (sym (mapped_further f ts all i id l e)))
    (made_more ts us vs ids _ new _ h (made_at us vs new _ _ (ap f (at_now ts us ids _ all i id h held l e)) k))

filtered_further : (test : Tree → Bool) (ts : List Tree) (all : List ℕ) (i id : ℕ) → i < length all → id ≡ get_or all i id → filter test (trees_at ts (take (i + 1) all)) ≡ filter test (trees_at ts (take i all)) ++ filter test (tree_at ts id ∷ [])
filtered_further test ts all i id l e = ap (filter test) (trees_further ts all i id l e) ∙ filter-append test (trees_at ts (take i all)) (tree_at ts id ∷ [])

one_by : (b : Bool) (t : Tree) (test : Tree → Bool) → test t ≡ b → filter test (t ∷ []) ≡ cond b (t ∷ []) []
one_by b t test e = ap (λ (c : Bool). cond c (t ∷ []) []) e

pub filtered_with : (test : Tree → Bool) (ts : List Tree) (all : List ℕ) (i id : ℕ) → i < length all → id ≡ get_or all i id → test (tree_at ts id) ≡ true → filter test (trees_at ts (take (i + 1) all)) ≡ filter test (trees_at ts (take i all)) ++ tree_at ts id ∷ []
filtered_with test ts all i id l e t = filtered_further test ts all i id l e ∙ ap (λ (ys : List Tree). filter test (trees_at ts (take i all)) ++ ys) (one_by true (tree_at ts id) test t)

pub filtered_without : (test : Tree → Bool) (ts : List Tree) (all : List ℕ) (i id : ℕ) → i < length all → id ≡ get_or all i id → test (tree_at ts id) ≡ false → filter test (trees_at ts (take (i + 1) all)) ≡ filter test (trees_at ts (take i all))
filtered_without test ts all i id l e t = filtered_further test ts all i id l e ∙ ap (λ (ys : List Tree). filter test (trees_at ts (take i all)) ++ ys) (one_by false (tree_at ts id) test t) ∙ append-nil _

-- one more that passes is there, and one that doesn't isn't
pub passes : (test : Tree → Bool) (ts : List Tree) (ids all : List ℕ) (i id : ℕ) → trees_at ts ids ≡ filter test (trees_at ts (take i all)) → i < length all → id ≡ get_or all i id → test (tree_at ts id) ≡ true → trees_at ts (ids ++ id ∷ []) ≡ filter test (trees_at ts (take (i + 1) all))
passes test ts ids all i id h l e t =
    map-append (tree_at ts) ids (id ∷ []) ∙ ap (λ (ys : List Tree). ys ++ tree_at ts id ∷ []) h ∙ sym (filtered_with test ts all i id l e t)

pub fails : (test : Tree → Bool) (ts : List Tree) (ids all : List ℕ) (i id : ℕ) → trees_at ts ids ≡ filter test (trees_at ts (take i all)) → i < length all → id ≡ get_or all i id → test (tree_at ts id) ≡ false → trees_at ts ids ≡ filter test (trees_at ts (take (i + 1) all))
fails test ts ids all i id h l e t = h ∙ sym (filtered_without test ts all i id l e t)

pub passes_made : (f : Tree → Tree) (test : Tree → Bool) (ts us vs now : List Tree) (ids all after : List ℕ) (i id new : ℕ) → AreMade ts us ids (map f (filter test (trees_at ts (take i all)))) → AreHeld ts all → i < length all → id ≡ get_or all i id → test (tree_at us id) ≡ true → IsMade us vs new (f (tree_at us id)) → now ≡ vs → after ≡ ids ++ new ∷ [] → AreMade ts now after (map f (filter test (trees_at ts (take (i + 1) all))))
passes_made f test ts us vs now ids all after i id new h held l e t k same more =
    let at = at_now ts us ids _ all i id h held l e in
    subst (λ (ws : List Tree). AreMade ts ws after (map f (filter test (trees_at ts (take (i + 1) all))))) (sym same)
    (subst (λ (ns : List ℕ). AreMade ts vs ns (map f (filter test (trees_at ts (take (i + 1) all))))) (sym more)
    (are_made_at ts vs (ids ++ new ∷ []) _ _
    (sym (map-append f (filter test (trees_at ts (take i all))) (tree_at ts id ∷ [])) ∙ ap (map f) (sym (filtered_with test ts all i id l e (ap test (sym at) ∙ t))))
    (made_more ts us vs ids _ new _ h (made_at us vs new _ _ (ap f at) k))))

pub fails_made : (f : Tree → Tree) (test : Tree → Bool) (ts us now : List Tree) (ids all after : List ℕ) (i id : ℕ) → AreMade ts us ids (map f (filter test (trees_at ts (take i all)))) → AreHeld ts all → i < length all → id ≡ get_or all i id → test (tree_at us id) ≡ false → now ≡ us → after ≡ ids → AreMade ts now after (map f (filter test (trees_at ts (take (i + 1) all))))
fails_made f test ts us now ids all after i id h held l e t same more =
    let at = at_now ts us ids _ all i id h held l e in
    subst (λ (ws : List Tree). AreMade ts ws after (map f (filter test (trees_at ts (take (i + 1) all))))) (sym same)
    (subst (λ (ns : List ℕ). AreMade ts us ns (map f (filter test (trees_at ts (take (i + 1) all))))) (sym more)
    (are_made_at ts us ids _ _ (ap (map f) (sym (filtered_without test ts all i id l e (ap test (sym at) ∙ t)))) h))

-- what one more axiom becomes
pub spread_more : (ts us vs : List Tree) (ids now all : List ℕ) (i id : ℕ) → AreMade ts us ids (map canonical (flat_map spread (trees_at ts (take i all)))) → AreHeld ts all → i < length all → id ≡ get_or all i id → AreMade us vs now (trees_at us ids ++ map canonical (spread (tree_at us id))) → AreMade ts vs now (map canonical (flat_map spread (trees_at ts (take (i + 1) all))))
spread_more ts us vs ids now all i id h held l e k =
    let at = at_now ts us ids _ all i id h held l e in
    let more : flat_map spread (trees_at ts (take (i + 1) all)) ≡ flat_map spread (trees_at ts (take i all)) ++ spread (tree_at ts id) =
    ap (flat_map spread) (trees_further ts all i id l e) ∙ flat_map-append spread (trees_at ts (take i all)) (tree_at ts id ∷ []) ∙ ap (λ (ys : List Tree). flat_map spread (trees_at ts (take i all)) ++ ys) (append-nil (spread (tree_at ts id))) in
    are_made_at ts vs now _ _
    (sym (map-append canonical (flat_map spread (trees_at ts (take i all))) (spread (tree_at ts id))) ∙ ap (map canonical) (sym more))
    (made_then ts us vs ids now _ _ h (subst (λ (t : Tree). AreMade us vs now (trees_at us ids ++ map canonical (spread t))) at k))

-- one member more is one pair more
pairs_further : (t : Tag) (notes : Tree) (ts : List Tree) (p : ℕ) (d : Tree) → suc p < length ts → pairs t notes (take (suc (suc p)) ts) ≡ pairs t notes (take (suc p) ts) ++ over t (notes ∷ get_or ts p d ∷ get_or ts (suc p) d ∷ []) ∷ []
pairs_further t notes [] p d l = absurd (omega arith)
pairs_further t notes (a ∷ []) p d l = absurd (omega arith)
pairs_further t notes (a ∷ b ∷ ts) zero d l = refl
pairs_further t notes (a ∷ b ∷ ts) (suc p) d l = ap (λ (ys : List Tree). over t (notes ∷ a ∷ b ∷ []) ∷ ys) (pairs_further t notes (b ∷ ts) p d (omega arith))

pair_further : (t : Tag) (ts : List Tree) (p : ℕ) (d : Tree) → suc (suc p) < length ts → pairs_in t (take (suc (suc (suc p))) ts) ≡ pairs_in t (take (suc (suc p)) ts) ++ over t (get_or ts 0 d ∷ get_or ts (suc p) d ∷ get_or ts (suc (suc p)) d ∷ []) ∷ []
pair_further t [] p d l = absurd (omega arith)
pair_further t (notes ∷ ts) p d l = pairs_further t notes ts p d (omega arith)

pair_at : (t : Tag) (ts : List Tree) (p : ℕ) (d : Tree) → 2 ≤ p → p < length ts → pairs_in t (take (p + 1) ts) ≡ pairs_in t (take p ts) ++ over t (get_or ts 0 d ∷ get_or ts (p - 1) d ∷ get_or ts p d ∷ []) ∷ []
pair_at t ts zero d low l = absurd (omega arith)
pair_at t ts (suc zero) d low l = absurd (omega arith)
pair_at t ts (suc (suc p)) d low l =
    let next : suc (suc p) + 1 ≡ suc (suc (suc p)) = omega arith in
    let last : suc (suc p) - 1 ≡ suc p = omega arith in
    ap (λ n. pairs_in t (take n ts)) next
    ∙ pair_further t ts p d l
    ∙ ap (λ n. pairs_in t (take (suc (suc p)) ts) ++ over t (get_or ts 0 d ∷ get_or ts n d ∷ get_or ts (suc (suc p)) d ∷ []) ∷ []) (sym last)

-- the pair of two numbers is one of their trees
pub pair_more : (t : Tag) (ts us vs : List Tree) (start : List Tree) (ids after kids pair : List ℕ) (p new : ℕ) → AreMade ts us ids (start ++ map canonical (pairs_in t (trees_at ts (take p kids)))) → AreHeld ts kids → 2 ≤ p → p < length kids → pair ≡ get_or kids 0 0 ∷ get_or kids (p - 1) 0 ∷ get_or kids p 0 ∷ [] → IsMade us vs new (canonical (node_over us t pair)) → after ≡ ids ++ new ∷ [] → AreMade ts vs after (start ++ map canonical (pairs_in t (trees_at ts (take (p + 1) kids))))
pair_more t ts us vs start ids after kids pair p new h held low l e k more =
    let first = taken_held ts kids 0 (get_or kids 0 0) held (omega arith) (get_or_default kids 0 0 _ (omega arith)) in
    let before = taken_held ts kids (p - 1) (get_or kids (p - 1) 0) held (omega arith) (get_or_default kids (p - 1) 0 _ (omega arith)) in
    let last = taken_held ts kids p (get_or kids p 0) held l (get_or_default kids p 0 _ l) in
    let trio : List ℕ = get_or kids 0 0 ∷ get_or kids (p - 1) 0 ∷ get_or kids p 0 ∷ [] in
    let three : AreHeld ts trio = (first, (before, (last, tt))) in
    let kept : node_over us t pair ≡ node_over ts t trio = ap (node_over us t) e ∙ ap (λ (xs : List Tree). over t xs) (trees_later ts us trio h.extends three) in
    let all : List Tree = trees_at ts kids in
    let long : length all ≡ length kids = length-map kids (tree_at ts) in
    let d : Tree = tree_at ts 0 in
    let at : (n : ℕ) → n < length kids → get_or all n d ≡ tree_at ts (get_or kids n 0) = λ n m. get_or-map (tree_at ts) kids n 0 d m in
    let pairs_now : pairs_in t (take (p + 1) all) ≡ pairs_in t (take p all) ++ over t (trees_at ts trio) ∷ [] =
    pair_at t all p d low (omega arith)
    ∙ ap (λ (x : Tree). pairs_in t (take p all) ++ over t (x ∷ get_or all (p - 1) d ∷ get_or all p d ∷ []) ∷ []) (at 0 (omega arith))
    ∙ ap (λ (x : Tree). pairs_in t (take p all) ++ over t (tree_at ts (get_or kids 0 0) ∷ x ∷ get_or all p d ∷ []) ∷ []) (at (p - 1) (omega arith))
    ∙ ap (λ (x : Tree). pairs_in t (take p all) ++ over t (tree_at ts (get_or kids 0 0) ∷ tree_at ts (get_or kids (p - 1) 0) ∷ x ∷ []) ∷ []) (at p l) in
    let one : List Tree = over t (trees_at ts trio) ∷ [] in
    let whole : pairs_in t (trees_at ts (take p kids)) ++ one ≡ pairs_in t (trees_at ts (take (p + 1) kids)) =
    ap (λ (ys : List Tree). pairs_in t ys ++ one) (sym (take-map (tree_at ts) p kids)) ∙ sym pairs_now ∙ ap (pairs_in t) (take-map (tree_at ts) (p + 1) kids) in
    subst (λ (ns : List ℕ). AreMade ts vs ns (start ++ map canonical (pairs_in t (trees_at ts (take (p + 1) kids))))) (sym more)
    (are_made_at ts vs (ids ++ new ∷ []) _ _
    (append_assoc start (map canonical (pairs_in t (trees_at ts (take p kids)))) (map canonical one)
    ∙ ap (λ (ys : List Tree). start ++ ys) (sym (map-append canonical (pairs_in t (trees_at ts (take p kids))) one) ∙ ap (map canonical) whole))
    (made_more ts us vs ids _ new _ h (made_at us vs new _ _ (ap canonical kept) k)))

pub trio_is : (xs pair : List ℕ) (a b c p : ℕ) → pair ≡ a ∷ b ∷ c ∷ [] → a ≡ get_or xs 0 a → b ≡ get_or xs (p - 1) b → c ≡ get_or xs p c → p < length xs → pair ≡ get_or xs 0 0 ∷ get_or xs (p - 1) 0 ∷ get_or xs p 0 ∷ []
trio_is xs pair a b c p e f g h l =
    let first = f ∙ get_or_default xs 0 a 0 (omega arith) in
    let before = g ∙ get_or_default xs (p - 1) b 0 (omega arith) in
    let last = h ∙ get_or_default xs p c 0 l in
    cc

-- an axiom that is not of three members or more
pub spread_turned : (ts us : List Tree) (ids after : List ℕ) (id new : ℕ) → AreHeld ts ids → is_paired (tree_at ts id) ≡ false → IsMade ts us new (canonical (turned (tree_at ts id))) → after ≡ ids ++ new ∷ [] → AreMade ts us after (trees_at ts ids ++ map canonical (spread (tree_at ts id)))
spread_turned ts us ids after id new held e k more =
    let t = tree_at ts id in
    let one : spread t ≡ turned t ∷ [] = ap (λ (b : Bool). cond b (pairs_in (tag_of t) (kids_in t)) (turned t ∷ [])) e in
    subst (λ (ns : List ℕ). AreMade ts us ns (trees_at ts ids ++ map canonical (spread t))) (sym more)
    (are_made_at ts us (ids ++ new ∷ []) _ _ (ap (λ (ys : List Tree). trees_at ts ids ++ map canonical ys) (sym one))
    (made_more ts ts us ids (trees_at ts ids) new (canonical (turned t)) (are_made ts ids held) k))

-- what is true of the trees so far is true of one more
pub all_further : (fact : Tree → Type 0) (ts : List Tree) (all : List ℕ) (i id : ℕ) → i < length all → id ≡ get_or all i id → AllByRecursion fact (trees_at ts (take i all)) → fact (tree_at ts id) → AllByRecursion fact (trees_at ts (take (i + 1) all))
all_further fact ts all i id l e h k = subst (AllByRecursion fact) (sym (trees_further ts all i id l e)) (all_pushed fact (trees_at ts (take i all)) (tree_at ts id) h k)
