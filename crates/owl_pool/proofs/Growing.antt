-- Numbers stay right while a pool grows.
use Rattle.std.proofs.Common.{◌≡◌, ◌<◌, ◌+◌, inl, inr, ℕ, List, [], ◌∷◌, ◌++◌, length, get_or, map, take, sym, ap, ◌∙◌, subst}
use Rattle.std.proofs.lemmas.List.{append-nil, append_assoc, map-append, take_more}
use Rattle.std.proofs.lemmas.Option.{get_or_from_slice_get, slice_get_within}
use Rattle.std.proofs.lemmas.Slice.Zip.{all_zipped_more}
use Rattle.owl_arena.specs.Growth.{Adds}
use Rattle.owl_arena.specs.Held.{tree_at}
use Rattle.owl_arena.proofs.HeldLaws.{held_more, kids_stay}
use Rattle.owl_doc.specs.Documents.{Document, ontology_of}
use Rattle.owl_list.proofs.AscendingLaws.{all_pushed}
use Rattle.owl_pool.specs.Pooling.{AreNumbers, ArePooled, Grows, IsPooled, IsPoured, Numbered}
use Rattle.owl_tree.specs.Ontologies.{Ontology}
use Rattle.owl_tree.specs.Trees.{Tree}

pub grows_itself : (ts : List Tree) → Grows ts ts
grows_itself ts = record { more = []; trees = sym (append-nil ts) }

pub grows_on : (ts us vs : List Tree) (t : Tree) → Grows ts us → Adds us vs t → Grows ts vs
grows_on ts us vs t g (inl h) = record { more = g.more; trees = h.1 ∙ g.trees }
grows_on ts us vs t g (inr h) = record { more = g.more ++ t ∷ []; trees = h.1 ∙ ap (λ (xs : List Tree). xs ++ t ∷ []) g.trees ∙ append_assoc ts g.more (t ∷ []) }

module _ (ts us : List Tree) (g : Grows ts us) where
  pub numbers_later : (numbers : List ℕ) (others : List Tree) → AreNumbers ts numbers others → AreNumbers us numbers others
  numbers_later numbers others n = subst (λ (xs : List Tree). AreNumbers xs numbers others) (sym g.trees) (record { held = held_more ts g.more numbers n.held; trees = kids_stay ts g.more numbers n.held ∙ n.trees })

  pooled_later : (os : List Ontology) (ns : List Numbered) → ArePooled ts os ns → ArePooled us os ns
  pooled_later [] [] h = tt
  pooled_later [] (n ∷ ns) h = absurd h
  pooled_later (o ∷ os) [] h = absurd h
  pooled_later (o ∷ os) (n ∷ ns) h = (
    record { notes = numbers_later n.notes o.annotations h.0.notes; axioms = numbers_later n.axioms o.axioms h.0.axioms },
    pooled_later os ns h.1,
  )

  -- one more document
  pub pooled_more : (ds : List Document) (place : ℕ) (d : Document) (ns now : List Numbered) (n : Numbered) → now ≡ ns ++ n ∷ [] → place < length ds → d ≡ get_or ds place d → ArePooled ts (map ontology_of (take place ds)) ns → IsPooled us (ontology_of d) n → ArePooled us (map ontology_of (take (place + 1) ds)) now
  pooled_more ds place d ns now n pushed inside is h one =
      let next = take_more ds place d inside ∙ ap (λ (e : Document). take place ds ++ e ∷ []) (sym is) in
      let whole = ap (map ontology_of) next ∙ map-append ontology_of (take place ds) (d ∷ []) in
      let both = all_zipped_more (IsPooled us) (map ontology_of (take place ds)) ns (ontology_of d) n (pooled_later (map ontology_of (take place ds)) ns h) one in
      subst (λ (os : List Ontology). ArePooled us os now) (sym whole) (subst (λ (ms : List Numbered). ArePooled us (map ontology_of (take place ds) ++ ontology_of d ∷ []) ms) (sym pushed) both)

-- one more tree
pub numbers_more : (ts us vs : List Tree) (numbers now : List ℕ) (place number : ℕ) → now ≡ numbers ++ number ∷ [] → place < length ts → AreNumbers us numbers (take place ts) → IsPoured us vs (tree_at ts place) number → AreNumbers vs now (take (place + 1) ts)
numbers_more ts us vs numbers now place number pushed inside n p =
    let kept = numbers_later us vs (grows_on us us vs (tree_at ts place) (grows_itself us) p.added) numbers (take place ts) n in
    let last : tree_at vs number ≡ tree_at ts place = get_or_from_slice_get vs number _ _ p.at in
    subst (λ (ns : List ℕ). AreNumbers vs ns (take (place + 1) ts)) (sym pushed) (record {
      held = all_pushed (λ (k : ℕ). k < length vs) numbers number kept.held (slice_get_within vs number _ p.at);
      trees = map-append (tree_at vs) numbers (number ∷ [])
          ∙ ap (λ (xs : List Tree). xs ++ tree_at vs number ∷ []) kept.trees
          ∙ ap (λ (t : Tree). take place ts ++ t ∷ []) last
          ∙ sym (take_more ts place _ inside);
    })
