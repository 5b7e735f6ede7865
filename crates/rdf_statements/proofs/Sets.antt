-- Axioms are held with one set of annotations after the other.
use Rattle.std.specs.Prelude.{◌≡◌, List, [], ◌∷◌, ◌++◌, Contains, map}
use Rattle.std.proofs.Common.{refl, sym, ap, subst, append_assoc, append-nil, ◌∙◌}
use Rattle.std.proofs.lemmas.List.Elements.{Contains-append_right}
use Rattle.owl_list.proofs.AscendingLaws.{in_head, in_map}
use Rattle.owl_tree.specs.declared.tag.Tag.{Tag}
use Rattle.owl_tree.specs.Trees.{Tree, node, kids_of}
use Rattle.tree_stores.specs.Stores.{AreStanding, IsTreeFault, Keeps, StandFor}
use Rattle.tree_stores.proofs.StoreLaws.{keeps_all, keeps_more, stand_still, one_more_stands}
use Rattle.tree_stores.specs.declared.fault.TreeFault.{TreeFault}
use Rattle.rdf_meaning.specs.Statements.{axioms_of}
use Rattle.rdf_statements.specs.Holding.{IsFaultOfOne}
use Rattle.rdf_statements.proofs.Faults.{fault_of_one}

abbrev axiom_of : Tag → List Tree → Tree → Tree
axiom_of tag ts s = node tag (kids_of (s ∷ ts))

pub map_both : {A B : Type 0} (f : A → B) (xs ys : List A) → map f (xs ++ ys) ≡ map f xs ++ map f ys
map_both f [] ys = refl
map_both f (x ∷ xs) ys = ap (λ more. f x ∷ more) (map_both f xs ys)

module _ {N : Type 0} (Old : Tree → N → Type 0) where
  -- of the sets so many have their axioms
  pub record IsPartly (Now : Tree → N → Type 0) (tag : Tag) (ts ss : List Tree) (axioms rest : List N) : Type 0 where
    pub done : List Tree
    pub left : List Tree
    pub split : ss ≡ done ++ left
    pub stand : StandFor Now (axioms_of tag ts done) axioms
    pub left_stand : StandFor Now left rest

  pub record AreSoFar (Now : Tree → N → Type 0) (tag : Tag) (sets kids : List N) (axioms rest : List N) : Type 0 where
    pub kept : Keeps Old Now
    pub each : (ss ts : List Tree) → StandFor Old ss sets → StandFor Old ts kids → IsPartly Now tag ts ss axioms rest

  pub none_so_far : (tag : Tag) (sets kids : List N) → AreSoFar Old tag sets kids [] sets
  none_so_far tag sets kids = record {
    kept = keeps_all Old;
    each = λ ss ts hs hk. record { done = []; left = ss; split = refl; stand = tt; left_stand = hs };
  }

  module _ (Now : Tree → N → Type 0) (tag : Tag) (ts : List Tree) where
    -- the next set, and its tree
    pub record IsNext (ss : List Tree) (set : N) (behind : List N) (axioms : List N) : Type 0 where
      pub done : List Tree
      pub s : Tree
      pub left : List Tree
      pub split : ss ≡ done ++ s ∷ left
      pub stand : StandFor Now (axioms_of tag ts done) axioms
      pub set_stands : Now s set
      pub left_stand : StandFor Now left behind

    next_of : (ss done left : List Tree) (axioms : List N) (set : N) (behind : List N) → ss ≡ done ++ left → StandFor Now (axioms_of tag ts done) axioms → StandFor Now left (set ∷ behind) →
        IsNext ss set behind axioms
    next_of ss done [] axioms set behind split stand h = absurd h
    next_of ss done (s ∷ left) axioms set behind split stand h =
        record { done = done; s = s; left = left; split = split; stand = stand; set_stands = h.0; left_stand = h.1 }

    pub the_next : (ss : List Tree) (axioms rest : List N) (set : N) (behind : List N) → IsPartly Now tag ts ss axioms rest → rest ≡ set ∷ behind → IsNext ss set behind axioms
    the_next ss axioms rest set behind h first =
        next_of ss h.done h.left axioms set behind h.split h.stand (subst (StandFor Now h.left) first h.left_stand)

  module _ (Now New : Tree → N → Type 0) (tag : Tag) (sets kids axioms rest : List N) (set : N) (behind : List N) (h : AreSoFar Now tag sets kids axioms rest) (first : rest ≡ set ∷ behind) where
    pub next_standing : AreStanding Old sets → AreStanding Old kids → AreStanding Now (set ∷ kids)
    next_standing s k =
        let n = the_next Now tag k.trees s.trees axioms rest set behind (h.each s.trees k.trees s.stand k.stand) first in
        record { trees = n.s ∷ k.trees; stand = (n.set_stands, stand_still Old Now h.kept k.trees kids k.stand) }

    abbrev IsHeldNext : N → Type 0
    IsHeldNext a = (s : Tree) (ts : List Tree) → Now s set → StandFor Now ts kids → New (axiom_of tag ts s) a

    pub one_more : (a : N) → Keeps Now New → IsHeldNext a → AreSoFar New tag sets kids (axioms ++ a ∷ []) behind
    one_more a kept held = record {
      kept = keeps_more Old Now New h.kept kept;
      each = λ ss ts hs hk.
          let n = the_next Now tag ts ss axioms rest set behind (h.each ss ts hs hk) first in
          record {
            done = n.done ++ n.s ∷ [];
            left = n.left;
            split = n.split ∙ sym (append_assoc n.done (n.s ∷ []) n.left);
            stand =
                subst (λ us. StandFor New us (axioms ++ a ∷ [])) (sym (map_both (axiom_of tag ts) n.done (n.s ∷ [])))
                (one_more_stands New (axioms_of tag ts n.done) axioms (axiom_of tag ts n.s) a
                (stand_still Now New kept (axioms_of tag ts n.done) axioms n.stand)
                (held n.s ts n.set_stands (stand_still Old Now h.kept ts kids hk)));
            left_stand = stand_still Now New kept n.left behind n.left_stand;
          };
    }

    pub next_fault : {H : Type 0} (fault : TreeFault H) → ((s : Tree) (ts : List Tree) → Now s set → StandFor Now ts kids → IsTreeFault (axiom_of tag ts s) fault) →
        (ss ts : List Tree) → StandFor Old ss sets → StandFor Old ts kids → IsFaultOfOne (axioms_of tag ts ss) fault
    next_fault fault is ss ts hs hk =
        let n = the_next Now tag ts ss axioms rest set behind (h.each ss ts hs hk) first in
        let among = subst (λ us. Contains us n.s) (sym n.split) (Contains-append_right n.done (n.s ∷ n.left) n.s (in_head n.s n.left)) in
        fault_of_one (Contains (axioms_of tag ts ss)) (axiom_of tag ts n.s) (in_map (axiom_of tag ts) ss n.s among) fault (is n.s ts n.set_stands (stand_still Old Now h.kept ts kids hk))

  none_left : (Now : Tree → N → Type 0) (tag : Tag) (ts ss done left : List Tree) (axioms : List N) → ss ≡ done ++ left → StandFor Now (axioms_of tag ts done) axioms → StandFor Now left [] →
      StandFor Now (axioms_of tag ts ss) axioms
  none_left Now tag ts ss done [] axioms split stand h = subst (λ us. StandFor Now (axioms_of tag ts us) axioms) (sym (split ∙ append-nil done)) stand
  none_left Now tag ts ss done (s ∷ left) axioms split stand h = absurd h

  pub all_held : (Now : Tree → N → Type 0) (tag : Tag) (sets kids axioms rest : List N) → AreSoFar Now tag sets kids axioms rest → rest ≡ [] →
      (ss ts : List Tree) → StandFor Old ss sets → StandFor Old ts kids → StandFor Now (axioms_of tag ts ss) axioms
  all_held Now tag sets kids axioms rest h none ss ts hs hk =
      let p = h.each ss ts hs hk in
      none_left Now tag ts ss p.done p.left axioms p.split p.stand (subst (StandFor Now p.left) none p.left_stand)
