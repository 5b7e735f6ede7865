-- Facts that are held with each triple once.
use Rattle.std.proofs.Common.{◌≡◌, ◌∙◌, ◌≤◌, ◌+◌, ◌∷◌, ◌++◌, [], ℕ, List, Option, None, Some, Result, Ok, Err, Bool, true, false, ap, refl, subst, sym, arith}
use Rattle.std.specs.Prelude.{length, nat_le, unwrap_or, if◌then◌else◌}
use Rattle.std.specs.Option.{option_or}
use Rattle.owl_list.specs.Ascending.{AreApart}
use Rattle.owl_reader.specs.declared.fault.TokenFault.{TokenFault}
use Rattle.owl_reader.specs.declared.fault.TokenFault.TheVariants.{TooDeep}
use Rattle.ttl_grammar.specs.States.{Facts, bracket_opened, cell_added, closed, collection_closed, collection_opened, element_added, first_iri, most_nests, nil_iri, no_nest, node_term, rest_iri, stated, with_object, with_predicate, with_subject, with_triple}
use Rattle.ttl_grammar.specs.declared.node.Nest.{Nest}
use Rattle.ttl_grammar.specs.declared.node.Node.{Node}
use Rattle.ttl_grammar.specs.declared.node.Object.{Object}
use Rattle.ttl_grammar.specs.declared.node.Node.TheVariants as node
use Rattle.ttl_grammar.specs.declared.node.NodeTriple.{NodeTriple}
use Rattle.ttl_read.specs.Keeping.{AreHeld, AreSame}
use Rattle.ttl_read.proofs.Repeats.{all_held, held_after}

pub same_from : (held facts : Facts) → AreApart held.triples → held ≡ facts → AreSame held facts
same_from held facts once e = subst (AreSame held) e (record { others = refl; triples = all_held held.triples once })

-- A turn adds triples that don't depend on those that stand there, one at most, and nor does what it makes of the rest.
pub record IsTurn (turn : Facts → Facts) : Type 0 where
  pub adds : Facts → List NodeTriple
  pub is : (f : Facts) (ts : List NodeTriple) → turn (record f { triples = ts }) ≡ record (turn f) { triples = ts ++ adds f }
  pub few : (f : Facts) → length (adds f) ≤ 1

-- a turn that adds none
abbrev pub IsPlain : (Facts → Facts) → Type 0
IsPlain turn = (f : Facts) (ts : List NodeTriple) → turn (record f { triples = ts }) ≡ record (turn f) { triples = ts }

-- what is held behind a turn of what was held is held behind that of what was stated
pub turned_after : (turn : Facts → Facts) → IsTurn turn → (new a b : Facts) → AreSame new (turn a) → AreSame a b → AreSame new (turn b)
turned_after turn t new a b k h =
    let made : turn a ≡ record (turn b) { triples = a.triples ++ t.adds b } = ap turn h.others ∙ t.is b a.triples in
    let own : (turn b).triples ≡ b.triples ++ t.adds b = ap (λ (f : Facts). f.triples) (t.is b b.triples) in
    let now : (turn a).triples ≡ a.triples ++ t.adds b = ap (λ (f : Facts). f.triples) made in
    record {
      others = k.others ∙ ap (λ (f : Facts). record f { triples = new.triples }) made;
      triples = subst (AreHeld new.triples) (sym own) (held_after new.triples a.triples b.triples (t.adds b) (subst (AreHeld new.triples) now k.triples) h.triples);
    }

pub same_plain : (turn : Facts → Facts) → IsPlain turn → (a b : Facts) → AreSame a b → AreSame (turn a) (turn b)
same_plain turn p a b h =
    let made : turn a ≡ record (turn b) { triples = a.triples } = ap turn h.others ∙ p b a.triples in
    let own : (turn b).triples ≡ b.triples = ap (λ (f : Facts). f.triples) (p b b.triples) in
    let now : (turn a).triples ≡ a.triples = ap (λ (f : Facts). f.triples) made in
    record {
      others = made ∙ ap (λ (ts : List NodeTriple). record (turn b) { triples = ts }) (sym now);
      triples = subst (λ (ts : List NodeTriple). AreHeld ts (turn b).triples) (sym now) (subst (AreHeld a.triples) (sym own) h.triples);
    }

pub subject_plain : IsPlain with_subject
subject_plain f ts = refl

pub predicate_plain : IsPlain with_predicate
predicate_plain f ts = refl

pub bracket_plain : IsPlain (λ f. closed f.nest.whole f)
bracket_plain f ts = refl

one_stated : (s : Option Node) (p : Option (List ℕ)) (o : Option Object) → length (stated s p o) ≤ 1
one_stated (Some s) (Some p) (Some o) = omega arith
one_stated _ _ _ = omega arith

pub object_turn : IsTurn with_object
object_turn = record { adds = λ f. stated f.nest.subject f.nest.predicate f.term; is = λ f ts. refl; few = λ f. one_stated f.nest.subject f.nest.predicate f.term }

pub cell_turn : IsTurn cell_added
cell_turn = record {
  adds = λ f. stated f.nest.subject (Some rest_iri) (node_term (Some (node.Unlabelled f.unlabelled)));
  is = λ f ts. refl;
  few = λ f. one_stated f.nest.subject (Some rest_iri) (node_term (Some (node.Unlabelled f.unlabelled)));
}

pub element_turn : IsTurn element_added
element_turn = record { adds = λ f. stated f.nest.subject (Some first_iri) f.term; is = λ f ts. refl; few = λ f. one_stated f.nest.subject (Some first_iri) f.term }

pub collection_turn : IsTurn collection_closed
collection_turn = record {
  adds = λ f. stated f.nest.subject (Some rest_iri) (node_term (Some (node.Iri nil_iri)));
  is = λ f ts. refl;
  few = λ f. one_stated f.nest.subject (Some rest_iri) (node_term (Some (node.Iri nil_iri)));
}

-- ---- turns that may fail

unfoldable pub with_triples : List NodeTriple → Result Facts TokenFault → Result Facts TokenFault
with_triples ts (Ok f) = Ok (record f { triples = ts })
with_triples ts (Err fault) = Err fault

unfoldable pub Passes : (Facts → Result Facts TokenFault) → Type 0
Passes turn = (f : Facts) (ts : List NodeTriple) → turn (record f { triples = ts }) ≡ with_triples ts (turn f)

opened_by : (f : Facts) (ts : List NodeTriple) (nest : Nest) (n : ℕ) (many : Bool) → (if many then Err TooDeep else Ok (record f { nest = nest; outer = f.outer ++ f.nest ∷ []; unlabelled = n; triples = ts })) ≡ with_triples ts (if many then Err TooDeep else Ok (record f { nest = nest; outer = f.outer ++ f.nest ∷ []; unlabelled = n }))
unfolding with_triples
opened_by f ts nest n true = refl
opened_by f ts nest n false = refl

pub bracket_passes : Passes bracket_opened
unfolding Passes
bracket_passes f ts =
    let new = Some (node.Unlabelled f.unlabelled) in
    opened_by f ts (record { whole = new; subject = new; predicate = None }) (f.unlabelled + 1) (nat_le most_nests (length f.outer))

pub collection_passes : Passes collection_opened
unfolding Passes
collection_passes f ts = opened_by f ts no_nest f.unlabelled (nat_le most_nests (length f.outer))

-- ---- one triple more

pub triple_added : (old new : Facts) (s : Option Node) (p : Option (List ℕ)) (o : Option Object) (t : NodeTriple) → stated s p o ≡ t ∷ [] → AreSame new (record old { triples = old.triples ++ t ∷ [] }) → AreSame new (with_triple s p o old)
triple_added old new s p o t one h = subst (λ (ts : List NodeTriple). AreSame new (record old { triples = old.triples ++ ts })) (sym one) h

-- and of terms and facts that are equal to these
pub same_stated : (mid a b : Facts) (s t : Option Node) (p q : List ℕ) (o u : Option Object) → AreSame mid (with_triple s (Some p) o a) → s ≡ t → p ≡ q → o ≡ u → a ≡ b → AreSame mid (with_triple t (Some q) u b)
same_stated mid a b s t p q o u h e f g k = subst (AreSame mid) (λ i. with_triple (e i) (Some (f i)) (g i) (k i)) h

-- ---- one cell more, and the end of a list

or_is : (whole : Option Node) (new : Node) → Some (unwrap_or whole new) ≡ option_or whole (Some new)
or_is None new = refl
or_is (Some first) new = refl

abbrev with_cell : Option Node → ℕ → ℕ → Facts → Facts
with_cell whole n next f =
    record f { nest = record { whole = whole; subject = Some (node.Unlabelled n); predicate = None }; unlabelled = next }

cell_made_by : (whole : Option Node) (n next : ℕ) → IsPlain (with_cell whole n next)
cell_made_by whole n next f ts = refl

pub cell_made : (old mid : Facts) (first : Node) (whole : Option Node) (n next : ℕ)
    → AreSame mid (with_triple old.nest.subject (Some rest_iri) (node_term (Some (node.Unlabelled old.unlabelled))) old)
    → first ≡ unwrap_or whole (node.Unlabelled n) → whole ≡ mid.nest.whole → n ≡ old.unlabelled → next ≡ n + 1
    → AreSame (record mid { nest = record { whole = Some first; subject = Some (node.Unlabelled n); predicate = None }; unlabelled = next }) (cell_added old)
cell_made old mid first whole n next h is stands number behind =
    let begun : Some first ≡ option_or old.nest.whole (Some (node.Unlabelled old.unlabelled)) =
    ap Some is ∙ or_is whole (node.Unlabelled n)
    ∙ ap (λ (w : Option Node). option_or w (Some (node.Unlabelled n))) (stands ∙ ap (λ (f : Facts). f.nest.whole) h.others)
    ∙ ap (λ (k : ℕ). option_or old.nest.whole (Some (node.Unlabelled k))) number in
    let next_is : next ≡ old.unlabelled + 1 = behind ∙ ap (λ (k : ℕ). k + 1) number in
    let done : with_cell (Some first) n next (with_triple old.nest.subject (Some rest_iri) (node_term (Some (node.Unlabelled old.unlabelled))) old) ≡ cell_added old =
    λ i. with_cell (begun i) (number i) (next_is i) (with_triple old.nest.subject (Some rest_iri) (node_term (Some (node.Unlabelled old.unlabelled))) old) in
    subst (AreSame (with_cell (Some first) n next mid)) done
    (same_plain (with_cell (Some first) n next) (cell_made_by (Some first) n next) mid (with_triple old.nest.subject (Some rest_iri) (node_term (Some (node.Unlabelled old.unlabelled))) old) h)

pub list_closed : (old mid new : Facts) (whole : Option Node)
    → AreSame mid (with_triple old.nest.subject (Some rest_iri) (node_term (Some (node.Iri nil_iri))) old)
    → new ≡ closed whole mid → whole ≡ option_or mid.nest.whole (Some (node.Iri nil_iri)) → AreSame new (collection_closed old)
list_closed old mid new whole h is stands =
    let all = with_triple old.nest.subject (Some rest_iri) (node_term (Some (node.Iri nil_iri))) old in
    let same : whole ≡ option_or old.nest.whole (Some (node.Iri nil_iri)) =
    stands ∙ ap (λ (f : Facts). option_or f.nest.whole (Some (node.Iri nil_iri))) h.others in
    subst (λ (f : Facts). AreSame f (collection_closed old)) (sym is)
    (subst (λ (w : Option Node). AreSame (closed whole mid) (closed w all)) same
    (same_plain (closed whole) (λ f ts. refl) mid all h))
