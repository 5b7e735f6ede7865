-- Annotations and sets of them, one behind the other, as a store takes them.
use Rattle.std.specs.Prelude.{◌≡◌, ◌↔◌, ◌≤◌, ◌<◌, ◌+◌, ◌-◌, ℕ, zero, suc, Bool, true, false, cond, IsTrue, List, [], ◌∷◌, ◌++◌, Contains, Some, drop, length, slice_get, take}
use Rattle.std.specs.List.{filter}
use Rattle.std.proofs.Common.{append-nil, append_assoc, arith, get_or, refl, sym, ap, ◌∙◌, subst}
use Rattle.std.proofs.Math.Seq.{take-suc}
use Rattle.std.proofs.lemmas.List.{get_or-drop, length-drop, map-append}
use Rattle.std.proofs.lemmas.List.Elements.{Contains-append_right, filter-append}
use Rattle.std.proofs.lemmas.Option.{get_or_from_slice_get, slice_get_within}
use Rattle.owl_kind.specs.Kinds.{Entity}
use Rattle.owl_list.proofs.AscendingLaws.{in_head}
use Rattle.owl_tree.specs.declared.tag.Tag.TheVariants as tag
use Rattle.owl_tree.specs.Trees.{Tree, kids_of, node}
use Rattle.rdf_graph.specs.declared.term.Term.{Term}
use Rattle.rdf_graph.specs.declared.triple.Triple.{Triple}
use Rattle.rdf_graph.specs.Graphs.{subject_at}
use Rattle.rdf_graph.proofs.SubjectLaws.{triples_between}
use Rattle.rdf_meaning.specs.Statements.{Annotates, no_note, note, AreSets, no_set, set, IsNoteOf, annotated, is_annotation_triple, notes, notes_of, IsNotedTree, note_tree}
use Rattle.tree_stores.specs.declared.fault.TreeFault.{TreeFault}
use Rattle.tree_stores.specs.Stores.{AreStanding, IsTreeFault, Keeps, StandFor}
use Rattle.tree_stores.proofs.StoreLaws.{both_stand, keeps_all, keeps_more, stand_still}
use Rattle.rdf_annotations.specs.declared.annotations.Said.{Said}
use Rattle.rdf_annotations.specs.Annotations.{AreAnnotations, IsFaultOfSome}
use Rattle.rdf_annotations.proofs.AnnotationLaws.{fault_of_some}
use Rattle.rdf_annotations.specs.Held.{AddsAnnotations, IsSaid}

module _ (g : List Triple) (k : List Entity) where
  both_annotate : (ts us : List Triple) (vs ws : List Tree) → Annotates g k ts vs → Annotates g k us ws → Annotates g k (ts ++ us) (vs ++ ws)
  both_annotate _ us _ ws (no_note) b = b
  both_annotate _ us _ ws (note t ts p v sets vs e f d a) b =
      subst (λ (all : List Tree). Annotates g k (t ∷ (ts ++ us)) all) (sym (append_assoc (annotated p v sets) vs ws))
      (note t (ts ++ us) p v sets (vs ++ ws) e f d (both_annotate ts us vs ws a b))

  pub one_more_set : (rs : List Term) (sets : List Tree) (r : Term) (ts : List Tree) → AreSets g k rs sets → Annotates g k (notes_of g r) ts →
      AreSets g k (rs ++ r ∷ []) (sets ++ notes ts ∷ [])
  one_more_set _ _ r ts (no_set) a = set r [] ts [] a no_set
  one_more_set _ _ r ts (set s rs us sets b h) a = set s (rs ++ r ∷ []) us (sets ++ notes ts ∷ []) b (one_more_set rs sets r ts h a)

-- the triples from one place to another
abbrev between : List Triple → ℕ → ℕ → List Triple
between g start place = take (place - start) (drop start g)

pub there : {X : Type 0} (xs : List X) (i : ℕ) → i < length xs → (x : X) × (slice_get xs i ≡ Some x)
there [] i h = absurd (omega arith)
there (x ∷ xs) zero h = (x, refl)
there (x ∷ xs) (suc i) h = there xs i (omega arith)

one_between : (g : List Triple) (start place : ℕ) (t : Triple) → start ≤ place → slice_get g place ≡ Some t → between g start (place + 1) ≡ between g start place ++ t ∷ []
one_between g start place t le at =
    let within = slice_get_within g place t at in
    let d = place - start in
    let there : start + d ≡ place = omega arith in
    let here : get_or (drop start g) d t ≡ t = get_or-drop start g d t ∙ ap (λ i. get_or g i t) there ∙ get_or_from_slice_get g place t t at in
    let longer : d < length (drop start g) = simp length-drop (omega (arith, within)) in
    ap (λ m. take m (drop start g)) (let e : (place + 1) - start ≡ suc d = omega arith in e)
    ∙ take-suc (drop start g) d t longer
    ∙ ap (λ u. take d (drop start g) ++ u ∷ []) here

none_between : (g : List Triple) (start : ℕ) → between g start start ≡ []
none_between g start = ap (λ m. take m (drop start g)) (let e : start - start ≡ 0 = omega arith in e)

module _ (g : List Triple) (k : List Entity) (header : Term) where
  abbrev said_by : List Triple → List Triple
  said_by = filter (is_annotation_triple g k header)

  nothing_kept : (t : Triple) → is_annotation_triple g k header t ≡ false → said_by (t ∷ []) ≡ []
  nothing_kept t e = ap (λ (b : Bool). cond b (t ∷ []) []) e

  -- the triple at the place is one of the graph that says an annotation
  pub said_there : (place : ℕ) (u : Triple) (answer : Bool) → place < length g → slice_get g place ≡ Some u → answer ≡ is_annotation_triple g k header u → answer ≡ true →
      Contains g u × IsTrue (is_annotation_triple g k header u)
  said_there place u answer within at is some = ((place, within, get_or_from_slice_get g place u u at), sym is ∙ some)

module _ {N : Type 0} (g : List Triple) (k : List Entity) (header : Term) where
  -- the annotations of the triples from one place to another are held
  pub record AnnotatesUpTo (Old Now : Tree → N → Type 0) (start place : ℕ) (ns : List N) : Type 0 where
    pub trees : List Tree
    pub annotates : Annotates g k (said_by g k header (between g start place)) trees
    pub stand : StandFor Now trees ns
    pub kept : Keeps Old Now
    pub begun : start ≤ place

  pub none_annotated : (Old : Tree → N → Type 0) (start : ℕ) (ns : List N) → ns ≡ [] → AnnotatesUpTo Old Old start start ns
  none_annotated Old start ns e = record {
    trees = [];
    annotates = subst (λ ts. Annotates g k (said_by g k header ts) []) (sym (none_between g start)) no_note;
    stand = subst (StandFor Old []) (sym e) tt;
    kept = keeps_all Old;
    begun = omega arith;
  }

  pub next_annotated : (Old Now New : Tree → N → Type 0) (start place : ℕ) (t : Triple) (ns more : List N) → slice_get g place ≡ Some t →
      AnnotatesUpTo Old Now start place ns → AddsAnnotations Now New g k (said_by g k header (t ∷ [])) ns more → Keeps Now New → AnnotatesUpTo Old New start (place + 1) more
  next_annotated Old Now New start place t ns more at h a kept = record {
    trees = h.trees ++ a.trees;
    annotates =
        subst (λ ts. Annotates g k ts (h.trees ++ a.trees))
        (sym (ap (said_by g k header) (one_between g start place t h.begun at) ∙ filter-append (is_annotation_triple g k header) (between g start place) (t ∷ [])))
        (both_annotate g k (said_by g k header (between g start place)) (said_by g k header (t ∷ [])) h.trees a.trees h.annotates a.annotates);
    stand = a.stand h.trees h.stand;
    kept = keeps_more Old Now New h.kept kept;
    begun = let b = h.begun in omega (arith, b);
  }

  pub all_annotated : (Old Now : Tree → N → Type 0) (start end : ℕ) (x : Term) (ns : List N) →
      ((place : ℕ) → (subject_at g place ≡ Some x) ↔ ((start ≤ place) × (place < end))) → AnnotatesUpTo Old Now start end ns → AreAnnotations Now g k header x ns
  all_annotated Old Now start end x ns among h = record {
    trees = h.trees;
    annotates = subst (λ ts. Annotates g k (said_by g k header ts) h.trees) (triples_between g x start end among) h.annotates;
    stand = h.stand;
  }

  -- a triple that says none, and one that says some
  pub nothing_said : (Old : Tree → N → Type 0) (t u : Triple) (ns : List N) (answer : Bool) → t ≡ u → answer ≡ is_annotation_triple g k header u → answer ≡ false →
      AddsAnnotations Old Old g k (said_by g k header (t ∷ [])) ns ns
  nothing_said Old t u ns answer same is none = record {
    trees = [];
    annotates = subst (λ ts. Annotates g k ts []) (sym (nothing_kept g k header t (ap (is_annotation_triple g k header) same ∙ sym is ∙ none))) no_note;
    stand = λ before h. subst (λ ts. StandFor Old ts ns) (sym (append-nil before)) h;
  }

  pub something_said : (Old Mid New : Tree → N → Type 0) (t u : Triple) (old new : List N) (answer : Bool) → t ≡ u → answer ≡ is_annotation_triple g k header u → answer ≡ true →
      Keeps Old Mid → AddsAnnotations Mid New g k (u ∷ []) old new → AddsAnnotations Old New g k (said_by g k header (t ∷ [])) old new
  something_said Old Mid New t u old new answer same is some kept a =
      let one : is_annotation_triple g k header t ≡ true = ap (is_annotation_triple g k header) same ∙ sym is ∙ some in
      let kept_one : said_by g k header (t ∷ []) ≡ u ∷ [] = ap (λ (b : Bool). cond b (t ∷ []) []) one ∙ ap (λ (v : Triple). v ∷ []) same in
      record {
        trees = a.trees;
        annotates = subst (λ ts. Annotates g k ts a.trees) (sym kept_one) a.annotates;
        stand = λ before h. a.stand before (stand_still Old Mid kept before old h);
      }

  -- an annotation that is too large is one that the graph says
  pub annotation_fault : {H : Type 0} (Stands : Tree → N → Type 0) (t : Triple) (said : Said N) (h : IsSaid Stands g k t said) (s : Tree) → Contains h.variants.sets s →
      Contains g t → IsTrue (is_annotation_triple g k header t) → (fault : TreeFault H) →
      IsTreeFault (node tag.Annotation (kids_of (s ∷ h.property.tree ∷ h.value.tree ∷ []))) fault → IsFaultOfSome (IsNotedTree g k header) fault
  annotation_fault Stands t said h s m inside is fault f =
      let tree = node tag.Annotation (kids_of (s ∷ h.property.tree ∷ h.value.tree ∷ [])) in
      let says : IsNoteOf g k t tree = record {
        has = record {
          property = h.property.tree;
          value = h.value.tree;
          is_property = h.property.is;
          is_value = h.value.is;
          sets = h.variants.sets;
          variants = h.variants.variants;
        };
        annotations = s;
        inside = m;
        whole = refl;
      } in
      fault_of_some (IsNotedTree g k header) tree (note_tree t tree inside is says) fault f

module _ {N : Type 0} (Old : Tree → N → Type 0) (p v : Tree) (sets : List Tree) where
  abbrev annotation : Tree → Tree
  annotation s = node tag.Annotation (kids_of (s ∷ p ∷ v ∷ []))

  -- of the sets some have their annotations, and these are the numbers of the others
  pub record AddsUpTo (Now : Tree → N → Type 0) (rest old now : List N) : Type 0 where
    pub done : List Tree
    pub left : List Tree
    pub split : sets ≡ done ++ left
    pub others : StandFor Now left rest
    pub stand : (before : List Tree) → StandFor Old before old → StandFor Now (before ++ annotated p v done) now
    pub kept : Keeps Old Now

  pub none_added : (rest old : List N) → StandFor Old sets rest → AddsUpTo Old rest old old
  none_added rest old h = record {
    done = [];
    left = sets;
    split = refl;
    others = h;
    stand = λ before b. subst (λ ts. StandFor Old ts old) (sym (append-nil before)) b;
    kept = keeps_all Old;
  }

  module _ (Now : Tree → N → Type 0) (variant : N) (rest old now behind : List N) where
    first_of : (h : AddsUpTo Now rest old now) (left : List Tree) → h.left ≡ left → StandFor Now left (variant ∷ behind) → (s : Tree) × Contains sets s × Now s variant
    first_of h [] e stand = absurd stand
    first_of h (s ∷ left) e stand = (
      s,
      subst (λ (ts : List Tree). Contains ts s) (sym (h.split ∙ ap (λ (ts : List Tree). h.done ++ ts) e)) (Contains-append_right h.done (s ∷ left) s (in_head s left)),
      stand.0,
    )

    -- the next number is that of one of the sets
    pub first_stands : AddsUpTo Now rest old now → rest ≡ variant ∷ behind → (s : Tree) × Contains sets s × Now s variant
    first_stands h e = first_of h h.left refl (subst (StandFor Now h.left) e h.others)

    more_of : (New : Tree → N → Type 0) (id : N) (h : AddsUpTo Now rest old now) (left : List Tree) → h.left ≡ left → StandFor Now left (variant ∷ behind) →
        ((s : Tree) → Now s variant → New (annotation s) id) → Keeps Now New → AddsUpTo New behind old (now ++ id ∷ [])
    more_of New id h [] e stand held kept = absurd stand
    more_of New id h (s ∷ left) e stand held kept = record {
      done = h.done ++ s ∷ [];
      left = left;
      split = h.split ∙ ap (λ (ts : List Tree). h.done ++ ts) e ∙ sym (append_assoc h.done (s ∷ []) left);
      others = stand_still Now New kept left behind stand.1;
      stand = λ before b.
          subst (λ ts. StandFor New ts (now ++ id ∷ []))
          (append_assoc before (annotated p v h.done) (annotation s ∷ []) ∙ ap (λ ts. before ++ ts) (sym (map-append annotation h.done (s ∷ []))))
          (both_stand New (before ++ annotated p v h.done) (annotation s ∷ []) now (id ∷ [])
          (stand_still Now New kept (before ++ annotated p v h.done) now (h.stand before b)) (held s stand.0, tt));
      kept = keeps_more Old Now New h.kept kept;
    }

    pub next_added : (New : Tree → N → Type 0) (id : N) → AddsUpTo Now rest old now → rest ≡ variant ∷ behind →
        ((s : Tree) → Now s variant → New (annotation s) id) → Keeps Now New → AddsUpTo New behind old (now ++ id ∷ [])
    next_added New id h e = more_of New id h h.left refl (subst (StandFor Now h.left) e h.others)

  none_left : (Now : Tree → N → Type 0) (left : List Tree) → StandFor Now left [] → left ≡ []
  none_left Now [] h = refl
  none_left Now (t ∷ left) h = absurd h

  all_added_here : (Now : Tree → N → Type 0) (rest old now : List N) → rest ≡ [] → (h : AddsUpTo Now rest old now) → sets ≡ h.done
  all_added_here Now rest old now e h =
      h.split ∙ ap (λ (ts : List Tree). h.done ++ ts) (none_left Now h.left (subst (StandFor Now h.left) e h.others)) ∙ append-nil h.done

  pub all_added : (Now : Tree → N → Type 0) (rest old now : List N) → rest ≡ [] → AddsUpTo Now rest old now → (before : List Tree) → StandFor Old before old → StandFor Now (before ++ annotated p v sets) now
  all_added Now rest old now e h before b = subst (λ ss. StandFor Now (before ++ annotated p v ss) now) (sym (all_added_here Now rest old now e h)) (h.stand before b)

-- what the triple says is held, but for these sets
pub record IsHolding {N : Type 0} (Old Now : Tree → N → Type 0) (g : List Triple) (k : List Entity) (t : Triple) (said : Said N) (rest old now : List N) : Type 0 where
  pub is : IsSaid Old g k t said
  pub adds : AddsUpTo Old is.property.tree is.value.tree is.variants.sets Now rest old now

module _ {N : Type 0} (g : List Triple) (k : List Entity) (Old Now : Tree → N → Type 0) (t : Triple) (said : Said N) where
  pub none_held : (old : List N) → IsSaid Old g k t said → IsHolding Old Old g k t said said.variants.items old old
  none_held old h = record { is = h; adds = none_added Old h.property.tree h.value.tree h.variants.sets said.variants.items old h.variants.stand }

  -- the next set stands, and so do the property and the value
  pub record NextStands (rest old now : List N) (h : IsHolding Old Now g k t said rest old now) (variant : N) : Type 0 where
    pub set : Tree
    pub inside : Contains h.is.variants.sets set
    pub stand : StandFor Now (set ∷ h.is.property.tree ∷ h.is.value.tree ∷ []) (variant ∷ said.property ∷ said.value ∷ [])

  pub next_stands : (rest old now behind : List N) (variant : N) (h : IsHolding Old Now g k t said rest old now) → rest ≡ variant ∷ behind → NextStands rest old now h variant
  next_stands rest old now behind variant h e =
      let first = first_stands Old h.is.property.tree h.is.value.tree h.is.variants.sets Now variant rest old now behind h.adds e in
      record { set = first.0; inside = first.1; stand = (first.2, (h.adds.kept _ _ h.is.property.stands, (h.adds.kept _ _ h.is.value.stands, tt))) }

  pub next_can : (rest old now behind : List N) (variant : N) → IsHolding Old Now g k t said rest old now → rest ≡ variant ∷ behind →
      AreStanding Now (variant ∷ said.property ∷ said.value ∷ [])
  next_can rest old now behind variant h e =
      let n = next_stands rest old now behind variant h e in record { trees = n.set ∷ h.is.property.tree ∷ h.is.value.tree ∷ []; stand = n.stand }

  pub next_held : (New : Tree → N → Type 0) (rest old now behind : List N) (variant id : N) → IsHolding Old Now g k t said rest old now → rest ≡ variant ∷ behind →
      ((s p v : Tree) → StandFor Now (s ∷ p ∷ v ∷ []) (variant ∷ said.property ∷ said.value ∷ []) → New (node tag.Annotation (kids_of (s ∷ p ∷ v ∷ []))) id) → Keeps Now New →
      IsHolding Old New g k t said behind old (now ++ id ∷ [])
  next_held New rest old now behind variant id h e held kept = record {
    is = h.is;
    adds =
        next_added Old h.is.property.tree h.is.value.tree h.is.variants.sets Now variant rest old now behind New id h.adds e
        (λ s stands. held s _ _ (stands, (h.adds.kept _ _ h.is.property.stands, (h.adds.kept _ _ h.is.value.stands, tt)))) kept;
  }

  pub next_fault : {H : Type 0} (header : Term) (rest old now behind : List N) (variant : N) → IsHolding Old Now g k t said rest old now → rest ≡ variant ∷ behind →
      Contains g t → IsTrue (is_annotation_triple g k header t) → (fault : TreeFault H) →
      ((s p v : Tree) → StandFor Now (s ∷ p ∷ v ∷ []) (variant ∷ said.property ∷ said.value ∷ []) → IsTreeFault (node tag.Annotation (kids_of (s ∷ p ∷ v ∷ []))) fault) →
      IsFaultOfSome (IsNotedTree g k header) fault
  next_fault header rest old now behind variant h e inside is fault told =
      let n = next_stands rest old now behind variant h e in
      annotation_fault g k header Old t said h.is n.set n.inside inside is fault (told n.set h.is.property.tree h.is.value.tree n.stand)

  -- all that the triple says is held
  pub all_held : (rest old now : List N) → rest ≡ [] → IsHolding Old Now g k t said rest old now → AddsAnnotations Old Now g k (t ∷ []) old now
  all_held rest old now e h = record {
    trees = annotated h.is.property.tree h.is.value.tree h.is.variants.sets;
    annotates =
        subst (Annotates g k (t ∷ [])) (append-nil (annotated h.is.property.tree h.is.value.tree h.is.variants.sets))
        (note t [] h.is.property.tree h.is.value.tree h.is.variants.sets [] h.is.property.is h.is.value.is h.is.variants.variants no_note);
    stand = all_added Old h.is.property.tree h.is.value.tree h.is.variants.sets Now rest old now e h.adds;
  }
