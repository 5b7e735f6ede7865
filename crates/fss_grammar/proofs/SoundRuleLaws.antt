-- What each alternative of a rule for trees means.
use Rattle.std.proofs.Common.{◌≡◌, ℕ, Bool, true, false, List, [], ◌∷◌, ◌++◌, filter, Some, refl, sym, ap, ◌∙◌, subst, subst₂, append_assoc, append-nil, true≢false}
use Rattle.std.specs.Prelude.{if◌then◌else◌}
use Rattle.std.specs.Cmp.Derive.{both_true}
use Rattle.grammar.specs.Derivations.Event.{Do, Take}
use Rattle.grammar.specs.Pages.{IsIn}
use Rattle.grammar.specs.Pages.IsIn.{first, later}
use Rattle.grammar.specs.Pages.Named.{action, part, token as word}
use Rattle.grammar.proofs.YieldLaws.{Nothing}
use Rattle.owl_atom.specs.declared.prefixes.Prefix.{Prefix}
use Rattle.owl_tokens.specs.declared.token.Token.{Token}
use Rattle.owl_tokens.specs.declared.token.Token.TheVariants as token
use Rattle.owl_tokens.specs.declared.token.Sign.TheVariants as sign
use Rattle.owl_tree.specs.declared.atom.Atom.TheVariants.{Iri}
use Rattle.owl_tree.specs.declared.row.Sort.{Sort}
use Rattle.owl_tree.specs.declared.row.Sort.TheVariants as sort
use Rattle.owl_tree.specs.declared.tag.Tag.{Tag}
use Rattle.owl_tree.specs.declared.tag.Tag.TheVariants as tag
use Rattle.owl_tree.specs.Rows.{admits, is_tag, row_of, takes}
use Rattle.owl_tree.specs.Tags.{all_tags, number_of}
use Rattle.owl_tree.specs.Trees.{Tree, leaf, tag_of}
use Rattle.fss_terms.specs.Spelling.{leaf_spelling}
use Rattle.fss_terms.specs.Terms.{AreTerms, iri_of_token}
use Rattle.fss_terms.specs.Terms.BeginsLiteral.{plain, tagged, typed}
use Rattle.fss_terms.specs.declared.term.Term.{Term}
use Rattle.fss_terms.specs.declared.term.Term.TheVariants.{Atom as held}
use Rattle.fss_grammar.proofs.ActLaws.{done}
use Rattle.fss_grammar.specs.Classes.{Class}
use Rattle.fss_grammar.specs.Classes.Class.{carets, language}
use Rattle.fss_grammar.proofs.ClassLaws.{IsOf, is_of}
use Rattle.fss_grammar.specs.Making.{Runs}
use Rattle.fss_grammar.specs.Meaning.{Events, FitsAfter, FitsMany, FitsMaybe, FitsOne, IsOneToken, NamesMean, Parses, ParsesBehind, ParsesLiteral, RuleMeans, Suits, within, with_kids}
use Rattle.fss_grammar.specs.Page.{Names, alternatives, is_entity, is_leaf, is_range_construct, tree_symbols}
use Rattle.fss_grammar.specs.Page.Rule.{after, behind, iri_part, many, maybe, one, suffix}
use Rattle.fss_grammar.proofs.PageRows.{IsPlaced, from_filter, from_map, one_is_placed}
use Rattle.fss_grammar.proofs.SoundLaws.{Joined, append_then, cons_then, members_both, moved, one_first, shaped_both, spellings_both}
use Rattle.fss_grammar.proofs.SoundLeafLaws.{agreed, spelled_leaf}
use Rattle.fss_grammar.proofs.SoundNodeLaws.{one_then}
use Rattle.fss_grammar.proofs.SoundTreeLaws.{tree_means}
use Rattle.fss_grammar.specs.declared.acts.Act.TheVariants.{HeldDatatype, HeldProperty, Hold, Plain, Tagged, Typed}

-- ---- trees one after another

parsed_none : (p : List Prefix) (Fit : List Tree → Type 0) (In : Tag → Type 0) → Fit [] → {xs : List Token} {es : Events} → Nothing xs es → Parses p Fit In xs es
parsed_none p Fit In fit {xs = xs} {es = es} none = λ fs f frames d n r. record {
  trees = [];
  fit = fit;
  shaped = tt;
  members = tt;
  spelled = λ t h us more k. subst (λ l. AreTerms p (l ++ us) more) (sym none.tokens_are) k;
  runs = subst₂ (λ (l : Events) (ks : List Tree). Runs p (l ++ fs) (within (record f { kids = ks }) frames d) n) none.events_are (sym (append-nil f.kids)) r;
}

parsed_both : (p : List Prefix) (First Second : List Tree → Type 0) (In : Tag → Type 0) (xs ys : List Token) (es gs : Events) → Parses p First In xs es → Parses p Second In ys gs → Parses p (Joined First Second) In (xs ++ ys) (es ++ gs)
parsed_both p First Second In xs ys es gs front back = λ fs f frames d n r.
    let a = front (gs ++ fs) f frames d n (subst (λ l. Runs p l (within f frames d) n) (append_assoc es gs fs) r) in
    let b = back fs (with_kids a.trees f) frames d n a.runs in
    record {
      trees = a.trees ++ b.trees;
      fit = record { front = a.trees; back = b.trees; are = refl; first = a.fit; second = b.fit };
      shaped = shaped_both a.trees b.trees a.shaped b.shaped;
      members = members_both a.trees b.trees a.members b.members;
      spelled = λ t h us more k.
          subst₂ (AreTerms p) (sym (append_assoc xs ys us)) (sym (spellings_both t a.trees b.trees more))
          (a.spelled t h (ys ++ us) _ (b.spelled t h us more k));
      runs = subst (λ (ks : List Tree). Runs p fs (within (record f { kids = ks }) frames d) n) (append_assoc f.kids a.trees b.trees) b.runs;
    }

parsed_refit : (p : List Prefix) (Fit Other : List Tree → Type 0) (In : Tag → Type 0) (xs : List Token) (es : Events) → ((ts : List Tree) → Fit ts → Other ts) → Parses p Fit In xs es → Parses p Other In xs es
parsed_refit p Fit Other In xs es g reads = λ fs f frames d n r.
    let it = reads fs f frames d n r in
    record { trees = it.trees; fit = g it.trees it.fit; shaped = it.shaped; members = it.members; spelled = it.spelled; runs = it.runs }

-- nothing is left behind the last part
pub last_moved : (P : List Token → Events → Type 0) {xs front back : List Token} {es gs hs : Events} → xs ≡ front ++ back → es ≡ gs ++ hs → Nothing back hs → P front gs → P xs es
last_moved P {front = front} {gs = gs} e f none h =
    moved P (append_then front e none.tokens_are ∙ append-nil front) (append_then gs f none.events_are ∙ append-nil gs) h

many_fit : (s : Sort) (ts : List Tree) → Joined (FitsOne s) (FitsMany s) ts → FitsMany s ts
many_fit s ts j = let it = one_then s j.front j.back ts j.are j.first in subst (FitsMany s) (sym it.are) (both_true it.admitted j.second)

maybe_fit : (s : Sort) (ts : List Tree) → FitsOne s ts → FitsMaybe s ts
maybe_fit s [] h = elim h [ ]
maybe_fit s (t ∷ []) h = h
maybe_fit s (t ∷ u ∷ ts) h = elim h [ ]

pub one_means : (p : List Prefix) (s : Sort) (names : Names) → IsIn names (alternatives (one s)) → (xs : List Token) (es : Events) → NamesMean p names xs es → RuleMeans p (one s) xs es
one_means p s names i xs es it =
    let t = from_map (λ t. tree_symbols (is_entity s) t (row_of t)) (filter (admits s) all_tags) i in
    tree_means p s t.item (from_filter (admits s) all_tags t.is_in) xs es (subst (λ l. NamesMean p l xs es) t.is it)

many_both : (p : List Prefix) (s : Sort) → IsPlaced (many s) → (xs : List Token) (es : Events) → NamesMean p (part (one s) ∷ part (many s) ∷ []) xs es → RuleMeans p (many s) xs es
many_both p s placed xs es it =
    let back = it.back in
    let more = last_moved (RuleMeans p (many s)) back.tokens_are back.events_are back.back (back.front (many s) placed) in
    moved (RuleMeans p (many s)) it.tokens_are it.events_are
    (parsed_refit p (Joined (FitsOne s) (FitsMany s)) (FitsMany s) (Suits s) (it.front_tokens ++ it.back_tokens) (it.front_events ++ it.back_events) (many_fit s)
    (parsed_both p (FitsOne s) (FitsMany s) (Suits s) it.front_tokens it.back_tokens it.front_events it.back_events (it.front (one s) (one_is_placed s)) more))

pub many_means : (p : List Prefix) (s : Sort) → IsPlaced (many s) → (names : Names) → IsIn names (alternatives (many s)) → (xs : List Token) (es : Events) → NamesMean p names xs es → RuleMeans p (many s) xs es
many_means p s placed names first xs es it = parsed_none p (FitsMany s) (Suits s) refl it
many_means p s placed names (later first) xs es it = many_both p s placed xs es it
many_means p s placed names (later (later i)) xs es it = elim i [ ]

pub maybe_means : (p : List Prefix) (s : Sort) (names : Names) → IsIn names (alternatives (maybe s)) → (xs : List Token) (es : Events) → NamesMean p names xs es → RuleMeans p (maybe s) xs es
maybe_means p s names first xs es it = parsed_none p (FitsMaybe s) (Suits s) refl it
maybe_means p s names (later first) xs es it =
    last_moved (RuleMeans p (maybe s)) it.tokens_are it.events_are it.back
    (parsed_refit p (FitsOne s) (FitsMaybe s) (Suits s) it.front_tokens it.front_events (maybe_fit s) (it.front (one s) (one_is_placed s)))
maybe_means p s names (later (later i)) xs es it = elim i [ ]

-- ---- IRIs and literals

one_token : (p : List Prefix) (c : Class) (xs : List Token) (es : Events) → NamesMean p (word c ∷ []) xs es → IsOneToken xs es
one_token p c xs es it = record {
  name = it.token;
  tokens_are = cons_then it.tokens_are it.more.tokens_are;
  events_are = cons_then it.events_are it.more.events_are;
}

pub iri_means : (p : List Prefix) (names : Names) → IsIn names (alternatives iri_part) → (xs : List Token) (es : Events) → NamesMean p names xs es → RuleMeans p iri_part xs es
iri_means p names first xs es it = one_token p Class.iri xs es it
iri_means p names (later first) xs es it = one_token p Class.name xs es it
iri_means p names (later (later first)) xs es it = one_token p Class.alone xs es it
iri_means p names (later (later (later i))) xs es it = elim i [ ]

pub plain_means : (p : List Prefix) (xs : List Token) (es : Events) → NamesMean p (action Plain ∷ []) xs es → ParsesLiteral p xs es
plain_means p xs es it =
    moved (ParsesLiteral p) it.more.tokens_are (cons_then it.events_are it.more.events_are)
    (λ t form fs f frames d n r.
    let act = done Plain r in
    let made = act.1 in
    record {
      literal = made.0;
      is_literal = made.2;
      begins = λ us. plain form refl made.1;
      runs = subst (λ m. Runs p fs m n) made.3 act.2;
    })

tagged_read : (p : List Prefix) (x : Token) → IsOf language x → ParsesLiteral p (x ∷ []) (Do 80 ∷ Take x ∷ [])
tagged_read p x is = λ t form fs f frames d n r.
    let act = done Tagged r in
    let tag = act.1 in
    let made = tag.2 in
    let same : x ≡ token.At tag.0 = let c = tag.1 in cc in
    record {
      literal = made.0;
      is_literal = made.2;
      begins = λ us. tagged form tag.0 (ap (λ y. token.Str form ∷ y ∷ us) same) made.1;
      runs = subst (λ m. Runs p fs m n) made.3 act.2;
    }

pub tagged_means : (p : List Prefix) (xs : List Token) (es : Events) → NamesMean p (action Tagged ∷ word language ∷ []) xs es → ParsesLiteral p xs es
tagged_means p xs es it =
    let one = it.more in
    moved (ParsesLiteral p) (cons_then one.tokens_are one.more.tokens_are) (cons_then it.events_are (cons_then one.events_are one.more.events_are))
    (tagged_read p one.token (is_of language one.token one.class))

typed_read : (p : List Prefix) (x y : Token) → x ≡ token.Sign sign.Carets → ParsesLiteral p (x ∷ y ∷ []) (Take x ∷ Do 81 ∷ Take y ∷ [])
typed_read p x y is = λ t form fs f frames d n r.
    let act = done Typed r in
    let datatype = act.1 in
    let made = datatype.2 in
    let comes = datatype.1 in
    let same : comes.name ≡ y = let c = comes.comes in cc in
    record {
      literal = made.0;
      is_literal = made.2;
      begins = λ us. typed form datatype.0 y (ap (λ z. token.Str form ∷ z ∷ y ∷ us) is) (subst (λ z. iri_of_token p z ≡ Some datatype.0) same comes.stands) made.1;
      runs = subst (λ m. Runs p fs m n) made.3 act.2;
    }

pub typed_means : (p : List Prefix) (xs : List Token) (es : Events) → NamesMean p (word carets ∷ action Typed ∷ part iri_part ∷ []) xs es → ParsesLiteral p xs es
typed_means p xs es it =
    let act = it.more in
    let datatype = act.more in
    let behind = it.token in
    let name = last_moved IsOneToken datatype.tokens_are datatype.events_are datatype.back (datatype.front iri_part refl) in
    moved (ParsesLiteral p) (cons_then it.tokens_are name.tokens_are) (cons_then it.events_are (cons_then act.events_are name.events_are))
    (typed_read p behind name.name (is_of carets behind it.class))

pub suffix_means : (p : List Prefix) (names : Names) → IsIn names (alternatives suffix) → (xs : List Token) (es : Events) → NamesMean p names xs es → RuleMeans p suffix xs es
suffix_means p names first xs es it = plain_means p xs es it
suffix_means p names (later first) xs es it = tagged_means p xs es it
suffix_means p names (later (later first)) xs es it = typed_means p xs es it
suffix_means p names (later (later (later i))) xs es it = elim i [ ]

-- ---- names that are data properties or the data range

-- the name that was kept is a leaf
held_spelled : (p : List Prefix) (t u : Tag) (x : Token) (i : List ℕ) (us : List Token) (more : List Term) → iri_of_token p x ≡ Some i → Suits sort.DataRange u → AreTerms p us more → AreTerms p (x ∷ us) (leaf_spelling u t (held (Iri i)) more)
held_spelled p t u x i us more stands suit h =
    spelled_leaf p t u (Iri i) false (x ∷ us) more (agreed false (is_tag tag.Declaration u) suit) (us, (x, refl, stands), h)

held_takes : ((i : List ℕ) → takes (row_of tag.Datatype) (Iri i) ≡ true) × ((i : List ℕ) → takes (row_of tag.DataProperty) (Iri i) ≡ true)
unfolding row_of
held_takes = (λ i. refl, λ i. refl)

pub held_admitted : (admits sort.DataRange tag.Datatype ≡ true) × (admits sort.DataPropertyExpression tag.DataProperty ≡ true)
unfolding admits number_of
held_admitted = (refl, refl)

after_one : (ts : List Tree) → FitsOne sort.DataRange ts → FitsAfter ts
after_one [] h = elim h [ ]
after_one (t ∷ []) h = λ u admitted. both_true admitted h
after_one (t ∷ u ∷ ts) h = elim h [ ]

-- behind a data property comes one more
after_more : (t : Tree) (ts : List Tree) → admits sort.DataPropertyExpression (tag_of t) ≡ true → FitsAfter ts → FitsAfter (t ∷ ts)
after_more t [] h f = absurd (true≢false (sym (f (tag_of t) h)))
after_more t (u ∷ ts) h f = λ v admitted. both_true admitted (f (tag_of t) h)

datatype_read : (p : List Prefix) → ParsesBehind p [] (Do 84 ∷ [])
datatype_read p = λ x i stands is_iri fs f frames d n r.
    let act = done HeldDatatype r in
    record {
      trees = leaf tag.Datatype (Iri i) ∷ [];
      fit = after_one (leaf tag.Datatype (Iri i) ∷ []) held_admitted.0;
      shaped = ((held_takes.0 i, is_iri), tt);
      members = (tt, tt);
      spelled = λ u suit us more h. held_spelled p tag.Datatype u x i us more stands suit h;
      runs = subst (λ m. Runs p fs m n) act.1 act.2;
    }

property_read : (p : List Prefix) (xs : List Token) (es : Events) → Parses p FitsAfter (Suits sort.DataRange) xs es → ParsesBehind p xs (Do 83 ∷ es)
property_read p xs es reads = λ x i stands is_iri fs f frames d n r.
    let act = done HeldProperty r in
    let property = leaf tag.DataProperty (Iri i) in
    let it = reads fs (with_kids (property ∷ []) f) frames d n (subst (λ m. Runs p (es ++ fs) m n) act.1 act.2) in
    record {
      trees = property ∷ it.trees;
      fit = after_more property it.trees held_admitted.1 it.fit;
      shaped = ((held_takes.1 i, is_iri), it.shaped);
      members = (tt, it.members);
      spelled = λ u suit us more h. held_spelled p tag.DataProperty u x i (xs ++ us) _ stands suit (it.spelled u suit us more h);
      runs = subst (λ (ks : List Tree). Runs p fs (within (record f { kids = ks }) frames d) n) (append_assoc f.kids (property ∷ []) it.trees) it.runs;
    }

pub behind_means : (p : List Prefix) (names : Names) → IsIn names (alternatives behind) → (xs : List Token) (es : Events) → NamesMean p names xs es → RuleMeans p behind xs es
behind_means p names first xs es it =
    moved (ParsesBehind p) it.more.tokens_are (cons_then it.events_are it.more.events_are) (datatype_read p)
behind_means p names (later first) xs es it =
    let rest = it.more in
    subst (ParsesBehind p xs) (sym it.events_are)
    (property_read p xs it.more_events (last_moved (RuleMeans p after) rest.tokens_are rest.events_are rest.back (rest.front after refl)))
behind_means p names (later (later i)) xs es it = elim i [ ]

held_read : (p : List Prefix) (x : Token) (xs : List Token) (es : Events) → ParsesBehind p xs es → Parses p FitsAfter (Suits sort.DataRange) (x ∷ xs) (Do 82 ∷ Take x ∷ es)
held_read p x xs es reads = λ fs f frames d n r.
    let act = done Hold r in
    let comes = act.1.1 in
    let same : comes.name ≡ x = let c = comes.comes in cc in
    reads x act.1.0 (subst (λ y. iri_of_token p y ≡ Some act.1.0) same comes.stands) act.1.2 fs f frames d n (subst (λ m. Runs p (es ++ fs) m n) act.1.3 act.2)

pub held_means : (p : List Prefix) (xs : List Token) (es : Events) → NamesMean p (action Hold ∷ part iri_part ∷ part behind ∷ []) xs es → RuleMeans p after xs es
held_means p xs es it =
    let name = it.more in
    let x = name.front iri_part refl in
    let rest = name.back in
    moved (RuleMeans p after) (one_first name.tokens_are x.tokens_are) (cons_then it.events_are (one_first name.events_are x.events_are))
    (held_read p x.name name.back_tokens name.back_events (last_moved (ParsesBehind p) rest.tokens_are rest.events_are rest.back (rest.front behind refl)))

pub construct_admitted : (b a : Bool) → (if b then false else a) ≡ true → a ≡ true
construct_admitted true a e = absurd (true≢false (sym e))
construct_admitted false a e = e

pub after_means : (p : List Prefix) (names : Names) → IsIn names (alternatives after) → (xs : List Token) (es : Events) → NamesMean p names xs es → RuleMeans p after xs es
after_means p names first xs es it = held_means p xs es it
after_means p names (later i) xs es it =
    let t = from_map (λ t. tree_symbols false t (row_of t)) (filter is_range_construct all_tags) i in
    let admitted = construct_admitted (is_leaf (row_of t.item)) (admits sort.DataRange t.item) (from_filter is_range_construct all_tags t.is_in) in
    parsed_refit p (FitsOne sort.DataRange) FitsAfter (Suits sort.DataRange) xs es after_one
    (tree_means p sort.DataRange t.item admitted xs es (subst (λ l. NamesMean p l xs es) t.is it))
