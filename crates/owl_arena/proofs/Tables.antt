-- What is found in a table, and what a node more makes.
use Rattle.std.proofs.Common.{◌≡◌, ◌<◌, ◌≤◌, ◌+◌, ◌-◌, ◌%◌, ℕ, suc, List, [], ◌∷◌, ◌++◌, length, get_or, inl, inr, sym, ap, ◌∙◌, subst, arith}
use Rattle.std.specs.Prelude.{slice_index, slice_set}
use Rattle.std.specs.List.{AllWithin, fold}
use Rattle.std.proofs.lemmas.Bool.{cases_lt, eqb-true, eqb-false}
use Rattle.std.proofs.lemmas.List.{get_or_at, get_or_default, get_or-map, length-map, length_push, map-append}
use Rattle.owl_tree.specs.Mixes.{mix_step}
use Rattle.owl_tree.specs.Tags.{number_of}
use Rattle.owl_arena.specs.declared.nodes.Form.{Form}
use Rattle.owl_arena.specs.declared.nodes.Form.TheVariants as form
use Rattle.owl_arena.specs.declared.nodes.Node.{Node}
use Rattle.owl_arena.specs.Chains.{AreLinked, bucket_at, falls_into, last_link}
use Rattle.owl_arena.specs.Mixes.{form_mix, mixes}
use Rattle.owl_arena.specs.Nodes.{Differs, IsSameForm}
use Rattle.owl_arena.proofs.Chains.{last_link_le, last_passes, later_fail, linked_behind, linked_more}

same_mix : (f g : Form) → IsSameForm f g → form_mix f ≡ form_mix g
same_mix (form.Leaf t a) (form.Leaf u b) h = let e = h.0 in let d = h.1 in cc
same_mix (form.Leaf t a) (form.Branch u ls) h = absurd h
same_mix (form.Branch t ks) (form.Leaf u b) h = absurd h
same_mix (form.Branch t ks) (form.Branch u ls) h = ap (λ (m : ℕ). fold mix_step m ks.items) (ap number_of h.0) ∙ ap (fold mix_step (number_of u)) h.1

bucket_of_node : (ns : List Node) (n k : ℕ) (d : Node) → k < length ns → bucket_at (mixes ns) n k ≡ form_mix (get_or ns k d).form % n
bucket_of_node ns n k d h = ap (λ (m : ℕ). m % n) (get_or-map (λ (m : Node). form_mix m.form) ns k d 0 h)

other_bucket : (ns : List Node) (f : Form) (n k : ℕ) (d : Node) → k < length ns → (bucket_at (mixes ns) n k ≡ form_mix f % n → ⊥) → Differs f (get_or ns k d)
other_bucket ns f n k d h other same = other (bucket_of_node ns n k d h ∙ ap (λ (m : ℕ). m % n) (same_mix (get_or ns k d).form f same))

-- The search for a form has passed all nodes behind the link, which is in the form's bucket.
pub record HasPassed (ns : List Node) (f : Form) (n link : ℕ) : Type 0 where
  pub in_range : link ≤ length ns
  pub in_bucket : (k : ℕ) → link ≡ suc k → bucket_at (mixes ns) n k ≡ form_mix f % n
  pub passed : AllWithin (Differs f) ns link (length ns)

passed_from : (ns : List Node) (f : Form) (n b place link : ℕ) → link ≡ last_link (falls_into (mixes ns) n b) place → b ≡ form_mix f % n → place ≤ length ns → AllWithin (Differs f) ns place (length ns) → HasPassed ns f n link
passed_from ns f n b place link is e inside rest =
    let test = falls_into (mixes ns) n b in
    let below = last_link_le test place in
    record {
      in_range = omega arith;
      in_bucket = λ k h. eqb-true (bucket_at (mixes ns) n k) b (last_passes test place k (sym is ∙ h)) ∙ e;
      passed = λ k d h l. elim (cases_lt k place) [
        | inl m ↦ other_bucket ns f n k d l (λ same. eqb-false (bucket_at (mixes ns) n k) b (later_fail test place k (subst (λ (j : ℕ). j ≤ k) is h) m) (same ∙ sym e))
        | inr m ↦ rest k d m l
      ];
    }

number_at : (xs : List ℕ) (k x : ℕ) → k < length xs → x ≡ get_or xs k x → x ≡ slice_index xs k
number_at xs k x h e = e ∙ get_or_default xs k x 0 h

pub passed_none : (ns : List Node) (f : Form) (heads nexts : List ℕ) (b link : ℕ) → AreLinked heads nexts (mixes ns) (length ns) → b ≡ form_mix f % length heads → b < length heads → link ≡ get_or heads b link → HasPassed ns f (length heads) link
passed_none ns f heads nexts b link linked is below e =
    passed_from ns f (length heads) b (length ns) link (number_at heads b link below e ∙ linked.of_buckets b below) is (omega arith) (λ k d h l. absurd (omega arith))

-- the link of the node that a link names
pub record IsNext (ns : List Node) (heads nexts : List ℕ) (link next : ℕ) : Type 0 where
  pub linked : AreLinked heads nexts (mixes ns) (length ns)
  pub long : length nexts ≡ length ns
  pub some : 0 < link
  pub in_range : link ≤ length ns
  pub is : next ≡ get_or nexts (link - 1) next

next_is : (ns : List Node) (heads nexts : List ℕ) (link next : ℕ) → IsNext ns heads nexts link next → next ≡ last_link (falls_into (mixes ns) (length heads) (bucket_at (mixes ns) (length heads) (link - 1))) (link - 1)
next_is ns heads nexts link next n = number_at nexts (link - 1) next (omega arith) n.is ∙ n.linked.of_places (link - 1) (omega arith)

pub passed_more : (ns : List Node) (f : Form) (heads nexts : List ℕ) (n : Node) (link next : ℕ) → IsNext ns heads nexts link next → HasPassed ns f (length heads) link → n ≡ get_or ns (link - 1) n → Differs f n → HasPassed ns f (length heads) next
passed_more ns f heads nexts n link next at has here differs =
    let place = link - 1 in
    let some = at.some in
    let inside = at.in_range in
    let named : link ≡ suc place = omega arith in
    passed_from ns f (length heads) (bucket_at (mixes ns) (length heads) place) place next (next_is ns heads nexts link next at) (has.in_bucket place named) (omega arith) (λ k c h l.
    elim (cases_lt place k) [
      | inl m ↦ has.passed k c (omega arith) l
      | inr m ↦
          let same : place ≡ k = omega arith in
          subst (Differs f) (here ∙ ap (λ (j : ℕ). get_or ns j n) same ∙ get_or_default ns k n c l) differs
    ])

pub next_below : (ns : List Node) (heads nexts : List ℕ) (link next : ℕ) → IsNext ns heads nexts link next → next < link
next_below ns heads nexts link next at =
    let some = at.some in
    let is = next_is ns heads nexts link next at in
    let below = last_link_le (falls_into (mixes ns) (length heads) (bucket_at (mixes ns) (length heads) (link - 1))) (link - 1) in
    omega arith

pub same_there : (ns : List Node) (f : Form) (place : ℕ) (n d : Node) → place < length ns → n ≡ get_or ns place n → IsSameForm n.form f → IsSameForm (get_or ns place d).form f
same_there ns f place n d h e same = subst (λ (m : Node). IsSameForm m.form f) (e ∙ get_or_default ns place n d h) same

-- a node behind the others, in front of its chain
pub record IsPushed (ns ms : List Node) (n : Node) (heads nexts hs ls : List ℕ) (place mix : ℕ) : Type 0 where
  pub nodes_are : ms ≡ ns ++ n ∷ []
  pub mix_is : mix ≡ form_mix n.form
  pub place_is : place ≡ length ns
  pub long : length nexts ≡ length ns
  pub inside : mix % length heads < length heads
  pub heads_are : hs ≡ slice_set heads (mix % length heads) (place + 1)
  pub nexts_are : ls ≡ slice_set (nexts ++ 0 ∷ []) place (slice_index heads (mix % length heads))

pub linked_pushed : (ns ms : List Node) (n : Node) (heads nexts hs ls : List ℕ) (place mix : ℕ) → AreLinked heads nexts (mixes ns) (length ns) → IsPushed ns ms n heads nexts hs ls place mix → AreLinked hs ls (mixes ms) (length ms)
linked_pushed ns ms n heads nexts hs ls place mix linked pushed =
    let mixed = λ (m : Node). form_mix m.form in
    let all : mixes ms ≡ mixes ns ++ mix ∷ [] = ap mixes pushed.nodes_are ∙ map-append mixed ns (n ∷ []) ∙ ap (λ (m : ℕ). mixes ns ++ m ∷ []) (sym pushed.mix_is) in
    let long = length-map ns mixed in
    let place_is = pushed.place_is in
    let count : place + 1 ≡ length ms = omega (arith, ap length pushed.nodes_are, length_push ns n) in
    let before = linked_behind heads nexts (mixes ns) mix 0 (subst (AreLinked heads nexts (mixes ns)) (sym long) linked) (pushed.long ∙ sym long) in
    let now = subst (AreLinked heads (nexts ++ 0 ∷ []) (mixes ns ++ mix ∷ [])) (long ∙ sym place_is) before in
    let here : mix ≡ slice_index (mixes ns ++ mix ∷ []) place = sym (get_or_at (mixes ns) mix [] 0 place (long ∙ sym place_is)) in
    let nexts_long : length (nexts ++ 0 ∷ []) ≡ place + 1 = omega (arith, length_push nexts 0, pushed.long) in
    let after = linked_more heads (nexts ++ 0 ∷ []) hs ls (mixes ns ++ mix ∷ []) place mix now here pushed.inside (omega arith) pushed.heads_are pushed.nexts_are in
    subst (λ (xs : List ℕ). AreLinked hs ls xs (length ms)) (sym all) (subst (AreLinked hs ls (mixes ns ++ mix ∷ [])) count after)
