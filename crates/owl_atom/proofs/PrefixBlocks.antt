-- Prefixes in blocks.
use Rattle.std.proofs.Common.{◌≡◌, ◌<◌, ◌≤◌, ◌+◌, ◌++◌, ℕ, zero, suc, Bool, true, false, List, [], ◌∷◌, length, Some, None, Result, Ok, Err, IfOk, OnErr, cond, refl, sym, ap, ◌∙◌, subst, set, get_or, arith}
use Rattle.std.specs.Prelude.{slice_get, insert, if◌then◌else◌}
use Rattle.std.specs.Ordering.{is_le}
use Rattle.std.specs.declared.cmp.Ordering.{Ordering}
use Rattle.std.specs.declared.cmp.Ordering.TheVariants.{Less, Equal, Greater}
use Rattle.std.specs.declared.vec.Vec.{Vec}
use Rattle.std.specs.List.Sorted.{IsPartitionedBy}
use Rattle.std.proofs.lemmas.List.{append_assoc, get_or_append_left, length-set, set-append_left}
use Rattle.std.proofs.lemmas.List.Edits.{insert-append_left, length-insert}
use Rattle.std.proofs.lemmas.Option.{same_Some, slice_get-get_or}
use Rattle.owl_characters.specs.Order.{text_cmp, text_eq}
use Rattle.owl_characters.specs.OrderLaws.{same_texts, turned, less_unequal, texts_total}
use Rattle.owl_atom.specs.declared.prefixes.Prefix.{Prefix}
use Rattle.owl_atom.specs.Prefixes.{AreAscending, prefix_in}
use Rattle.owl_atom.specs.Places.{IsPlaceOf, IsGapFor}
use Rattle.owl_atom.specs.PrefixLaws.{Above, Below, IsFound, SetsOnly, below_too, below_none, found, insert_at, passed, set_at}
use Rattle.owl_atom.specs.Blocks.{AreBlocks, AreFilled, IsBlockFor, Puts, begins_by, flat}

-- two lists in one

below_parts : (name : List ℕ) (xs ys : List Prefix) → Below name (xs ++ ys) → Below name xs × Below name ys
below_parts name [] ys h = (tt, h)
below_parts name (x ∷ xs) ys h = let rest = below_parts name xs ys h.1 in ((h.0, rest.0), rest.1)

pub ascending_parts : (xs ys : List Prefix) → AreAscending (xs ++ ys) → AreAscending xs × AreAscending ys
ascending_parts [] ys up = (tt, up)
ascending_parts (x ∷ xs) ys up = let rest = ascending_parts xs ys up.1 in (((below_parts x.name xs ys up.0).0, rest.0), rest.1)

looked_up_behind : (name : List ℕ) (xs ys : List Prefix) → Above name xs → prefix_in (xs ++ ys) name ≡ prefix_in ys name
looked_up_behind name [] ys h = refl
looked_up_behind name (x ∷ xs) ys h = passed x (xs ++ ys) name (less_unequal x.name name h.0) ∙ looked_up_behind name xs ys h.1

looked_up_before : (name : List ℕ) (xs ys : List Prefix) → Below name ys → prefix_in (xs ++ ys) name ≡ prefix_in xs name
looked_up_before name [] ys h = below_none name ys h
looked_up_before name (x ∷ xs) ys h = ap (λ r. cond (text_eq x.name name) (Some x) r) (looked_up_before name xs ys h)

place_before : (xs ys : List Prefix) (name : List ℕ) (i : ℕ) → IsPlaceOf xs name i → IsPlaceOf (xs ++ ys) name i × (i < length xs)
place_before [] ys name i h = absurd h
place_before (x ∷ xs) ys name zero h = (h, omega arith)
place_before (x ∷ xs) ys name (suc i) h = let rest = place_before xs ys name i h.1 in ((h.0, rest.0), omega arith)

gap_before : (xs ys : List Prefix) (name : List ℕ) (i : ℕ) → Below name ys → IsGapFor xs name i → IsGapFor (xs ++ ys) name i × (i ≤ length xs)
gap_before [] [] name zero below h = (tt, omega arith)
gap_before [] (y ∷ ys) name zero below h = (below.0, omega arith)
gap_before [] ys name (suc i) below h = absurd h
gap_before (x ∷ xs) ys name zero below h = (h, omega arith)
gap_before (x ∷ xs) ys name (suc i) below h = let rest = gap_before xs ys name i below h.1 in ((h.0, rest.0), omega arith)

puts_before : (new : Bool) (xs ys zs : List Prefix) (prefix : Prefix) → Below prefix.name zs → Puts xs ys prefix new → Puts (xs ++ zs) (ys ++ zs) prefix new
puts_before false xs ys zs prefix below h =
    let here = place_before xs zs prefix.name h.0 h.1 in
    (h.0, here.0, ap (λ us. us ++ zs) h.2 ∙ sym (set-append_left xs zs h.0 prefix here.1))
puts_before true xs ys zs prefix below h =
    let here = gap_before xs zs prefix.name h.0 below h.1 in
    (h.0, here.0, ap (λ us. us ++ zs) h.2 ∙ sym (insert-append_left xs zs h.0 prefix here.1))

puts_behind : (new : Bool) (xs ys zs : List Prefix) (prefix : Prefix) → Above prefix.name xs → Puts ys zs prefix new → Puts (xs ++ ys) (xs ++ zs) prefix new
puts_behind new [] ys zs prefix above h = h
puts_behind false (x ∷ xs) ys zs prefix above h = let rest = puts_behind false xs ys zs prefix above.1 h in (suc rest.0, (above.0, rest.1), ap (λ us. x ∷ us) rest.2)
puts_behind true (x ∷ xs) ys zs prefix above h = let rest = puts_behind true xs ys zs prefix above.1 h in (suc rest.0, (above.0, rest.1), ap (λ us. x ∷ us) rest.2)

-- where a list begins

less_by : (a b name : List ℕ) (order : Ordering) → text_cmp a b ≡ Less → text_cmp b name ≡ order → is_le order ≡ true → text_cmp a name ≡ Less
less_by a b name Less less is h = texts_total.trans a b name less is
less_by a b name Equal less is h = subst (λ n. text_cmp a n ≡ Less) (same_texts b name is) less
less_by a b name Greater less is h = absurd (cc)

greater_by : (b name : List ℕ) (order : Ordering) → text_cmp b name ≡ order → is_le order ≡ false → text_cmp name b ≡ Less
greater_by b name Less is h = absurd (cc)
greater_by b name Equal is h = absurd (cc)
greater_by b name Greater is h = turned b name is

all_above : (name : List ℕ) (xs ys zs : List Prefix) → 0 < length ys → AreAscending (xs ++ (ys ++ zs)) → begins_by name ys ≡ true → Above name xs
all_above name [] ys zs filled up h = tt
all_above name (x ∷ xs) [] zs filled up h = absurd (omega arith)
all_above name (x ∷ xs) (y ∷ ys) zs filled up h =
    let less = (below_parts x.name xs ((y ∷ ys) ++ zs) up.0).1.0 in
    (less_by x.name y.name name _ less refl h, all_above name xs (y ∷ ys) zs filled up.1 h)

all_below : (name : List ℕ) (ys zs : List Prefix) → 0 < length ys → AreAscending (ys ++ zs) → begins_by name ys ≡ false → Below name (ys ++ zs)
all_below name [] zs filled up h = absurd (omega arith)
all_below name (y ∷ ys) zs filled up h =
    let less = greater_by y.name name _ refl h in
    (less, below_too name y.name (ys ++ zs) less up.0)

begins_above : (name : List ℕ) (xs : List Prefix) → Above name xs → begins_by name xs ≡ true
begins_above name [] h = refl
begins_above name (x ∷ xs) h = ap is_le h.0

pub begins_first : (name : List ℕ) (block : List Prefix) (prefix : Prefix) (b : Bool) → Some prefix ≡ slice_get block 0 → b ≡ is_le (text_cmp prefix.name name) → b ≡ begins_by name block
begins_first name [] prefix b e h = absurd (cc)
begins_first name (x ∷ xs) prefix b e h = h ∙ ap (λ (q : Prefix). is_le (text_cmp q.name name)) (same_Some prefix x e)

module _ {Z : Type 0} where
  -- those that begin by a name stand before the others
  pub parted : (blocks : List (Vec Prefix Z)) (name : List ℕ) → AreFilled blocks → AreAscending (flat blocks) → IsPartitionedBy (λ block. begins_by name block.items) blocks
  parted [] name filled up i j d le lt h = absurd (omega arith)
  parted (b ∷ bs) name filled up zero zero d le lt h = h
  parted (b ∷ []) name filled up zero (suc j) d le lt h = absurd (omega arith)
  parted (b ∷ (c ∷ cs)) name filled up zero (suc j) d le lt h =
      let first = parted (c ∷ cs) name filled.1 (ascending_parts b.items (flat (c ∷ cs)) up).1 zero j d (omega arith) (omega arith) h in
      begins_above name b.items (all_above name b.items c.items (flat cs) filled.1.0 up first)
  parted (b ∷ bs) name filled up (suc i) zero d le lt h = absurd (omega arith)
  parted (b ∷ bs) name filled up (suc i) (suc j) d le lt h = parted bs name filled.1 (ascending_parts b.items (flat bs) up).1 i j d (omega arith) (omega arith) h

  behind_first : (blocks : List (Vec Prefix Z)) (name : List ℕ) → AreFilled blocks → AreAscending (flat blocks) → ((d : Vec Prefix Z) → 0 < length blocks → begins_by name (get_or blocks 0 d).items ≡ false) → Below name (flat blocks)
  behind_first [] name filled up h = tt
  behind_first (b ∷ bs) name filled up h = all_below name b.items (flat bs) filled.0 up (h b (omega arith))

  -- the last one that begins by a name is the block for it
  pub last_begun : (blocks : List (Vec Prefix Z)) (name : List ℕ) (n : ℕ) → AreFilled blocks → AreAscending (flat blocks) → (0 < n → n < length blocks)
      → ((k : ℕ) (d : Vec Prefix Z) → k < n → begins_by name (get_or blocks (suc k) d).items ≡ true) → ((k : ℕ) (d : Vec Prefix Z) → n ≤ k → suc k < length blocks → begins_by name (get_or blocks (suc k) d).items ≡ false) → IsBlockFor blocks name n
  last_begun [] name n filled up within before behind = tt
  last_begun (b ∷ bs) name zero filled up within before behind =
      behind_first bs name filled.1 (ascending_parts b.items (flat bs) up).1 (λ d lt. behind 0 d (omega arith) (omega arith))
  last_begun (b ∷ []) name (suc n) filled up within before behind = let lt = within (omega arith) in absurd (omega arith)
  last_begun (b ∷ (c ∷ cs)) name (suc n) filled up within before behind = (
    all_above name b.items c.items (flat cs) filled.1.0 up (before 0 c (omega arith)),
    last_begun (c ∷ cs) name n filled.1 (ascending_parts b.items (flat (c ∷ cs)) up).1 (λ lt. let more = within (omega arith) in omega arith)
        (λ k d lt. before (suc k) d (omega arith)) (λ k d le lt. behind (suc k) d (omega arith) (omega arith)),
  )

  -- what stands in a block

  pub block_ascends : (blocks : List (Vec Prefix Z)) (n : ℕ) (block : Vec Prefix Z) → AreAscending (flat blocks) → slice_get blocks n ≡ Some block → AreAscending block.items
  block_ascends [] n block up e = absurd (cc)
  block_ascends (b ∷ bs) zero block up e = subst (λ (x : Vec Prefix Z). AreAscending x.items) (same_Some b block e) (ascending_parts b.items (flat bs) up).0
  block_ascends (b ∷ bs) (suc n) block up e = block_ascends bs n block (ascending_parts b.items (flat bs) up).1 e

  pub looked_up_in : (blocks : List (Vec Prefix Z)) (name : List ℕ) (n : ℕ) (block : Vec Prefix Z) → IsBlockFor blocks name n → slice_get blocks n ≡ Some block → prefix_in (flat blocks) name ≡ prefix_in block.items name
  looked_up_in [] name n block h e = absurd (cc)
  looked_up_in (b ∷ bs) name zero block h e = looked_up_before name b.items (flat bs) h ∙ ap (λ (x : Vec Prefix Z). prefix_in x.items name) (same_Some b block e)
  looked_up_in (b ∷ bs) name (suc n) block h e = looked_up_behind name b.items (flat bs) h.0 ∙ looked_up_in bs name n block h.1 e

  pub nowhere : (blocks : List (Vec Prefix Z)) (name : List ℕ) (n : ℕ) → IsBlockFor blocks name n → length blocks ≤ n → prefix_in (flat blocks) name ≡ None
  nowhere [] name n h le = refl
  nowhere (b ∷ bs) name zero h le = absurd (omega arith)
  nowhere (b ∷ bs) name (suc n) h le = looked_up_behind name b.items (flat bs) h.0 ∙ nowhere bs name n h.1 (omega arith)

  pub found_in_block : (blocks : List (Vec Prefix Z)) (name : List ℕ) (n place : ℕ) (block : Vec Prefix Z) (prefix : Prefix) → IsBlockFor blocks name n → slice_get blocks n ≡ Some block → IsPlaceOf block.items name place → slice_get block.items place ≡ Some prefix → IsFound (flat blocks) name prefix
  found_in_block blocks name n place block prefix h e at_place stands =
      let it = found block.items name place prefix at_place stands in
      record { named = it.named; looked_up = looked_up_in blocks name n block h e ∙ it.looked_up }

  pub in_first : (blocks : List (Vec Prefix Z)) (place : ℕ) (first again : Vec Prefix Z) (prefix : Prefix) → place < length (flat blocks) → first ≡ get_or blocks 0 first → again ≡ get_or blocks 0 again → place < length first.items → prefix ≡ get_or again.items place prefix → slice_get (flat blocks) place ≡ Some prefix
  in_first [] place first again prefix within e f lt is = absurd (omega arith)
  in_first (b ∷ bs) place first again prefix within e f lt is =
      let inside = subst (λ (x : Vec Prefix Z). place < length x.items) e lt in
      let same = ap (λ (x : Vec Prefix Z). get_or x.items place prefix) f in
      slice_get-get_or (b.items ++ flat bs) place prefix within ∙ ap Some (get_or_append_left b.items (flat bs) prefix place inside ∙ sym same ∙ sym is)

  -- edits

  pub puts_in : (blocks : List (Vec Prefix Z)) (n : ℕ) (old new : Vec Prefix Z) (prefix : Prefix) (b : Bool) → IsBlockFor blocks prefix.name n → slice_get blocks n ≡ Some old → Puts old.items new.items prefix b → Puts (flat blocks) (flat (set blocks n new)) prefix b
  puts_in [] n old new prefix b h e puts = absurd (cc)
  puts_in (x ∷ xs) zero old new prefix b h e puts =
      puts_before b x.items new.items (flat xs) prefix h (subst (λ (y : Vec Prefix Z). Puts y.items new.items prefix b) (sym (same_Some x old e)) puts)
  puts_in (x ∷ xs) (suc n) old new prefix b h e puts = puts_behind b x.items (flat xs) (flat (set xs n new)) prefix h.0 (puts_in xs n old new prefix b h.1 e puts)

  pub puts_last : (blocks : List (Vec Prefix Z)) (n : ℕ) (new : Vec Prefix Z) (prefix : Prefix) → IsBlockFor blocks prefix.name n → length blocks ≤ n → new.items ≡ prefix ∷ [] → Puts (flat blocks) (flat (blocks ++ new ∷ [])) prefix true
  puts_last [] n new prefix h le e = (0, tt, ap (λ us. us ++ []) e)
  puts_last (x ∷ xs) zero new prefix h le e = absurd (omega arith)
  puts_last (x ∷ xs) (suc n) new prefix h le e = puts_behind true x.items (flat xs) (flat (xs ++ new ∷ [])) prefix h.0 (puts_last xs n new prefix h.1 (omega arith) e)

  pub same_flat : (blocks : List (Vec Prefix Z)) (n : ℕ) (old new : Vec Prefix Z) → slice_get blocks n ≡ Some old → new.items ≡ old.items → flat (set blocks n new) ≡ flat blocks
  same_flat [] n old new e same = refl
  same_flat (x ∷ xs) zero old new e same = ap (λ us. us ++ flat xs) (same ∙ ap (λ (y : Vec Prefix Z). y.items) (sym (same_Some x old e)))
  same_flat (x ∷ xs) (suc n) old new e same = ap (λ us. x.items ++ us) (same_flat xs n old new e same)

  pub halved : (blocks : List (Vec Prefix Z)) (n m : ℕ) (old front back : Vec Prefix Z) → m ≡ suc n → slice_get blocks n ≡ Some old → front.items ++ back.items ≡ old.items → flat (insert (set blocks n front) m back) ≡ flat blocks
  halved [] n m old front back at_m e parts = absurd (cc)
  halved (x ∷ xs) zero m old front back at_m e parts =
      let same = ap (λ (y : Vec Prefix Z). y.items) (sym (same_Some x old e)) in
      ap (λ k. flat (insert (front ∷ xs) k back)) at_m ∙ sym (append_assoc front.items back.items (flat xs)) ∙ ap (λ us. us ++ flat xs) (parts ∙ same)
  halved (x ∷ xs) (suc n) m old front back at_m e parts =
      ap (λ k. flat (insert (x ∷ set xs n front) k back)) at_m ∙ ap (λ us. x.items ++ us) (halved xs n (suc n) old front back refl e parts)

  -- what comes of an edit in one block, where memory may run out

  pub puts_where_ok : {E : Type 0} (r : Result Bool E) (blocks : List (Vec Prefix Z)) (n : ℕ) (old new : Vec Prefix Z) (prefix : Prefix) → IsBlockFor blocks prefix.name n → slice_get blocks n ≡ Some old → IfOk r (Puts old.items new.items prefix) → IfOk r (Puts (flat blocks) (flat (set blocks n new)) prefix)
  puts_where_ok (Ok b) blocks n old new prefix h e puts = puts_in blocks n old new prefix b h e puts
  puts_where_ok (Err x) blocks n old new prefix h e puts = tt

  pub same_where_err : {E : Type 0} (r : Result Bool E) (blocks : List (Vec Prefix Z)) (n : ℕ) (old new : Vec Prefix Z) → slice_get blocks n ≡ Some old → OnErr r (new.items ≡ old.items) → OnErr r (flat (set blocks n new) ≡ flat blocks)
  same_where_err (Ok b) blocks n old new e same = tt
  same_where_err (Err x) blocks n old new e same = same_flat blocks n old new e same

-- the table after an edit

pub puts_only : (b : Bool) (old new : List Prefix) (prefix : Prefix) → AreAscending old → Puts old new prefix b → SetsOnly old new prefix.name prefix
puts_only false old new prefix up h = subst (λ after. SetsOnly old after prefix.name prefix) (sym h.2) (set_at old prefix.name h.0 prefix up h.1 refl)
puts_only true old new prefix up h = subst (λ after. SetsOnly old after prefix.name prefix) (sym h.2) (insert_at old prefix.name h.0 prefix up h.1 refl)

pub puts_count : (b : Bool) (old new : List Prefix) (prefix : Prefix) → Puts old new prefix b → length new ≡ length old + (if b then 1 else 0)
puts_count false old new prefix h = ap length h.2 ∙ length-set old h.0 prefix ∙ (omega arith)
puts_count true old new prefix h = ap length h.2 ∙ length-insert old h.0 prefix (gap_before old [] prefix.name h.0 tt h.1).1

pub still_blocks : {Z : Type 0} (b : Bool) (old new : List (Vec Prefix Z)) (prefix : Prefix) (len more : ℕ) → AreFilled new → AreAscending (flat old) → Puts (flat old) (flat new) prefix b → len ≡ length (flat old) → more ≡ len + (if b then 1 else 0) → AreBlocks new more
still_blocks b old new prefix len more filled up puts was is = record {
  filled = filled;
  ascending = (puts_only b (flat old) (flat new) prefix up puts).ascending;
  count = is ∙ ap (λ n. n + (if b then 1 else 0)) was ∙ sym (puts_count b (flat old) (flat new) prefix puts);
}
