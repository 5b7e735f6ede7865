-- Laws of sets that spread along the edges of a graph.
use Rattle.std.proofs.Common.{◌≡◌, ◌<◌, ◌≤◌, ◌+◌, ◌↔◌, ◌⊎◌, inl, inr, ℕ, Bool, List, [], ◌∷◌, ◌++◌, length, get_or, set, drop, bit_or, refl, sym, ap, ◌∙◌, subst, arith, add-one, append_assoc, append-nil, drop-cons}
use Rattle.std.specs.Prelude.{Contains, None, Some, slice_get}
use Rattle.std.specs.Int.{bit_at}
use Rattle.std.proofs.lemmas.Bool.{cases_eq, cases_lt}
use Rattle.std.proofs.lemmas.List.{drop-append-le, drop_all, get_or-set_other, get_or-set_same, length-set}
use Rattle.std.proofs.lemmas.List.Elements.{Contains-append_cases, Contains-append_left, Contains-append_right}
use Rattle.std.proofs.lemmas.Option.{get_or_from_slice_get, slice_get-get_or, slice_get_within}
use Rattle.owl_list.proofs.AscendingLaws.{in_cases, in_head, in_none}
use Rattle.graph_walks.specs.Edges.{AreEdges, successors}
use Rattle.graph_walks.specs.Walks.{Walks, here, onward}
use Rattle.graph_walks.proofs.EdgeLaws.{begins_within}
use Rattle.graph_walks.proofs.WalkLaws.{first_step}
use Rattle.chain_ranges.specs.declared.spread.Spread.{Spread}
use Rattle.chain_ranges.specs.Spreads.{AddsBits, AreReachedSets, AreSeeded, AreSpread, Begins, ComesFrom, Has, IsAmong, IsEmptyOf, IsHolder, IsWaiting, Queues}
use Rattle.chain_ranges.proofs.BitLaws.{in_either, in_none as in_empty}

-- nothing is added
pub adds_none : (bits : ℕ) (spread : Spread) → AddsBits [] bits spread spread
adds_none bits spread = record {
  size = refl;
  more = [];
  queue = sym (append-nil spread.queue.items);
  told = λ node number. (λ has. inl has, λ h. elim h as (λ _. Has spread.sets.items node number) [ inl has ↦ has | inr is ↦ absurd (in_none node is.among) ]);
  noted = λ node number has. inl has;
  waits = λ node waits. inl waits;
}

-- what waits or is put behind the queue at first, and then
due_first : (waiting : List Bool) (xs ys : List ℕ) (node : ℕ) → IsWaiting waiting node ⊎ Contains xs node → IsWaiting waiting node ⊎ Contains (xs ++ ys) node
due_first waiting xs ys node due = elim due as (λ _. IsWaiting waiting node ⊎ Contains (xs ++ ys) node) [
  | inl waits ↦ inl waits
  | inr m ↦ inr (Contains-append_left xs ys node m)
]

due_then : (old mid : List Bool) (xs ys : List ℕ) (node : ℕ) → (IsWaiting mid node → IsWaiting old node ⊎ Contains xs node) → IsWaiting mid node ⊎ Contains ys node → IsWaiting old node ⊎ Contains (xs ++ ys) node
due_then old mid xs ys node before due = elim due as (λ _. IsWaiting old node ⊎ Contains (xs ++ ys) node) [
  | inl waits ↦ due_first old xs ys node (before waits)
  | inr m ↦ inr (Contains-append_right xs ys node m)
]

-- it is in the queue then
due_within : (waiting : List Bool) (queue more : List ℕ) (node : ℕ) → (IsWaiting waiting node → Contains queue node) → IsWaiting waiting node ⊎ Contains more node → Contains (queue ++ more) node
due_within waiting queue more node before due = elim due as (λ _. Contains (queue ++ more) node) [
  | inl waits ↦ Contains-append_left queue more node (before waits)
  | inr m ↦ Contains-append_right queue more node m
]

pub adds_both : (xs ys : List ℕ) (bits : ℕ) (old mid new : Spread) → AddsBits xs bits old mid → AddsBits ys bits mid new → AddsBits (xs ++ ys) bits old new
adds_both xs ys bits old mid new a b = record {
  size = b.size ∙ a.size;
  more = a.more ++ b.more;
  queue = b.queue ∙ ap (λ nodes. nodes ++ b.more) a.queue ∙ append_assoc old.queue.items a.more b.more;
  told = λ node number. (
    λ has. elim ((b.told node number).0 has) as (λ _. Has old.sets.items node number ⊎ IsAmong (xs ++ ys) bits (length old.sets.items) node number) [
      | inl before ↦ elim ((a.told node number).0 before) as (λ _. Has old.sets.items node number ⊎ IsAmong (xs ++ ys) bits (length old.sets.items) node number) [
        | inl was ↦ inl was
        | inr is ↦ inr (record { among = Contains-append_left xs ys node is.among; within = is.within; bit = is.bit })
      ]
      | inr is ↦ inr (record { among = Contains-append_right xs ys node is.among; within = subst (λ (n : ℕ). node < n) a.size is.within; bit = is.bit })
    ],
    λ h. (b.told node number).1 (elim h as (λ _. Has mid.sets.items node number ⊎ IsAmong ys bits (length mid.sets.items) node number) [
      | inl was ↦ inl ((a.told node number).1 (inl was))
      | inr is ↦ elim (Contains-append_cases xs ys node is.among) as (λ _. Has mid.sets.items node number ⊎ IsAmong ys bits (length mid.sets.items) node number) [
        | inl m ↦ inl ((a.told node number).1 (inr (record { among = m; within = is.within; bit = is.bit })))
        | inr m ↦ inr (record { among = m; within = subst (λ (n : ℕ). node < n) (sym a.size) is.within; bit = is.bit })
      ]
    ]),
  );
  noted = λ node number has. elim (b.noted node number has) as (λ _. Has old.sets.items node number ⊎ (IsWaiting old.waiting.items node ⊎ Contains (a.more ++ b.more) node)) [
    | inl before ↦ elim (a.noted node number before) as (λ _. Has old.sets.items node number ⊎ (IsWaiting old.waiting.items node ⊎ Contains (a.more ++ b.more) node)) [
      | inl was ↦ inl was
      | inr due ↦ inr (due_first old.waiting.items a.more b.more node due)
    ]
    | inr due ↦ inr (due_then old.waiting.items mid.waiting.items a.more b.more node (a.waits node) due)
  ];
  waits = λ node waits. due_then old.waiting.items mid.waiting.items a.more b.more node (a.waits node) (b.waits node waits);
}

-- a set that has the bits, and that of what is no node, stays
pub adds_old : (spread : Spread) (node bits : ℕ) → (node < length spread.sets.items → bit_or (get_or spread.sets.items node 0) bits ≡ get_or spread.sets.items node 0) → AddsBits (node ∷ []) bits spread spread
adds_old spread node bits there = record {
  size = refl;
  more = [];
  queue = sym (append-nil spread.queue.items);
  told = λ other number. (
    λ has. inl has,
    λ h. elim h as (λ _. Has spread.sets.items other number) [
      | inl has ↦ has
      | inr is ↦ elim (in_cases node [] other is.among) as (λ _. Has spread.sets.items other number) [
        | inl e ↦
            let own : ℕ = get_or spread.sets.items node 0 in
            let both : bit_at (bit_or own bits) number ≡ 1 = (in_either own bits number).1 (inr is.bit) in
            let same : bit_or own bits ≡ own = there (subst (λ (n : ℕ). n < length spread.sets.items) (sym e) is.within) in
            subst (λ (n : ℕ). Has spread.sets.items n number) e (subst (λ (set : ℕ). bit_at set number ≡ 1) same both)
        | inr m ↦ absurd (in_none other m)
      ]
    ],
  );
  noted = λ other number has. inl has;
  waits = λ other waits. inl waits;
}

-- a set that hasn't grows
pub adds_new : (old mid new : Spread) (node bits : ℕ) → node < length old.sets.items → mid.sets.items ≡ set old.sets.items node (bit_or (get_or old.sets.items node 0) bits) → mid.waiting.items ≡ old.waiting.items → mid.queue.items ≡ old.queue.items →
    Queues node mid new → AddsBits (node ∷ []) bits old new
adds_new old mid new node bits within grows same_waiting same_queue queues =
    let sets : new.sets.items ≡ set old.sets.items node (bit_or (get_or old.sets.items node 0) bits) = queues.sets ∙ grows in
    let own : ℕ = get_or old.sets.items node 0 in
    let now : get_or new.sets.items node 0 ≡ bit_or own bits = ap (λ xs. get_or xs node 0) sets ∙ get_or-set_same old.sets.items node (bit_or own bits) 0 within in
    let stays : (other : ℕ) → (other ≡ node → ⊥) → get_or new.sets.items other 0 ≡ get_or old.sets.items other 0 =
    λ other differs. ap (λ xs. get_or xs other 0) sets ∙ get_or-set_other old.sets.items node other (bit_or own bits) 0 differs in
    record {
      size = ap length sets ∙ length-set old.sets.items node (bit_or own bits);
      more = queues.more;
      queue = queues.queue ∙ ap (λ nodes. nodes ++ queues.more) same_queue;
      told = λ other number. elim (cases_eq other node) as (λ _. Has new.sets.items other number ↔ (Has old.sets.items other number ⊎ IsAmong (node ∷ []) bits (length old.sets.items) other number)) [
        | inl e ↦ subst (λ (n : ℕ). Has new.sets.items n number ↔ (Has old.sets.items n number ⊎ IsAmong (node ∷ []) bits (length old.sets.items) n number)) (sym e) (
          λ has. elim ((in_either own bits number).0 (subst (λ (n : ℕ). bit_at n number ≡ 1) now has)) as (λ _. Has old.sets.items node number ⊎ IsAmong (node ∷ []) bits (length old.sets.items) node number) [
            | inl was ↦ inl was
            | inr is ↦ inr (record { among = in_head node []; within = within; bit = is })
          ],
          λ h. subst (λ (n : ℕ). bit_at n number ≡ 1) (sym now) ((in_either own bits number).1 (elim h as (λ _. (bit_at own number ≡ 1) ⊎ (bit_at bits number ≡ 1)) [
            | inl was ↦ inl was
            | inr is ↦ inr is.bit
          ])),
        )
        | inr differs ↦ (
          λ has. inl (subst (λ (n : ℕ). bit_at n number ≡ 1) (stays other differs) has),
          λ h. elim h as (λ _. Has new.sets.items other number) [
            | inl was ↦ subst (λ (n : ℕ). bit_at n number ≡ 1) (sym (stays other differs)) was
            | inr is ↦ elim (in_cases node [] other is.among) as (λ _. Has new.sets.items other number) [
              | inl e ↦ absurd (differs (sym e))
              | inr m ↦ absurd (in_none other m)
            ]
          ],
        )
      ];
      noted = λ other number has. elim (cases_eq other node) as (λ _. Has old.sets.items other number ⊎ (IsWaiting old.waiting.items other ⊎ Contains queues.more other)) [
        | inl e ↦ inr (subst (λ (n : ℕ). IsWaiting old.waiting.items n ⊎ Contains queues.more n) (sym e) (subst (λ (waiting : List Bool). IsWaiting waiting node ⊎ Contains queues.more node) same_waiting queues.there))
        | inr differs ↦ inl (subst (λ (n : ℕ). bit_at n number ≡ 1) (stays other differs) has)
      ];
      waits = λ other waits. subst (λ (waiting : List Bool). IsWaiting waiting other ⊎ Contains queues.more other) same_waiting (queues.waits other waits);
    }

-- all is empty where more nodes wait
pub empty_more : (nodes node : ℕ) (old new : Spread) → IsEmptyOf nodes old → Queues node old new → IsEmptyOf nodes new
empty_more nodes node old new empty queues = record {
  size = ap length queues.sets ∙ empty.size;
  empty = λ other. ap (λ (sets : List ℕ). get_or sets other 0) queues.sets ∙ empty.empty other;
  waiting = λ other waits. subst (λ (xs : List ℕ). Contains xs other) (sym queues.queue) (due_within old.waiting.items old.queue.items queues.more other (empty.waiting other) (queues.waits other waits));
}

module _ (holders : List (List ℕ)) (block : List ℕ) (count : ℕ) where
  pub none_seeded : (spread : Spread) → IsEmptyOf count spread → AreSeeded holders block count 0 spread
  none_seeded spread empty =
      let nothing : (node number : ℕ) → Has spread.sets.items node number → ⊥ =
      λ node number has. in_empty number (subst (λ (n : ℕ). bit_at n number ≡ 1) (empty.empty node) has) in
      record {
        size = empty.size;
        told = λ node number. (λ has. absurd (nothing node number has), λ is. absurd (let below = is.below in omega arith));
        noted = λ node number has. absurd (nothing node number has);
        waiting = empty.waiting;
      }

  -- with the nodes of one more class
  pub one_seeded : (bound bits : ℕ) (nodes : List ℕ) (old new : Spread) → AreSeeded holders block count bound old → nodes ≡ successors holders (get_or block bound 0) → ((other : ℕ) → (bit_at bits other ≡ 1) ↔ (other ≡ bound)) → AddsBits nodes bits old new →
      AreSeeded holders block count (bound + 1) new
  one_seeded bound bits nodes old new h all single adds = record {
    size = adds.size ∙ h.size;
    told = λ node number. (
      λ has. elim ((adds.told node number).0 has) as (λ _. IsHolder holders block count (bound + 1) node number) [
        | inl was ↦
            let is = (h.told node number).0 was in
            let below = is.below in
            record { below = omega arith; among = is.among; within = is.within }
        | inr is ↦
            let same : number ≡ bound = (single number).0 is.bit in
            record {
              below = omega arith;
              among = subst (λ (k : ℕ). Contains (successors holders (get_or block k 0)) node) (sym same) (subst (λ (xs : List ℕ). Contains xs node) all is.among);
              within = subst (λ (n : ℕ). node < n) h.size is.within;
            }
      ],
      λ is. (adds.told node number).1 (elim (cases_eq number bound) as (λ _. Has old.sets.items node number ⊎ IsAmong nodes bits (length old.sets.items) node number) [
        | inl same ↦ inr (record {
          among = subst (λ (xs : List ℕ). Contains xs node) (sym all) (subst (λ (k : ℕ). Contains (successors holders (get_or block k 0)) node) same is.among);
          within = subst (λ (n : ℕ). node < n) (sym h.size) is.within;
          bit = (single number).1 same;
        })
        | inr differs ↦
            let below = is.below in
            inl ((h.told node number).1 (record { below = omega arith; among = is.among; within = is.within }))
      ]),
    );
    noted = λ node number has. subst (λ (xs : List ℕ). Contains xs node) (sym adds.queue) (elim (adds.noted node number has) as (λ _. Contains (old.queue.items ++ adds.more) node) [
      | inl was ↦ Contains-append_left old.queue.items adds.more node (h.noted node number was)
      | inr due ↦ due_within old.waiting.items old.queue.items adds.more node (h.waiting node) due
    ]);
    waiting = λ node waits. subst (λ (xs : List ℕ). Contains xs node) (sym adds.queue) (due_within old.waiting.items old.queue.items adds.more node (h.waiting node) (adds.waits node waits));
  }

-- what has spread once the edges of so many nodes of the queue are followed: a node whose set isn't in that of each next one is still to come
pub record AreFollowed (edges : List (List ℕ)) (first : List ℕ) (spread : Spread) (place : ℕ) : Type 0 where
  pub size : length spread.sets.items ≡ length first
  pub kept : (node number : ℕ) → Has first node number → Has spread.sets.items node number
  pub sound : (pairs : List (ℕ × ℕ)) → AreEdges pairs edges → (node number : ℕ) → Has spread.sets.items node number → ComesFrom pairs first node number
  pub left : (x y number : ℕ) → Contains (successors edges x) y → y < length first → Has spread.sets.items x number → Has spread.sets.items y number ⊎ Contains (drop place spread.queue.items) x
  pub waiting : (node : ℕ) → IsWaiting spread.waiting.items node → Contains (drop place spread.queue.items) node

module _ (edges : List (List ℕ)) where
  pub none_followed : (spread : Spread) → ((node number : ℕ) → Has spread.sets.items node number → Contains spread.queue.items node) → ((node : ℕ) → IsWaiting spread.waiting.items node → Contains spread.queue.items node) → AreFollowed edges spread.sets.items spread 0
  none_followed spread noted waiting = record {
    size = refl;
    kept = λ node number has. has;
    sound = λ pairs are node number has. record { start = node; has = has; way = here node };
    left = λ x y number next within has. inr (noted x number has);
    waiting = waiting;
  }

  module _ (first : List ℕ) (old mid new : Spread) (place node : ℕ) (nexts : List ℕ) (bits : ℕ) (h : AreFollowed edges first old place) (is : slice_get old.queue.items place ≡ Some node) (begins : Begins node old mid) (all : nexts ≡ successors edges node)
      (own : bits ≡ get_or mid.sets.items node 0) (adds : AddsBits nexts bits mid new) where
    split : drop place old.queue.items ≡ node ∷ drop (place + 1) old.queue.items
    split =
        let inside : place < length old.queue.items = slice_get_within old.queue.items place node is in
        let cut : drop place old.queue.items ≡ get_or old.queue.items place 0 ∷ drop (place + 1) old.queue.items = rw (add-one, drop-cons old.queue.items place 0) in
        cut ∙ ap (λ (x : ℕ). x ∷ drop (place + 1) old.queue.items) (get_or_from_slice_get old.queue.items place node 0 is)

    later : drop (place + 1) new.queue.items ≡ drop (place + 1) old.queue.items ++ adds.more
    later =
        let inside = slice_get_within old.queue.items place node is in
        ap (drop (place + 1)) (adds.queue ∙ ap (λ (nodes : List ℕ). nodes ++ adds.more) begins.queue) ∙ drop-append-le (place + 1) old.queue.items adds.more (omega arith)

    -- it was to come, and is this node or still to come
    comes_later : (x : ℕ) → Contains (drop place old.queue.items) x → (node ≡ x) ⊎ Contains (drop (place + 1) new.queue.items) x
    comes_later x m = elim (in_cases node (drop (place + 1) old.queue.items) x (subst (λ (xs : List ℕ). Contains xs x) split m)) as (λ _. (node ≡ x) ⊎ Contains (drop (place + 1) new.queue.items) x) [
      | inl e ↦ inl e
      | inr n ↦ inr (subst (λ (xs : List ℕ). Contains xs x) (sym later) (Contains-append_left (drop (place + 1) old.queue.items) adds.more x n))
    ]

    due_later : (x : ℕ) → IsWaiting mid.waiting.items x ⊎ Contains adds.more x → Contains (drop (place + 1) new.queue.items) x
    due_later x due = elim due as (λ _. Contains (drop (place + 1) new.queue.items) x) [
      | inl waits ↦
          let before = begins.waits x waits in
          elim (comes_later x (h.waiting x before.1)) as (λ _. Contains (drop (place + 1) new.queue.items) x) [
            | inl e ↦ absurd (before.0 (sym e))
            | inr m ↦ m
          ]
      | inr m ↦ subst (λ (xs : List ℕ). Contains xs x) (sym later) (Contains-append_right (drop (place + 1) old.queue.items) adds.more x m)
    ]

    had : (x number : ℕ) → Has mid.sets.items x number → Has old.sets.items x number
    had x number has = subst (λ (sets : List ℕ). Has sets x number) begins.sets has

    gets : (x number : ℕ) → Has old.sets.items x number → Has new.sets.items x number
    gets x number has = (adds.told x number).1 (inl (subst (λ (sets : List ℕ). Has sets x number) (sym begins.sets) has))

    sound_more : (pairs : List (ℕ × ℕ)) → AreEdges pairs edges → (other number : ℕ) → Has new.sets.items other number → ComesFrom pairs first other number
    sound_more pairs are other number has = elim ((adds.told other number).0 has) as (λ _. ComesFrom pairs first other number) [
      | inl was ↦ h.sound pairs are other number (had other number was)
      | inr among ↦
          let before = h.sound pairs are node number (had node number (subst (λ (set : ℕ). bit_at set number ≡ 1) own among.bit)) in
          let step : Contains pairs (node, other) = (are node other).0 (subst (λ (xs : List ℕ). Contains xs other) all among.among) in
          record { start = before.start; has = before.has; way = onward before.start node other before.way step }
    ]

    left_more : (x y number : ℕ) → Contains (successors edges x) y → y < length first → Has new.sets.items x number → Has new.sets.items y number ⊎ Contains (drop (place + 1) new.queue.items) x
    left_more x y number next within has = elim (adds.noted x number has) as (λ _. Has new.sets.items y number ⊎ Contains (drop (place + 1) new.queue.items) x) [
      | inl was ↦ elim (h.left x y number next within (had x number was)) as (λ _. Has new.sets.items y number ⊎ Contains (drop (place + 1) new.queue.items) x) [
        | inl there ↦ inl (gets y number there)
        | inr m ↦ elim (comes_later x m) as (λ _. Has new.sets.items y number ⊎ Contains (drop (place + 1) new.queue.items) x) [
          | inl e ↦ inl ((adds.told y number).1 (inr (record {
            among = subst (λ (xs : List ℕ). Contains xs y) (sym all) (subst (λ (n : ℕ). Contains (successors edges n) y) (sym e) next);
            within = subst (λ (n : ℕ). y < n) (sym (ap length begins.sets ∙ h.size)) within;
            bit = subst (λ (set : ℕ). bit_at set number ≡ 1) (sym own) (subst (λ (n : ℕ). Has mid.sets.items n number) (sym e) was);
          })))
          | inr n ↦ inr n
        ]
      ]
      | inr due ↦ inr (due_later x due)
    ]

    pub one_followed : AreFollowed edges first new (place + 1)
    one_followed = record {
      size = adds.size ∙ ap length begins.sets ∙ h.size;
      kept = λ other number has. gets other number (h.kept other number has);
      sound = sound_more;
      left = left_more;
      waiting = λ x waits. due_later x (adds.waits x waits);
    }

  -- all has spread where all nodes of the queue are followed
  module _ (first : List ℕ) (spread : Spread) (place : ℕ) (h : AreFollowed edges first spread place) (end : length spread.queue.items ≤ place) (as_many : length first ≡ length edges) (pairs : List (ℕ × ℕ)) (are : AreEdges pairs edges) where
    arrives : (start node number : ℕ) → Walks pairs start node → Has spread.sets.items start number → node < length edges → Has spread.sets.items node number
    arrives start node number (here _) has within = has
    arrives start node number (onward _ m _ way step) has within =
        let next : Contains (successors edges m) node = (are m node).1 step in
        let before = arrives start m number way has (begins_within edges m node next) in
        elim (h.left m node number next (subst (λ (n : ℕ). node < n) (sym as_many) within) before) as (λ _. Has spread.sets.items node number) [
          | inl there ↦ there
          | inr waits ↦ absurd (in_none m (subst (λ (xs : List ℕ). Contains xs m) (drop_all place spread.queue.items end) waits))
        ]

    pub all_followed : AreSpread pairs (length edges) first spread.sets.items
    all_followed = record {
      size = h.size;
      told = λ node number within. (
        λ has. h.sound pairs are node number has,
        λ comes. arrives comes.start node number comes.way (h.kept comes.start number comes.has) within,
      );
    }

-- a walk to a node begins at one
start_within : (pairs : List (ℕ × ℕ)) (edges : List (List ℕ)) → AreEdges pairs edges → (start node : ℕ) → Walks pairs start node → node < length edges → start < length edges
start_within pairs edges are start node way within = elim (first_step pairs start node way) [
  | inl same ↦ subst (λ (n : ℕ). n < length edges) (sym same) within
  | inr begins ↦ begins_within edges start begins.next ((are start begins.next).1 begins.step)
]

-- what spreads from the nodes of the classes in the block
pub seeds_spread : (pairs : List (ℕ × ℕ)) (holders edges : List (List ℕ)) (block : List ℕ) (nodes : ℕ) (spread : Spread) (sets : List ℕ) → AreEdges pairs edges → length edges ≡ nodes → AreSeeded holders block nodes (length block) spread →
    AreSpread pairs nodes spread.sets.items sets → AreReachedSets pairs holders block nodes sets
seeds_spread pairs holders edges block nodes spread sets are many seeded told =
    λ node number within. (
      λ has.
          let comes = (told.told node number within).0 has in
          let is = (seeded.told comes.start number).0 comes.has in
          record { below = is.below; reached = record { start = comes.start; among = is.among; way = comes.way } },
      λ is.
          let begins : is.reached.start < length edges = start_within pairs edges are is.reached.start node is.reached.way (subst (λ (n : ℕ). node < n) (sym many) within) in
          (told.told node number within).1 (record {
            start = is.reached.start;
            has = (seeded.told is.reached.start number).1 (record { below = is.below; among = is.reached.among; within = subst (λ (n : ℕ). is.reached.start < n) many begins });
            way = is.reached.way;
          }),
    )

-- what is not in a place is past the end
pub none_left : (nodes : List ℕ) (place : ℕ) → slice_get nodes place ≡ None → length nodes ≤ place
none_left nodes place none = elim (cases_lt place (length nodes)) as (λ _. length nodes ≤ place) [
  | inl within ↦ absurd (let is = slice_get-get_or nodes place 0 within in cc)
  | inr end ↦ end
]
