-- For each node of a graph a set of numbers, as the bits of a number, and how such sets spread along its edges.
use Rattle.std.specs.Prelude.{◌≡◌, ◌<◌, ◌↔◌, ◌⊎◌, ◌++◌, ℕ, Bool, true, false, List, length, Contains, slice_index, slice_index_or}
use Rattle.std.specs.Int.{bit_at}
use Rattle.graph_walks.specs.Edges.{successors}
use Rattle.graph_walks.specs.Walks.{IsReached, Walks}
use Rattle.chain_ranges.specs.declared.spread.Spread.{Spread}

-- the number stands in the set of the node
abbrev pub Has : List ℕ → ℕ → ℕ → Type 0
Has sets node number = bit_at (slice_index sets node) number ≡ 1

-- the edges of the node are to be followed
abbrev pub IsWaiting : List Bool → ℕ → Type 0
IsWaiting waiting node = slice_index_or waiting node false ≡ true

-- so many nodes, whose sets are empty, and those that wait are in the queue
pub record IsEmptyOf (nodes : ℕ) (spread : Spread) : Type 0 where
  pub size : length spread.sets.items ≡ nodes
  pub empty : (node : ℕ) → slice_index spread.sets.items node ≡ 0
  pub waiting : (node : ℕ) → IsWaiting spread.waiting.items node → Contains spread.queue.items node

-- the node doesn't wait any more
pub record Begins (node : ℕ) (old new : Spread) : Type 0 where
  pub sets : new.sets.items ≡ old.sets.items
  pub queue : new.queue.items ≡ old.queue.items
  pub waits : (other : ℕ) → IsWaiting new.waiting.items other → (other ≡ node → ⊥) × IsWaiting old.waiting.items other

-- the node waits, or is put behind the queue
pub record Queues (node : ℕ) (old new : Spread) : Type 0 where
  pub sets : new.sets.items ≡ old.sets.items
  pub more : List ℕ
  pub queue : new.queue.items ≡ old.queue.items ++ more
  pub waits : (other : ℕ) → IsWaiting new.waiting.items other → IsWaiting old.waiting.items other ⊎ Contains more other
  pub there : IsWaiting old.waiting.items node ⊎ Contains more node

-- it is one of these nodes, and the number one of these bits
pub record IsAmong (nodes : List ℕ) (bits count node number : ℕ) : Type 0 where
  pub among : Contains nodes node
  pub within : node < count
  pub bit : bit_at bits number ≡ 1

-- these bits are put into the sets of these nodes, and those that grow wait or are put behind the queue
pub record AddsBits (nodes : List ℕ) (bits : ℕ) (old new : Spread) : Type 0 where
  pub size : length new.sets.items ≡ length old.sets.items
  pub more : List ℕ
  pub queue : new.queue.items ≡ old.queue.items ++ more
  pub told : (node number : ℕ) → Has new.sets.items node number ↔ (Has old.sets.items node number ⊎ IsAmong nodes bits (length old.sets.items) node number)
  pub noted : (node number : ℕ) → Has new.sets.items node number → Has old.sets.items node number ⊎ (IsWaiting old.waiting.items node ⊎ Contains more node)
  pub waits : (node : ℕ) → IsWaiting new.waiting.items node → IsWaiting old.waiting.items node ⊎ Contains more node

-- the node is one of those of a class in the block, and the number the place of that class, below the bound
pub record IsHolder (holders : List (List ℕ)) (block : List ℕ) (count bound node number : ℕ) : Type 0 where
  pub below : number < bound
  pub among : Contains (successors holders (slice_index block number)) node
  pub within : node < count

-- the sets have the places of the classes, up to the bound, of which the nodes are, and all nodes with a set and those that wait are in the queue
pub record AreSeeded (holders : List (List ℕ)) (block : List ℕ) (count bound : ℕ) (spread : Spread) : Type 0 where
  pub size : length spread.sets.items ≡ count
  pub told : (node number : ℕ) → Has spread.sets.items node number ↔ IsHolder holders block count bound node number
  pub noted : (node number : ℕ) → Has spread.sets.items node number → Contains spread.queue.items node
  pub waiting : (node : ℕ) → IsWaiting spread.waiting.items node → Contains spread.queue.items node

-- the number is in the set of a node from which a walk leads to this one
pub record ComesFrom (pairs : List (ℕ × ℕ)) (sets : List ℕ) (node number : ℕ) : Type 0 where
  pub start : ℕ
  pub has : Has sets start number
  pub way : Walks pairs start node

-- the sets are what comes along the pairs
pub record AreSpread (pairs : List (ℕ × ℕ)) (nodes : ℕ) (old new : List ℕ) : Type 0 where
  pub size : length new ≡ length old
  pub told : (node number : ℕ) → node < nodes → Has new node number ↔ ComesFrom pairs old node number

-- the number is the place of a class in the block from whose nodes this one is reached
pub record IsReachedOf (pairs : List (ℕ × ℕ)) (holders : List (List ℕ)) (block : List ℕ) (node number : ℕ) : Type 0 where
  pub below : number < length block
  pub reached : IsReached pairs (successors holders (slice_index block number)) node

-- for each of so many nodes the places of the classes from whose nodes it is reached
abbrev pub AreReachedSets : List (ℕ × ℕ) → List (List ℕ) → List ℕ → ℕ → List ℕ → Type 0
AreReachedSets pairs holders block nodes sets = (node number : ℕ) → node < nodes → Has sets node number ↔ IsReachedOf pairs holders block node number
