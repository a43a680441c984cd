-- Lists that are stored in blocks, one block after the other.
use Rattle.std.specs.Prelude.{◌≡◌, ℕ, suc, ◌+◌, ◌*◌, ◌-◌, ◌<◌, ◌≤◌, ◌^◌, ◌++◌, Bool, true, false, List, [], ◌∷◌, All, drop, get_or, length, take}
use Rattle.std.specs.List.{flat_map}
use Rattle.std.specs.declared.vec.Vec.{Vec}
use Rattle.std.specs.declared.collections.VecDeque.{VecDeque}
use Rattle.std.specs.Vec.{vec_capacity}
use Rattle.std.specs.VecDeque.{deque_capacity}
use Rattle.mp_names.specs.Names.{is_before}
use Rattle.mp_ordered.specs.InOrder.{IsInOrder, begins}

-- the first of these items comes before another one
abbrev pub begins_before : {T : Type 0} → (T → List ℕ) → T → List T → Bool
begins_before rank x ys = begins (λ y. is_before (rank y) (rank x)) ys

-- blocks one after the other, in a list with memory for so many
pub record Row (T Z : Type 0) : Type 0 where
  pub items : List (VecDeque T Z)
  pub capacity : ℕ

module _ {T Z : Type 0} where
  -- the blocks of a list of which the first ones are gone
  abbrev pub row_of : Vec (VecDeque T Z) Z → ℕ → Row T Z
  row_of blocks gone = record { items = drop gone blocks.items; capacity = vec_capacity blocks }

  -- the items of all blocks
  abbrev pub items_of : List (VecDeque T Z) → List T
  items_of blocks = flat_map (λ b. b.items) blocks

  -- a block that isn't full, with memory for as many items as make it full
  abbrev pub IsBlock : VecDeque T Z → Type 0
  IsBlock b = (length b.items < 128) × (128 ≤ deque_capacity b)

  -- one without items
  abbrev pub IsSpare : VecDeque T Z → Type 0
  IsSpare b = (b.items ≡ []) × (128 ≤ deque_capacity b)

  -- one with items
  abbrev pub IsFilled : VecDeque T Z → Type 0
  IsFilled b = 0 < length b.items

  -- each has items, but for one that is alone
  abbrev pub AreFilled : List (VecDeque T Z) → Type 0
  AreFilled [] = Unit {0}
  AreFilled (b ∷ bs) = (0 < length bs → 0 < length b.items) × All IsFilled bs

  -- how many items of blocks are more than half of a block, each block for itself
  abbrev pub past_halves : List (VecDeque T Z) → ℕ
  past_halves [] = 0
  past_halves (b ∷ bs) = (length b.items - 64) + past_halves bs

  -- how many items the first block lacks of its half
  abbrev pub lacking : List (VecDeque T Z) → ℕ
  lacking [] = 0
  lacking (b ∷ bs) = 64 - length b.items

  -- a cut is in this block: it begins in front of the cut if it isn't the first, and the next one doesn't
  abbrev pub IsCutIn : (T → Bool) → List (VecDeque T Z) → ℕ → Type 0
  IsCutIn p blocks at = (d : VecDeque T Z)
      → (0 < at → begins p (get_or blocks at d).items ≡ true)
      × (suc at < length blocks → begins p (get_or blocks (suc at) d).items ≡ false)

  -- the block in which an item has its place: it begins before the item if it isn't the first, and the next one doesn't
  abbrev pub IsBlockFor : (T → List ℕ) → T → List (VecDeque T Z) → ℕ → Type 0
  IsBlockFor rank x blocks at = IsCutIn (λ y. is_before (rank y) (rank x)) blocks at

  -- a full block was split in two halves
  pub record IsSplit (at : ℕ) (old new : List (VecDeque T Z)) : Type 0 where
    pub lower : VecDeque T Z
    pub upper : VecDeque T Z
    pub is : new ≡ take at old ++ lower ∷ upper ∷ drop (suc at) old
    pub items : lower.items ++ upper.items ≡ (get_or old at lower).items
    pub halves : (length lower.items ≡ 64) × (length upper.items ≡ 64)
    pub memory : (deque_capacity (get_or old at lower) ≤ deque_capacity lower) × (128 ≤ deque_capacity upper)

  -- the spare blocks have no items and there are none without other blocks, and each of the two lists has memory for all blocks
  pub record HasMemory (blocks : Row T Z) (spare : Vec (VecDeque T Z) Z) : Type 0 where
    pub empty : All IsSpare spare.items
    pub none : length blocks.items ≡ 0 → length spare.items ≡ 0
    pub for_blocks : length blocks.items + length spare.items ≤ blocks.capacity
    pub for_spare : length blocks.items + length spare.items ≤ vec_capacity spare

  -- Blocks of so many items in order, with spare ones, so that there is room for so many more items. A block is split when 64
  -- of its items are past its half, and what the first block lacks may come back to it
  pub record AreBlocks (rank : T → List ℕ) (blocks : Row T Z) (spare : Vec (VecDeque T Z) Z) (len past room : ℕ) : Type 0 where
    pub order : IsInOrder rank (items_of blocks.items)
    pub low : All IsBlock blocks.items
    pub filled : AreFilled blocks.items
    pub count : len ≡ length (items_of blocks.items)
    pub past_is : past ≡ past_halves blocks.items
    pub enough : past + room ≤ 64 * length spare.items + lacking blocks.items
    pub few : len + room < 2 ^ 64
    pub memory : HasMemory blocks spare
