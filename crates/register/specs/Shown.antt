-- What a register shows: its places, the next serial, its nodes and how many of them are in use.
use Rattle.std.specs.Prelude.{◌≡◌, ℕ, ◌+◌, ◌-◌, List, length, replicate, slice_set, Option}
use Rattle.std.specs.Option.{unwrap_or}
use Rattle.std.specs.List.{AllByRecursion}
use Rattle.pool.specs.Held.{Held}
use Rattle.pool.specs.Sound.{memory_of, used_of}
use Rattle.pool.specs.declared.pool.Pool.{Pool}
use Rattle.register.specs.Calls.{Handle}
use Rattle.register.specs.Contents.{Names}
use Rattle.register.specs.Kept.{Kept}
use Rattle.register.specs.Places.{Place, free, is_free, live, place_of, resting}
use Rattle.register.specs.Shapes.{Ordered}
use Rattle.register.specs.Tables.{lowest}
use Rattle.register.specs.declared.table.Record.{Record}

pub record Shown : Type 0 where
  -- the 64 places
  pub places : List Place
  -- the serial that the next line gets
  pub next : ℕ
  -- the nodes of the register, and how many of them are in use
  pub nodes : ℕ
  pub used : ℕ

-- the nodes that are free
abbrev pub spare : Shown → ℕ
spare s = s.nodes - s.used

-- a register newly made over so many nodes, with this first serial
abbrev pub newly_made : ℕ → ℕ → Shown
newly_made nodes first = record { places = replicate 64 free; next = first; nodes = nodes; used = 0 }

-- the place that a handle stands for
abbrev pub at : Shown → Handle → Place
at s handle = place_of s.places handle.place handle.serial

-- the same but for one place
abbrev pub with_place : Shown → ℕ → Place → Shown
with_place s i place = record { places = slice_set s.places i place; next = s.next; nodes = s.nodes; used = s.used }

-- the same with so many nodes in use
abbrev pub with_used : Shown → ℕ → Shown
with_used s used = record { places = s.places; next = s.next; nodes = s.nodes; used = used }

-- the lowest free place with the next serial: the handle of the next line
abbrev pub next_handle : Shown → Handle
next_handle s = record { place = unwrap_or (lowest is_free s.places) 0; serial = s.next }

-- one more line at rest, with these stages
abbrev pub with_line : Shown → Held → Shown
with_line s stages = record {
  places = slice_set s.places (next_handle s).place (live s.next stages resting);
  next = s.next + 1;
  nodes = s.nodes;
  used = s.used;
}

-- A register with this pool, these records of its table and this next serial shows the state: its nodes carry the state's trees for
-- the lines, and all trees are balanced and in their order.
pub record Shows {K : Type 0} (𝓝 : Names K) (pool : Pool) (lines : List (Option Record)) (next : ℕ) (s : Shown) : Type 0 where
  pub kept : Kept pool lines s.places
  pub next_is : next ≡ s.next
  pub nodes_is : length (memory_of pool) ≡ s.nodes
  pub used_is : used_of pool ≡ s.used
  pub ordered : AllByRecursion (Ordered 𝓝) s.places
