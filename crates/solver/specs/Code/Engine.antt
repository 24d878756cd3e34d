-- The engine's own view of checked tables: the nodes of a method from its first frame on.
-- Assumes nothing.
use Rattle.std.specs.Prelude.{ℕ, ◌+◌, ◌*◌, ◌^◌, ◌≤◌, ◌<◌, List, ◌≡◌}
use Rattle.grades.specs.HeldSets.{mask_names}
use Rattle.frames.specs.Program.{Node}
use Rattle.frames.specs.Tables.{cell, first_frame}
use Rattle.frames.specs.Frames.{methods_in}
use Rattle.meaning.specs.Meaning.{first_name}
use Rattle.solver.specs.Nodes.{node_in}

-- the nodes from a frame on
abbrev pub nodes_from : List ℕ → (first : ℕ) → ℕ → Node
nodes_from t first n = node_in t (first + n)

-- the frame of the first node, and the one past the last node
abbrev pub first_node_frame : List ℕ → ℕ
first_node_frame t = first_frame (cell t) 0

abbrev pub last_frame : List ℕ → ℕ
last_frame t = first_frame (cell t) (methods_in (cell t))

-- every synchronised node's lock has a bit in a mask
abbrev pub LocksFit : List ℕ → Type 0
LocksFit t = (j : ℕ) → first_node_frame t ≤ j → j < last_frame t → (node_in t j).op ≡ 6 → first_name (node_in t j).names < mask_names

-- a callee's table at the sets whose names below j are those in a set, by what the sets have from name j on
abbrev pub entries_from : (table : ℕ → ℕ) → (j inside : ℕ) → ℕ → ℕ
entries_from table j inside S = table (inside + S * 2 ^ j)
