-- Whether the engine has room for checked tables, as tests.
-- Assumes nothing.
use Rattle.std.specs.Prelude.{ℕ, ◌+◌, ◌-◌, Bool, not, ◌&&◌, ◌||◌, List, leb, ltb, eqb, get_or}
use Rattle.solver.specs.Nodes.{node_in}
use Rattle.grades.specs.HeldSets.{mask_names}
use Rattle.frames.specs.Layout.{layout}
use Rattle.frames.specs.Frames.{methods_in}
use Rattle.frames.specs.Tables.{cell, method_of}
use Rattle.solver.specs.Code.Engine.{first_node_frame, last_frame}
use Rattle.counting.specs.Counting.{every}

unfoldable pub names_fit : List ℕ → (methods : ℕ) → Bool
names_fit t methods = every methods (λ m. leb (method_of (cell t) m).k layout.most_names)

unfoldable pub lock_fits : List ℕ → (j : ℕ) → Bool
lock_fits t j = not (eqb (node_in t j).op 6) || ltb (get_or (node_in t j).names 0 0) mask_names

-- of so many nodes from frame `first` on
unfoldable pub locks_fit : List ℕ → (first count : ℕ) → Bool
locks_fit t first count = every count (λ n. lock_fits t (first + n))

unfoldable pub has_room : List ℕ → Bool
has_room t =
    (leb (methods_in (cell t)) layout.most_methods && (leb (last_frame t) layout.most_frames && (names_fit t (methods_in (cell t)) && locks_fit t (first_node_frame t) (last_frame t - first_node_frame t))))
