-- "No unnamed node but the root, fork nodes included, has an effect on grades, nor has what it names." Of the call's verdict and of the bytes that it
-- leaves in the answer, which the two `ensures` of `grade` give: of two sound texts, the second with other lines for such nodes, the lowest
-- grades are the same, and where the first is accepted, so is the second, with the same bytes and rounds, unless a fork put there refuses it.
-- Assumes nothing.
use Rattle.std.specs.Prelude.{ℕ, ◌+◌, ◌<◌, ◌⊎◌, length}
use mathlib.Core.List.{List, []}
use Rattle.std.proofs.Math.Path.{◌≡◌}
use Rattle.std.proofs.Math.ListN.{get_or}
use Rattle.lines.specs.Lines.{lines}
use Rattle.frames.specs.Frames.{frames_of, methods_in, first_node}
use Rattle.frames.specs.Links.{node_count}
use Rattle.frames.specs.Tables.{first_frame}
use Rattle.meaning.specs.Lowest.{rounds, lowest}
use Rattle.meaning.specs.Unnamed.{Aside}
use Rattle.checker.specs.Grading.{program_read, broken_at, verdict_of, answer_of}
use Rattle.checker.specs.Demand3.{Passes}
use Rattle.frames.specs.Program.{method_at, node_at}

-- the second text has the first's lines, but for some of nodes that stand aside: unnamed ones but the root, and those in their trees
pub record OtherLinesAside (text text' : List ℕ) : Type 0 where
  pub head : (i : ℕ) → i < first_node (frames_of (lines text)) → get_or (lines text') i [] ≡ get_or (lines text) i []
  pub nodes : (m n : ℕ) → m < methods_in (frames_of (lines text)) → n < node_count (frames_of (lines text)) m
      → (Aside (method_at (program_read text) m) n → ⊥)
      → get_or (lines text') (first_frame (frames_of (lines text)) m + n) [] ≡ get_or (lines text) (first_frame (frames_of (lines text)) m + n) []

-- the same verdict, so the same rounds, and the same bytes
pub record SameOutcome (text old text' old' : List ℕ) : Type 0 where
  pub verdict : verdict_of text' (length old') ≡ verdict_of text (length old)
  pub bytes : answer_of text' old' ≡ answer_of text old

-- refusal 7, kind 3, for a node that was changed
pub record ForkRefused (text text' old' : List ℕ) : Type 0 where
  pub method : ℕ
  pub node : ℕ
  pub set : ℕ
  pub says : verdict_of text' (length old') ≡ broken_at method 3 node set
  pub changed : node_at (method_at (program_read text') method) node ≡ node_at (method_at (program_read text) method) node → ⊥

pub record NoEffect (text old text' old' : List ℕ) : Type 0 where
  pub lowest : lowest (program_read text') ≡ lowest (program_read text)
  pub rounds : rounds (program_read text') ≡ rounds (program_read text)
  pub accepted : Passes text old → SameOutcome text old text' old' ⊎ ForkRefused text text' old'
