-- A root's grade in the lowest tables of a text's program, case by case.
-- Assumes nothing.
use Rattle.std.specs.Prelude.{ℕ, List, ◌≡◌, Result, Ok}
use Rattle.std.proofs.Common.{sym, ◌∙◌}
use Rattle.std.proofs.Math.Path.{ap}
use Rattle.frames.specs.Program.{Program}
use Rattle.frames.specs.Reading.{read_text}
use Rattle.frames.specs.declared.Tables.{Tables}
use Rattle.frames.specs.declared.Refusal.{Refusal as TextRefusal}
use Rattle.solver.specs.Root.{lowest_root, root_in}
use Rattle.solver.specs.Laws.Root.{root-room}
use Rattle.checker.specs.Grading.{program_read}
use Rattle.checker.proofs.Laws.Grading.{read-room, read-program}
use Rattle.checker.specs.RootRead.{root_by_reading, root_read}

module _ (text : List ℕ) (m H : ℕ) where
  pub root_by : (o : Result Tables TextRefusal) → read_text text ≡ o → root_read text m H ≡ root_by_reading o (program_read text) m H
  unfolding root_read
  root_by o e = ap (λ (x : Result Tables TextRefusal). root_by_reading x (program_read text) m H) e

  -- the tables of a text that reads have room, and stand for its program
  pub root-read : (T : Tables) → read_text text ≡ Ok T → root_in T.bytes m H ≡ root_read text m H
  root-read T e =
      root-room T.bytes m H (read-room text T e)
      ∙ ap (λ (p : Program). lowest_root p m H) (read-program text T e)
      ∙ sym (root_by (Ok T) e)
