-- A page that is handed out.
-- Assumes nothing.
use Rattle.std.specs.Prelude.{ℕ, cond, List, ◌++◌, leb, length, drop}

-- a buffer that s is printed into: s at its front and every byte past it as it was; where s has too little room, the whole buffer as it was
unfoldable pub printed : (s old : List ℕ) → List ℕ
printed s old = cond (leb (length s) (length old)) (s ++ drop (length s) old) old
