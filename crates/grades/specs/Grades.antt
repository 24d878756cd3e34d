-- Grades and their arithmetic. A grade is a number; a number over 4 counts as 4, so that every operation takes every number.
-- Assumes nothing.
use Rattle.std.specs.Prelude.{ℕ, min, max, List, [], ◌∷◌, get_or}

-- "const 0, mover 1, atomic 2, cmpd 3, error 4, in rising order"
abbrev pub const : ℕ
const = 0

abbrev pub mover : ℕ
mover = 1

abbrev pub atomic : ℕ
atomic = 2

abbrev pub cmpd : ℕ
cmpd = 3

abbrev pub error : ℕ
error = 4

-- the grade that a number counts as
unfoldable pub cap : ℕ → ℕ
cap a = min a error

-- "Composition, first row by second column"
unfoldable pub composition : List (List ℕ)
composition =
    (0 ∷ 1 ∷ 2 ∷ 3 ∷ 4 ∷ [])
    ∷ (1 ∷ 1 ∷ 2 ∷ 3 ∷ 4 ∷ [])
    ∷ (2 ∷ 2 ∷ 3 ∷ 3 ∷ 4 ∷ [])
    ∷ (3 ∷ 3 ∷ 3 ∷ 3 ∷ 4 ∷ [])
    ∷ (4 ∷ 4 ∷ 4 ∷ 4 ∷ 4 ∷ [])
    ∷ []

-- a ; b
unfoldable pub compose : ℕ → ℕ → ℕ
unfolding composition cap
compose a b = get_or (get_or composition (cap a) []) (cap b) 0

-- "The join of two is the larger."
unfoldable pub join : ℕ → ℕ → ℕ
unfolding cap
join a b = max (cap a) (cap b)

-- "Closure (a repeated step): 0, 1, 3, 3, 4 for grades 0 to 4."
unfoldable pub closure : ℕ → ℕ
unfolding cap
closure a = get_or (0 ∷ 1 ∷ 3 ∷ 3 ∷ 4 ∷ []) (cap a) 0

-- "Assert: 0, 1, 2 stay; 3 and 4 become 4."
unfoldable pub assert_atomic : ℕ → ℕ
unfolding cap
assert_atomic a = get_or (0 ∷ 1 ∷ 2 ∷ 4 ∷ 4 ∷ []) (cap a) 0

-- a lock newly taken: "0 and 1 become 2, other grades stay"
unfoldable pub lock_taken : ℕ → ℕ
unfolding cap
lock_taken a = get_or (2 ∷ 2 ∷ 2 ∷ 3 ∷ 4 ∷ []) (cap a) 0
