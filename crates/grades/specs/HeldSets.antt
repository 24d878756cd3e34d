-- Held sets. A set of names is a number: "Bit j of the entry's number says that name j is held." Nothing here knows how many
-- names a method may have.
-- Assumes nothing.
use Rattle.std.specs.Prelude.{ℕ, ◌+◌, ◌*◌, ◌/◌, ◌%◌, ◌^◌, Bool, cond, List, [], ◌∷◌, T, eqb, ltb}

-- "there are 2^k entries, from none held to all held"
unfoldable pub entries : ℕ → ℕ
entries k = 2 ^ k

-- how many names a mask in one byte carries; the definitions below hold for any number of them
abbrev pub mask_names : ℕ
mask_names = 8

-- name j is in the set H
unfoldable pub held : ℕ → ℕ → Bool
held H j = eqb (H / 2 ^ j % 2) 1

-- every name of H is one of H'
abbrev pub Within : ℕ → ℕ → Type 0
Within H H' = (j : ℕ) → T (held H j) → T (held H' j)

-- H with name l added
unfoldable pub add : ℕ → ℕ → ℕ
unfolding held
add H l = cond (held H l) H (H + 2 ^ l)

-- the same in a mask of w bits: a name that the mask has no bit for is not added
unfoldable pub add_within : ℕ → ℕ → ℕ → ℕ
unfolding add
add_within w H l = cond (ltb l w) (add H l) H

-- FF: "the caller has no constant name for that lock"
abbrev pub no_name : ℕ
no_name = 0xFF

-- the set that a list of answers packs into, the first of them for name 0: a name is held exactly if its answer says so
unfoldable pub packed : List Bool → ℕ
packed [] = 0
packed (is_held ∷ answers) = cond is_held 1 0 + packed answers * 2
