-- How the reader keeps what a method has named so far: a list of marks, 1 for a node that is named. `Links` says what it means.
-- Assumes nothing.
use Rattle.std.specs.Prelude.{ℕ, ◌-◌, ◌≡◌, Bool, true, not, ◌&&◌, List, [], ◌∷◌, ltb, eqb, get_or, set, Option, Some, None}
use Rattle.frames.specs.Layout.{layout}
use Rattle.frames.specs.Frames.{Frames, method_frame, first_method}
use Rattle.frames.specs.Links.{children_of, names_linked, method_linked}
use Rattle.frames.specs.declared.Due.{Due}
use Rattle.frames.specs.declared.Due.TheVariants.{Header, Field, Method, Node, End}

-- the child c of node n may be named
abbrev pub unmarked : ℕ → List ℕ → ℕ → Bool
unmarked n marks c = ltb c n && not (eqb (get_or marks c 0) 1)

-- all of them, one after the other
unfoldable pub fresh_in : ℕ → List ℕ → List ℕ → Bool
fresh_in n marks [] = true
fresh_in n marks (c ∷ cs) = unmarked n marks c && fresh_in n (set marks c 1) cs

-- the marks once they are named
unfoldable pub marked : List ℕ → List ℕ → List ℕ
marked marks [] = marks
marked marks (c ∷ cs) = marked (set marks c 1) cs

-- the child that there may be
abbrev pub list_of : Option ℕ → List ℕ
list_of (Some c) = c ∷ []
list_of None = []

-- what naming some children comes to
pub record Named (r : Bool) (n : ℕ) (before after children : List ℕ) : Type 0 where
  pub is : r ≡ fresh_in n before children
  pub marks : r ≡ true → after ≡ marked before children

-- the test of frame i with the marks; m and n are the method that the next node stands in and its number there
unfoldable pub linked_by : Frames → List ℕ → Due → (i m n : ℕ) → Bool
linked_by f marks Header i m n = true
linked_by f marks Field i m n = true
linked_by f marks Method i m n = method_linked f (i - first_method f)
linked_by f marks Node i m n =
    fresh_in n marks (children_of (f i)) && names_linked f (method_frame f m layout.k_at) (f i)
linked_by f marks End i m n = true

-- and the marks after it
unfoldable pub marked_by : Frames → List ℕ → Due → ℕ → List ℕ
marked_by f marks Header i = marks
marked_by f marks Field i = marks
marked_by f marks Method i = marks
marked_by f marks Node i = marked marks (children_of (f i))
marked_by f marks End i = marks

pub record Linked (r : Bool) (f : Frames) (before after : List ℕ) (d : Due) (i m n : ℕ) : Type 0 where
  pub is : r ≡ linked_by f before d i m n
  pub marks : r ≡ true → after ≡ marked_by f before d i
