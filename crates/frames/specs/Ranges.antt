-- Refusal 5: "a value outside the table above, op over 9, a byte that must be 00 isn't, k not 0 for method 0". A test for each frame.
-- Assumes nothing.
use Rattle.std.specs.Prelude.{ℕ, ◌+◌, ◌^◌, Bool, true, cond, ◌&&◌, ◌||◌, [], ◌∷◌, leb, ltb, eqb, get_or}
use Rattle.frames.specs.Layout.{layout}
use Rattle.frames.specs.Frames.{Frame, Frames, two, first_method}
use Rattle.frames.specs.declared.Due.{Due}
use Rattle.frames.specs.declared.Due.TheVariants.{Header, Field, Method, Node, End}
use Rattle.counting.specs.Counting.{every}

abbrev pub between : ℕ → ℕ → ℕ → Bool
between low high x = leb low x && leb x high

-- "methods 1..64; fields 0..64; nodes 1..1024 (two bytes)"
unfoldable pub header_in_range : Frame → Bool
header_in_range r =
    between 1 layout.most_methods (r layout.methods_at)
    && (leb (r layout.fields_at) layout.most_fields
    && between 1 layout.most_nodes (two r layout.nodes_at))

-- "0 narrow, 1 wide; guard 0 final, 1 guarded, 2 write-guarded, 3 none"
unfoldable pub field_in_range : Frame → Bool
field_in_range r = leb (r layout.width_at) layout.most_width && leb (r layout.guard_at) layout.most_guard

-- how many grades a method frame may list: one for each held set if it is declared, else none
unfoldable pub grades_listed : Frame → ℕ
grades_listed r = cond (eqb (r layout.declared_at) 1) (2 ^ r layout.k_at) 0

-- "16 grades 0..4"; "Grades after the 2^k-th, and all 16 if undeclared, are 00."
unfoldable pub grade_in_range : Frame → ℕ → Bool
grade_in_range r h =
    cond (ltb h (grades_listed r))
    (leb (r (layout.grades_at + h)) layout.most_grade)
    (eqb (r (layout.grades_at + h)) 0)

-- "k 0..4; node count 1..1024 (two bytes); declared 0 or 1; 16 grades 0..4"; "k not 0 for method 0" is refused
unfoldable pub method_in_range : Bool → Frame → Bool
method_in_range is_main r =
    leb (r layout.k_at) (cond is_main 0 layout.most_names)
    && (between 1 layout.most_nodes (two r layout.count_at)
    && (leb (r layout.declared_at) layout.most_declared && every layout.grades (grade_in_range r)))

-- how many of X, Y, Z each op lists, from 0 to 9
unfoldable pub children_listed : ℕ → ℕ
children_listed op = get_or (0 ∷ 1 ∷ 2 ∷ 2 ∷ 3 ∷ 2 ∷ 1 ∷ 1 ∷ 1 ∷ 1 ∷ []) op 0

-- how many of T0 to T3
unfoldable pub names_listed : ℕ → ℕ
names_listed op = get_or (0 ∷ 1 ∷ 1 ∷ 0 ∷ 0 ∷ 0 ∷ 1 ∷ 0 ∷ layout.names ∷ 0 ∷ []) op 0

-- U is a field at ops 1 and 2, a method at 8 and 9, and not listed at the others
abbrev pub uses_field : ℕ → Bool
uses_field op = eqb op 1 || eqb op 2

abbrev pub uses_method : ℕ → Bool
uses_method op = eqb op 8 || eqb op 9

-- "Operands that an op doesn't list are 00."
abbrev pub listed_or_zero : Bool → ℕ → Bool
listed_or_zero listed x = listed || eqb x 0

unfoldable pub name_in_range : Frame → ℕ → Bool
name_in_range r j = listed_or_zero (ltb j (names_listed (r layout.op_at))) (r (layout.names_at + j))

unfoldable pub node_in_range : Frame → Bool
node_in_range r =
    leb (r layout.op_at) layout.most_op
    && (listed_or_zero (ltb 0 (children_listed (r layout.op_at))) (two r layout.XAt)
    && (listed_or_zero (ltb 1 (children_listed (r layout.op_at))) (two r layout.YAt)
    && (listed_or_zero (ltb 2 (children_listed (r layout.op_at))) (two r layout.ZAt)
    && (listed_or_zero (uses_field (r layout.op_at) || uses_method (r layout.op_at)) (r layout.UAt)
    && every layout.names (name_in_range r)))))

-- the test of frame i, which is due
unfoldable pub in_range : Frames → Due → ℕ → Bool
in_range f Header i = header_in_range (f i)
in_range f Field i = field_in_range (f i)
in_range f Method i = method_in_range (eqb i (first_method f)) (f i)
in_range f Node i = node_in_range (f i)
in_range f End i = true
