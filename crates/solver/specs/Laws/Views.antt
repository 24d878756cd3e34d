-- The program that checked tables stand for, seen at one field, method, node or name: what `frames` reads off the tables is what
-- `meaning` asks of the program.
-- Assumes nothing.
use Rattle.std.specs.Prelude.{ℕ, zero, suc, ◌+◌, ◌*◌, ◌≤◌, ◌<◌, ◌^◌, min, max, Bool, true, false, cond, List, [], ◌∷◌, ◌≡◌, eqb, get_or, take, drop}
use Rattle.std.proofs.Math.Path.{refl, fun_ext}
use Rattle.std.proofs.Common.{sym, ap, ap₂, ◌∙◌, arith, pow-suc, add-mul, mul_assoc, mul_comm, add-one, ne_eqb, take_all}
use Rattle.solver.specs.Nodes.{node_in}
use Rattle.frames.specs.Layout.{layout}
use Rattle.grades.specs.Grades.{error}
use Rattle.grades.specs.Access.{read_access, write_access, access}
use Rattle.grades.specs.HeldSets.{held, no_name}
use Rattle.frames.specs.Program.{Field, no_field, no_method, field_at, method_at}
use Rattle.frames.specs.Frames.{methods_in, fields_in, field_frame}
use Rattle.frames.specs.Tables.{cell, field_of, method_of, program_of}
use Rattle.meaning.specs.Meaning.{first_name, field_access, matching, largest, callee_entry, Assignment}
use Rattle.meaning.proofs.Laws.Calls.{over_none, over-unnamed, over-named}
use Rattle.meaning.specs.Lowest.{method_count}
use Rattle.solver.specs.Code.Engine.{entries_from}
use Rattle.counting.specs.Counting.{tabulate}
use Rattle.counting.specs.Laws.Lists.{length-tabulate, get_or-tabulate, get_or-past-tabulate}
use Rattle.solver.specs.Flat.{program_in}

module _ (t : List ℕ) where
  pub field_in : (u : ℕ) → u < fields_in (cell t) → field_at (program_in t) u ≡ field_of (field_frame (cell t) u)
  unfolding field_at program_of
  field_in u h = get_or-tabulate (fields_in (cell t)) (λ i. field_of (field_frame (cell t) i)) u no_field h

  pub field_past : (u : ℕ) → fields_in (cell t) ≤ u → field_at (program_in t) u ≡ no_field
  unfolding field_at program_of
  field_past u h = get_or-past-tabulate (fields_in (cell t)) (λ i. field_of (field_frame (cell t) i)) u no_field h

  pub method-in : (m : ℕ) → m < methods_in (cell t) → method_at (program_in t) m ≡ method_of (cell t) m
  unfolding method_at program_of
  method-in m h = get_or-tabulate (methods_in (cell t)) (method_of (cell t)) m no_method h

  pub method-past : (m : ℕ) → methods_in (cell t) ≤ m → method_at (program_in t) m ≡ no_method
  unfolding method_at program_of
  method-past m h = get_or-past-tabulate (methods_in (cell t)) (method_of (cell t)) m no_method h

  pub method-count : method_count (program_in t) ≡ methods_in (cell t)
  unfolding method_count program_of
  method-count = length-tabulate (methods_in (cell t)) (method_of (cell t))

  -- T0, which every node frame has
  pub first-name : (j : ℕ) → first_name (node_in t j).names ≡ get_or (node_in t j).names 0 0
  unfolding first_name tabulate
  first-name j = refl

  -- the names one by one
  pub four-names : (j : ℕ)
      → (node_in t j).names ≡ get_or (node_in t j).names 0 0 ∷ get_or (node_in t j).names 1 0 ∷ get_or (node_in t j).names 2 0 ∷ get_or (node_in t j).names 3 0 ∷ []
  unfolding tabulate
  four-names j = refl

-- a field that the program lacks permits nothing
pub no-field-access : (write : Bool) (names : List ℕ) (H : ℕ) → field_access no_field write names H ≡ error
unfolding field_access no_field access read_access write_access
no-field-access true names H = refl
no-field-access false names H = refl

-- of four names, as many as the callee takes; more than four are the four
take-few : (k : ℕ) (a b c d : ℕ) → take (min k layout.names) (a ∷ b ∷ c ∷ d ∷ []) ≡ take k (a ∷ b ∷ c ∷ d ∷ [])
take-few zero a b c d = refl
take-few (suc zero) a b c d = refl
take-few (suc (suc zero)) a b c d = refl
take-few (suc (suc (suc zero))) a b c d = refl
take-few (suc (suc (suc (suc k)))) a b c d =
    let four : min (suc (suc (suc (suc k)))) 4 ≡ 4 = omega arith in
    ap (λ (n : ℕ). take n (a ∷ b ∷ c ∷ d ∷ [])) four ∙ sym (take_all (suc (suc (suc (suc k)))) (a ∷ b ∷ c ∷ d ∷ []) (omega arith))

-- an access, from what was read off the tables
pub access-read : (t : List ℕ) (j u w g name r : ℕ) (write inside : Bool) (H : ℕ) → u ≡ (node_in t j).U → u < fields_in (cell t)
    → w ≡ (field_of (field_frame (cell t) u)).width → g ≡ (field_of (field_frame (cell t) u)).guard → name ≡ get_or (node_in t j).names 0 0
    → inside ≡ held H name → r ≡ access w g write inside → r ≡ field_access (field_at (program_in t) (node_in t j).U) write (node_in t j).names H
unfolding field_access
access-read t j u w g name r write inside H eu within ew eg en ei er =
    let field : field_at (program_in t) (node_in t j).U ≡ field_of (field_frame (cell t) u) = ap (field_at (program_in t)) (sym eu) ∙ field_in t u within in
    let width : (field_at (program_in t) (node_in t j).U).width ≡ w = ap (λ (f : Field). f.width) field ∙ sym ew in
    let guard : (field_at (program_in t) (node_in t j).U).guard ≡ g = ap (λ (f : Field). f.guard) field ∙ sym eg in
    let lock : inside ≡ held H (first_name (node_in t j).names) = ei ∙ ap (held H) (en ∙ sym (first-name t j)) in
    er ∙ ap₂ (λ (x y : ℕ). access x y write inside) (sym width) (sym guard)
    ∙ ap (access (field_at (program_in t) (node_in t j).U).width (field_at (program_in t) (node_in t j).U).guard write) lock

-- ---- a callee's entries, one name at a time

-- a set of the names below j, with an answer for name j, is one of the names below j + 1
pub answered-below : (j inside r : ℕ) (b : Bool) → inside < 2 ^ j → r ≡ inside + cond b 1 0 * 2 ^ j → r < 2 ^ (j + 1)
answered-below j inside r b h e = go b e (ap (λ (n : ℕ). 2 ^ n) (add-one j) ∙ pow-suc 2 j)
  where
    go : (b : Bool) → r ≡ inside + cond b 1 0 * 2 ^ j → 2 ^ (j + 1) ≡ 2 ^ j * 2 → r < 2 ^ (j + 1)
    go true e d = omega arith
    go false e d = omega arith

module _ (table : ℕ → ℕ) (rest : List ℕ) (H j inside : ℕ) where
  -- the entries where the name j has an answer
  abbrev pub entries_after : Bool → ℕ
  entries_after b = largest (entries_from table (j + 1) (inside + cond b 1 0 * 2 ^ j)) (matching rest H)

  answer-put : (b : Bool) → entries_from table (j + 1) (inside + cond b 1 0 * 2 ^ j) ≡ (λ (S : ℕ). entries_from table j inside (cond b 1 0 + S * 2))
  answer-put b = fun_ext (λ S. ap table (ap (λ (n : ℕ). inside + cond b 1 0 * 2 ^ j + S * n) (ap (λ (n : ℕ). 2 ^ n) (add-one j) ∙ pow-suc 2 j) ∙ together S (cond b 1 0) (2 ^ j)))
    where
      together : (S c n : ℕ) → inside + c * n + S * (n * 2) ≡ inside + (c + S * 2) * n
      together S c n =
          omega (arith, add-mul c (S * 2) n, mul_assoc S n 2, mul_assoc S 2 n, ap (λ (m : ℕ). S * m) (mul_comm n 2))

  pub entries-unnamed : (name : ℕ) → name ≡ no_name
      → largest (entries_from table j inside) (matching (name ∷ rest) H) ≡ max (entries_after false) (entries_after true)
  entries-unnamed name e =
      over-unnamed (entries_from table j inside) name rest H (ap (λ (t : ℕ). eqb t no_name) e)
      ∙ ap₂ (λ (f g : ℕ → ℕ). max (largest f (matching rest H)) (largest g (matching rest H))) (sym (answer-put false)) (sym (answer-put true))

  pub entries-named : (name : ℕ) → (name ≡ no_name → ⊥) → largest (entries_from table j inside) (matching (name ∷ rest) H) ≡ entries_after (held H name)
  entries-named name e =
      over-named (entries_from table j inside) name rest H (ne_eqb name no_name e)
      ∙ ap (λ (f : ℕ → ℕ). largest f (matching rest H)) (sym (answer-put (held H name)))

pub entries-end : (table : ℕ → ℕ) (H j inside : ℕ) → largest (entries_from table j inside) (matching [] H) ≡ table inside
entries-end table H j inside = over_none (entries_from table j inside) H ∙ ap table (omega arith)

-- from the first name on they are all the sets that match
pub entries-start : (table : ℕ → ℕ) (names : List ℕ) (H : ℕ) → largest table (matching names H) ≡ largest (entries_from table 0 0) (matching (drop 0 names) H)
entries-start table names H =
    let whole : table ≡ entries_from table 0 0 = fun_ext (λ S. ap table (omega arith)) in
    ap (λ (t : ℕ → ℕ). largest t (matching names H)) whole

-- a callee's entry, from what was read off the tables: of the names that the callee takes
pub entry_read : (t : List ℕ) (a : Assignment) (j u k r H : ℕ) (all names : List ℕ) → u ≡ (node_in t j).U
    → k ≡ min (method_at (program_in t) u).k layout.names
    → all ≡ (node_in t j).names → names ≡ take k all → r ≡ largest (a u) (matching names H)
    → r ≡ callee_entry (method_at (program_in t) (node_in t j).U).k (a (node_in t j).U) (node_in t j).names H
unfolding callee_entry tabulate
entry_read t a j u k r H all names eu ek ea en er =
    let taken : names ≡ take (method_at (program_in t) u).k (node_in t j).names
    = en ∙ ap₂ take ek ea ∙ take-few (method_at (program_in t) u).k _ _ _ _ in
    er ∙ ap (λ (l : List ℕ). largest (a u) (matching l H)) taken
    ∙ ap (λ (v : ℕ). largest (a v) (matching (take (method_at (program_in t) v).k (node_in t j).names) H)) eu
