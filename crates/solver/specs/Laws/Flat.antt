-- The laws of flat tables: what stands at each place, how they are filled, and what a round leaves as it was.
-- Assumes nothing.
use Prim.Native.Nat.{ℕ, zero, suc, pred, ◌+◌, ◌*◌, ◌-◌, ◌/◌, ◌%◌, ◌^◌, ◌≤◌, ◌<◌, min}
use Rattle.std.specs.Prelude.{Bool, not, List, T, eqb, set}
use Rattle.std.proofs.Math.Bool.{true, false, cond, ◌&&◌}
use Rattle.std.proofs.Math.Path.{◌≡◌, refl, sym, ap, ap₂}
use Rattle.std.proofs.Common.{◌∙◌, subst, sub-one, arith, lt-ltb, le-ltb, length-set, get_or-set_same, get_or-set_other, ext_get_or, pow_mono}
use Rattle.std.proofs.Math.Decide.{dec_lt}
use Rattle.std.proofs.Math.Dec.{ltb}
use Rattle.std.proofs.Math.ListN.{length, get_or, get_or-eq_default, get_or-replicate}
use Rattle.std.proofs.lemmas.List.{length-replicate}
use Rattle.frames.specs.Layout.{layout, answer_length}
use Rattle.grades.specs.Grades.{const, cap, join}
use Rattle.grades.specs.HeldSets.{entries}
use Rattle.grades.proofs.Laws.Grades.{join-larger, cap-grade}
use Rattle.frames.specs.Program.{Node, Method, Program, plain_node, node_at, method_at}
use Rattle.frames.specs.Frames.{methods_in}
use Rattle.frames.specs.Links.{node_count}
use Rattle.frames.specs.Tables.{cell, method_of, node_of, first_frame}
use Rattle.frames.specs.Laws.Tables.{nodes-length, nodes-before-more}
use Rattle.meaning.specs.Meaning.{Assignment, node_grade, below, meaning, root_of, root_table, whole, parts, children, op_of}
use Rattle.meaning.specs.Lowest.{method_count, entry_count, is_entry, on_entries, start, round, is_declared, declared_table, declarations}
use Rattle.meaning.proofs.Laws.Meaning.{root-error}
use Rattle.solver.specs.Code.Engine.{nodes_from, last_frame}
use Rattle.solver.specs.Laws.Views.{method-in, method-count}
use Rattle.solver.specs.Flat.{program_in, blank, flat, tables_in}
use Rattle.counting.specs.Laws.Lists.{length-tabulate, get_or-tabulate}
use Rattle.solver.specs.Code.Rounds.{Fits, Starts, Done, is_fixed, start_tables, round_tables}

-- ---- a method's root, among the nodes from its first frame on

-- the grades below n hang on the nodes below n alone
below-agree : (p : Program) (a : Assignment) (nodes nodes' : ℕ → Node) (n : ℕ) → ((i : ℕ) → i < n → nodes i ≡ nodes' i) → below p a nodes n ≡ below p a nodes' n
unfolding below
below-agree p a nodes nodes' zero h = refl
below-agree p a nodes nodes' (suc n) h =
    ap₂ {C = ℕ → ℕ → ℕ} (λ (lower : ℕ → ℕ → ℕ) (node : Node) (m H : ℕ). cond (eqb m n) (node_grade p a lower node H) (lower m H))
    (below-agree p a nodes nodes' n (λ i l. h i (omega arith))) (h n (omega arith))

meaning-agree : (p : Program) (a : Assignment) (nodes nodes' : ℕ → Node) (n : ℕ) → ((i : ℕ) → i ≤ n → nodes i ≡ nodes' i) → (H : ℕ) → meaning p a nodes n H ≡ meaning p a nodes' n H
unfolding meaning
meaning-agree p a nodes nodes' n h H =
    ap₂ (λ (lower : ℕ → ℕ → ℕ) (node : Node). node_grade p a lower node H)
    (below-agree p a nodes nodes' n (λ i l. h i (omega arith))) (h n (omega arith))

module _ (t : List ℕ) (a : Assignment) (m : ℕ) (within : m < methods_in (cell t)) where
  pub body-node : (i : ℕ) → i < node_count (cell t) m → nodes_from t (first_frame (cell t) m) i ≡ node_at (method_at (program_in t) m) i
  unfolding node_at
  body-node i h =
      sym (ap (λ (x : Method). get_or x.nodes i plain_node) (method-in t m within)
      ∙ get_or-tabulate (node_count (cell t) m) (λ n. node_of (cell t (first_frame (cell t) m + n))) i plain_node h)

  root-number : root_of (method_at (program_in t) m) ≡ pred (node_count (cell t) m)
  unfolding root_of
  root-number = ap (λ (x : Method). pred (length x.nodes)) (method-in t m within) ∙ ap pred (nodes-length (cell t) m)

  pub root-last : (H : ℕ) → 0 < node_count (cell t) m
      → meaning (program_in t) a (nodes_from t (first_frame (cell t) m)) (node_count (cell t) m - 1) H ≡ root_table (program_in t) a m H
  unfolding root_table
  root-last H some =
      meaning-agree (program_in t) a (nodes_from t (first_frame (cell t) m)) (node_at (method_at (program_in t) m)) (node_count (cell t) m - 1)
      (λ i l. body-node i (omega arith)) H
      ∙ ap (λ (n : ℕ). meaning (program_in t) a (node_at (method_at (program_in t) m)) n H) (sub-one (node_count (cell t) m) ∙ sym root-number)

  pub root_none : (H : ℕ) → node_count (cell t) m ≡ 0 → const ≡ root_table (program_in t) a m H
  unfolding root_table node_at meaning plain_node node_grade whole parts children op_of
  root_none H none =
      let empty : length (method_at (program_in t) m).nodes ≡ 0 = ap (λ (x : Method). length x.nodes) (method-in t m within) ∙ nodes-length (cell t) m ∙ none in
      let plain : node_at (method_at (program_in t) m) (root_of (method_at (program_in t) m)) ≡ plain_node = get_or-eq_default (method_at (program_in t) m).nodes plain_node (omega arith) in
      sym (ap (λ (node : Node). node_grade (program_in t) a (below (program_in t) a (node_at (method_at (program_in t) m)) (root_of (method_at (program_in t) m))) node H) plain)

-- ---- filling

pub done_none : (target old : List ℕ) → length old ≡ answer_length → Done 0 target old old
done_none target old e = record { size = e; before = λ i l. absurd (omega arith); rest = λ i l. refl }

pub done-store : (b v : ℕ) (target old new : List ℕ) → Done b target old new → b < answer_length → v ≡ get_or target b 0 → Done (b + 1) target old (set new b v)
done-store b v target old new d h e =
    record {
      size = length-set new b v ∙ d.size;
      before = λ i l. here i l (dec_lt i b);
      rest = λ i l. get_or-set_other new b i v 0 (λ same. absurd (omega arith)) ∙ d.rest i (omega arith);
    }
  where
    here : (i : ℕ) → i < b + 1 → Dec (i < b) → get_or (set new b v) i 0 ≡ get_or target i 0
    here i l (yes k) = get_or-set_other new b i v 0 (λ same. absurd (omega arith)) ∙ d.before i k
    here i l (no k) =
        let same : i ≡ b = omega arith in
        ap (λ (n : ℕ). get_or (set new b v) n 0) same ∙ get_or-set_same new b v 0 (omega (arith, d.size)) ∙ e ∙ ap (λ (n : ℕ). get_or target n 0) (sym same)

pub done-skip : (b b' : ℕ) (target old new : List ℕ) → Done b target old new → b ≤ b' → ((i : ℕ) → b ≤ i → i < b' → get_or target i 0 ≡ get_or old i 0) → Done b' target old new
done-skip b b' target old new d h alike =
    record { size = d.size; before = λ i l. here i l (dec_lt i b); rest = λ i l. d.rest i (omega arith) }
  where
    here : (i : ℕ) → i < b' → Dec (i < b) → get_or new i 0 ≡ get_or target i 0
    here i l (yes k) = d.before i k
    here i l (no k) = d.rest i (omega arith) ∙ sym (alike i (omega arith) l)

pub done_all : (target old new : List ℕ) → length target ≡ answer_length → Done answer_length target old new → new ≡ target
done_all target old new e d = ext_get_or 0 new target (d.size ∙ sym e) (λ i l. d.before i (omega (arith, d.size)))

pub blank-length : length blank ≡ answer_length
unfolding blank
blank-length = length-replicate {A = ℕ} answer_length 0

pub blank-at : (i : ℕ) → get_or blank i 0 ≡ 0
blank-at i = go (dec_lt i answer_length)
  where
    go : Dec (i < answer_length) → get_or blank i 0 ≡ 0
    go (yes h) = unfold blank in get_or-replicate {A = ℕ} answer_length i 0 0 h
    go (no h) = get_or-eq_default blank 0 (omega (arith, blank-length))

-- ---- what stands at each place

place-method : (m h : ℕ) → h < layout.grades → (layout.grades * m + h) / layout.grades ≡ m
place-method m h l = omega arith

place_set : (m h : ℕ) → h < layout.grades → (layout.grades * m + h) % layout.grades ≡ h
place_set m h l = omega arith

pub flat-length : (a : Assignment) → length (flat a) ≡ answer_length
unfolding flat
flat-length a = length-tabulate answer_length (λ i. a (i / layout.grades) (i % layout.grades))

pub flat-at : (a : Assignment) (i : ℕ) → i < answer_length → get_or (flat a) i 0 ≡ a (i / layout.grades) (i % layout.grades)
unfolding flat
flat-at a i h = get_or-tabulate answer_length (λ j. a (j / layout.grades) (j % layout.grades)) i 0 h

pub flat-entry : (a : Assignment) (m h : ℕ) → m < layout.most_methods → h < layout.grades → get_or (flat a) (layout.grades * m + h) 0 ≡ a m h
flat-entry a m h l k = flat-at a (layout.grades * m + h) (omega arith) ∙ ap₂ a (place-method m h k) (place_set m h k)

-- flat tables of an assignment that is 0 at all but the places they have room for, read back
pub flat-read : (a : Assignment) → ((m H : ℕ) → layout.most_methods ≤ m → a m H ≡ 0) → ((m H : ℕ) → layout.grades ≤ H → a m H ≡ 0) → (m H : ℕ) → tables_in (flat a) m H ≡ a m H
unfolding tables_in
flat-read a far wide m H = go (dec_lt H layout.grades) (dec_lt m layout.most_methods)
  where
    go : Dec (H < layout.grades) → Dec (m < layout.most_methods) → cond (ltb H layout.grades) (get_or (flat a) (layout.grades * m + H) 0) 0 ≡ a m H
    go (yes h) (yes l) = rw (lt-ltb H layout.grades h) (flat-entry a m H l h)
    go (yes h) (no l) =
        rw (lt-ltb H layout.grades h)
        (get_or-eq_default (flat a) 0 {n = layout.grades * m + H} (omega (arith, flat-length a)) ∙ sym (far m H (omega arith)))
    go (no h) l = rw (le-ltb H layout.grades (omega arith)) (sym (wide m H (omega arith)))

-- ---- where the methods start

pub starts_more : (t starts : List ℕ) (m v : ℕ) → Starts t m starts → m < layout.most_methods → v ≡ first_frame (cell t) m → v < 2 ^ 32 → Starts t (m + 1) (set starts m v)
starts_more t starts m v s h e small =
    record { size = length-set starts m v ∙ s.size; first = λ i l. first i l (dec_lt i m); small = λ i l. bounded i l (dec_lt i m) }
  where
    other : (i : ℕ) → i < m → get_or (set starts m v) i 0 ≡ get_or starts i 0
    other i l = get_or-set_other starts m i v 0 (λ same. absurd (omega arith))

    last : (i : ℕ) → i < m + 1 → (i < m → ⊥) → get_or (set starts m v) i 0 ≡ v
    last i l k =
        let same : i ≡ m = omega arith in
        ap (λ (n : ℕ). get_or (set starts m v) n 0) same ∙ get_or-set_same starts m v 0 (omega (arith, s.size))

    first : (i : ℕ) → i < m + 1 → Dec (i < m) → get_or (set starts m v) i 0 ≡ first_frame (cell t) i
    first i l (yes k) = other i k ∙ s.first i k
    first i l (no k) = let same : m ≡ i = omega arith in last i l k ∙ e ∙ ap (first_frame (cell t)) same

    bounded : (i : ℕ) → i < m + 1 → Dec (i < m) → get_or (set starts m v) i 0 < 2 ^ 32
    bounded i l (yes k) = omega (arith, other i k, s.small i k)
    bounded i l (no k) = omega (arith, last i l k)

pub first_more : (t : List ℕ) (m : ℕ) → first_frame (cell t) (m + 1) ≡ first_frame (cell t) m + node_count (cell t) m
first_more t m = omega (arith, nodes-before-more (cell t) m)

-- ---- which places are entries

module _ (t : List ℕ) (fits : Fits t) where
  pub entry-count : (m : ℕ) → m < methods_in (cell t) → entry_count (program_in t) m ≡ 2 ^ (method_of (cell t) m).k
  unfolding entry_count entries
  entry-count m h = ap (λ (x : Method). 2 ^ x.k) (method-in t m h)

  pub few-entries : (m : ℕ) → m < methods_in (cell t) → 2 ^ (method_of (cell t) m).k ≤ layout.grades
  few-entries m h = pow_mono (fits.names m h)

  -- how many entries a method has, as read off the tables
  pub count-read : (m k r : ℕ) → m < methods_in (cell t) → k ≡ (method_of (cell t) m).k → r ≡ min (2 ^ k) layout.grades → r ≡ 2 ^ (method_of (cell t) m).k
  count-read m k r h e f =
      let same : r ≡ min (2 ^ (method_of (cell t) m).k) layout.grades = f ∙ ap (λ (n : ℕ). min (2 ^ n) layout.grades) e in
      omega (arith, few-entries m h)

  pub is-entry : (m h : ℕ) → m < methods_in (cell t) → h < 2 ^ (method_of (cell t) m).k → is_entry (program_in t) m h ≡ true
  unfolding is_entry
  is-entry m h l k = ap₂ ◌&&◌ (lt-ltb m (method_count (program_in t)) (omega (arith, method-count t))) (lt-ltb h (entry_count (program_in t) m) (omega (arith, entry-count m l)))

  pub no-entry-set : (m h : ℕ) → m < methods_in (cell t) → 2 ^ (method_of (cell t) m).k ≤ h → is_entry (program_in t) m h ≡ false
  unfolding is_entry
  no-entry-set m h l k = ap₂ ◌&&◌ (lt-ltb m (method_count (program_in t)) (omega (arith, method-count t))) (le-ltb h (entry_count (program_in t) m) (omega (arith, entry-count m l)))

  pub no-entry-method : (m h : ℕ) → methods_in (cell t) ≤ m → is_entry (program_in t) m h ≡ false
  unfolding is_entry
  no-entry-method m h l = ap (λ (b : Bool). (b && ltb h (entry_count (program_in t) m))) (le-ltb m (method_count (program_in t)) (omega (arith, method-count t)))

  -- no entry past the room of a method, nor past the room for methods
  pub no-entry-far : (m h : ℕ) → layout.most_methods ≤ m → is_entry (program_in t) m h ≡ false
  no-entry-far m h l = no-entry-method m h (omega (arith, fits.methods))

  pub no-entry-wide : (m h : ℕ) → layout.grades ≤ h → is_entry (program_in t) m h ≡ false
  no-entry-wide m h l = go (dec_lt m (methods_in (cell t)))
    where
      go : Dec (m < methods_in (cell t)) → is_entry (program_in t) m h ≡ false
      go (yes k) = no-entry-set m h k (omega (arith, few-entries m k))
      go (no k) = no-entry-method m h (omega arith)

  pub fixed-declared : (m : ℕ) → m < methods_in (cell t) → is_declared (program_in t) m ≡ is_fixed t m
  unfolding is_declared
  fixed-declared m h = ap (λ (x : Method). x.declared) (method-in t m h)

  -- ---- the tables that rounds start from, at each place

  start-at : (m h : ℕ) → m < layout.most_methods → h < layout.grades → get_or (start_tables t) (layout.grades * m + h) 0
      ≡ cond (is_entry (program_in t) m h) (cond (is_declared (program_in t) m) (declared_table (program_in t) m h) (cap const)) const
  unfolding start_tables start on_entries declarations
  start-at m h l k = flat-entry (start (program_in t) (declarations (program_in t))) m h l k

  pub start-declared : (m h : ℕ) → m < methods_in (cell t) → is_fixed t m ≡ true → h < 2 ^ (method_of (cell t) m).k
      → get_or (start_tables t) (layout.grades * m + h) 0 ≡ get_or (method_of (cell t) m).table h 0
  unfolding declared_table
  start-declared m h l f k =
      start-at m h (omega (arith, fits.methods)) (omega (arith, few-entries m l))
      ∙ ap₂ (λ (e d : Bool). cond e (cond d (declared_table (program_in t) m h) (cap const)) const) (is-entry m h l k) (fixed-declared m l ∙ f)
      ∙ ap (λ (x : Method). get_or x.table h const) (method-in t m l)

  pub start_outside : (m h : ℕ) → m < layout.most_methods → h < layout.grades → is_entry (program_in t) m h ≡ false → get_or (start_tables t) (layout.grades * m + h) 0 ≡ 0
  start_outside m h l k e =
      start-at m h l k ∙ ap (λ (b : Bool). cond b (cond (is_declared (program_in t) m) (declared_table (program_in t) m h) (cap const)) const) e

  pub start-undeclared : (m h : ℕ) → m < methods_in (cell t) → h < layout.grades → is_fixed t m ≡ false → get_or (start_tables t) (layout.grades * m + h) 0 ≡ 0
  unfolding cap
  start-undeclared m h l k f =
      start-at m h (omega (arith, fits.methods)) k
      ∙ ap (λ (d : Bool). cond (is_entry (program_in t) m h) (cond d (declared_table (program_in t) m h) (cap const)) const) (fixed-declared m l ∙ f)
      ∙ both_zero (is_entry (program_in t) m h)
    where
      both_zero : (b : Bool) → ◌≡◌ {A = ℕ} (cond b 0 0) 0
      both_zero true = refl
      both_zero false = refl

  -- ---- the tables that one round gives, at each place

  module _ (old : List ℕ) where
    round-at : (m h : ℕ) → m < layout.most_methods → h < layout.grades → get_or (round_tables t old) (layout.grades * m + h) 0
        ≡ cond (is_entry (program_in t) m h) (cond (is_declared (program_in t) m) (declared_table (program_in t) m h) (join const (root_table (program_in t) (tables_in old) m h))) const
    unfolding round_tables round on_entries declarations
    round-at m h l k = flat-entry (round (program_in t) (declarations (program_in t)) (tables_in old)) m h l k

    pub round-undeclared : (m h : ℕ) → m < methods_in (cell t) → is_fixed t m ≡ false → h < 2 ^ (method_of (cell t) m).k
        → get_or (round_tables t old) (layout.grades * m + h) 0 ≡ root_table (program_in t) (tables_in old) m h
    round-undeclared m h l f k =
        round-at m h (omega (arith, fits.methods)) (omega (arith, few-entries m l))
        ∙ ap₂ (λ (e d : Bool). cond e (cond d (declared_table (program_in t) m h) (join const (root_table (program_in t) (tables_in old) m h))) const)
        (is-entry m h l k) (fixed-declared m l ∙ f)
        ∙ join-larger const (root_table (program_in t) (tables_in old) m h) (omega arith)
        ∙ cap-grade (root_table (program_in t) (tables_in old) m h) (root-error (program_in t) (tables_in old) m h)

-- ---- whole methods passed over

-- every place of the methods from m on, up to m', is a method's entry number
by_place : (P : ℕ → Type 0) (m m' : ℕ) → ((n h : ℕ) → m ≤ n → n < m' → h < layout.grades → P (layout.grades * n + h)) → (i : ℕ) → layout.grades * m ≤ i → i < layout.grades * m' → P i
by_place P m m' f i l k =
    let whole : layout.grades * (i / layout.grades) + i % layout.grades ≡ i = omega arith in
    subst P whole (f (i / layout.grades) (i % layout.grades) (omega arith) (omega arith) (omega arith))

pub skip-methods : (m m' : ℕ) (target old new : List ℕ) → Done (layout.grades * m) target old new → m ≤ m'
    → ((n h : ℕ) → m ≤ n → n < m' → h < layout.grades → get_or target (layout.grades * n + h) 0 ≡ get_or old (layout.grades * n + h) 0) → Done (layout.grades * m') target old new
skip-methods m m' target old new d h alike =
    done-skip (layout.grades * m) (layout.grades * m') target old new d (omega arith) (by_place (λ i. get_or target i 0 ≡ get_or old i 0) m m' alike)

-- the rest of one method passed over, from entry h on
pub skip-rest : (m h : ℕ) (target old new : List ℕ) → Done (layout.grades * m + h) target old new → h ≤ layout.grades
    → ((e : ℕ) → h ≤ e → e < layout.grades → get_or target (layout.grades * m + e) 0 ≡ get_or old (layout.grades * m + e) 0) → Done (layout.grades * m + layout.grades) target old new
skip-rest m h target old new d l alike =
    done-skip (layout.grades * m + h) (layout.grades * m + layout.grades) target old new d (omega arith)
    (λ i a b. let same : layout.grades * m + (i - layout.grades * m) ≡ i = omega arith in
    subst (λ (n : ℕ). get_or target n 0 ≡ get_or old n 0) same (alike (i - layout.grades * m) (omega arith) (omega arith)))

pub not_entry : (b : Bool) → b ≡ false → T (not b)
not_entry b e = subst (λ (x : Bool). T (not x)) (sym e) tt

-- ---- a method's nodes stand before the last frame

pub frames-rise : (t : List ℕ) (m n : ℕ) → first_frame (cell t) m ≤ first_frame (cell t) (m + n)
frames-rise t m zero = let same : m + 0 ≡ m = omega arith in omega (arith, ap (first_frame (cell t)) same)
frames-rise t m (suc n) =
    let next : m + suc n ≡ m + n + 1 = omega arith in
    omega (arith, frames-rise t m n, ap (first_frame (cell t)) next, first_more t (m + n))

pub node-frame : (t : List ℕ) (m n : ℕ) → m < methods_in (cell t) → n < node_count (cell t) m → first_frame (cell t) m + n < last_frame t
node-frame t m n h l =
    let rest : m + 1 + (methods_in (cell t) - (m + 1)) ≡ methods_in (cell t) = omega arith in
    omega (arith, first_more t m, frames-rise t (m + 1) (methods_in (cell t) - (m + 1)), ap (first_frame (cell t)) rest)
