-- The two rules for FF at calls, of a whole program: what `NotHeld` states. 01's roots are nowhere above, and the same in tables that fall, as
-- those after each round are where the declared ones do.
-- Assumes nothing.
use Prim.Native.Nat.{ℕ, pred, ◌≤◌, ◌<◌}
use Rattle.std.specs.Prelude.{Bool, false, not, ◌||◌, List, T, leb, length}
use Rattle.std.proofs.Math.Path.{◌≡◌, refl, sym, ap, ap₂, subst, fun_ext}
use Rattle.std.proofs.Common.{◌∙◌, le_of_eq, le_trans, leb→le, le→leb, ne_eqb}
use Rattle.std.proofs.Math.Nat.{le_antisymm}
use Rattle.std.proofs.Math.ListN.{get_or, length-map, get_or-map}
use Rattle.grades.specs.Grades.{const, cmpd}
use Rattle.grades.specs.HeldSets.{entries, held, add, no_name}
use Rattle.grades.proofs.Laws.HeldSets.{held-past, held-add}
use Rattle.counting.specs.Counting.{up_to}
use Rattle.frames.specs.Program.{Node, Method, Program, plain_node, no_method, method_at, node_at}
use Rattle.meaning.specs.Meaning.{Assignment, root_of, Op, plain_value, read, write, sequence, choice, loop, synchronised, assertion, call, fork, no_op, op_of, first_name, callee_entry, child_set, meaning, root_table}
use Rattle.meaning.specs.Lowest.{method_count, entry_count, is_entry, after, rounds_from, lowest_from, is_declared, declared_table, declarations, rounds, lowest}
use Rattle.meaning.specs.Constraints.{Entry, Meets, named_method, is_fork, fork_at, finding, tables_of, answer}
use Rattle.meaning.specs.Changes.{AntitoneAt, DeclaredAntitone}
use Rattle.meaning.specs.Tree.{renamed}
use Rattle.meaning.specs.NotHeld.{called_by, method_as_not_held, as_not_held, NeverHeld, RulesCompared}
use Rattle.meaning.proofs.Laws.Meaning.{meaning-order, unchanged, equal-within}
use Rattle.meaning.proofs.Laws.Lowest.{entry_set}
use Rattle.meaning.proofs.Laws.Constraints.{lowest-is, ClosedMet, closed-met, met-closed}
use Rattle.meaning.proofs.Laws.Answers.{when-accepted, satisfied-accepted}
use Rattle.meaning.proofs.Laws.Changes.{rounds-antitone, lowest-antitone}
use Rattle.meaning.proofs.Laws.Declarations.{same-meaning, same_entries, same_tables}
use Rattle.meaning.proofs.Laws.SameRoots.{same-declarations, same-rounds, same-lowest, same-finding, same_answer_lem}
use Rattle.meaning.proofs.Laws.NotHeldCalls.{entries-compared, entry-reads, entry-below}

module _ (l : ℕ) (p : Program) where
  abbrev q : Program
  q = as_not_held l p

  method-read : (m : ℕ) → method_at q m ≡ method_as_not_held l (method_at p m)
  unfolding as_not_held method_at no_method
  method-read m = get_or-map (method_as_not_held l) p.methods m no_method

  same-fields : q.fields ≡ p.fields
  unfolding as_not_held
  same-fields = refl

  same_count : method_count q ≡ method_count p
  unfolding as_not_held method_count
  same_count = length-map p.methods (method_as_not_held l)

  same-k : (m : ℕ) → (method_at q m).k ≡ (method_at p m).k
  same-k m = ap (λ (x : Method). x.k) (method-read m)

  same-declared : (m : ℕ) → is_declared q m ≡ is_declared p m
  unfolding is_declared
  same-declared m = ap (λ (x : Method). x.declared) (method-read m)

  same-table : (m H : ℕ) → declared_table q m H ≡ declared_table p m H
  unfolding declared_table
  same-table m H = ap (λ (x : Method). get_or x.table H const) (method-read m)

  same_length : (m : ℕ) → length (method_at q m).nodes ≡ length (method_at p m).nodes
  same_length m = ap (λ (x : Method). length x.nodes) (method-read m) ∙ length-map (method_at p m).nodes (renamed (called_by l))

  body-read : (m n : ℕ) → node_at (method_at q m) n ≡ renamed (called_by l) (node_at (method_at p m) n)
  unfolding node_at plain_node op_of
  body-read m n =
      ap (λ (x : Method). get_or x.nodes n plain_node) (method-read m) ∙ get_or-map (renamed (called_by l)) (method_at p m).nodes n plain_node

  same-named : (m n : ℕ) → named_method q m n ≡ named_method p m n
  unfolding named_method
  same-named m n = ap (λ (x : Node). x.U) (body-read m n)

  same-fork : (m n : ℕ) → fork_at q m n ≡ fork_at p m n
  unfolding fork_at
  same-fork m n = ap (λ (x : Node). is_fork (op_of x.op)) (body-read m n)

  counts : (m : ℕ) → entry_count q m ≡ entry_count p m
  counts = same_entries p q same_count same-k

  -- a root's table in q: that of p's nodes, with l for FF
  root-read : (a : Assignment) (m H : ℕ)
      → root_table q a m H ≡ meaning p a (λ n. renamed (called_by l) (node_at (method_at p m) n)) (root_of (method_at p m)) H
  unfolding root_table root_of
  root-read a m H =
      same-meaning p q same-fields same-k a (node_at (method_at q m)) (pred (length (method_at q m).nodes)) H
      ∙ ap₂ (λ (nodes : ℕ → Node) (n : ℕ). meaning p a nodes n H) (fun_ext (body-read m)) (ap pred (same_length m))

  declared-alike : declarations q ≡ declarations p
  declared-alike = same-declarations p q same-declared same-table

  -- 01's roots are nowhere above
  root_below : (l ≡ no_name → ⊥) → (a : Assignment) (m H : ℕ) → root_table q a m H ≤ root_table p a m H
  unfolding root_table
  root_below is_name a m H =
      let nodes : (ℕ → Node) = node_at (method_at p m) in
      let n : ℕ = root_of (method_at p m) in
      subst (λ (x : ℕ). x ≤ meaning p a nodes n H) (sym (unfold root_table in root-read a m H))
      (subst (λ (body : ℕ → Node). meaning p a (λ j. renamed (called_by l) (nodes j)) n H ≤ meaning p a body n H) (unchanged nodes)
      (meaning-order p ◌≡◌ equal-within (λ names. names) (called_by l) a a nodes nodes n
      (λ j t. (
        refl,
        λ s F G. ap (λ (K : ℕ). add K (first_name (nodes j).names)),
        λ c F G e.
            subst
            (λ (K : ℕ).
            callee_entry (method_at p (nodes j).U).k (a (nodes j).U) (called_by l (nodes j).names) K
            ≤ callee_entry (method_at p (nodes j).U).k (a (nodes j).U) (nodes j).names F)
            e (entry-below l is_name (method_at p (nodes j).U).k (a (nodes j).U) (nodes j).names F),
      )) H H refl))

  -- the same set, which has not l
  abbrev Without : ℕ → ℕ → Type 0
  Without H H' = (H ≡ H') × (held H l ≡ false)

  without-add : (H H' t : ℕ) → (t ≡ l → ⊥) → Without H H' → Without (add H t) (add H' t)
  without-add H H' t other w = (
    ap (λ (K : ℕ). add K t) w.0,
    held-add H t l ∙ ap₂ ◌||◌ (ne_eqb l t (λ e. other (sym e))) w.1,
  )

  module _ (never : NeverHeld p l) where
    -- where the tables fall, 01's roots are the same
    root-same : (a : Assignment) → ((m : ℕ) → AntitoneAt p a m) → (m H : ℕ) → H < entry_count p m → root_table q a m H ≡ root_table p a m H
    unfolding root_table entry_count entries
    root-same a falls m H h =
        let nodes : (ℕ → Node) = node_at (method_at p m) in
        let n : ℕ = root_of (method_at p m) in
        le_antisymm (unfold root_table in root_below never.is_name a m H)
        (subst (λ (x : ℕ). meaning p a nodes n H ≤ x) (sym (unfold root_table in root-read a m H))
        (subst (λ (body : ℕ → Node). meaning p a body n H ≤ meaning p a (λ j. renamed (called_by l) (nodes j)) n H) (unchanged nodes)
        (meaning-order p Without (λ F G w. equal-within F G w.0) (called_by l) (λ names. names) a a nodes nodes n
        (λ j t. (
          refl,
          λ s F G. without-add F G (first_name (nodes j).names) (never.locks m j s),
          λ c F G w.
              let k : ℕ = (method_at p (nodes j).U).k in
              let same : callee_entry k (a (nodes j).U) (nodes j).names F ≡ callee_entry k (a (nodes j).U) (called_by l (nodes j).names) F
              = (entries-compared k (a (nodes j).U) (nodes j).names F).where_falling (unfold entry_count in (falls (nodes j).U).falls)
              ∙ sym (entry-reads l never.is_name k (a (nodes j).U) (nodes j).names F w.1) in
              subst (λ (K : ℕ). callee_entry k (a (nodes j).U) (nodes j).names K ≤ callee_entry k (a (nodes j).U) (called_by l (nodes j).names) F)
              w.0 (le_of_eq same),
        )) H H (refl, held-past (method_at p m).k H l h (never.methods m)))))

    module _ (falling : DeclaredAntitone p) where
      roots : (n m H : ℕ) → T (is_entry p m H) → root_table q (after p (declarations p) n) m H ≡ root_table p (after p (declarations p) n) m H
      roots n m H t = root-same (after p (declarations p) n) (rounds-antitone p falling n) m H (entry_set p m H t)

      lowest-same : lowest q ≡ lowest p
      unfolding lowest
      lowest-same = ap (lowest_from q) declared-alike ∙ same-lowest p q same_count counts (declarations p) roots

      rounds-same : rounds q ≡ rounds p
      unfolding rounds
      rounds-same = ap (rounds_from q) declared-alike ∙ same-rounds p q same_count counts (declarations p) roots

      answer-same : answer q ≡ answer p
      answer-same =
          same_answer_lem p q same_count rounds-same
          (ap (tables_of q) lowest-same ∙ same_tables p q same_count same-k (lowest p))
          (ap (λ (a : Assignment). finding q a (up_to (method_count p))) lowest-same
          ∙ same-finding p q counts same-declared same-table same_length same-fork same-named (lowest p)
          (root-same (lowest p) (lowest-antitone p falling)) (up_to (method_count p)))

    entry-back : (m H : ℕ) → Entry q m H → Entry p m H
    entry-back m H e =
        record {
          method = subst (λ (n : ℕ). m < n) same_count e.method;
          set = subst (λ (n : ℕ). H < n) (counts m) e.set;
        }

    -- what the rule of `Meaning` is met by, 01's is
    meets01 : (a : Assignment) → Meets p a → Meets q a
    meets01 a h =
        record {
          declared = λ m H e t. h.declared m H (entry-back m H e) (subst T (same-declared m) t) ∙ sym (same-table m H);
          undeclared = λ m H e t.
              le_trans (root_below never.is_name a m H)
              (h.undeclared m H (entry-back m H e) (subst (λ (b : Bool). T (not b)) (same-declared m) t));
        }

    closed01 : (a : Assignment) → ClosedMet p a → ClosedMet q a
    closed01 a c =
        let here : (m : ℕ) → m < method_count q → m < method_count p = λ m. subst (λ (n : ℕ). m < n) same_count in
        record {
          kind1 = λ m h t H k.
              le→leb _ _
              (subst (λ (d : ℕ). root_table q a m H ≤ d) (sym (same-table m H))
              (le_trans (root_below never.is_name a m H)
              (leb→le _ _ (c.kind1 m (here m h) (subst T (same-declared m) t) H (subst (λ (n : ℕ). H < n) (counts m) k)))));
          kind2 = λ h. c.kind2 (here 0 h);
          kind3 = λ m n h k t H g.
              subst (λ (u : ℕ). T (not (held H 0) || leb (a u H) cmpd)) (sym (same-named m n))
              (c.kind3 m n (here m h) (subst (λ (i : ℕ). n < i) (same_length m) k) (subst T (same-fork m n) t) H
              (subst (λ (i : ℕ). H < i) (counts (named_method q m n) ∙ ap (entry_count p) (same-named m n)) g));
        }

    -- a child's set has not l where the node's has not
    child-without : (o : Op) (names : List ℕ) (H : ℕ) → (o ≡ synchronised → first_name names ≡ l → ⊥) → held H l ≡ false → held (child_set o names H) l ≡ false
    child-without plain_value names H other f = f
    child-without read names H other f = f
    child-without write names H other f = f
    child-without sequence names H other f = f
    child-without choice names H other f = f
    child-without loop names H other f = f
    child-without synchronised names H other f = (without-add H H (first_name names) (other refl) (refl, f)).1
    child-without assertion names H other f = f
    child-without call names H other f = f
    child-without fork names H other f = f
    child-without no_op names H other f = f

    starts-without : (m H : ℕ) → H < entry_count p m → held H l ≡ false
    unfolding entry_count entries
    starts-without m H h = held-past (method_at p m).k H l h (never.methods m)

    pub rules-compared : RulesCompared p l
    rules-compared =
        record {
          starts = starts-without;
          stays = λ m n H. child-without _ _ H (never.locks m n);
          reads = entry-reads l never.is_name;
          nowhere_below = (lowest-is q).least (lowest p) (meets01 (lowest p) (lowest-is p).meets);
          accepts = λ r tables e.
              satisfied-accepted q (lowest p)
              (record {
                meets = meets01 (lowest p) (lowest-is p).meets;
                closed = met-closed q (lowest p) (closed01 (lowest p) (closed-met p (lowest p) (when-accepted p r tables e).met));
              });
          same_lowest = lowest-same;
          same_rounds = rounds-same;
          same_answer = answer-same;
        }
