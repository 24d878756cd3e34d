-- Demand 2 is met, as `specs/Demand2` states it.
-- Assumes nothing.
use Rattle.std.specs.Prelude.{ℕ, ◌<◌, List, [], ◌≡◌, refl, length, get_or}
use Rattle.std.proofs.Common.{sym, ap, ap₂, ◌∙◌, subst, arith}
use Rattle.std.proofs.Math.Decide.{dec_lt}
use Rattle.frames.specs.Program.{Program}
use Rattle.meaning.specs.Meaning.{Assignment}
use Rattle.meaning.specs.Lowest.{after, declarations, rounds, lowest}
use Rattle.meaning.specs.Constraints.{closed, Satisfies, Answer, accepted, refused, tables_of, entry_of, answer, FirstBroken}
use Rattle.meaning.proofs.Laws.Constraints.{lowest-is}
use Rattle.meaning.proofs.Laws.Rounds.{lowest-after, rounds-stop, rounds-change, rounds-within}
use Rattle.meaning.proofs.Laws.Answers.{tables-length, table-length, tables-of-entries, tables-lowest, one-lowest, refused-by, when-accepted, when-refused, not-both, either-answer, lowest-satisfies, satisfied-accepted}
use Rattle.meaning.specs.Demand2.{Refused, LowestOfAll, IsRounds, Accepted, Named, Permitted, Demand2}

no-refusal : (p : Program) (a : Assignment) → Satisfies p a → Refused p → ⊥
no-refusal p a s r = not-both (answer p) _ _ _ _ _ _ (satisfied-accepted p a s) r.says

refused-or : (p : Program) → ((a : Assignment) → Satisfies p a → ⊥) → Refused p
refused-or p none =
    either-answer p (Refused p) (λ met e. absurd (none (lowest p) (lowest-satisfies p met)))
    (λ m k n H e. record { method = m; kind = k; node = n; set = H; says = e })

lowest-accepted : (p : Program) (r : ℕ) (t : List (List ℕ)) → answer p ≡ accepted r t → Accepted p r t
lowest-accepted p r t e =
    let by = when-accepted p r t e in
    let same : entry_of t ≡ lowest p = ap entry_of by.tables ∙ tables-lowest p in
    record {
      methods = ap length by.tables ∙ tables-length p (lowest p);
      entries = λ m h. ap (λ (l : List (List ℕ)). length (get_or l m [])) by.tables ∙ table-length p (lowest p) m h;
      lowest = subst (LowestOfAll p) (sym same)
          (record { satisfies = lowest-satisfies p by.met; least = λ b s. (lowest-is p).least b s.meets });
      rounds = subst (IsRounds p) (sym by.rounds) (record { stops = rounds-stop p; least = rounds-change p; within = rounds-within p });
      reached = same ∙ lowest-after p ∙ ap (after p (declarations p)) (sym by.rounds);
    }

named : (p : Program) (m k n H : ℕ) → answer p ≡ refused m k n H → Named p m k n H
named p m k n H e =
    let by = when-refused p m k n H e in
    record {
      tables = lowest p;
      lowest = lowest-is p;
      constraint = by.constraint;
      first = by.first;
      its_method = by.method;
      its_kind = by.kind;
      its_node = by.node;
    }

one-count : (p : Program) (r r' : ℕ) → IsRounds p r → IsRounds p r' → r ≡ r'
one-count p r r' x y = go (dec_lt r r') (dec_lt r' r)
  where
    go : Dec (r < r') → Dec (r' < r) → r ≡ r'
    go (yes h) d = absurd (y.least r h x.stops)
    go (no h) (yes g) = absurd (x.least r' g y.stops)
    go (no h) (no g) = omega arith

is-permitted : (p : Program) → Permitted p (answer p)
is-permitted p = go (answer p) refl
  where
    go : (x : Answer) → answer p ≡ x → Permitted p x
    go (accepted r t) e = lowest-accepted p r t e
    go (refused m k n H) e = named p m k n H e

only-permitted : (p : Program) (x : Answer) → Permitted p x → x ≡ answer p
only-permitted p (accepted r t) a =
    let says : answer p ≡ accepted (rounds p) (tables_of p (lowest p)) = satisfied-accepted p (entry_of t) a.lowest.satisfies in
    let mine : Accepted p (rounds p) (tables_of p (lowest p)) = lowest-accepted p (rounds p) (tables_of p (lowest p)) says in
    let count : r ≡ rounds p = one-count p r (rounds p) a.rounds mine.rounds in
    let found : entry_of t ≡ lowest p = a.reached ∙ ap (after p (declarations p)) count ∙ sym (lowest-after p) in
    let same : t ≡ tables_of p (lowest p) = tables-of-entries p t a.methods a.entries ∙ ap (tables_of p) found in
    ap₂ accepted count same ∙ sym says
only-permitted p (refused m k n H) x =
    let same : x.tables ≡ lowest p = one-lowest p x.tables (lowest p) x.lowest (lowest-is p) in
    let says = refused-by p x.constraint H (subst (λ (a : Assignment). FirstBroken p a (closed p) x.constraint H) same x.first) in
    let method = x.its_method in
    let kind = x.its_kind in
    let node = x.its_node in
    cc

pub demand-2 : (p : Program) → Demand2 p
demand-2 p =
    record {
      refused-exactly = (λ r a s. no-refusal p a s r, refused-or p);
      permitted = is-permitted p;
      no_other = only-permitted p;
    }
