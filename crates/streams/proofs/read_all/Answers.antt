-- What a read puts behind the bytes at the buffer's start is what the reader gave next.
use Rattle.std.proofs.Common.{◌≡◌, ℕ, ◌+◌, ◌-◌, ◌≤◌, List, ◌++◌, rules, length, take, sym, ap, ◌∙◌, subst, length-take-le}
use Rattle.std.specs.Io.KnownBytes.{Consumes}
use Rattle.std.proofs.KnownBytes.{Consumes-trans}
use borrow.Rule.Slice.PartMut.{put_mid, post_of}
use lib.Seq.{take-append-add, take-append-le}
use Rattle.streams.proofs.read_all.Goals as goal

-- with ys in place of k elements from a on, the first a + n are the first a and n of ys
front_grows : (a k n : ℕ) (xs ys : List ℕ) → a ≤ length xs → n ≤ length ys → take a xs ++ take n ys ≡ take (a + n) (put_mid a k xs ys)
front_grows a k n xs ys within fits =
    let front = take a xs in
    let rest = ys ++ post_of a k xs in
    sym (ap (λ m. take (m + n) (front ++ rest)) (sym (length-take-le a xs within)) ∙ take-append-add front rest n ∙ ap (λ l. front ++ l) (take-append-le n ys (post_of a k xs) fits))

pub loop-count-preserved : goal.loop-count-preserved
loop-count-preserved g c =
    let grown = front_grows c.loop-count.count (length c.loop-count.buffer - c.loop-count.count) c.in-Ok.more c.loop-count.buffer c.read.new.buf c.loop-count.invariant.0 c.in-Ok.ensures.bound.0 in
    (search rules, subst (Consumes _ _) grown (Consumes-trans _ _ _ _ _ c.loop-count.invariant.1 c.in-Ok.ensures.bytes.0))
