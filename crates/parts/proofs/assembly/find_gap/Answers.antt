use Rattle.std.proofs.Common.{◌≡◌, suc, ◌+◌, ◌-◌, ◌*◌, min, length, get_or, Some, sym, refl, ap, ◌∙◌, arith}
use Rattle.parts.specs.Parts.{begins, part_size}
use Rattle.parts.proofs.Gaps.{no_part, places_small, places_one, places_next, begins_next, begins_before, gap_many, gap_here, gap_step, gap_missing, gap_none}
use Rattle.parts.proofs.assembly.find_gap.Goals as goal

pub loop-j-init : goal.loop-j-init
unfolding begins
loop-j-init c = (omega arith, refl, sym places_one, refl)

pub returns-then-j-k : goal.returns-then-j-k
returns-then-j-k c =
    let o = c.loop-j.invariant in
    let last : c.loop-j.j ≡ suc c.args.k = omega (arith, o.0) in
    ap Some o.1 ∙ sym (o.3 ∙ gap_many c.args.k c.loop-j.j c.args.parts.now no_part c.loop-j-test.true last)

pub overflow_sub-size : goal.overflow_sub-size
overflow_sub-size c =
    let e = c.loop-j.invariant.1 in
    let q = c.loop-j.invariant.2 in
    let h = begins_before c.loop-j.j in
    omega arith

pub returns-then-part-size : goal.returns-then-part-size
unfolding part_size
returns-then-part-size c =
    let o = c.loop-j.invariant in
    let size : c.loop-j.end - c.loop-j.begin ≡ part_size c.loop-j.j = (λ i. o.2 i - o.1 i) in
    let here = gap_here c.args.k c.loop-j.j c.args.parts.now no_part c.loop-j-test.true c.if-j-k.false (rw size at c.if-part-size.true) in
    let sum : c.loop-j.begin + c.min.result ≡ begins c.loop-j.j + min (length (get_or c.args.parts.now c.loop-j.j no_part).now) (part_size c.loop-j.j) =
    (λ i. o.1 i + (rw size at c.min.ensures) i) in
    ap Some sum ∙ sym (o.3 ∙ here)

pub overflow_mul-end : goal.overflow_mul-end
overflow_mul-end c =
    let q = c.loop-j.invariant.2 in
    let h = places_small c.loop-j.j (omega arith) in
    omega arith

pub loop-j-preserved : goal.loop-j-preserved
unfolding part_size
loop-j-preserved c =
    let o = c.loop-j.invariant in
    let size : c.loop-j.end - c.loop-j.begin ≡ part_size c.loop-j.j = (λ i. o.2 i - o.1 i) in (
      omega arith,
      o.2 ∙ sym (begins_next c.loop-j.j),
      ap (λ n. 4 * n) o.2 ∙ sym (places_next c.loop-j.j),
      o.3 ∙ gap_step c.args.k c.loop-j.j c.args.parts.now no_part c.loop-j-test.true c.if-j-k.false (rw size at c.if-part-size.false),
    )

pub returns-then-parts-k : goal.returns-then-parts-k
returns-then-parts-k c =
    let o = c.loop-j.invariant in
    ap Some o.1 ∙ sym (o.3 ∙ gap_missing c.args.k c.loop-j.j c.args.parts.now (omega arith) (omega arith))

pub returns-else-parts-k : goal.returns-else-parts-k
returns-else-parts-k c =
    let o = c.loop-j.invariant in
    sym (o.3 ∙ gap_none c.args.k c.loop-j.j c.args.parts.now (omega arith) (omega arith))
