-- A read puts what the input loses after what the buffer has from before; one that fails, or gives nothing, leaves both as they were.
use Rattle.std.proofs.Common.{rules, ◌≡◌, ℕ, ◌+◌, ◌-◌, ◌≤◌, List, ◌++◌, length, take, sym, ap, ◌∙◌, subst, le_refl, drop_at, length-take-le, drop}
use Rattle.std.proofs.lemmas.Slice.{take-put_mid_below}
use Rattle.std.specs.declared.option.Option.{Option}
use Rattle.std.specs.Io.KnownBytes.{Consumes}
use Rattle.std.proofs.KnownBytes.{Consumes-trans, Consumes-kept, Consumes-nil}
use borrow.Rule.Slice.PartMut.{put_mid, post_of}
use lib.Seq.{take-add, take-append-le}
use Rattle.inputs.proofs.read_full.Goals as goal

-- what was in front of a written part, and the first n elements of that part, stand one after the other
take-put_mid_on : (a k n : ℕ) (xs ys : List ℕ) → a ≤ length xs → n ≤ length ys → take a xs ++ take n ys ≡ take (a + n) (put_mid a k xs ys)
take-put_mid_on a k n xs ys within fits =
    let after = post_of a k xs in
    let front : take a (put_mid a k xs ys) ≡ take a xs = take-put_mid_below _ _ _ _ _ (le_refl _) within in
    let rest : take n (drop a (put_mid a k xs ys)) ≡ take n ys =
    ap (take n) (drop_at (take a xs) (ys ++ after) a (length-take-le a xs within)) ∙ take-append-le n ys after fits in
    ap (λ l. l ++ take n ys) (sym front) ∙ ap (λ l. take a (put_mid a k xs ys) ++ l) (sym rest) ∙ sym (take-add a n (put_mid a k xs ys))

-- the same count, worked out otherwise
counted : (known left : Option (List ℕ)) (b : List ℕ) (m n : ℕ) → Consumes known left (take m b) → m ≡ n → Consumes known left (take n b)
counted known left b m n p e = subst (λ k. Consumes known left (take k b)) e p

pub loop-done-init : goal.loop-done-init
loop-done-init g c = (search rules, Consumes-nil _)

pub loop-done-preserved : goal.loop-done-preserved
loop-done-preserved g c =
    let read = take-put_mid_on c.loop-done.done (length c.loop-done.b - c.loop-done.done) c.in-Ok.n c.loop-done.b c.read.new.buf
    c.loop-done.invariant.0 c.in-Ok.ensures.bound.0 in
    let read_on = subst (Consumes _ _) read (Consumes-trans _ _ _ _ _ c.loop-done.invariant.1 c.in-Ok.ensures.bytes.0) in
    (search rules, counted _ _ _ _ _ read_on (search rules))

pub returns-in-Err-clause-bytes : goal.returns-in-Err-clause-bytes
returns-in-Err-clause-bytes g c =
    subst (Consumes _ _) (sym (take-put_mid_below _ _ _ _ _ (le_refl _) c.loop-done.invariant.0))
    (Consumes-kept _ _ _ _ c.loop-done.invariant.1 c.in-Err.ensures.bytes)

pub returns-after-loop-done-clause-bytes : goal.returns-after-loop-done-clause-bytes
returns-after-loop-done-clause-bytes g c = c.loop-done.invariant.1

pub returns-in-Ok-eq0-clause-bytes : goal.returns-in-Ok-eq0-clause-bytes
returns-in-Ok-eq0-clause-bytes g c =
    let read = take-put_mid_on c.loop-done.done (length c.loop-done.b - c.loop-done.done) c.in-Ok-eq0.field-0 c.loop-done.b c.read.new.buf
    c.loop-done.invariant.0 c.in-Ok-eq0.ensures.bound.0 in
    let none : c.loop-done.done + c.in-Ok-eq0.field-0 ≡ c.loop-done.done = search rules in
    let same = ap (λ n. take n (put_mid c.loop-done.done (length c.loop-done.b - c.loop-done.done) c.loop-done.b c.read.new.buf)) none in
    subst (Consumes _ _) (read ∙ same) (Consumes-trans _ _ _ _ _ c.loop-done.invariant.1 c.in-Ok-eq0.ensures.bytes.0)
