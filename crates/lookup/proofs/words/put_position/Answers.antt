use Rattle.std.proofs.Common.{◌≡◌, ◌+◌, ◌-◌, ◌*◌, set, sym, ap, ◌∙◌, subst, arith}
use Rattle.lookup.specs.Reading.{Filled}
use Rattle.lookup.proofs.Filling.{filled_to, filled_put}
use Rattle.lookup.proofs.words.put_position.Goals as goal
use Rattle.lookup.proofs.words.put_position.Goals.{then-k-offset+then-k-offset-2, else-k-offset, else-k-offset-via-then-k-offset+else-k-offset-2, else-k-offset-via-else-k-offset}

pub loop-i-init : goal.loop-i-init
loop-i-init c f is = filled_to f c.args.offset c.args.buffer.now (256 * c.args.p) (256 * c.args.p + 0) (λ i h k. omega arith)

pub loop-i-preserved : goal.loop-i-preserved
loop-i-preserved c f is was =
    let offset = c.args.offset in
    let words = c.args.words.now in
    let i = c.loop-i.i in
    let k = 256 * c.args.p + i in
    let old = c.loop-i.buffer in
    let below : Filled f offset k old = c.loop-i.invariant f is was in
    let next : Filled f offset (k + 1) c.if-k-offset.buffer =
    elim c.if-k-offset.branch [
      | then-k-offset+then-k-offset-2 w ↦
          let put : set old (k - offset) (f k) ≡ c.if-k-offset.buffer = ap (set old (k - offset)) (sym (is i c.loop-i-test.true)) ∙ sym w.buffer-is in
          subst (Filled f offset (k + 1)) put (filled_put f offset old k (k - offset) (omega arith) (omega arith) below)
      | else-k-offset w ↦
          subst (Filled f offset (k + 1)) (sym w.buffer-is)
          (filled_to f offset old k (k + 1)
          (λ j h l. elim w.else-k-offset.branch [ else-k-offset-via-then-k-offset+else-k-offset-2 w' ↦ omega arith | else-k-offset-via-else-k-offset w' ↦ omega arith ])
          below)
    ]
    in
    filled_to f offset c.if-k-offset.buffer (k + 1) (256 * c.args.p + (i + 1)) (λ j h l. omega arith) next

pub returns : goal.returns
returns c f is was =
    filled_to f c.args.offset c.loop-i.buffer (256 * c.args.p + c.loop-i.i) (256 * c.args.p + 256) (λ j h l. omega arith) (c.loop-i.invariant f is was)
