use Rattle.std.proofs.Common.{◌≡◌, ◌+◌, ◌*◌, ◌<◌, cond, length, get_or, Some, None, sym, refl, ap, ◌∙◌, ap₂, arith}
use Rattle.std.proofs.lemmas.List.{take_all}
use Rattle.std.proofs.lemmas.Option.{cond_some}
use Rattle.map.specs.declared.entry.Entry.TheVariants.{Map}
use Rattle.journal.specs.Marking.{intends, intended}
use Rattle.journal.specs.Rules.{any_at}
use Rattle.journal.proofs.EachAt.{partly, partly_next, partly_set, partly_all, any_yes, any_no}
use Rattle.journal.proofs.Intending.{unintended, no_intention}
use Rattle.journal.proofs.mark.Marking.mark_map.Goals as goal
use Rattle.journal.proofs.mark.Marking.mark_map.Goals.{in-Some, in_default}

pub loop-s-init : goal.loop-s-init
unfolding partly any_at
loop-s-init c = (refl, refl)

pub loop-s-preserved : goal.loop-s-preserved
loop-s-preserved c =
    let f = intended c.args.self.now.owner c.args.self.now.rows in
    let t = intends c.args.self.now.owner c.args.self.now.rows in
    let start = c.args.entries.now in
    let now = c.loop-s.entries in
    let s = c.loop-s.s in
    let a = 32 * c.args.cylinder in
    let old = get_or start s Map in
    let within : s < length start = omega (arith, c.told-entries) in
    let same : get_or now s Map ≡ old = ap (λ es. get_or es s Map) c.loop-s.invariant.0 ∙ partly_next f a s start in
    let is : c.mark_entry.result ≡ cond (t (a + s) old) (Some (f (a + s) old)) None =
    c.mark_entry.ensures ∙ ap₂ (λ b e. cond (t b e) (Some (f b e)) None) c.join.ensures same in
    elim c.match-mark_entry.branch [
      | in-Some w ↦
          let there = cond_some (t (a + s) old) (f (a + s) old) w.in-Some.marked (sym is ∙ w.in-Some.is) in (
            w.entries-is ∙ partly_set f a s now start w.in-Some.marked c.loop-s.invariant.0 (sym there.1),
            w.any-is ∙ sym (any_yes t a s start within there.0),
          )
      | in_default w ↦
          let none = no_intention (t (a + s) old) (f (a + s) old) (sym is ∙ w.in_default.is) in (
            w.entries-is ∙ partly_set f a s now start (get_or now s Map) c.loop-s.invariant.0 (same ∙ sym (unintended c.args.self.now.owner c.args.self.now.rows (a + s) old none)),
            w.any-is ∙ c.loop-s.invariant.1 ∙ sym (any_no t a s start within none),
          )
    ]

pub returns : goal.returns
returns c =
    let f = intended c.args.self.now.owner c.args.self.now.rows in
    let start = c.args.entries.now in
    let s = c.loop-s.s in
    let a = 32 * c.args.cylinder in
    record {
      value = c.loop-s.invariant.1 ∙ ap (any_at (intends c.args.self.now.owner c.args.self.now.rows) a) (take_all s start (omega (arith, c.told-entries)));
      after = c.loop-s.invariant.0 ∙ partly_all f a s start (omega (arith, c.told-entries));
    }
