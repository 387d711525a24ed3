use Rattle.std.proofs.Common.{◌≡◌, true, false, length, get_or, replicate, Some, None, Ok, sym, ap, ◌∙◌, arith}
use Rattle.lookup.specs.Reading.{position_words, word_shown, unreadable_in, words_unless}
use Rattle.lookup.proofs.ReadingOn.{asked, passed, words_are, put_on, stopped, none_stops, all_read}
use Rattle.lookup.proofs.words.read_words.Goals as goal

pub returns-in_default : goal.returns-in_default
returns-in_default g c =
    let d = g.D.Device in
    let blocks = d.blocks c.args.device.now in
    let addresses = c.args.addresses.now in
    let n = length c.args.buffer.now in
    let p = c.loop-p.p in
    let is : d.lit c.args.device.now ≡ true → unreadable_in blocks addresses c.args.offset n ≡ Some (get_or addresses p 0) =
    λ on.
    let read = c.in_ok-words.ensures on in
    let none : position_words blocks (get_or addresses p 0) ≡ None = cc (read, c.in_default.is) in
    let has = asked blocks addresses c.args.offset n p c.loop-p.buffer true c.loop-p.auto.buffer c.if-not-has_word.ensures in
    stopped blocks addresses c.args.offset n p c.loop-p-test.true has none (c.loop-p.invariant on).1 in
    record {
      value = λ on. ap Ok (sym (is on));
      after = λ on within. (c.fill.ensures.after (λ y is. is)) ∙ ap (λ m. replicate m 0) c.loop-p.auto.buffer
          ∙ sym (ap (λ o. words_unless o blocks addresses c.args.offset n) (is on));
    }

pub loop-p-preserved : goal.loop-p-preserved
loop-p-preserved g c on =
    let d = g.D.Device in
    let blocks = d.blocks c.args.device.now in
    let addresses = c.args.addresses.now in
    let n = length c.args.buffer.now in
    let p = c.loop-p.p in
    let words = c.in-Some.words in
    let read = c.in_ok-words.ensures on in
    let is : position_words blocks (get_or addresses p 0) ≡ Some words = cc (read, c.in-Some.is) in
    let far = c.loop-p.invariant on in
    put_on blocks addresses c.args.offset n p words c.put_position.new.buffer is
    (c.put_position.ensures (word_shown blocks addresses) (words_are blocks addresses c.args.offset n p words is) far.0) far.1

pub returns : goal.returns
returns g c =
    let d = g.D.Device in
    let blocks = d.blocks c.args.device.now in
    let addresses = c.args.addresses.now in
    let n = length c.args.buffer.now in
    let offset = c.args.offset in
    let none : d.lit c.args.device.now ≡ true → unreadable_in blocks addresses offset n ≡ None =
    λ on. none_stops blocks addresses offset n (λ q h. (c.loop-p.invariant on).1 q (omega arith)) in
    record {
      value = λ on. ap Ok (sym (none on));
      after = λ on within.
          all_read blocks addresses offset n c.loop-p.buffer c.loop-p.auto.buffer within (λ i h k. (c.loop-p.invariant on).0 i h (omega arith))
          ∙ sym (ap (λ o. words_unless o blocks addresses offset n) (none on));
    }

pub loop-p-preserved-then-not-has_word : goal.loop-p-preserved-then-not-has_word
loop-p-preserved-then-not-has_word g c on =
    let blocks = g.D.Device.blocks c.args.device.now in
    let addresses = c.args.addresses.now in
    let n = length c.args.buffer.now in
    let p = c.loop-p.p in
    let none = asked blocks addresses c.args.offset n p c.loop-p.buffer false c.loop-p.auto.buffer c.if-not-has_word.ensures in
    passed blocks addresses c.args.offset n p c.loop-p.buffer c.loop-p.auto.buffer none (c.loop-p.invariant on)
