use Rattle.std.proofs.Common.{◌≡◌, length, Ok, refl, ap, ◌∙◌, subst}
use Rattle.std.proofs.lemmas.List.{with_items_is}
use Rattle.std.specs.Vec.{with_items}
use Rattle.store.specs.Decisions.{Follows}
use Rattle.store.specs.Model.{seen}
use Rattle.store.specs.Naming.{named}
use Rattle.store.specs.Reading.{read_rule, words_of_found}
use Rattle.store.specs.Runs.{capped}
use Rattle.store.proofs.stores.Store.step_read.Goals as goal

pub returns-in-Ok : goal.returns-in-Ok
returns-in-Ok g c =
    let m = seen g.D.Device c.args.self.now in
    let name = c.args.object in
    let offset = c.args.offset in
    let long : length c.as_mut_slice.result.now ≡ capped c.args.length = c.as_mut_slice.ensures.len ∙ c.in_ok-words.ensures.len ∙ c.min-n.ensures in
    let read = c.in-Ok.ensures in
    let words = c.in_ok-words.words in
    let buffer = c.read.new.buffer in
    let kept : length buffer ≡ words.len = c.read.auto.buffer ∙ c.as_mut_slice.ensures.len in
    record {
      result = Ok tt;
      follows = subst (λ n. Follows (read_rule name offset n m) m (Ok tt) (seen g.D.Device c.read.new.self)) long read.rule;
      shown = (with_items words buffer, refl, with_items_is words buffer kept ∙ read.buffer ∙ ap (λ n. words_of_found m.blocks offset n (named m.blocks name)) long);
    }
