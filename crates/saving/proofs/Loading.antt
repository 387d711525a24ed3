-- A read of a lit device that is not done finds an unreadable block.
use Rattle.std.specs.Result.{result_ok}
use Rattle.std.proofs.Common.{◌≡◌, ℕ, Bool, true, List, Ok, Err, Result, None, sym, ◌∙◌, arith}
use Rattle.std.proofs.lemmas.Bool.{true≢false}
use Rattle.std.proofs.lemmas.List.{get_or_past}
use Rattle.device.specs.Blocks.{Block, block_at, Reads}
use Rattle.device.specs.declared.answers.ReadError.{ReadError}
use Rattle.device.specs.declared.answers.ReadError.TheVariants as reading

pub unread : (blocks : List Block) (lit : Bool) (b : ℕ) (r : Result (Unit {0}) ReadError) (old new : List ℕ) → lit ≡ true → result_ok r ≡ None → Reads blocks lit b r old new → block_at blocks b ≡ Block.unreadable
unread blocks lit b (Ok x) old new on none s = absurd (true≢false cc)
unread blocks lit b (Err reading.Outside) old new on none s = get_or_past blocks b Block.unreadable s.0
unread blocks lit b (Err reading.Dark) old new on none s = absurd (true≢false (sym on ∙ s.1))
unread blocks lit b (Err reading.Unreadable) old new on none s = s.2
