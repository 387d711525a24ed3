-- The rule of read.
--   in_object    the words lie within an object
--   all_shown    accepted if every position can be read, else refused with the address of the first that cannot
--   read_rule
--   buffer_after the buffer by the answer: the words; zeros where a block cannot be read; else as it was
use Rattle.std.specs.Prelude.{ℕ, ◌+◌, Bool, not, List, [], length, replicate, Some, None, Ok, Err, Option, Result, nat_le}
use Rattle.device.specs.Blocks.{Block}
use Rattle.lookup.specs.Reading.{words_shown, unreadable_in}
use Rattle.object.specs.declared.root.Root.{Root as RootOf}
use Rattle.store.specs.Admission.{admitted}
use Rattle.store.specs.Decisions.{Decision, decide, unless}
use Rattle.store.specs.Model.{Model}
use Rattle.store.specs.Naming.{named}
use Rattle.store.specs.Transactions.{is_index}
use Rattle.store.specs.declared.name.Name.{Name}
use Rattle.store.specs.declared.phase.Asked.TheVariants as asked
use Rattle.store.specs.declared.refusals.Refusal.{Refusal}
use Rattle.store.specs.declared.refusals.Refusal.TheVariants as refusal

abbrev pub in_object : ℕ → ℕ → Bool
in_object offset n = nat_le (offset + n) 16384

abbrev pub all_shown : Option ℕ → Result (Unit {0}) Refusal
all_shown None = Ok tt
all_shown (Some a) = Err (refusal.Unreadable a)

abbrev pub read_rule : Name → ℕ → ℕ → Model → Decision (Unit {0})
read_rule name offset n m =
    decide (admitted m.phase asked.Up) (λ _.
    decide (named m.blocks name) (λ object.
    unless (is_index object.kind) refusal.WrongKind
    (unless (not (in_object offset n)) refusal.Range
    (decide (all_shown (unreadable_in m.blocks object.blocks offset n)) (λ _.
    Decision.go [] tt m.phase m.rows)))))

-- the words of the object that a name names
abbrev pub words_of_found : List Block → ℕ → ℕ → Result RootOf Refusal → List ℕ
words_of_found blocks offset n (Ok object) = words_shown blocks object.blocks offset n
words_of_found blocks offset n (Err why) = []

-- of the refusals, only an unreadable block touches the buffer
abbrev pub buffer_refused : ℕ → List ℕ → Refusal → List ℕ
buffer_refused n old refusal.Down = old
buffer_refused n old refusal.Size = old
buffer_refused n old (refusal.TooMuchLost a) = old
buffer_refused n old (refusal.IllFormed a) = old
buffer_refused n old (refusal.DoubleClaim a) = old
buffer_refused n old refusal.NoRootIndex = old
buffer_refused n old refusal.NoSuchObject = old
buffer_refused n old refusal.WrongKind = old
buffer_refused n old refusal.Range = old
buffer_refused n old refusal.Busy = old
buffer_refused n old refusal.NoSuchTransaction = old
buffer_refused n old refusal.Full = old
buffer_refused n old (refusal.Unreadable a) = replicate n 0
buffer_refused n old refusal.WorkListFull = old
buffer_refused n old refusal.TagZero = old

abbrev pub buffer_after : Name → ℕ → Model → List ℕ → Result (Unit {0}) Refusal → List ℕ
buffer_after name offset m old (Ok _) = words_of_found m.blocks offset (length old) (named m.blocks name)
buffer_after name offset m old (Err why) = buffer_refused (length old) old why
